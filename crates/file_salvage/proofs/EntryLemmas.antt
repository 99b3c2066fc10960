-- The entries that are taken, and the lines of those that aren't.
use Rattle.std.proofs.Common.{◌≡◌, ℕ, zero, suc, ◌+◌, ◌<◌, ◌≤◌, Bool, true, false, not, List, [], ◌∷◌, ◌++◌, map, length, slice_index, slice_index_or, Option, None, Some, is_some, cond, flat_map, refl, sym, ap, subst, ◌∙◌, arith, append_assoc, append-nil}
use Rattle.std.specs.List.{range_with_len}
use Rattle.std.proofs.lemmas.List.FromFn.{get_or-map-range_with_len, length-map-range_with_len, map-range_with_len_more}
use Rattle.geos_model.specs.Document.{Block}
use Rattle.file_format.specs.File.{block_of, blocks_of_entries, prepended}
use Rattle.file_format.specs.declared.file.Entry.{Entry}
use Rattle.document_dump.specs.Entries.{HasBlocks}
use Rattle.file_salvage.specs.Entries.{damage_at, damages, entry_at, entry_beside, entry_count, fits_row, free_at, free_below, free_beside, free_numbers, free_unsummed, frees_beside, image_flaw, is_right, note_at, notes, taken_at, taken_entries, whole_row, without_sum}
use Rattle.file_salvage.specs.Rows.{IsRow, longest_row}
use Rattle.file_salvage.specs.declared.flaw.Flaw.{Flaw}
use Rattle.file_salvage.specs.declared.flaw.Flaw.TheVariants as flaws
use Rattle.file_salvage.proofs.RowLemmas.{is_row}

-- one more number at the end of a range
flat_more : {X : Type 0} (f : ℕ → List X) (a n : ℕ) → flat_map f (range_with_len a (suc n)) ≡ flat_map f (range_with_len a n) ++ f (a + n)
flat_more {X} f a zero = let at : a ≡ a + 0 = omega arith in append-nil (f a) ∙ ap f at
flat_more {X} f a (suc n) =
    let at : a + 1 + n ≡ a + suc n = omega arith in
    ap (λ (r : List X). f a ++ r) (flat_more f (a + 1) n ∙ ap (λ (k : ℕ). flat_map f (range_with_len (a + 1) n) ++ f k) at)
    ∙ sym (append_assoc (f a) (flat_map f (range_with_len (a + 1) n)) (f (a + suc n)))

-- one more step of a list by places
pub places_more : {X : Type 0} (f : ℕ → X) (i : ℕ) → map f (range_with_len 0 (i + 1)) ≡ map f (range_with_len 0 i) ++ f i ∷ []
places_more f i = map-range_with_len_more f 0 i i (omega arith)

module _ (bytes : List ℕ) (damages : List (Option Flaw)) (row : List ℕ) where
  pub notes_none : notes bytes damages row 0 ≡ []
  unfolding notes
  notes_none = refl

  notes_suc : (i : ℕ) → notes bytes damages row (suc i) ≡ notes bytes damages row i ++ note_at bytes damages row i
  unfolding notes
  notes_suc i =
      let f : ℕ → List ℕ = note_at bytes damages row in
      let at : 0 + i ≡ i = omega arith in
      flat_more f 0 i ∙ ap (λ (k : ℕ). flat_map f (range_with_len 0 i) ++ f k) at

  pub notes_more : (i : ℕ) → notes bytes damages row (i + 1) ≡ notes bytes damages row i ++ note_at bytes damages row i
  notes_more i = let next : i + 1 ≡ suc i = omega arith in ap (notes bytes damages row) next ∙ notes_suc i

-- Each entry that is taken has its block: it is whole, or its sum isn't asked for.

abbrev pub Numbered : Type 0
Numbered = ℕ × Block

has_both : (first : Option Numbered) (others : Option (List Numbered)) → is_some first ≡ true → is_some others ≡ true → is_some (prepended first others) ≡ true
has_both None others a b = absurd (cc a)
has_both (Some x) None a b = absurd (cc b)
has_both (Some x) (Some xs) a b = refl

-- why an entry isn't whole, by whether its text is right and it has its block
abbrev pub damage_by : Bool → Bool → Flaw → Option Flaw
damage_by right has flaw = cond (not right) (Some flaws.Entry) (cond (not has) (Some flaw) None)

pub undamaged : (right has : Bool) (flaw : Flaw) → damage_by right has flaw ≡ None → has ≡ true
undamaged false has flaw none = absurd (cc none)
undamaged true false flaw none = absurd (cc none)
undamaged true true flaw none = refl

unsummed_alone : (right has image : Bool) → damage_by right has (cond image flaws.Sum flaws.Image) ≡ Some flaws.Sum → image ≡ true
unsummed_alone false has image is = absurd (cc is)
unsummed_alone true true image is = absurd (cc is)
unsummed_alone true false false is = absurd (cc is)
unsummed_alone true false true is = refl

-- an entry that counts handles as free has a block, with its sum or without
has_image : (file : List ℕ) (i : ℕ) (e : Entry) (right : Bool) (damage : Option Flaw) → damage ≡ damage_by right (is_some (block_of file e)) (image_flaw file e) → 1 ≤ free_unsummed i e damage
    → is_some (block_of file (entry_beside e damage)) ≡ true
has_image file i e right None is free = undamaged right (is_some (block_of file e)) (image_flaw file e) (sym is)
has_image file i e right (Some flaws.Sum) is free = unsummed_alone right (is_some (block_of file e)) (is_some (block_of file (without_sum e))) (sym is)
has_image file i e right (Some flaws.Entry) is free = absurd (omega (arith, free))
has_image file i e right (Some flaws.Image) is free = absurd (omega (arith, free))
has_image file i e right (Some flaws.Order) is free = absurd (omega (arith, free))
has_image file i e right (Some flaws.Taken) is free = absurd (omega (arith, free))

-- a whole entry is one whose image can be read
free_too : (i : ℕ) (e : Entry) (damage : Option Flaw) → 1 ≤ free_below i e damage → 1 ≤ free_unsummed i e damage
free_too i e None free = free
free_too i e (Some flaw) free = absurd (omega (arith, free))

pub free_first : (fit : Bool) (n : ℕ) → 1 ≤ cond fit n 0 → 1 ≤ n
free_first true n free = free
free_first false n free = absurd (omega (arith, free))

-- why an entry hasn't its block, if its text is right
pub flawed : (file : List ℕ) (version : ℕ) (bytes : List ℕ) (i : ℕ) (flaw : Flaw) → is_right version (length file) bytes i ≡ true → is_some (block_of file (entry_at bytes i)) ≡ false
    → flaw ≡ image_flaw file (entry_at bytes i) → Some flaw ≡ damage_at file version bytes i
flawed file version bytes i flaw right hasnt is =
    let found : Flaw = image_flaw file (entry_at bytes i) in
    ap (λ (f : Flaw). Some f) is
    ∙ sym (ap (λ (b : Bool). cond (not b) (Some flaws.Entry) (cond (not (is_some (block_of file (entry_at bytes i)))) (Some found) None)) right
    ∙ ap (λ (b : Bool). cond (not b) (Some found) None) hasnt)

module _ (bytes : List ℕ) (damages : List (Option Flaw)) where
  pub frees_count : length (free_numbers bytes damages) ≡ length damages
  frees_count = length-map-range_with_len (free_at bytes damages) 0 (length damages)

  pub frees_beside_count : (numbers row : List ℕ) → length (frees_beside bytes damages numbers row) ≡ length damages
  frees_beside_count numbers row = length-map-range_with_len (free_beside bytes damages numbers row) 0 (length damages)

module _ (file : List ℕ) (version : ℕ) (bytes : List ℕ) where
  abbrev pub found : List (Option Flaw)
  found = damages file version bytes

  pub damages_count : length (damages file version bytes) ≡ entry_count bytes
  damages_count = length-map-range_with_len (damage_at file version bytes) 0 (entry_count bytes)

  -- the image of an entry can be read
  abbrev pub IsImage : ℕ → Type 0
  IsImage i = 1 ≤ free_unsummed i (entry_at bytes i) (slice_index_or found i None)

  pub image : (i : ℕ) → i < entry_count bytes → IsImage i → is_some (block_of file (taken_at bytes found i)) ≡ true
  image i below free =
      let at : 0 + i ≡ i = omega arith in
      let is : slice_index_or found i None ≡ damage_at file version bytes i = get_or-map-range_with_len (damage_at file version bytes) 0 (entry_count bytes) i i None below at in
      has_image file i (entry_at bytes i) (is_right version (length file) bytes i) (slice_index_or found i None) is free

  pub whole_image : (i : ℕ) → i < entry_count bytes → 1 ≤ slice_index (free_numbers bytes found) i → IsImage i
  whole_image i below some =
      let at : 0 + i ≡ i = omega arith in
      let count = damages_count in
      let free : slice_index (free_numbers bytes found) i ≡ free_at bytes found i = get_or-map-range_with_len (free_at bytes found) 0 (length found) i i 0 (omega (arith, below, count)) at in
      free_too i (entry_at bytes i) (slice_index_or found i None) (subst (λ (x : ℕ). 1 ≤ x) free some)

  pub image_beside : (numbers row : List ℕ) (i : ℕ) → i < entry_count bytes → 1 ≤ slice_index (frees_beside bytes found numbers row) i → IsImage i
  image_beside numbers row i below some =
      let at : 0 + i ≡ i = omega arith in
      let count = damages_count in
      let n : ℕ = free_unsummed i (entry_at bytes i) (slice_index_or found i None) in
      let free : slice_index (frees_beside bytes found numbers row) i ≡ free_beside bytes found numbers row i = get_or-map-range_with_len (free_beside bytes found numbers row) 0 (length found) i i 0 (omega (arith, below, count)) at in
      free_first (fits_row numbers row i n) n (subst (λ (x : ℕ). 1 ≤ x) free some)

  row_has : (numbers : List ℕ) (n most : ℕ) (row : List ℕ) → ((i : ℕ) → i < entry_count bytes → 1 ≤ slice_index numbers i → IsImage i) → n ≤ entry_count bytes → IsRow numbers n most row
      → HasBlocks file (map (taken_at bytes found) row)
  row_has numbers n most [] images few is = refl
  row_has numbers n most (i ∷ row) images few is =
      has_both (block_of file (taken_at bytes found i)) (blocks_of_entries file (map (taken_at bytes found) row)) (image i (omega (arith, few, is.0)) (images i (omega (arith, few, is.0)) is.1))
      (row_has numbers i (slice_index numbers i) row images (omega (arith, few, is.0)) is.3)

  longest_has : (numbers : List ℕ) → length numbers ≡ length found → ((i : ℕ) → i < entry_count bytes → 1 ≤ slice_index numbers i → IsImage i) → HasBlocks file (map (taken_at bytes found) (longest_row numbers))
  longest_has numbers count images =
      let all = damages_count in
      row_has numbers (length numbers) 65535 _ images (omega (arith, count, all)) (is_row numbers (length numbers) 65535)

  pub entries_have : (all : Bool) → HasBlocks file (taken_entries all bytes (damages file version bytes))
  entries_have false = longest_has (free_numbers bytes found) (frees_count bytes found) whole_image
  entries_have true =
      let numbers : List ℕ = free_numbers bytes found in
      let row : List ℕ = whole_row bytes found in
      longest_has (frees_beside bytes found numbers row) (frees_beside_count bytes found numbers row) (image_beside numbers row)

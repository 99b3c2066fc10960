-- What a salvage takes: what its law says of the entries that are taken, and of those that aren't.
use Rattle.std.proofs.Common.{All, ◌≡◌, ℕ, ◌+◌, ◌-◌, ◌<◌, ◌≤◌, ◌⊎◌, Bool, true, false, ◌&&◌, cond, List, Option, None, Some, is_some, nat_le, get_or, length, slice_index, slice_index_or, refl, sym, ap₂, subst, ◌∙◌, arith, inl, inr}
use Rattle.std.proofs.lemmas.Bool.{and_parts, cases_Bool, cond-true, leb-true}
use Rattle.std.proofs.lemmas.List.FromFn.{get_or-map-range_with_len}
use Rattle.file_format.specs.File.{block_of, greatest_handle, is_entry}
use Rattle.file_format.specs.declared.file.Entry.{Entry}
use Rattle.file_format.proofs.Files.{greatest_handle-most}
use Rattle.file_report.specs.Findings.{directory_version, entry_text_at, has_entry_zeros}
use Rattle.file_salvage.specs.Entries.{damage_at, damages, entry_at, entry_count, fits_row, free_among, free_at, free_below, free_numbers, free_unsummed, frees_beside, image_flaw, is_right, is_taken, taken_at, taken_row, whole_row}
use Rattle.file_salvage.specs.Laws.{can_be_taken, room_at, stand_together, taken_in}
use Rattle.file_salvage.specs.Rows.{longest_row}
use Rattle.file_salvage.specs.declared.flaw.Flaw.{Flaw}
use Rattle.file_salvage.specs.declared.flaw.Flaw.TheVariants as flaws
use Rattle.file_salvage.proofs.BesideLemmas.{InRow, among, fits_with, in_row, more_at, number_at, of_each, taken_or_apart, unfit, whole_kept}
use Rattle.file_salvage.proofs.EntryLemmas.{damage_by, damages_count, frees_beside_count, frees_count, image, image_beside, whole_image}
use Rattle.file_salvage.proofs.RowLemmas.{is_row}

-- The number of an entry is the room below its handle where it can be taken, and else 0.

whole_room : (i : ℕ) (e : Entry) (d : Option Flaw) → can_be_taken false d ≡ true → free_below i e d ≡ e.handle.0 - i
whole_room i e None can = refl
whole_room i e (Some flaws.Sum) can = absurd (cc can)
whole_room i e (Some flaws.Entry) can = absurd (cc can)
whole_room i e (Some flaws.Image) can = absurd (cc can)
whole_room i e (Some flaws.Order) can = absurd (cc can)
whole_room i e (Some flaws.Taken) can = absurd (cc can)

image_room : (i : ℕ) (e : Entry) (d : Option Flaw) → can_be_taken true d ≡ true → free_unsummed i e d ≡ e.handle.0 - i
image_room i e None can = refl
image_room i e (Some flaws.Sum) can = refl
image_room i e (Some flaws.Entry) can = absurd (cc can)
image_room i e (Some flaws.Image) can = absurd (cc can)
image_room i e (Some flaws.Order) can = absurd (cc can)
image_room i e (Some flaws.Taken) can = absurd (cc can)

sound_below : (i : ℕ) (e : Entry) (d : Option Flaw) → 1 ≤ free_below i e d → can_be_taken false d ≡ true
sound_below i e None some = refl
sound_below i e (Some flaw) some = absurd (omega (arith, some))

sound_unsummed : (i : ℕ) (e : Entry) (d : Option Flaw) → 1 ≤ free_unsummed i e d → can_be_taken true d ≡ true
sound_unsummed i e None some = refl
sound_unsummed i e (Some flaws.Sum) some = refl
sound_unsummed i e (Some flaws.Entry) some = absurd (omega (arith, some))
sound_unsummed i e (Some flaws.Image) some = absurd (omega (arith, some))
sound_unsummed i e (Some flaws.Order) some = absurd (omega (arith, some))
sound_unsummed i e (Some flaws.Taken) some = absurd (omega (arith, some))

-- the text of an entry that can be taken is right
right_text : (all right has : Bool) (flaw : Flaw) → can_be_taken all (damage_by right has flaw) ≡ true → right ≡ true
right_text all true has flaw can = refl
right_text all false has flaw can = absurd (cc can)

-- so its handle is one that there is
low_handle : (version file_length : ℕ) (bytes : List ℕ) (i : ℕ) → is_right version file_length bytes i ≡ true → room_at bytes i ≤ 65535
low_handle version file_length bytes i right =
    let e : Entry = entry_at bytes i in
    let h : ℕ = e.handle.0 in
    let entry : Bool = is_entry version file_length (directory_version bytes) e in
    let zeros : Bool = has_entry_zeros (directory_version bytes) (entry_text_at bytes i) in
    let is : entry ≡ true = (and_parts (nat_le 1 h) entry (and_parts (nat_le 1 h && entry) zeros right).0).1 in
    let first = (and_parts _ _ (and_parts _ _ (and_parts _ _ is).0).0).0 in
    let low : h ≤ greatest_handle (directory_version bytes) = leb-true h (greatest_handle (directory_version bytes)) first in
    let most = greatest_handle-most (directory_version bytes) in
    omega (arith, low, most)

module _ (file : List ℕ) (version : ℕ) (bytes : List ℕ) where
  abbrev found : List (Option Flaw)
  found = damages file version bytes

  abbrev numbers : List ℕ
  numbers = free_numbers bytes found

  abbrev row : List ℕ
  row = whole_row bytes found

  abbrev more : List ℕ
  more = frees_beside bytes found numbers row

  abbrev flaw_at : ℕ → Option Flaw
  flaw_at i = slice_index_or found i None

  found_at : (i : ℕ) → i < length found → flaw_at i ≡ damage_at file version bytes i
  found_at i below =
      let at : 0 + i ≡ i = omega arith in
      let count = damages_count file version bytes in
      get_or-map-range_with_len (damage_at file version bytes) 0 (entry_count bytes) i i None (omega (arith, below, count)) at

  low_room : (all : Bool) (i : ℕ) → can_be_taken all (damage_at file version bytes i) ≡ true → room_at bytes i ≤ 65535
  low_room all i can =
      low_handle version (length file) bytes i (right_text all (is_right version (length file) bytes i) (is_some (block_of file (entry_at bytes i))) (image_flaw file (entry_at bytes i)) can)

  -- Each that is taken has its block, and nothing is wrong with it but its sum, and that only where all are asked for.

  row_had : (ns : List ℕ) → length ns ≡ length found → ((i : ℕ) → i < entry_count bytes → 1 ≤ slice_index ns i → 1 ≤ free_unsummed i (entry_at bytes i) (slice_index_or found i None))
      → All (λ i. is_some (block_of file (taken_at bytes found i)) ≡ true) (longest_row ns)
  row_had ns count images = λ k d inside.
      let i : ℕ = get_or (longest_row ns) k d in
      let of : InRow ns (length ns) 65535 i = in_row ns (length ns) 65535 _ (is_row ns (length ns) 65535) k d inside in
      let all = damages_count file version bytes in
      let below : i < entry_count bytes = omega (arith, of.0, count, all) in
      image file version bytes i below (images i below of.1)

  pub taken_had : (all : Bool) → All (λ i. is_some (block_of file (taken_at bytes (damages file version bytes) i)) ≡ true) (taken_in all file version bytes)
  taken_had false = row_had numbers (frees_count bytes found) (whole_image file version bytes)
  taken_had true = row_had more (frees_beside_count bytes found numbers row) (image_beside file version bytes numbers row)

  whole_in : (i : ℕ) → InRow numbers (length numbers) 65535 i → (i < length found) × (1 ≤ free_at bytes found i)
  whole_in i of =
      let count = frees_count bytes found in
      let below : i < length found = omega (arith, of.0, count) in
      (below, subst (λ (n : ℕ). 1 ≤ n) (number_at bytes found i below) of.1)

  image_in : (i : ℕ) → InRow more (length more) 65535 i → (i < length found) × (1 ≤ free_unsummed i (entry_at bytes i) (flaw_at i)) × (slice_index more i ≡ free_unsummed i (entry_at bytes i) (flaw_at i))
  image_in i of =
      let count = frees_beside_count bytes found numbers row in
      let below : i < length found = omega (arith, of.0, count) in
      let m : ℕ = free_unsummed i (entry_at bytes i) (flaw_at i) in
      let is : slice_index more i ≡ free_among numbers row i m = more_at bytes found i below in
      let fit = among (fits_row numbers row i m) m (subst (λ (n : ℕ). 1 ≤ n) is of.1) in
      let same : slice_index more i ≡ m = is ∙ fit.1 in
      (below, subst (λ (n : ℕ). 1 ≤ n) same of.1, same)

  pub taken_sound : (all : Bool) → All (λ i. can_be_taken all (damage_at file version bytes i) ≡ true) (taken_in all file version bytes)
  taken_sound false = λ k d inside.
      let i : ℕ = get_or row k d in
      let of = whole_in i (in_row numbers (length numbers) 65535 row (is_row numbers (length numbers) 65535) k d inside) in
      subst (λ (f : Option Flaw). can_be_taken false f ≡ true) (found_at i of.0) (sound_below i (entry_at bytes i) (flaw_at i) of.1)
  taken_sound true = λ k d inside.
      let i : ℕ = get_or (longest_row more) k d in
      let of = image_in i (in_row more (length more) 65535 (longest_row more) (is_row more (length more) 65535) k d inside) in
      subst (λ (f : Option Flaw). can_be_taken true f ≡ true) (found_at i of.0) (sound_unsummed i (entry_at bytes i) (flaw_at i) of.1)

  -- Each is taken that can be, or stands apart from one that is.

  abbrev IsApart : Bool → ℕ → Type 0
  IsApart all i = (j : ℕ) × (is_taken j (taken_in all file version bytes) ≡ true) × (stand_together bytes i j ≡ false)

  apart_by : (ns : List ℕ) (i j m : ℕ) → m ≡ room_at bytes i → slice_index ns j ≡ room_at bytes j → fits_with ns i m j ≡ false → stand_together bytes i j ≡ false
  apart_by ns i j m here there wrong = ap₂ (λ (x y : ℕ). cond (nat_le j i) (nat_le y x) (nat_le x y)) (sym here) (sym there) ∙ wrong

  -- the numbers of those that are taken

  whole_number : (j : ℕ) → is_taken j row ≡ true → slice_index numbers j ≡ room_at bytes j
  whole_number j holds =
      let of = whole_in j (of_each (InRow numbers (length numbers) 65535) row (in_row numbers (length numbers) 65535 row (is_row numbers (length numbers) 65535)) j holds) in
      number_at bytes found j of.0 ∙ whole_room j (entry_at bytes j) (flaw_at j) (sound_below j (entry_at bytes j) (flaw_at j) of.1)

  image_number : (j : ℕ) → is_taken j (longest_row more) ≡ true → slice_index more j ≡ room_at bytes j
  image_number j holds =
      let of = image_in j (of_each (InRow more (length more) 65535) (longest_row more) (in_row more (length more) 65535 (longest_row more) (is_row more (length more) 65535)) j holds) in
      of.2 ∙ image_room j (entry_at bytes j) (flaw_at j) (sound_unsummed j (entry_at bytes j) (flaw_at j) of.1)

  whole_complete : (i : ℕ) → i < length found → can_be_taken false (damage_at file version bytes i) ≡ true → 1 ≤ room_at bytes i → (is_taken i row ≡ true) ⊎ IsApart false i
  whole_complete i below can some =
      let count = frees_count bytes found in
      let low = low_room false i can in
      let is : slice_index numbers i ≡ room_at bytes i = number_at bytes found i below ∙ whole_room i (entry_at bytes i) (flaw_at i) (subst (λ (f : Option Flaw). can_be_taken false f ≡ true) (sym (found_at i below)) can) in
      elim (taken_or_apart numbers i (omega (arith, below, count)) (omega (arith, is, some)) (omega (arith, is, low))) as (λ _. (is_taken i row ≡ true) ⊎ IsApart false i) [
        | inl holds ↦ inl holds
        | inr other ↦ inr (other.0, other.1, apart_by numbers i other.0 (slice_index numbers i) is (whole_number other.0 other.1) other.2)
      ]

  image_complete : (i : ℕ) → i < length found → can_be_taken true (damage_at file version bytes i) ≡ true → 1 ≤ room_at bytes i → (is_taken i (longest_row more) ≡ true) ⊎ IsApart true i
  image_complete i below can some =
      let m : ℕ = free_unsummed i (entry_at bytes i) (flaw_at i) in
      let is : m ≡ room_at bytes i = image_room i (entry_at bytes i) (flaw_at i) (subst (λ (f : Option Flaw). can_be_taken true f ≡ true) (sym (found_at i below)) can) in
      elim (cases_Bool (fits_row numbers row i m)) as (λ _. (is_taken i (longest_row more) ≡ true) ⊎ IsApart true i) [
        | inl fit ↦
            let count = frees_beside_count bytes found numbers row in
            let low = low_room true i can in
            let now : slice_index more i ≡ room_at bytes i = more_at bytes found i below ∙ cond-true (fits_row numbers row i m) m 0 fit ∙ is in
            elim (taken_or_apart more i (omega (arith, below, count)) (omega (arith, now, some)) (omega (arith, now, low))) as (λ _. (is_taken i (longest_row more) ≡ true) ⊎ IsApart true i) [
              | inl holds ↦ inl holds
              | inr other ↦ inr (other.0, other.1, apart_by more i other.0 (slice_index more i) now (image_number other.0 other.1) other.2)
            ]
        | inr wrong ↦
            let other = unfit numbers row i m wrong in
            let kept = of_each (λ (j : ℕ). is_taken j (taken_row true bytes found) ≡ true) row (whole_kept bytes found) other.0 other.1 in
            inr (other.0, kept, apart_by numbers i other.0 m is (whole_number other.0 other.1) other.2)
      ]

  pub taken_complete : (all : Bool) (i : ℕ) → i < entry_count bytes → can_be_taken all (damage_at file version bytes i) ≡ true → 1 ≤ room_at bytes i
      → (is_taken i (taken_in all file version bytes) ≡ true) ⊎ IsApart all i
  taken_complete false i below can some = let count = damages_count file version bytes in whole_complete i (omega (arith, below, count)) can some
  taken_complete true i below can some = let count = damages_count file version bytes in image_complete i (omega (arith, below, count)) can some

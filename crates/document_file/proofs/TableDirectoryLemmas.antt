-- A table as a directory in the file.
use Rattle.std.proofs.Common.{◌≡◌, ◌⊎◌, ℕ, zero, suc, ◌+◌, ◌-◌, ◌<◌, ◌≤◌, ◌==◌, nat_lt, cond, Bool, true, false, List, [], ◌∷◌, ◌++◌, take, length, get_or, Option, None, Some, is_some, All, refl, sym, ap, subst, ◌∙◌, arith, inl, inr, eq-eqb, lt-ltb, length-take}
use Rattle.std.specs.Prelude.{IfSome, ◌||◌}
use Rattle.std.specs.List.{count_by, flat_map, list_all, list_any}
use Rattle.std.proofs.lemmas.Bool.{and_from, cond-true}
use Rattle.std.proofs.lemmas.List.{flat_map_more, get_or_past, take_more, append-nil}
use Rattle.std.proofs.lemmas.List.Sums.{sum_by-cons}
use Rattle.std.proofs.lemmas.List.Elements.{All-nil, All-cons, All-append}
use Rattle.vm_store.specs.Facts.{Holds}
use Rattle.file_format.specs.File.{bytes_in, directory_in, directory_text, entry_text, greatest_handle, is_version_in, page_limit, page_limit_of, longest_directory, is_in_file, is_rising, is_entry, is_map_block, is_directory}
use Rattle.file_format.specs.FileLaws.{FitTypes, FitSums}
use Rattle.file_format.specs.declared.file.Entry.{Entry}
use Rattle.file_format.proofs.Files.{is_directory-from, directory_in-text, entry_start-most, length-directory}
use Rattle.file_format.proofs.FileDocuments.{is_in_file-from, is_entry-from}
use Rattle.geos_model.specs.Document.{most_blocks, FitAttributes}
use Rattle.document_file.specs.Ranges.{IsPlaced, start_of, end_of}
use Rattle.document_file.specs.Slots.{block_extents, stored_extents}
use Rattle.document_file.specs.Documents.{entries_of, directory_of_table, AreImaged, IsStored}
use Rattle.document_file.specs.Sound.{IsPlace, ArePlaces, IsBlockTable, IsNextVersion}
use Rattle.document_file.specs.Sums.{AreSummed, has_sums, sum_for, version_for}
use Rattle.document_file.proofs.SumsLemmas.{sum_for-fits}
use Rattle.document_file.specs.declared.table.Place.{Place}
use Rattle.document_file.specs.declared.table.BlockTable.{BlockTable}
use Rattle.document_file.specs.declared.table.DocumentRef.{DocumentRef}
use Rattle.document_file.proofs.RangesLemmas.{bytes_held}

-- The entries of a table.

pub entries_few : (h : ℕ) (places : List (Option Place)) → length (entries_of h places) ≤ length places
entries_few h [] = omega arith
entries_few h (None ∷ places) = let more = entries_few (h + 1) places in omega (arith, more)
entries_few h (Some place ∷ places) = let more = entries_few (h + 1) places in omega (arith, more)

rising : (last h : ℕ) (places : List (Option Place)) → last < h → is_rising last (entries_of h places) ≡ true
rising last h [] low = refl
rising last h (None ∷ places) low = rising last (h + 1) places (omega arith)
rising last h (Some place ∷ places) low = and_from (nat_lt last h) (is_rising h (entries_of (h + 1) places)) (lt-ltb last h low) (rising h (h + 1) places (omega arith))

-- what a commit writes is of version 2 or 3
abbrev pub IsWritten : ℕ → Type 0
IsWritten version = (version ≡ 2) ⊎ (version ≡ 3)

pub next_written : (version next : ℕ) → IsNextVersion version next → IsWritten next
next_written version next (inl two) = inl two.0
next_written version next (inr three) = inr three

pub for_written : (b : Bool) → IsWritten (version_for b)
for_written true = inr refl
for_written false = inl refl

written_in : (version : ℕ) → IsWritten version → is_version_in version version ≡ true
written_in version (inl two) = subst (λ v. is_version_in v v ≡ true) (sym two) refl
written_in version (inr three) = subst (λ v. is_version_in v v ≡ true) (sym three) refl

written_most : (version : ℕ) → IsWritten version → greatest_handle version ≡ most_blocks
written_most version (inl two) = ap greatest_handle two
written_most version (inr three) = ap greatest_handle three

written_limit : (version : ℕ) → IsWritten version → page_limit_of version ≡ page_limit
written_limit version (inl two) = ap page_limit_of two
written_limit version (inr three) = ap page_limit_of three

written_types : (version : ℕ) (es : List Entry) → IsWritten version → FitTypes version es
written_types version es (inl two) one = absurd (omega (arith, two, one))
written_types version es (inr three) one = absurd (omega (arith, three, one))

-- in a file and a directory of one
entries_can_be : (version : ℕ) (file : List ℕ) (h : ℕ) (places : List (Option Place)) → IsWritten version → h + length places ≤ most_blocks + 1 → ArePlaces places → All IsPlaced (block_extents places) → All (λ e. end_of e ≤ length file) (block_extents places) → list_all (is_entry version (length file) version) (entries_of h places) ≡ true
entries_can_be version file h [] written low are placed within = refl
entries_can_be version file h (None ∷ places) written low are placed within = entries_can_be version file (h + 1) places written (omega (arith, low)) (λ i d inside. are (suc i) d (omega arith)) placed within
entries_can_be version file h (Some place ∷ places) written low are placed within =
    let one : IfSome (Some place) IsPlace = are 0 None (omega arith) in
    let there = placed 0 place.extent (omega arith) in
    let e : Entry = record { handle = record { 0 = h }; attributes = place.attributes; extent = place.extent; sum = place.sum } in
    and_from (is_entry version (length file) version e) (list_all (is_entry version (length file) version) (entries_of (h + 1) places))
    (is_entry-from version (length file) version e (record { handle = (let most = written_most version written in omega (arith, low, most)); some = there.some; short = one.short; behind_slots = there.behind; within = within 0 place.extent (omega arith); in_reach = (let limit = written_limit version written in let in_reach = there.within in omega (arith, limit, in_reach)) }))
    (entries_can_be version file (h + 1) places written (omega (arith, low)) (λ i d inside. are (suc i) d (omega arith)) (λ i d inside. placed (suc i) d (omega arith)) (λ i d inside. within (suc i) d (omega arith)))

-- a handle with a place is listed
listed : (h m k : ℕ) (places : List (Option Place)) → m ≡ h + k → is_some (get_or places k None) ≡ true → list_any (λ e. e.handle.0 == m) (entries_of h places) ≡ true
listed h m k [] is some = absurd (cc (sym (ap (is_some {T = Place}) (get_or_past [] k None (omega arith))) ∙ some))
listed h m zero (None ∷ places) is some = absurd (cc some)
listed h m (suc k) (None ∷ places) is some = listed (h + 1) m k places (omega (arith, is)) some
listed h m zero (Some place ∷ places) is some = ap (λ b. b || list_any (λ e. e.handle.0 == m) (entries_of (h + 1) places)) (eq-eqb h m (omega (arith, is)))
listed h m (suc k) (Some place ∷ places) is some =
    let more = listed (h + 1) m k places (omega (arith, is)) some in
    elim (h == m) as (λ b. (b || list_any (λ e. e.handle.0 == m) (entries_of (h + 1) places)) ≡ true) [ true ↦ refl | false ↦ more ]

map_listed : (table : BlockTable) → IsBlockTable table → is_map_block table.map_block (entries_of 1 table.places.items) ≡ true
map_listed table is = elim is.map_block as (λ _. is_map_block table.map_block (entries_of 1 table.places.items) ≡ true) [
  | inl none ↦ ap (λ b. b || list_any (λ e. e.handle.0 == table.map_block) (entries_of 1 table.places.items)) (eq-eqb table.map_block 0 none)
  | inr some ↦
      let there = listed 1 table.map_block (table.map_block - 1) table.places.items (omega (arith, some.0)) some.1 in
      elim (table.map_block == 0) as (λ b. (b || list_any (λ e. e.handle.0 == table.map_block) (entries_of 1 table.places.items)) ≡ true) [ true ↦ refl | false ↦ there ]
]

-- the sums of a table's entries fit the version's text
entries_fit : (version : ℕ) (file : List ℕ) (h : ℕ) (places : List (Option Place)) → AreSummed (has_sums version) file places → FitSums version (entries_of h places)
entries_fit version file h [] are k d inside = absurd (omega (arith, inside))
entries_fit version file h (None ∷ places) are k d inside = entries_fit version file (h + 1) places (λ i x low. are (suc i) x (omega (arith, low))) k d inside
entries_fit version file h (Some place ∷ places) are zero d inside = sum_for-fits version place.sum (bytes_in file place.extent) (are 0 None (omega arith))
entries_fit version file h (Some place ∷ places) are (suc k) d inside = entries_fit version file (h + 1) places (λ i x low. are (suc i) x (omega (arith, low))) k d (omega (arith, inside))

-- A directory whose text stands in a file of its version is that of its table.
pub directory_written : (version : ℕ) (file : List ℕ) (s : DocumentRef) → IsWritten version → IsBlockTable s.table.value → All IsPlaced (stored_extents s) → AreImaged file s.table.value.places.items → AreSummed (has_sums version) file s.table.value.places.items
    → All (λ e. end_of e ≤ length file) (block_extents s.table.value.places.items) → All (λ e. FitAttributes e.attributes) (entries_of 1 s.table.value.places.items)
    → s.sum ≡ sum_for (has_sums version) (directory_text (directory_of_table version s.table.value)) → s.directory.length ≡ length (directory_text (directory_of_table version s.table.value)) → Holds file (start_of s.directory) (directory_text (directory_of_table version s.table.value)) → IsStored version file s
directory_written version file s written is placed imaged summed within attributes sum size holds =
    let d = directory_of_table version s.table.value in
    let here = placed 0 s.directory (omega arith) in
    let good : is_directory version (length file) d ≡ true = is_directory-from version (length file) d (record {
      version = written_in version written;
      rising = rising 0 1 s.table.value.places.items (omega arith);
      entries = entries_can_be version file 1 s.table.value.places.items written (omega (arith, is.size)) is.places (λ i x inside. placed (suc i) x (omega arith)) within;
      map_block = map_listed s.table.value is;
    }) in
    let limit = written_limit version written in
    let reach = here.within in
    let inside : is_in_file version (length file) s.directory ≡ true = is_in_file-from version (length file) s.directory here.behind (omega (arith, holds.within, size)) (omega (arith, limit, reach)) in
    let bytes = bytes_held file (directory_text d) s.directory (sym size) holds in
    record {
      version = version;
      directory = cond-true _ _ _ inside ∙ ap (directory_in version (length file)) bytes ∙ directory_in-text version (length file) d good attributes (written_types version d.entries written) (entries_fit version file 1 s.table.value.places.items summed);
      images = imaged;
      sum = sum ∙ ap (sum_for (has_sums version)) (sym bytes);
      sums = summed;
    }

-- Entries that are listed one by one.

entries_append : (h : ℕ) (xs ys : List (Option Place)) → entries_of h (xs ++ ys) ≡ entries_of h xs ++ entries_of (h + length xs) ys
entries_append h [] ys = ap (λ n. entries_of n ys) (let same : h ≡ h + 0 = omega arith in same)
entries_append h (None ∷ xs) ys = entries_append (h + 1) xs ys ∙ ap (λ n. entries_of (h + 1) xs ++ entries_of n ys) (let same : h + 1 + length xs ≡ h + suc (length xs) = omega arith in same)
entries_append h (Some place ∷ xs) ys =
    ap (λ (es : List Entry). record { handle = record { 0 = h }; attributes = place.attributes; extent = place.extent; sum = place.sum } ∷ es)
    (entries_append (h + 1) xs ys ∙ ap (λ n. entries_of (h + 1) xs ++ entries_of n ys) (let same : h + 1 + length xs ≡ h + suc (length xs) = omega arith in same))

-- one place more
entries_next : (places : List (Option Place)) (i : ℕ) (o : Option Place) → i < length places → get_or places i None ≡ o → entries_of 1 (take (i + 1) places) ≡ entries_of 1 (take i places) ++ entries_of (i + 1) (o ∷ [])
entries_next places i o within is =
    let size : length (take i places) ≡ i = omega (arith, within, length-take i places) in
    let at : 1 + length (take i places) ≡ i + 1 = omega (arith, size) in
    ap (entries_of 1) (take_more places i None within ∙ ap (λ (x : Option Place). take i places ++ x ∷ []) is)
    ∙ entries_append 1 (take i places) (o ∷ [])
    ∙ ap (λ n. entries_of 1 (take i places) ++ entries_of n (o ∷ [])) at

entries_none : (places : List (Option Place)) (i : ℕ) → i < length places → get_or places i None ≡ None → entries_of 1 (take (i + 1) places) ≡ entries_of 1 (take i places)
entries_none places i within is = entries_next places i None within is ∙ append-nil (entries_of 1 (take i places))

-- The text of a directory up to here, whose header is given: these entries follow it, and their attributes are words.
pub record IsTextOfEntries (version : ℕ) (header : List ℕ) (entries : List Entry) (text : List ℕ) : Type 0 where
  pub text_is : text ≡ header ++ flat_map (entry_text version) entries
  pub attributes : All (λ e. FitAttributes e.attributes) entries

pub text_none : (version : ℕ) (header : List ℕ) (places : List (Option Place)) (i : ℕ) (text new : List ℕ) → i < length places → get_or places i None ≡ None → new ≡ text → IsTextOfEntries version header (entries_of 1 (take i places)) text → IsTextOfEntries version header (entries_of 1 (take (i + 1) places)) new
text_none version header places i text new within is same so =
    subst (IsTextOfEntries version header (entries_of 1 (take (i + 1) places))) (sym same) (subst (λ es. IsTextOfEntries version header es text) (sym (entries_none places i within is)) so)

pub text_some : (version : ℕ) (header : List ℕ) (places : List (Option Place)) (i : ℕ) (place : Place) (text new : List ℕ) (e : Entry) → i < length places → get_or places i None ≡ Some place → IsTextOfEntries version header (entries_of 1 (take i places)) text → new ≡ text ++ entry_text version e
    → e ≡ record { handle = record { 0 = i + 1 }; attributes = place.attributes; extent = place.extent; sum = place.sum } → FitAttributes e.attributes → IsTextOfEntries version header (entries_of 1 (take (i + 1) places)) new
text_some version header places i place text new e within is so pushed one low =
    let was = entries_of 1 (take i places) in
    let next : entries_of 1 (take (i + 1) places) ≡ was ++ e ∷ [] = entries_next places i (Some place) within is ∙ ap (λ (x : Entry). was ++ x ∷ []) (sym one) in
    subst (λ es. IsTextOfEntries version header es new) (sym next) (record {
      text_is = pushed ∙ ap (λ (t : List ℕ). t ++ entry_text version e) so.text_is ∙ flat_map_more (entry_text version) header was e;
      attributes = All-append (λ x. FitAttributes x.attributes) was (e ∷ []) so.attributes (All-cons (λ x. FitAttributes x.attributes) e [] low (All-nil (λ x. FitAttributes x.attributes)));
    })

-- as many as the table has blocks
pub length-entries_of : (h : ℕ) (places : List (Option Place)) → length (entries_of h places) ≡ count_by (is_some {T = Place}) places
length-entries_of h [] = refl
length-entries_of h (None ∷ places) = length-entries_of (h + 1) places
length-entries_of h (Some place ∷ places) =
    let more = length-entries_of (h + 1) places in
    let one : count_by (is_some {T = Place}) (Some place ∷ places) ≡ 1 + count_by (is_some {T = Place}) places = sum_by-cons (λ (o : Option Place). cond (is_some o) 1 0) (Some place) places in
    omega (arith, more, one)

-- the header, and at most 8,192 entries
pub text_fits : (version : ℕ) (table : BlockTable) (text : List ℕ) → length table.places.items ≤ most_blocks → text ≡ directory_text (directory_of_table version table) → (1 ≤ length text) × (length text ≤ longest_directory)
text_fits version table text size is =
    let few = entries_few 1 table.places.items in
    let long = ap length is ∙ length-directory (directory_of_table version table) in
    let most = entry_start-most version (length (entries_of 1 table.places.items)) in
    (omega (arith, few, size, long), omega (arith, few, size, long, most))

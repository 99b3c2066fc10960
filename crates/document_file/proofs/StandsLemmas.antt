-- What a file stands for that a crash left.
use Rattle.std.proofs.Common.{◌≡◌, ◌⊎◌, ℕ, zero, suc, ◌+◌, ◌-◌, ◌*◌, ◌^◌, ◌<◌, ◌≤◌, ◌==◌, Bool, true, false, List, [], ◌∷◌, ◌++◌, take, drop, length, slice_index, Option, None, Some, All, refl, sym, ap, ap₂, ◌∙◌, arith, inl, inr, length-take, length-drop, eqb-true, IsTrue}
use Rattle.std.specs.Prelude.{if◌then◌else◌, Ok, IfSome}
use Rattle.std.specs.Option.{option_map, option_and_then}
use Rattle.std.specs.FinMap.{from_entries}
use Rattle.std.proofs.lemmas.Bool.{cases_Bool, cases_lt, cond-true, cond-false, eqb-false}
use Rattle.std.proofs.lemmas.List.{get_or-drop, get_or-take, get_or_append_left, get_or-append_right, take-append-drop}
use Rattle.std.proofs.lemmas.Grind.{same_number_lists}
use Rattle.byteorder.specs.Endian.{little_bytes, little_number}
use Rattle.byteorder.specs.Numbers.{little_number-reads_back}
use Rattle.geos_model.specs.Words.{quad_word_at}
use Rattle.geos_model.proofs.Arrays.{same_bytes-is}
use Rattle.vm_store.specs.Facts.{StoreFacts, byte, IsTimely}
use Rattle.geos_model.specs.Bytes.{same_bytes}
use Rattle.geos_model.specs.Document.{Block, IsTyped, is_heap_body}
use Rattle.geos_model.specs.Image.{body_of, body_read}
use Rattle.file_format.specs.File.{stands, open_slot, if_open, slot_text, slot_mark, slot_fields, counting_slot, pair_of, document_at, document_of, blocks_of_entries, bytes_in, has_sum, prepended, summed_document}
use Rattle.file_format.specs.declared.file.Extent.{Extent}
use Rattle.file_format.specs.declared.file.Entry.{Entry}
use Rattle.file_format.specs.declared.file.Slot.{Slot}
use Rattle.geos_model.proofs.Table.{table_entries, table_map}
use Rattle.file_format.proofs.FileDocuments.{block_of-is, bytes_in-keeps, directory_of-some, document_at-kept, is_in_file-parts}
use Rattle.file_format.proofs.FileStands.{stands-from, pair_of-from, counts-first, counts-second, counts-first_newer, counts-second_newer, open_slot-text, open_slot-shut, slot_bytes}
use Rattle.document_file.specs.Ranges.{IsPlaced, KeepsExtent, KeepsAll}
use Rattle.document_file.specs.Sums.{AreSummed, IsSummed, has_sums}
use Rattle.document_file.proofs.SumsLemmas.{sum_for-has, sum_for-fits, sums_sealed, sums_fit, sums_working, sums_saved, behind_few, next_is}
use Rattle.file_format.specs.Slots.{IsVersion}
use Rattle.document_file.specs.Slots.{gate_text, behind_gate, slot_value, unsummed_slot, LeadsTo, IsBeside, IsUnmarked, IsOlder, Outcome, block_extents, stored_extents, pair_extents, prepared_extents, AreExtentsPlaced}
use Rattle.document_file.specs.Documents.{blocks_in, document_in, documents_in, attempted_in, entries_of, directory_of_table, IsImaged, AreImaged, IsStored, AreStored, IsPreparedStored, sequence_of, sequence_in, version_of, version_in}
use Rattle.document_file.specs.Disk.{StandsForOne, IsCrashConsistent, HasSequence}
use Rattle.file_format.specs.Slots.{Beaten}
use Rattle.document_file.proofs.ImageLemmas.{of_kind-same}
use Rattle.document_file.specs.Sound.{IsPlace, ArePlaces, IsBlockTable, AreTables, IsFormed, IsPreparedFormed, IsWhole, IsSound, disk_of}
use Rattle.document_file.specs.declared.table.Place.{Place}
use Rattle.document_file.specs.declared.table.BlockTable.{BlockTable}
use Rattle.document_file.specs.declared.table.DocumentRef.{DocumentRef}
use Rattle.document_file.specs.declared.table.Pair.{Pair}
use Rattle.document_file.specs.declared.slot.SpareSlot.{SpareSlot}
use Rattle.document_file.specs.declared.slot.SpareSlot.TheVariants.{Shut, Stale, Prepared}
use Rattle.document_file.specs.declared.slot.Slots.{Slots}
use Rattle.document_file.proofs.RangesLemmas.{all_left, all_right}
use Rattle.document_file.proofs.SoundLemmas.{kept_pair, kept_prepared}
use Rattle.file_format.specs.FileLaws as laws

-- The document of a directory.

abbrev numbered : ℕ → Block → ℕ × Block
numbered h b = (h, b)

-- the blocks of a table, each with its handle
pub table_blocks : (summed : Bool) (file : List ℕ) (h : ℕ) (places : List (Option Place)) → ArePlaces places → AreImaged file places → AreSummed summed file places → blocks_of_entries file (entries_of h places) ≡ Some (table_entries 1 h (blocks_in file places))
table_blocks summed file h [] good are sums = refl
table_blocks summed file h (None ∷ places) good are sums = table_blocks summed file (h + 1) places (λ i d within. good (suc i) d (omega arith)) (λ i d within. are (suc i) d (omega arith)) (λ i d within. sums (suc i) d (omega arith))
table_blocks summed file h (Some place ∷ places) good are sums =
    let more = table_blocks summed file (h + 1) places (λ i d within. good (suc i) d (omega arith)) (λ i d within. are (suc i) d (omega arith)) (λ i d within. sums (suc i) d (omega arith)) in
    let here : IfSome (Some place) IsPlace = good 0 None (omega arith) in
    let one : IfSome (Some place) (IsImaged file) = are 0 None (omega arith) in
    let sum : IfSome (Some place) (IsSummed summed file) = sums 0 None (omega arith) in
    let image : body_of (bytes_in file place.extent) ≡ Some (body_read (bytes_in file place.extent)) = one.image in
    let body = body_read (bytes_in file place.extent) in
    let entry : Entry = record { handle = record { 0 = h }; attributes = place.attributes; extent = place.extent; sum = place.sum } in
    let kind : place.is_heap ≡ is_heap_body body = one.kind in
    let typed : IsTyped place.is_heap place.attributes = here.typed in
    ap₂ prepended (block_of-is file entry body (cond-true _ _ _ (sum_for-has summed place.sum (bytes_in file place.extent) sum) ∙ image) (λ raw. typed (kind ∙ raw)) ∙ ap (λ b. Some (numbered h (record { attributes = place.attributes; body = b }))) (sym (of_kind-same place.is_heap body kind))) more

-- the directory's document
pub stored_document : (version : ℕ) (file : List ℕ) (s : DocumentRef) → IsBlockTable s.table.value → IsStored version file s → document_at version file s.directory ≡ Some (document_in file s.table.value)
unfolding table_map
stored_document version file s table stored =
    ap (option_and_then (document_of file)) stored.directory
    ∙ ap (option_map (λ blocks. record { blocks = from_entries blocks; map_block = s.table.value.map_block })) (table_blocks (has_sums version) file 1 s.table.value.places.items table.places stored.images stored.sums)

-- it has its sum
pub stored_summed : (version : ℕ) (file : List ℕ) (s : DocumentRef) → IsStored version file s → has_sum s.sum (bytes_in file s.directory) ≡ true
stored_summed version file s stored = sum_for-has (has_sums version) s.sum (bytes_in file s.directory) stored.sum

pub summed_stored : (version : ℕ) (file : List ℕ) (s : DocumentRef) → IsBlockTable s.table.value → IsStored version file s → summed_document version file s.sum s.directory ≡ Some (document_in file s.table.value)
summed_stored version file s table stored =
    ap (option_and_then (document_of file)) (cond-true _ _ _ (stored_summed version file s stored)) ∙ stored_document version file s table stored

-- Files in which the bytes are the same.

pub keeps_entries : (file c : List ℕ) (h : ℕ) (places : List (Option Place)) → KeepsAll (block_extents places) file c → All (λ entry. KeepsExtent file c entry.extent) (entries_of h places)
keeps_entries file c h [] keeps k d within = absurd (omega arith)
keeps_entries file c h (None ∷ places) keeps k d within = keeps_entries file c (h + 1) places keeps k d within
keeps_entries file c h (Some place ∷ places) keeps zero d within = keeps 0 place.extent (omega arith)
keeps_entries file c h (Some place ∷ places) keeps (suc k) d within = keeps_entries file c (h + 1) places (λ i x inside. keeps (suc i) x (omega arith)) k d (omega arith)

-- a document whose bytes are kept
pub stored_kept : (version : ℕ) (file c : List ℕ) (s : DocumentRef) → IsBlockTable s.table.value → IsStored version file s → KeepsAll (stored_extents s) file c → summed_document version c s.sum s.directory ≡ Some (document_in file s.table.value)
stored_kept version file c s table stored keeps =
    let place = is_in_file-parts version (length file) s.directory (directory_of-some version file s.directory (directory_of_table stored.version s.table.value) stored.directory).0 in
    let same : bytes_in c s.directory ≡ bytes_in file s.directory = bytes_in-keeps file c s.directory (keeps 0 s.directory (omega arith)) place.within in
    let summed : has_sum s.sum (bytes_in c s.directory) ≡ true = ap (has_sum s.sum) same ∙ stored_summed version file s stored in
    ap (option_and_then (document_of c)) (cond-true _ _ _ summed)
    ∙ document_at-kept version file c s.directory (directory_of_table stored.version s.table.value) stored.directory (keeps 0 s.directory (omega arith)) (keeps_entries file c 1 s.table.value.places.items (λ i x inside. keeps (suc i) x (omega arith)))
    ∙ stored_document version file s table stored

-- A slot.

pub byte_of_slot : (c : List ℕ) (slot k : ℕ) → k < 44 → byte (slot_bytes c slot) k ≡ byte c (512 * slot + k)
byte_of_slot c slot k low = get_or-take 44 (drop (512 * slot) c) k 0 low ∙ get_or-drop (512 * slot) c k 0

slot_size : (c : List ℕ) (slot : ℕ) → 512 * slot + 44 ≤ length c → length (slot_bytes c slot) ≡ 44
slot_size c slot within = omega (arith, length-take 44 (drop (512 * slot) c), length-drop (512 * slot) c, within)

-- a slot that is open begins with its text
pub slot_written : (slot version sequence : ℕ) (pair : Pair) (file c : List ℕ) → byte c (512 * slot + 4) ≡ 1 → LeadsTo slot version sequence pair file c → (rest : List ℕ) × (slot_bytes c slot ≡ slot_text (slot_value version sequence pair) ++ rest)
unfolding gate_text
slot_written slot version sequence pair file c gate leads =
    let rest = behind_gate version sequence pair in
    let m : ℕ = length rest in
    let few : m ≤ 39 = behind_few version sequence pair in
    let long : 512 * slot + 5 + m ≤ length c = leads.rest.within in
    let bytes = slot_bytes c slot in
    let size : length (take (5 + m) bytes) ≡ 5 + m = omega (arith, length-take (5 + m) bytes, length-take 44 (drop (512 * slot) c), length-drop (512 * slot) c, long, few) in
    let whole : 5 + m ≡ length (slot_mark ++ 1 ∷ rest) = omega arith in
    let front : take (5 + m) bytes ≡ slot_mark ++ 1 ∷ rest = same_number_lists (take (5 + m) bytes) (slot_mark ++ 1 ∷ rest) (size ∙ whole) (λ k inside.
    let low : k < 5 + m = omega (arith, size, inside) in
    get_or-take (5 + m) bytes k 0 low ∙ byte_of_slot c slot k (omega (arith, low, few)) ∙ (elim (cases_lt k 4) as (λ _. byte c (512 * slot + k) ≡ byte (slot_mark ++ 1 ∷ rest) k) [
      | inl before ↦ leads.marked.each k before ∙ sym (get_or_append_left slot_mark (1 ∷ rest) 0 k before)
      | inr after ↦ elim (cases_lt 4 k) as (λ _. byte c (512 * slot + k) ≡ byte (slot_mark ++ 1 ∷ rest) k) [
        | inl behind ↦
            let at : 512 * slot + k ≡ 512 * slot + 5 + (k - 5) = omega arith in
            let step : k - 4 ≡ suc (k - 5) = omega arith in
            ap (byte c) at ∙ leads.rest.each (k - 5) (omega (arith, low)) ∙ sym (get_or-append_right slot_mark (1 ∷ rest) 4 k 0 refl (omega arith) ∙ ap (byte (1 ∷ rest)) step)
        | inr four ↦
            let is : k ≡ 4 = omega arith in
            ap (λ n. byte c (512 * slot + n)) is ∙ gate ∙ sym (ap (byte (slot_mark ++ 1 ∷ rest)) is)
      ]
    ])) in
    (drop (5 + m) bytes, sym (take-append-drop (5 + m) bytes) ∙ ap (λ (l : List ℕ). l ++ drop (5 + m) bytes) front)

-- what a slot leads to has numbers that its text has room for, and tables that can be
pub record FitsPair (version sequence : ℕ) (pair : Pair) : Type 0 where
  pub versioned : IsVersion version
  pub tables : AreTables pair
  pub some : 1 ≤ sequence
  pub in_range : sequence < 2 ^ 64
  pub updated : IsPlaced pair.updated.directory
  pub saved : IsPlaced pair.saved.directory
  pub updated_sum : laws.FitsSum version pair.updated.sum
  pub saved_sum : laws.FitsSum version pair.saved.sum

fits_extent : (e : Extent) → IsPlaced e → laws.FitsExtent e
fits_extent e placed = (omega (arith, placed.within), omega (arith, placed.short))

fits_version : (version : ℕ) → IsVersion version → version < 256
fits_version version (inl one) = omega (arith, one)
fits_version version (inr (inl two)) = omega (arith, two)
fits_version version (inr (inr three)) = omega (arith, three)

pub lead_open : (slot version sequence : ℕ) (pair : Pair) (file c : List ℕ) → FitsPair version sequence pair → byte c (512 * slot + 4) ≡ 1 → LeadsTo slot version sequence pair file c → open_slot c slot ≡ Some (slot_value version sequence pair)
lead_open slot version sequence pair file c fits gate leads =
    let text = slot_written slot version sequence pair file c gate leads in
    open_slot-text c slot (slot_value version sequence pair) text.0 text.1 (record {
      gate = omega arith;
      version = fits_version version fits.versioned;
      reserved = omega arith;
      sequence = fits.in_range;
      working = fits_extent pair.updated.directory fits.updated;
      saved = fits_extent pair.saved.directory fits.saved;
      sums = sums_fit version (unsummed_slot version sequence pair) pair.updated.sum pair.saved.sum fits.updated_sum fits.saved_sum;
    })

-- which slot counts, where the first, or the second, beats the other
pub counts : (c : List ℕ) (second : Bool) (s : Slot) → open_slot c (if second then 1 else 0) ≡ Some s → Beaten (open_slot c (if second then 0 else 1)) s.sequence → counting_slot (open_slot c 0) (open_slot c 1) ≡ Ok s
counts c true s here (inl none) = counts-second c s none here
counts c true s here (inr older) = counts-second_newer c older.0 s older.1 here older.2
counts c false s here (inl none) = counts-first c s here none
counts c false s here (inr older) = counts-first_newer c s older.0 here older.1 older.2

-- The slot that doesn't count.

-- a slot with another mark
pub unmarked_shut : (slot : ℕ) (c : List ℕ) → 512 * slot + 44 ≤ length c → IsUnmarked slot c → open_slot c slot ≡ None
unmarked_shut slot c within was =
    let four : length (take 4 (slot_bytes c slot)) ≡ 4 = omega (arith, length-take 4 (slot_bytes c slot), slot_size c slot within) in
    let is : take 4 (slot_bytes c slot) ≡ was.bytes = same_number_lists (take 4 (slot_bytes c slot)) was.bytes (four ∙ sym was.size) (λ k inside.
    let low : k < 4 = omega (arith, four, inside) in
    get_or-take 4 (slot_bytes c slot) k 0 low ∙ byte_of_slot c slot k (omega arith) ∙ was.there.each k (omega (arith, was.size))) in
    elim (cases_Bool (same_bytes (take 4 (slot_bytes c slot)) slot_mark)) [
      | inl marked ↦ absurd (was.differs (sym is ∙ same_bytes-is (take 4 (slot_bytes c slot)) slot_mark marked))
      | inr other ↦ ap (option_and_then if_open) (cond-false _ _ _ other)
    ]

-- a slot that is open has the number that stands there
pub older_beaten : (slot sequence : ℕ) (c : List ℕ) → sequence < 2 ^ 64 → 512 * slot + 44 ≤ length c → IsOlder slot sequence c → Beaten (open_slot c slot) sequence
older_beaten slot sequence c range within was =
    let bytes = slot_bytes c slot in
    let eight : length (take 8 (drop 8 bytes)) ≡ 8 = omega (arith, length-take 8 (drop 8 bytes), length-drop 8 bytes, slot_size c slot within) in
    let is : take 8 (drop 8 bytes) ≡ little_bytes 8 was.number = same_number_lists (take 8 (drop 8 bytes)) (little_bytes 8 was.number) eight (λ k inside.
    let low : k < 8 = omega (arith, eight, inside) in
    let at : 512 * slot + (8 + k) ≡ 512 * slot + 8 + k = omega arith in
    get_or-take 8 (drop 8 bytes) k 0 low ∙ get_or-drop 8 bytes k 0 ∙ byte_of_slot c slot (8 + k) (omega arith) ∙ ap (byte c) at ∙ was.there.each k low) in
    let number : quad_word_at bytes 8 ≡ was.number = ap (little_number 8) (sym (take-append-drop 8 (drop 8 bytes)) ∙ ap (λ l. l ++ drop 8 (drop 8 bytes)) is) ∙ little_number-reads_back 8 was.number (drop 8 (drop 8 bytes)) (omega (arith, was.lower, range)) in
    elim (cases_Bool (same_bytes (take 4 bytes) slot_mark)) as (λ _. Beaten (open_slot c slot) sequence) [
      | inl marked ↦ elim (cases_Bool (slice_index bytes 4 == 1)) as (λ _. Beaten (open_slot c slot) sequence) [
        | inl gate ↦ inr (slot_fields bytes, ap (option_and_then if_open) (cond-true _ _ _ marked) ∙ cond-true _ _ _ gate, omega (arith, number, was.lower))
        | inr shut ↦ inl (ap (option_and_then if_open) (cond-true _ _ _ marked) ∙ cond-false _ _ _ shut)
      ]
      | inr other ↦ inl (ap (option_and_then if_open) (cond-false _ _ _ other))
    ]

-- What a file stands for, by the slot that counts.

pub stands_for : (version sequence : ℕ) (pair : Pair) (file c : List ℕ) → FitsPair version sequence pair → AreStored version file pair → KeepsAll (stored_extents pair.updated) file c → KeepsAll (stored_extents pair.saved) file c
    → counting_slot (open_slot c 0) (open_slot c 1) ≡ Ok (slot_value version sequence pair) → stands c ≡ Ok (documents_in file pair)
stands_for version sequence pair file c fits stored updated saved counts_is =
    let first = updated 0 pair.updated.directory (omega arith) in
    stands-from c (slot_value version sequence pair) (document_in file pair.updated.table.value) (document_in file pair.saved.table.value) (record {
      long = omega (arith, first.within, fits.updated.behind);
      counts = counts_is;
      version = fits.versioned;
      reserved = refl;
      sequence = fits.some;
      sealed = sums_sealed (unsummed_slot version sequence pair) pair.updated.sum pair.saved.sum;
      working = ap (λ (o : Option ℕ). summed_document version c o pair.updated.directory) (sums_working version (unsummed_slot version sequence pair) pair.updated.sum pair.saved.sum fits.updated_sum fits.saved_sum) ∙ stored_kept version file c pair.updated fits.tables.updated stored.updated updated;
      saved_is = ap (λ (o : Option ℕ). summed_document version c o pair.saved.directory) (sums_saved version (unsummed_slot version sequence pair) pair.updated.sum pair.saved.sum fits.updated_sum fits.saved_sum) ∙ stored_kept version file c pair.saved fits.tables.saved stored.saved saved;
    })

-- the documents of a slot, whether or not it counts
pub slot_documents : (version sequence : ℕ) (pair : Pair) (file c : List ℕ) → FitsPair version sequence pair → AreStored version file pair → KeepsAll (pair_extents pair) file c → pair_of c (slot_value version sequence pair) ≡ Ok (documents_in file pair)
slot_documents version sequence pair file c fits stored keeps =
    let updated = all_left (KeepsExtent file c) (stored_extents pair.updated) (stored_extents pair.saved) keeps in
    let saved = all_right (KeepsExtent file c) (stored_extents pair.updated) (stored_extents pair.saved) keeps in
    pair_of-from c (slot_value version sequence pair) (document_in file pair.updated.table.value) (document_in file pair.saved.table.value) (record {
      version = fits.versioned;
      reserved = refl;
      sequence = fits.some;
      sealed = sums_sealed (unsummed_slot version sequence pair) pair.updated.sum pair.saved.sum;
      working = ap (λ (o : Option ℕ). summed_document version c o pair.updated.directory) (sums_working version (unsummed_slot version sequence pair) pair.updated.sum pair.saved.sum fits.updated_sum fits.saved_sum) ∙ stored_kept version file c pair.updated fits.tables.updated stored.updated updated;
      saved_is = ap (λ (o : Option ℕ). summed_document version c o pair.saved.directory) (sums_saved version (unsummed_slot version sequence pair) pair.updated.sum pair.saved.sum fits.updated_sum fits.saved_sum) ∙ stored_kept version file c pair.saved fits.tables.saved stored.saved saved;
    })

-- The file of a crash.

abbrev pub AllPlaced : Pair → Type 0
AllPlaced pair = All IsPlaced (pair_extents pair)

pub fits_pair : (version sequence : ℕ) (file : List ℕ) (pair : Pair) → IsVersion version → 1 ≤ sequence → sequence < 2 ^ 64 → AreTables pair → AreStored version file pair → All IsPlaced (pair_extents pair) → FitsPair version sequence pair
fits_pair version sequence file pair versioned some range tables stored placed = record {
  versioned = versioned;
  tables = tables;
  some = some;
  in_range = range;
  updated = all_left IsPlaced (stored_extents pair.updated) (stored_extents pair.saved) placed 0 pair.updated.directory (omega arith);
  saved = all_right IsPlaced (stored_extents pair.updated) (stored_extents pair.saved) placed 0 pair.saved.directory (omega arith);
  updated_sum = sum_for-fits version pair.updated.sum (bytes_in file pair.updated.directory) stored.updated.sum;
  saved_sum = sum_for-fits version pair.saved.sum (bytes_in file pair.saved.directory) stored.saved.sum;
}

-- the file stands for what its slot leads to, where it beats the other one
pub lead_stands : (version sequence : ℕ) (pair : Pair) (file c : List ℕ) (second : Bool) → FitsPair version sequence pair → AreStored version file pair → byte c (512 * (if second then 1 else 0) + 4) ≡ 1
    → LeadsTo (if second then 1 else 0) version sequence pair file c → Beaten (open_slot c (if second then 0 else 1)) sequence → stands c ≡ Ok (documents_in file pair)
lead_stands version sequence pair file c second fits stored gate leads beaten =
    stands_for version sequence pair file c fits stored (all_left (KeepsExtent file c) (stored_extents pair.updated) (stored_extents pair.saved) leads.kept) (all_right (KeepsExtent file c) (stored_extents pair.updated) (stored_extents pair.saved) leads.kept)
    (counts c second (slot_value version sequence pair) (lead_open (if second then 1 else 0) version sequence pair file c fits gate leads) beaten)

-- a file of 1,024 bytes has both slots
both_within : (c : List ℕ) (second : Bool) → 1024 ≤ length c → 512 * (if second then 0 else 1) + 44 ≤ length c
both_within c true long = omega (arith, long)
both_within c false long = omega (arith, long)

pub long_enough : (version sequence : ℕ) (pair : Pair) (slot : ℕ) (file c : List ℕ) → FitsPair version sequence pair → LeadsTo slot version sequence pair file c → 1024 ≤ length c
long_enough version sequence pair slot file c fits leads =
    let first = all_left (KeepsExtent file c) (stored_extents pair.updated) (stored_extents pair.saved) leads.kept 0 pair.updated.directory (omega arith) in
    omega (arith, first.within, fits.updated.behind)

-- what is known of what a commit that failed in its last step wrote
abbrev pub IsPreparedReadable : ℕ → List ℕ → ℕ → SpareSlot → Type 0
IsPreparedReadable version file sequence Shut = Unit {0}
IsPreparedReadable version file sequence Stale = Unit {0}
IsPreparedReadable version file sequence (Prepared pair) = AreStored version file pair × IsPreparedFormed sequence (Prepared pair)

-- the pairs that a crash may leave, with what is known of them
pub record AreReadable (slots : Slots) (file : List ℕ) : Type 0 where
  pub versioned : IsVersion slots.version
  pub next_versioned : IsVersion slots.next_version
  pub some : 1 ≤ slots.sequence
  pub in_range : slots.sequence < 2 ^ 64
  pub placed : AreExtentsPlaced slots
  pub tables : AreTables slots.committed
  pub committed : AreStored slots.version file slots.committed
  pub prepared : IsPreparedReadable slots.next_version file slots.sequence slots.spare

pub stale_beaten : (second : Bool) (sequence : ℕ) (c : List ℕ) → sequence < 2 ^ 64 → 1024 ≤ length c → IsUnmarked (if second then 0 else 1) c ⊎ IsOlder (if second then 0 else 1) sequence c → Beaten (open_slot c (if second then 0 else 1)) sequence
stale_beaten second sequence c range long (inl unmarked) = inl (unmarked_shut (if second then 0 else 1) c (both_within c second long) unmarked)
stale_beaten second sequence c range long (inr older) = older_beaten (if second then 0 else 1) sequence c range (both_within c second long) older

pub prepared_beats : (second : Bool) (version next sequence : ℕ) (committed held : Pair) (file c : List ℕ) → FitsPair version sequence committed → FitsPair next (sequence + 1) held → AreStored next file held → byte c (512 * (if second then 1 else 0) + 4) ≡ 1
    → LeadsTo (if second then 1 else 0) version sequence committed file c → byte c (512 * (if second then 0 else 1) + 4) ≡ 1 → LeadsTo (if second then 0 else 1) next (sequence + 1) held file c → stands c ≡ Ok (documents_in file held)
prepared_beats true version next sequence committed held file c fits fits_prepared stored gate leads prepared_gate prepared_leads =
    lead_stands next (sequence + 1) held file c false fits_prepared stored prepared_gate prepared_leads (inr (slot_value version sequence committed, lead_open 1 version sequence committed file c fits gate leads, omega arith))
prepared_beats false version next sequence committed held file c fits fits_prepared stored gate leads prepared_gate prepared_leads =
    lead_stands next (sequence + 1) held file c true fits_prepared stored prepared_gate prepared_leads (inr (slot_value version sequence committed, lead_open 0 version sequence committed file c fits gate leads, omega arith))

-- so that its number counts
pub prepared_numbered : (second : Bool) (version next sequence : ℕ) (committed held : Pair) (file c : List ℕ) → FitsPair version sequence committed → FitsPair next (sequence + 1) held → byte c (512 * (if second then 1 else 0) + 4) ≡ 1
    → LeadsTo (if second then 1 else 0) version sequence committed file c → byte c (512 * (if second then 0 else 1) + 4) ≡ 1 → LeadsTo (if second then 0 else 1) next (sequence + 1) held file c → sequence_in c ≡ Some (sequence + 1)
prepared_numbered true version next sequence committed held file c fits fits_prepared gate leads prepared_gate prepared_leads =
    ap sequence_of (counts c false (slot_value next (sequence + 1) held) (lead_open 0 next (sequence + 1) held file c fits_prepared prepared_gate prepared_leads) (inr (slot_value version sequence committed, lead_open 1 version sequence committed file c fits gate leads, omega arith)))
prepared_numbered false version next sequence committed held file c fits fits_prepared gate leads prepared_gate prepared_leads =
    ap sequence_of (counts c true (slot_value next (sequence + 1) held) (lead_open 1 next (sequence + 1) held file c fits_prepared prepared_gate prepared_leads) (inr (slot_value version sequence committed, lead_open 0 version sequence committed file c fits gate leads, omega arith)))

one_stands : (spare : SpareSlot) (second : Bool) (version next sequence : ℕ) (committed : Pair) (file c : List ℕ) → IsVersion next → FitsPair version sequence committed → AreStored version file committed → All IsPlaced (prepared_extents spare) → IsPreparedReadable next file sequence spare
    → byte c (512 * (if second then 1 else 0) + 4) ≡ 1 → LeadsTo (if second then 1 else 0) version sequence committed file c → IsBeside next spare (if second then 0 else 1) sequence file c → StandsForOne (documents_in file committed ∷ attempted_in file spare) c
one_stands Shut second version next sequence committed file c is_next fits stored placed held gate leads beside =
    inl (lead_stands version sequence committed file c second fits stored gate leads (inl (open_slot-shut c (if second then 0 else 1) beside)))
one_stands Stale second version next sequence committed file c is_next fits stored placed held gate leads beside =
    inl (lead_stands version sequence committed file c second fits stored gate leads (stale_beaten second sequence c fits.in_range (long_enough version sequence committed (if second then 1 else 0) file c fits leads) beside))
one_stands (Prepared pair) second version next sequence committed file c is_next fits stored placed held gate leads beside =
    let o : ℕ = if second then 0 else 1 in
    elim (cases_Bool (byte c (512 * o + 4) == 1)) as (λ _. StandsForOne (documents_in file committed ∷ documents_in file pair ∷ []) c) [
      | inl opened ↦ inr (inl (prepared_beats second version next sequence committed pair file c fits (fits_pair next (sequence + 1) file pair is_next (omega arith) held.1.1 held.1.0 held.0 placed) held.0 gate leads (eqb-true (byte c (512 * o + 4)) 1 opened) beside))
      | inr shut ↦ inl (lead_stands version sequence committed file c second fits stored gate leads (inl (open_slot-shut c o (eqb-false (byte c (512 * o + 4)) 1 shut))))
    ]

-- A file that a crash left stands for the pair that is committed, or for the one that is prepared.
pub outcome_stands : (slots : Slots) (file c : List ℕ) → AreReadable slots file → Outcome slots file c → StandsForOne (documents_in file slots.committed ∷ attempted_in file slots.spare) c
outcome_stands slots file c are was =
    one_stands slots.spare slots.second slots.version slots.next_version slots.sequence slots.committed file c are.next_versioned (fits_pair slots.version slots.sequence file slots.committed are.versioned are.some are.in_range are.tables are.committed (kept_pair IsPlaced slots are.placed))
    are.committed (kept_prepared IsPlaced slots are.placed) are.prepared was.gate was.counts was.beside

pub prepared_readable : (version : ℕ) (file : List ℕ) (sequence : ℕ) (spare : SpareSlot) → IsPreparedFormed sequence spare → IsPreparedStored version file spare → IsPreparedReadable version file sequence spare
prepared_readable version file sequence Shut formed stored = tt
prepared_readable version file sequence Stale formed stored = tt
prepared_readable version file sequence (Prepared pair) formed stored = (stored, formed)

-- of a sound file
pub sound_readable : (store : StoreFacts) (live : BlockTable) (slots : Slots) → IsFormed live slots → IsWhole store live slots → AreReadable slots store.content
sound_readable store live slots formed whole = record {
  versioned = formed.version;
  next_versioned = next_is slots.version slots.next_version formed.next_version;
  some = formed.numbered;
  in_range = formed.in_range;
  placed = formed.kept;
  tables = formed.committed;
  committed = whole.committed;
  prepared = prepared_readable slots.next_version store.content slots.sequence slots.spare formed.prepared whole.prepared;
}

-- what a crash now leaves stands for what may be read
pub sound_settled : {S : Type 0} (facts : S → StoreFacts) (store : S) (live : BlockTable) (slots : Slots) → IsSound (facts store) live slots → IsCrashConsistent facts (disk_of facts store slots)
sound_settled facts store live slots sound honest c left =
    let whole = sound.whole honest in
    outcome_stands slots (facts store).content c (sound_readable (facts store) live slots sound.formed whole) (whole.leaves c left)

-- The slot that counts, where no commit failed in its last step, and its number and version.

counted_one : (spare : SpareSlot) (second : Bool) (version next sequence : ℕ) (committed : Pair) (file c : List ℕ) → FitsPair version sequence committed → attempted_in file spare ≡ [] → byte c (512 * (if second then 1 else 0) + 4) ≡ 1 → LeadsTo (if second then 1 else 0) version sequence committed file c
    → IsBeside next spare (if second then 0 else 1) sequence file c → counting_slot (open_slot c 0) (open_slot c 1) ≡ Ok (slot_value version sequence committed)
counted_one Shut second version next sequence committed file c fits none gate leads beside =
    counts c second (slot_value version sequence committed) (lead_open (if second then 1 else 0) version sequence committed file c fits gate leads) (inl (open_slot-shut c (if second then 0 else 1) beside))
counted_one Stale second version next sequence committed file c fits none gate leads beside =
    counts c second (slot_value version sequence committed) (lead_open (if second then 1 else 0) version sequence committed file c fits gate leads)
    (stale_beaten second sequence c fits.in_range (long_enough version sequence committed (if second then 1 else 0) file c fits leads) beside)
counted_one (Prepared pair) second version next sequence committed file c fits none gate leads beside = absurd (cc none)

outcome_counted : (slots : Slots) (file c : List ℕ) → AreReadable slots file → attempted_in file slots.spare ≡ [] → Outcome slots file c
    → counting_slot (open_slot c 0) (open_slot c 1) ≡ Ok (slot_value slots.version slots.sequence slots.committed)
outcome_counted slots file c are none was =
    counted_one slots.spare slots.second slots.version slots.next_version slots.sequence slots.committed file c (fits_pair slots.version slots.sequence file slots.committed are.versioned are.some are.in_range are.tables are.committed (kept_pair IsPlaced slots are.placed)) none was.gate was.counts was.beside

pub outcome_numbered : (slots : Slots) (file c : List ℕ) → AreReadable slots file → attempted_in file slots.spare ≡ [] → Outcome slots file c → sequence_in c ≡ Some slots.sequence
outcome_numbered slots file c are none was = ap sequence_of (outcome_counted slots file c are none was)

pub sound_numbered : {S : Type 0} (facts : S → StoreFacts) (store : S) (live : BlockTable) (slots : Slots) → IsSound (facts store) live slots → IsTrue (facts store).honest → attempted_in (facts store).content slots.spare ≡ [] → HasSequence (facts store) slots.sequence
sound_numbered facts store live slots sound honest none c left =
    let whole = sound.whole honest in
    outcome_numbered slots (facts store).content c (sound_readable (facts store) live slots sound.formed whole) none (whole.leaves c left)

-- of what an honest store has now
pub sound_counted : {S : Type 0} (facts : S → StoreFacts) (store : S) (live : BlockTable) (slots : Slots) → (IsTrue (facts store).honest → IsTimely (facts store)) → IsSound (facts store) live slots → IsTrue (facts store).honest
    → attempted_in (facts store).content slots.spare ≡ [] → counting_slot (open_slot (facts store).content 0) (open_slot (facts store).content 1) ≡ Ok (slot_value slots.version slots.sequence slots.committed)
sound_counted facts store live slots timely sound honest none =
    let whole = sound.whole honest in
    let content = (facts store).content in
    outcome_counted slots content content (sound_readable (facts store) live slots sound.formed whole) none (whole.leaves content (timely honest).now)

pub sound_versioned : {S : Type 0} (facts : S → StoreFacts) (store : S) (live : BlockTable) (slots : Slots) → (IsTrue (facts store).honest → IsTimely (facts store)) → IsSound (facts store) live slots
    → attempted_in (facts store).content slots.spare ≡ [] → IsTrue (facts store).honest → version_in (facts store).content ≡ Some slots.version
sound_versioned facts store live slots timely sound none honest = ap version_of (sound_counted facts store live slots timely sound honest none)

-- Documents in another file that has their bytes.
use Rattle.std.proofs.Common.{◌≡◌, ℕ, zero, suc, ◌+◌, ◌≤◌, true, List, [], ◌∷◌, length, Option, None, Some, All, refl, sym, ap, subst, ◌∙◌, arith, inl, inr, eqb-true, ◌≢◌}
use Rattle.std.specs.List.{list_all}
use Rattle.std.proofs.lemmas.Bool.{and_parts}
use Rattle.geos_model.specs.Document.{Block}
use Rattle.file_format.specs.File.{Directory, is_entry, bytes_in}
use Rattle.file_format.specs.declared.file.Entry.{Entry}
use Rattle.file_format.proofs.Files.{is_entry-parts, is_directory-parts, directory_in-some}
use Rattle.file_format.proofs.FileDocuments.{bytes_in-keeps, directory_of-some, directory_of-kept, directory_of-newer, is_in_file-parts}
use Rattle.geos_model.proofs.Table.{table_map}
use Rattle.document_file.specs.Ranges.{KeepsExtent, KeepsAll, end_of}
use Rattle.document_file.specs.Slots.{block_extents, stored_extents, pair_extents, prepared_extents}
use Rattle.document_file.specs.Documents.{Documents, document_in, documents_in, attempted_in, entries_of, directory_of_table, IsStored, AreStored, IsPreparedStored}
use Rattle.document_file.specs.Sound.{IsNextVersion}
use Rattle.document_file.specs.Sums.{AreSummed, has_sums, sum_for}
use Rattle.document_file.specs.declared.table.Place.{Place}
use Rattle.document_file.specs.declared.table.DocumentRef.{DocumentRef}
use Rattle.document_file.specs.declared.table.Pair.{Pair}
use Rattle.document_file.specs.declared.slot.SpareSlot.{SpareSlot}
use Rattle.document_file.specs.declared.slot.SpareSlot.TheVariants.{Shut, Stale, Prepared}
use Rattle.document_file.proofs.RangesLemmas.{all_left, all_right}
use Rattle.document_file.proofs.StandsLemmas.{keeps_entries}
use Rattle.document_file.proofs.TableLemmas.{blocks_same, images_same, sums_same}

-- They lie within the file.

entries_within : (file_version n version h : ℕ) (places : List (Option Place)) → list_all (is_entry file_version n version) (entries_of h places) ≡ true → All (λ e. end_of e ≤ n) (block_extents places)
entries_within file_version n version h [] all k d inside = absurd (omega arith)
entries_within file_version n version h (None ∷ places) all k d inside = entries_within file_version n version (h + 1) places all k d inside
entries_within file_version n version h (Some place ∷ places) all zero d inside =
    let entry : Entry = record { handle = record { 0 = h }; attributes = place.attributes; extent = place.extent; sum = place.sum } in
    (is_entry-parts file_version n version entry (and_parts (is_entry file_version n version entry) (list_all (is_entry file_version n version) (entries_of (h + 1) places)) all).0).within
entries_within file_version n version h (Some place ∷ places) all (suc k) d inside =
    let entry : Entry = record { handle = record { 0 = h }; attributes = place.attributes; extent = place.extent; sum = place.sum } in
    entries_within file_version n version (h + 1) places (and_parts (is_entry file_version n version entry) (list_all (is_entry file_version n version) (entries_of (h + 1) places)) all).1 k d (omega arith)

pub stored_within : (version : ℕ) (file : List ℕ) (s : DocumentRef) → IsStored version file s → (end_of s.directory ≤ length file) × All (λ e. end_of e ≤ length file) (block_extents s.table.value.places.items)
stored_within version file s stored =
    let d : Directory = directory_of_table stored.version s.table.value in
    let there = directory_of-some version file s.directory d stored.directory in
    let good = (directory_in-some version (length file) (bytes_in file s.directory) d there.1).0 in
    ((is_in_file-parts version (length file) s.directory there.0).within, entries_within version (length file) stored.version 1 s.table.value.places.items (is_directory-parts version (length file) d good).entries)

-- They are the same in one that has their bytes.

pub stored_again : (version : ℕ) (file c : List ℕ) (s : DocumentRef) → IsStored version file s → KeepsAll (stored_extents s) file c → IsStored version c s × (document_in c s.table.value ≡ document_in file s.table.value)
stored_again version file c s stored keeps =
    let within = (stored_within version file s stored).1 in
    let blocks : KeepsAll (block_extents s.table.value.places.items) file c = λ k x inside. keeps (suc k) x (omega arith) in (
      record {
        version = stored.version;
        directory = directory_of-kept version file c s.directory (directory_of_table stored.version s.table.value) stored.directory (keeps 0 s.directory (omega arith)) (keeps_entries file c 1 s.table.value.places.items blocks);
        images = images_same file c s.table.value.places.items within blocks stored.images;
        sum = stored.sum ∙ ap (sum_for (has_sums version)) (sym (bytes_in-keeps file c s.directory (keeps 0 s.directory (omega arith)) (stored_within version file s stored).0));
        sums = sums_same (has_sums version) file c s.table.value.places.items within blocks stored.sums;
      },
      ap (λ (bs : List (Option Block)). record { blocks = table_map 1 1 bs; map_block = s.table.value.map_block }) (blocks_same file c s.table.value.places.items within blocks),
    )

pub pair_again : (version : ℕ) (file c : List ℕ) (pair : Pair) → AreStored version file pair → KeepsAll (pair_extents pair) file c → AreStored version c pair × (documents_in c pair ≡ documents_in file pair)
pair_again version file c pair stored keeps =
    let updated = stored_again version file c pair.updated stored.updated (all_left (KeepsExtent file c) (stored_extents pair.updated) (stored_extents pair.saved) keeps) in
    let saved = stored_again version file c pair.saved stored.saved (all_right (KeepsExtent file c) (stored_extents pair.updated) (stored_extents pair.saved) keeps) in
    (record { updated = updated.0; saved = saved.0 }, λ i. (updated.1 i, saved.1 i))

pub prepared_again : (version : ℕ) (file c : List ℕ) (spare : SpareSlot) → IsPreparedStored version file spare → KeepsAll (prepared_extents spare) file c → IsPreparedStored version c spare × (attempted_in c spare ≡ attempted_in file spare)
prepared_again version file c Shut stored keeps = (tt, refl)
prepared_again version file c Stale stored keeps = (tt, refl)
prepared_again version file c (Prepared pair) stored keeps = let again = pair_again version file c pair stored keeps in (again.0, ap (λ (d : Documents). d ∷ []) again.1)

-- They lie as well in a file of the version that a commit writes.

pub stored_newer : (version next : ℕ) (file : List ℕ) (s : DocumentRef) → IsNextVersion version next → has_sums next ≡ has_sums version → IsStored version file s → IsStored next file s
stored_newer version next file s (inr three) same stored =
    let old : version ≡ 3 = eqb-true version 3 (sym same ∙ ap has_sums three) in
    subst (λ v. IsStored v file s) (old ∙ sym three) stored
stored_newer version next file s (inl two) same stored =
    let not_three : version ≢ 3 = two.1 in
    let summed : has_sums 2 ≡ has_sums version = ap has_sums (sym two.0) ∙ same in
    let newer : IsStored 2 file s = record {
      version = stored.version;
      directory = directory_of-newer version file s.directory (directory_of_table stored.version s.table.value) not_three stored.directory;
      images = stored.images;
      sum = stored.sum ∙ ap (λ b. sum_for b (bytes_in file s.directory)) (sym summed);
      sums = subst (λ b. AreSummed b file s.table.value.places.items) (sym summed) stored.sums;
    } in
    subst (λ v. IsStored v file s) (sym two.0) newer

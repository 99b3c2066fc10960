-- What holds of a table holds of a copy, and of a document that shares it.
use Rattle.std.proofs.Common.{◌≡◌, ◌⊎◌, ℕ, suc, ◌-◌, ◌≤◌, Bool, true, false, IsTrue, List, ◌∷◌, length, get_or, Option, None, Some, is_some, All, refl, sym, ap, ap₂, subst, ◌∙◌, arith, inl, inr}
use Rattle.std.specs.Prelude.{if◌then◌else◌}
use Rattle.std.proofs.lemmas.List.Elements.{All-append}
use Rattle.vm_store.specs.Facts.{StoreFacts}
use Rattle.file_format.specs.File.{bytes_in, directory_of}
use Rattle.document_file.specs.Ranges.{IsPlaced}
use Rattle.document_file.specs.Slots.{block_extents, stored_extents, pair_extents}
use Rattle.document_file.specs.Documents.{blocks_in, directory_of_table, document_in, documents_in, AreImaged, IsStored, AreStored}
use Rattle.document_file.specs.Sound.{ArePlaces, IsBlockTable, AreTables, IsSound}
use Rattle.document_file.specs.Disk.{SameUnlessCorrupt}
use Rattle.document_file.specs.Copies.{IsCopy, IsSameStored}
use Rattle.document_file.specs.Sums.{AreSummed, has_sums, sum_for}
use Rattle.document_file.specs.declared.table.Place.{Place}
use Rattle.document_file.specs.declared.table.BlockTable.{BlockTable}
use Rattle.document_file.specs.declared.table.DocumentRef.{DocumentRef}
use Rattle.document_file.specs.declared.table.Pair.{Pair}
use Rattle.document_file.specs.declared.slot.Slots.{Slots}
use Rattle.document_file.proofs.RangesLemmas.{all_right}
use Rattle.document_file.proofs.DocumentsLemmas.{stored_within}
use Rattle.document_file.proofs.SoundLemmas.{EndsIn, sound_live, sound_marked, kept_pair}
use Rattle.document_file.proofs.TableLemmas.{shown, places_drift}

-- a property of the map block and the places
copied : (P : ℕ → List (Option Place) → Type 0) (copy table : BlockTable) → IsCopy copy table → P table.map_block table.places.items → P copy.map_block copy.places.items
copied P copy table is p = subst (λ m. P m copy.places.items) (sym is.map_block) (subst (P table.map_block) (sym is.places) p)

pub copy_document : (file : List ℕ) (copy table : BlockTable) → IsCopy copy table → document_in file copy ≡ document_in file table
copy_document file copy table is = ap₂ (shown file) is.places is.map_block

pub copy_formed : (copy table : BlockTable) → IsCopy copy table → IsBlockTable table → IsBlockTable copy
copy_formed copy table is was = record {
  size = (let long = ap length is.places in let few = was.size in omega (arith, long, few));
  places = subst ArePlaces (sym is.places) was.places;
  map_block = copied (λ m ps. (m ≡ 0) ⊎ ((1 ≤ m) × (is_some (get_or ps (m - 1) None) ≡ true))) copy table is was.map_block;
}

pub same_extents : (other stored : DocumentRef) → IsSameStored other stored → stored_extents other ≡ stored_extents stored
same_extents other stored is = λ i. is.directory i ∷ block_extents (is.table i).places.items

pub same_stored : (version : ℕ) (file : List ℕ) (other stored : DocumentRef) → IsSameStored other stored → IsStored version file stored → IsStored version file other
same_stored version file other stored is was = record {
  version = was.version;
  directory = ap (directory_of version file) is.directory ∙ was.directory ∙ sym (ap (λ (t : BlockTable). Some (directory_of_table was.version t)) is.table);
  images = subst (λ (t : BlockTable). AreImaged file t.places.items) (sym is.table) was.images;
  sum = is.sum ∙ was.sum ∙ ap (λ e. sum_for (has_sums version) (bytes_in file e)) (sym is.directory);
  sums = subst (λ (t : BlockTable). AreSummed (has_sums version) file t.places.items) (sym is.table) was.sums;
}

-- A pair of two documents that are these.
module _ (file : List ℕ) (pair : Pair) (updated saved : DocumentRef) (first : IsSameStored pair.updated updated) (second : IsSameStored pair.saved saved) where
  pub pair_documents : documents_in file pair ≡ (document_in file updated.table.value, document_in file saved.table.value)
  pair_documents = λ i. (document_in file (first.table i), document_in file (second.table i))

  pub pair_tables : IsBlockTable updated.table.value → IsBlockTable saved.table.value → AreTables pair
  pair_tables u s = record { updated = subst IsBlockTable (sym first.table) u; saved = subst IsBlockTable (sym second.table) s }

  pub pair_placed : All IsPlaced (stored_extents updated) → All IsPlaced (stored_extents saved) → All IsPlaced (pair_extents pair)
  pair_placed u s = All-append IsPlaced (stored_extents pair.updated) (stored_extents pair.saved) (subst (All IsPlaced) (sym (same_extents pair.updated updated first)) u) (subst (All IsPlaced) (sym (same_extents pair.saved saved second)) s)

  pub pair_stored : (version : ℕ) → IsStored version file updated → IsStored version file saved → AreStored version file pair
  pair_stored version u s = record { updated = same_stored version file pair.updated updated first u; saved = same_stored version file pair.saved saved second s }

-- the saved document, as the live one
pub sound_saved : (store : StoreFacts) (live copy : BlockTable) (slots : Slots) → has_sums slots.version ≡ has_sums slots.next_version → IsCopy copy slots.committed.saved.table.value → IsSound store live slots → IsSound store copy slots
sound_saved store live copy slots summed is sound =
    let saved = slots.committed.saved in
    let placed = all_right IsPlaced (stored_extents slots.committed.updated) (stored_extents saved) (kept_pair IsPlaced slots sound.formed.kept) in
    sound_live store live copy slots sound (copy_formed copy saved.table.value is sound.formed.committed.saved) (subst (λ ps. All IsPlaced (block_extents ps)) (sym is.places) (λ k d inside. placed (suc k) d (omega arith)))
    (λ so. (subst (AreImaged store.content) (sym is.places) (sound.whole so).committed.saved.images, subst (λ b. AreSummed b store.content copy.places.items) summed (subst (AreSummed (has_sums slots.version) store.content) (sym is.places) (sound.whole so).committed.saved.sums)))
    (λ so. subst (λ ps. All (EndsIn store.content) (block_extents ps)) (sym is.places) (stored_within slots.version store.content saved (sound.whole so).committed.saved).1)

-- and the live one marked
pub sound_copied : (store : StoreFacts) (live copy : BlockTable) (slots : Slots) → IsCopy copy live → IsSound store live slots → IsSound store live (record slots { marked = Some copy })
sound_copied store live copy slots is sound =
    sound_marked store live slots (Some copy) sound (copy_formed copy live is sound.formed.table) (subst (λ ps. All IsPlaced (block_extents ps)) (sym is.places) sound.formed.placed)
    (λ so. (subst (AreImaged store.content) (sym is.places) (sound.whole so).images, subst (AreSummed (has_sums slots.next_version) store.content) (sym is.places) (sound.whole so).sums)) (λ so. subst (λ ps. All (EndsIn store.content) (block_extents ps)) (sym is.places) (sound.whole so).within)

pub copy_itself : (table : BlockTable) → IsCopy table table
copy_itself table = record { map_block = refl; places = refl }

-- the document of a table, or of its copy, in another file
pub copy_drifts : (honest : Bool) (file c : List ℕ) (copy table : BlockTable) → IsCopy copy table → (IsTrue honest → document_in c copy ≡ document_in file table) → SameUnlessCorrupt honest (document_in file table) (document_in c copy)
copy_drifts honest file c copy table is same =
    let nothing : IsTrue false → blocks_in c table.places.items ≡ blocks_in file table.places.items = λ no. absurd (cc no) in
    let drift = subst (λ d. SameUnlessCorrupt false (document_in file table) d) (sym (copy_document c copy table is)) (places_drift false file c table.places.items table.map_block nothing) in
    record { live = drift.live; attributes = drift.attributes; kinds = drift.kinds; map_block = drift.map_block; same = same }

-- The saved document beside one that is to be committed: that one, or the one that was saved.

pub beside_alike : (saves : Bool) (Is : Type 0) (saved pending committed : DocumentRef) → (saves ≡ true) ⊎ Is → IsSameStored saved (if saves then pending else committed)
    → (Is × IsSameStored saved committed) ⊎ IsSameStored saved pending
beside_alike true Is saved pending committed still is = inr is
beside_alike false Is saved pending committed still is = elim still as (λ _. (Is × IsSameStored saved committed) ⊎ IsSameStored saved pending) [ inl saves ↦ absurd (cc saves) | inr same ↦ inl (same, is) ]

pub beside_document : (file : List ℕ) (saves : Bool) (saved pending committed : DocumentRef) (live : BlockTable) → IsSameStored saved (if saves then pending else committed) → IsCopy pending.table.value live
    → document_in file saved.table.value ≡ (if saves then document_in file live else document_in file committed.table.value)
beside_document file true saved pending committed live is table = ap (document_in file) is.table ∙ copy_document file pending.table.value live table
beside_document file false saved pending committed live is table = ap (document_in file) is.table

-- What the reading of a file finds in it.
use Rattle.std.specs.Prelude.{◌≡◌, ◌⊎◌, ℕ, ◌+◌, ◌*◌, ◌<◌, ◌≤◌, ◌^◌, Bool, List, All, None, Some, Ok, length, if◌then◌else◌}
use Rattle.vm_store.specs.Facts.{byte}
use Rattle.geos_model.specs.Document.{is_heap_body}
use Rattle.geos_model.specs.Image.{body_of, body_read}
use Rattle.file_format.specs.File.{open_slot, counting_slot, stands}
use Rattle.document_file.specs.Ranges.{IsPlaced, end_of}
use Rattle.document_file.specs.Slots.{stored_extents, pair_extents, IsBeside, Outcome}
use Rattle.document_file.specs.Documents.{AreStored, documents_in, has_checksums, sequence_in}
use Rattle.document_file.specs.Sound.{IsBlockTable, AreTables}
use Rattle.document_file.specs.Sums.{has_sums, version_for}
pub use Rattle.file_format.specs.Reading.{OnlyReadsStore}
use Rattle.file_format.specs.Slots.{IsVersion}
use Rattle.document_file.specs.declared.table.DocumentRef.{DocumentRef}
use Rattle.document_file.specs.declared.table.Pair.{Pair}
use Rattle.document_file.specs.declared.slot.SpareSlot.TheVariants.{Shut, Stale}
use Rattle.document_file.specs.declared.slot.Slots.{Slots}
use Rattle.document_file.specs.declared.slot.ActiveSlot.{ActiveSlot}

-- the bytes are the image of a body of this kind
pub record IsImageOf (is_heap : Bool) (bytes : List ℕ) : Type 0 where
  pub image : body_of bytes ≡ Some (body_read bytes)
  pub kind : is_heap ≡ is_heap_body (body_read bytes)

-- a document that was read from a file of n bytes
pub record IsReadDocument (n : ℕ) (s : DocumentRef) : Type 0 where
  pub table : IsBlockTable s.table.value
  pub placed : All IsPlaced (stored_extents s)
  pub within : All (λ e. end_of e ≤ n) (stored_extents s)

pub record AreReadDocuments (n : ℕ) (pair : Pair) : Type 0 where
  pub updated : IsReadDocument n pair.updated
  pub saved : IsReadDocument n pair.saved

-- the slot that counts, and what is known of the other one
pub record IsActiveSlot (file : List ℕ) (active : ActiveSlot) : Type 0 where
  pub long : 1024 ≤ length file
  pub bytes : (i : ℕ) → i < 44 → byte file (512 * (if active.second then 1 else 0) + i) < 256
  pub counts : counting_slot (open_slot file 0) (open_slot file 1) ≡ Ok active.slot
  pub opened : open_slot file (if active.second then 1 else 0) ≡ Some active.slot
  -- whatever version commits write: none is prepared
  pub beside : (next : ℕ) → IsBeside next active.spare (if active.second then 0 else 1) active.slot.sequence file file

-- slots that were read, from any store
pub record IsReadSlots (slots : Slots) : Type 0 where
  pub committed : AreTables slots.committed
  pub placed : All IsPlaced (pair_extents slots.committed)
  pub version : IsVersion slots.version
  pub numbered : 1 ≤ slots.sequence
  pub in_range : slots.sequence < 2 ^ 64
  pub spare : (slots.spare ≡ Shut) ⊎ (slots.spare ≡ Stale)
  pub unmarked : slots.marked ≡ None
  pub unturned : slots.saved_sums ≡ None
  pub next_version : slots.next_version ≡ version_for (has_sums slots.version)

-- from an honest one
pub record IsReadWhole (file : List ℕ) (slots : Slots) : Type 0 where
  pub stored : AreStored slots.version file slots.committed
  pub within : All (λ e. end_of e ≤ length file) (pair_extents slots.committed)
  pub outcome : Outcome slots file file
  pub stands : stands file ≡ Ok (documents_in file slots.committed)
  pub numbered : sequence_in file ≡ Some slots.sequence
  pub versioned : has_checksums file ≡ has_sums slots.version

-- The documents that tables of places stand for.
use Rattle.std.specs.Prelude.{◌≡◌, ℕ, ◌+◌, ◌==◌, ◌&&◌, List, [], ◌∷◌, Bool, true, false, map, Option, None, Some, Result, Ok, Err, All, IfSome}
use Rattle.std.specs.FinMap.{empty}
use Rattle.std.specs.Option.{option_map}
use Rattle.geos_model.specs.Document.{Block, Document, is_heap_body}
use Rattle.geos_model.specs.Image.{body_of, body_read}
use Rattle.file_format.specs.File.{Directory, bytes_in, directory_of, open_slot, counting_slot, pair_of}
use Rattle.geos_model.specs.declared.command.Body.{Body}
use Rattle.geos_model.specs.declared.command.Body.TheVariants.{Raw, Heap}
use Rattle.geos_model.specs.declared.fault.Fault.{Fault}
use Rattle.file_format.specs.declared.file.Slot.{Slot}
use Rattle.file_format.specs.declared.file.Entry.{Entry}
use Rattle.geos_model.proofs.Table.{table_map}
use Rattle.document_file.specs.Sums.{AreSummed, has_sums, sum_for}
use Rattle.document_file.specs.declared.table.Place.{Place}
use Rattle.document_file.specs.declared.table.BlockTable.{BlockTable}
use Rattle.document_file.specs.declared.table.DocumentRef.{DocumentRef}
use Rattle.document_file.specs.declared.table.Pair.{Pair}
use Rattle.document_file.specs.declared.slot.SpareSlot.{SpareSlot}
use Rattle.document_file.specs.declared.slot.SpareSlot.TheVariants.{Shut, Stale, Prepared}

-- the updated and the saved document
abbrev pub Documents : Type 0
Documents = Document × Document

-- the body if it is of this kind, else one of the kind with nothing in it
abbrev pub of_kind : Bool → Body → Body
of_kind false (Raw bytes) = Raw bytes
of_kind false (Heap m) = Raw []
of_kind true (Raw bytes) = Heap empty
of_kind true (Heap m) = Heap m

-- The block whose image lies at a place. It is of the place's kind over any store, and over an honest one so is the
-- image.
abbrev pub block_in : List ℕ → Place → Block
block_in file place =
    record { attributes = place.attributes; body = of_kind place.is_heap (body_read (bytes_in file place.extent)) }

abbrev pub blocks_in : List ℕ → List (Option Place) → List (Option Block)
blocks_in file places = map (option_map (block_in file)) places

-- the document of a table
abbrev pub document_in : List ℕ → BlockTable → Document
document_in file table =
    record { blocks = table_map 1 1 (blocks_in file table.places.items); map_block = table.map_block }

abbrev pub documents_in : List ℕ → Pair → Documents
documents_in file pair = (document_in file pair.updated.table.value, document_in file pair.saved.table.value)

-- those of a commit that failed in its last step
abbrev pub attempted_in : List ℕ → SpareSlot → List Documents
attempted_in file Shut = []
attempted_in file Stale = []
attempted_in file (Prepared pair) = documents_in file pair ∷ []

-- the entries of the blocks of a table; h is the first handle
abbrev pub entries_of : ℕ → List (Option Place) → List Entry
entries_of h [] = []
entries_of h (None ∷ places) = entries_of (h + 1) places
entries_of h (Some place ∷ places) =
    record { handle = record { 0 = h }; attributes = place.attributes; extent = place.extent; sum = place.sum }
    ∷ entries_of (h + 1) places

-- its directory, in a version
abbrev pub directory_of_table : ℕ → BlockTable → Directory
directory_of_table version table =
    record { version = version; map_block = table.map_block; entries = entries_of 1 table.places.items }

-- the place has the image of a body of its kind
pub record IsImaged (file : List ℕ) (place : Place) : Type 0 where
  pub image : body_of (bytes_in file place.extent) ≡ Some (body_read (bytes_in file place.extent))
  pub kind : place.is_heap ≡ is_heap_body (body_read (bytes_in file place.extent))

-- each place of a table has one
abbrev pub AreImaged : List ℕ → List (Option Place) → Type 0
AreImaged file places = All (λ place. IfSome place (IsImaged file)) places

-- a document whose directory, of whichever version, and images lie in the file, which is of a version, with their sums
pub record IsStored (file_version : ℕ) (file : List ℕ) (s : DocumentRef) : Type 0 where
  pub version : ℕ
  pub directory : directory_of file_version file s.directory ≡ Some (directory_of_table version s.table.value)
  pub images : AreImaged file s.table.value.places.items
  pub sum : s.sum ≡ sum_for (has_sums file_version) (bytes_in file s.directory)
  pub sums : AreSummed (has_sums file_version) file s.table.value.places.items

pub record AreStored (file_version : ℕ) (file : List ℕ) (pair : Pair) : Type 0 where
  pub updated : IsStored file_version file pair.updated
  pub saved : IsStored file_version file pair.saved

-- where commits write a version
abbrev pub IsPreparedStored : ℕ → List ℕ → SpareSlot → Type 0
IsPreparedStored version file Shut = Unit {0}
IsPreparedStored version file Stale = Unit {0}
IsPreparedStored version file (Prepared pair) = AreStored version file pair

abbrev pub sequence_of : Result Slot Fault → Option ℕ
sequence_of (Ok s) = Some s.sequence
sequence_of (Err fault) = None

-- the sequence number of the slot that counts
abbrev pub sequence_in : List ℕ → Option ℕ
sequence_in file = sequence_of (counting_slot (open_slot file 0) (open_slot file 1))

abbrev pub version_of : Result Slot Fault → Option ℕ
version_of (Ok s) = Some s.version
version_of (Err fault) = None

-- its version, which is the file's
abbrev pub version_in : List ℕ → Option ℕ
version_in file = version_of (counting_slot (open_slot file 0) (open_slot file 1))

abbrev pub is_of_version_3 : Result Slot Fault → Bool
is_of_version_3 (Ok s) = has_sums s.version
is_of_version_3 (Err fault) = false

-- whether the file has sums: that of version 3
abbrev pub has_checksums : List ℕ → Bool
has_checksums file = is_of_version_3 (counting_slot (open_slot file 0) (open_slot file 1))

abbrev pub is_for_both : Result Slot Fault → Bool
is_for_both (Ok s) = s.working.page == s.saved.page && s.working.length == s.saved.length
is_for_both (Err fault) = false

-- whether the slot that counts has one directory for both documents
abbrev pub has_one_directory : List ℕ → Bool
has_one_directory file = is_for_both (counting_slot (open_slot file 0) (open_slot file 1))

-- a slot, 0 or 1, is open and leads to documents
abbrev pub IsOpenTo : ℕ → Slot → Documents → List ℕ → Type 0
IsOpenTo page slot documents file = (open_slot file page ≡ Some slot) × (pair_of file slot ≡ Ok documents)

-- Laws of document files.
use Rattle.std.specs.Prelude.{◌≡◌, ◌≢◌, ◌+◌, ◌*◌, ◌^◌, ◌<◌, ◌≤◌, ℕ, List, All, true, ◌++◌, Option, None, Some, is_some, if◌then◌else◌, length, slice_index}
use Rattle.geos_model.specs.Document.{Block, Document, IsValid, FitAttributes, IsTyped, is_valid_body, is_heap_body, most_blocks}
use Rattle.geos_model.specs.Image.{image, body_of}
use Rattle.file_format.specs.File.{Directory, slot_text, slot_of, directory_text, directory_read, entry_start, is_directory, directory_in, directory_of, document_at, if_typed}
use Rattle.geos_model.specs.declared.command.Body.{Body}
use Rattle.file_format.specs.declared.file.Extent.{Extent}
use Rattle.file_format.specs.declared.file.Entry.{Entry}
use Rattle.file_format.specs.declared.file.Slot.{Slot}
use Rattle.file_format.specs.declared.file.SlotSums.{SlotSums}

-- Numbers that their texts have room for.

abbrev pub FitsExtent : Extent → Type 0
FitsExtent e = (e.page < 2 ^ 32) × (e.length < 2 ^ 32)

abbrev pub FitSlotSums : ℕ → Option SlotSums → Type 0
FitSlotSums version None = version ≢ 3
FitSlotSums version (Some t) = (version ≡ 3) × (t.working < 2 ^ 32) × (t.saved < 2 ^ 32) × (t.own < 2 ^ 32)

pub record FitsSlot (s : Slot) : Type 0 where
  pub gate : s.gate < 256
  pub version : s.version < 256
  pub reserved : s.reserved < 65536
  pub sequence : s.sequence < 2 ^ 64
  pub working : FitsExtent s.working
  pub saved : FitsExtent s.saved
  pub sums : FitSlotSums s.version s.sums

pub record FitsEntry (e : Entry) : Type 0 where
  pub handle : e.handle.0 < 65536
  pub attributes : FitAttributes e.attributes
  pub extent : FitsExtent e.extent

-- version 3 has room for a sum, and needs one
abbrev pub FitsSum : ℕ → Option ℕ → Type 0
FitsSum version None = version ≢ 3
FitsSum version (Some sum) = (version ≡ 3) × (sum < 2 ^ 32)

abbrev pub FitSums : ℕ → List Entry → Type 0
FitSums version entries = All (λ e. FitsSum version e.sum) entries

-- version 1 has no room for types
abbrev pub FitTypes : ℕ → List Entry → Type 0
FitTypes version entries = version ≡ 1 → All (λ e. e.attributes.heap_type ≡ 0) entries

pub record FitsDirectory (d : Directory) : Type 0 where
  pub version : d.version < 65536
  pub types : FitTypes d.version d.entries
  pub sums : FitSums d.version d.entries
  pub map_block : d.map_block < 65536
  pub count : length d.entries < 65536
  pub entries : All FitsEntry d.entries

-- The bytes of an extent stay, in a file that may get longer or shorter.
pub record KeepsExtent (old new : List ℕ) (e : Extent) : Type 0 where
  pub within : 512 * e.page + e.length ≤ length new
  pub bytes : (i : ℕ) → 512 * e.page ≤ i → i < 512 * e.page + e.length → slice_index new i ≡ slice_index old i

pub record FileLaw : Type 0 where
  -- What is read as a body is one that can be, and is read from its image alone.
  pub body : (bytes : List ℕ) (b : Body) → body_of bytes ≡ Some b → (is_valid_body b ≡ true) × (image b ≡ bytes)
  pub body_back : (b : Body) → is_valid_body b ≡ true → body_of (image b) ≡ Some b
  -- A heap can stand under any type, and a raw body under none.
  pub typed : (b : Block) → IsTyped (is_heap_body b.body) b.attributes
      → if_typed b.attributes.heap_type b.body ≡ Some b.body
  -- A slot's text has 32 bytes, and 44 with sums, and is read back whatever stands behind it.
  pub slot_size : (s : Slot) → length (slot_text s) ≡ (if is_some s.sums then 44 else 32)
  pub slot_back : (s : Slot) (rest : List ℕ) → FitsSlot s → slot_of (slot_text s ++ rest) ≡ Some s
  -- A directory's text has 16 bytes and 16 or 20 for each entry, and is that of no other directory.
  pub directory_size : (d : Directory) → length (directory_text d) ≡ entry_start d.version (length d.entries)
  pub directory_back : (d : Directory) → FitsDirectory d → directory_read (directory_text d) ≡ d
  -- What is read as a directory can stand in the file, has numbers that fit and at most as many entries as a document
  -- can have blocks, and is read from its text alone.
  pub directory : (version n : ℕ) (bytes : List ℕ) (d : Directory) → directory_in version n bytes ≡ Some d
      → (is_directory version n d ≡ true) × (directory_text d ≡ bytes) × FitsDirectory d
      × (length d.entries ≤ most_blocks)
  pub directory_reads : (version n : ℕ) (d : Directory) → is_directory version n d ≡ true
      → All (λ e. FitAttributes e.attributes) d.entries → FitTypes d.version d.entries → FitSums d.version d.entries
      → directory_in version n (directory_text d) ≡ Some d
  -- A document that stands in a file is valid.
  pub valid : (version : ℕ) (file : List ℕ) (e : Extent) (d : Document) → document_at version file e ≡ Some d
      → IsValid d
  -- It stands for as long as the bytes of its directory and of its blocks stay.
  pub kept : (version : ℕ) (old new : List ℕ) (e : Extent) (d : Directory) → directory_of version old e ≡ Some d
      → KeepsExtent old new e → All (λ entry. KeepsExtent old new entry.extent) d.entries
      → (directory_of version new e ≡ Some d) × (document_at version new e ≡ document_at version old e)
  -- What stands in a file of version 1 stands in one of version 2: a commit may keep the saved directory.
  pub newer : (version : ℕ) (file : List ℕ) (e : Extent) (d : Directory) → version ≢ 3
      → directory_of version file e ≡ Some d
      → (directory_of 2 file e ≡ Some d) × (document_at 2 file e ≡ document_at version file e)

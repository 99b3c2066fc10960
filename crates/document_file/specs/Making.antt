-- The making of a file.
use Rattle.std.specs.Prelude.{◌≡◌, ◌⊎◌, ℕ, ◌+◌, ◌*◌, ◌<◌, ◌≤◌, max, Bool, true, false, if◌then◌else◌, List, [], ◌∷◌, ◌++◌, All, IfSome, Option, None, Some, length, replicate, take, drop}
use Rattle.vm_store.specs.Facts.{byte, Holds, WritesBytes}
use Rattle.file_format.specs.File.{slot_mark, slot_text, Directory, directory_text, bytes_in, has_sum, pages_of}
use Rattle.file_format.specs.declared.file.Extent.{Extent}
use Rattle.file_format.specs.declared.file.Slot.{Slot}
use Rattle.geos_model.specs.Document.{FitAttributes}
use Rattle.document_file.specs.Ranges.{IsPlaced, start_of, end_of, IsClear}
use Rattle.document_file.specs.Slots.{behind_gate, block_extents, sums_of}
use Rattle.document_file.specs.Documents.{blocks_in, document_in, attempted_in, entries_of, directory_of_table, AreImaged}
use Rattle.document_file.specs.Sound.{IsBlockTable}
use Rattle.document_file.specs.Opened.{IsImageOf}
use Rattle.document_file.specs.Sums.{AreSummed, kept_sum, sum_for, version_for}
use Rattle.document_file.specs.declared.table.Place.{Place}
use Rattle.document_file.specs.declared.table.BlockTable.{BlockTable}
use Rattle.document_file.specs.declared.table.DocumentRef.{DocumentRef}
use Rattle.document_file.specs.declared.table.Pair.{Pair}
use Rattle.document_file.specs.declared.slot.Slots.{Slots}
use Rattle.document_file.specs.declared.slot.SpareSlot.TheVariants.{Shut}

-- what a first slot holds whose gate is shut
abbrev pub first_slot : ℕ → Pair → List ℕ
first_slot version pair = slot_mark ++ 0 ∷ behind_gate version 1 pair

-- Slot 0 is of a version, has the number 1 and leads to a pair in one directory, which has this text, and slot 1 has
-- its mark; all others are as they were.
pub record IsLaid (gate version : ℕ) (pair : Pair) (text old new : List ℕ) : Type 0 where
  pub gate_is : byte new 4 ≡ gate
  pub marked : Holds new 0 slot_mark
  pub rest : Holds new 5 (behind_gate version 1 pair)
  pub second : Holds new 512 slot_mark
  pub beside : byte new 516 ≡ byte old 516
  pub there : Holds new (start_of pair.updated.directory) text
  pub others : (i : ℕ) → 5 + length (behind_gate version 1 pair) ≤ i → (i < 512) ⊎ (516 ≤ i)
      → (i < start_of pair.updated.directory) ⊎ (start_of pair.updated.directory + length text ≤ i)
      → byte new i ≡ byte old i
  pub size : length new ≡ max (length old) (start_of pair.updated.directory + length text)

-- the same document, with a directory and its sum
pub record IsLiveStored (directory : Extent) (sum : Option ℕ) (live : BlockTable) (s : DocumentRef) : Type 0 where
  pub directory_is : s.directory ≡ directory
  pub sum_is : s.sum ≡ sum
  pub map_block : s.table.value.map_block ≡ live.map_block
  pub places : s.table.value.places.items ≡ live.places.items

-- the slots of a file that was just made, with sums or without: updated and saved is the live document, whose directory
-- has this text
pub record IsNewSlots (checksums : Bool) (directory : Extent) (text : List ℕ) (live : BlockTable) (slots : Slots)
    : Type 0 where
  pub second : slots.second ≡ false
  pub version : slots.version ≡ version_for checksums
  pub next_version : slots.next_version ≡ version_for checksums
  pub sequence : slots.sequence ≡ 1
  pub spare : slots.spare ≡ Shut
  pub updated : IsLiveStored directory (sum_for checksums text) live slots.committed.updated
  pub saved : IsLiveStored directory (sum_for checksums text) live slots.committed.saved
  pub unmarked : slots.marked ≡ None
  pub unturned : slots.saved_sums ≡ None

-- so that the live document is the updated and the saved one
pub record IsOne (checksums : Bool) (file : List ℕ) (live : BlockTable) (slots : Slots) : Type 0 where
  pub updated : document_in file slots.committed.updated.table.value ≡ document_in file live
  pub saved : document_in file slots.committed.saved.table.value ≡ document_in file live
  pub in_doubt : attempted_in file slots.spare ≡ []
  pub unmarked : slots.marked ≡ None
  pub version : slots.version ≡ version_for checksums
  pub next_version : slots.next_version ≡ version_for checksums
  pub sequence : slots.sequence ≡ 1

-- what is known of a table whose directory is written
pub record IsFounding (checksums : Bool) (directory : Extent) (text : List ℕ) (live : BlockTable) : Type 0 where
  pub table : IsBlockTable live
  pub placed : All IsPlaced (block_extents live.places.items)
  pub directory_placed : IsPlaced directory
  pub clear : IsClear (start_of directory) directory.length (block_extents live.places.items)
  pub attributes : All (λ e. FitAttributes e.attributes) (entries_of 1 live.places.items)
  pub text_is : text ≡ directory_text (directory_of_table (version_for checksums) live)
  pub size : length text ≡ directory.length

-- The file of no block.

-- its directory lies behind the slots
abbrev pub first_directory : Extent
first_directory = record { page = 2; length = 16 }

abbrev pub no_blocks : Bool → Directory
no_blocks checksums = record { version = version_for checksums; map_block = 0; entries = [] }

-- the sum of its text
abbrev pub first_sum : Bool → Option ℕ
first_sum checksums = sum_for checksums (directory_text (no_blocks checksums))

-- the slot that counts, without its sums
abbrev pub first_unsummed : Bool → Slot
first_unsummed checksums =
    record {
      gate = 1;
      version = version_for checksums;
      reserved = 0;
      sequence = 1;
      working = first_directory;
      saved = first_directory;
      sums = None;
    }

-- the slot that counts
abbrev pub first_open : Bool → Slot
first_open checksums =
    let s = first_unsummed checksums in
    record s { sums = sums_of s (first_sum checksums) (first_sum checksums) }

-- its bytes: slot 0 at page 0, the mark of slot 1 at page 1, the directory at page 2, and zeros between them
unfoldable pub first_file : Bool → List ℕ
first_file checksums =
    slot_text (first_open checksums) ++ replicate (if checksums then 468 else 480) 0
    ++ slot_mark ++ replicate 508 0 ++ directory_text (no_blocks checksums)

-- which these bytes are
pub record FirstFileLaw : Type 0 where
  pub size : length (first_file false) ≡ 1040
  pub slot : take 32 (first_file false) ≡ 0x47 ∷ 0x56 ∷ 0x4d ∷ 0x46 ∷ 1 ∷ 2 ∷ 0 ∷ 0 ∷ 1 ∷ 0 ∷ 0 ∷ 0 ∷ 0 ∷ 0 ∷ 0 ∷ 0 ∷ 2 ∷ 0 ∷ 0
      ∷ 0 ∷ 16 ∷ 0 ∷ 0 ∷ 0 ∷ 2 ∷ 0 ∷ 0 ∷ 0 ∷ 16 ∷ 0 ∷ 0 ∷ 0 ∷ []
  pub behind_slot : take 480 (drop 32 (first_file false)) ≡ replicate 480 0
  pub mark : take 4 (drop 512 (first_file false)) ≡ 0x47 ∷ 0x56 ∷ 0x4d ∷ 0x46 ∷ []
  pub behind_mark : take 508 (drop 516 (first_file false)) ≡ replicate 508 0
  pub directory : drop 1024 (first_file false) ≡ 0x47 ∷ 0x44 ∷ 0x49 ∷ 0x52 ∷ 2 ∷ 0 ∷ 0 ∷ 0 ∷ 0 ∷ 0 ∷ 0 ∷ 0 ∷ 0 ∷ 0 ∷ 0 ∷ 0 ∷ []

-- Copies.

-- a place whose extent begins at another page, in a file with sums or without
abbrev pub moved_to : Bool → ℕ → Option Place → Option Place
moved_to checksums page None = None
moved_to checksums page (Some place) =
    Some (record place {
      extent = record { page = page; length = place.extent.length };
      sum = kept_sum checksums place.sum;
    })

-- how many pages its extent takes
abbrev pub pages_taken : Option Place → ℕ
pages_taken None = 0
pages_taken (Some place) = pages_of place.extent.length

-- the places whose extents lie one behind the other from a page on
abbrev pub laid_out : Bool → ℕ → List (Option Place) → List (Option Place)
laid_out checksums page [] = []
laid_out checksums page (o ∷ os) = moved_to checksums page o ∷ laid_out checksums (page + pages_taken o) os

-- the page behind them
abbrev pub page_behind : ℕ → List (Option Place) → ℕ
page_behind page [] = page
page_behind page (o ∷ os) = page_behind (page + pages_taken o) os

-- An image of the place's kind, with the sum that the place keeps, is put at a page; it is the one that an honest
-- source has.
pub record IsImageCopied (checksums : Bool) (page : ℕ) (place : Place) (honest : Type 0) (source old new : List ℕ)
    : Type 0 where
  pub image : List ℕ
  pub is_image : IsImageOf place.is_heap image
  pub summed : has_sum (kept_sum checksums place.sum) image ≡ true
  pub size : length image ≡ place.extent.length
  pub put : WritesBytes (512 * page) image old new
  pub same : honest → image ≡ bytes_in source place.extent

abbrev pub IsBlockCopied : Bool → ℕ → Option Place → Type 0 → List ℕ → List ℕ → List ℕ → Type 0
IsBlockCopied checksums page None honest source old new = new ≡ old
IsBlockCopied checksums page (Some place) honest source old new =
    IsImageCopied checksums page place honest source old new

-- The images of these places lie one behind the other, and nothing else is changed in the slots.
pub record AreCopied (checksums : Bool) (honest : Type 0) (source : List ℕ) (places : List (Option Place))
    (old new : List ℕ) : Type 0 where
  pub images : AreImaged new (laid_out checksums 2 places)
  pub sums : AreSummed checksums new (laid_out checksums 2 places)
  pub within : All (λ o. IfSome o (λ p. end_of p.extent ≤ length new)) (laid_out checksums 2 places)
  pub beside : byte new 516 ≡ byte old 516
  pub blocks : honest → blocks_in new (laid_out checksums 2 places) ≡ blocks_in source places

-- What always holds of a document file.
use Rattle.std.specs.Prelude.{◌≡◌, ◌≢◌, ◌⊎◌, ℕ, List, ◌+◌, ◌-◌, ◌^◌, ◌<◌, ◌≤◌, ◌++◌, true, IsTrue, Option, None, Some, IfSome, is_some, length, All, get_or}
use Rattle.std.specs.Option.{option_map}
use Rattle.vm_store.specs.Facts.{StoreFacts}
use Rattle.geos_model.specs.Document.{most_blocks, IsTyped}
use Rattle.file_format.specs.File.{longest_image}
use Rattle.document_file.specs.Ranges.{IsPlaced, end_of}
use Rattle.document_file.specs.Slots.{block_extents, referenced_extents, marked_extents, AreExtentsPlaced, CrashLeavesSlots}
use Rattle.document_file.specs.Documents.{document_in, attempted_in, AreImaged, AreStored, IsPreparedStored}
use Rattle.document_file.specs.Disk.{Disk}
use Rattle.document_file.specs.FreeSpace.{IsSpaceOf}
use Rattle.document_file.specs.Listing.{AreBounds}
use Rattle.file_space.specs.Space.{Space}
use Rattle.document_file.specs.Sums.{AreSummed, IsResummed, has_sums}
use Rattle.file_format.specs.Slots.{IsVersion}
use Rattle.document_file.specs.declared.table.Place.{Place}
use Rattle.document_file.specs.declared.table.BlockTable.{BlockTable}
use Rattle.document_file.specs.declared.listing.Bounds.{Bounds}
use Rattle.document_file.specs.declared.table.Pair.{Pair}
use Rattle.document_file.specs.declared.slot.SpareSlot.{SpareSlot}
use Rattle.document_file.specs.declared.slot.SpareSlot.TheVariants.{Shut, Stale, Prepared}
use Rattle.document_file.specs.declared.slot.Slots.{Slots}

-- A place that can be: of an image that isn't too long, and of attributes that its kind can have.
pub record IsPlace (place : Place) : Type 0 where
  pub short : place.extent.length ≤ longest_image
  pub typed : IsTyped place.is_heap place.attributes

abbrev pub ArePlaces : List (Option Place) → Type 0
ArePlaces places = All (λ place. IfSome place IsPlace) places

-- A table that can be: places for the handles up to some number, past which none is live, and the map block none or
-- live.
pub record IsBlockTable (table : BlockTable) : Type 0 where
  pub size : length table.places.items ≤ most_blocks
  pub places : ArePlaces table.places.items
  pub map_block : (table.map_block ≡ 0)
      ⊎ ((1 ≤ table.map_block) × (is_some (get_or table.places.items (table.map_block - 1) None) ≡ true))

-- so are the tables of a pair
pub record AreTables (pair : Pair) : Type 0 where
  pub updated : IsBlockTable pair.updated.table.value
  pub saved : IsBlockTable pair.saved.table.value

-- and those of a commit that failed in its last step, whose number is the next
abbrev pub IsPreparedFormed : ℕ → SpareSlot → Type 0
IsPreparedFormed sequence Shut = Unit {0}
IsPreparedFormed sequence Stale = Unit {0}
IsPreparedFormed sequence (Prepared pair) = AreTables pair × (sequence + 1 < 2 ^ 64)

-- commits write a version: 2 or 3, and 3 in a file of version 3
abbrev pub IsNextVersion : ℕ → ℕ → Type 0
IsNextVersion version next = ((next ≡ 2) × (version ≢ 3)) ⊎ (next ≡ 3)

-- Where commits write sums and the file has none, there is the table of the saved document with sums.
abbrev pub IsTurning : Slots → Option BlockTable → Type 0
IsTurning slots None = has_sums slots.next_version ≡ has_sums slots.version
IsTurning slots (Some table) = IsResummed table slots.committed.saved.table.value

-- over any store
pub record IsFormed (live : BlockTable) (slots : Slots) : Type 0 where
  pub table : IsBlockTable live
  pub placed : All IsPlaced (block_extents live.places.items)
  pub committed : AreTables slots.committed
  pub prepared : IsPreparedFormed slots.sequence slots.spare
  pub marked : IfSome slots.marked IsBlockTable
  pub kept : AreExtentsPlaced slots
  pub version : IsVersion slots.version
  pub next_version : IsNextVersion slots.version slots.next_version
  pub turning : IsTurning slots slots.saved_sums
  pub numbered : 1 ≤ slots.sequence
  pub in_range : slots.sequence < 2 ^ 64

-- over an honest one
pub record IsWhole (store : StoreFacts) (live : BlockTable) (slots : Slots) : Type 0 where
  pub images : AreImaged store.content live.places.items
  pub sums : AreSummed (has_sums slots.next_version) store.content live.places.items
  pub within : All (λ e. end_of e ≤ length store.content) (block_extents live.places.items)
  pub committed : AreStored slots.version store.content slots.committed
  pub prepared : IsPreparedStored slots.next_version store.content slots.spare
  pub marked : IfSome slots.marked (λ table. AreImaged store.content table.places.items)
  pub marked_sums : IfSome slots.marked
      (λ table. AreSummed (has_sums slots.next_version) store.content table.places.items)
  pub marked_within : All (λ e. end_of e ≤ length store.content) (marked_extents slots.marked)
  pub saved_sums : IfSome slots.saved_sums
      (λ table. AreSummed (has_sums slots.next_version) store.content table.places.items)
  pub leaves : CrashLeavesSlots store slots store.content

pub record IsSound (store : StoreFacts) (live : BlockTable) (slots : Slots) : Type 0 where
  pub formed : IsFormed live slots
  pub whole : IsTrue store.honest → IsWhole store live slots

-- with the free space: taken is all that lies in the file and stays; and with bounds of the live table
pub record IsSoundFile (store : StoreFacts) (live : BlockTable) (slots : Slots) (space : Option Space)
    (bounds : Bounds) : Type 0 where
  pub sound : IsSound store live slots
  pub bounded : AreBounds live.places.items bounds
  pub known : IsSpaceOf (block_extents live.places.items ++ referenced_extents slots) space

-- what callers see of it
abbrev pub disk_of : {S : Type 0} → (S → StoreFacts) → S → Slots → Disk S
disk_of facts store slots =
    let file = (facts store).content in
    record {
      store = store;
      updated = document_in file slots.committed.updated.table.value;
      saved = document_in file slots.committed.saved.table.value;
      in_doubt = attempted_in file slots.spare;
      sequence = slots.sequence;
      marked = option_map (document_in file) slots.marked;
      checksums = has_sums slots.next_version;
    }

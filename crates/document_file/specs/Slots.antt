-- What a crash leaves of the two slots, and of what they lead to.
use Rattle.std.specs.Prelude.{IsTrue, true, false, ◌≡◌, ◌≢◌, ◌⊎◌, ℕ, ◌+◌, ◌*◌, ◌<◌, ◌≤◌, List, [], ◌∷◌, ◌++◌, All, Option, None, Some, length, not, if◌then◌else◌}
use Rattle.byteorder.specs.Endian.{little_bytes}
use Rattle.vm_store.specs.Facts.{StoreFacts, FailedSince, byte, Holds}
use Rattle.file_format.specs.declared.file.Extent.{Extent}
use Rattle.file_format.specs.File.{slot_mark, extent_text, sealed_text, slot_sums_text}
use Rattle.document_file.specs.Ranges.{IsPlaced, KeepsAll, IsOut, IsClear}
use Rattle.checksum.specs.Crc32c.{crc32c}
use Rattle.file_format.specs.declared.file.SlotSums.{SlotSums}
use Rattle.file_format.specs.declared.file.Slot.{Slot}
use Rattle.document_file.specs.Documents.{documents_in, IsOpenTo}
use Rattle.document_file.specs.Sums.{has_sums}
use Rattle.document_file.specs.declared.table.Place.{Place}
use Rattle.document_file.specs.declared.table.BlockTable.{BlockTable}
use Rattle.document_file.specs.declared.table.DocumentRef.{DocumentRef}
use Rattle.document_file.specs.declared.table.Pair.{Pair}
use Rattle.document_file.specs.declared.slot.SpareSlot.{SpareSlot}
use Rattle.document_file.specs.declared.slot.SpareSlot.TheVariants.{Shut, Stale, Prepared}
use Rattle.document_file.specs.declared.slot.Slots.{Slots}

-- What documents lie on.

-- the extents of the blocks of a table
abbrev pub block_extents : List (Option Place) → List Extent
block_extents [] = []
block_extents (None ∷ places) = block_extents places
block_extents (Some place ∷ places) = place.extent ∷ block_extents places

abbrev pub stored_extents : DocumentRef → List Extent
stored_extents s = s.directory ∷ block_extents s.table.value.places.items

abbrev pub pair_extents : Pair → List Extent
pair_extents p = stored_extents p.updated ++ stored_extents p.saved

abbrev pub prepared_extents : SpareSlot → List Extent
prepared_extents Shut = []
prepared_extents Stale = []
prepared_extents (Prepared pair) = pair_extents pair

abbrev pub marked_extents : Option BlockTable → List Extent
marked_extents None = []
marked_extents (Some table) = block_extents table.places.items

-- all that the slots stand on, and the marked document
abbrev pub referenced_extents : Slots → List Extent
referenced_extents slots = pair_extents slots.committed ++ (prepared_extents slots.spare ++ marked_extents slots.marked)

-- The slots.

-- the slot that counts
abbrev pub counting_of : Slots → ℕ
counting_of slots = if slots.second then 1 else 0

-- the other one
abbrev pub spare_of : Slots → ℕ
spare_of slots = if slots.second then 0 else 1

-- the slots when what the other one leads to counts
abbrev pub switched : Slots → Pair → Slots
switched slots pair =
    record {
      second = not slots.second;
      version = slots.next_version;
      next_version = slots.next_version;
      sequence = slots.sequence + 1;
      committed = pair;
      spare = Stale;
      marked = slots.marked;
      saved_sums = None;
    }

-- commits write sums, and the slot that counts has none
abbrev pub GivesSums : Slots → Type 0
GivesSums slots = (has_sums slots.next_version ≡ true) × (has_sums slots.version ≡ false)

-- a crash now leaves the gate of a slot shut
abbrev pub CrashLeavesShut : StoreFacts → ℕ → Type 0
CrashLeavesShut store slot = (c : List ℕ) → store.may_leave c → byte c (512 * slot + 4) ≡ 0

-- Where a commit gives a file sums, a crash behind it leaves the slot that counted before shut, or the store failed
-- meanwhile.
abbrev pub IsShutBehind : StoreFacts → StoreFacts → Slots → Type 0
IsShutBehind before after old =
    GivesSums old → IsTrue before.honest → FailedSince before after ⊎ CrashLeavesShut after (counting_of old)

-- what a commit that failed before its last step may leave of the slots
abbrev pub FailedEarly : Slots → Slots → Type 0
FailedEarly old new = (new ≡ old) ⊎ (new ≡ record old { spare = Shut })

-- and one that failed in any
abbrev pub Failed : Slots → Pair → Slots → Type 0
Failed old pair new = FailedEarly old new ⊎ (new ≡ record old { spare = Prepared pair })

-- and any commit, acknowledged or not
abbrev pub LeftBy : Slots → Pair → Slots → Type 0
LeftBy old pair new = Failed old pair new ⊎ (new ≡ switched old pair)

-- what stands behind the gate of a slot before its sums: version, two zeros, sequence number, the directories of the
-- updated and the saved document
unfoldable pub gate_text : ℕ → ℕ → Extent → Extent → List ℕ
gate_text version sequence updated saved =
    version ∷ 0 ∷ 0 ∷ little_bytes 8 sequence ++ extent_text updated ++ extent_text saved

-- the slot of a pair, open, and without sums
abbrev pub unsummed_slot : ℕ → ℕ → Pair → Slot
unsummed_slot version sequence pair =
    record {
      gate = 1;
      version = version;
      reserved = 0;
      sequence = sequence;
      working = pair.updated.directory;
      saved = pair.saved.directory;
      sums = None;
    }

-- a slot's sums, where both of its directories have one
abbrev pub sums_of : Slot → Option ℕ → Option ℕ → Option SlotSums
sums_of s None saved = None
sums_of s (Some working) None = None
sums_of s (Some working) (Some saved) =
    Some (record {
      working = working;
      saved = saved;
      own = crc32c (sealed_text s (record { working = working; saved = saved; own = 0 }));
    })

-- the slot of a pair, open
abbrev pub slot_value : ℕ → ℕ → Pair → Slot
slot_value version sequence pair =
    let s = unsummed_slot version sequence pair in
    record s { sums = sums_of s pair.updated.sum pair.saved.sum }

-- what stands behind the gate of the slot of a pair
abbrev pub behind_gate : ℕ → ℕ → Pair → List ℕ
behind_gate version sequence pair =
    gate_text version sequence pair.updated.directory pair.saved.directory
    ++ slot_sums_text (sums_of (unsummed_slot version sequence pair) pair.updated.sum pair.saved.sum)

-- Where a commit gives no sums, a crash behind it leaves the slot that counted before open, and what it led to.
abbrev pub IsKeptBehind : StoreFacts → StoreFacts → Slots → Type 0
IsKeptBehind before after old =
    has_sums old.next_version ≡ has_sums old.version → IsTrue before.honest → (c : List ℕ) → after.may_leave c
    → IsOpenTo (counting_of old) (slot_value old.version old.sequence old.committed)
    (documents_in before.content old.committed) c

-- Whatever its gate, the slot has this version and this number and leads to this pair, whose bytes are those of the
-- file.
pub record LeadsTo (slot version sequence : ℕ) (pair : Pair) (file c : List ℕ) : Type 0 where
  pub marked : Holds c (512 * slot) slot_mark
  pub rest : Holds c (512 * slot + 5) (behind_gate version sequence pair)
  pub kept : KeepsAll (pair_extents pair) file c

-- the slot has another mark
pub record IsUnmarked (slot : ℕ) (c : List ℕ) : Type 0 where
  pub bytes : List ℕ
  pub size : length bytes ≡ 4
  pub differs : bytes ≢ slot_mark
  pub there : Holds c (512 * slot) bytes

-- the slot has a lower number
pub record IsOlder (slot sequence : ℕ) (c : List ℕ) : Type 0 where
  pub number : ℕ
  pub lower : number < sequence
  pub there : Holds c (512 * slot + 8) (little_bytes 8 number)

-- the slot that doesn't count, beside one of this number, where commits write a version
abbrev pub IsBeside : ℕ → SpareSlot → ℕ → ℕ → List ℕ → List ℕ → Type 0
IsBeside version Shut slot sequence file c = byte c (512 * slot + 4) ≢ 1
IsBeside version Stale slot sequence file c = IsUnmarked slot c ⊎ IsOlder slot sequence c
IsBeside version (Prepared pair) slot sequence file c = LeadsTo slot version (sequence + 1) pair file c

-- What a crash left: the slot that counts is open and whole, and the other is as it is known to be.
pub record Outcome (slots : Slots) (file c : List ℕ) : Type 0 where
  pub gate : byte c (512 * counting_of slots + 4) ≡ 1
  pub counts : LeadsTo (counting_of slots) slots.version slots.sequence slots.committed file c
  pub beside : IsBeside slots.next_version slots.spare (spare_of slots) slots.sequence file c

-- a crash now leaves such a file
abbrev pub CrashLeavesSlots : StoreFacts → Slots → List ℕ → Type 0
CrashLeavesSlots store slots file = (c : List ℕ) → store.may_leave c → Outcome slots file c

-- What a crash since some time left is what one before these calls might have left, or such a file.
pub record Outlives (old new : StoreFacts) (file : List ℕ) (Is : Slots → Type 0) : Type 0 where
  pub later : old.moment ≤ new.moment
  pub each : (t : ℕ) (c : List ℕ) → t ≤ old.moment → new.left_since t c
      → old.left_since t c ⊎ ((slots : Slots) × Is slots × Outcome slots file c)

-- all of that can be
abbrev pub AreExtentsPlaced : Slots → Type 0
AreExtentsPlaced slots = All IsPlaced (referenced_extents slots)

-- A write there changes nothing on which the other slot stands.
abbrev pub IsBesideOut : SpareSlot → ℕ → ℕ → ℕ → Type 0
IsBesideOut Shut slot at n = IsOut at n (512 * slot + 4) (512 * slot + 5)
IsBesideOut Stale slot at n = IsOut at n (512 * slot) (512 * slot + 4) × IsOut at n (512 * slot + 8) (512 * slot + 16)
IsBesideOut (Prepared pair) slot at n =
    IsOut at n (512 * slot) (512 * slot + 4) × IsOut at n (512 * slot + 5) (512 * slot + 44)
    × IsClear at n (pair_extents pair)

-- a write there changes nothing on which the slots stand
pub record Spares (at n : ℕ) (slots : Slots) : Type 0 where
  pub slot : IsOut at n (512 * counting_of slots) (512 * counting_of slots + 44)
  pub committed : IsClear at n (pair_extents slots.committed)
  pub beside : IsBesideOut slots.spare (spare_of slots) at n

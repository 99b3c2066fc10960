-- The slots of a file as they are read, and which one counts.
use Rattle.std.specs.Prelude.{◌≡◌, ◌⊎◌, ℕ, ◌+◌, ◌*◌, ◌<◌, ◌≤◌, ◌==◌, ◌||◌, not, nat_lt, Bool, List, Option, None, Some, is_some, Result, Ok, Err, length, take, drop, if◌then◌else◌}
use Rattle.vm_store.specs.Facts.{byte}
use Rattle.geos_model.specs.Document.{Document}
use Rattle.file_format.specs.File.{slot_of, open_slot, counting_slot, is_sealed, is_version, pair_of}
use Rattle.geos_model.specs.declared.fault.Fault.{Fault}
use Rattle.geos_model.specs.declared.fault.Fault.TheVariants.{NotDocument, Damaged}
use Rattle.file_format.specs.declared.file.Slot.{Slot}
use Rattle.file_format.specs.declared.stored_slot.RawSlot.{RawSlot}
use Rattle.file_format.specs.declared.stored_slot.FoundSlot.{FoundSlot}

-- the slot at a page, with its gate
pub record IsRawSlot (file : List ℕ) (page : ℕ) (raw : RawSlot) : Type 0 where
  pub within : 512 * page + 44 ≤ length file
  pub bytes : (i : ℕ) → i < 44 → byte file (512 * page + i) < 256
  pub gate : raw.gate ≡ byte file (512 * page + 4)
  pub slot : raw.slot ≡ slot_of (take 44 (drop (512 * page) file))

-- The slot that counts, 0 or 1, and what there is of it: of two open ones, each with its sequence number, that of the
-- greater one. Else what the file is for want of one.
abbrev pub chosen_by : {T : Type 0} → Option (ℕ × T) → Option (ℕ × T) → Result (ℕ × T) Fault
chosen_by None None = Err NotDocument
chosen_by (Some a) None = Ok (0, a.1)
chosen_by None (Some b) = Ok (1, b.1)
chosen_by (Some a) (Some b) = if a.0 == b.0 then Err Damaged else if nat_lt a.0 b.0 then Ok (1, b.1) else Ok (0, a.1)

-- the slot isn't open, or has a lower number
abbrev pub Beaten : Option Slot → ℕ → Type 0
Beaten slot n = (slot ≡ None) ⊎ ((t : Slot) × (slot ≡ Some t) × (t.sequence < n))

-- a slot that is read has sums in version 3 alone
abbrev pub HasItsSums : Slot → Type 0
HasItsSums s = is_some s.sums ≡ (s.version == 3)

-- a version of the format
abbrev pub IsVersion : ℕ → Type 0
IsVersion v = (v ≡ 1) ⊎ ((v ≡ 2) ⊎ (v ≡ 3))

-- whether a slot can lead to documents
abbrev pub header_verdict : Slot → Result (Unit {0}) Fault
header_verdict s =
    if not (is_version s.version) then Err NotDocument
    else if not (s.reserved == 0) || (s.sequence == 0 || not (is_sealed s)) then Err Damaged else Ok tt

-- the slot that counts, and the other one
pub record IsFoundSlot (file : List ℕ) (found : FoundSlot) : Type 0 where
  pub long : 1024 ≤ length file
  pub bytes : (i : ℕ) → i < 44 → byte file (512 * (if found.second then 1 else 0) + i) < 256
  pub counts : counting_slot (open_slot file 0) (open_slot file 1) ≡ Ok found.slot
  pub opened : open_slot file (if found.second then 1 else 0) ≡ Some found.slot
  pub other : IsRawSlot file (if found.second then 0 else 1) found.other
  pub beaten : Beaten (open_slot file (if found.second then 0 else 1)) found.slot.sequence

-- The documents of one slot, whether or not it counts.

abbrev pub number_of : Bool → ℕ
number_of second = if second then 1 else 0

abbrev pub pair_of_open : List ℕ → Option Slot → Result (Document × Document) Fault
pair_of_open file None = Err NotDocument
pair_of_open file (Some s) = pair_of file s

-- the updated and the saved document to which a slot leads, or why it leads to none
abbrev pub slot_stands : List ℕ → ℕ → Result (Document × Document) Fault
slot_stands file slot =
    if nat_lt (length file) 1024 then Err NotDocument else pair_of_open file (open_slot file slot)

-- Damage to a file of version 3: where up to 32 of its bits in a row are others, it isn't read as another document.
use Rattle.std.specs.Prelude.{◌≡◌, ◌⊎◌, ◌*◌, ◌-◌, ◌<◌, ◌≤◌, ℕ, List, All, true, Some, Result, Ok, length, take, drop}
use Rattle.checksum.specs.Crc32c.{AgreeOutsideBurst}
use Rattle.geos_model.specs.Document.{Document}
use Rattle.file_format.specs.File.{slot_fields, open_slot, counting_slot, is_sealed, pair_of, stands}
use Rattle.geos_model.specs.declared.fault.Fault.{Fault}
use Rattle.file_format.specs.declared.file.Slot.{Slot}

-- The bytes of a file that has room for its slots, and those that are read in their place: the same, but maybe for
-- up to 32 bits in a row, anywhere.
pub record MaybeDamaged (file other : List ℕ) : Type 0 where
  pub long : 1024 ≤ length file
  pub same_length : length other ≡ length file
  pub file_bytes : All (λ b. b < 256) file
  pub other_bytes : All (λ b. b < 256) other
  pub burst : AgreeOutsideBurst file other

abbrev pub Pair : Type 0
Pair = Document × Document

-- the fields of the slot at a page, whatever its mark and its gate
abbrev pub slot_at : List ℕ → ℕ → Slot
slot_at file page = slot_fields (take 44 (drop (512 * page) file))

-- the updated and the saved document to which they lead
abbrev pub pair_at : List ℕ → ℕ → Result Pair Fault
pair_at file page = pair_of file (slot_at file page)

-- the slot at a page counts
pub record SlotCounts (file : List ℕ) (page : ℕ) : Type 0 where
  pub opened : open_slot file page ≡ Some (slot_at file page)
  pub counts : counting_slot (open_slot file 0) (open_slot file 1) ≡ Ok (slot_at file page)

-- The damage lies in the slots' pages and made the slot at another page count. What it leads to, the file has too; and
-- where it is of version 3 in both and its sum was right, it is what the file's own slot there leads to.
pub record CountsInstead (file other : List ℕ) (page : ℕ) (found : Pair) : Type 0 where
  pub behind : drop 1024 other ≡ drop 1024 file
  pub counts : SlotCounts other page
  pub leads : pair_of file (slot_at other page) ≡ Ok found
  pub same : (slot_at file page).version ≡ 3 → (slot_at other page).version ≡ 3
      → is_sealed (slot_at file page) ≡ true → pair_at file page ≡ Ok found

pub record DamageLaw : Type 0 where
  -- Two open slots of version 3 whose sums are right are the same.
  pub slot : (file other : List ℕ) (page : ℕ) (s t : Slot) → MaybeDamaged file other → page < 2
      → open_slot file page ≡ Some s → open_slot other page ≡ Some t → s.version ≡ 3 → t.version ≡ 3
      → is_sealed s ≡ true → is_sealed t ≡ true → t ≡ s
  -- A slot of version 3 that leads to documents leads to none but them, of whichever version it is now.
  pub documents : (file other : List ℕ) (page : ℕ) (pair found : Pair) → MaybeDamaged file other → page < 2
      → (slot_at file page).version ≡ 3 → pair_at file page ≡ Ok pair → pair_at other page ≡ Ok found → found ≡ pair
  -- So a file of version 3 stands for the same documents, or for those of its other slot.
  pub told : (file other : List ℕ) (page : ℕ) (pair found : Pair) → MaybeDamaged file other → page < 2
      → SlotCounts file page → (slot_at file page).version ≡ 3 → stands file ≡ Ok pair → stands other ≡ Ok found
      → (found ≡ pair) ⊎ CountsInstead file other (1 - page) found

-- What a salvage takes of a directory, with blocks whose sum is wrong and without.
use Rattle.std.specs.Prelude.{◌≡◌, ◌⊎◌, ℕ, ◌<◌, ◌≤◌, ◌-◌, Bool, false, true, List, Option, None, Some, All, is_some, nat_le, if◌then◌else◌}
use Rattle.file_format.specs.File.{block_of}
use Rattle.file_salvage.specs.Entries.{damage_at, damages, entry_at, entry_count, is_taken, taken_at, taken_row}
use Rattle.file_salvage.specs.declared.flaw.Flaw.{Flaw}
use Rattle.file_salvage.specs.declared.flaw.Flaw.TheVariants as flaws

-- The block of an entry can be taken: nothing is wrong with it or, where all are asked for, nothing but its sum.
abbrev pub can_be_taken : Bool → Option Flaw → Bool
can_be_taken all None = true
can_be_taken all (Some flaws.Sum) = all
can_be_taken all (Some flaw) = false

-- how many handles up to that of the entry at a place the entries before it leave free
abbrev pub room_at : List ℕ → ℕ → ℕ
room_at bytes i = (entry_at bytes i).handle.0 - i

-- The entries at two places can stand in one directory: from the one to the other handles rise by as much as the places
-- do, or more.
abbrev pub stand_together : List ℕ → ℕ → ℕ → Bool
stand_together bytes i j =
    if nat_le j i then nat_le (room_at bytes j) (room_at bytes i) else nat_le (room_at bytes i) (room_at bytes j)

-- the entries that are taken of a directory in a file, by their places
abbrev pub taken_in : Bool → List ℕ → ℕ → List ℕ → List ℕ
taken_in all file version bytes = taken_row all bytes (damages file version bytes)

pub record SalvageLaw : Type 0 where
  -- Each entry that is taken has its block in the file, with its sum or taken without it.
  pub had : (all : Bool) (file : List ℕ) (version : ℕ) (bytes : List ℕ)
      → All (λ i. is_some (block_of file (taken_at bytes (damages file version bytes) i)) ≡ true)
      (taken_in all file version bytes)
  -- Where not all are asked for, each is whole: no block with a wrong sum is taken. Where all are, nothing but its sum
  -- is wrong.
  pub sound : (all : Bool) (file : List ℕ) (version : ℕ) (bytes : List ℕ)
      → All (λ i. can_be_taken all (damage_at file version bytes i) ≡ true) (taken_in all file version bytes)
  -- Each entry is taken that can be, and whose handle has room for the entries before it, or one is taken beside which
  -- it can't stand: so a block with a wrong sum too, where all are asked for.
  pub complete : (all : Bool) (file : List ℕ) (version : ℕ) (bytes : List ℕ) (i : ℕ)
      → i < entry_count bytes → can_be_taken all (damage_at file version bytes i) ≡ true → 1 ≤ room_at bytes i
      → (is_taken i (taken_in all file version bytes) ≡ true)
      ⊎ ((j : ℕ) × (is_taken j (taken_in all file version bytes) ≡ true) × (stand_together bytes i j ≡ false))
  -- Where all are asked for, those are taken too that are taken else: for a wrong sum no whole block is left out.
  pub kept : (bytes : List ℕ) (damages : List (Option Flaw))
      → All (λ i. is_taken i (taken_row true bytes damages) ≡ true) (taken_row false bytes damages)

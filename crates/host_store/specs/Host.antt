-- A store on a file of a system.
use Rattle.std.specs.Prelude.{◌≡◌, ◌⊎◌, ℕ, ◌+◌, ◌<◌, ◌≤◌, ◌^◌, Bool, List, length, Result, IsErr}
use Rattle.vm_store.specs.Facts.{StoreFacts, FailedSince, last_count}
use Rattle.host_store.specs.System.{FileFacts}

-- the file, whether a sync of it has failed, and how many calls have failed
pub record Host (F : Type 0) : Type 0 where
  pub file : F
  pub has_failed_sync : Bool
  pub failures : ℕ

-- what is known of the file, with a count of its own
abbrev pub host_facts : {F : Type 0} → (F → FileFacts) → Host F → StoreFacts
host_facts facts h = record ((facts h.file).store) { failures = h.failures }

-- Giving up.

-- a call of the system failed, or 2^63 were interrupted
abbrev pub IsOutOfCalls : FileFacts → FileFacts → Type 0
IsOutOfCalls old new = FailedSince old.store new.store ⊎ (old.interruptions + 2 ^ 63 ≤ new.interruptions)

-- bytes that end there lie past the file's end, or past that of every file
abbrev pub IsBeyond : List ℕ → ℕ → Type 0
IsBeyond file end = (length file < end) ⊎ (2 ^ 63 ≤ end)

-- a call fails only where it can't be done, a call of the system failed, too many were interrupted, or the count of
-- failures is at its last value
abbrev pub FailsOnlyIf : {F T E : Type 0} → Type 0 → (F → FileFacts) → Result T E → Host F → Host F → Type 0
FailsOnlyIf beyond facts result old new =
    IsErr result → beyond ⊎ (IsOutOfCalls (facts old.file) (facts new.file) ⊎ (old.failures ≡ last_count))

-- What is known of a file of a system, and what its calls do.
use Rattle.std.specs.Prelude.{◌≡◌, ◌⊎◌, ℕ, ◌+◌, ◌-◌, ◌^◌, ◌<◌, ◌≤◌, max, Bool, true, false, List, [], ◌∷◌, length, Result, Ok, Err}
use Rattle.vm_store.specs.Facts.{StoreFacts, byte, FailedSince, IsUnchanged, Writes}
use Rattle.host_store.specs.declared.system.SystemFault.{SystemFault}
use Rattle.host_store.specs.declared.system.SystemFault.TheVariants.{Interrupted, Failed}

-- all that is known of a file at a moment
pub record FileFacts : Type 1 where
  -- what is known of it as a store, whose failures are the calls that failed and weren't merely interrupted
  pub store : StoreFacts
  -- a sync of it has failed
  pub has_failed_sync : Bool
  -- how many calls were interrupted
  pub interruptions : ℕ

-- Calls.

-- a call that fails is counted, as one that failed or as one that was interrupted
abbrev pub CountsFailure : {T : Type 0} → Result T SystemFault → FileFacts → FileFacts → Type 0
CountsFailure (Ok v) old new = (new.store.failures ≡ old.store.failures) × (new.interruptions ≡ old.interruptions)
CountsFailure (Err Interrupted) old new =
    (new.store.failures ≡ old.store.failures) × (new.interruptions ≡ old.interruptions + 1)
CountsFailure (Err Failed) old new = FailedSince old.store new.store × (new.interruptions ≡ old.interruptions)

-- a call that was interrupted
abbrev pub IsInterrupted : {T : Type 0} → Result T SystemFault → Type 0
IsInterrupted (Ok v) = ⊥
IsInterrupted (Err Interrupted) = Unit {0}
IsInterrupted (Err Failed) = ⊥

-- a call that failed, and wasn't merely interrupted
abbrev pub HasFailed : {T : Type 0} → Result T SystemFault → Type 0
HasFailed (Ok v) = ⊥
HasFailed (Err Interrupted) = ⊥
HasFailed (Err Failed) = Unit {0}

-- a call that changes nothing
pub record Idles (old new : FileFacts) : Type 0 where
  pub unchanged : IsUnchanged old.store new.store
  pub syncs : new.has_failed_sync ≡ old.has_failed_sync

-- The first k bytes of the buffer are those at `at`. There are none where none were wanted, or the file ends there.
pub record Reads (file : List ℕ) (at k : ℕ) (buffer : List ℕ) : Type 0 where
  pub within : 0 < k → at + k ≤ length file
  pub each : (i : ℕ) → i < k → byte file (at + i) ≡ byte buffer i
  pub none : k ≡ 0 → 0 < length buffer → length file ≤ at

-- The first k of the bytes stand at `at`, and any in the others' range. If some do, or the file gets longer, a gap
-- before them is zeros; nothing else changes.
pub record WritesFirst (at k : ℕ) (bytes old new : List ℕ) : Type 0 where
  pub below : (i : ℕ) → i < at → byte new i ≡ byte old i
  pub each : (i : ℕ) → i < k → byte new (at + i) ≡ byte bytes i
  pub above : (i : ℕ) → at + length bytes ≤ i → byte new i ≡ byte old i
  pub reaches : 0 < k → at + k ≤ length new
  pub no_shorter : length old ≤ length new
  pub no_longer : length new ≤ max (length old) (at + length bytes)

-- a write of n bytes, whether or not it succeeds
pub record WritesTo (at n : ℕ) (old new : FileFacts) : Type 0 where
  pub writes : Writes at n old.store new.store
  -- only a sync rules out what a crash might leave
  pub widens : (c : List ℕ) → old.store.may_leave c → new.store.may_leave c
  pub syncs : new.has_failed_sync ≡ old.has_failed_sync

-- some of the bytes were written, where there are any
pub record WritesSome (at k : ℕ) (bytes old new : List ℕ) : Type 0 where
  pub some : 0 < length bytes → 0 < k
  pub begins : WritesFirst at k bytes old new

-- a write of bytes that succeeds writes some; one that is interrupted may have left any bytes in their range
abbrev pub WritesPart : ℕ → List ℕ → Result ℕ SystemFault → List ℕ → List ℕ → Type 0
WritesPart at bytes (Ok k) old new = WritesSome at k bytes old new
WritesPart at bytes (Err Interrupted) old new = WritesFirst at 0 bytes old new
WritesPart at bytes (Err Failed) old new = Unit {0}

-- Systems.

-- what the calls of a system do, from one state of it to another
pub record SystemCalls (S H F : Type 0) : Type 1 where
  -- the standard streams are guarded, or can't be
  pub guards : S → Result (Unit {0}) SystemFault → S → Type 0
  -- the file at a path is opened, and made before, empty, if it is missing and that is asked; by what is given its
  -- bytes can't be touched
  pub opens : S → List ℕ → Bool → Result H SystemFault → S → Type 0
  -- the names in the folder in which a path lies are synced
  pub syncs_folder : S → List ℕ → Result (Unit {0}) SystemFault → S → Type 0
  -- what was opened is locked against every other open of it, and from then on it is a file
  pub locks : S → H → Result F SystemFault → S → Type 0
  -- a file is closed, and nothing else is done with it
  pub closes : S → F → S → Type 0

-- in each of these states, the newest first, a call was made and interrupted
abbrev pub AreInterrupted : {S T : Type 0} → (S → Result T SystemFault → S → Type 0) → S → List S → S → Type 0
AreInterrupted call old [] new = new ≡ old
AreInterrupted call old (s ∷ states) new = AreInterrupted call old states s × call s (Err Interrupted) new

-- a call was made so often, and interrupted each time
pub record IsInterruptedOften {S T : Type 0} (call : S → Result T SystemFault → S → Type 0) (old : S) (n : ℕ) (new : S)
    : Type 0 where
  pub states : List S
  pub interrupted : AreInterrupted call old states new
  pub count : length states ≡ n

-- a call was made again as often as it was interrupted, and then had this result
pub record Retries {S T : Type 0} (call : S → Result T SystemFault → S → Type 0)
    (old : S) (result : Result T SystemFault) (new : S) : Type 0 where
  pub tries : ℕ
  pub last : S
  pub interrupted : IsInterruptedOften call old tries last
  pub made : call last result new

-- a call was given up, since it failed, or was interrupted 2^64 - 1 times
abbrev pub GivesUpOn : {S T : Type 0} → (S → Result T SystemFault → S → Type 0) → S → S → Type 0
GivesUpOn call old new = Retries call old (Err Failed) new ⊎ IsInterruptedOften call old (2 ^ 64 - 1) new

-- the name of a file that may have been made is synced
abbrev pub SyncsName : {S H F : Type 0} → SystemCalls S H F → List ℕ → Bool → S → S → Type 0
SyncsName calls path true old new = Retries (λ s. calls.syncs_folder s path) old (Ok tt) new
SyncsName calls path false old new = new ≡ old

-- the file was opened at this path, then its name was synced if it was to be made, and then it was locked, and no other
-- call was made
pub record IsOpenedAndLocked {S H F : Type 0} (calls : SystemCalls S H F) (path : List ℕ) (make : Bool) (old : S)
    (file : F) (new : S) : Type 0 where
  pub handle : H
  pub opened : S
  pub named : S
  pub opens : Retries (λ s. calls.opens s path make) old (Ok handle) opened
  pub syncs : SyncsName calls path make opened named
  pub locks : calls.locks named handle (Ok file) new

-- it couldn't be opened, or its name couldn't be synced
abbrev pub IsNotNamed : {S H F : Type 0} → SystemCalls S H F → List ℕ → Bool → S → S → Type 0
IsNotNamed {S} {H} calls path make old new =
    GivesUpOn (λ s. calls.opens s path make) old new
    ⊎ ((handle : H) × (opened : S) × Retries (λ s. calls.opens s path make) old (Ok handle) opened × (make ≡ true)
    × GivesUpOn (λ s. calls.syncs_folder s path) opened new)

-- it was opened, and named if it was to be made, and couldn't be locked
pub record IsInUse {S H F : Type 0} (calls : SystemCalls S H F) (path : List ℕ) (make : Bool) (old new : S)
    : Type 0 where
  pub handle : H
  pub opened : S
  pub named : S
  pub opens : Retries (λ s. calls.opens s path make) old (Ok handle) opened
  pub syncs : SyncsName calls path make opened named
  pub fault : SystemFault
  pub locks : calls.locks named handle (Err fault) new

-- why a file isn't opened
abbrev pub IsNotOpenedOrLocked : {S H F : Type 0} → SystemCalls S H F → List ℕ → Bool → S → S → Type 0
IsNotOpenedOrLocked calls path make old new = IsNotNamed calls path make old new ⊎ IsInUse calls path make old new

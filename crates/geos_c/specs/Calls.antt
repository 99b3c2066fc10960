-- What calls of a session do, over any store, by what they are answered.
use Rattle.std.specs.Prelude.{◌≡◌, ◌≢◌, ◌⊎◌, ℕ, List, length, ◌==◌, if◌then◌else◌, Bool, false, [], Option, Some, None, Result, OnOk, OnErr, IfErr, MatchResult}
use Rattle.std.specs.Result.{result_unwrap_or}
use Rattle.geos_model.specs.Machine.{Step}
use Rattle.geos_model.specs.Reply.{Reply, Accepted, NumberIs, reply_by}
use Rattle.geos_model.specs.declared.command.Command.{Command}
use Rattle.geos_model.specs.declared.command.Command.TheVariants as commands
use Rattle.geos_model.specs.declared.element_count.ElementCount.{ElementCount}
use Rattle.geos_model.specs.declared.handle.ChunkHandle.{ChunkHandle}
use Rattle.geos_model.specs.declared.handle.Token.{Token}
use Rattle.geos_model.specs.declared.handle.VmHandle.{VmHandle}
use Rattle.geos_model.specs.declared.fault.Fault.{Fault}
use Rattle.geos_model.specs.declared.fault.Fault.TheVariants.{Memory, NothingToUndo, NothingToRedo}
use Rattle.chunk_edits.specs.declared.direction.Direction.TheVariants.{Forwards, Backwards}
use Rattle.vm_store.specs.Facts.{StoreFacts}
use Rattle.document_file.specs.Effects.{Fails, IsWorn}
use Rattle.vm_blocks.specs.Locking.{GainsLock, LosesLock}
use Rattle.undo_log.specs.Committing.{IsBusy, IsSessionCommit}
use Rattle.undo_log.specs.Logging.{forgotten_log, joined_log, named_log, next_moved, reverted_log, saved_log, updated_log, with_group_closed}
use Rattle.undo_log.specs.Sessions.{SessionState, IsStep, KeepsSession, cache_of, machine_of}
use Rattle.undo_log.specs.Turning.{Abandons, IsNotAbandoned, IsRefusedUndoOrRedo, MovesEntry, join_fault, name_fault}

abbrev pub Answer : Type 0
Answer = Result (Unit {0}) Fault

-- in an exact session it is the step of the machine by this command
abbrev pub Steps : {S : Type 0} → (S → StoreFacts) → Command → SessionState S → SessionState S → Answer → Type 0
Steps facts command old new answer = IsStep facts old new command (reply_by (λ _. Accepted) answer)

abbrev pub Undoes : {S : Type 0} → (S → StoreFacts) → SessionState S → SessionState S → Answer → Type 0
Undoes facts old new answer = Steps facts commands.Undo old new answer
    × OnOk answer
    (MovesEntry facts Backwards (cache_of old) (cache_of new) old.log.undo old.log.redo new.log.undo new.log.redo)
    × OnOk answer (new.log ≡ next_moved Backwards old.log)
    × OnErr answer (KeepsSession facts old new)
    × IfErr answer (IsRefusedUndoOrRedo facts NothingToUndo old.log.undo old new)

abbrev pub Redoes : {S : Type 0} → (S → StoreFacts) → SessionState S → SessionState S → Answer → Type 0
Redoes facts old new answer = Steps facts commands.Redo old new answer
    × OnOk answer
    (MovesEntry facts Forwards (cache_of old) (cache_of new) old.log.redo old.log.undo new.log.redo new.log.undo)
    × OnOk answer (new.log ≡ next_moved Forwards old.log)
    × OnErr answer (KeepsSession facts old new)
    × IfErr answer (IsRefusedUndoOrRedo facts NothingToRedo old.log.redo old new)

-- Steps that are joined, named, forgotten and limited.

abbrev pub Joins : {S : Type 0} → (S → StoreFacts) → SessionState S → SessionState S → Answer → Type 0
Joins facts old new answer = Steps facts commands.Join old new answer
    × MatchResult answer (λ _. new ≡ record old { log = joined_log old.log }) (λ _. new ≡ old)
    × IfErr answer (λ fault. (join_fault old ≡ Some fault) ⊎ ((join_fault old ≡ None) × (fault ≡ Memory)))

abbrev pub NamesStep : {S : Type 0} → (S → StoreFacts) → List ℕ → SessionState S → SessionState S → Answer → Type 0
NamesStep facts name old new answer = Steps facts (commands.Name name) old new answer
    × MatchResult answer (λ _. new ≡ record old { log = named_log name old.log }) (λ _. new ≡ old)
    × IfErr answer (λ fault. (name_fault (length name) old ≡ Some fault)
    ⊎ ((name_fault (length name) old ≡ None) × (name ≢ []) × (fault ≡ Memory)))

-- it is never refused
abbrev pub Forgets : {S : Type 0} → (S → StoreFacts) → ℕ → SessionState S → SessionState S → Answer → Type 0
Forgets facts most old new answer = IsStep facts old new (commands.Forget most) Accepted
    × (new ≡ record old { log = forgotten_log most old.log })
    × OnErr answer ⊥

-- how many steps are kept by this number, all by 0
abbrev pub limit_by : ℕ → Option ℕ
limit_by most = if most == 0 then None else Some most

-- so is this
abbrev pub LimitsUndo : {S : Type 0} → ℕ → SessionState S → SessionState S → Answer → Type 0
LimitsUndo most old new answer =
    (new ≡ record old { log = record old.log { limit = limit_by most } }) × OnErr answer ⊥

-- why a commit is refused, but for what the store does
abbrev pub FailsCommit : {S : Type 0} → (S → StoreFacts) → SessionState S → SessionState S → Answer → Type 0
FailsCommit facts old new answer =
    Fails facts (λ fault. IsWorn fault ⊎ IsBusy old fault) old.disk.store new.disk.store answer

abbrev pub Updates : {S : Type 0} → (S → StoreFacts) → SessionState S → SessionState S → Answer → Type 0
Updates facts old new answer = Steps facts commands.Update old new answer
    × IsSessionCommit facts (old.document, old.disk.saved) old.document old new answer
    × FailsCommit facts old new answer
    × MatchResult answer (λ _. new.log ≡ updated_log old.log) (λ _. new.log ≡ old.log)

abbrev pub Saves : {S : Type 0} → (S → StoreFacts) → SessionState S → SessionState S → Answer → Type 0
Saves facts old new answer = Steps facts commands.Save old new answer
    × IsSessionCommit facts (old.document, old.document) old.document old new answer
    × FailsCommit facts old new answer
    × MatchResult answer (λ _. new.log ≡ saved_log old.log) (λ _. new.log ≡ old.log)

abbrev pub Reverts : {S : Type 0} → (S → StoreFacts) → SessionState S → SessionState S → Answer → Type 0
Reverts facts old new answer = Steps facts commands.Revert old new answer
    × IsSessionCommit facts (old.disk.saved, old.disk.saved) old.disk.saved old new answer
    × FailsCommit facts old new answer
    × MatchResult answer (λ _. new.log ≡ reverted_log old.log) (λ _. new.log ≡ old.log)

-- Groups.

-- over any store it is the step of the machine by this command
abbrev pub AlwaysSteps : {S : Type 0} → Command → SessionState S → SessionState S → Reply → Type 0
AlwaysSteps command old new reply =
    (target : Bool) → Step false (machine_of target old) (Some command) reply (machine_of target new)

abbrev pub BeginsGroup : {S : Type 0} → SessionState S → SessionState S → Answer → Type 0
BeginsGroup old new answer = AlwaysSteps commands.Begin old new (reply_by (λ _. Accepted) answer)
    × OnOk answer (new ≡ record old { log = record old.log { group = Some [] } })
    × OnErr answer (new ≡ old)

abbrev pub EndsGroup : {S : Type 0} → SessionState S → SessionState S → Answer → Type 0
EndsGroup old new answer = AlwaysSteps commands.End old new (reply_by (λ _. Accepted) answer)
    × OnOk answer (new ≡ record old { log = with_group_closed old.log })
    × OnErr answer (new ≡ old)

abbrev pub AbandonsGroup : {S : Type 0} → (S → StoreFacts) → SessionState S → SessionState S → Answer → Type 0
AbandonsGroup facts old new answer = Steps facts commands.Abandon old new answer
    × OnOk answer (Abandons facts old new)
    × OnErr answer (KeepsSession facts old new)
    × IfErr answer (IsNotAbandoned facts old new)

-- Locks.

abbrev pub vm : ℕ → VmHandle
vm n = record { 0 = n }

abbrev pub chunk_handle : ℕ → ChunkHandle
chunk_handle n = record { 0 = n }

abbrev pub token_numbered : ℕ → Token
token_numbered n = record { 0 = n }

abbrev pub element_count : ℕ → ElementCount
element_count n = record { 0 = n }

abbrev pub LocksBlock : {S : Type 0} → (S → StoreFacts) → ℕ → SessionState S → SessionState S → Answer → Type 0
LocksBlock facts block old new answer = Steps facts (commands.Lock (vm block)) old new answer
    × OnOk answer (GainsLock facts block (cache_of old) (cache_of new))
    × OnErr answer (KeepsSession facts old new)
    × (new.log ≡ old.log)

abbrev pub UnlocksBlock : {S : Type 0} → ℕ → SessionState S → SessionState S → Answer → Type 0
UnlocksBlock block old new answer = AlwaysSteps (commands.Unlock (vm block)) old new (reply_by (λ _. Accepted) answer)
    × OnOk answer (LosesLock block (cache_of old) (cache_of new))
    × OnErr answer (new ≡ old)

abbrev pub Dirties : {S : Type 0} → ℕ → SessionState S → SessionState S → Answer → Type 0
Dirties block old new answer =
    AlwaysSteps (commands.Dirty (vm block)) old new (reply_by (λ _. Accepted) answer) × (new ≡ old)

-- how often a block is locked is handed out, none where that is refused
abbrev pub CountsLocks : {S : Type 0} → ℕ → ℕ → SessionState S → SessionState S → Result ℕ Fault → Type 0
CountsLocks block count old new answer =
    AlwaysSteps (commands.Locks (vm block)) old new (reply_by NumberIs answer) × (new ≡ old)
    × (count ≡ result_unwrap_or answer 0)

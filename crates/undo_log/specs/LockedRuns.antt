-- Elements of a large array, of which a block is locked so that they are lent.
use Rattle.std.specs.Prelude.{◌≡◌, ◌≤◌, ◌⊎◌, ◌∷◌, ℕ, Bool, true, IsTrue, length, Some, Result, IfErr, IfOk, OnErr}
use Rattle.std.specs.Result.{IsErrAnd}
use Rattle.geos_model.specs.Document.{raw_bytes_of}
use Rattle.geos_model.specs.LargeBlocks.{root_at}
use Rattle.geos_model.specs.LargeEdits.{read_large_conditions}
use Rattle.geos_model.specs.Machine.{locked_raw, most_locks}
use Rattle.geos_model.specs.Refusal.{first_refusal}
use Rattle.geos_model.specs.Reply.{Accepted}
use Rattle.geos_model.specs.declared.command.Command.TheVariants as commands
use Rattle.geos_model.specs.declared.fault.Fault.{Fault}
use Rattle.geos_model.specs.declared.fault.Fault.TheVariants.{CacheFull, LockLimit}
use Rattle.vm_store.specs.Facts.{StoreFacts}
use Rattle.vm_blocks.specs.State.{locks_of}
use Rattle.vm_blocks.specs.Keeping.{IsEnvironmentFault, is_full}
use Rattle.vm_blocks.specs.Locking.{GainsLock}
use Rattle.doc_edits.specs.LentRuns.{IsRunFault}
use Rattle.large_arrays.specs.LentRuns.{IsRunPlace, element_branch}
use Rattle.doc_edits.specs.Room.{IsRefusedUnseen}
use Rattle.large_arrays.specs.declared.lent_runs.RunPlace.{RunPlace}
use Rattle.undo_log.specs.Sessions.{SessionState, IsStep, KeepsSession, cache_of, machine_of}

-- The block of this place was locked once more, which is a step of the machine as any lock is. Its bytes are lent, and
-- over an honest store the element stands there with those behind it, as many as the block has.
pub record HasLockedRun {S : Type 0} (facts : S → StoreFacts) (b i : ℕ) (old new : SessionState S) (p : RunPlace)
    : Type 0 where
  pub step : IsStep facts old new (commands.Lock p.block) Accepted
  pub gains : GainsLock facts p.block.0 (cache_of old) (cache_of new)
  pub log : new.log ≡ old.log
  pub lent : (target : Bool)
      → locked_raw (machine_of target new) p.block.0 ≡ Some (raw_bytes_of new.document p.block.0)
  pub within : p.start ≤ length (raw_bytes_of new.document p.block.0)
  pub place : IsTrue (facts old.disk.store).honest → IsRunPlace new.document b i p

-- What locking the block of an element comes to. Where it is refused no lock is taken, and the session stays; so it is
-- for what the call lacked, as a look-up of that element as a run is, or because that block is locked as often as one
-- can be. Where each frame has a locked block, or the root is no raw block, nothing changes.
pub record LocksRun {S : Type 0} (facts : S → StoreFacts) (b i : ℕ) (old new : SessionState S)
    (result : Result RunPlace Fault) : Type 0 where
  -- What is done.
  pub ok : IfOk result (HasLockedRun facts b i old new)
  pub err : OnErr result (KeepsSession facts old new)
  -- Refusals.
  pub rules : IsTrue (facts old.disk.store).honest → IfErr result (λ fault.
      IsEnvironmentFault facts old.disk.store new.disk.store fault
      ⊎ ((first_refusal ((CacheFull, is_full (cache_of old)) ∷ read_large_conditions old.document b i 1) ≡ Some fault)
      ⊎ ((fault ≡ LockLimit) × (locks_of old.resident (element_branch (root_at old.document b) i) ≡ most_locks))))
  pub refusals : IfErr result (λ fault. IsRunFault (IsEnvironmentFault facts old.disk.store new.disk.store)
      (is_full (cache_of old)) old.document b fault ⊎ (fault ≡ LockLimit))
  pub shut : is_full (cache_of old) ≡ true → (new ≡ old) × IsErrAnd result
      (λ fault. first_refusal ((CacheFull, true) ∷ read_large_conditions old.document b i 1) ≡ Some fault)
  pub unseen : IsRefusedUnseen (read_large_conditions old.document b i 1) → (new ≡ old)
      × IsErrAnd result (λ fault. first_refusal (read_large_conditions old.document b i 1) ≡ Some fault)

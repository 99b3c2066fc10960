-- What is in memory behind an accepted line.
use Rattle.std.proofs.Common.{◌≡◌, ℕ, List, ◌∷◌, true, Result, Ok, Err, OnOk, is_ok, sym, subst}
use Rattle.geos_model.specs.declared.command.Kind.TheVariants.{In}
use Rattle.geos_model.specs.declared.fault.Fault.{Fault}
use Rattle.geos_model.specs.declared.handle.VmHandle.{VmHandle}
use Rattle.vm_store.specs.Facts.{StoreFacts}
use Rattle.chunk_edits.specs.declared.direction.Direction.{Direction}
use Rattle.chunk_edits.specs.declared.direction.Direction.TheVariants.{Backwards, Forwards}
use Rattle.vm_blocks.specs.State.{CacheState}
use Rattle.vm_blocks.specs.Changes.{directed}
use Rattle.vm_blocks.specs.Keeping.{is_loaded}
use Rattle.vm_blocks.specs.Locking.{GainsLock}
use Rattle.vm_blocks.specs.Preparing.{IsInMemory}
use Rattle.vm_blocks.specs.declared.change.Change.{Change}
use Rattle.vm_blocks.specs.declared.change.Change.TheVariants as changes
use Rattle.doc_edits.specs.Planning.{kind_of_change}
use Rattle.undo_log.specs.Logging.{reversed_entry}
use Rattle.undo_log.specs.Sessions.{SessionState, cache_of}
use Rattle.undo_log.specs.Turning.{IsEntryApplied, MovesEntry}
use Rattle.undo_log.specs.Entries.{LogEntry}
use Rattle.undo_log.specs.Entries as entries
use Rattle.geos_replies.specs.Holdings.{HasNextInMemory}

module _ {S : Type 0} where
  -- the block of a change within one, whichever way it is made
  part_in_memory : (direction : Direction) (c : Change) (state : CacheState S) → IsInMemory (directed direction c) state → (b : VmHandle) → kind_of_change c ≡ In b → is_loaded state b.0 ≡ true
  part_in_memory Forwards (changes.Part h part) state here b is = let same : h ≡ b = cc is in subst (λ (x : VmHandle). is_loaded state x.0 ≡ true) same here
  part_in_memory Backwards (changes.Part h part) state here b is = let same : h ≡ b = cc is in subst (λ (x : VmHandle). is_loaded state x.0 ≡ true) same here
  part_in_memory direction (changes.BlocksIn ms) state here b is = cc is
  part_in_memory direction (changes.BlocksOut ms) state here b is = cc is
  part_in_memory direction (changes.Attributes h old new) state here b is = cc is
  part_in_memory direction (changes.Map old new) state here b is = cc is

  module _ (facts : S → StoreFacts) (direction : Direction) (old new : SessionState S) where
    entry_in_memory : (e : LogEntry) (es : List LogEntry) → IsEntryApplied facts direction e (cache_of old) (cache_of new) → HasNextInMemory (reversed_entry e ∷ es) new
    entry_in_memory (entries.One c) es made = part_in_memory direction c (cache_of new) made.in_memory
    entry_in_memory (entries.Group cs) es made = λ b is. cc is

    -- of the entry that an undo or a redo took
    pub turn_in_memory : (from to from' to' : List LogEntry) (r : Result (Unit {0}) Fault) → OnOk r (MovesEntry facts direction (cache_of old) (cache_of new) from to from' to') → is_ok r ≡ true
        → HasNextInMemory to' new
    turn_in_memory from to from' to' (Ok x) moves well = subst (λ (es : List LogEntry). HasNextInMemory es new) (sym moves.to_is) (entry_in_memory moves.entry to moves.makes)
    turn_in_memory from to from' to' (Err fault) moves well = cc well

  -- a block that was locked
  pub lock_in_memory : (facts : S → StoreFacts) (h : ℕ) (old new : CacheState S) (r : Result (Unit {0}) Fault) → OnOk r (GainsLock facts h old new) → is_ok r ≡ true → is_loaded new h ≡ true
  lock_in_memory facts h old new (Ok x) gains well = gains.loaded
  lock_in_memory facts h old new (Err fault) gains well = cc well

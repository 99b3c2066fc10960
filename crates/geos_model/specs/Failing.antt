-- When a call may fail in place of its answer.
use Rattle.std.specs.Prelude.{◌≡◌, ◌≢◌, ◌⊎◌, ℕ, Bool, true, false, [], Some, None}
use Rattle.geos_model.specs.Reply.{Reply, Accepted, Refused}
use Rattle.geos_model.specs.Machine.{Machine, Request, Step, takes_memory, calls_store, has_locks, has_no_two}
use Rattle.geos_model.specs.Undoing.{is_refused}
use Rattle.geos_model.specs.declared.command.Command.{Command}
use Rattle.geos_model.specs.declared.command.Command.TheVariants as commands
use Rattle.geos_model.specs.declared.fault.Fault.TheVariants.{Memory, File}

-- Accepted; or refused for lack of memory, or since the store failed in that call, and then nothing changes.
abbrev pub IsTakenOrGivenUp : Bool → Machine → Reply → Machine → Type 0
IsTakenOrGivenUp failed old reply new =
    (reply ≡ Accepted) ⊎ ((new ≡ old) × ((reply ≡ Refused Memory) ⊎ ((reply ≡ Refused File) × (failed ≡ true))))

-- A request that is refused leaves the machine. Lack of memory is answered to nothing but a command that may take some,
-- and a file fault to nothing but one that calls the store, where it failed.
pub record FailingLaw : Type 0 where
  pub stays : (failed : Bool) (old new : Machine) (request : Request) (reply : Reply)
      → Step failed old request reply new → is_refused reply ≡ true → new ≡ old
  pub memory : (failed : Bool) (old new : Machine) (request : Request) → Step failed old request (Refused Memory) new
      → (c : Command) × (request ≡ Some c) × (takes_memory c old ≡ true)
  pub file : (failed : Bool) (old new : Machine) (request : Request) → Step failed old request (Refused File) new
      → (failed ≡ true) × (c : Command) × (request ≡ Some c) × (calls_store c old ≡ true)
  -- Where no group is open, no block is locked and there is something to take back, an undo is refused for nothing
  -- else; and so is a redo where there is something to make again. An abandon where a group is open and no block is
  -- locked is refused for nothing else either.
  pub undo : (failed : Bool) (old new : Machine) (reply : Reply) → old.group ≡ None → has_locks old ≡ false
      → old.past ≢ [] → Step failed old (Some commands.Undo) reply new → IsTakenOrGivenUp failed old reply new
  pub redo : (failed : Bool) (old new : Machine) (reply : Reply) → old.group ≡ None → has_locks old ≡ false
      → old.future ≢ [] → Step failed old (Some commands.Redo) reply new → IsTakenOrGivenUp failed old reply new
  pub abandon : (failed : Bool) (old new : Machine) (reply : Reply) → old.group ≢ None → has_locks old ≡ false
      → Step failed old (Some commands.Abandon) reply new → IsTakenOrGivenUp failed old reply new
  -- A join of two steps, where no group is open, is refused for lack of memory alone, and forgetting never.
  pub join : (failed : Bool) (old new : Machine) (reply : Reply) → old.group ≡ None → has_no_two old ≡ false
      → Step failed old (Some commands.Join) reply new
      → (reply ≡ Accepted) ⊎ ((new ≡ old) × (reply ≡ Refused Memory))
  pub forget : (failed : Bool) (old new : Machine) (most : ℕ) (reply : Reply)
      → Step failed old (Some (commands.Forget most)) reply new → reply ≡ Accepted

-- What a join, forgetting and a limit do to the steps, and to nothing else.
use Rattle.std.specs.Prelude.{◌≡◌, ◌≤◌, ◌+◌, ℕ, Bool, false, length, take, Some, None}
use Rattle.geos_model.specs.Reply.{Reply}
use Rattle.geos_model.specs.Machine.{Machine, OpenGroup, Request, Step, is_empty_group}
use Rattle.geos_model.specs.Undoing.{is_refused}
use Rattle.geos_model.specs.declared.command.Edit.{Edit}
use Rattle.geos_model.specs.declared.command.Command.TheVariants as commands

-- the same document, the same steps to be redone and the same open group
pub record SameButPast (old new : Machine) : Type 0 where
  pub document : new.document ≡ old.document
  pub future : new.future ≡ old.future
  pub group : new.group ≡ old.group

pub record StepsLaw : Type 0 where
  -- forgetting keeps the newest steps, as many as it says
  pub forget : (failed : Bool) (old new : Machine) (most : ℕ) (reply : Reply)
      → Step failed old (Some (commands.Forget most)) reply new
      → (new.past ≡ take most old.past) × SameButPast old new
  -- a join leaves one step fewer
  pub join : (failed : Bool) (old new : Machine) (reply : Reply)
      → Step failed old (Some commands.Join) reply new → is_refused reply ≡ false
      → (length new.past + 1 ≡ length old.past) × SameButPast old new
  -- where a join is accepted there are two steps, and no group is open
  pub joins : (failed : Bool) (old new : Machine) (reply : Reply)
      → Step failed old (Some commands.Join) reply new → is_refused reply ≡ false
      → (2 ≤ length old.past) × (old.group ≡ None)
  -- an edit in no group leaves no more steps than the limit, and so does the end of a group that has edits
  pub edit : (failed : Bool) (old new : Machine) (e : Edit) (most : ℕ) (reply : Reply)
      → Step failed old (Some (commands.Edit e)) reply new → is_refused reply ≡ false
      → old.group ≡ None → old.undo_limit ≡ Some most → length new.past ≤ most
  pub ended : (failed : Bool) (old new : Machine) (g : OpenGroup) (most : ℕ) (reply : Reply)
      → Step failed old (Some commands.End) reply new → is_refused reply ≡ false
      → old.group ≡ Some g → is_empty_group g ≡ false → old.undo_limit ≡ Some most → length new.past ≤ most
  -- no request changes the limit
  pub limit : (failed : Bool) (old new : Machine) (request : Request) (reply : Reply)
      → Step failed old request reply new → new.undo_limit ≡ old.undo_limit

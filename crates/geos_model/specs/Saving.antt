-- What a save keeps and a revert gives back, over runs of the machine alone.
use Rattle.std.specs.Prelude.{◌≡◌, List, [], Bool, true, false, Some}
use Rattle.geos_model.specs.Reply.{Reply}
use Rattle.geos_model.specs.Machine.{Machine, Request, Call, Step, Run}
use Rattle.geos_model.specs.Undoing.{is_refused, is_revert, accepted}
use Rattle.geos_model.specs.declared.command.Command.TheVariants as commands

-- a save or a save-as
abbrev pub is_save : Request → Bool
is_save (Some commands.Save) = true
is_save (Some commands.SaveAs) = true
is_save request = false

-- Saves and reverts that are accepted, in a call in which the store failed or didn't.
pub record SaveLaw : Type 0 where
  -- a save keeps the document as it is
  pub keeps : (failed : Bool) (old new : Machine) (request : Request) (reply : Reply)
      → Step failed old request reply new
      → is_refused reply ≡ false → is_save request ≡ true → (new.saved ≡ old.document) × (new.document ≡ old.document)
  -- a revert gives back the document that was saved, whatever stands between but accepted saves, and leaves nothing to
  -- undo or redo
  pub gives : (failed : Bool) (old late new : Machine) (calls : List Call) (request : Request) (reply : Reply)
      → Run old calls late → Step failed late request reply new
      → accepted is_save calls ≡ 0 → is_refused reply ≡ false → is_revert request ≡ true
      → (new.document ≡ old.saved) × (new.past ≡ []) × (new.future ≡ [])

-- Where the machine says that the document is the saved or the updated one, it is; and it says so.
use Rattle.std.specs.Prelude.{◌≡◌, ◌<◌, ◌+◌, ℕ, zero, suc, List, [], ◌∷◌, Bool, true, false, ◌||◌, if◌then◌else◌, All, Option, Some, None}
use Rattle.geos_model.specs.Document.{Document}
use Rattle.geos_model.specs.Position.{Position, Back, Ahead, Nowhere}
use Rattle.geos_model.specs.Reply.{Reply, Accepted, NumberIs}
use Rattle.geos_model.specs.Machine.{Machine, UndoStep, OpenGroup, Request, Call, Step, Run, IsValidMachine, is_committed, opened_machine, empty_machine}
use Rattle.geos_model.specs.Undoing.{is_refused, is_revert, moves}
use Rattle.geos_model.specs.Saving.{is_save}
use Rattle.geos_model.specs.Validity.{word_asked}
use Rattle.geos_model.specs.declared.command.Command.TheVariants as commands

-- the document so many steps on
abbrev pub steps_on : Document → List UndoStep → ℕ → Option Document
steps_on d steps zero = Some d
steps_on d [] (suc n) = None
steps_on d (s ∷ steps) (suc n) = steps_on s.document steps n

-- the document before the group that is open, else this one
abbrev pub outside_group : Option OpenGroup → Document → Document
outside_group None d = d
outside_group (Some g) d = g.before

-- The document stands there.
abbrev pub StandsAt : Position → Machine → Document → Type 0
StandsAt (Back n) m d = steps_on (outside_group m.group m.document) m.past n ≡ Some d
StandsAt (Ahead n) m d = steps_on m.document m.future (suc n) ≡ Some d
StandsAt Nowhere m d = Unit {0}

-- the committed documents stand where the machine says
pub record AreRightPositions (m : Machine) : Type 0 where
  pub updated : StandsAt m.updated_at m m.updated
  pub saved : StandsAt m.saved_at m m.saved

abbrev pub commits_update : Request → Bool
commits_update (Some commands.Update) = true
commits_update request = false

abbrev pub is_as_updated : Machine → Bool
is_as_updated m = is_committed m.updated_at m

abbrev pub is_as_saved : Machine → Bool
is_as_saved m = is_committed m.saved_at m

-- what moves the machine, commits or ends a group
abbrev pub may_change_positions : Request → Bool
may_change_positions (Some commands.End) = true
may_change_positions request = moves request || is_save request || commits_update request

-- the committed documents stand where they stood
pub record SamePositions (old new : Machine) : Type 0 where
  pub updated : new.updated_at ≡ old.updated_at
  pub saved : new.saved_at ≡ old.saved_at

pub record StandingLaw : Type 0 where
  -- The positions are right at the start, and each run of a valid machine keeps that.
  pub start : (frames : ℕ) (target : Bool) → AreRightPositions (empty_machine frames target)
  pub opened : (updated saved : Document) (one : Bool) (sequence frames : ℕ) (target : Bool)
      → (one ≡ true → saved ≡ updated) → AreRightPositions (opened_machine updated saved one sequence frames target)
  pub run : (old new : Machine) (calls : List Call) → All (λ c. word_asked c.request < 65536) calls → IsValidMachine old
      → AreRightPositions old → Run old calls new → AreRightPositions new
  -- What the machine says of the document is so.
  pub updated : (m : Machine) → IsValidMachine m → AreRightPositions m → is_as_updated m ≡ true → m.document ≡ m.updated
  pub saved : (m : Machine) → IsValidMachine m → AreRightPositions m → is_as_saved m ≡ true → m.document ≡ m.saved
  -- It says so right after a commit, and after opening a file with one directory for both documents;
  pub after_update : (failed : Bool) (old new : Machine) (request : Request) (reply : Reply)
      → Step failed old request reply new → is_refused reply ≡ false → commits_update request ≡ true
      → is_as_updated new ≡ true
  pub after_save : (failed : Bool) (old new : Machine) (request : Request) (reply : Reply)
      → Step failed old request reply new → is_refused reply ≡ false → is_save request ≡ true
      → (is_as_updated new ≡ true) × (is_as_saved new ≡ true)
  pub after_revert : (failed : Bool) (old new : Machine) (request : Request) (reply : Reply)
      → Step failed old request reply new → is_refused reply ≡ false → is_revert request ≡ true
      → (is_as_updated new ≡ true) × (is_as_saved new ≡ true)
  pub after_opening : (updated saved : Document) (one : Bool) (sequence frames : ℕ) (target : Bool)
      → (is_as_updated (opened_machine updated saved one sequence frames target) ≡ true)
      × (is_as_saved (opened_machine updated saved one sequence frames target) ≡ one)
  -- an undo that is redone leads to the same positions, and a redo that is undone,
  pub undone : (failed failed_back : Bool) (old mid new : Machine) → Step failed old (Some commands.Undo) Accepted mid
      → Step failed_back mid (Some commands.Redo) Accepted new → SamePositions old new
  pub redone : (failed failed_back : Bool) (old mid new : Machine) → Step failed old (Some commands.Redo) Accepted mid
      → Step failed_back mid (Some commands.Undo) Accepted new → SamePositions old new
  -- and what changes neither document nor steps, commits nothing and ends no group leaves them.
  pub leaves : (failed : Bool) (old new : Machine) (request : Request) (reply : Reply)
      → Step failed old request reply new → may_change_positions request ≡ false → SamePositions old new
  -- A script is told so: 1 for the saved document, and 2 more for the updated one.
  pub tells : (failed : Bool) (old new : Machine) (reply : Reply)
      → Step failed old (Some commands.Modified) reply new
      → reply ≡ NumberIs ((if is_as_saved old then 1 else 0) + (if is_as_updated old then 2 else 0))

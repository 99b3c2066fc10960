-- The law of names: each step has one, of no bytes where it wasn't named, and it goes where its step goes.
use Rattle.std.specs.Prelude.{◌≡◌, ℕ, List, [], ◌∷◌, ◌==◌, length, drop, take, Bool, false, if◌then◌else◌, Option, Some, None}
use Rattle.geos_model.specs.Document.{Document}
use Rattle.geos_model.specs.Reply.{Reply, BytesAre}
use Rattle.geos_model.specs.Machine.{Machine, Call, Step, opened_machine}
use Rattle.geos_model.specs.Touching.{Calls}
use Rattle.geos_model.specs.Undoing.{is_refused}
use Rattle.geos_model.specs.declared.command.Edit.{Edit}
use Rattle.geos_model.specs.declared.command.Command.TheVariants as commands

-- there are as many names as steps
pub record AreNamed (m : Machine) : Type 0 where
  pub past : length m.past_names ≡ length m.past
  pub future : length m.future_names ≡ length m.future

-- the newest name of these, and the others behind it
abbrev pub FirstOf : List ℕ → List (List ℕ) → List (List ℕ) → Type 0
FirstOf name others names = names ≡ name ∷ others

-- the name goes from the newest step of one list to that of another
abbrev pub GoesOver : List (List ℕ) → List (List ℕ) → List (List ℕ) → List (List ℕ) → Type 0
GoesOver from left to got = (name : List ℕ) × FirstOf name left from × FirstOf name to got

-- In a call in which the store failed or didn't.
pub record NamesLaw : Type 0 where
  -- after opening, and after any calls, each step has a name
  pub as_many : (updated saved : Document) (one : Bool) (sequence frames : ℕ) (target : Bool)
      (calls : List (Option Call)) (m : Machine)
      → Calls (opened_machine updated saved one sequence frames target) calls m → AreNamed m
  -- the newest step gets the name that is given, and nothing else changes
  pub name : (failed : Bool) (old new : Machine) (name : List ℕ) (reply : Reply)
      → Step failed old (Some (commands.Name name)) reply new → is_refused reply ≡ false
      → new ≡ record old { past_names = name ∷ drop 1 old.past_names }
  -- which is the answer then
  pub answers : (failed : Bool) (old new : Machine) (name : List ℕ) (others : List (List ℕ)) (reply : Reply)
      → FirstOf name others old.past_names → Step failed old (Some commands.UndoName) reply new
      → is_refused reply ≡ false → reply ≡ BytesAre name
  pub answers_ahead : (failed : Bool) (old new : Machine) (name : List ℕ) (others : List (List ℕ)) (reply : Reply)
      → FirstOf name others old.future_names → Step failed old (Some commands.RedoName) reply new
      → is_refused reply ≡ false → reply ≡ BytesAre name
  -- an undo takes the name of its step along, and a redo brings it back
  pub undo : (failed : Bool) (old new : Machine) (reply : Reply) → AreNamed old
      → Step failed old (Some commands.Undo) reply new → is_refused reply ≡ false
      → GoesOver old.past_names new.past_names old.future_names new.future_names
  pub redo : (failed : Bool) (old new : Machine) (reply : Reply) → AreNamed old
      → Step failed old (Some commands.Redo) reply new → is_refused reply ≡ false
      → GoesOver old.future_names new.future_names old.past_names new.past_names
  -- of two steps that are joined the newer one's stays, or the older one's where that has none
  pub join : (failed : Bool) (old new : Machine) (newer older : List ℕ) (others : List (List ℕ)) (reply : Reply)
      → old.past_names ≡ newer ∷ older ∷ others
      → Step failed old (Some commands.Join) reply new → is_refused reply ≡ false
      → new.past_names ≡ (if length newer == 0 then older else newer) ∷ others
  -- forgetting takes the names of the steps that it takes
  pub forget : (failed : Bool) (old new : Machine) (most : ℕ) (reply : Reply)
      → Step failed old (Some (commands.Forget most)) reply new → new.past_names ≡ take most old.past_names
  -- a new step has none, and the older ones keep theirs
  pub edit : (failed : Bool) (old new : Machine) (e : Edit) (reply : Reply)
      → old.group ≡ None → old.undo_limit ≡ None
      → Step failed old (Some (commands.Edit e)) reply new → is_refused reply ≡ false
      → new.past_names ≡ [] ∷ old.past_names

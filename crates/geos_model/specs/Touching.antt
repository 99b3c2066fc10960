-- The law of what is told: whoever keeps a copy of the document, and after each accepted edit, undo, redo, abandon and
-- revert looks again at the places that are told and at nothing else, has the document.
use Rattle.std.specs.Prelude.{◌≡◌, ℕ, List, [], ◌∷◌, ◌⊎◌, length, nat_lt, Bool, true, false, not, ◌&&◌, Option, Some, None, unwrap_or}
use Rattle.std.specs.Option.{option_map, option_map_or}
use Rattle.geos_model.specs.Document.{Document}
use Rattle.geos_model.specs.Places.{attributes_under, text_under, Holed, with_holes, without_holes, ChangesAt}
use Rattle.geos_model.specs.Reply.{Reply, Accepted, Refused, PlacesAre}
use Rattle.geos_model.specs.Machine.{Machine, Request, Call, Step, in_group, opened_machine, with_undo_limit}
use Rattle.geos_model.specs.Undoing.{is_refused}
use Rattle.geos_model.specs.declared.block.Attributes.{Attributes}
use Rattle.geos_model.specs.declared.fault.Fault.TheVariants.{Memory}
use Rattle.geos_model.specs.declared.place.Place.{Place}
use Rattle.geos_model.specs.declared.command.Command.{Command}
use Rattle.geos_model.specs.declared.command.Command.TheVariants as commands

-- What a program can see of a document.
pub record View : Type 0 where
  pub map_block : ℕ
  pub attributes : ℕ → Option Attributes
  pub text : ℕ → ℕ → Option (List ℕ)

abbrev pub view : Document → View
view d = record { map_block = d.map_block; attributes = attributes_under d; text = text_under d }

-- these bytes, and for each hole the byte that stands there
abbrev pub filled_bytes : List (Option ℕ) → List ℕ → List ℕ
filled_bytes [] xs = []
filled_bytes (t ∷ ts) [] = unwrap_or t 0 ∷ filled_bytes ts []
filled_bytes (t ∷ ts) (x ∷ xs) = unwrap_or t x ∷ filled_bytes ts xs

-- what is no hole, and in each hole what stands there in this document
abbrev pub filled : Holed → Document → View
filled h d = record {
  map_block = unwrap_or h.map_block d.map_block;
  attributes = λ b. unwrap_or (h.attributes b) (attributes_under d b);
  text = λ b c. option_map_or (option_map (λ t. filled_bytes t (unwrap_or (text_under d b c) []))) (h.text b c)
      (text_under d b c);
}

-- the copy of a document after looking again at these places of the document that it has become, and at nothing else
abbrev pub looked_again : List Place → Document → Document → View
looked_again ps old new = filled (with_holes ps (without_holes old)) new

-- the requests after which places are told anew: those that may move the document
abbrev pub tells : Request → Bool
tells (Some (commands.Edit e)) = true
tells (Some commands.Undo) = true
tells (Some commands.Redo) = true
tells (Some commands.Abandon) = true
tells (Some commands.Revert) = true
tells request = false

-- What is told of a call: the document changes at these places and nowhere else; or it stays, and so does what is told.
abbrev pub IsTold : Bool → Machine → Machine → Type 0
IsTold true old new = ChangesAt new.touched old.document new.document
IsTold false old new = (new.document ≡ old.document) × (new.touched ≡ old.touched)

-- whether a command could be made now but for locks and want of memory: an undo or a redo where no group is open and
-- there is a step, an abandon where a group is open
abbrev pub is_ahead : Command → Machine → Bool
is_ahead commands.Undo m = not (in_group m) && nat_lt 0 (length m.past)
is_ahead commands.Redo m = not (in_group m) && nat_lt 0 (length m.future)
is_ahead commands.Abandon m = in_group m
is_ahead c m = false

-- the command that a look-up asks of ahead
abbrev pub foretold : Command → Option Command
foretold commands.UndoPlaces = Some commands.Undo
foretold commands.RedoPlaces = Some commands.Redo
foretold commands.AbandonPlaces = Some commands.Abandon
foretold c = None

-- Calls, and between them limits that are set.
abbrev pub Calls : Machine → List (Option Call) → Machine → Type 0
Calls old [] new = new ≡ old
Calls old (Some c ∷ cs) new = (mid : Machine) × Step c.failed old c.request c.reply mid × Calls mid cs new
Calls old (None ∷ cs) new = (limit : Option ℕ) × Calls (with_undo_limit limit old) cs new

pub record TouchedLaw : Type 0 where
  -- after opening, and after any calls, the next one tells what it changes
  pub told : (updated saved : Document) (one : Bool) (sequence frames : ℕ) (target : Bool) (calls : List (Option Call))
      (old new : Machine) (c : Call)
      → Calls (opened_machine updated saved one sequence frames target) calls old
      → Step c.failed old c.request c.reply new
      → IsTold (not (is_refused c.reply) && tells c.request) old new
  -- where a document changes at these places and nowhere else, a copy that looks again there is as it
  pub seen : (ps : List Place) (old new : Document) → ChangesAt ps old new → looked_again ps old new ≡ view new
  -- what is told is what is asked for, and is refused for nothing but want of memory
  pub asked : (failed : Bool) (old new : Machine) (reply : Reply) → Step failed old (Some commands.Touched) reply new
      → (reply ≡ PlacesAre old.touched) ⊎ (reply ≡ Refused Memory)
  -- so what an undo, a redo or an abandon would tell, where there is something to take back or to make again
  pub foretells : (failed : Bool) (old new : Machine) (asked does : Command) (reply : Reply)
      → foretold asked ≡ Some does → is_ahead does old ≡ true → Step failed old (Some asked) reply new
      → ((ps : List Place) × (reply ≡ PlacesAre ps)) ⊎ (reply ≡ Refused Memory)
  -- what is told of it then is what it was said to tell
  pub ahead : (old mid new : Machine) (asked does : Command) (ps : List Place) (failed later : Bool)
      → foretold asked ≡ Some does → Step failed old (Some asked) (PlacesAre ps) mid
      → Step later mid (Some does) Accepted new → new.touched ≡ ps

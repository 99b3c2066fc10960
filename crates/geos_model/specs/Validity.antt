-- Every step of the machine keeps validity.
use Rattle.std.specs.Prelude.{◌≡◌, ◌<◌, ℕ, Bool, List, All, Some, None}
use Rattle.geos_model.specs.Refusal.{first_refusal}
use Rattle.geos_model.specs.Document.{Document, IsValid}
use Rattle.geos_model.specs.Meaning.{conditions, effect}
use Rattle.geos_model.specs.Reply.{Reply}
use Rattle.geos_model.specs.Machine.{Machine, Request, Call, Step, Run, IsValidMachine, opened_machine, empty_machine}
use Rattle.geos_model.specs.declared.command.Edit.{Edit}
use Rattle.geos_model.specs.declared.command.Edit.TheVariants as edits
use Rattle.geos_model.specs.declared.command.Command.TheVariants as commands

-- the user ID or the type that an edit gives a block, 0 where it gives none
abbrev pub word_given : Edit → ℕ
word_given (edits.NewRaw uid size) = uid
word_given (edits.NewHeap uid) = uid
word_given (edits.CreateLarge uid size) = uid
word_given (edits.SetUserId b uid) = uid
word_given (edits.SetType b heap_type) = heap_type
word_given e = 0

-- that of a request's edit, 0 where it is none
abbrev pub word_asked : Request → ℕ
word_asked (Some (commands.Edit e)) = word_given e
word_asked request = 0

-- The machine is valid at the start, and where user IDs and types are words, an edit that nothing refuses, each step
-- and each run keep validity.
pub record ValidityLaw : Type 0 where
  pub start : (frames : ℕ) (target : Bool) → IsValidMachine (empty_machine frames target)
  pub opened : (updated saved : Document) (one : Bool) (sequence frames : ℕ) (target : Bool) → IsValid updated
      → IsValid saved → IsValidMachine (opened_machine updated saved one sequence frames target)
  pub edit : (e : Edit) (d : Document) → word_given e < 65536 → IsValid d → first_refusal (conditions e d) ≡ None
      → IsValid (effect e d).0
  pub step : (old new : Machine) (request : Request) (reply : Reply) (failed : Bool) → word_asked request < 65536
      → IsValidMachine old → Step failed old request reply new → IsValidMachine new
  pub run : (old new : Machine) (calls : List Call) → All (λ c. word_asked c.request < 65536) calls → IsValidMachine old
      → Run old calls new → IsValidMachine new

-- What reading a command answers.
use Rattle.std.specs.Prelude.{◌≡◌, ◌⊎◌, ℕ, List, [], ◌∷◌, Bool, true, false, ◌||◌, Option, Some, None, IsSomeAnd, IsTrue, Result, Ok, Err, MatchResult}
use Rattle.geos_model.specs.declared.fault.Fault.{Fault}
use Rattle.geos_model.specs.declared.fault.Fault.TheVariants as faults
use Rattle.geos_model.specs.declared.command.Edit.{Edit}
use Rattle.geos_model.specs.declared.command.Edit.TheVariants as edits
use Rattle.geos_model.specs.declared.command.Command.{Command}
use Rattle.geos_model.specs.declared.command.Command.TheVariants as commands

abbrev pub is_nonempty : List ℕ → Bool
is_nonempty [] = false
is_nonempty (x ∷ xs) = true

abbrev pub edit_has_bytes : Edit → Bool
edit_has_bytes (edits.WriteRaw b at bytes) = is_nonempty bytes
edit_has_bytes (edits.SpliceRaw b at n bytes) = is_nonempty bytes
edit_has_bytes (edits.Attach b bytes) = is_nonempty bytes
edit_has_bytes (edits.Write b c at bytes) = is_nonempty bytes
edit_has_bytes (edits.Splice b c at n bytes) = is_nonempty bytes
edit_has_bytes (edits.InsertElement b c i element) = is_nonempty element
edit_has_bytes (edits.SetElement b c i element) = is_nonempty element
edit_has_bytes (edits.AddElement b c element) = is_nonempty element
edit_has_bytes (edits.ChangeElement b c t element) = is_nonempty element
edit_has_bytes (edits.AddName b c name part replace) = is_nonempty name || is_nonempty part
edit_has_bytes (edits.ChangeName b c t name) = is_nonempty name
edit_has_bytes (edits.SetNamePart b c t part) = is_nonempty part
edit_has_bytes (edits.InsertLarge b i bytes) = is_nonempty bytes
edit_has_bytes (edits.SetLarge b i bytes) = is_nonempty bytes
edit_has_bytes _ = false

-- Whether a command has bytes to be kept: reading it takes memory for these and for nothing else.
abbrev pub command_has_bytes : Command → Bool
command_has_bytes (commands.Edit e) = edit_has_bytes e
command_has_bytes (commands.NameFind b c name) = is_nonempty name
command_has_bytes (commands.Name name) = is_nonempty name
command_has_bytes _ = false

-- why reading fails: BadCommand where nothing is meant, or Memory where what is meant has bytes
abbrev pub FailsToRead : {A : Type 0} → (A → Bool) → Option A → Fault → Type 0
FailsToRead has meant fault =
    ((fault ≡ faults.BadCommand) × (meant ≡ None)) ⊎ ((fault ≡ faults.Memory) × IsSomeAnd meant (λ x. IsTrue (has x)))

-- what reading answers: what is meant, or why it fails
abbrev pub ReadsAs : {A : Type 0} → (A → Bool) → Option A → Result A Fault → Type 0
ReadsAs has meant result = MatchResult result (λ x. meant ≡ Some x) (FailsToRead has meant)

-- what a call answers that puts what it reads in a place
abbrev pub putting : {A T E : Type 0} → Result T E → A → Result A E
putting (Ok _) x = Ok x
putting (Err e) x = Err e

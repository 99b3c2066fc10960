-- What is made of the words behind a name.
use Rattle.std.specs.Prelude.{◌≡◌, ℕ, Bool, true, false, if◌then◌else◌, List, [], ◌∷◌, drop, Option, Some, None, IsSomeAnd, Result, MatchResult}
use Rattle.std.specs.Option.{option_and_then, option_map}
use Rattle.std.specs.Borrow.{Bor}
use Rattle.geos_model.specs.Script.{by_name, commands_by_name, is_blank, words}
use Rattle.geos_model.specs.declared.fault.Fault.{Fault}
use Rattle.geos_model.specs.declared.fault.Fault.TheVariants as faults
use Rattle.geos_model.specs.declared.command.Command.{Command}
use Rattle.geos_script.specs.Reading.{FailsToRead}

-- What words spell, one after another. Behind the last there is no word.

-- what the first word spells, and the words behind it
abbrev pub read_off : {A : Type 0} → (List ℕ → Option A) → List (List ℕ) → Option (A × List (List ℕ))
read_off p [] = None
read_off p (w ∷ ws) = option_map (λ a. (a, ws)) (p w)

abbrev pub operand_then : {A T : Type 0} → (List ℕ → Option A) → (List (List ℕ) → Option T) → List (List ℕ)
    → Option (A × T)
operand_then p others ws = option_and_then (λ x. option_map (λ t. (x.0, t)) (others x.1)) (read_off p ws)

abbrev pub last : {A : Type 0} → (List ℕ → Option A) → List (List ℕ) → Option A
last p (w ∷ []) = p w
last p _ = None

abbrev pub is_no_word : List (List ℕ) → Bool
is_no_word [] = true
is_no_word (w ∷ ws) = false

-- a blank or the end, before which a word ends
abbrev pub is_behind_word : List ℕ → Bool
is_behind_word [] = true
is_behind_word (x ∷ xs) = is_blank x

abbrev pub nothing : List (List ℕ) → Option (Unit {0})
nothing ws = if is_no_word ws then Some tt else None

-- What reading an operand off a text answers: what the text's first word spells, and the text behind it.
abbrev pub ReadsOff : {A : Type 0} → (List ℕ → Option A) → List ℕ → Result (A × Bor (List ℕ)) Fault → Type 0
ReadsOff p text result =
    MatchResult result (λ x. read_off p (words text) ≡ Some (x.0, words x.1.now))
    (λ fault. (fault ≡ faults.BadCommand) × (read_off p (words text) ≡ None))

-- What was made of operands that words spell, if they spell any. There may be no memory for what has to be kept.
abbrev pub ParsesOperands : {T R : Type 0} → (T → Bool) → (T → R → Type 0) → Option T → Result R Fault → Type 0
ParsesOperands is_kept made spelled result =
    MatchResult result (λ x. IsSomeAnd spelled (λ t. made t x)) (FailsToRead is_kept spelled)

-- what a name and its operands mean by the rows of the script's table from one on
unfoldable pub named_from : ℕ → List ℕ → List (List ℕ) → Option Command
named_from row name operands = by_name name operands (drop row commands_by_name)

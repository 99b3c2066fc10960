-- What a line that is typed is.
use Rattle.std.specs.Prelude.{◌≡◌, ◌⊎◌, ℕ, Bool, true, false, not, List, [], ◌∷◌, ◌++◌, ◌==◌, codes, if◌then◌else◌, is_some}
use Rattle.hex.specs.Hex.{encode_lower}
use Rattle.geos_model.specs.Script.{command}
use Rattle.typed_lines.specs.declared.operand.Operand.{Operand}
use Rattle.typed_lines.specs.declared.operand.Operand.TheVariants as operands
use Rattle.typed_lines.specs.declared.typed.Typed.{Typed}
use Rattle.typed_lines.specs.declared.typed.Typed.TheVariants as lines

-- the mark at which a text begins and ends
abbrev pub quote : ℕ
quote = 34

-- A line with two hexadecimal digits for each byte between quotes, and without these. First it is told whether a text
-- has begun.
abbrev pub spelled_from : Bool → List ℕ → List ℕ
spelled_from is_open [] = []
spelled_from true (x ∷ xs) = if x == quote then spelled_from false xs else encode_lower (x ∷ []) ++ spelled_from true xs
spelled_from false (x ∷ xs) = if x == quote then spelled_from true xs else x ∷ spelled_from false xs

abbrev pub spelled_line : List ℕ → List ℕ
spelled_line line = spelled_from false line

-- whether a text is open still at the end
abbrev pub ends_open : Bool → List ℕ → Bool
ends_open is_open [] = is_open
ends_open is_open (x ∷ xs) = if x == quote then ends_open (not is_open) xs else ends_open is_open xs

-- what stands before an operand in a command of which it is the last one
abbrev pub operand_probe : Operand → List ℕ
operand_probe operands.Block = codes "info "
operand_probe operands.Chunk = codes "info "
operand_probe operands.Token = codes "info "
operand_probe operands.UserId = codes "newheap "
operand_probe operands.HeapType = codes "newheap "
operand_probe operands.Number = codes "forget "
operand_probe operands.ElementNumber = codes "hget 0001 "
operand_probe operands.Bytes = codes "name "
operand_probe operands.KeepOrSet = codes "nadd 0001 0010 00 00 "

abbrev pub is_command : List ℕ → Bool
is_command line = is_some (command line)

-- What a typed line is. One that is a command as it stands goes to the machine so, and so does one that is a command
-- with bytes for its texts. Any other is refused there, unless it asks for help or ends the script.
abbrev pub IsTypedLine : List ℕ → Typed → Type 0
IsTypedLine typed (lines.Command line) =
    (is_command line.items ≡ true)
    × ((line.items ≡ typed) ⊎ ((is_command typed ≡ false) × (line.items ≡ spelled_line typed)))
IsTypedLine typed (lines.Refused line reason) =
    (is_command typed ≡ false) × (is_command line.items ≡ false)
    × (line.items ≡ (if ends_open false typed then typed else spelled_line typed))
IsTypedLine typed (lines.Help text) = is_command typed ≡ false
IsTypedLine typed lines.Quit = is_command typed ≡ false

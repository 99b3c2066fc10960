use Rattle.std.proofs.Common.{◌≡◌, ◌++◌, drop, false}
use Rattle.typed_lines.specs.Typing.{ends_open, spelled_from}
use Rattle.typed_lines.proofs.texts.push_spelled.Given as goal

-- What is left of the line is spelled behind what is there.
abbrev pub invariant-loop-byte : goal.invariant-loop-byte
invariant-loop-byte l =
    (l.out.items ++ spelled_from l.is_open (drop l.byte-index l.line) ≡ l.fn.out.items ++ spelled_from false l.line)
    × (ends_open l.is_open (drop l.byte-index l.line) ≡ ends_open false l.line)

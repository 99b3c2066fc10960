use Rattle.std.proofs.Common.{◌≡◌, sym, ◌∙◌, true, false, ◌==◌, ◌%◌, length}
use Rattle.geos_script.proofs.Spelling.{spelled_digits}
use Rattle.geos_script.proofs.operands.spells_bytes.Goals as goal
use Rattle.geos_script.proofs.operands.spells_bytes.Goals.{then-not-is_empty, else-not-is_empty}

pub returns-then-word-eq0 : goal.returns-then-word-eq0
returns-then-word-eq0 c =
    let no_dash = rw c.as_slice.ensures at c.if-eq.ensures in
    elim c.if-not-is_empty.branch [
      | then-not-is_empty w ↦
          let some : length c.args.word.now == 0 ≡ false = cc in
          let even : length c.args.word.now % 2 == 0 ≡ true = cc in
          c.are_digits.ensures ∙ spelled_digits c.args.word.now (sym no_dash) some even
      | else-not-is_empty w ↦ cc
    ]

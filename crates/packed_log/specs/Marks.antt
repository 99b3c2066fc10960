-- How many bytes and how many values a record has, as its mark says.
use Rattle.std.specs.Prelude.{ℕ}
use Rattle.packed_log.specs.declared.mark.Mark.{Mark}
use Rattle.packed_log.specs.declared.mark.Mark.TheVariants.{Short, Whole}

module _ {H : Type 0} where
  abbrev pub mark_bytes : Mark H → ℕ
  mark_bytes (Short len head) = len
  mark_bytes Whole = 0

  abbrev pub mark_wholes : Mark H → ℕ
  mark_wholes (Short len head) = 0
  mark_wholes Whole = 1

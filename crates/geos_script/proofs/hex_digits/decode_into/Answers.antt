use Rattle.std.proofs.Common.{◌≡◌, ◌∙◌, Ok, sym, ap, arith}
use Rattle.hex.specs.Hex.{decode_pairs}
use Rattle.geos_script.proofs.Decoding.{decoded-nothing, decoded-parts}
use Rattle.geos_script.proofs.hex_digits.decode_into.Goals as goal
use Rattle.geos_script.proofs.hex_digits.decode_into.Goals.{else-many-gt0-via-then-many-gt0+else-not-decode_many, else-many-gt0-via-else-many-gt0}

-- what many digits spell, of which there may be none
front_spelled : (c : goal.After-slice_known-3-1) → decode_pairs 0 c.split_at.result.0.now ≡ Ok c.else-many-gt0.front
front_spelled c = elim c.else-many-gt0.branch [
  | else-many-gt0-via-then-many-gt0+else-not-decode_many w ↦ w.decode_many.ensures.spelled w.if-not-decode_many.false ∙ ap Ok (sym w.front-is)
  | else-many-gt0-via-else-many-gt0 w ↦
      decoded-nothing _ _ (omega (arith, c.split_at.ensures.front_len)) (omega (arith, c.split_at_mut-front.ensures.front_len, c.else-many-gt0.auto.front))
]

pub returns-clause-spelled : goal.returns-clause-spelled
returns-clause-spelled c = λ all.
    decoded-parts c.args.digits.now _ _ _ _ _ c.split_at.ensures.front c.split_at.ensures.back (front_spelled c) (c.decode_few.ensures.spelled all)

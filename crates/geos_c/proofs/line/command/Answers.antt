use Rattle.std.proofs.Common.{inr, refl}
use Rattle.geos_c.proofs.line.command.Goals as goal

-- there was no memory for the line or its reply
pub returns : goal.returns
returns g c =
    inr (record { target = c.answer_line.new.target; former = c.answer_line.new.former; may = c.in-Err.ensures.may; code_is = refl; none = (refl, refl) })

use Rattle.std.proofs.Common.{arith}
use Rattle.geos_script.proofs.Spelling.{small_number}
use Rattle.geos_script.proofs.operands.leading_number.Goals as goal

pub overflow_mul-number : goal.overflow_mul-number
overflow_mul-number g c = omega (arith, small_number c.loop-i.number c.loop-i.i c.loop-i.invariant.2 (omega arith))

pub overflow_add-number : goal.overflow_add-number
overflow_add-number g c = omega (arith, small_number c.loop-i.number c.loop-i.i c.loop-i.invariant.2 (omega arith))

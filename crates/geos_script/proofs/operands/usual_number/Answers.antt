use Rattle.std.proofs.Common.{refl, arith}
use Rattle.geos_script.proofs.ReadingOff.{number-usual}
use Rattle.geos_script.proofs.Words.{length-rest, take_rest}
use Rattle.geos_script.proofs.operands.usual_number.Goals as goal

pub returns : goal.returns
returns g c = λ some.
    let text = c.args.text.now in
    let found = c.leading_number-number.ensures in
    let end = c.leading_number-number.result.1 in (
      omega (arith, length-rest text 1),
      rw found.value
          (number-usual g.row.MOST text _ _ end (omega arith) (omega arith) (take_rest text 1) (omega arith) found.within found.few found.digits (take_rest _ end)
          (c.if-not-ends_word.ensures refl)),
    )

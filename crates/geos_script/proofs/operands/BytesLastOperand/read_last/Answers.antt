use Rattle.std.proofs.Common.{sym, arith}
use Rattle.std.proofs.lemmas.Bool.Decides.{nat_tests}
use Rattle.geos_script.proofs.ReadingOff.{bytes-read}
use Rattle.geos_script.proofs.Words.{take_rest}
use Rattle.geos_script.proofs.operands.BytesLastOperand.read_last.Goals as goal

pub returns-in-Ok-Some : goal.returns-in-Ok-Some
returns-in-Ok-Some c =
    let text = c.args.text.now in
    let spelled = rw c.in-Ok-Some.field-0-is at c.in-Ok-Some.ensures in
    bytes-read text _ c.in-Ok-Some.bytes (omega arith) (omega arith) (take_rest text 1) (grind (arith, nat_tests)) (omega arith) (sym spelled)

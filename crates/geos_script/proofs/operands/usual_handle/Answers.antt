use Rattle.std.proofs.Common.{refl, arith}
use Rattle.geos_script.proofs.ReadingOff.{handle-usual}
use Rattle.geos_script.proofs.Words.{take_rest}
use Rattle.geos_script.proofs.operands.usual_handle.Goals as goal

pub returns : goal.returns
returns c =
    let text = c.args.text.now in
    handle-usual text _ c.handle_of.result (omega arith) (omega arith) c.handle_of.ensures (take_rest text 5) (c.if-not-ends_word.ensures refl)

use Rattle.std.proofs.Common.{Some, sym, ap}
use Rattle.element_arrays.proofs.UsedLemmas.{answers_element}
use Rattle.element_arrays.proofs.SlottedLemmas.{carried}
use Rattle.element_arrays.proofs.look_ups.element_of.Goals as goal

pub returns-in_err-slots : goal.returns-in_err-slots
returns-in_err-slots c =
    carried c.from_residual.result _ _ c.in_err-slots.field-0.0 c.from_residual.ensures.1 (rw c.in_err-slots.ensures.1 (ap Some (sym c.in_err-slots.ensures.0)))

pub returns : goal.returns
returns c = answers_element c.args.bytes.now c.in_ok-slots.slots c.in_ok-slots.ensures c.args.token.0 c.used_at.result c.used_at.ensures

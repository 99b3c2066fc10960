use Rattle.std.proofs.Common.{◌+◌, ◌<◌, None, is_some, length, get_or, sym, ap, ◌∙◌, arith}
use Rattle.std.proofs.lemmas.List.Sums.{count_by_more_yes, count_by_more_no}
use Rattle.element_arrays.proofs.UsedLemmas.{is_used_slot}
use Rattle.element_arrays.proofs.look_ups.used_up_to.Goals.{then-is_some, else-is_some}
use Rattle.element_arrays.proofs.look_ups.used_up_to.Goals as goal

pub loop-i-preserved : goal.loop-i-preserved
loop-i-preserved c =
    let slots = c.args.slots.now.slots.slots in
    let i = c.loop-i.i in
    let within : i < length slots = omega (arith, c.requires) in
    let used = is_used_slot c.element.result (get_or slots i None) c.is_some.result c.is_some.ensures c.element.ensures in
    elim c.if-is_some.branch [
      | then-is_some w ↦ (
        w.n-is ∙ ap (λ n. n + 1) c.loop-i.invariant.0 ∙ sym (count_by_more_yes is_some slots i None within (used ∙ w.if-is_some.true)),
        omega arith,
      )
      | else-is_some w ↦ (
        w.n-is ∙ c.loop-i.invariant.0 ∙ sym (count_by_more_no is_some slots i None within (used ∙ w.if-is_some.false)),
        omega arith,
      )
    ]

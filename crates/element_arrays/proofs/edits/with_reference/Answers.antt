use Rattle.std.proofs.Common.{◌≡◌, ℕ, ◌+◌, ◌++◌, [], false, ◌==◌, None, refl, sym, ap, ◌∙◌, arith, ne_eqb, append-nil}
use Rattle.geos_model.specs.Refusal.{first_refusal}
use Rattle.geos_model.specs.ElementArray.{Slots, greatest_count}
use Rattle.geos_model.specs.ElementEdits.{with_element}
use Rattle.geos_model.specs.ArrayEdits.{is_missized}
use Rattle.geos_model.specs.declared.fault.Fault.TheVariants.{NoElement}
use Rattle.element_arrays.specs.Slotted.{slotted_bytes}
use Rattle.element_arrays.specs.Used.{used_element}
use Rattle.element_arrays.specs.Referencing.{element_with_reference, element_reference_conditions}
use Rattle.geos_model.proofs.UsedElements.{bounded, own_size, count_at-is, bytes_at-is}
use Rattle.element_arrays.proofs.UsedLemmas.{whole_element}
use Rattle.element_arrays.proofs.SlottedLemmas.{slots_handed_on, carried_own}
use Rattle.element_arrays.proofs.edits.with_reference.Goals as goal

pub returns-in_err-used : goal.returns-in_err-used
returns-in_err-used c =
    carried_own c.from_residual.result _ (element_reference_conditions c.args.slots.now.slots c.args.token.0) _ NoElement c.in_err-used.field-0.0 c.from_residual.ensures.1 c.in_err-used.ensures.0 refl (rw c.in_err-used.ensures.1 refl)

pub overflow_add-used : goal.overflow_add-used
overflow_add-used c =
    let most = bounded c.args.slots.now.slots c.args.slots.now.sound c.args.token.0 (used_element c.in_ok-used.used) c.in_ok-used.ensures in
    omega (arith, most)

pub with_element-requires-clause-bounded : goal.with_element-requires-clause-bounded
with_element-requires-clause-bounded c =
    let most = bounded c.args.slots.now.slots c.args.slots.now.sound c.args.token.0 (used_element c.in_ok-used.used) c.in_ok-used.ensures in
    omega (arith, most, c.if-used-eq-GREATEST_COUNT.false)

pub with_element-requires-clause-sized : goal.with_element-requires-clause-sized
with_element-requires-clause-sized c =
    let s = c.args.slots.now.slots in
    let e = used_element c.in_ok-used.used in
    ap (is_missized s.size) (append-nil e.bytes) ∙ own_size s c.args.slots.now.sound c.args.token.0 e c.in_ok-used.ensures

pub returns : goal.returns
returns c =
    let all = c.args.slots.now in
    let s : Slots = all.slots in
    let t : ℕ = c.args.token.0 in
    let e = used_element c.in_ok-used.used in
    let at = c.in_ok-used.ensures in
    let few : (e.count == greatest_count) ≡ false = ne_eqb e.count greatest_count c.if-used-eq-GREATEST_COUNT.false in
    let accepted : first_refusal (element_reference_conditions s t) ≡ None = rw (at, few) refl in
    let same : with_element s t (e.count + 1) (e.bytes ++ []) ≡ element_with_reference s t = whole_element s t (e.count + 1) _ e.bytes _ (ap (λ (n : ℕ). n + 1) (sym (count_at-is s t e at))) (sym (bytes_at-is s t e at)) in
    slots_handed_on (element_reference_conditions s t) all (with_element s t (e.count + 1) (e.bytes ++ [])) (slotted_bytes all.more all.slots) (slotted_bytes all.more (element_with_reference s t))
    accepted refl (ap (λ (x : Slots). slotted_bytes all.more x) same) t c.with_element.result c.with_element.ensures

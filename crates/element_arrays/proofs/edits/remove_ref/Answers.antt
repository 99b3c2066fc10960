use Rattle.std.proofs.Common.{ℕ, refl, ap, ◌∙◌, arith, append-nil}
use Rattle.geos_model.specs.ArrayEdits.{is_missized}
use Rattle.geos_model.specs.ElementArray.{Slots}
use Rattle.geos_model.specs.ElementEdits.{unreferenced, on_token}
use Rattle.geos_model.specs.declared.fault.Fault.TheVariants.{NotArray, NoElement}
use Rattle.element_arrays.specs.Used.{used_element}
use Rattle.element_arrays.proofs.UsedLemmas.{last_reference, other_reference, edit_handed_on}
use Rattle.geos_model.proofs.UsedElements.{counted, bounded, own_size}
use Rattle.element_arrays.proofs.SlottedLemmas.{carried_own}
use Rattle.element_arrays.proofs.edits.remove_ref.Goals as goal

pub returns-in_err-slots : goal.returns-in_err-slots
returns-in_err-slots c =
    carried_own c.from_residual.result _ (on_token c.args.bytes.now c.args.token.0) _ NotArray c.in_err-slots.field-0.0 c.from_residual.ensures.1 c.in_err-slots.ensures.0 refl (rw c.in_err-slots.ensures.1 refl)

pub returns-in_err-used : goal.returns-in_err-used
returns-in_err-used c =
    carried_own c.from_residual-in_err-used.result _ (on_token c.args.bytes.now c.args.token.0) _ NoElement c.in_err-used.field-0.0 c.from_residual-in_err-used.ensures.1 c.in_err-used.ensures.0 refl (rw (c.in_ok-slots.ensures.0, c.in_err-used.ensures.1) refl)

pub returns-then-used-eq1 : goal.returns-then-used-eq1
returns-then-used-eq1 c =
    let t : ℕ = c.args.token.0 in
    let s = c.in_ok-slots.slots in
    let read = c.in_ok-slots.ensures in
    let at = c.in_ok-used.ensures in
    edit_handed_on c.args.bytes.now s read (λ (x : Slots). unreferenced x t) _ (last_reference s.slots t (used_element c.in_ok-used.used) at c.if-used-eq1.true) (on_token c.args.bytes.now t)
    (rw (read.0, at) refl) c.args.token.0 c.without_element.result c.without_element.ensures

pub overflow_sub-used : goal.overflow_sub-used
overflow_sub-used c =
    counted c.in_ok-slots.slots.slots c.in_ok-slots.slots.sound c.args.token.0 (used_element c.in_ok-used.used) c.in_ok-used.ensures

pub with_element-requires-clause-counted : goal.with_element-requires-clause-counted
with_element-requires-clause-counted c =
    let least = counted c.in_ok-slots.slots.slots c.in_ok-slots.slots.sound c.args.token.0 (used_element c.in_ok-used.used) c.in_ok-used.ensures in
    omega (arith, least, c.if-used-eq1.false)

pub with_element-requires-clause-bounded : goal.with_element-requires-clause-bounded
with_element-requires-clause-bounded c =
    let most = bounded c.in_ok-slots.slots.slots c.in_ok-slots.slots.sound c.args.token.0 (used_element c.in_ok-used.used) c.in_ok-used.ensures in
    omega (arith, most)

pub with_element-requires-clause-sized : goal.with_element-requires-clause-sized
with_element-requires-clause-sized c =
    let s = c.in_ok-slots.slots.slots in
    let e = used_element c.in_ok-used.used in
    ap (is_missized s.size) (append-nil e.bytes) ∙ own_size s c.in_ok-slots.slots.sound c.args.token.0 e c.in_ok-used.ensures

pub returns-else-used-eq1 : goal.returns-else-used-eq1
returns-else-used-eq1 c =
    let t : ℕ = c.args.token.0 in
    let s = c.in_ok-slots.slots in
    let read = c.in_ok-slots.ensures in
    let e = used_element c.in_ok-used.used in
    let at = c.in_ok-used.ensures in
    let least = counted s.slots s.sound t e at in
    edit_handed_on c.args.bytes.now s read (λ (x : Slots). unreferenced x t) _ (other_reference s.slots t e at (omega (arith, least, c.if-used-eq1.false))) (on_token c.args.bytes.now t)
    (rw (read.0, at) refl) c.args.token.0 c.with_element.result c.with_element.ensures

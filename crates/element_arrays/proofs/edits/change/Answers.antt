use Rattle.std.proofs.Common.{ℕ, List, refl, sym, ap, ◌∙◌, append-nil}
use Rattle.geos_model.specs.ArrayEdits.{is_missized}
use Rattle.geos_model.specs.ElementArray.{Slots}
use Rattle.geos_model.specs.ElementEdits.{with_element, count_at, change_conditions}
use Rattle.geos_model.specs.declared.fault.Fault.TheVariants.{NotArray, NoElement, Range}
use Rattle.element_arrays.specs.Used.{used_element}
use Rattle.element_arrays.proofs.UsedLemmas.{whole_element, edit_handed_on}
use Rattle.geos_model.proofs.UsedElements.{counted, bounded, count_at-is}
use Rattle.element_arrays.proofs.SlottedLemmas.{refuses_own, carried_own}
use Rattle.element_arrays.proofs.edits.change.Goals as goal

pub returns-in_err-slots : goal.returns-in_err-slots
returns-in_err-slots c =
    carried_own c.from_residual.result _ (change_conditions c.args.bytes.now c.args.token.0 c.args.element.now) _ NotArray c.in_err-slots.field-0.0 c.from_residual.ensures.1 c.in_err-slots.ensures.0 refl (rw c.in_err-slots.ensures.1 refl)

pub returns-in_err-used : goal.returns-in_err-used
returns-in_err-used c =
    carried_own c.from_residual-in_err-used.result _ (change_conditions c.args.bytes.now c.args.token.0 c.args.element.now) _ NoElement c.in_err-used.field-0.0 c.from_residual-in_err-used.ensures.1 c.in_err-used.ensures.0 refl (rw (c.in_ok-slots.ensures.0, c.in_err-used.ensures.1) refl)

pub returns-then-is_missized : goal.returns-then-is_missized
returns-then-is_missized c =
    let missized = ap (λ (n : ℕ). is_missized n c.args.element.now) (sym c.element_size.ensures) ∙ sym c.is_missized.ensures ∙ c.if-is_missized.true in
    refuses_own (change_conditions c.args.bytes.now c.args.token.0 c.args.element.now) _ Range Range refl refl (rw (c.in_ok-slots.ensures.0, c.in_ok-used.ensures, missized) refl)

pub with_element-requires-clause-counted : goal.with_element-requires-clause-counted
with_element-requires-clause-counted c =
    counted c.in_ok-slots.slots.slots c.in_ok-slots.slots.sound c.args.token.0 (used_element c.in_ok-used.used) c.in_ok-used.ensures

pub with_element-requires-clause-bounded : goal.with_element-requires-clause-bounded
with_element-requires-clause-bounded c =
    bounded c.in_ok-slots.slots.slots c.in_ok-slots.slots.sound c.args.token.0 (used_element c.in_ok-used.used) c.in_ok-used.ensures

pub with_element-requires-clause-sized : goal.with_element-requires-clause-sized
with_element-requires-clause-sized c =
    ap (is_missized c.in_ok-slots.slots.slots.size) (append-nil c.args.element.now) ∙ ap (λ (n : ℕ). is_missized n c.args.element.now) (sym c.element_size.ensures) ∙ sym c.is_missized.ensures ∙ c.if-is_missized.false

pub returns : goal.returns
returns c =
    let element : List ℕ = c.args.element.now in
    let t : ℕ = c.args.token.0 in
    let s = c.in_ok-slots.slots in
    let read = c.in_ok-slots.ensures in
    let e = used_element c.in_ok-used.used in
    let at = c.in_ok-used.ensures in
    let fits = ap (λ (n : ℕ). is_missized n c.args.element.now) (sym c.element_size.ensures) ∙ sym c.is_missized.ensures ∙ c.if-is_missized.false in
    edit_handed_on c.args.bytes.now s read (λ (x : Slots). with_element x t (count_at x t) element) _ (whole_element s.slots t e.count _ element element (sym (count_at-is s.slots t e at)) refl) (change_conditions c.args.bytes.now t element)
    (rw (read.0, at, fits) refl) c.args.token.0 c.with_element.result c.with_element.ensures

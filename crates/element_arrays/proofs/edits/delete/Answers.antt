use Rattle.std.proofs.Common.{ℕ, refl}
use Rattle.geos_model.specs.ElementArray.{Slots}
use Rattle.geos_model.specs.ElementEdits.{without_element, on_token}
use Rattle.geos_model.specs.declared.fault.Fault.TheVariants.{NotArray, NoElement}
use Rattle.element_arrays.proofs.UsedLemmas.{edit_handed_on}
use Rattle.element_arrays.proofs.SlottedLemmas.{carried_own}
use Rattle.element_arrays.proofs.edits.delete.Goals as goal

pub returns-in_err-slots : goal.returns-in_err-slots
returns-in_err-slots c =
    carried_own c.from_residual.result _ (on_token c.args.bytes.now c.args.token.0) _ NotArray c.in_err-slots.field-0.0 c.from_residual.ensures.1 c.in_err-slots.ensures.0 refl (rw c.in_err-slots.ensures.1 refl)

pub returns-in_err-used_at : goal.returns-in_err-used_at
returns-in_err-used_at c =
    carried_own c.from_residual-in_err-used_at.result _ (on_token c.args.bytes.now c.args.token.0) _ NoElement c.in_err-used_at.field-0.0 c.from_residual-in_err-used_at.ensures.1 c.in_err-used_at.ensures.0 refl (rw (c.in_ok-slots.ensures.0, c.in_err-used_at.ensures.1) refl)

pub without_element-requires : goal.without_element-requires
without_element-requires c = rw c.in_ok-used_at.ensures refl

pub returns : goal.returns
returns c =
    let t : ℕ = c.args.token.0 in
    let read = c.in_ok-slots.ensures in
    edit_handed_on c.args.bytes.now c.in_ok-slots.slots read (λ (x : Slots). without_element x t) _ refl (on_token c.args.bytes.now t)
    (rw (read.0, c.in_ok-used_at.ensures) refl) c.args.token.0 c.without_element.result c.without_element.ensures

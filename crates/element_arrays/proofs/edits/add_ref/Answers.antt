use Rattle.std.proofs.Common.{ℕ, List, refl}
use Rattle.geos_model.specs.ElementArray.{Slots}
use Rattle.geos_model.specs.ElementEdits.{reference_added, add_reference_conditions}
use Rattle.geos_model.specs.declared.fault.Fault.TheVariants.{NotArray}
use Rattle.element_arrays.specs.Slotted.{slotted_bytes}
use Rattle.element_arrays.specs.Referencing.{element_with_reference, element_reference_conditions}
use Rattle.element_arrays.proofs.UsedLemmas.{edited_bytes}
use Rattle.element_arrays.proofs.SlottedLemmas.{handed_on, carried_own}
use Rattle.element_arrays.proofs.edits.add_ref.Goals as goal

pub returns-in_err-slots : goal.returns-in_err-slots
returns-in_err-slots c =
    carried_own c.from_residual.result _ (add_reference_conditions c.args.bytes.now c.args.token.0) _ NotArray c.in_err-slots.field-0.0 c.from_residual.ensures.1 c.in_err-slots.ensures.0 refl (rw c.in_err-slots.ensures.1 refl)

pub returns : goal.returns
returns c =
    let bytes : List ℕ = c.args.bytes.now in
    let t : ℕ = c.args.token.0 in
    let s = c.in_ok-slots.slots in
    let read = c.in_ok-slots.ensures in
    handed_on (add_reference_conditions bytes t) (element_reference_conditions s.slots t) bytes (reference_added bytes t) (slotted_bytes s.more s.slots) (slotted_bytes s.more (element_with_reference s.slots t))
    (rw read.0 refl) (edited_bytes bytes s read (λ (x : Slots). element_with_reference x t) _ refl) read.1 t c.with_reference.result c.with_reference.ensures

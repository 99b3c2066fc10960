-- The array that is read is that of the slots.
use Rattle.std.proofs.Common.{sym, ap, ◌∙◌}
use Rattle.geos_model.specs.Array.{array_bytes}
use Rattle.element_arrays.specs.Slotted.{slotted_array, slotted_bytes}
use Rattle.element_arrays.proofs.slot_view.SlotView.bytes.Goals as goal

pub returns : goal.returns
unfolding slotted_bytes
returns c = c.bytes.ensures ∙ ap array_bytes (sym c.self.invariant ∙ ap slotted_array c.self.view_is)

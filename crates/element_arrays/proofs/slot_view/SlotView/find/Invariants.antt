use Rattle.std.proofs.Common.{◌≡◌, ◌≤◌, ◌<◌, ◌-◌, ℕ, None, false, get_or, length}
use Rattle.element_arrays.specs.Tested.{has_bytes}
use Rattle.element_arrays.proofs.slot_view.SlotView.find.Given as goal

abbrev pub invariant-loop-i : goal.invariant-loop-i
invariant-loop-i l = (l.from ≤ length l.self.slots.slots) × ((k : ℕ) → k < l.from → has_bytes l.skip l.bytes (get_or l.self.slots.slots k None) ≡ false)

abbrev pub decreases-loop-i : goal.decreases-loop-i
decreases-loop-i l = length l.self.slots.slots - l.from

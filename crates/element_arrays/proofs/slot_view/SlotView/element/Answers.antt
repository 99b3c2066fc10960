-- Each element has its count's bytes.
use Rattle.std.proofs.Common.{◌≤◌, [], length, get_or, ap, arith}
use Rattle.geos_model.specs.Array.{Array}
use Rattle.element_arrays.proofs.TestedLemmas.{long_elements, slot_long}
use Rattle.element_arrays.proofs.slot_view.SlotView.element.Goals as goal

pub used_in-requires : goal.used_in-requires
used_in-requires c =
    let a : Array = c.self.inside.view.array in
    let long : 3 ≤ length (get_or a.elements c.from-i.result []) = slot_long _ _ (long_elements a (omega arith) c.self.inside.sound c.self.invariant c.from-i.result (omega arith)) in
    let same = ap length c.element.ensures in
    omega (arith, long, same)

-- Each element has its count's bytes.
use Rattle.std.proofs.Common.{◌≡◌, ◌≤◌, ◌∙◌, [], length, get_or, sym, ap, arith}
use Rattle.std.proofs.lemmas.List.{length-map}
use Rattle.geos_model.specs.Array.{Array}
use Rattle.geos_model.specs.ElementArray.{slot_read}
use Rattle.element_arrays.specs.Slotted.{Slotted}
use Rattle.element_arrays.proofs.TestedLemmas.{long_elements, slot_long}
use Rattle.element_arrays.proofs.slot_view.SlotView.slot.Goals as goal

pub returns-clause-long : goal.returns-clause-long
returns-clause-long c =
    let a : Array = c.self.inside.view.array in
    let few = c.self.inside.view.few in
    let many : length c.args.self.now.slots.slots ≡ length a.elements = ap (λ (s : Slotted). length s.slots.slots) (sym c.self.view_is) ∙ length-map a.elements slot_read in
    let within = c.requires in
    let long : 3 ≤ length (get_or a.elements c.args.token []) = slot_long _ _ (long_elements a few c.self.inside.sound c.self.invariant c.args.token (omega (arith, many, within))) in
    let same = ap length c.element.ensures in
    omega (arith, long, same)

-- Each element has its count's bytes.
use Rattle.std.proofs.Common.{◌≤◌, ◌<◌, ℕ, [], length, get_or, sym, subst, refl, arith, ◌∙◌}
use Rattle.std.proofs.lemmas.Bool.{eqb-false}
use Rattle.std.specs.Option.{MatchOption}
use Rattle.geos_model.specs.Array.{Array}
use Rattle.element_arrays.specs.Slotted.{Slotted}
use Rattle.element_arrays.specs.Tested.{NoneHas}
use Rattle.element_arrays.proofs.TestedLemmas.{candidates, long_elements, slot_long}
use Rattle.element_arrays.proofs.slot_view.SlotView.candidate.Goals as goal

pub returns-then-not-is_empty : goal.returns-then-not-is_empty
returns-then-not-is_empty c =
    let a : Array = c.self.inside.view.array in
    let few = c.self.inside.view.few in
    let long : (k : ℕ) → k < length a.elements → 3 ≤ length (get_or a.elements k []) = λ k low.
    slot_long _ _ (long_elements a few c.self.inside.sound c.self.invariant k low) in
    let none = eqb-false (length c.args.bytes.now) 0 (sym c.is_empty.ensures ∙ c.if-not-is_empty.true) in
    subst (λ (s : Slotted). MatchOption c.first_ending.result (NoneHas s.slots.slots c.args.from (length s.slots.slots) c.args.bytes.now)
    (λ i. (c.args.from ≤ i) × (i < length s.slots.slots) × NoneHas s.slots.slots c.args.from i c.args.bytes.now)) c.self.view_is
    (candidates a c.args.from _ c.args.bytes.now c.first_ending.result long (omega (arith, none)) refl c.first_ending.ensures)

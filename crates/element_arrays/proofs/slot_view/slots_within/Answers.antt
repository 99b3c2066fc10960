-- An array that passes the tests is one of the slots that are read of it.
use Rattle.std.proofs.Common.{◌≡◌, ℕ, ◌+◌, true, is_some, Some, length, drop, refl, sym, ◌∙◌, arith, length-drop}
use Rattle.std.proofs.lemmas.Bool.{and_parts}
use Rattle.std.specs.List.{list_all}
use Rattle.geos_model.specs.Array.{Array}
use Rattle.geos_model.specs.ElementArray.{slots_of, slots_read}
use Rattle.geos_model.proofs.ElementArrays.{slots_of-is}
use Rattle.element_arrays.specs.Tested.{are_slots_within, has_length}
use Rattle.element_arrays.proofs.TestedLemmas.{slots_read-is}
use Rattle.element_arrays.proofs.slot_view.slots_within.Goals as goal

module _ (extra least most : ℕ) (a : Array) (within : are_slots_within extra least most a ≡ true) where
  both : (is_some (slots_of extra a) ≡ true) × (list_all (has_length least most) (slots_read a).slots ≡ true)
  both = and_parts (is_some (slots_of extra a)) (list_all (has_length least most) (slots_read a).slots) within

  read : slots_of extra a ≡ Some (slots_read a)
  read = slots_read-is extra a both.0

pub invariant_of-result : goal.invariant_of-result
invariant_of-result c =
    let a : Array = c.args.view.array in
    let is = slots_of-is c.args.extra a (slots_read a) (read c.args.extra c.args.least c.args.most a (sym c.are_slots.ensures ∙ c.if-are_slots.true)) in
    (is.1, tt)

pub invariant_of-result-then-are_slots : goal.invariant_of-result-then-are_slots
invariant_of-result-then-are_slots c =
    let a : Array = c.args.view.array in
    (slots_of-is c.args.extra a (slots_read a) (read c.args.extra c.args.least c.args.most a (sym c.are_slots.ensures ∙ c.if-are_slots.true))).2

pub returns-then-are_slots : goal.returns-then-are_slots
returns-then-are_slots c =
    let a : Array = c.args.view.array in
    let enough = c.requires.enough in
    let within : are_slots_within c.args.extra c.args.least c.args.most a ≡ true = sym c.are_slots.ensures ∙ c.if-are_slots.true in
    let of = read c.args.extra c.args.least c.args.most a within in
    let is = slots_of-is c.args.extra a (slots_read a) of in
    let long : length a.extra ≡ c.args.extra = is.0 in
    let cut = length-drop 2 a.extra in
    let more : length (drop 2 a.extra) + 2 ≡ c.args.extra = omega (arith, cut, long, enough) in
    (of, is.2, more, (both c.args.extra c.args.least c.args.most a within).1)

pub returns-else-are_slots : goal.returns-else-are_slots
returns-else-are_slots c = (refl, sym c.are_slots.ensures ∙ c.if-are_slots.false)

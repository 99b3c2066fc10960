-- An array of slots is the one of those that are read of it.
use Rattle.std.proofs.Common.{◌≡◌, ◌+◌, length, drop, arith, length-drop}
use Rattle.geos_model.specs.Array.{Array}
use Rattle.geos_model.specs.ElementArray.{slots_read}
use Rattle.geos_model.proofs.ElementArrays.{slots_of-is}
use Rattle.element_arrays.proofs.TestedLemmas.{slots_read-is}
use Rattle.element_arrays.proofs.slot_view.known_slots.Goals as goal

pub invariant_of-result : goal.invariant_of-result
invariant_of-result c =
    let a : Array = c.args.view.array in
    let is = slots_of-is c.args.extra a (slots_read a) (slots_read-is c.args.extra a c.requires.known) in
    (is.1, tt)

pub invariant_of-result-2 : goal.invariant_of-result-2
invariant_of-result-2 c =
    let a : Array = c.args.view.array in
    (slots_of-is c.args.extra a (slots_read a) (slots_read-is c.args.extra a c.requires.known)).2

pub returns : goal.returns
returns c =
    let a : Array = c.args.view.array in
    let enough = c.requires.enough in
    let of = slots_read-is c.args.extra a c.requires.known in
    let is = slots_of-is c.args.extra a (slots_read a) of in
    let long : length a.extra ≡ c.args.extra = is.0 in
    let cut = length-drop 2 a.extra in
    let more : length (drop 2 a.extra) + 2 ≡ c.args.extra = omega (arith, cut, long, enough) in
    (of, is.2, more)

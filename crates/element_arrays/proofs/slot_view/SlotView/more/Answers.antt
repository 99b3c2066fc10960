-- The extra bytes begin with a word.
use Rattle.std.proofs.Common.{◌≤◌, length, drop, ap, arith}
use Rattle.geos_model.specs.Array.{Array}
use Rattle.geos_model.specs.ElementArray.{slots_read}
use Rattle.element_arrays.proofs.TestedLemmas.{extra_long}
use Rattle.element_arrays.proofs.slot_view.SlotView.more.Goals as goal

pub slice_bounds-result-count : goal.slice_bounds-result-count
slice_bounds-result-count c =
    let a : Array = c.self.inside.view.array in
    let long : 2 ≤ length a.extra = extra_long (drop 2 a.extra) (slots_read a) a c.self.invariant in
    let same = ap length c.extra.ensures in
    omega (arith, long, same)

pub slice_bounds-result-start : goal.slice_bounds-result-start
slice_bounds-result-start c = slice_bounds-result-count c

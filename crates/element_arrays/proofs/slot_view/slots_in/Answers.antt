-- No element is longer than the array.
use Rattle.std.proofs.Common.{length, ap}
use Rattle.std.proofs.lemmas.Result.{MatchResult-weaker}
use Rattle.geos_model.specs.Array.{Array}
use Rattle.element_arrays.proofs.TestedLemmas.{none_within}
use Rattle.element_arrays.proofs.slot_view.slots_in.Goals as goal

pub returns : goal.returns
returns c =
    let a : Array = c.args.view.array in
    let is = ap length c.bytes-most.ensures in
    MatchResult-weaker c.slots_within.result c.slots_within.ensures
    (λ s h. (h.0, h.1, h.2))
    (λ fault h. (h.0, none_within c.args.extra _ a is h.1))

use Rattle.std.proofs.Common.{◌≡◌, drop}
use Rattle.geos_model.specs.ElementArray.{all_distinct}
use Rattle.large_arrays.specs.Spots.{link_handles}
use Rattle.large_arrays.proofs.distinct.are_few_distinct.Given as goal

-- those that are left decide
abbrev pub invariant-loop-i : goal.invariant-loop-i
invariant-loop-i l = all_distinct (link_handles l.links) ≡ all_distinct (drop l.i (link_handles l.links))

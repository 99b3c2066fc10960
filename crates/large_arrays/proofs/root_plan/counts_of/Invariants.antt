use Rattle.std.proofs.Common.{◌≡◌, length, map, take}
use Rattle.large_arrays.proofs.root_plan.counts_of.Given as goal

abbrev pub invariant-loop-k : goal.invariant-loop-k
invariant-loop-k l = l.counts.items ≡ map length (take l.k l.pieces.pieces)

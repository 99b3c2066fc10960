use Rattle.std.proofs.Common.{arith}
use Rattle.large_arrays.proofs.PlannedRoots.{piece-word}
use Rattle.large_arrays.proofs.root_plan.counts_of.Goals as goal

pub overflow_cast-count : goal.overflow_cast-count
overflow_cast-count c =
    let few = piece-word c.get.result.now c.count.ensures.holds in
    let value = c.count.ensures.value in
    omega arith

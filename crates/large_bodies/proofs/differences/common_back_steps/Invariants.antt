use Rattle.std.proofs.Common.{◌*◌}
use Rattle.large_bodies.specs.Differences.{IsCommonBack}
use Rattle.large_bodies.proofs.differences.common_back_steps.Given as goal

abbrev pub invariant-loop-k : goal.invariant-loop-k
invariant-loop-k l = IsCommonBack l.old l.new (l.k * 64)

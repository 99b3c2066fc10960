use Rattle.std.proofs.Common.{◌*◌}
use Rattle.large_bodies.specs.Differences.{IsCommonFront}
use Rattle.large_bodies.proofs.differences.common_front_steps.Given as goal

abbrev pub invariant-loop-k : goal.invariant-loop-k
invariant-loop-k l = IsCommonFront l.old l.new (l.k * 64)

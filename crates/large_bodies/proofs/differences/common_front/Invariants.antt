use Rattle.std.proofs.Common.{◌-◌}
use Rattle.large_bodies.specs.Differences.{IsCommonFront}
use Rattle.large_bodies.proofs.differences.common_front.Given as goal

abbrev pub invariant-loop-n : goal.invariant-loop-n
invariant-loop-n l = IsCommonFront l.old l.new l.n

abbrev pub decreases-loop-n : goal.decreases-loop-n
decreases-loop-n l = l.most - l.n

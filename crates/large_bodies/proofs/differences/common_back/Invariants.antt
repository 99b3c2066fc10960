use Rattle.std.proofs.Common.{◌-◌}
use Rattle.large_bodies.specs.Differences.{IsCommonBack}
use Rattle.large_bodies.proofs.differences.common_back.Given as goal

abbrev pub invariant-loop-n : goal.invariant-loop-n
invariant-loop-n l = IsCommonBack l.old l.new l.n

abbrev pub decreases-loop-n : goal.decreases-loop-n
decreases-loop-n l = l.most - l.n

use Rattle.std.proofs.Common.{arith}
use Rattle.large_arrays.proofs.SpotRuns.{run-is}
use Rattle.large_arrays.proofs.RunReads.{bodies-many}
use Rattle.large_arrays.proofs.middle.test_between.Goals as goal

pub overflow_sub-n-end : goal.overflow_sub-n-end
overflow_sub-n-end c = let all = bodies-many c.args.spot.now (run-is c.args.spot.now c.requires.run) c.args.bodies.now c.requires.many in omega arith

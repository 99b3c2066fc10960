use Rattle.std.proofs.Common.{arith}
use Rattle.large_arrays.proofs.runs.run_spot.Goals as goal

pub overflow_add-i : goal.overflow_add-i
overflow_add-i c = let there = c.requires.there in let few = c.requires.few in omega (arith, there, few)

pub overflow_add-last : goal.overflow_add-last
overflow_add-last c = let few = c.end_place-last.ensures.few in omega (arith, few)

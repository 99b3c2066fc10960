use Rattle.large_bodies.specs.Patches.{IsShiftedFront}
use Rattle.large_bodies.proofs.patches.shifted_front.Given as goal

abbrev pub invariant-loop-k : goal.invariant-loop-k
invariant-loop-k l = IsShiftedFront l.old l.new l.by l.k

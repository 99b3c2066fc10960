use Rattle.large_bodies.specs.Patches.{IsShiftedBack}
use Rattle.large_bodies.proofs.patches.shifted_back.Given as goal

abbrev pub invariant-loop-k : goal.invariant-loop-k
invariant-loop-k l = IsShiftedBack l.old l.new l.by l.k

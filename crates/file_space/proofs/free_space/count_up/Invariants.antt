use Rattle.file_space.specs.Space.{AreCountsRaised}
use Rattle.file_space.proofs.free_space.count_up.Given as goal

abbrev pub invariant-loop-page : goal.invariant-loop-page
invariant-loop-page l = AreCountsRaised l.start l.page l.initial.counts l.counts

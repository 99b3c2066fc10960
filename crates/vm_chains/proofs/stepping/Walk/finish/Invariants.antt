use Rattle.vm_chains.proofs.StepLemmas.{GoesAlong}
use Rattle.vm_chains.proofs.stepping.Walk.finish.Given as goal

-- some steps were taken, and fewer blocks may still be met
abbrev pub invariant-loop-self : goal.invariant-loop-self
invariant-loop-self g l = GoesAlong g.S.Store.facts l.fn.blocks l.blocks l.fn.self l.self

abbrev pub decreases-loop-self : goal.decreases-loop-self
decreases-loop-self g l = l.self.left

use Rattle.large_arrays.proofs.OverwritingSteps.{AreOverwritten}
use Rattle.large_arrays.proofs.overwriting.plan_branches.Given as goal

-- those so far are written over
abbrev pub invariant-loop-link : goal.invariant-loop-link
invariant-loop-link g l = AreOverwritten g.S.Store.facts l.fn.blocks l.blocks l.links l.start l.new l.link-index l.from l.left l.changes.items

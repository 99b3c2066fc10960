use Rattle.vm_blocks.proofs.BringingIn.{BringsIn}
use Rattle.vm_blocks.proofs.bringing_in.bring_in_all.Given as goal

abbrev pub invariant-loop-rest : goal.invariant-loop-rest
invariant-loop-rest g l = BringsIn g.S.Store.facts l.direction l.changes l.rest l.fn.blocks l.blocks

-- proposed from the loop's first test
abbrev pub decreases-loop-rest : goal.decreases-loop-rest
decreases-loop-rest g l = l.rest

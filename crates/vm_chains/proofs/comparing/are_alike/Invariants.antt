use Rattle.std.proofs.Common.{ℕ}
use Rattle.vm_blocks.specs.Keeping.{KeepsBlocks, IsHonest}
use Rattle.vm_chains.specs.Comparing.{AreInStep}
use Rattle.vm_chains.proofs.comparing.are_alike.Given as goal

-- all that was compared is alike
abbrev pub invariant-loop-other : goal.invariant-loop-other
invariant-loop-other g l = record {
  in_step : (f s : ℕ) → IsHonest g.S.Store.facts l.fn.blocks.disk.store → AreInStep l.fn.blocks.document f s l.fn.first l.fn.second → AreInStep l.blocks.document f s l.first l.second;
  keeps : KeepsBlocks g.S.Store.facts l.fn.blocks l.blocks;
}

abbrev pub decreases-loop-other : goal.decreases-loop-other
decreases-loop-other g l = l.first.left

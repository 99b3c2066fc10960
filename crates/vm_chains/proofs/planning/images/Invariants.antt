use Rattle.std.proofs.Common.{◌≡◌}
use Rattle.geos_model.specs.Chain.{chain_blocks_of}
use Rattle.geos_model.specs.Document.{handles_of}
use Rattle.vm_blocks.specs.Keeping.{IsHonest}
use Rattle.document_file.specs.Members.{imaged_blocks}
use Rattle.vm_chains.proofs.StepLemmas.{GoesAlong}
use Rattle.vm_chains.proofs.planning.images.Given as goal

-- the plan has the blocks that were met
abbrev pub invariant-loop-plan : goal.invariant-loop-plan
invariant-loop-plan g l = record {
  goes : GoesAlong g.S.Store.facts l.fn.blocks l.blocks l.initial.walk l.walk;
  handles : handles_of (imaged_blocks l.plan.items) ≡ l.walk.met;
  plan : IsHonest g.S.Store.facts l.fn.blocks.disk.store → imaged_blocks l.plan.items ≡ chain_blocks_of l.fn.blocks.document l.walk.met;
}

abbrev pub decreases-loop-plan : goal.decreases-loop-plan
decreases-loop-plan g l = l.walk.left

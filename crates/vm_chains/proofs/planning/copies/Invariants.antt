use Rattle.std.proofs.Common.{◌≡◌, ◌++◌, ℕ, length, drop, take}
use Rattle.std.specs.List.{zip}
use Rattle.geos_model.specs.Chain.{name_of}
use Rattle.vm_chains.specs.Naming.{name_in}
use Rattle.geos_model.specs.Document.{handles_of}
use Rattle.vm_blocks.specs.Keeping.{KeepsBlocks, IsHonest}
use Rattle.document_file.specs.Members.{imaged_blocks}
use Rattle.vm_chains.specs.Numbers.{numbers}
use Rattle.vm_chains.proofs.CopyLemmas.{copies_from}
use Rattle.vm_chains.proofs.planning.copies.Given as goal

-- the plan has the blocks before this one
abbrev pub invariant-loop-i : goal.invariant-loop-i
invariant-loop-i g l = record {
  plan : IsHonest g.S.Store.facts l.fn.blocks.disk.store → imaged_blocks l.plan.items ++ copies_from l.fn.blocks.document l.handles l.new (drop l.i l.handles) (drop l.i l.new) ≡ copies_from l.fn.blocks.document l.handles l.new l.handles l.new;
  handles : handles_of (imaged_blocks l.plan.items) ≡ numbers (take l.i l.new);
  named : (h : ℕ) → name_in l.names h ≡ name_of (zip (numbers l.handles) (numbers l.new)) h;
  many : length l.plan.items ≡ l.i;
  keeps : KeepsBlocks g.S.Store.facts l.fn.blocks l.blocks;
}

use Rattle.std.proofs.Common.{length}
use Rattle.vm_blocks.specs.Changes.{directed_all}
use Rattle.vm_blocks.specs.InMemory.{StaysInMemory}
use Rattle.vm_blocks.specs.Keeping.{KeepsBlocks}
use Rattle.vm_blocks.specs.Preparing.{AreInMemory}
use Rattle.vm_blocks.proofs.ChangingAll.{left}
use Rattle.vm_blocks.proofs.in_memory.load_all.Given as goal

abbrev pub invariant-loop-change : goal.invariant-loop-change
invariant-loop-change g l = record {
  keeps : KeepsBlocks g.S.Store.facts l.fn.blocks l.blocks;
  sure : AreInMemory (directed_all l.direction l.changes) l.fn.blocks → StaysInMemory l.fn.blocks l.blocks × AreInMemory (left l.direction l.changes (length l.yielded)) l.fn.blocks;
}

use Rattle.std.proofs.Common.{◌≡◌, length}
use Rattle.geos_model.specs.Document.{without_blocks}
use Rattle.vm_blocks.specs.State.{KeepsLocks}
use Rattle.vm_blocks.specs.Changes.{directed_all}
use Rattle.vm_blocks.specs.InMemory.{CanTakeOut, all_outgoing}
use Rattle.vm_blocks.proofs.ChangingAll.{left}
use Rattle.vm_blocks.proofs.in_memory.take_out_all.Given as goal

abbrev pub invariant-loop-change : goal.invariant-loop-change
invariant-loop-change g l = record {
  leave : CanTakeOut (left l.direction l.changes (length l.yielded)) l.blocks.document;
  document : without_blocks l.blocks.document (all_outgoing (left l.direction l.changes (length l.yielded))) ≡ without_blocks l.fn.blocks.document (all_outgoing (directed_all l.direction l.changes));
  disk : l.blocks.disk ≡ l.fn.blocks.disk;
  frames : l.blocks.frames ≡ l.fn.blocks.frames;
  locks : KeepsLocks l.fn.blocks.resident l.blocks.resident;
}

use Rattle.std.proofs.Common.{◌≡◌, drop}
use Rattle.vm_blocks.specs.State.{KeepsLocks}
use Rattle.vm_blocks.specs.Incoming.{CanGoAgain, without_again}
use Rattle.vm_blocks.proofs.bringing_in.take_out_again.Given as goal

abbrev pub invariant-loop-change : goal.invariant-loop-change
invariant-loop-change g l = record {
  leave : CanGoAgain l.direction (drop l.change-index l.changes) l.blocks.document;
  document : without_again l.direction (drop l.change-index l.changes) l.blocks.document ≡ without_again l.direction l.changes l.fn.blocks.document;
  disk : l.blocks.disk ≡ l.fn.blocks.disk;
  frames : l.blocks.frames ≡ l.fn.blocks.frames;
  locks : KeepsLocks l.fn.blocks.resident l.blocks.resident;
}

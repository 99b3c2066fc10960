use Rattle.std.proofs.Common.{◌≡◌, drop}
use Rattle.vm_blocks.specs.InMemory.{CanTakeBack, all_taken_back}
use Rattle.vm_blocks.proofs.in_memory.take_back.Given as goal

abbrev pub invariant-loop-change : goal.invariant-loop-change
invariant-loop-change g l = record {
  can : CanTakeBack l.direction (drop l.change-index l.changes) l.blocks;
  back : all_taken_back l.direction (drop l.change-index l.changes) l.blocks ≡ all_taken_back l.direction l.changes l.fn.blocks;
}

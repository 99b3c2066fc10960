use Rattle.std.proofs.Common.{length}
use Rattle.vm_blocks.specs.Changes.{directed_all}
use Rattle.vm_blocks.proofs.ChangingAll.{Carries, left}
use Rattle.vm_blocks.proofs.file_blocks.FileBlocks.turn_all.Given as goal

abbrev pub invariant-loop-change : goal.invariant-loop-change
invariant-loop-change g l = Carries g.S.Store.facts (directed_all l.direction l.changes) (left l.direction l.changes (length l.yielded)) l.fn.self l.self

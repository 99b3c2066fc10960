use Rattle.std.proofs.Common.{◌-◌, List}
use Rattle.lmem_heap.specs.Pieces.{Piece}
use Rattle.lmem_heap.specs.Edits.{IsRunPacked, IsReadyToPack}
use Rattle.lmem_heap.proofs.compaction.packing.thread_run.Given as goal

abbrev pub invariant-loop-p : goal.invariant-loop-p
invariant-loop-p l = (cs : List Piece) → IsReadyToPack l.fn.region l.fn.start l.fn.target cs → IsRunPacked l.fn.region l.region l.fn.start l.fn.target cs l.p

abbrev pub decreases-loop-p : goal.decreases-loop-p
decreases-loop-p l = 65520 - l.p

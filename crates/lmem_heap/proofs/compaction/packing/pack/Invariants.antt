use Rattle.std.proofs.Common.{◌-◌, List}
use Rattle.lmem_heap.specs.Pieces.{Piece}
use Rattle.lmem_heap.specs.Edits.{IsReadyToPack}
use Rattle.lmem_heap.proofs.PackingLemmas.{IsWalked}
use Rattle.lmem_heap.proofs.compaction.packing.pack.Given as goal

abbrev pub invariant-loop-p : goal.invariant-loop-p
invariant-loop-p l = (cs : List Piece) → IsReadyToPack l.fn.region l.fn.low l.fn.target cs → IsWalked l.fn.region l.region l.fn.low l.fn.target cs l.p l.q

abbrev pub decreases-loop-p : goal.decreases-loop-p
decreases-loop-p l = 65520 - l.p

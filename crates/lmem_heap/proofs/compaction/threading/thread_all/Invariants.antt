use Rattle.std.proofs.Common.{List}
use Rattle.lmem_heap.specs.Pieces.{Piece}
use Rattle.lmem_heap.specs.Tiled.{IsTiled}
use Rattle.lmem_heap.proofs.ThreadingLemmas.{IsThreading}
use Rattle.lmem_heap.proofs.compaction.threading.thread_all.Given as goal

abbrev pub invariant-loop-i : goal.invariant-loop-i
invariant-loop-i l = (cs : List Piece) → IsTiled l.fn.region l.fn.t l.fn.low cs → IsThreading l.fn.region l.region l.fn.t l.fn.low cs l.i

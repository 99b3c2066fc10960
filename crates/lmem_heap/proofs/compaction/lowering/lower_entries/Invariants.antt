use Rattle.lmem_heap.proofs.EditLemmas.{AreLowering}
use Rattle.lmem_heap.proofs.compaction.lowering.lower_entries.Given as goal

abbrev pub invariant-loop-i : goal.invariant-loop-i
invariant-loop-i l = AreLowering l.fn.region l.region l.fn.t l.fn.m l.fn.by l.i

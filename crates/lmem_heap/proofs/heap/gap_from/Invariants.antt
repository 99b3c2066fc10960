use Rattle.std.proofs.Common.{◌≡◌, ◌+◌, drop}
use Rattle.geos_model.proofs.Table.{first_gap}
use Rattle.lmem_heap.proofs.heap.gap_from.Given as goal

abbrev pub invariant-loop-i : goal.invariant-loop-i
invariant-loop-i l = l.start + first_gap (drop l.start l.table.chunks) ≡ l.i + first_gap (drop l.i l.table.chunks)

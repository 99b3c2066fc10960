use Rattle.std.proofs.Common.{◌≡◌, ◌++◌, take, flat_map}
use Rattle.geos_model.proofs.HeapTables.{slot_bytes}
use Rattle.lmem_heap.proofs.image.push_chunks.Given as goal

abbrev pub invariant-loop-i : goal.invariant-loop-i
invariant-loop-i l = l.image.items ≡ l.fn.image.items ++ flat_map slot_bytes (take l.i l.table.chunks)

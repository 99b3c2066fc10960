use Rattle.std.proofs.Common.{◌≡◌, map, take}
use Rattle.geos_model.proofs.Table.{table_entries}
use Rattle.lmem_heap.proofs.heap.Heap.handles.Given as goal

abbrev pub invariant-loop-i : goal.invariant-loop-i
invariant-loop-i l = map (λ h. h.0) l.handles.items ≡ map (λ e. e.0) (table_entries 2 16 (take l.i l.self-inside.table.chunks))

use Rattle.std.proofs.Common.{◌≡◌, ◌++◌, flat_map}
use Rattle.std.specs.List.{range_with_len}
use Rattle.std.specs.FinMap.{get}
use Rattle.geos_model.specs.Heap.{handle_of}
use Rattle.document_dump.specs.Lines.{text}
use Rattle.document_dump.specs.Changes.{chunk_name, entry_edits}
use Rattle.document_dump.proofs.bodies.push_entries.Given as goal

abbrev pub invariant-loop-i : goal.invariant-loop-i
invariant-loop-i l = l.out.items ≡ l.fn.out.items ++ text (flat_map (λ i. entry_edits l.pass l.block (chunk_name (handle_of i)) (get l.heap.chunks (handle_of i))) (range_with_len 0 l.i))

use Rattle.std.proofs.Common.{◌≡◌, ◌++◌, flat_map}
use Rattle.std.specs.List.{range_with_len}
use Rattle.document_dump.specs.Lines.{line, text}
use Rattle.document_dump.specs.Rows.{row_created, slot_made}
use Rattle.document_dump.proofs.rows.push_row.Given as goal

abbrev pub invariant-loop-t : goal.invariant-loop-t
invariant-loop-t l = l.out.items ≡ (l.fn.out.items ++ line (row_created l.block l.row l.slots.slots)) ++ text (flat_map (slot_made l.block l.chunk l.row l.view.array l.slots.slots) (range_with_len 0 l.t))

use Rattle.std.proofs.Common.{◌≡◌, ◌++◌, flat_map}
use Rattle.std.specs.List.{range_with_len}
use Rattle.document_dump.specs.Lines.{text}
use Rattle.document_dump.specs.Changes.{piece_written}
use Rattle.document_dump.proofs.bodies.push_pieces.Given as goal

abbrev pub invariant-loop-k : goal.invariant-loop-k
invariant-loop-k l = l.out.items ≡ l.fn.out.items ++ text (flat_map (piece_written l.target l.bytes) (range_with_len 0 l.k))

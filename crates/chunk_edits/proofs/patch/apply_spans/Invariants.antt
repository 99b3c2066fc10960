use Rattle.std.proofs.Common.{◌≡◌, length, drop}
use Rattle.std.specs.FinMap.{insert}
use Rattle.geos_model.specs.Heap.{chunk_bytes}
use Rattle.chunk_edits.specs.Patching.{directed_pieces}
use Rattle.chunk_edits.specs.Spans.{pieces_of, total_own}
use Rattle.chunk_edits.proofs.CarryingLemmas.{IsUnderWay}
use Rattle.chunk_edits.proofs.patch.apply_spans.Given as goal

abbrev pub invariant-loop-span : goal.invariant-loop-span
invariant-loop-span l = record {
  chunks : l.heap.chunks ≡ insert l.fn.heap.chunks l.h.0 (chunk_bytes l.heap.chunks l.h.0);
  whole : total_own (drop l.span-index l.spans) ≡ length l.row;
  way : IsUnderWay (directed_pieces l.fn.direction (pieces_of l.spans l.content)) (directed_pieces l.fn.direction (pieces_of (drop l.span-index l.spans) l.row)) (chunk_bytes l.fn.heap.chunks l.h.0) (chunk_bytes l.heap.chunks l.h.0) l.at;
}

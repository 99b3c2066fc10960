use Rattle.std.proofs.Common.{◌≡◌, length, drop}
use Rattle.chunk_edits.specs.Patching.{directed_pieces}
use Rattle.chunk_edits.specs.Spans.{pieces_of, total_own}
use Rattle.chunk_edits.proofs.CarryingLemmas.{IsUnderWay}
use Rattle.chunk_edits.proofs.patch.apply_raw_spans.Given as goal

abbrev pub invariant-loop-span : goal.invariant-loop-span
invariant-loop-span l = record {
  whole : total_own (drop l.span-index l.spans) ≡ length l.row;
  way : IsUnderWay (directed_pieces l.fn.direction (pieces_of l.spans l.content)) (directed_pieces l.fn.direction (pieces_of (drop l.span-index l.spans) l.row)) l.fn.body l.body l.at;
}

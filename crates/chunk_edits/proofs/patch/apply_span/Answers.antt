use Rattle.std.proofs.Common.{◌∙◌, ap, sym}
use Rattle.std.specs.FinMap.{insert}
use Rattle.geos_model.specs.Heap.{chunk_bytes}
use Rattle.chunk_edits.specs.Patching.{directed_piece, with_piece}
use Rattle.chunk_edits.specs.Spans.{piece_of}
use Rattle.chunk_edits.specs.declared.held.Span.{Span}
use Rattle.chunk_edits.proofs.CarryingLemmas.{insert_own, kept}
use Rattle.chunk_edits.proofs.patch.apply_span.Goals as goal

pub returns-in-Keep-clause-chunks : goal.returns-in-Keep-clause-chunks
returns-in-Keep-clause-chunks c =
    let m = c.args.heap.now.chunks in let h = c.args.h.0 in let bytes = chunk_bytes m h in
    insert_own m h c.requires.live
    ∙ ap (insert m h) (sym (ap (λ (s : Span). with_piece (directed_piece c.args.direction (piece_of s c.args.row.now)) c.args.at bytes) c.in-Keep.is
    ∙ kept c.args.direction c.in-Keep.n c.args.at bytes))

use Rattle.std.proofs.Common.{◌∙◌, ap, sym}
use Rattle.chunk_edits.specs.Patching.{directed_piece, with_piece}
use Rattle.chunk_edits.specs.Spans.{piece_of}
use Rattle.chunk_edits.specs.declared.held.Span.{Span}
use Rattle.chunk_edits.proofs.CarryingLemmas.{kept}
use Rattle.chunk_edits.proofs.patch.apply_raw_span.Goals as goal

pub returns-in-Keep-clause-bytes : goal.returns-in-Keep-clause-bytes
returns-in-Keep-clause-bytes c =
    let bytes = c.args.body.now in
    sym (ap (λ (s : Span). with_piece (directed_piece c.args.direction (piece_of s c.args.row.now)) c.args.at bytes) c.in-Keep.is
    ∙ kept c.args.direction c.in-Keep.n c.args.at bytes)

use Rattle.std.proofs.Common.{◌∙◌, ◌++◌, ◌∷◌, [], List, ap, ap₂}
use Rattle.chunk_edits.specs.Patching.{PatchPiece, Keep}
use Rattle.chunk_edits.specs.Spans.{pieces_of, row_in, spans_in}
use Rattle.chunk_edits.specs.declared.held.Span.TheVariants as spans
use Rattle.chunk_edits.proofs.SpanLemmas.{pieces_of-kept}
use Rattle.chunk_edits.proofs.patch.Patch.keep.Goals as goal

pub returns-clause-ok : goal.returns-clause-ok
returns-clause-ok c =
    let held = c.self.inside.held in
    ap₂ pieces_of c.in_ok-push.ensures.ok c.push.ensures.row
    ∙ (pieces_of-kept (spans_in held) (spans.Keep c.args.n) (row_in held) c.self.invariant.0
    ∙ ap (λ (ps : List PatchPiece). ps ++ Keep c.args.n ∷ []) c.self.view_is)

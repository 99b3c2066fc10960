use Rattle.std.proofs.Common.{◌∙◌, ◌++◌, ◌∷◌, [], ℕ, List, length, ap₂}
use Rattle.chunk_edits.specs.Patching.{PatchPiece}
use Rattle.chunk_edits.specs.Spans.{pieces_of, row_in, spans_in}
use Rattle.chunk_edits.specs.declared.held.Span.{Span}
use Rattle.chunk_edits.specs.declared.held.Span.TheVariants as spans
use Rattle.chunk_edits.proofs.SpanLemmas.{pieces_of-pushed, piece_of-put}
use Rattle.chunk_edits.proofs.patch.Patch.put.Goals as goal

pub returns-clause-ok : goal.returns-clause-ok
returns-clause-ok c =
    let old : List ℕ = c.args.old.now in let new : List ℕ = c.args.new.now in let held = c.self.inside.held in
    let span : Span = spans.Put (length old) (length new) in
    ap₂ pieces_of c.in_ok-put.ensures.ok.0 c.in_ok-put.ensures.ok.1
    ∙ (pieces_of-pushed (spans_in held) span (row_in held) (old ++ new) c.self.invariant.0
    ∙ ap₂ (λ (ps : List PatchPiece) (p : PatchPiece). ps ++ p ∷ []) c.self.view_is (piece_of-put old new))

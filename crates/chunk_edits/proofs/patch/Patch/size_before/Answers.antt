use Rattle.std.proofs.Common.{◌∙◌, ◌-◌, ◌^◌, ℕ, List, min, sym, ap}
use Rattle.chunk_edits.specs.Patching.{PatchPiece, total_taken, directed_pieces}
use Rattle.chunk_edits.specs.Spans.{row_in, spans_in}
use Rattle.chunk_edits.proofs.SpanLemmas.{pieces-extent}
use Rattle.chunk_edits.proofs.patch.Patch.size_before.Goals as goal

pub returns : goal.returns
returns c =
    let d = c.args.direction in let held = c.self.inside.held in
    c.size_before.ensures
    ∙ ap (λ (n : ℕ). min n (2 ^ 64 - 1)) (sym (pieces-extent d (spans_in held) (row_in held) c.self.invariant.0)
    ∙ ap (λ (ps : List PatchPiece). total_taken (directed_pieces d ps)) c.self.view_is)

use Rattle.std.proofs.Common.{◌∙◌, ◌-◌, ◌^◌, ℕ, min, sym, ap}
use Rattle.chunk_edits.specs.Patching.{peak}
use Rattle.chunk_edits.specs.Spans.{row_in, spans_in}
use Rattle.chunk_edits.proofs.SpanLemmas.{pieces-peak}
use Rattle.chunk_edits.proofs.patch.Patch.peak.Goals as goal

pub returns : goal.returns
returns c =
    let held = c.self.inside.held in
    c.peak.ensures
    ∙ ap (λ (n : ℕ). min n (2 ^ 64 - 1)) (sym (pieces-peak (spans_in held) (row_in held) c.self.invariant.0) ∙ ap peak c.self.view_is)

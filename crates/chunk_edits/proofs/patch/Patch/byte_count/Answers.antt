use Rattle.std.proofs.Common.{◌∙◌, sym, ap}
use Rattle.chunk_edits.specs.Patching.{total_held}
use Rattle.chunk_edits.specs.Spans.{row_in, spans_in}
use Rattle.chunk_edits.proofs.SpanLemmas.{pieces-held}
use Rattle.chunk_edits.proofs.patch.Patch.byte_count.Goals as goal

pub returns : goal.returns
returns c =
    let held = c.self.inside.held in
    c.byte_count.ensures ∙ (sym (pieces-held (spans_in held) (row_in held) c.self.invariant.0) ∙ ap total_held c.self.view_is)

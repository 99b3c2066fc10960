use Rattle.std.proofs.Common.{◌∙◌}
use Rattle.std.proofs.lemmas.Result.{IfOk-weaker}
use Rattle.document_diff.proofs.Live.{live_keys}
use Rattle.document_diff.proofs.heaps.live_handles.Goals as goal

pub returns : goal.returns
returns c = IfOk-weaker c.handles.result _ _ (λ handles are. are ∙ live_keys c.args.heap.now.chunks c.chunk.ensures.valid) c.handles.ensures

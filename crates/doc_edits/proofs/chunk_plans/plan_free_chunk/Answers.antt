use Rattle.std.proofs.Common.{[], refl, inr}
use Rattle.doc_edits.proofs.Refusals.{carried}
use Rattle.doc_edits.proofs.chunk_plans.plan_free_chunk.Goals as goal

pub returns-in_err-bytes : goal.returns-in_err-bytes
returns-in_err-bytes g c = carried c.from_residual.result _ _ c.in_err-bytes.field-0.0 c.from_residual.ensures.1 (inr (c.in_err-bytes.ensures c.args.blocks.now.document c.args.handle.0 c.heap_at-heap.ensures [] refl))

use Rattle.std.proofs.Common.{inr}
use Rattle.geos_model.specs.Targets.{new_chunk}
use Rattle.doc_edits.proofs.ChunkPlans.{new_full, new_planned}
use Rattle.doc_edits.proofs.Documents.{heap_here}
use Rattle.doc_edits.proofs.Refusals.{carried}
use Rattle.doc_edits.proofs.chunk_plans.plan_new_chunk.Goals as goal

pub returns-in_err-content : goal.returns-in_err-content
returns-in_err-content g c =
    let b = c.args.handle in let d = c.args.blocks.now.document in let edit = new_chunk b c.args.new in let m = c.heap_at-heap.result.now.chunks in let live = c.heap_at-heap.ensures in
    carried c.from_residual.result _ _ c.in_err-content.field-0.0 c.from_residual.ensures.1 (c.in_err-content.ensures d b (heap_here d b.0 m live))

pub returns-in-Some : goal.returns-in-Some
returns-in-Some g c =
    let b = c.args.handle in let d = c.args.blocks.now.document in let edit = new_chunk b c.args.new in let m = c.heap_at-heap.result.now.chunks in let live = c.heap_at-heap.ensures in
    new_planned edit d b m live c.in_ok-content.content (c.in_ok-content.ensures d b (heap_here d b.0 m live)) c.in-Some.chunk c.in-Some.ensures.0 c.in-Some.ensures.1

pub returns-in-None : goal.returns-in-None
returns-in-None g c =
    let b = c.args.handle in let d = c.args.blocks.now.document in let edit = new_chunk b c.args.new in let m = c.heap_at-heap.result.now.chunks in let live = c.heap_at-heap.ensures in
    inr (new_full edit d b m live c.in_ok-content.content (c.in_ok-content.ensures d b (heap_here d b.0 m live)) c.in-None.ensures)

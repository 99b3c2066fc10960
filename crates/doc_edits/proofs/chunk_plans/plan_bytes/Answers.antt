use Rattle.std.proofs.Common.{inr}
use Rattle.geos_model.specs.Targets.{byte_edit}
use Rattle.doc_edits.proofs.ChunkPlans.{chunk_refused, found_in, spliced}
use Rattle.doc_edits.proofs.Refusals.{carried}
use Rattle.doc_edits.proofs.Targets.{byte_scope}
use Rattle.doc_edits.proofs.chunk_plans.plan_bytes.Goals as goal

pub returns-in_err-bytes : goal.returns-in_err-bytes
returns-in_err-bytes g c =
    let b = c.args.handle in let k = c.args.chunk in let d = c.args.blocks.now.document in let edit = c.args.edit in let fault = c.in_err-bytes.field-0.0 in
    carried c.from_residual.result _ _ fault c.from_residual.ensures.1
    (inr (chunk_refused (byte_edit b k edit) d b k (byte_scope b k edit) fault (c.in_err-bytes.ensures d b.0 c.heap_at-heap.ensures)))

pub build_splice-requires : goal.build_splice-requires
build_splice-requires g c =
    let b = c.args.handle in let k = c.args.chunk in let d = c.args.blocks.now.document in let live = c.heap_at-heap.ensures in
    found_in (byte_edit b k c.args.edit) d b k _ live _ (c.in_ok-bytes.ensures d b.0 live)

pub returns-in_err-splice : goal.returns-in_err-splice
returns-in_err-splice g c =
    let b = c.args.handle in let d = c.args.blocks.now.document in let live = c.heap_at-heap.ensures in
    carried c.from_residual-in_err-splice.result _ _ c.in_err-splice.field-0.0 c.from_residual-in_err-splice.ensures.1 (c.in_err-splice.ensures d b live (c.in_ok-bytes.ensures d b.0 live))

pub returns : goal.returns
returns g c =
    let b = c.args.handle in let k = c.args.chunk in let d = c.args.blocks.now.document in let live = c.heap_at-heap.ensures in
    let there = c.in_ok-bytes.ensures d b.0 live in
    spliced (byte_edit b k c.args.edit) d b k _ live _ there c.in_ok-splice.splice (c.in_ok-splice.ensures d b live there)

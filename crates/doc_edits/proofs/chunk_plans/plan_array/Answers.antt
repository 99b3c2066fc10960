use Rattle.std.proofs.Common.{◌∙◌, length, inr, ap}
use Rattle.geos_model.specs.Targets.{array_edit}
use Rattle.vm_blocks.specs.declared.change.PartChange.TheVariants as parts
use Rattle.doc_edits.proofs.ChunkPlans.{chunk_refused, found_in, is_built, full, planned}
use Rattle.doc_edits.proofs.Refusals.{carried}
use Rattle.doc_edits.proofs.Targets.{array_scope}
use Rattle.doc_edits.proofs.chunk_plans.plan_array.Goals as goal

pub returns-in_err-bytes : goal.returns-in_err-bytes
returns-in_err-bytes g c =
    let b = c.args.handle in let k = c.args.chunk in let d = c.args.blocks.now.document in let edit = array_edit b k c.args.edit in let live = c.heap_at-heap.ensures in let fault = c.in_err-bytes.field-0.0 in
    carried c.from_residual.result _ _ fault c.from_residual.ensures.1
    (inr (chunk_refused edit d b k (array_scope b k c.args.edit).0 fault (c.in_err-bytes.ensures d b.0 live)))

pub returns-in_err-built : goal.returns-in_err-built
returns-in_err-built g c =
    let b = c.args.handle in let k = c.args.chunk in let d = c.args.blocks.now.document in let edit = array_edit b k c.args.edit in let live = c.heap_at-heap.ensures in
    carried c.from_residual-in_err-built.result _ _ c.in_err-built.field-0.0 c.from_residual-in_err-built.ensures.1 (c.in_err-built.ensures d b k (c.in_ok-bytes.ensures d b.0 live))

pub has_room-requires-clause-built : goal.has_room-requires-clause-built
has_room-requires-clause-built g c =
    let b = c.args.handle in let k = c.args.chunk in let d = c.args.blocks.now.document in let edit = array_edit b k c.args.edit in let live = c.heap_at-heap.ensures in
    let there = c.in_ok-bytes.ensures d b.0 live in let built = c.in_ok-built.built in let done = c.in_ok-built.done in let made = c.in_ok-built.ensures d b k there in
    is_built edit d b k _ live _ there (parts.Patch k built.patch built.runs) done made

pub has_room-requires-clause-valid : goal.has_room-requires-clause-valid
has_room-requires-clause-valid g c =
    let b = c.args.handle in let k = c.args.chunk in let d = c.args.blocks.now.document in let live = c.heap_at-heap.ensures in
    (found_in (array_edit b k c.args.edit) d b k _ live _ (c.in_ok-bytes.ensures d b.0 live)).valid

pub has_room-requires-clause-len : goal.has_room-requires-clause-len
has_room-requires-clause-len g c =
    let b = c.args.handle in let k = c.args.chunk in let d = c.args.blocks.now.document in let live = c.heap_at-heap.ensures in
    ap length (c.bytes.ensures ∙ (found_in (array_edit b k c.args.edit) d b k _ live _ (c.in_ok-bytes.ensures d b.0 live)).value)

pub returns-then-not-has_room : goal.returns-then-not-has_room
returns-then-not-has_room g c =
    let b = c.args.handle in let k = c.args.chunk in let d = c.args.blocks.now.document in let edit = array_edit b k c.args.edit in let live = c.heap_at-heap.ensures in
    let there = c.in_ok-bytes.ensures d b.0 live in let built = c.in_ok-built.built in let done = c.in_ok-built.done in let made = c.in_ok-built.ensures d b k there in
    inr (full edit d b k _ live _ there (parts.Patch k built.patch built.runs) done made c.if-not-has_room.ensures)

pub returns : goal.returns
returns g c =
    let b = c.args.handle in let k = c.args.chunk in let d = c.args.blocks.now.document in let edit = array_edit b k c.args.edit in let live = c.heap_at-heap.ensures in
    let there = c.in_ok-bytes.ensures d b.0 live in let built = c.in_ok-built.built in let done = c.in_ok-built.done in let made = c.in_ok-built.ensures d b k there in
    planned edit d b k _ live _ there (parts.Patch k built.patch built.runs) done made c.if-not-has_room.ensures

use Rattle.std.proofs.Common.{◌≡◌, ℕ, List, true, refl, subst}
use Rattle.lmem_heap.specs.Known.{is_array_of}
use Rattle.doc_edits.specs.Found.{IsChunkAt, IsChunkLive}
use Rattle.geos_model.specs.Document.{Document}
use Rattle.doc_edits.proofs.Refusals.{carried}
use Rattle.doc_edits.proofs.marking.test_array.Goals as goal

-- a chunk that has some bytes is live
live_at : (d : Document) (b c : ℕ) (bytes : List ℕ) → IsChunkAt d b c bytes → IsChunkLive d b c
live_at d b c bytes at = record { heap = at.heap; live = at.live; valid = at.valid; value = refl }

pub returns-in_err-bytes-clause-live : goal.returns-in_err-bytes-clause-live
returns-in_err-bytes-clause-live g c =
    carried c.from_residual.result _ _ c.in_err-bytes.field-0.0 c.from_residual.ensures.1 (c.in_err-bytes.ensures c.args.blocks.now.document c.args.block.0 c.heap_at.ensures)

pub mark_array-requires-clause-live : goal.mark_array-requires-clause-live
mark_array-requires-clause-live g c = (c.in_ok-bytes.ensures c.args.blocks.now.document c.args.block.0 c.heap_at.ensures).live

pub mark_array-requires-clause-array : goal.mark_array-requires-clause-array
mark_array-requires-clause-array g c =
    subst (λ (bytes : List ℕ). is_array_of c.args.kind bytes ≡ true) (c.in_ok-bytes.ensures c.args.blocks.now.document c.args.block.0 c.heap_at.ensures).value (c.if-is_new.ensures refl)

pub returns-then-is_new-clause-live : goal.returns-then-is_new-clause-live
returns-then-is_new-clause-live g c = live_at c.args.blocks.now.document c.args.block.0 c.args.chunk.0 c.in_ok-bytes.bytes (c.in_ok-bytes.ensures c.args.blocks.now.document c.args.block.0 c.heap_at.ensures)

pub returns-else-is_new-clause-live : goal.returns-else-is_new-clause-live
returns-else-is_new-clause-live g c = live_at c.args.blocks.now.document c.args.block.0 c.args.chunk.0 c.in_ok-bytes.bytes (c.in_ok-bytes.ensures c.args.blocks.now.document c.args.block.0 c.heap_at.ensures)

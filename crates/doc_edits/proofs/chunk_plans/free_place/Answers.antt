use Rattle.std.proofs.Common.{sym}
use Rattle.geos_model.proofs.HeapTables.{next_chunk-free}
use Rattle.vm_blocks.specs.Changes.{content_bytes}
use Rattle.doc_edits.proofs.ChunkPlans.{no_handle, too_many, place_full, place_fits}
use Rattle.doc_edits.proofs.chunk_plans.free_place.Goals as goal

pub returns-in_err-chunk : goal.returns-in_err-chunk
returns-in_err-chunk c = rw c.from_residual.ensures (no_handle c.args.heap.now.chunks (content_bytes c.args.content.now) c.in_err-chunk.ensures)

pub returns-in_err-size : goal.returns-in_err-size
returns-in_err-size c = rw c.from_residual-in_err-size.ensures (too_many c.args.heap.now.chunks (content_bytes c.args.content.now) c.in_ok-chunk.chunk.0 c.in_ok-chunk.ensures c.in_err-size.ensures)

pub fits_at-requires-clause-handle : goal.fits_at-requires-clause-handle
fits_at-requires-clause-handle c = (next_chunk-free c.args.heap.now.chunks c.in_ok-chunk.chunk.0 (sym c.in_ok-chunk.ensures)).0

pub fits_at-requires-clause-free : goal.fits_at-requires-clause-free
fits_at-requires-clause-free c = (next_chunk-free c.args.heap.now.chunks c.in_ok-chunk.chunk.0 (sym c.in_ok-chunk.ensures)).1

pub returns-then-fits_at : goal.returns-then-fits_at
returns-then-fits_at c =
    let free = next_chunk-free c.args.heap.now.chunks c.in_ok-chunk.chunk.0 (sym c.in_ok-chunk.ensures) in (
      sym c.in_ok-chunk.ensures,
      record {
        handle = free.0;
        free = free.1;
        fits = place_fits c.args.heap.now.chunks (content_bytes c.args.content.now) c.in_ok-chunk.chunk.0 c.in_ok-chunk.ensures c.in_ok-size.size c.in_ok-size.ensures c.if-fits_at.ensures;
      },
    )

pub returns-else-fits_at : goal.returns-else-fits_at
returns-else-fits_at c = place_full c.args.heap.now.chunks (content_bytes c.args.content.now) c.in_ok-chunk.chunk.0 c.in_ok-chunk.ensures c.in_ok-size.size c.in_ok-size.ensures c.if-fits_at.ensures

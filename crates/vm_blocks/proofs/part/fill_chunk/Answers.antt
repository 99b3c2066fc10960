use Rattle.std.proofs.Common.{ℕ, ◌+◌, length, replicate, ap, ◌∙◌, arith}
use Rattle.std.proofs.lemmas.List.{length-replicate}
use Rattle.std.specs.Option.{is_some}
use Rattle.std.specs.FinMap.{insert, contains_key}
use Rattle.std.specs.List.{splice}
use Rattle.geos_model.specs.Heap.{ChunkMap, chunk_bytes}
use Rattle.vm_blocks.proofs.RoomLemmas.{fits_as, fits_few, get-put, bytes-put, filled}
use Rattle.vm_blocks.proofs.part.fill_chunk.Goals as goal

pub overflow_cast-bytes : goal.overflow_cast-bytes
overflow_cast-bytes c = let few = fits_few c.args.chunk.0 c.args.bytes.now c.args.heap.now.chunks c.requires.fits in omega (arith, few)

pub alloc_at-requires-clause-fits : goal.alloc_at-requires-clause-fits
alloc_at-requires-clause-fits c =
    let b = c.args.bytes.now in
    fits_as c.args.chunk.0 (replicate (length b) 0) b c.args.heap.now.chunks (length-replicate {A = ℕ} (length b) 0) ∙ c.requires.fits

pub write-requires-clause-live : goal.write-requires-clause-live
write-requires-clause-live c =
    let h = c.args.chunk.0 in
    ap (λ (m : ChunkMap). contains_key m h) c.alloc_at.ensures ∙ ap is_some (get-put c.args.heap.now.chunks h (replicate (length c.args.bytes.now) 0))

pub write-requires-clause-range : goal.write-requires-clause-range
write-requires-clause-range c =
    let h = c.args.chunk.0 in let n = length c.args.bytes.now in
    omega (arith, ap (λ (m : ChunkMap). length (chunk_bytes m h)) c.alloc_at.ensures, ap length (bytes-put c.args.heap.now.chunks h (replicate n 0)), length-replicate {A = ℕ} n 0)

pub returns : goal.returns
returns c =
    let h = c.args.chunk.0 in let b = c.args.bytes.now in let n = length b in
    c.write.ensures.chunks ∙ ap (λ (m : ChunkMap). insert m h (splice (chunk_bytes m h) 0 (0 + n) b)) c.alloc_at.ensures ∙ filled c.args.heap.now.chunks h (replicate n 0) b (length-replicate {A = ℕ} n 0)

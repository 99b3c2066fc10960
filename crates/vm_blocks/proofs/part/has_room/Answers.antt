use Rattle.std.proofs.Common.{◌≡◌, ◌-◌, ℕ, List, length, take, replicate, arith, sym, ◌∙◌, length-append, length-take}
use Rattle.std.proofs.lemmas.Bool.{lt-leb}
use Rattle.std.proofs.lemmas.List.{length-replicate}
use Rattle.geos_model.specs.Bytes.{resized}
use Rattle.geos_model.specs.Heap.{ChunkMap, chunk_bytes, capacity}
use Rattle.geos_model.proofs.HeapTables.{chunk_bytes_le, fits_with-fewer, fits_with-same, fits_with-many}
use Rattle.lmem_heap.specs.Found.{handle_found}
use Rattle.vm_blocks.proofs.part.has_room.Goals as goal

length-resized : (bytes : List ℕ) (n : ℕ) → length (resized bytes n) ≡ n
length-resized bytes n = omega (arith, length-append (take n bytes) (replicate (n - length bytes) 0), length-take n bytes, length-replicate {A = ℕ} (n - length bytes) 0)

pub overflow_add-size : goal.overflow_add-size
overflow_add-size c = let few = chunk_bytes_le c.args.heap.now.chunks (handle_found c.args.found) c.requires.valid c.requires.found.live in omega (arith, few, c.requires.size)

pub overflow_cast-size : goal.overflow_cast-size
overflow_cast-size c = let few = chunk_bytes_le c.args.heap.now.chunks (handle_found c.args.found) c.requires.valid c.requires.found.live in omega (arith, few, c.requires.size)

pub returns-then-new-old : goal.returns-then-new-old
returns-then-new-old c = λ bytes long.
    sym (fits_with-fewer c.args.heap.now.chunks (handle_found c.args.found) bytes c.requires.valid c.requires.found.live (omega (arith, long, c.requires.size, c.requires.old, c.if-new-old.true)))

pub returns-then-new-le-SIZE : goal.returns-then-new-le-SIZE
returns-then-new-le-SIZE c = λ bytes long.
    let m : ChunkMap = c.args.heap.now.chunks in let h : ℕ = handle_found c.args.found in
    c.fits_found.ensures ∙ fits_with-same m h _ bytes c.requires.valid c.requires.found.live (length-resized (chunk_bytes m h) _ ∙ sym long)

pub returns-else-new-le-SIZE : goal.returns-else-new-le-SIZE
returns-else-new-le-SIZE c = λ bytes long.
    lt-leb c.args.new capacity c.if-new-le-SIZE.false ∙ sym (fits_with-many c.args.heap.now.chunks (handle_found c.args.found) bytes c.requires.valid c.requires.found.live (omega (arith, long, c.if-new-le-SIZE.false)))

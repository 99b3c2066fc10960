use Rattle.std.proofs.Common.{◌∙◌, sym, arith}
use Rattle.geos_model.specs.Bytes.{resized}
use Rattle.geos_model.specs.Heap.{chunk_bytes}
use Rattle.geos_model.proofs.HeapTables.{fits_with-fewer}
use Rattle.chunk_edits.specs.Patching.{patched}
use Rattle.chunk_edits.proofs.PatchingLemmas.{patched_length, reversed_taken}
use Rattle.lmem_heap.proofs.PlacedLemmas.{length-resized}
use Rattle.vm_blocks.proofs.RoomLemmas.{fits_as}
use Rattle.doc_edits.proofs.chunk_plans.has_room.Goals as goal

pub returns : goal.returns
returns c =
    let m = c.args.heap.now.chunks in let h = c.args.chunk.0 in let ps = c.args.built.now.patch in let bytes = chunk_bytes m h in let built = c.requires.built in
    c.fits_resize.ensures ∙ fits_as h (resized (chunk_bytes m h) _) (patched ps bytes) m (length-resized (chunk_bytes m h) _ ∙ let short = built.short in omega (arith, short, c.size_before-size.ensures, reversed_taken ps, patched_length ps bytes built.stands.stands))

pub returns-then-size-len : goal.returns-then-size-len
returns-then-size-len c =
    let m = c.args.heap.now.chunks in let h = c.args.chunk.0 in let ps = c.args.built.now.patch in let bytes = chunk_bytes m h in let built = c.requires.built in
    let short = built.short in let few = c.requires.len in
    sym (fits_with-fewer m h (patched ps bytes) c.requires.valid c.requires.live (omega (arith, short, few, c.size_before-size.ensures, reversed_taken ps, patched_length ps bytes built.stands.stands)))

pub overflow_cast-size : goal.overflow_cast-size
overflow_cast-size c =
    let ps = c.args.built.now.patch in let built = c.requires.built in let short = built.short in omega (arith, short, c.size_before-size.ensures, reversed_taken ps, patched_length ps (chunk_bytes c.args.heap.now.chunks c.args.chunk.0) built.stands.stands)

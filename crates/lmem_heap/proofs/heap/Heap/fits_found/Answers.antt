use Rattle.std.proofs.Common.{◌≡◌, ℕ, List, nat_le, length, refl, ap, sym, ◌∙◌, arith}
use Rattle.geos_model.specs.Heap.{chunk_bytes, space_of}
use Rattle.geos_model.specs.Bytes.{resized}
use Rattle.geos_model.proofs.Tables.{put_at}
use Rattle.geos_model.proofs.HeapTables.{space_of_ge}
use Rattle.heap_images.specs.Slots.{need_in}
use Rattle.lmem_heap.specs.Found.{handle_found}
use Rattle.lmem_heap.proofs.PlacedLemmas.{shown_chunks, live_slot, need_changed, fits_put, length-resized}
use Rattle.lmem_heap.proofs.heap.Heap.fits_found.Goals as goal

pub space_of-requires : goal.space_of-requires
space_of-requires c =
    let t = c.self.inside.table.chunks in let f = c.args.found in let m = c.args.self.now.chunks in let is = c.requires in
    let live = live_slot t f.slot (handle_found f) m (shown_chunks c.self.inside.table c.args.self.now c.self.view_is) refl is.live in
    omega (arith, live.space, space_of_ge (length (chunk_bytes m (handle_found f))), is.size, c.self.invariant.0.2)

pub overflow_sub-others : goal.overflow_sub-others
overflow_sub-others c =
    let t = c.self.inside.table.chunks in let f = c.args.found in let m = c.args.self.now.chunks in let is = c.requires in
    let live = live_slot t f.slot (handle_found f) m (shown_chunks c.self.inside.table c.args.self.now c.self.view_is) refl is.live in
    omega (arith, live.space, c.space_of.ensures, ap space_of is.size, c.space.ensures)

pub returns : goal.returns
returns c =
    let t = c.self.inside.table.chunks in let f = c.args.found in let h = handle_found f in let m = c.args.self.now.chunks in let is = c.requires in
    let shows = shown_chunks c.self.inside.table c.args.self.now c.self.view_is in let live = live_slot t f.slot h m shows refl is.live in
    let old : List ℕ = chunk_bytes m h in let b : List ℕ = resized old c.args.n in
    let need : c.need_of.result ≡ need_in (put_at t f.slot b)
    = omega (arith, need_changed t f.slot b old live, c.space.ensures, c.len.ensures.chunks, c.space_of.ensures, ap space_of is.size, c.space_of-2.ensures, ap space_of (length-resized old c.args.n), c.need_of.ensures) in
    ap (λ (n : ℕ). nat_le n 65520) need ∙ sym (fits_put t f.slot h m shows refl b c.self.invariant.0.0)

use Rattle.std.proofs.Common.{◌≡◌, ℕ, List, None, get_or, replicate, nat_le, ap, sym, ◌∙◌, arith}
use Rattle.std.proofs.lemmas.List.{length-replicate}
use Rattle.geos_model.specs.Heap.{space_of}
use Rattle.geos_model.proofs.Tables.{put_at}
use Rattle.heap_images.specs.Slots.{need_in}
use Rattle.lmem_heap.proofs.PlacedLemmas.{shown_chunks, free_slot, need_new, fits_put}
use Rattle.lmem_heap.proofs.heap.Heap.fits_at.Goals as goal

pub returns : goal.returns
returns c =
    let t = c.self.inside.table.chunks in let i = c.self.invariant.0 in let k = c.slot.result in
    let z : List ℕ = replicate c.args.n 0 in
    let none : get_or t k None ≡ None = free_slot t k c.args.h.0 c.args.self.now.chunks (shown_chunks c.self.inside.table c.args.self.now c.self.view_is) c.slot.ensures.at c.requires.free in
    let need : c.need_of.result ≡ need_in (put_at t k z)
    = omega (arith, need_new t k z none, c.space.ensures, c.len.ensures.chunks, c.max-slots.ensures, c.space_of.ensures, ap space_of (length-replicate {A = ℕ} c.args.n 0), c.need_of.ensures) in
    ap (λ (n : ℕ). nat_le n 65520) need ∙ sym (fits_put t k c.args.h.0 c.args.self.now.chunks (shown_chunks c.self.inside.table c.args.self.now c.self.view_is) c.slot.ensures.at z i.0)

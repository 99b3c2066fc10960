use Rattle.std.proofs.Common.{◌≡◌, ◌≤◌, List, ℕ, [], Option, is_some, length, unwrap_or, refl, ap, ◌∙◌, arith}
use Rattle.geos_model.specs.Heap.{chunk_bytes, space_of}
use Rattle.geos_model.proofs.Tables.{put_at}
use Rattle.raw_region.specs.Bytes.{put}
use Rattle.raw_region.proofs.Puts.{length-put}
use Rattle.lmem_heap.specs.LendsChunk.{with_table_chunk}
use Rattle.heap_images.specs.Slots.{need_in}
use Rattle.lmem_heap.proofs.PlacedLemmas.{shown_chunks, shown_places, live_slot, shows_put, need_changed, put_changed, counted_changed, same_placed}
use Rattle.lmem_heap.proofs.MarkLemmas.{marked_put}
use Rattle.lmem_heap.proofs.heap.Heap.chunk_mut.Goals as goal

pub chunk_mut-requires : goal.chunk_mut-requires
chunk_mut-requires c =
    let live = live_slot c.self.inside.table.chunks c.live_slot-i.result c.args.h.0 c.args.self.now.chunks (shown_chunks c.self.inside.table c.args.self.now c.self.view_is) c.live_slot-i.ensures c.requires in
    record { slot = live.within; live = ap is_some live.holds }

pub invariant_of-self-lent : goal.invariant_of-self-lent
invariant_of-self-lent c =
    λ w. let s = c.self.inside in let t = s.table.chunks in let i = c.self.invariant.0 in let k = c.live_slot-i.result in
    let live = live_slot t k c.args.h.0 c.args.self.now.chunks (shown_chunks c.self.inside.table c.args.self.now c.self.view_is) c.live_slot-i.ensures c.requires in
    let old : List ℕ = chunk_bytes c.args.self.now.chunks c.args.h.0 in let b : List ℕ = put old 0 w in
    let same : length b ≡ length old = length-put old w 0 in let space = live.space in
    let room : need_in (put_at t k b) ≤ 65520 = omega (arith, need_changed t k b old live, ap space_of same, i.2) in
    let is = put_changed t (with_table_chunk s.table k w).chunks k b old (λ (l : List ℕ). put l 0 w) live refl refl in
    (counted_changed t (with_table_chunk s.table k w).chunks k s.gap b old live i room is, marked_put t (with_table_chunk s.table k w).chunks k b s.marks.list.items c.forget.new.self.list.items is c.forget.ensures c.self.invariant.1)

pub returns : goal.returns
returns c =
    let s = c.self.inside in let t = s.table.chunks in let k = c.live_slot-i.result in
    let live = live_slot t k c.args.h.0 c.args.self.now.chunks (shown_chunks c.self.inside.table c.args.self.now c.self.view_is) c.live_slot-i.ensures c.requires in
    let old : List ℕ = chunk_bytes c.args.self.now.chunks c.args.h.0 in (
      (
        refl,
        λ w. let chunks = shows_put t k c.args.h.0 c.args.self.now.chunks (shown_chunks c.self.inside.table c.args.self.now c.self.view_is) c.live_slot-i.ensures (with_table_chunk s.table k w).chunks (put old 0 w) (put_changed t (with_table_chunk s.table k w).chunks k (put old 0 w) old (λ (l : List ℕ). put l 0 w) live refl refl) in
            same_placed _ _ chunks (shown_places s.table c.args.self.now c.self.view_is),
      ),
      record { writes_back = tt; value = c.chunk_mut.ensures.value ∙ ap (λ (o : Option (List ℕ)). unwrap_or o []) live.holds },
    )

use Rattle.std.proofs.Common.{◌≡◌, ◌≤◌, ◌+◌, ℕ, List, Option, None, max, length, get_or, replicate, ◌∙◌, refl, arith}
use Rattle.geos_model.proofs.Table.{first_gap}
use Rattle.geos_model.proofs.Tables.{put_at}
use Rattle.heap_images.specs.Slots.{need_in}
use Rattle.lmem_heap.proofs.PlacedLemmas.{shown_chunks, free_slot, room_put, shows_put, counted_put, zeros_put, none_bytes, in_slots, grow_room, new_room, gap_found, first_gap_le, gap_put_here, gap_put_there}
use Rattle.lmem_heap.proofs.MarkLemmas.{marked_put}
use Rattle.lmem_heap.proofs.heap.Heap.alloc_at.Goals.{After-gap_from-gap, After-max, After-place, then-i-gap, else-i-gap}
use Rattle.lmem_heap.proofs.heap.Heap.alloc_at.Goals as goal

-- a table's slot is free, has room for n zeros, and is one of the first so many
record HasRoom (t : List (Option (List ℕ))) (slot n slots : ℕ) : Type 0 where
  pub none : get_or t slot None ≡ None
  pub room : need_in (put_at t slot (replicate n 0)) ≤ 65520
  pub most : slots ≡ max (length t) (slot + 1)

has_room : (c : After-max) → HasRoom c.self.inside.table.chunks c.slot-i.result c.args.n c.max.result
has_room c =
    let t = c.self.inside.table.chunks in let k = c.slot-i.result in let h = c.args.h.0 in let m = c.args.self.now.chunks in let shows = shown_chunks c.self.inside.table c.args.self.now c.self.view_is in
    record {
      none = free_slot t k h m shows c.slot-i.ensures.at c.requires.free;
      room = room_put t k h m shows c.slot-i.ensures.at (replicate c.args.n 0) c.self.invariant.0.0 c.requires.fits;
      most = omega (arith, c.max.ensures, c.len.ensures.chunks);
    }

-- the zeros are put there
placed : (c : After-place) → HasRoom c.self.inside.table.chunks c.slot-i.result c.args.n c.max.result → c.place.new.self.chunks ≡ put_at c.self.inside.table.chunks c.slot-i.result (replicate c.args.n 0)
placed c f = c.place.ensures ∙ zeros_put c.self.inside.table.chunks c.grow.new.self.chunks c.slot-i.result c.max.result f.most c.grow.ensures f.none c.args.n

-- the least free slot
gap : (c : After-gap_from-gap) → c.gap_from-gap.result ≡ first_gap c.self.inside.table.chunks
gap c = c.gap_from-gap.ensures ∙ gap_found c.self.inside.table.chunks c.self.inside.gap c.self.invariant.0.1

pub gap_from-gap-requires : goal.gap_from-gap-requires
gap_from-gap-requires c = omega (arith, c.self.invariant.0.1, first_gap_le c.self.inside.table.chunks)

pub grow-requires-clause-room : goal.grow-requires-clause-room
grow-requires-clause-room c = let f = has_room (goal.at.grow-requires-clause-room c).After-max in grow_room c.self.inside.table.chunks _ c.slot-i.result c.max.result f.most refl f.none (replicate c.args.n 0) f.room

pub place-requires-clause-slot : goal.place-requires-clause-slot
place-requires-clause-slot c = let f = has_room (goal.at.place-requires-clause-slot c).After-max in in_slots c.self.inside.table.chunks c.grow.new.self.chunks c.slot-i.result c.max.result f.most c.grow.ensures f.none

pub place-requires-clause-none : goal.place-requires-clause-none
place-requires-clause-none c = let f = has_room (goal.at.place-requires-clause-none c).After-max in none_bytes c.self.inside.table.chunks c.grow.new.self.chunks c.slot-i.result c.max.result f.most c.grow.ensures f.none

pub place-requires-clause-room : goal.place-requires-clause-room
place-requires-clause-room c = let f = has_room (goal.at.place-requires-clause-room c).After-max in new_room c.self.inside.table.chunks c.grow.new.self.chunks c.slot-i.result c.max.result f.most c.grow.ensures f.none c.args.n f.room

pub invariant_of-self : goal.invariant_of-self
invariant_of-self c =
    let t = c.self.inside.table.chunks in let k = c.slot-i.result in let z : List ℕ = replicate c.args.n 0 in
    let f = has_room (goal.at.invariant_of-self c).After-max in let g = gap (goal.at.invariant_of-self c).After-gap_from-gap in
    let first : c.if-i-gap.self ≤ first_gap (put_at t k z) = elim c.if-i-gap.branch [
      | then-i-gap w ↦ omega (arith, w.self-is, gap_put_here t k z (omega (arith, g, w.if-i-gap.true)) f.none)
      | else-i-gap w ↦ omega (arith, w.self-is, gap_put_there t c.gap_from-gap.result k z (omega (arith, g)))
    ] in
    let there = placed (goal.at.invariant_of-self c).After-place f in (
      counted_put t c.place.new.self.chunks k c.if-i-gap.self z c.self.invariant.0.0 f.room there first,
      marked_put t c.place.new.self.chunks k z c.self.inside.marks.list.items c.forget.new.self.list.items there c.forget.ensures c.self.invariant.1,
    )

pub returns : goal.returns
returns c = shows_put c.self.inside.table.chunks c.slot-i.result c.args.h.0 c.args.self.now.chunks (shown_chunks c.self.inside.table c.args.self.now c.self.view_is) c.slot-i.ensures.at c.place.new.self.chunks (replicate c.args.n 0) (placed (goal.at.returns c).After-place (has_room (goal.at.returns c).After-max))

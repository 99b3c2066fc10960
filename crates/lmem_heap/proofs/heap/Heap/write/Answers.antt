use Rattle.std.proofs.Common.{◌≡◌, ◌+◌, ◌≤◌, List, ℕ, [], Option, is_some, length, unwrap_or, ap, ◌∙◌, arith}
use Rattle.std.specs.List as list
use Rattle.geos_model.specs.Heap.{chunk_bytes, space_of}
use Rattle.geos_model.proofs.Table.{table_map}
use Rattle.geos_model.proofs.Tables.{put_at}
use Rattle.heap_images.specs.Slots.{need_in}
use Rattle.lmem_heap.proofs.PlacedLemmas.{shown_chunks, shown_places, live_slot, shows_put, need_changed, put_written, counted_changed, length-splice}
use Rattle.lmem_heap.proofs.MarkLemmas.{marked_put}
use Rattle.lmem_heap.proofs.heap.Heap.write.Goals as goal

pub write-requires-clause-slot : goal.write-requires-clause-slot
write-requires-clause-slot c = (live_slot c.self.inside.table.chunks c.live_slot-i.result c.args.h.0 c.args.self.now.chunks (shown_chunks c.self.inside.table c.args.self.now c.self.view_is) c.live_slot-i.ensures c.requires.live).within

pub write-requires-clause-live : goal.write-requires-clause-live
write-requires-clause-live c = ap is_some (live_slot c.self.inside.table.chunks c.live_slot-i.result c.args.h.0 c.args.self.now.chunks (shown_chunks c.self.inside.table c.args.self.now c.self.view_is) c.live_slot-i.ensures c.requires.live).holds

pub write-requires-clause-range : goal.write-requires-clause-range
write-requires-clause-range c = omega (arith, c.requires.range, ap (λ (o : Option (List ℕ)). length (unwrap_or o [])) (live_slot c.self.inside.table.chunks c.live_slot-i.result c.args.h.0 c.args.self.now.chunks (shown_chunks c.self.inside.table c.args.self.now c.self.view_is) c.live_slot-i.ensures c.requires.live).holds)

pub invariant_of-self : goal.invariant_of-self
invariant_of-self c =
    let s = c.self.inside in let t = s.table.chunks in let i = c.self.invariant.0 in let k = c.live_slot-i.result in let ws = c.args.bytes.now in let end = c.args.at + length ws in
    let live = live_slot c.self.inside.table.chunks c.live_slot-i.result c.args.h.0 c.args.self.now.chunks (shown_chunks c.self.inside.table c.args.self.now c.self.view_is) c.live_slot-i.ensures c.requires.live in
    let old : List ℕ = chunk_bytes c.args.self.now.chunks c.args.h.0 in let b : List ℕ = list.splice old c.args.at end ws in
    let same : length b ≡ length old = omega (arith, length-splice old ws c.args.at (length ws) c.requires.range, c.requires.range) in
    let space = live.space in
    let room : need_in (put_at t k b) ≤ 65520 = omega (arith, need_changed t k b old live, ap space_of same, i.2) in
    let is = put_written t c.write.new.self.chunks k c.args.at ws old live c.requires.range c.write.ensures.chunks in
    (counted_changed t c.write.new.self.chunks k s.gap b old live i room is, marked_put t c.write.new.self.chunks k b s.marks.list.items c.forget.new.self.list.items is c.forget.ensures c.self.invariant.1)

pub returns-clause-chunks : goal.returns-clause-chunks
returns-clause-chunks c =
    let t = c.self.inside.table.chunks in let k = c.live_slot-i.result in let ws = c.args.bytes.now in let end = c.args.at + length ws in
    let live = live_slot c.self.inside.table.chunks c.live_slot-i.result c.args.h.0 c.args.self.now.chunks (shown_chunks c.self.inside.table c.args.self.now c.self.view_is) c.live_slot-i.ensures c.requires.live in
    let old : List ℕ = chunk_bytes c.args.self.now.chunks c.args.h.0 in let b : List ℕ = list.splice old c.args.at end ws in
    shows_put t k c.args.h.0 c.args.self.now.chunks (shown_chunks c.self.inside.table c.args.self.now c.self.view_is) c.live_slot-i.ensures c.write.new.self.chunks b (put_written t c.write.new.self.chunks k c.args.at ws old live c.requires.range c.write.ensures.chunks)

pub returns-clause-places : goal.returns-clause-places
returns-clause-places c = ap (table_map 2 16) c.write.ensures.offsets ∙ shown_places c.self.inside.table c.args.self.now c.self.view_is

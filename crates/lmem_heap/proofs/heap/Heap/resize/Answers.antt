use Rattle.std.proofs.Common.{List, ℕ, [], Option, unwrap_or, ap}
use Rattle.geos_model.specs.Heap.{chunk_bytes}
use Rattle.geos_model.specs.Bytes.{resized}
use Rattle.lmem_heap.proofs.PlacedLemmas.{shown_chunks, live_slot, shows_put, room_put, set_room, put_resized, counted_changed}
use Rattle.lmem_heap.proofs.MarkLemmas.{marked_put}
use Rattle.lmem_heap.proofs.heap.Heap.resize.Goals as goal

pub resize-requires-clause-slot : goal.resize-requires-clause-slot
resize-requires-clause-slot c =
    let s = c.self.inside in let t = s.table.chunks in let i = c.self.invariant.0 in let k = c.live_slot-i.result in let h = c.args.h.0 in let m = c.args.self.now.chunks in let shows = shown_chunks s.table c.args.self.now c.self.view_is in
    let old : List ℕ = chunk_bytes m h in let b : List ℕ = resized old c.args.n in let live = live_slot t k h m shows c.live_slot-i.ensures c.requires.live in
    let room = room_put t k h m shows c.live_slot-i.ensures b i.0 c.requires.fits in
    live.within

pub resize-requires-clause-room : goal.resize-requires-clause-room
resize-requires-clause-room c =
    let s = c.self.inside in let t = s.table.chunks in let i = c.self.invariant.0 in let k = c.live_slot-i.result in let h = c.args.h.0 in let m = c.args.self.now.chunks in let shows = shown_chunks s.table c.args.self.now c.self.view_is in
    let old : List ℕ = chunk_bytes m h in let b : List ℕ = resized old c.args.n in let live = live_slot t k h m shows c.live_slot-i.ensures c.requires.live in
    let room = room_put t k h m shows c.live_slot-i.ensures b i.0 c.requires.fits in
    set_room t k _ b live.within (ap (λ (o : Option (List ℕ)). resized (unwrap_or o []) c.args.n) live.holds) room

pub invariant_of-self : goal.invariant_of-self
invariant_of-self c =
    let s = c.self.inside in let t = s.table.chunks in let i = c.self.invariant.0 in let k = c.live_slot-i.result in let h = c.args.h.0 in let m = c.args.self.now.chunks in let shows = shown_chunks s.table c.args.self.now c.self.view_is in
    let old : List ℕ = chunk_bytes m h in let b : List ℕ = resized old c.args.n in let live = live_slot t k h m shows c.live_slot-i.ensures c.requires.live in
    let room = room_put t k h m shows c.live_slot-i.ensures b i.0 c.requires.fits in
    let is = put_resized t c.resize.new.self.chunks k c.args.n old live c.resize.ensures in
    (counted_changed t c.resize.new.self.chunks k s.gap b old live i room is, marked_put t c.resize.new.self.chunks k b s.marks.list.items c.forget.new.self.list.items is c.forget.ensures c.self.invariant.1)

pub returns : goal.returns
returns c =
    let s = c.self.inside in let t = s.table.chunks in let i = c.self.invariant.0 in let k = c.live_slot-i.result in let h = c.args.h.0 in let m = c.args.self.now.chunks in let shows = shown_chunks s.table c.args.self.now c.self.view_is in
    let old : List ℕ = chunk_bytes m h in let b : List ℕ = resized old c.args.n in let live = live_slot t k h m shows c.live_slot-i.ensures c.requires.live in
    let room = room_put t k h m shows c.live_slot-i.ensures b i.0 c.requires.fits in
    shows_put t k h m shows c.live_slot-i.ensures c.resize.new.self.chunks b (put_resized t c.resize.new.self.chunks k c.args.n old live c.resize.ensures)

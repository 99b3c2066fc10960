use Rattle.std.proofs.Common.{◌+◌, List, ℕ, [], Option, length, unwrap_or, refl, ap, arith}
use Rattle.std.specs.List as list
use Rattle.geos_model.specs.Heap.{chunk_bytes}
use Rattle.lmem_heap.specs.Found.{handle_found}
use Rattle.lmem_heap.proofs.FoundLemmas.{found_at}
use Rattle.lmem_heap.proofs.PlacedLemmas.{shown_chunks, live_slot, shows_put, room_put, set_room, put_spliced, counted_changed}
use Rattle.lmem_heap.proofs.MarkLemmas.{marked_put}
use Rattle.lmem_heap.proofs.heap.Heap.replace_found.Goals as goal

pub replace-requires-clause-found : goal.replace-requires-clause-found
replace-requires-clause-found c = found_at c.self.inside.table c.args.self.now c.args.found c.self.view_is c.requires.found

pub replace-requires-clause-range : goal.replace-requires-clause-range
replace-requires-clause-range c =
    let t = c.self.inside.table.chunks in let f = c.args.found in let h = handle_found f in let m = c.args.self.now.chunks in let is = c.requires.found in
    let shows = shown_chunks c.self.inside.table c.args.self.now c.self.view_is in let live = live_slot t f.slot h m shows refl is.live in
    omega (arith, c.requires.range, ap (λ (o : Option (List ℕ)). length (unwrap_or o [])) live.holds)

pub replace-requires-clause-room : goal.replace-requires-clause-room
replace-requires-clause-room c =
    let t = c.self.inside.table.chunks in let f = c.args.found in let h = handle_found f in let m = c.args.self.now.chunks in let is = c.requires.found in
    let shows = shown_chunks c.self.inside.table c.args.self.now c.self.view_is in let live = live_slot t f.slot h m shows refl is.live in
    let b : List ℕ = list.splice (chunk_bytes m h) c.args.at (c.args.at + c.args.k) c.args.new.now in
    let room = room_put t f.slot h m shows refl b c.self.invariant.0.0 c.requires.fits in
    set_room t f.slot _ b live.within (ap (λ (o : Option (List ℕ)). list.splice (unwrap_or o []) c.args.at (c.args.at + c.args.k) c.args.new.now) live.holds) room

pub invariant_of-self : goal.invariant_of-self
invariant_of-self c =
    let s = c.self.inside in let t = s.table.chunks in let f = c.args.found in let h = handle_found f in let m = c.args.self.now.chunks in let is = c.requires.found in
    let shows = shown_chunks s.table c.args.self.now c.self.view_is in let live = live_slot t f.slot h m shows refl is.live in
    let old : List ℕ = chunk_bytes m h in let b : List ℕ = list.splice old c.args.at (c.args.at + c.args.k) c.args.new.now in
    let room = room_put t f.slot h m shows refl b c.self.invariant.0.0 c.requires.fits in
    let put = put_spliced t c.replace.new.self.chunks f.slot c.args.at (c.args.at + c.args.k) c.args.new.now old live c.replace.ensures in
    (counted_changed t c.replace.new.self.chunks f.slot s.gap b old live c.self.invariant.0 room put, marked_put t c.replace.new.self.chunks f.slot b s.marks.list.items c.forget.new.self.list.items put c.forget.ensures c.self.invariant.1)

pub returns : goal.returns
returns c =
    let s = c.self.inside in let t = s.table.chunks in let f = c.args.found in let h = handle_found f in let m = c.args.self.now.chunks in let is = c.requires.found in
    let shows = shown_chunks s.table c.args.self.now c.self.view_is in let live = live_slot t f.slot h m shows refl is.live in
    let old : List ℕ = chunk_bytes m h in let b : List ℕ = list.splice old c.args.at (c.args.at + c.args.k) c.args.new.now in
    shows_put t f.slot h m shows refl c.replace.new.self.chunks b (put_spliced t c.replace.new.self.chunks f.slot c.args.at (c.args.at + c.args.k) c.args.new.now old live c.replace.ensures)

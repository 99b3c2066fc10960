use Rattle.std.proofs.Common.{length, List, ℕ, arith}
use Rattle.geos_model.specs.Heap.{chunk_bytes}
use Rattle.lmem_heap.proofs.PlacedLemmas.{shown_chunks, shown_places, places_freed, live_is, live_slot, shows_freed, counted_freed}
use Rattle.lmem_heap.proofs.MarkLemmas.{marked_freed}
use Rattle.lmem_heap.proofs.heap.Heap.free.Goals as goal

pub slot-i-requires : goal.slot-i-requires
slot-i-requires c = let i = c.self.invariant.0 in live_is c.self.inside.table.chunks c.args.h.0 c.args.self.now.chunks (shown_chunks c.self.inside.table c.args.self.now c.self.view_is) i.0 i.2 c.requires

pub vacate-requires-clause-slot : goal.vacate-requires-clause-slot
vacate-requires-clause-slot c = (live_slot c.self.inside.table.chunks c.slot-i.result c.args.h.0 c.args.self.now.chunks (shown_chunks c.self.inside.table c.args.self.now c.self.view_is) c.slot-i.ensures.at c.requires).within

pub invariant_of-self : goal.invariant_of-self
invariant_of-self c =
    let s = c.self.inside in let t = s.table.chunks in let old : List ℕ = chunk_bytes c.args.self.now.chunks c.args.h.0 in let e = c.trim.ensures in let u = c.trim.new.self in
    let live = live_slot t c.slot-i.result c.args.h.0 c.args.self.now.chunks (shown_chunks s.table c.args.self.now c.self.view_is) c.slot-i.ensures.at c.requires in (
      counted_freed t c.vacate.new.self.chunks u.chunks c.slot-i.result (length u.chunks) old live c.vacate.ensures.chunks e.chunks e.gaps s.gap c.min-self-inside.result c.self.invariant.0 e.trimmed
          (omega (arith, c.min-self-inside.ensures, c.min.ensures, c.len.ensures.chunks)),
      marked_freed t c.vacate.new.self.chunks u.chunks c.slot-i.result (length u.chunks) s.marks.list.items c.forget.new.self.list.items c.vacate.ensures.chunks e.chunks e.gaps c.forget.ensures c.self.invariant.1,
    )

pub returns-clause-chunks : goal.returns-clause-chunks
returns-clause-chunks c =
    let s = c.self.inside in let t = s.table.chunks in let e = c.trim.ensures in let u = c.trim.new.self in let shows = shown_chunks s.table c.args.self.now c.self.view_is in
    let live = live_slot t c.slot-i.result c.args.h.0 c.args.self.now.chunks shows c.slot-i.ensures.at c.requires in
    shows_freed t c.vacate.new.self.chunks u.chunks c.slot-i.result (length u.chunks) (chunk_bytes c.args.self.now.chunks c.args.h.0) live c.vacate.ensures.chunks e.chunks e.gaps c.args.h.0 c.args.self.now.chunks shows c.slot-i.ensures.at

pub returns-clause-places : goal.returns-clause-places
returns-clause-places c =
    let s = c.self.inside in let t = s.table.chunks in let v = c.vacate.new.self in let u = c.trim.new.self in
    let live = live_slot t c.slot-i.result c.args.h.0 c.args.self.now.chunks (shown_chunks s.table c.args.self.now c.self.view_is) c.slot-i.ensures.at c.requires in
    places_freed s.table.offsets v.offsets u.offsets c.slot-i.result c.args.h.0 c.args.self.now.places (shown_places s.table c.args.self.now c.self.view_is) c.slot-i.ensures.at (omega (arith, live.within, c.vacate.ensures.count)) c.vacate.ensures.offsets c.trim.ensures.offsets

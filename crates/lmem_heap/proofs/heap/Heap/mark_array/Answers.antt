use Rattle.std.proofs.Common.{◌≡◌, [], List, ℕ, Option, true, unwrap_or, subst, sym}
use Rattle.lmem_heap.specs.Known.{is_array_of}
use Rattle.lmem_heap.proofs.PlacedLemmas.{shown_chunks, live_slot}
use Rattle.lmem_heap.proofs.MarkLemmas.{marked_more}
use Rattle.lmem_heap.proofs.heap.Heap.mark_array.Goals as goal

pub invariant_of-self : goal.invariant_of-self
invariant_of-self c =
    let s = c.self.inside in let t = s.table.chunks in let k = c.live_slot-i.result in
    let live = live_slot t k c.args.h.0 c.args.self.now.chunks (shown_chunks s.table c.args.self.now c.self.view_is) c.live_slot-i.ensures c.requires.live in
    let is = subst (λ (o : Option (List ℕ)). is_array_of c.args.kind (unwrap_or o []) ≡ true) (sym live.holds) c.requires.array in
    (c.self.invariant.0, marked_more t k c.args.kind s.marks.list.items c.set.new.self.list.items is c.set.ensures c.self.invariant.1)

use Rattle.lmem_heap.proofs.PlacedLemmas.{shown_chunks, live_is}
use Rattle.lmem_heap.proofs.heap.Heap.live_slot.Goals as goal

pub slot-requires : goal.slot-requires
slot-requires c = let i = c.self.invariant.0 in live_is c.self.inside.table.chunks c.args.h.0 c.args.self.now.chunks (shown_chunks c.self.inside.table c.args.self.now c.self.view_is) i.0 i.2 c.requires

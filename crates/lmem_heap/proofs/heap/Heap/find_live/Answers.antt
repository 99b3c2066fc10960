use Rattle.std.proofs.Common.{is_some, ap}
use Rattle.lmem_heap.proofs.FoundLemmas.{found_in}
use Rattle.lmem_heap.proofs.PlacedLemmas.{shown_chunks, live_slot}
use Rattle.lmem_heap.proofs.heap.Heap.find_live.Goals as goal

pub find_live-requires-clause-slot : goal.find_live-requires-clause-slot
find_live-requires-clause-slot c = (live_slot c.self.inside.table.chunks c.live_slot.result c.args.h.0 c.args.self.now.chunks (shown_chunks c.self.inside.table c.args.self.now c.self.view_is) c.live_slot.ensures c.requires).within

pub find_live-requires-clause-live : goal.find_live-requires-clause-live
find_live-requires-clause-live c = ap is_some (live_slot c.self.inside.table.chunks c.live_slot.result c.args.h.0 c.args.self.now.chunks (shown_chunks c.self.inside.table c.args.self.now c.self.view_is) c.live_slot.ensures c.requires).holds

pub returns-clause-found : goal.returns-clause-found
returns-clause-found c = found_in c.self.inside.table c.args.self.now c.find_live.result c.self.view_is c.find_live.ensures.found

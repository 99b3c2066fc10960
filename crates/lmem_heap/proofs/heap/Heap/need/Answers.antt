use Rattle.std.proofs.Common.{arith, ap}
use Rattle.geos_model.specs.Heap.{need}
use Rattle.lmem_heap.proofs.PlacedLemmas.{shown_chunks}
use Rattle.heap_images.proofs.SlotLemmas.{need_is}
use Rattle.lmem_heap.proofs.heap.Heap.need.Goals as goal

pub returns : goal.returns
returns c = let i = c.self.invariant.0 in omega (arith, c.need_of.ensures, c.len.ensures.chunks, c.space.ensures, need_is c.self.inside.table.chunks i.0, ap need (shown_chunks c.self.inside.table c.args.self.now c.self.view_is))

use Rattle.lmem_heap.proofs.StoredLemmas.{heap_holding}
use Rattle.lmem_heap.proofs.heap.Heap.into_region.Goals as goal

pub returns : goal.returns
returns c = heap_holding c.into_region.result c.self.inside.table c.args.self c.self.view_is c.into_region.ensures

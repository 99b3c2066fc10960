use Rattle.lmem_heap.proofs.StoredLemmas.{shown_holding}
use Rattle.lmem_heap.proofs.table.ChunkTable.into_region.Goals as goal

pub returns : goal.returns
returns c = shown_holding c.self.inside.space c.args.self c.self.invariant c.self.view_is

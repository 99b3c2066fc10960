use Rattle.lmem_heap.proofs.StoredLemmas.{in_table}
use Rattle.lmem_heap.proofs.table.ChunkTable.has_chunk.Goals as goal

pub has_chunk-requires-clause-slot : goal.has_chunk-requires-clause-slot
has_chunk-requires-clause-slot c = in_table c.self.inside.space c.args.self.now c.args.i c.self.invariant c.self.view_is c.requires

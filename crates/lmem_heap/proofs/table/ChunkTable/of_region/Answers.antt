use Rattle.lmem_heap.proofs.StoredLemmas.{no_chunks, no_offsets, stored_new}
use Rattle.lmem_heap.proofs.table.ChunkTable.of_region.Goals as goal

pub invariant_of-result : goal.invariant_of-result
invariant_of-result c = let e = c.of_region.ensures in stored_new c.of_region.result e.well_formed e.slots e.total

pub returns : goal.returns
returns c = let e = c.of_region.ensures in record { chunks = no_chunks c.of_region.result e.slots; offsets = no_offsets c.of_region.result e.slots }

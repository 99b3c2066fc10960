use Rattle.geos_model.proofs.HeapTables.{chunk_bytes_le}
use Rattle.chunk_edits.proofs.chunk.chunk_of.Goals as goal

pub returns-clause-short : goal.returns-clause-short
returns-clause-short c = chunk_bytes_le c.args.heap.now.chunks c.args.h.0 c.chunk.ensures.valid c.requires

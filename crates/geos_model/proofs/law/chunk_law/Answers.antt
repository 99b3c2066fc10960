use Rattle.geos_model.proofs.ChunkLengths.{chunk_law}
use Rattle.geos_model.proofs.law.chunk_law.Goals as goal

pub returns : goal.returns
returns c = chunk_law

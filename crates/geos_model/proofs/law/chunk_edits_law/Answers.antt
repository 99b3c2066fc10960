use Rattle.geos_model.proofs.ChunkEdits.{chunk_edits_law}
use Rattle.geos_model.proofs.law.chunk_edits_law.Goals as goal

pub returns : goal.returns
returns c = chunk_edits_law

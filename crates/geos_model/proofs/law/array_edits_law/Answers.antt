use Rattle.geos_model.proofs.ArrayEdits.{array_edits_law}
use Rattle.geos_model.proofs.law.array_edits_law.Goals as goal

pub returns : goal.returns
returns c = array_edits_law

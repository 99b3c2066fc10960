use Rattle.geos_model.proofs.ElementEdits.{element_edits_law}
use Rattle.geos_model.proofs.law.element_edits_law.Goals as goal

pub returns : goal.returns
returns c = element_edits_law

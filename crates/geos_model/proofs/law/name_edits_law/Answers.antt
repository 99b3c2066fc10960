use Rattle.geos_model.proofs.NameEdits.{name_edits_law}
use Rattle.geos_model.proofs.law.name_edits_law.Goals as goal

pub returns : goal.returns
returns c = name_edits_law

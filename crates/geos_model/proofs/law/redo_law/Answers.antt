use Rattle.geos_model.proofs.RedoLaw.{redo_law}
use Rattle.geos_model.proofs.law.redo_law.Goals as goal

pub returns : goal.returns
returns c = redo_law

use Rattle.geos_model.proofs.UndoLaw.{undo_law}
use Rattle.geos_model.proofs.law.undo_law.Goals as goal

pub returns : goal.returns
returns c = undo_law

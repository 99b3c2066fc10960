use Rattle.geos_model.proofs.Saving.{save_law}
use Rattle.geos_model.proofs.law.save_law.Goals as goal

pub returns : goal.returns
returns c = save_law

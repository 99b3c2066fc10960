use Rattle.geos_model.proofs.Touching.{touched_law}
use Rattle.geos_model.proofs.law.touched_law.Goals as goal

pub returns : goal.returns
returns c = touched_law

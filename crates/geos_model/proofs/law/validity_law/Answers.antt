use Rattle.geos_model.proofs.ValidSteps.{validity_law}
use Rattle.geos_model.proofs.law.validity_law.Goals as goal

pub returns : goal.returns
returns c = validity_law

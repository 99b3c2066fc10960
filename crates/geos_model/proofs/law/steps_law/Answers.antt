use Rattle.geos_model.proofs.Steps.{steps_law}
use Rattle.geos_model.proofs.law.steps_law.Goals as goal

pub returns : goal.returns
returns c = steps_law

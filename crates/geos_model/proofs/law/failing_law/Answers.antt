use Rattle.geos_model.proofs.Failing.{failing_law}
use Rattle.geos_model.proofs.law.failing_law.Goals as goal

pub returns : goal.returns
returns c = failing_law

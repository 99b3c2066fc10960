use Rattle.geos_model.proofs.Numbers.{number_law}
use Rattle.geos_model.proofs.law.number_law.Goals as goal

pub returns : goal.returns
returns c = number_law

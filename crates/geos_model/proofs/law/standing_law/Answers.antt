use Rattle.geos_model.proofs.Standing.{standing_law}
use Rattle.geos_model.proofs.law.standing_law.Goals as goal

pub returns : goal.returns
returns c = standing_law

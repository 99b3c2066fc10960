use Rattle.geos_model.proofs.Naming.{names_law}
use Rattle.geos_model.proofs.law.names_law.Goals as goal

pub returns : goal.returns
returns c = names_law

use Rattle.geos_model.proofs.DepthLaw.{depth_law}
use Rattle.geos_model.proofs.law.depth_law.Goals as goal

pub returns : goal.returns
returns c = depth_law

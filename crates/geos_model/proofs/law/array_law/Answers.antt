use Rattle.geos_model.proofs.Arrays.{array_bytes-of, array_again}
use Rattle.geos_model.proofs.law.array_law.Goals as goal

pub returns : goal.returns
returns c = (array_bytes-of, array_again)

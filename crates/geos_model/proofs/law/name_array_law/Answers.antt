use Rattle.geos_model.proofs.NameArrays.{name_bytes-of, name_array_again}
use Rattle.geos_model.proofs.law.name_array_law.Goals as goal

pub returns : goal.returns
returns c = (name_bytes-of, name_array_again)

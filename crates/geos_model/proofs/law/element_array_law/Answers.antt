use Rattle.geos_model.proofs.ElementArrays.{element_bytes-of, element_array_again}
use Rattle.geos_model.proofs.law.element_array_law.Goals as goal

pub returns : goal.returns
returns c = (element_bytes-of, element_array_again)

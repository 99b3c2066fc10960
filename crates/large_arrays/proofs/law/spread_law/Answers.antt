use Rattle.geos_model.proofs.SpreadElements.{respread-elements}
use Rattle.geos_model.proofs.SpreadCount.{respread-few, respread-fewer}
use Rattle.geos_model.proofs.SpreadStays.{respread-spread}
use Rattle.large_arrays.proofs.law.spread_law.Goals as goal

pub returns : goal.returns
returns c = record { elements = respread-elements; spread = respread-spread; few = respread-few; fewer = respread-fewer }

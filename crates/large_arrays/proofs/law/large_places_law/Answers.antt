use Rattle.geos_model.proofs.LargeReaching.{created-at, inserted-at, set-at, deleted-at}
use Rattle.large_arrays.proofs.law.large_places_law.Goals as goal

pub returns : goal.returns
returns c = record { create = created-at; insert = inserted-at; set = set-at; delete = deleted-at }

use Rattle.geos_model.proofs.ValidEdits.{created-stays, inserted-stays, set-stays, deleted-stays}
use Rattle.large_arrays.proofs.law.large_stays_law.Goals as goal

pub returns : goal.returns
returns c = record { create = created-stays; insert = inserted-stays; set = set-stays; delete = deleted-stays }

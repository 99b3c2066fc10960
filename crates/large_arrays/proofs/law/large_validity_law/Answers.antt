use Rattle.geos_model.proofs.ValidEdits.{created-valid, inserted-valid, set-valid, deleted-valid}
use Rattle.large_arrays.proofs.law.large_validity_law.Goals as goal

pub returns : goal.returns
returns c = record { create = created-valid; insert = inserted-valid; set = set-valid; delete = deleted-valid }

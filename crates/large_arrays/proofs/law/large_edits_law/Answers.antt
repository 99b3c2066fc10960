use Rattle.geos_model.proofs.Creating.{array-created}
use Rattle.large_arrays.proofs.Inserting.{array-inserted, array-set, array-deleted}
use Rattle.large_arrays.proofs.law.large_edits_law.Goals as goal

pub returns : goal.returns
returns c = record { create = array-created; insert = array-inserted; set = array-set; delete = array-deleted }

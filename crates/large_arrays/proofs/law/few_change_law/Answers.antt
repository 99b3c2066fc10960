use Rattle.large_arrays.proofs.Inserting.{inserted-few, varying_set-few, deleted-few}
use Rattle.large_arrays.proofs.law.few_change_law.Goals as goal

pub returns : goal.returns
returns c = record { insert = inserted-few; set = varying_set-few; delete = deleted-few }

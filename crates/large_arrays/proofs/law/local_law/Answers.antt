use Rattle.large_arrays.proofs.LocalEdits.{window-same, written-same, inserted-same, set-same, deleted-same}
use Rattle.large_arrays.proofs.law.local_law.Goals as goal

pub returns : goal.returns
returns c = record { window = window-same; written = written-same; insert = inserted-same; set = set-same; delete = deleted-same }

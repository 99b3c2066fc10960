use Rattle.std.proofs.Common.{◌≡◌, ◌-◌, ◌^◌, min, take}
use Rattle.undo_log.specs.Logging.{total_weight}
use Rattle.undo_log.proofs.weighing.total_weight.Given as goal

abbrev pub invariant-loop-change : goal.invariant-loop-change
invariant-loop-change l = l.total ≡ min (total_weight (take l.change-index l.changes)) (2 ^ 64 - 1)

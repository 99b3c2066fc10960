use Rattle.std.proofs.Common.{◌≡◌, ◌-◌, ◌^◌, min, take}
use Rattle.std.specs.List.{sum_by}
use Rattle.undo_log.specs.Logging.{entry_weight}
use Rattle.undo_log.proofs.weighing.entries_weight.Given as goal

abbrev pub invariant-loop-entry : goal.invariant-loop-entry
invariant-loop-entry l = l.total ≡ min (sum_by (λ e. entry_weight e.entry) (take l.entry-index l.entries)) (2 ^ 64 - 1)

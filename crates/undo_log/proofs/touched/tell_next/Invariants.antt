use Rattle.std.proofs.Common.{◌≡◌, ◌++◌, length, reverse, take}
use Rattle.undo_log.specs.Telling.{all_places}
use Rattle.undo_log.proofs.touched.tell_next.Given as goal

abbrev pub invariant-loop-change : goal.invariant-loop-change
invariant-loop-change l = l.places.items ≡ l.initial.places.items ++ all_places l.direction (take (length l.yielded) (reverse l.changes))

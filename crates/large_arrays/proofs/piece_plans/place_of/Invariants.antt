use Rattle.std.proofs.Common.{◌≢◌, ◌<◌, ℕ, get_or}
use Rattle.large_arrays.specs.HandleLists.{old_handles}
use Rattle.large_arrays.proofs.piece_plans.place_of.Given as goal

abbrev pub invariant-loop-i : goal.invariant-loop-i
invariant-loop-i l = (k : ℕ) → k < l.i → get_or (old_handles l.gathered.olds.items) k 0 ≢ l.handle.0

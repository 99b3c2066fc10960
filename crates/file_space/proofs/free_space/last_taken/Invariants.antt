use Rattle.std.proofs.Common.{◌-◌, ◌≤◌, ◌<◌, ◌≡◌, ℕ, slice_index}
use Rattle.file_space.proofs.free_space.last_taken.Given as goal

abbrev pub invariant-loop-page : goal.invariant-loop-page
invariant-loop-page l = (l.page ≤ l.end) × ((k : ℕ) → l.page ≤ k → k < l.end → slice_index l.counts k ≡ 0)

abbrev pub decreases-loop-page : goal.decreases-loop-page
decreases-loop-page l = l.page - l.start

use Rattle.std.proofs.Common.{◌-◌, ◌+◌, ◌≤◌, ◌<◌, ℕ, length}
use Rattle.file_space.specs.Space.{IsRun}
use Rattle.file_space.proofs.free_space.first_run.Given as goal

abbrev pub invariant-loop-page : goal.invariant-loop-page
invariant-loop-page l = (l.from ≤ l.start) × ((l.start ≤ l.from + length l.counts) × ((q : ℕ) → l.from ≤ q → q < l.start → IsRun l.counts l.pages q → ⊥))

abbrev pub decreases-loop-page : goal.decreases-loop-page
decreases-loop-page l = length l.counts - l.start

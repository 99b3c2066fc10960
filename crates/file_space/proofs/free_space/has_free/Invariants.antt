use Rattle.std.proofs.Common.{ℕ, ◌<◌, ◌≤◌, get_or}
use Rattle.file_space.proofs.free_space.has_free.Given as goal

abbrev pub invariant-loop-page : goal.invariant-loop-page
invariant-loop-page l = (k : ℕ) → l.start ≤ k → k < l.page → 1 ≤ get_or l.counts k 0

use Rattle.std.proofs.Common.{◌≡◌, ℕ, ◌<◌, ◌≤◌, min, get_or}
use Rattle.file_space.specs.Space.{lowest}
use Rattle.file_space.proofs.free_space.lower.Given as goal

abbrev pub invariant-loop-n : goal.invariant-loop-n
invariant-loop-n l = record {
  lower : (k : ℕ) → k < l.n → get_or l.hints k 0 ≡ min (get_or l.fn.hints k 0) (lowest l.page k);
  same : (k : ℕ) → l.n ≤ k → get_or l.hints k 0 ≡ get_or l.fn.hints k 0;
}

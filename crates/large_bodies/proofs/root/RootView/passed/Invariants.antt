use Rattle.std.proofs.Common.{◌≡◌, ◌+◌, ◌*◌, ◌<◌, take, sum_by}
use Rattle.large_bodies.proofs.root.RootView.passed.Given as goal

abbrev pub invariant-loop-block : goal.invariant-loop-block
invariant-loop-block l = record {
  before : sum_by (λ c. c) (take (64 * l.block) l.self.counts) + l.left ≡ l.i;
  between : 0 < l.block → 0 < l.left;
}

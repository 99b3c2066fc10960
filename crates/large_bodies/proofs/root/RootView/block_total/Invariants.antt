use Rattle.std.proofs.Common.{◌≡◌, ◌≤◌, ◌+◌, ◌*◌, drop, sum_by}
use Rattle.large_bodies.proofs.root.RootView.block_total.Given as goal

abbrev pub invariant-loop-k : goal.invariant-loop-k
invariant-loop-k l = record {
  total : l.total + sum_by (λ c. c) (drop (l.first + l.k) l.self.counts) ≡ sum_by (λ c. c) (drop l.first l.self.counts);
  bound : l.total ≤ 65535 * l.k;
}

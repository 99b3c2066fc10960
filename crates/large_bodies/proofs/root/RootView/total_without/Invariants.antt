use Rattle.std.proofs.Common.{◌≡◌, ◌+◌, take, drop, sum_by}
use Rattle.large_bodies.proofs.root.RootView.total_without.Given as goal

abbrev pub invariant-loop-k : goal.invariant-loop-k
invariant-loop-k l = l.total ≡ sum_by (λ c. c) (take l.first l.self.counts) + sum_by (λ c. c) (drop l.k l.self.counts)

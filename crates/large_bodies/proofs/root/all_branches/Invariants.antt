use Rattle.std.proofs.Common.{◌≡◌, ℕ, ◌<◌, ◌≤◌, ◌+◌, ◌*◌, ◌%◌, ◌↔◌, map, sum_by}
use Rattle.std.specs.List.{range_with_len}
use Rattle.geos_model.specs.Words.{word_at}
use Rattle.large_bodies.specs.RootParts.{count_in, branch_link_place}
use Rattle.large_bodies.proofs.root.all_branches.Given as goal

abbrev pub invariant-loop-i : goal.invariant-loop-i
invariant-loop-i l = record {
  total : l.total ≡ sum_by (λ c. c) (map (λ i. word_at l.bytes (16 + 2 * i)) (range_with_len 0 l.i));
  bound : l.total ≤ 65535 * l.i;
  counts : (0 < l.least) ↔ ((k : ℕ) → k < l.i → 0 < count_in l.bytes k);
  zeros : (l.links % 65536 ≡ 0) ↔ ((k : ℕ) → k < l.i → word_at l.bytes (branch_link_place l.bytes k) ≡ 0);
}

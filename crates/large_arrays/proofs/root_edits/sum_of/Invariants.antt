use Rattle.std.proofs.Common.{◌≡◌, ◌*◌, ◌≤◌, take, sum_by}
use Rattle.large_arrays.proofs.root_edits.sum_of.Given as goal

abbrev pub invariant-loop-count : goal.invariant-loop-count
invariant-loop-count l = record {
  sum : l.sum ≡ sum_by (λ c. c) (take l.count-index l.counts);
  few : l.sum ≤ 65535 * l.count-index;
}

use Rattle.std.proofs.Common.{◌≤◌, ◌<◌}
use Rattle.large_arrays.specs.Spots.{AreBranchLinks}
use Rattle.large_arrays.proofs.spot.links_from.Given as goal

-- the branches up to this one; where there are none to go over, it is the first one
abbrev pub invariant-loop-k : goal.invariant-loop-k
invariant-loop-k l = record {
  links : AreBranchLinks l.root l.first l.k l.links.items;
  none : l.k-end < l.first → l.k ≤ l.first;
}

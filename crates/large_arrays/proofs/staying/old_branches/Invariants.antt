use Rattle.std.proofs.Common.{◌≡◌, ◌+◌, ◌++◌, drop}
use Rattle.large_arrays.specs.HandleLists.{old_pairs}
use Rattle.large_arrays.specs.Spots.{link_handles}
use Rattle.large_arrays.specs.WindowParts.{staying_pairs}
use Rattle.large_arrays.proofs.staying.old_branches.Given as goal

-- what there is, and then what comes of the branches that are left
abbrev pub invariant-loop-link : goal.invariant-loop-link
invariant-loop-link l = record {
  at : l.place ≡ l.first + l.link-index;
  pairs : old_pairs l.olds.items ++ staying_pairs (link_handles (drop l.link-index l.links)) l.place l.start l.end l.staying ≡ staying_pairs (link_handles l.links) l.first l.start l.end l.staying;
}

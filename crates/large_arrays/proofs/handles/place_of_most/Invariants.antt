use Rattle.std.proofs.Common.{◌≡◌, ◌<◌, get_or, drop, length}
use Rattle.large_arrays.specs.HandleLists.{old_pairs}
use Rattle.geos_model.specs.LargeWindow.{greatest}
use Rattle.large_arrays.proofs.handles.place_of_most.Given as goal

-- what is sought among the blocks that are left, from the best so far on
abbrev pub invariant-loop-i : goal.invariant-loop-i
invariant-loop-i l = record {
  low : l.most < length l.olds;
  is : greatest (get_or (old_pairs l.olds) 0 (0, 0)) (drop 1 (old_pairs l.olds)) ≡ greatest (get_or (old_pairs l.olds) l.most (0, 0)) (drop l.i (old_pairs l.olds));
}

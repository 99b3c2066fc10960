use Rattle.std.proofs.Common.{◌≡◌, ◌∷◌, ℕ, true, false, take, get_or}
use Rattle.geos_model.specs.ElementArray.{all_distinct}
use Rattle.large_arrays.specs.Spots.{link_handles}
use Rattle.large_arrays.proofs.Marking.{is_met}
use Rattle.large_arrays.proofs.distinct.are_many_distinct.Given as goal

-- the root and the branches so far were met, and are different
abbrev pub invariant-loop-link : goal.invariant-loop-link
invariant-loop-link l = record {
  met : (k : ℕ) → get_or l.met k false ≡ is_met k (l.fn.root.0 ∷ take l.link-index (link_handles l.links));
  once : all_distinct (l.fn.root.0 ∷ take l.link-index (link_handles l.links)) ≡ true;
}

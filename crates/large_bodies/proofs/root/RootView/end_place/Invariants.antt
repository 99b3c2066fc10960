use Rattle.std.proofs.Common.{◌≡◌, drop}
use Rattle.geos_model.specs.Spread.{end_place}
use Rattle.large_bodies.proofs.PlaceSteps.{shifted}
use Rattle.large_bodies.proofs.root.RootView.end_place.Given as goal

-- the place is that in the branches that are left
abbrev pub invariant-loop-k : goal.invariant-loop-k
invariant-loop-k l = end_place l.self.counts l.i ≡ shifted l.k (end_place (drop l.k l.self.counts) l.left)

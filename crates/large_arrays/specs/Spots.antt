-- What is copied out of a root.
use Rattle.std.specs.Prelude.{◌≡◌, ◌+◌, ◌-◌, ℕ, List, length, map, take, drop}
use Rattle.geos_model.specs.LargeLayout.{Root, total_count}
use Rattle.geos_model.specs.Spread.{first_place, end_place}
use Rattle.large_arrays.specs.declared.spot.BranchLink.{BranchLink}
use Rattle.large_arrays.specs.declared.spot.Spot.{Spot}

-- how many elements these branches have, and the handles of their blocks
abbrev pub counts_of : List BranchLink → List ℕ
counts_of links = map (λ l. l.count) links

abbrev pub link_handles : List BranchLink → List ℕ
link_handles links = map (λ l. l.handle.0) links

-- They are the branches of the root from one on, up to another.
pub record AreBranchLinks (r : Root) (first behind : ℕ) (links : List BranchLink) : Type 0 where
  pub counts : counts_of links ≡ take (behind - first) (drop first r.counts)
  pub handles : link_handles links ≡ take (behind - first) (drop first r.branches)

-- The root's numbers, where the elements from one to another are, and the branches that have them, with the neighbours
-- of these.
pub record IsSpot (r : Root) (i j : ℕ) (s : Spot) : Type 0 where
  pub size : s.size ≡ r.size
  pub branches : s.branches ≡ length r.branches
  pub total : s.total ≡ total_count r
  pub start : s.start ≡ first_place r.counts i j
  pub end : s.end ≡ end_place r.counts j
  pub first : s.first ≡ s.start.0 - 1
  pub links : AreBranchLinks r s.first (s.end.0 + 2) s.links.items

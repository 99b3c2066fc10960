-- What an edit makes of the branches that have its elements.
use Rattle.std.specs.Prelude.{◌≡◌, ◌≤◌, ◌-◌, ℕ, suc, List, [], Bool, true, take, drop, get_or, is_some}
use Rattle.std.specs.List.{list_all, range_with_len}
use Rattle.geos_model.specs.Document.{Document}
use Rattle.geos_model.specs.Pieces.{BranchPiece, piece_weight}
use Rattle.geos_model.specs.LargeLayout.{Root, is_root, total_count}
use Rattle.geos_model.specs.Spread.{first_place, end_place, middle}
use Rattle.geos_model.specs.LargeBlocks.{branch_at, pieces_at}
use Rattle.large_arrays.specs.Spots.{IsSpot}
use Rattle.large_arrays.specs.declared.middle.Middle.{Middle}
use Rattle.large_arrays.specs.declared.spot.BranchLink.{BranchLink}
use Rattle.large_arrays.specs.declared.spot.Spot.{Spot}

-- It is that of elements which a root has.
pub record IsRunSpot (s : Spot) : Type 0 where
  pub r : Root
  pub i : ℕ
  pub j : ℕ
  pub root : is_root r ≡ true
  pub spot : IsSpot r i j s
  pub order : i ≤ j
  pub within : j ≤ total_count r

-- how many branches have them, and which
abbrev pub run_length : Spot → ℕ
run_length s = suc s.end.0 - s.start.0

abbrev pub run_branches : Spot → List ℕ
run_branches s = range_with_len s.start.0 (run_length s)

abbrev pub run_links : Spot → List BranchLink
run_links s = take (run_length s) (drop (s.start.0 - s.first) s.links.items)

-- their blocks have what the root says
abbrev pub are_there : Document → Root → List ℕ → Bool
are_there d r ks = list_all (λ k. is_some (branch_at d r k)) ks

-- What is left of them with the new elements, and how much of that was in the first one and in the last one.
pub record IsMiddle (d : Document) (r : Root) (i j : ℕ) (new : BranchPiece) (m : Middle) : Type 0 where
  pub pieces : m.pieces ≡ record { size = r.size; pieces = middle r.size (pieces_at d r) i j new }
  pub head : let from = first_place r.counts i j in
      m.head ≡ piece_weight r.size (take from.1 (get_or (pieces_at d r) from.0 []))
  pub tail : let to = end_place r.counts j in
      m.tail ≡ piece_weight r.size (drop to.1 (get_or (pieces_at d r) to.0 []))

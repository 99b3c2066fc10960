-- Edits that stay within one branch, of elements of one size. The root's counts tell which they are.
use Rattle.std.specs.Prelude.{◌≡◌, ◌≢◌, ◌⊎◌, ◌<◌, ◌≤◌, ◌+◌, ◌-◌, ◌*◌, ◌++◌, ◌∷◌, ℕ, suc, List, [], length, take, drop, get_or}
use Rattle.std.specs.List.{splice}
use Rattle.geos_model.specs.Document.{Document}
use Rattle.geos_model.specs.Pieces.{BranchPiece, branch_room, join_room}
use Rattle.geos_model.specs.LargeBlocks.{root_at, pieces_at}
use Rattle.geos_model.specs.LargeLayout.{Root, most_branches, root_bytes, branch_bytes}
use Rattle.geos_model.specs.Spread.{first_place, end_place}

-- The branch in which the elements from one to another begin; and how many elements it has, where so many others come
-- in the place of these.

abbrev pub place_within : Root → ℕ → ℕ → ℕ
place_within r i j = (first_place r.counts i j).0

abbrev pub count_within : Root → ℕ → ℕ → ℕ → ℕ
count_within r i j new =
    (first_place r.counts i j).1 + new + (get_or r.counts (place_within r i j) 0 - (end_place r.counts j).1)

-- They end in that branch too, it has room for what it gets, which isn't nothing, and neither neighbour is joined to
-- it.
pub record StaysWithin (r : Root) (i j new : ℕ) : Type 0 where
  pub sized : r.size ≢ 0
  pub one : (end_place r.counts j).0 ≡ place_within r i j
  pub some : 0 < count_within r i j new
  pub fits : count_within r i j new * r.size ≤ branch_room
  pub left : (place_within r i j ≡ 0)
      ⊎ (join_room < (get_or r.counts (place_within r i j - 1) 0 + count_within r i j new) * r.size)
  pub right : (length r.counts ≤ suc (place_within r i j))
      ⊎ (join_room < (count_within r i j new + get_or r.counts (suc (place_within r i j)) 0) * r.size)
  pub few : length r.branches ≤ most_branches

-- the root and the elements of the branch after such an edit

abbrev pub root_within : Root → ℕ → ℕ → ℕ → Root
root_within r i j new = record {
  size = r.size;
  counts = splice r.counts (place_within r i j) (suc (place_within r i j)) (count_within r i j new ∷ []);
  branches = r.branches;
}

abbrev pub piece_within : Document → ℕ → ℕ → ℕ → BranchPiece → BranchPiece
piece_within d b i j new =
    let r = root_at d b in
    let piece = get_or (pieces_at d r) (place_within r i j) [] in
    take (first_place r.counts i j).1 piece ++ new ++ drop (end_place r.counts j).1 piece

abbrev pub handle_within : Document → ℕ → ℕ → ℕ → ℕ
handle_within d b i j = get_or (root_at d b).branches (place_within (root_at d b) i j) 0

-- the bodies that they get
abbrev pub bodies_within : Document → ℕ → ℕ → ℕ → BranchPiece → List (ℕ × List ℕ)
bodies_within d b i j new =
    let r = root_at d b in
    (b, root_bytes (root_within r i j (length new)))
    ∷ (handle_within d b i j, branch_bytes r.size (piece_within d b i j new)) ∷ []

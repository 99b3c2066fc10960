-- The branches that an edit looks at: those that have its elements, and neighbours of these.
use Rattle.std.specs.Prelude.{◌≡◌, ◌⊎◌, ◌<◌, ◌≤◌, ◌+◌, ◌-◌, ◌*◌, ◌==◌, ◌||◌, ℕ, List, [], Bool, true, false, Vec, length, map, take, drop, get_or, min, if◌then◌else◌, Option, None, Some}
use Rattle.std.specs.Global.{Global}
use Rattle.std.specs.List.{All}
use Rattle.geos_model.specs.Document.{Document}
use Rattle.geos_model.specs.Heap.{capacity}
use Rattle.geos_model.specs.Pieces.{BranchPiece, piece_weight, none_empty}
use Rattle.geos_model.specs.LargeLayout.{branch_of}
use Rattle.geos_model.specs.Spread.{first_place, end_place, left_piece, right_piece}
use Rattle.geos_model.specs.LargeBlocks.{root_at, pieces_at}
use Rattle.geos_model.specs.LargeWindow.{looks_left, looks_right}
use Rattle.large_arrays.specs.Bodies.{AreBodies, bytes_of_bodies}
use Rattle.large_arrays.specs.Middle.{IsMiddle, are_there, run_branches}
use Rattle.large_arrays.specs.Spots.{IsSpot, counts_of, link_handles}
use Rattle.large_arrays.specs.declared.joining.LookedBodies.{LookedBodies}
use Rattle.large_arrays.specs.declared.joining.Neighbours.{Neighbours}
use Rattle.large_arrays.specs.declared.middle.Middle.{Middle}
use Rattle.large_bodies.specs.declared.neighbours.Sides.{Sides}
use Rattle.large_arrays.specs.declared.spot.BranchLink.{BranchLink}
use Rattle.large_arrays.specs.declared.spot.Spot.{Spot}

-- The branches of a spot that have elements are among its links, with the neighbours that there are.
pub record HasLinks (s : Spot) : Type 0 where
  pub small : s.size < 65536
  pub first : s.first ≡ s.start.0 - 1
  pub order : s.start.0 ≤ s.end.0
  pub last : s.end.0 < s.branches
  pub links : s.first + length s.links.items ≡ min (s.end.0 + 2) s.branches

-- Of these pieces the elements from one up to another are there.
pub record IsPieceSpot (s : Spot) (ps : List BranchPiece) (i j : ℕ) : Type 0 where
  pub some : 0 < length ps
  pub full : (length ps == 1 || none_empty ps) ≡ true
  pub order : i ≤ j
  pub branches : s.branches ≡ length ps
  pub start : s.start ≡ first_place (map length ps) i j
  pub end : s.end ≡ end_place (map length ps) j
  pub counts : counts_of s.links.items ≡ take (s.end.0 + 2 - s.first) (drop s.first (map length ps))
  pub even : (s.size == 0) ≡ false → (k : ℕ) → piece_weight s.size (get_or ps k []) ≡ length (get_or ps k []) * s.size

-- There is a neighbour on each of these sides.
pub record AreThere (s : Spot) (sides : Sides) : Type 0 where
  pub left : sides.left ≡ true → 0 < s.start.0
  pub right : sides.right ≡ true → s.end.0 + 1 < s.branches

-- Those of sides are among others.
pub record AreAmong (some all : Sides) : Type 0 where
  pub left : some.left ≡ true → all.left ≡ true
  pub right : some.right ≡ true → all.right ≡ true

-- a run with its neighbours on these sides: its first branch, and the one behind the last
abbrev pub first_with : Spot → Sides → ℕ
first_with s sides = s.start.0 - (if sides.left then 1 else 0)

abbrev pub behind_with : Spot → Sides → ℕ
behind_with s sides = s.end.0 + (if sides.right then 2 else 1)

-- the links of branches, from one up to another
abbrev pub links_between : Spot → ℕ → ℕ → List BranchLink
links_between s from to = take (to - from) (drop (from - s.first) s.links.items)

abbrev pub left_links : Spot → Sides → List BranchLink
left_links s sides = links_between s (first_with s sides) s.start.0

abbrev pub right_links : Spot → Sides → List BranchLink
right_links s sides = links_between s (s.end.0 + 1) (behind_with s sides)

-- how many elements a branch has, and its block
abbrev pub count_at : Spot → ℕ → ℕ
count_at s k = get_or (counts_of s.links.items) (k - s.first) 0

abbrev pub handle_at : Spot → ℕ → ℕ
handle_at s k = get_or (link_handles s.links.items) (k - s.first) 0

-- Each of these branches has a body, which isn't too long to be one.
pub record HaveBodies (links : List BranchLink) (bodies : List (Vec ℕ Global)) : Type 0 where
  pub many : length bodies ≡ length links
  pub short : All (λ body. length body.items ≤ capacity) bodies

pub record HaveAllBodies (s : Spot) (looked : Sides) (bodies : LookedBodies) : Type 0 where
  pub left : HaveBodies (left_links s looked) bodies.left.items
  pub run : HaveBodies (links_between s s.start.0 (s.end.0 + 1)) bodies.run.items
  pub right : HaveBodies (right_links s looked) bodies.right.items

-- the elements of a neighbour by its body, none where it isn't looked at
abbrev pub neighbour_read : Spot → Bool → ℕ → List (Vec ℕ Global) → Option BranchPiece
neighbour_read s here k bodies =
    if here then branch_of s.size (count_at s k) (get_or (bytes_of_bodies bodies) 0 []) else Some []

-- the left one, and the right one
abbrev pub left_read : Spot → Sides → LookedBodies → Option BranchPiece
left_read s looked bodies = neighbour_read s looked.left (s.start.0 - 1) bodies.left.items

abbrev pub right_read : Spot → Sides → LookedBodies → Option BranchPiece
right_read s looked bodies = neighbour_read s looked.right (s.end.0 + 1) bodies.right.items

pub record ReadsNeighbours (s : Spot) (looked : Sides) (bodies : LookedBodies) (neighbours : Neighbours) : Type 0 where
  pub left : left_read s looked bodies ≡ Some neighbours.left.elements
  pub right : right_read s looked bodies ≡ Some neighbours.right.elements
  pub left_size : neighbours.left.size ≡ s.size
  pub right_size : neighbours.right.size ≡ s.size

-- one of them has other elements
abbrev pub MissesNeighbour : Spot → Sides → LookedBodies → Type 0
MissesNeighbour s looked bodies = (left_read s looked bodies ≡ None) ⊎ (right_read s looked bodies ≡ None)

-- Those are looked at that an edit looks at, and they are the pieces beside the run.
pub record AreNeighbours (s : Spot) (ps : List BranchPiece) (i j : ℕ) (new : BranchPiece) (looked : Sides) (neighbours : Neighbours) : Type 0 where
  pub left : looked.left ≡ looks_left s.size ps i j new
  pub right : looked.right ≡ looks_right s.size ps i j new
  pub left_is : looked.left ≡ true → neighbours.left.elements ≡ left_piece ps i j
  pub right_is : looked.right ≡ true → neighbours.right.elements ≡ right_piece ps j

-- What an edit looks at, copied out of a document.
pub record AreLooked (d : Document) (b i j : ℕ) (new : BranchPiece) (s : Spot) (m : Middle) (looked : Sides) (bodies : LookedBodies) : Type 0 where
  pub spot : IsSpot (root_at d b) i j s
  pub order : i ≤ j
  pub there : are_there d (root_at d b) (run_branches s) ≡ true
  pub middle : IsMiddle d (root_at d b) i j new m
  pub left : looked.left ≡ looks_left s.size (pieces_at d (root_at d b)) i j new
  pub right : looked.right ≡ looks_right s.size (pieces_at d (root_at d b)) i j new
  pub left_bodies : AreBodies d (link_handles (left_links s looked)) (bytes_of_bodies bodies.left.items)
  pub run_bodies : AreBodies d (link_handles (links_between s s.start.0 (s.end.0 + 1))) (bytes_of_bodies bodies.run.items)
  pub right_bodies : AreBodies d (link_handles (right_links s looked)) (bytes_of_bodies bodies.right.items)

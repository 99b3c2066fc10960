-- Which neighbours of a run an edit looks at and joins, by what pieces weigh.
use Rattle.std.specs.Prelude.{◌+◌, ◌-◌, ℕ, List, [], Bool, false, ◌==◌, ◌&&◌, nat_le, length, get_or, if◌then◌else◌, Option, Some, None, unwrap_or}
use Rattle.geos_model.specs.Pieces.{BranchPiece, piece_weight, join_room}
use Rattle.large_bodies.specs.declared.neighbours.MiddleEnds.{MiddleEnds}

-- how many pieces come in a run's place, and what the first of them and the last weigh
abbrev pub ends_of : ℕ → List BranchPiece → MiddleEnds
ends_of size pieces = record {
  pieces = length pieces;
  first = piece_weight size (get_or pieces 0 []);
  last = piece_weight size (get_or pieces (length pieces - 1) []);
}

-- what a piece weighs that is known
abbrev pub if_known : Bool → ℕ → Option ℕ
if_known known w = if known then Some w else None

-- Where sizes vary a neighbour is looked at unless what is beside it is so large already that the two can't be joined.
abbrev pub looks_left_by : Bool → Bool → MiddleEnds → Bool
looks_left_by left right middle =
    left && (if middle.pieces == 0 then right else nat_le middle.first join_room)

abbrev pub looks_right_by : Bool → Bool → MiddleEnds → Bool
looks_right_by left right middle =
    right && (if middle.pieces == 0 then left else nat_le middle.last join_room)

-- two neighbours are joined, if there are both
abbrev pub are_joined_by : Option ℕ → Option ℕ → Bool
are_joined_by (Some x) (Some y) = nat_le (x + y) join_room
are_joined_by (Some x) None = false
are_joined_by None y = false

abbrev pub left_joins_by : Option ℕ → Option ℕ → MiddleEnds → Bool
left_joins_by left right middle = are_joined_by left (if middle.pieces == 0 then right else Some middle.first)

-- what the last piece weighs once the left neighbour is joined
abbrev pub last_weight : Option ℕ → Option ℕ → MiddleEnds → ℕ
last_weight left right middle =
    if (middle.pieces == 1) && left_joins_by left right middle then unwrap_or left 0 + middle.last else middle.last

abbrev pub right_joins_by : Option ℕ → Option ℕ → MiddleEnds → Bool
right_joins_by left right middle =
    are_joined_by (if middle.pieces == 0 then left else Some (last_weight left right middle)) right

-- The pieces of a window, as they are put together of the middle and of the neighbours that are joined to it.
use Rattle.std.proofs.Common.{◌≡◌, ◌<◌, ◌≤◌, ◌+◌, ◌&&◌, ◌==◌, ℕ, true, List, length, map}
use Rattle.geos_model.specs.Pieces.{BranchPiece}
use Rattle.geos_model.specs.Spread.{first_place, end_place, middle, left_piece, right_piece}
use Rattle.geos_model.specs.LargeWindow.{left_joins, right_joins, window_pieces}
use Rattle.geos_model.specs.JoinedPieces.{window_of}
use Rattle.geos_model.proofs.SpreadSides.{is_full}
use Rattle.geos_model.proofs.Windows.{window-is}

pub window-pieces-are : (size : ℕ) (ps : List BranchPiece) (i j : ℕ) (new : BranchPiece) → 0 < length ps → is_full ps ≡ true → i ≤ j
    → window_pieces size ps i j new
    ≡ window_of size (left_joins size ps i j new) (left_piece ps i j) (middle size ps i j new) (right_joins size ps i j new) (right_piece ps j)
    (((first_place (map length ps) i j).0 == 0) && ((end_place (map length ps) j).0 + 1 == length ps))
window-pieces-are size ps i j new some full order = (window-is size ps i j new some full order).made

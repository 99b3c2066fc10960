-- Pieces that are put together with their neighbours.
use Rattle.std.specs.Prelude.{ℕ, List, Bool, if◌then◌else◌}
use Rattle.geos_model.specs.Pieces.{BranchPiece, join_room}
use Rattle.geos_model.specs.Spread.{with_first, with_last, if_none}

-- What comes in the place of a window: the middle, each neighbour where it is joined, and an empty piece where there is
-- nothing else and no neighbour.
abbrev pub window_of : ℕ → Bool → BranchPiece → List BranchPiece → Bool → BranchPiece → Bool → List BranchPiece
window_of size left_joined l mid right_joined r alone =
    let begun = if left_joined then with_first size l mid else mid in
    let all = if right_joined then with_last size join_room begun r else begun in
    if alone then if_none all else all

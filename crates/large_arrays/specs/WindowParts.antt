-- A window put together of what is known of it.
use Rattle.std.specs.Prelude.{◌+◌, ◌-◌, ◌==◌, ◌∷◌, ℕ, suc, List, [], Bool, nat_le, nat_lt, length, map, if◌then◌else◌}
use Rattle.geos_model.specs.Pieces.{BranchPiece}
use Rattle.geos_model.specs.LargeLayout.{Root}
use Rattle.geos_model.specs.LargeWindow.{Window, window_handles}
use Rattle.large_bodies.specs.RootEdits.{run_between}
use Rattle.large_arrays.specs.declared.staying.StayingBytes.{StayingBytes}

-- what stays of the branch at a place, where a run begins in one and ends in another: all of a neighbour, of these two
-- what is left
abbrev pub staying_at : ℕ → ℕ → StayingBytes → ℕ → ℕ
staying_at start end staying k =
    if nat_lt k start then staying.left
    else if nat_lt end k then staying.right
    else (if k == start then staying.head else 0) + (if k == end then staying.tail else 0)

-- the branches from a place on, with what stays of each
abbrev pub staying_pairs : List ℕ → ℕ → ℕ → ℕ → StayingBytes → List (ℕ × ℕ)
staying_pairs [] k start end staying = []
staying_pairs (h ∷ hs) k start end staying =
    (h, staying_at start end staying k) ∷ staying_pairs hs (suc k) start end staying

-- Of a root, by where the run begins and ends, which neighbours are joined, what stays, the pieces that come, and of
-- how many blocks which are new.
abbrev pub window_from : Root → ℕ × ℕ → ℕ × ℕ → Bool → Bool → StayingBytes → List BranchPiece → (ℕ → List ℕ) → Window
window_from r start end left_joined right_joined staying pieces new =
    let first = start.0 - (if left_joined then 1 else 0) in
    let behind = end.0 + (if right_joined then 2 else 1) in
    let olds = staying_pairs (run_between r.branches first behind) first start.0 end.0 staying in
    record {
      first = first;
      behind = behind;
      olds = map (λ p. p.0) olds;
      news = window_handles olds (nat_le staying.tail staying.head) (length pieces) (new (length pieces - (behind - first)));
      pieces = pieces;
    }

-- What an edit takes from the branches that it looks at.
use Rattle.std.specs.Prelude.{◌≡◌, ◌-◌, ◌≤◌, ◌∷◌, ℕ, List, [], Bool, true, nat_le, length, take, drop, map, get_or}
use Rattle.std.specs.List.{All, AllZip, range_with_len}
use Rattle.geos_model.specs.Heap.{capacity}
use Rattle.geos_model.specs.ElementArray.{all_distinct}
use Rattle.geos_model.specs.Document.{Document, is_live, is_raw, raw_bytes_of}
use Rattle.geos_model.specs.Pieces.{BranchPiece, piece_weight}
use Rattle.geos_model.specs.Spread.{first_place, end_place}
use Rattle.geos_model.specs.LargeBlocks.{root_at, pieces_at}
use Rattle.geos_model.specs.LargeWindow.{looked_at, are_branches, window_first, window_end, window_pieces, staying}
use Rattle.large_arrays.specs.HandleLists.{old_handles, old_pairs}
use Rattle.large_arrays.specs.declared.gathered.Gathered.{Gathered}

-- the raw block under a handle has these bytes
abbrev pub HasOldBody : Document → ℕ → List ℕ → Type 0
HasOldBody d h bytes = (is_raw d h ≡ true) × (raw_bytes_of d h ≡ bytes)

-- the blocks of a window, with what stays of each
abbrev pub window_olds : Document → ℕ → ℕ → ℕ → BranchPiece → List (ℕ × ℕ)
window_olds d b i j new =
    let r = root_at d b in
    let pieces = pieces_at d r in
    let first = window_first r.size pieces i j new in
    map (λ k. (get_or r.branches k 0, staying r.size pieces i j k))
    (range_with_len first (window_end r.size pieces i j new - first))

-- whether as much stays before a run in its first piece as behind it in its last one, or more
abbrev pub head_stays : Document → ℕ → ℕ → ℕ → Bool
head_stays d b i j =
    let r = root_at d b in
    let pieces = pieces_at d r in
    let from = first_place r.counts i j in
    let to = end_place r.counts j in
    nat_le (piece_weight r.size (drop to.1 (get_or pieces to.0 []))) (piece_weight r.size (take from.1 (get_or pieces from.0 [])))

-- It is what an edit of a document takes that puts elements in the place of those from one to another.
pub record IsGatheredWindow (d : Document) (b i j : ℕ) (new : BranchPiece) (g : Gathered) : Type 0 where
  pub looked : are_branches d b (root_at d b) (looked_at (root_at d b).size (pieces_at d (root_at d b)) i j new) ≡ true
  pub first : g.first ≡ window_first (root_at d b).size (pieces_at d (root_at d b)) i j new
  pub olds : old_pairs g.olds.items ≡ window_olds d b i j new
  pub bodies : AllZip (λ old body. HasOldBody d old.handle.0 body.items) g.olds.items g.bodies.items
  pub pieces : g.pieces ≡ record {
    size = (root_at d b).size;
    pieces = window_pieces (root_at d b).size (pieces_at d (root_at d b)) i j new;
  }
  pub head : g.head ≡ head_stays d b i j

-- What holds of it over any store: there are such blocks, each once, none of them the root, and a body for each.
pub record AreGathered (d : Document) (b : ℕ) (g : Gathered) : Type 0 where
  pub live : All (λ old. is_live d old.handle.0 ≡ true) g.olds.items
  pub once : all_distinct (b ∷ old_handles g.olds.items) ≡ true
  pub bodies : length g.bodies.items ≡ length g.olds.items
  pub short : All (λ body. length body.items ≤ capacity) g.bodies.items

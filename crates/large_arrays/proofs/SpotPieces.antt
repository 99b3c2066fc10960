-- What a spot tells of the pieces of its root.
use Rattle.std.proofs.Common.{◌≡◌, ℕ, ◌+◌, ◌-◌, ◌*◌, ◌<◌, ◌≤◌, ◌==◌, ◌||◌, true, false, List, [], length, map, take, drop, get_or, Option, Some, None, is_some, unwrap_or, refl, sym, ap, subst, ◌∙◌, arith}
use Rattle.std.proofs.Math.ListN.{get_or-map}
use Rattle.geos_model.specs.Document.{Document, raw_bytes_of}
use Rattle.geos_model.specs.Pieces.{BranchPiece, piece_weight, none_empty}
use Rattle.geos_model.specs.LargeLayout.{Root, root_of}
use Rattle.geos_model.specs.Spread.{first_place, end_place}
use Rattle.geos_model.specs.LargeBlocks.{root_at, pieces_at}
use Rattle.large_arrays.specs.LookedBranches.{HasLinks, IsPieceSpot, count_at, handle_at}
use Rattle.large_arrays.specs.Spots.{IsSpot}
use Rattle.large_arrays.specs.declared.spot.Spot.{Spot}
use Rattle.geos_model.proofs.Layouts.{root-facts, root-counts, pieces-many}
use Rattle.geos_model.proofs.PieceLists.{root_full}
use Rattle.large_arrays.proofs.RootPieces.{found-weight}
use Rattle.large_arrays.proofs.SpotLinks.{part-at}

abbrev no_root : Root
no_root = record { size = 0; counts = []; branches = [] }

module _ (d : Document) (b i j : ℕ) (s : Spot) (run : HasLinks s) (is : IsSpot (root_at d b) i j s) where
  abbrev r : Root
  r = root_at d b

  abbrev ps : List BranchPiece
  ps = pieces_at d r

  -- there is a root
  pub spot-root : root_of (raw_bytes_of d b) ≡ Some r
  spot-root = by_root (root_of (raw_bytes_of d b)) refl
    where
      by_root : (o : Option Root) → root_of (raw_bytes_of d b) ≡ o → root_of (raw_bytes_of d b) ≡ Some r
      by_root None none =
          let empty : r ≡ no_root = ap (λ (o : Option Root). unwrap_or o no_root) none in
          let count : s.branches ≡ 0 = is.branches ∙ ap (λ (x : Root). length x.branches) empty in
          let last = run.last in
          absurd (omega arith)
      by_root (Some x) some = some ∙ ap (λ (x : Root). Some x) (sym (ap (λ (o : Option Root). unwrap_or o no_root) some))

  pub spot-some : is_some (root_of (raw_bytes_of d b)) ≡ true
  spot-some = ap (λ (o : Option Root). is_some o) spot-root

  pub spot-counts : map length ps ≡ r.counts
  spot-counts = sym (root-counts d b spot-some)

  pub spot-many : length ps ≡ length r.branches
  spot-many = pieces-many d b spot-some

  spot_full : (0 < length ps) × ((length ps == 1 || none_empty ps) ≡ true)
  spot_full = root_full r ps (root-facts d b spot-some).0 (root-counts d b spot-some)

  piece_long : (k : ℕ) → get_or r.counts k 0 ≡ length (get_or ps k [])
  piece_long k = ap (λ (cs : List ℕ). get_or cs k 0) (sym spot-counts) ∙ get_or-map (λ (p : BranchPiece). length p) ps k []

  even_so : (r.size == 0) ≡ false → (k : ℕ) → piece_weight r.size (get_or ps k []) ≡ length (get_or ps k []) * r.size
  even_so one k = found-weight d b spot-some k one ∙ ap (λ (n : ℕ). n * r.size) (piece_long k)

  pub piece-spot : i ≤ j → IsPieceSpot s ps i j
  piece-spot order = record {
    some = spot_full.0;
    full = spot_full.1;
    order = order;
    branches = is.branches ∙ sym spot-many;
    start = is.start ∙ ap (λ (cs : List ℕ). first_place cs i j) (sym spot-counts);
    end = is.end ∙ ap (λ (cs : List ℕ). end_place cs j) (sym spot-counts);
    counts = is.links.counts ∙ ap (λ (cs : List ℕ). take (s.end.0 + 2 - s.first) (drop s.first cs)) (sym spot-counts);
    even = subst (λ (n : ℕ). (n == 0) ≡ false → (k : ℕ) → piece_weight n (get_or ps k []) ≡ length (get_or ps k []) * n) (sym is.size) even_so;
  }

  -- what the links tell
  pub spot-handle : (k : ℕ) → s.first ≤ k → k < s.end.0 + 2 → handle_at s k ≡ get_or r.branches k 0
  spot-handle k low high =
      ap (λ (hs : List ℕ). get_or hs (k - s.first) 0) is.links.handles ∙ part-at r.branches s.first (s.end.0 + 2 - s.first) k low (omega arith)

  pub spot-count : (k : ℕ) → s.first ≤ k → k < s.end.0 + 2 → count_at s k ≡ get_or r.counts k 0
  spot-count k low high =
      ap (λ (cs : List ℕ). get_or cs (k - s.first) 0) is.links.counts ∙ part-at r.counts s.first (s.end.0 + 2 - s.first) k low (omega arith)

-- the same of pieces
pub piece-count : (s : Spot) (ps : List BranchPiece) (i j : ℕ) → IsPieceSpot s ps i j → (k : ℕ) → s.first ≤ k → k < s.end.0 + 2 → count_at s k ≡ length (get_or ps k [])
piece-count s ps i j is k low high =
    ap (λ (cs : List ℕ). get_or cs (k - s.first) 0) is.counts ∙ part-at (map length ps) s.first (s.end.0 + 2 - s.first) k low (omega arith)
    ∙ get_or-map (λ (p : BranchPiece). length p) ps k []

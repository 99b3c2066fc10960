-- Large arrays in a document.
use Rattle.std.specs.Prelude.{◌≡◌, ◌<◌, ◌∷◌, ℕ, List, true, length, map, get_or, replicate, if◌then◌else◌, Option, Some, None, is_some, unwrap_or}
use Rattle.std.specs.List.{range_with_len}
use Rattle.geos_model.specs.Document.{Document, is_raw, raw_bytes_of}
use Rattle.geos_model.specs.Chain.{chain}
use Rattle.geos_model.specs.Pieces.{BranchPiece, elements_in_pieces}
use Rattle.geos_model.specs.LargeLayout.{Root, root_in, root_of, branch_of}

abbrev pub root_at : Document → ℕ → Root
root_at d b = root_in (raw_bytes_of d b)

-- the elements of the branch at a place of a root, if its block has them
abbrev pub branch_at : Document → Root → ℕ → Option BranchPiece
branch_at d r k =
    let h = get_or r.branches k 0 in
    if is_raw d h then branch_of r.size (get_or r.counts k 0) (raw_bytes_of d h) else None

-- those of all branches; of one that hasn't them as many as the root says, of its size
abbrev pub pieces_at : Document → Root → List BranchPiece
pieces_at d r =
    map (λ k. unwrap_or (branch_at d r k) (replicate (get_or r.counts k 0) (replicate r.size 0)))
    (range_with_len 0 (length r.branches))

-- the blocks of the branches at these places
abbrev pub handles_at : Root → List ℕ → List ℕ
handles_at r ks = map (λ k. get_or r.branches k 0) ks

-- The blocks from a root on are this array: a chain, the root's bytes, and what each branch has.
pub record IsLargeArray (d : Document) (b size : ℕ) (elements : BranchPiece) : Type 0 where
  pub root : is_some (root_of (raw_bytes_of d b)) ≡ true
  pub sized : (root_at d b).size ≡ size
  pub linked : chain d b ≡ Some (b ∷ (root_at d b).branches)
  pub branch : (k : ℕ) → k < length (root_at d b).branches → is_some (branch_at d (root_at d b) k) ≡ true
  pub same : elements_in_pieces (pieces_at d (root_at d b)) ≡ elements

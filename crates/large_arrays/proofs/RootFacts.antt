-- What holds of a root that a document has, and of the pieces of its branches.
use Rattle.std.proofs.Common.{◌≡◌, ℕ, ◌<◌, [], length, map, get_or, replicate, Option, Some, None, unwrap_or, refl, sym, ap, ◌∙◌, arith, zero-add}
use Rattle.std.proofs.lemmas.List.{length-map, length-replicate, get_or-map, ext_get_or}
use Rattle.std.proofs.lemmas.List.FromFn.{length-map-range_with_len, get_or-map-range_with_len}
use Rattle.geos_model.specs.Document.{Document, raw_bytes_of}
use Rattle.geos_model.specs.Pieces.{BranchPiece, elements_in_pieces}
use Rattle.geos_model.specs.LargeLayout.{Root, root_of, root_read, total_count}
use Rattle.geos_model.specs.LargeBlocks.{root_at, pieces_at}
use Rattle.large_arrays.specs.Loading.{branch_under}
use Rattle.geos_model.proofs.RootBytes.{root_of-read}
use Rattle.large_bodies.proofs.RootLemmas.{length-counts_read, length-branches_read}
use Rattle.geos_model.proofs.BranchBytes.{branch_of-is}
use Rattle.geos_model.proofs.Layouts.{root-small}
use Rattle.large_arrays.proofs.LoadedBranches.{under-raw}
use Rattle.geos_model.proofs.OverwrittenPieces.{sum, sum-lengths}

-- what a branch has, or is taken to have where its block is none
abbrev pub piece_under : Document → ℕ → ℕ → ℕ → BranchPiece
piece_under d h size count = unwrap_or (branch_under d h size count) (replicate count (replicate size 0))

-- as many elements as its root says
pub length-piece : (d : Document) (h size count : ℕ) → size < 65536 → length (piece_under d h size count) ≡ count
length-piece d h size count small = by_branch (branch_under d h size count) refl
  where
    by_branch : (o : Option BranchPiece) → branch_under d h size count ≡ o → length (unwrap_or o (replicate count (replicate size 0))) ≡ count
    by_branch None found = length-replicate count (replicate size 0)
    by_branch (Some xs) found = (branch_of-is size count (raw_bytes_of d h) xs small (under-raw d h size count xs found).1).0

module _ (d : Document) (b : ℕ) (is : root_of (raw_bytes_of d b) ≡ Some (root_at d b)) where
  abbrev r : Root
  r = root_at d b

  read : root_read (raw_bytes_of d b) ≡ r
  read = (root_of-read (raw_bytes_of d b) r is).0

  pub root-as_many : length r.branches ≡ length r.counts
  root-as_many =
      sym (ap (λ (q : Root). length q.branches) read) ∙ length-branches_read (raw_bytes_of d b)
      ∙ sym (length-counts_read (raw_bytes_of d b)) ∙ ap (λ (q : Root). length q.counts) read

  pub root-size : r.size < 65536
  root-size = root-small r (root_of-read (raw_bytes_of d b) r is).1

  abbrev piece_of : ℕ → BranchPiece
  piece_of k = piece_under d (get_or r.branches k 0) r.size (get_or r.counts k 0)

  pub piece-at : (k : ℕ) → k < length r.branches → get_or (pieces_at d r) k [] ≡ piece_of k
  piece-at k low = get_or-map-range_with_len piece_of 0 (length r.branches) k k [] low (zero-add k)

  pub length-pieces : length (pieces_at d r) ≡ length r.branches
  length-pieces = length-map-range_with_len piece_of 0 (length r.branches)

  pub counts-at : map length (pieces_at d r) ≡ r.counts
  counts-at =
      let many = length-pieces in
      let all = root-as_many in
      let long : length (map length (pieces_at d r)) ≡ length r.counts = length-map (pieces_at d r) length ∙ many ∙ all in
      ext_get_or 0 (map length (pieces_at d r)) r.counts long (λ k low.
      let within : k < length (pieces_at d r) = omega arith in
      let there : k < length r.branches = omega arith in
      get_or-map length (pieces_at d r) k [] 0 within ∙ ap length (piece-at k there) ∙ length-piece d (get_or r.branches k 0) r.size (get_or r.counts k 0) root-size)

  -- all elements
  pub total-at : total_count r ≡ length (elements_in_pieces (pieces_at d r))
  total-at = ap sum (sym counts-at) ∙ sum-lengths (pieces_at d r)

-- The pieces of a root's branches: what is known of one that was read, and of one that wasn't.
use Rattle.std.proofs.Common.{◌≡◌, ℕ, ◌*◌, ◌<◌, false, ◌==◌, nat_lt, List, [], length, get_or, replicate, Option, Some, is_some, true, unwrap_or, sym, ap, ◌∙◌, inl, inr, arith, ltb-true, ltb-false}
use Rattle.std.proofs.lemmas.Bool.{cases_Bool}
use Rattle.std.proofs.lemmas.List.{get_or_past}
use Rattle.geos_model.specs.Document.{Document, raw_bytes_of}
use Rattle.geos_model.specs.Pieces.{BranchPiece, piece_weight}
use Rattle.geos_model.specs.LargeLayout.{Root, root_of}
use Rattle.geos_model.specs.LargeBlocks.{root_at, branch_at, pieces_at}
use Rattle.geos_model.proofs.BranchBytes.{weight-even}
use Rattle.geos_model.proofs.Layouts.{root-facts, pieces-many, read-here, piece_is}

module _ (d : Document) (b : ℕ) (found : is_some (root_of (raw_bytes_of d b)) ≡ true) where
  abbrev r : Root
  r = root_at d b

  abbrev pieces : List BranchPiece
  pieces = pieces_at d r

  -- the elements of a branch that was read
  pub found-piece : (k : ℕ) (p : BranchPiece) → k < length pieces → branch_at d r k ≡ Some p → get_or pieces k [] ≡ p
  found-piece k p low is =
      let row : List ℕ = replicate r.size 0 in
      read-here d b found k low ∙ ap (λ (o : Option BranchPiece). unwrap_or o (replicate (get_or r.counts k 0) row)) is

  -- of one size they weigh what the root tells, read or not
  pub found-weight : (k : ℕ) → (r.size == 0) ≡ false → piece_weight r.size (get_or pieces k []) ≡ get_or r.counts k 0 * r.size
  found-weight k one =
      let many = pieces-many d b found in
      let few = (root-facts d b found).2 in
      elim (cases_Bool (nat_lt k (length pieces))) [
        | inl within ↦
            (let low = ltb-true k (length pieces) within in
            let is = piece_is d b found k low in
            weight-even r.size (get_or pieces k []) one is.1 ∙ ap (λ (n : ℕ). n * r.size) is.0)
        | inr past ↦
            (let high = ltb-false k (length pieces) past in
            let none : 0 ≡ 0 * r.size = omega arith in
            ap (piece_weight r.size) (get_or_past pieces k [] high) ∙ none ∙ ap (λ (n : ℕ). n * r.size) (sym (get_or_past r.counts k 0 (omega arith))))
      ]

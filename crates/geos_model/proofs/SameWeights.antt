-- Pieces of the same numbers of elements of one size weigh the same, and are spread as well.
use Rattle.std.proofs.Common.{◌≡◌, ℕ, ◌+◌, ◌*◌, Bool, true, false, not, ◌&&◌, ◌||◌, ◌==◌, nat_le, nat_lt, List, [], ◌∷◌, length, map, refl, sym, ap, ap₂, ◌∙◌}
use Rattle.std.proofs.lemmas.Bool.{and_parts}
use Rattle.std.proofs.lemmas.List.{length-map}
use Rattle.std.specs.List.{list_all}
use Rattle.geos_model.specs.Pieces.{BranchPiece, piece_weight, branch_room, join_room, fits_branch, all_fit, are_apart, are_spread}
use Rattle.geos_model.proofs.BranchBytes.{is_sized, weight-even}
use Rattle.geos_model.proofs.Layouts.{all_sized}
use Rattle.geos_model.proofs.SpreadSides.{is_full}
use Rattle.geos_model.proofs.PieceLists.{counts_full}

abbrev weights : ℕ → List BranchPiece → List ℕ
weights size ps = map (λ p. piece_weight size p) ps

same-weights : (size : ℕ) (ps : List BranchPiece) → (size == 0) ≡ false → all_sized size ps ≡ true → weights size ps ≡ map (λ n. n * size) (map length ps)
same-weights size [] one sized = refl
same-weights size (p ∷ ps) one sized =
    let parts = and_parts (is_sized size p) (all_sized size ps) sized in
    ap₂ (λ (n : ℕ) (ns : List ℕ). n ∷ ns) (weight-even size p one parts.0) (same-weights size ps one parts.1)

fit-weights : (size : ℕ) (ps : List BranchPiece) → all_fit size ps ≡ list_all (λ n. nat_le n branch_room) (weights size ps)
fit-weights size [] = refl
fit-weights size (p ∷ ps) = ap (λ (b : Bool). fits_branch size p && b) (fit-weights size ps)

abbrev apart_weights : List ℕ → Bool
apart_weights [] = true
apart_weights (m ∷ []) = true
apart_weights (m ∷ n ∷ ns) = not (nat_le (m + n) join_room) && apart_weights (n ∷ ns)

apart-weights : (size : ℕ) (ps : List BranchPiece) → are_apart size ps ≡ apart_weights (weights size ps)
apart-weights size [] = refl
apart-weights size (p ∷ []) = refl
apart-weights size (p ∷ q ∷ ps) = ap (λ (b : Bool). not (nat_le (piece_weight size p + piece_weight size q) join_room) && b) (apart-weights size (q ∷ ps))

-- none is empty by how many elements each has
pub full-lengths : (ps : List BranchPiece) → is_full ps ≡ (length (map length ps) == 1 || list_all (λ c. nat_lt 0 c) (map length ps))
full-lengths ps = ap₂ (λ (n : ℕ) (b : Bool). n == 1 || b) (sym (length-map ps (λ (p : BranchPiece). length p))) (sym (counts_full ps))

module _ (size : ℕ) (ps qs : List BranchPiece) (one : (size == 0) ≡ false) (sized : all_sized size ps ≡ true) (also : all_sized size qs ≡ true) (same : map length qs ≡ map length ps) where
  same_weights : weights size qs ≡ weights size ps
  same_weights = same-weights size qs one also ∙ ap (map (λ n. n * size)) same ∙ sym (same-weights size ps one sized)

  pub same-fit : all_fit size qs ≡ all_fit size ps
  same-fit = fit-weights size qs ∙ ap (list_all (λ n. nat_le n branch_room)) same_weights ∙ sym (fit-weights size ps)

  pub same-full : is_full qs ≡ is_full ps
  same-full = full-lengths qs ∙ ap (λ (ns : List ℕ). length ns == 1 || list_all (λ c. nat_lt 0 c) ns) same ∙ sym (full-lengths ps)

  pub same-many : length qs ≡ length ps
  same-many = sym (length-map qs (λ (p : BranchPiece). length p)) ∙ ap length same ∙ length-map ps (λ (p : BranchPiece). length p)

  pub same-spread : are_spread size qs ≡ are_spread size ps
  same-spread =
      ap₂ (λ (n : ℕ) (b : Bool). nat_lt 0 n && b && all_fit size qs && are_apart size qs) same-many same-full
      ∙ ap₂ (λ (b c : Bool). nat_lt 0 (length ps) && is_full ps && b && c) same-fit (apart-weights size qs ∙ ap apart_weights same_weights ∙ sym (apart-weights size ps))

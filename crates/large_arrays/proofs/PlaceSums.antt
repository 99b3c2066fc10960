-- How many elements are before a place, and what stands there.
use Rattle.std.proofs.Common.{◌≡◌, ℕ, suc, ◌+◌, ◌-◌, ◌<◌, ◌≤◌, nat_le, nat_lt, List, [], ◌∷◌, length, take, drop, map, get_or, refl, sym, ap, subst, ◌∙◌, inl, inr, arith, ltb-true, ltb-false, leb-true, leb-false, length-append, append-nil}
use Rattle.std.proofs.lemmas.Bool.{cases_Bool, cond-true, cond-false}
use Rattle.std.proofs.lemmas.List.{get_or_append_left, get_or-append_right}
use Rattle.std.proofs.lemmas.List.Sums.{sum_by-cons}
use Rattle.geos_model.specs.Pieces.{BranchPiece, elements_in_pieces}
use Rattle.geos_model.specs.Spread.{start_place, end_place}
use Rattle.geos_model.proofs.OverwrittenPieces.{sum}
use Rattle.geos_model.proofs.SpreadElements.{drop_past}

pub start-sum : (cs : List ℕ) (i : ℕ) → sum (take (start_place cs i).0 cs) + (start_place cs i).1 ≡ i
start-sum [] i = omega arith
start-sum (c ∷ []) i = omega arith
start-sum (c ∷ next ∷ cs) i =
    let later : ℕ × ℕ = start_place (next ∷ cs) (i - c) in
    let is : ℕ × ℕ → Type 0 = λ at. sum (take at.0 (c ∷ next ∷ cs)) + at.1 ≡ i in
    elim (cases_Bool (nat_lt i c)) [
      | inl here ↦ subst is (sym (cond-true (nat_lt i c) (0, i) (suc later.0, later.1) here)) (let none : 0 + i ≡ i = omega arith in none)
      | inr past ↦ subst is (sym (cond-false (nat_lt i c) (0, i) (suc later.0, later.1) past))
          (let from : c ≤ i = ltb-false i c past in
          let rest = start-sum (next ∷ cs) (i - c) in
          let step : sum (c ∷ take later.0 (next ∷ cs)) ≡ c + sum (take later.0 (next ∷ cs)) = sum_by-cons (λ (x : ℕ). x) c (take later.0 (next ∷ cs)) in
          let all : sum (c ∷ take later.0 (next ∷ cs)) + later.1 ≡ i = omega arith in all)
    ]

pub end-sum : (cs : List ℕ) (i : ℕ) → sum (take (end_place cs i).0 cs) + (end_place cs i).1 ≡ i
end-sum [] i = omega arith
end-sum (c ∷ []) i = omega arith
end-sum (c ∷ next ∷ cs) i =
    let later : ℕ × ℕ = end_place (next ∷ cs) (i - c) in
    let is : ℕ × ℕ → Type 0 = λ at. sum (take at.0 (c ∷ next ∷ cs)) + at.1 ≡ i in
    elim (cases_Bool (nat_le i c)) [
      | inl here ↦ subst is (sym (cond-true (nat_le i c) (0, i) (suc later.0, later.1) here)) (let none : 0 + i ≡ i = omega arith in none)
      | inr past ↦ subst is (sym (cond-false (nat_le i c) (0, i) (suc later.0, later.1) past))
          (let from : c < i = leb-false i c past in
          let rest = end-sum (next ∷ cs) (i - c) in
          let step : sum (c ∷ take later.0 (next ∷ cs)) ≡ c + sum (take later.0 (next ∷ cs)) = sum_by-cons (λ (x : ℕ). x) c (take later.0 (next ∷ cs)) in
          let all : sum (c ∷ take later.0 (next ∷ cs)) + later.1 ≡ i = omega arith in all)
    ]

-- A place lies within its branch.

pub start-within : (cs : List ℕ) (i : ℕ) → i < sum cs → (start_place cs i).1 < get_or cs (start_place cs i).0 0
start-within [] i low = absurd (let never : i < 0 = low in omega arith)
start-within (c ∷ []) i low = (let all = sum_by-cons (λ (x : ℕ). x) c [] in let none : sum [] ≡ 0 = refl in omega arith)
start-within (c ∷ next ∷ cs) i low =
    let later : ℕ × ℕ = start_place (next ∷ cs) (i - c) in
    let is : ℕ × ℕ → Type 0 = λ at. at.1 < get_or (c ∷ next ∷ cs) at.0 0 in
    elim (cases_Bool (nat_lt i c)) [
      | inl here ↦ subst is (sym (cond-true (nat_lt i c) (0, i) (suc later.0, later.1) here)) (ltb-true i c here)
      | inr past ↦ subst is (sym (cond-false (nat_lt i c) (0, i) (suc later.0, later.1) past))
          (let from : c ≤ i = ltb-false i c past in
          let all = sum_by-cons (λ (x : ℕ). x) c (next ∷ cs) in
          start-within (next ∷ cs) (i - c) (omega arith))
    ]

pub end-within : (cs : List ℕ) (i : ℕ) → i ≤ sum cs → (end_place cs i).1 ≤ get_or cs (end_place cs i).0 0
end-within [] i low = low
end-within (c ∷ []) i low = (let all = sum_by-cons (λ (x : ℕ). x) c [] in let none : sum [] ≡ 0 = refl in omega arith)
end-within (c ∷ next ∷ cs) i low =
    let later : ℕ × ℕ = end_place (next ∷ cs) (i - c) in
    let is : ℕ × ℕ → Type 0 = λ at. at.1 ≤ get_or (c ∷ next ∷ cs) at.0 0 in
    elim (cases_Bool (nat_le i c)) [
      | inl here ↦ subst is (sym (cond-true (nat_le i c) (0, i) (suc later.0, later.1) here)) (leb-true i c here)
      | inr past ↦ subst is (sym (cond-false (nat_le i c) (0, i) (suc later.0, later.1) past))
          (let from : c < i = leb-false i c past in
          let all = sum_by-cons (λ (x : ℕ). x) c (next ∷ cs) in
          end-within (next ∷ cs) (i - c) (omega arith))
    ]

-- What stands from an element on, and the element.

pub start-drop : (ps : List BranchPiece) (i : ℕ) → drop i (elements_in_pieces ps)
    ≡ drop (start_place (map length ps) i).1 (elements_in_pieces (drop (start_place (map length ps) i).0 ps))
start-drop [] i = refl
start-drop (p ∷ []) i = refl
start-drop (p ∷ q ∷ ps) i =
    let later : ℕ × ℕ = start_place (map length (q ∷ ps)) (i - length p) in
    let rest : ℕ × ℕ → BranchPiece = λ at. drop at.1 (elements_in_pieces (drop at.0 (p ∷ q ∷ ps))) in
    elim (cases_Bool (nat_lt i (length p))) [
      | inl here ↦ sym (ap rest (cond-true (nat_lt i (length p)) (0, i) (suc later.0, later.1) here))
      | inr past ↦
          drop_past p (elements_in_pieces (q ∷ ps)) i (ltb-false i (length p) past) ∙ start-drop (q ∷ ps) (i - length p)
          ∙ sym (ap rest (cond-false (nat_lt i (length p)) (0, i) (suc later.0, later.1) past))
    ]

pub start-element : (ps : List BranchPiece) (i : ℕ) → i < length (elements_in_pieces ps) → get_or (elements_in_pieces ps) i []
    ≡ get_or (get_or ps (start_place (map length ps) i).0 []) (start_place (map length ps) i).1 []
start-element [] i low = absurd (let never : i < 0 = low in omega arith)
start-element (p ∷ []) i low = ap (λ (xs : BranchPiece). get_or xs i []) (append-nil p)
start-element (p ∷ q ∷ ps) i low =
    let later : ℕ × ℕ = start_place (map length (q ∷ ps)) (i - length p) in
    let here_is : ℕ × ℕ → List ℕ = λ at. get_or (get_or (p ∷ q ∷ ps) at.0 []) at.1 [] in
    let all = length-append p (elements_in_pieces (q ∷ ps)) in
    elim (cases_Bool (nat_lt i (length p))) [
      | inl here ↦
          get_or_append_left p (elements_in_pieces (q ∷ ps)) [] i (ltb-true i (length p) here)
          ∙ sym (ap here_is (cond-true (nat_lt i (length p)) (0, i) (suc later.0, later.1) here))
      | inr past ↦
          (let from : length p ≤ i = ltb-false i (length p) past in
          get_or-append_right p (elements_in_pieces (q ∷ ps)) (length p) i [] refl from ∙ start-element (q ∷ ps) (i - length p) (omega arith)
          ∙ sym (ap here_is (cond-false (nat_lt i (length p)) (0, i) (suc later.0, later.1) past)))
    ]

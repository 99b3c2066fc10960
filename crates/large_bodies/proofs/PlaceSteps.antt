-- The place of an element, found branch by branch.
use Rattle.std.proofs.Common.{◌≡◌, ℕ, suc, ◌+◌, ◌-◌, ◌<◌, ◌≤◌, nat_le, nat_lt, List, [], ◌∷◌, length, drop, get_or, false, inl, inr, sym, ap, ◌∙◌, arith, lt-ltb, le-leb, ltb-true, leb-true}
use Rattle.std.proofs.lemmas.Bool.{cases_Bool, cond-true, cond-false}
use Rattle.std.proofs.lemmas.List.{drop_more, drop_all}
use Rattle.geos_model.specs.Spread.{start_place, end_place}

-- the place in the branches from one on, as a place in all
abbrev pub shifted : ℕ → ℕ × ℕ → ℕ × ℕ
shifted k at = (k + at.0, at.1)

-- a branch that isn't the last, and those behind it
two_more : (cs : List ℕ) (k : ℕ) → k + 1 < length cs → drop k cs ≡ get_or cs k 0 ∷ get_or cs (k + 1) 0 ∷ drop (k + 1 + 1) cs
two_more cs k more =
    drop_more cs k 0 (omega arith) ∙ ap (λ (rest : List ℕ). get_or cs k 0 ∷ rest) (drop_more cs (k + 1) 0 more)

rest_more : (cs : List ℕ) (k : ℕ) → k + 1 < length cs → get_or cs (k + 1) 0 ∷ drop (k + 1 + 1) cs ≡ drop (k + 1) cs
rest_more cs k more = sym (drop_more cs (k + 1) 0 more)

-- the last one
one_more : (cs : List ℕ) (k : ℕ) → k + 1 ≡ length cs → drop k cs ≡ get_or cs k 0 ∷ []
one_more cs k last =
    drop_more cs k 0 (omega arith) ∙ ap (λ (rest : List ℕ). get_or cs k 0 ∷ rest) (drop_all (k + 1) cs (omega arith))

pub start-here : (cs : List ℕ) (k left : ℕ) → k + 1 < length cs → left < get_or cs k 0 → start_place (drop k cs) left ≡ (0, left)
start-here cs k left more low =
    ap (λ (xs : List ℕ). start_place xs left) (two_more cs k more) ∙ cond-true (nat_lt left (get_or cs k 0)) _ _ (lt-ltb left (get_or cs k 0) low)

pub end-here : (cs : List ℕ) (k left : ℕ) → k + 1 < length cs → left ≤ get_or cs k 0 → end_place (drop k cs) left ≡ (0, left)
end-here cs k left more low =
    ap (λ (xs : List ℕ). end_place xs left) (two_more cs k more) ∙ cond-true (nat_le left (get_or cs k 0)) _ _ (le-leb left (get_or cs k 0) low)

pub start-last : (cs : List ℕ) (k left : ℕ) → k + 1 ≡ length cs → start_place (drop k cs) left ≡ (0, left)
start-last cs k left last = ap (λ (xs : List ℕ). start_place xs left) (one_more cs k last)

pub end-last : (cs : List ℕ) (k left : ℕ) → k + 1 ≡ length cs → end_place (drop k cs) left ≡ (0, left)
end-last cs k left last = ap (λ (xs : List ℕ). end_place xs left) (one_more cs k last)

-- from one branch to the next
moved : (k a b : ℕ) → shifted k (suc a, b) ≡ shifted (k + 1) (a, b)
moved k a b = (let same : k + suc a ≡ k + 1 + a = omega arith in ap (λ (m : ℕ). (m, b)) same)

pub start-next : (cs : List ℕ) (k left : ℕ) → k + 1 < length cs → get_or cs k 0 ≤ left
    → shifted k (start_place (drop k cs) left) ≡ shifted (k + 1) (start_place (drop (k + 1) cs) (left - get_or cs k 0))
start-next cs k left more past =
    let rest : List ℕ = get_or cs (k + 1) 0 ∷ drop (k + 1 + 1) cs in
    let later : ℕ × ℕ = start_place rest (left - get_or cs k 0) in
    ap (λ (xs : List ℕ). shifted k (start_place xs left)) (two_more cs k more)
    ∙ ap (shifted k) (cond-false (nat_lt left (get_or cs k 0)) (0, left) (suc later.0, later.1) (not_less left (get_or cs k 0) past))
    ∙ moved k later.0 later.1
    ∙ ap (λ (xs : List ℕ). shifted (k + 1) (start_place xs (left - get_or cs k 0))) (rest_more cs k more)
  where
    not_less : (a b : ℕ) → b ≤ a → nat_lt a b ≡ false
    not_less a b most = elim (cases_Bool (nat_lt a b)) [
      | inl less ↦ (let low = ltb-true a b less in absurd (omega arith))
      | inr other ↦ other
    ]

pub end-next : (cs : List ℕ) (k left : ℕ) → k + 1 < length cs → get_or cs k 0 < left
    → shifted k (end_place (drop k cs) left) ≡ shifted (k + 1) (end_place (drop (k + 1) cs) (left - get_or cs k 0))
end-next cs k left more past =
    let rest : List ℕ = get_or cs (k + 1) 0 ∷ drop (k + 1 + 1) cs in
    let later : ℕ × ℕ = end_place rest (left - get_or cs k 0) in
    ap (λ (xs : List ℕ). shifted k (end_place xs left)) (two_more cs k more)
    ∙ ap (shifted k) (cond-false (nat_le left (get_or cs k 0)) (0, left) (suc later.0, later.1) (not_most left (get_or cs k 0) past))
    ∙ moved k later.0 later.1
    ∙ ap (λ (xs : List ℕ). shifted (k + 1) (end_place xs (left - get_or cs k 0))) (rest_more cs k more)
  where
    not_most : (a b : ℕ) → b < a → nat_le a b ≡ false
    not_most a b less = elim (cases_Bool (nat_le a b)) [
      | inl most ↦ (let low = leb-true a b most in absurd (omega arith))
      | inr other ↦ other
    ]

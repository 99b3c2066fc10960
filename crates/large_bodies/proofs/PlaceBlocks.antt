-- The place of an element is looked for behind whole blocks of branches.
use Rattle.std.proofs.Common.{◌≡◌, ℕ, zero, suc, ◌+◌, ◌-◌, ◌<◌, List, length, take, drop, get_or, sum_by, sym, ap, subst, ◌∙◌, zero-add, arith}
use Rattle.std.proofs.lemmas.List.Sums.{sum_by_more, sum_by-take-drop}
use Rattle.geos_model.specs.Spread.{start_place, end_place}
use Rattle.large_bodies.proofs.PlaceSteps.{shifted, start-next, end-next}

-- a place behind no branch
none_before : (at : ℕ × ℕ) → at ≡ shifted 0 at
none_before at = sym (ap (λ (k : ℕ). (k, at.1)) (zero-add at.0))

-- Behind branches that all lie before an element its place is that in the branches that are left.

pub start-passed : (cs : List ℕ) (k left i : ℕ) → k < length cs → sum_by (λ c. c) (take k cs) + left ≡ i
    → start_place cs i ≡ shifted k (start_place (drop k cs) left)
start-passed cs zero left i low all =
    let same : i ≡ left = omega (arith, all) in
    ap (start_place cs) same ∙ none_before (start_place cs left)
start-passed cs (suc k) left i low all =
    let count : ℕ = get_or cs k 0 in
    let next : suc k ≡ k + 1 = omega arith in
    let step : sum_by (λ c. c) (take (k + 1) cs) ≡ sum_by (λ c. c) (take k cs) + count = sum_by_more (λ (c : ℕ). c) cs k 0 (omega (arith, low)) in
    let upto : sum_by (λ c. c) (take (k + 1) cs) + left ≡ i = ap (λ (n : ℕ). sum_by (λ c. c) (take n cs) + left) (sym next) ∙ all in
    let back : left + count - count ≡ left = omega arith in
    start-passed cs k (left + count) i (omega (arith, low)) (omega (arith, step, upto))
    ∙ start-next cs k (left + count) (omega (arith, low)) (omega arith)
    ∙ ap (λ (n : ℕ). shifted (k + 1) (start_place (drop (k + 1) cs) n)) back
    ∙ ap (λ (n : ℕ). shifted n (start_place (drop n cs) left)) (sym next)

pub end-passed : (cs : List ℕ) (k left i : ℕ) → k < length cs → sum_by (λ c. c) (take k cs) + left ≡ i → (0 < k → 0 < left)
    → end_place cs i ≡ shifted k (end_place (drop k cs) left)
end-passed cs zero left i low all between =
    let same : i ≡ left = omega (arith, all) in
    ap (end_place cs) same ∙ none_before (end_place cs left)
end-passed cs (suc k) left i low all between =
    let count : ℕ = get_or cs k 0 in
    let some : 0 < left = between (omega arith) in
    let next : suc k ≡ k + 1 = omega arith in
    let step : sum_by (λ c. c) (take (k + 1) cs) ≡ sum_by (λ c. c) (take k cs) + count = sum_by_more (λ (c : ℕ). c) cs k 0 (omega (arith, low)) in
    let upto : sum_by (λ c. c) (take (k + 1) cs) + left ≡ i = ap (λ (n : ℕ). sum_by (λ c. c) (take n cs) + left) (sym next) ∙ all in
    let back : left + count - count ≡ left = omega arith in
    end-passed cs k (left + count) i (omega (arith, low)) (omega (arith, step, upto)) (λ _. omega (arith, some))
    ∙ end-next cs k (left + count) (omega (arith, low)) (omega (arith, some))
    ∙ ap (λ (n : ℕ). shifted (k + 1) (end_place (drop (k + 1) cs) n)) back
    ∙ ap (λ (n : ℕ). shifted n (end_place (drop n cs) left)) (sym next)

-- a block is passed
pub block_more : (cs : List ℕ) (at next total left i : ℕ) → at + 64 ≡ next
    → total + sum_by (λ c. c) (drop (at + 64) cs) ≡ sum_by (λ c. c) (drop at cs)
    → sum_by (λ c. c) (take at cs) + left ≡ i → total < left → sum_by (λ c. c) (take next cs) + (left - total) ≡ i
block_more cs at next total left i is block before past =
    let front = sum_by-take-drop (λ (c : ℕ). c) cs at in
    let behind = sum_by-take-drop (λ (c : ℕ). c) cs (at + 64) in
    subst (λ n. sum_by (λ c. c) (take n cs) + (left - total) ≡ i) is (omega (arith, front, behind, block, before, past))

-- How many bytes in front are the same, found by the first that differ.
use Rattle.std.proofs.Common.{◌≡◌, ℕ, ◌+◌, ◌≤◌, Bool, true, false, not, cond, nat_eq, nat_lt, List, [], ◌∷◌, length, min, Option, Some, None, unwrap_or, refl, sym, ap, ◌∙◌, arith}
use Rattle.std.specs.List.{zip, position_or_len, common_prefix_len}
use Rattle.std.proofs.lemmas.Bool.Decides.{nat_tests}
use Rattle.std.proofs.lemmas.List.Sums.{common_prefix_len-le}
use Rattle.std.proofs.lemmas.Slice.Zip.{length-zip}

abbrev pub differ : ℕ × ℕ → Bool
differ p = not (nat_eq p.0 p.1)

step : (b : Bool) (m n : ℕ) → m ≡ n → cond (not (not b)) (1 + m) 0 ≡ cond b (1 + n) 0
step true m n e = ap (λ (k : ℕ). 1 + k) e
step false m n e = refl

first_that_differ : (xs ys : List ℕ) → position_or_len differ (zip xs ys) ≡ common_prefix_len nat_eq xs ys
first_that_differ [] ys = refl
first_that_differ (x ∷ xs) [] = refl
first_that_differ (x ∷ xs) (y ∷ ys) = step (nat_eq x y) _ _ (first_that_differ xs ys)

or_all : (at size least same : ℕ) → at ≡ same → size ≡ least → same ≤ least → unwrap_or (cond (nat_lt at size) (Some at) None) least ≡ same
or_all at size least same at_is size_is within = grind (arith, nat_tests, at_is, size_is, within)

pub front_found : (xs ys : List ℕ) (found : Option ℕ) (least : ℕ) → found ≡ cond (nat_lt (position_or_len differ (zip xs ys)) (length (zip xs ys))) (Some (position_or_len differ (zip xs ys))) None
    → least ≡ min (length xs) (length ys) → unwrap_or found least ≡ common_prefix_len nat_eq xs ys
front_found xs ys found least is least_is =
    let within = common_prefix_len-le nat_eq xs ys in
    let bound : common_prefix_len nat_eq xs ys ≤ least = grind (arith, within.0, within.1, least_is) in
    ap (λ (o : Option ℕ). unwrap_or o least) is ∙ or_all _ _ least _ (first_that_differ xs ys) (length-zip xs ys ∙ sym least_is) bound

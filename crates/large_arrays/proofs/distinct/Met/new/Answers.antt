use Rattle.std.proofs.Common.{◌≡◌, ◌∙◌, ℕ, zero, suc, List, Bool, false, get_or, replicate, length, refl, ap}
use Rattle.std.proofs.lemmas.List.{length-replicate}
use Rattle.large_arrays.proofs.distinct.Met.new.Goals as goal

unmarked : (n h : ℕ) → get_or (replicate n false) h false ≡ false
unmarked zero h = refl
unmarked (suc n) zero = refl
unmarked (suc n) (suc h) = unmarked n h

pub invariant_of-result : goal.invariant_of-result
invariant_of-result c = (let made = c.in_ok-vec.ensures {u = tt} in ap (λ (xs : List Bool). length xs) (made.items_if_clones_equal (λ y e. e)) ∙ length-replicate 65536 false)

pub returns : goal.returns
returns c = (let made = c.in_ok-vec.ensures {u = tt} in λ h. ap (λ (xs : List Bool). get_or xs h false) (made.items_if_clones_equal (λ y e. e)) ∙ unmarked 65536 h)

-- Where nothing refuses, no refusal's condition holds.
use Rattle.std.proofs.Common.{◌≡◌, ℕ, Bool, true, false, ◌==◌, ◌&&◌, ◌||◌, List, [], ◌∷◌, Some, None, find, refl, sym, ap, subst, ◌∙◌, inl, inr, eqb-true}
use Rattle.std.proofs.lemmas.Bool.{cases_Bool, true≢false, cond-true, cond-false, or_parts}
use Rattle.std.specs.List.{list_any}
use Rattle.geos_model.specs.Refusal.{Conditions, number_of_fault, one_order, applies, first_refusal}
use Rattle.geos_model.specs.declared.fault.Fault.{Fault}

-- the refusal is in the list
abbrev pub stands_in : Fault → List Fault → Bool
stands_in f fs = list_any (λ x. number_of_fault x == number_of_fault f) fs

none_found : (cs : Conditions) (f : Fault) (fs : List Fault) → find (applies cs) fs ≡ None → stands_in f fs ≡ true → applies cs f ≡ false
none_found cs f [] none member = absurd (true≢false (sym member))
none_found cs f (x ∷ xs) none member = elim (cases_Bool (applies cs x)) [
  | inl holds ↦ (let some : Some x ≡ None = sym (cond-true (applies cs x) (Some x) (find (applies cs) xs) holds) ∙ none in absurd (cc))
  | inr not_here ↦ elim (cases_Bool (number_of_fault x == number_of_fault f)) [
    | inl same ↦ (let one : number_of_fault f ≡ number_of_fault x = sym (eqb-true (number_of_fault x) (number_of_fault f) same) in
        ap (λ (n : ℕ). list_any (λ c. (number_of_fault c.0 == n) && c.1) cs) one ∙ not_here)
    | inr other ↦ none_found cs f xs
        (sym (cond-false (applies cs x) (Some x) (find (applies cs) xs) not_here) ∙ none)
        (subst (λ b. (b || stands_in f xs) ≡ true) other member)
  ]
]

-- Where nothing refuses, no condition holds of a refusal of the one order; that it stands there is `refl`.
pub none_applies : (cs : Conditions) → first_refusal cs ≡ None → (f : Fault) → stands_in f one_order ≡ true → applies cs f ≡ false
none_applies cs none f member = none_found cs f one_order none member

-- Neither of two conditions holds.
pub or_none : {x y : Bool} → (x || y) ≡ false → (x ≡ false) × (y ≡ false)
or_none {x = x} {y = y} none = or_parts x y none

-- What is found nowhere isn't found where fewer pass.
found_nowhere : (p q : Fault → Bool) (fs : List Fault) → ((f : Fault) → p f ≡ false → q f ≡ false) → find p fs ≡ None → find q fs ≡ None
found_nowhere p q [] fewer none = refl
found_nowhere p q (f ∷ fs) fewer none = elim (cases_Bool (p f)) [
  | inl e ↦ absurd (cc (rw e at none))
  | inr e ↦ rw (fewer f e) (found_nowhere p q fs fewer (rw e at none))
]

-- Where nothing refuses, nothing does without the first condition.
pub rest_none : (c : Fault × Bool) (cs : Conditions) → first_refusal (c ∷ cs) ≡ None → first_refusal cs ≡ None
rest_none c cs none = found_nowhere (applies (c ∷ cs)) (applies cs) one_order (λ f e. (or_none e).1) none

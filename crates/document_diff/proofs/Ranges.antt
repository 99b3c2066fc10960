-- What differs under each of a range of handles.
use Rattle.std.proofs.Common.{◌≡◌, ℕ, suc, zero, ◌+◌, ◌≤◌, ◌<◌, List, [], ◌∷◌, ◌++◌, length, refl, sym, ap, ◌∙◌, arith, inl, inr, flat_map}
use Rattle.std.proofs.lemmas.Bool.{cases_eq}
use Rattle.std.specs.List.{range_with_len}
use Rattle.document_diff.specs.declared.difference.Difference.{Difference}

pub no_list : {X : Type 0} (x : X) (xs : List X) → x ∷ xs ≡ [] → ⊥
no_list x xs e = let size = ap length e in grind (arith, size)

pub both_none : {X : Type 0} (xs ys : List X) → xs ++ ys ≡ [] → (xs ≡ []) × (ys ≡ [])
both_none [] ys e = (refl, e)
both_none (x ∷ xs) ys e = absurd (no_list x (xs ++ ys) e)

-- nothing differs under one of them
pub none_at : (f : ℕ → List Difference) (a n i : ℕ) → flat_map f (range_with_len a n) ≡ [] → a ≤ i → i < a + n → f i ≡ []
none_at f a zero i e low high = absurd (omega (arith, low, high))
none_at f a (suc n) i e low high =
    let parts = both_none (f a) (flat_map f (range_with_len (a + 1) n)) e in
    elim (cases_eq a i) as (λ _. f i ≡ []) [
      | inl here ↦ ap f (sym here) ∙ parts.0
      | inr apart ↦ none_at f (a + 1) n i parts.1 (omega (arith, low, apart)) (omega (arith, high))
    ]

-- nothing differs under any
pub none_within : (f : ℕ → List Difference) (xs : List ℕ) → ((x : ℕ) → f x ≡ []) → flat_map f xs ≡ []
none_within f [] none = refl
none_within f (x ∷ xs) none = ap (λ (l : List Difference). l ++ flat_map f xs) (none x) ∙ none_within f xs none

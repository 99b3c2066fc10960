-- A run of a list, made longer by what comes next, up to its end or that of the list.
use Rattle.std.proofs.Common.{◌≡◌, ℕ, ◌+◌, ◌-◌, ◌<◌, ◌≤◌, ◌⊎◌, nat_le, min, leb-true, leb-false, List, [], ◌∷◌, ◌++◌, length, take, drop, get_or, inl, inr, sym, ap, ◌∙◌, arith, length-drop}
use Rattle.std.proofs.lemmas.List.{get_or-drop, take_all, take_more}
use Rattle.std.proofs.lemmas.Bool.{cases_Bool}

-- one more
pub run_more : (xs : List ℕ) (a k : ℕ) → a ≤ k → k < length xs → take (k - a) (drop a xs) ++ get_or xs k 0 ∷ [] ≡ take (k + 1 - a) (drop a xs)
run_more xs a k from within =
    let long = length-drop a xs in
    let at : get_or (drop a xs) (k - a) 0 ≡ get_or xs k 0 = get_or-drop a xs (k - a) 0 ∙ ap (λ (n : ℕ). get_or xs n 0) (let same : a + (k - a) ≡ k = omega arith in same) in
    let next : k - a + 1 ≡ k + 1 - a = omega arith in
    ap (λ (x : ℕ). take (k - a) (drop a xs) ++ x ∷ []) (sym at) ∙ sym (take_more (drop a xs) (k - a) 0 (omega arith)) ∙ ap (λ (n : ℕ). take n (drop a xs)) next

-- as many where it is long enough
same_take : (m n : ℕ) (xs : List ℕ) → (m ≡ n) ⊎ ((length xs ≤ m) × (length xs ≤ n)) → take m xs ≡ take n xs
same_take m n xs (inl same) = ap (λ (i : ℕ). take i xs) same
same_take m n xs (inr long) = take_all m xs long.0 ∙ sym (take_all n xs long.1)

-- and where it ends it has all up to there: a loop from a to e ends at k
pub run_end : (xs : List ℕ) (a b e k : ℕ) → a ≤ k → e ≤ k → (a ≤ e → k ≤ e) → (e < a → k ≤ a) → e ≡ min (length xs) b → take (k - a) (drop a xs) ≡ take (b - a) (drop a xs)
run_end xs a b e k from past upto none least = same_take (k - a) (b - a) (drop a xs) (elim (cases_Bool (nat_le a e)) [
  | inl some ↦ (let order : a ≤ e = leb-true a e some in alike (upto order))
  | inr empty ↦ (let over : e < a = leb-false a e empty in alike_none over (none over))
])
  where
    long : length (drop a xs) ≡ length xs - a
    long = length-drop a xs

    alike : k ≤ e → (k - a ≡ b - a) ⊎ ((length (drop a xs) ≤ k - a) × (length (drop a xs) ≤ b - a))
    alike most = elim (cases_Bool (nat_le b (length xs))) [
      | inl within ↦ (let few = leb-true b (length xs) within in inl (omega arith))
      | inr beyond ↦ (let more = leb-false b (length xs) beyond in let all = long in inr (omega arith, omega arith))
    ]

    alike_none : e < a → k ≤ a → (k - a ≡ b - a) ⊎ ((length (drop a xs) ≤ k - a) × (length (drop a xs) ≤ b - a))
    alike_none over most = elim (cases_Bool (nat_le b (length xs))) [
      | inl within ↦ (let few = leb-true b (length xs) within in inl (omega arith))
      | inr beyond ↦ (let more = leb-false b (length xs) beyond in let all = long in inr (omega arith, omega arith))
    ]

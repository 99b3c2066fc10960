-- Which handles the blocks of a window have after an edit.
use Rattle.std.proofs.Common.{◌≡◌, ℕ, zero, suc, ◌+◌, ◌-◌, ◌≤◌, Bool, true, false, nat_lt, List, [], ◌∷◌, ◌++◌, length, take, drop, map, get_or, refl, sym, ap, subst, ◌∙◌, ◌⊎◌, inl, inr, arith, length-append, length-drop}
use Rattle.std.proofs.lemmas.Bool.{cases_Bool, cond-true, cond-false}
use Rattle.std.proofs.lemmas.List.{length-map, length-take, take-append-drop, drop_more}
use Rattle.std.proofs.lemmas.List.Elements.{Contains-append_cases}
use Rattle.std.specs.List.{Contains, range_with_len}
use Rattle.geos_model.specs.ElementArray.{all_distinct}
use Rattle.geos_model.proofs.Chains.{contains_cases, contains_first, contains_later}
use Rattle.geos_model.proofs.BlockLists.{distinct-first, distinct-rest}
use Rattle.geos_model.specs.LargeWindow.{greatest, window_handles}
use Rattle.geos_model.proofs.DistinctHandles.{distinct-cons, distinct-append, distinct-parts, there_before, there_behind}

abbrev pub handles : List (ℕ × ℕ) → List ℕ
handles olds = map (λ p. p.0) olds

nothing_there : (h : ℕ) → Contains [] h → ⊥
nothing_there h there = let low = there.1 in omega arith

one_there : (x h : ℕ) → Contains (x ∷ []) h → x ≡ h
one_there x h there = elim (contains_cases x [] h there) [
  | inl is ↦ is
  | inr later ↦ absurd (nothing_there h later)
]

single : (x : ℕ) → all_distinct (x ∷ []) ≡ true
single x = refl

-- the handle with the greatest number is one of them
greatest-there : (best : ℕ × ℕ) (olds : List (ℕ × ℕ)) → Contains (handles (best ∷ olds)) (greatest best olds)
greatest-there best [] = contains_first best.0 []
greatest-there best (x ∷ xs) =
    let b = nat_lt best.1 x.1 in
    let is_there : ℕ → Type 0 = λ h. Contains (handles (best ∷ x ∷ xs)) h in
    elim (cases_Bool b) [
      | inl more ↦
          subst is_there (sym (cond-true b (greatest x xs) (greatest best xs) more))
          (contains_later best.0 (handles (x ∷ xs)) (greatest x xs) (greatest-there x xs))
      | inr less ↦ subst is_there (sym (cond-false b (greatest x xs) (greatest best xs) less)) (beside (greatest best xs) (greatest-there best xs))
    ]
  where
    beside : (h : ℕ) → Contains (handles (best ∷ xs)) h → Contains (handles (best ∷ x ∷ xs)) h
    beside h there = elim (contains_cases best.0 (handles xs) h there) [
      | inl is ↦ subst (Contains (handles (best ∷ x ∷ xs))) is (contains_first best.0 (handles (x ∷ xs)))
      | inr later ↦ contains_later best.0 (handles (x ∷ xs)) h (contains_later x.0 (handles xs) h later)
    ]

-- There are as many as pieces.
pub window_handles-many : (olds : List (ℕ × ℕ)) (head : Bool) (n : ℕ) (new : List ℕ) → length new ≡ n - length olds → length (window_handles olds head n new) ≡ n
window_handles-many olds head zero new long = refl
window_handles-many [] head (suc n) new long = omega arith
window_handles-many (h ∷ hs) head (suc zero) new long = refl
window_handles-many (h ∷ []) true (suc (suc n)) new long = omega arith
window_handles-many (h ∷ []) false (suc (suc n)) new long = (let all = length-append new (h.0 ∷ []) in omega arith)
window_handles-many (h ∷ next ∷ hs) head (suc (suc n)) new long =
    let rest : List ℕ = handles (next ∷ hs) in
    let m : ℕ = length hs in
    let count : length rest ≡ suc m = length-map (next ∷ hs) (λ (p : ℕ × ℕ). p.0) in
    let inner = length-take m rest in
    let outer = length-take n (take m rest) in
    let back = length-drop m rest in
    let two = length-append (take n (take m rest)) new in
    let three = length-append (take n (take m rest) ++ new) (drop m rest) in
    omega arith

-- Each is one that was there, or a new one.
pub window_handles-from : (olds : List (ℕ × ℕ)) (head : Bool) (n : ℕ) (new : List ℕ) (h : ℕ) → Contains (window_handles olds head n new) h
    → Contains (handles olds) h ⊎ Contains new h
window_handles-from olds head zero new h there = absurd (nothing_there h there)
window_handles-from [] head (suc n) new h there = inr there
window_handles-from (x ∷ xs) head (suc zero) new h there =
    inl (subst (Contains (handles (x ∷ xs))) (one_there (greatest x xs) h there) (greatest-there x xs))
window_handles-from (x ∷ []) true (suc (suc n)) new h there = elim (contains_cases x.0 new h there) [
  | inl is ↦ inl (subst (Contains (x.0 ∷ [])) is (contains_first x.0 []))
  | inr later ↦ inr later
]
window_handles-from (x ∷ []) false (suc (suc n)) new h there = elim (Contains-append_cases new (x.0 ∷ []) h there) [
  | inl before ↦ inr before
  | inr at ↦ inl at
]
window_handles-from (x ∷ next ∷ xs) head (suc (suc n)) new h there =
    let rest : List ℕ = handles (next ∷ xs) in
    let m : ℕ = length xs in
    elim (contains_cases x.0 ((take n (take m rest) ++ new) ++ drop m rest) h there) [
      | inl is ↦ inl (subst (Contains (x.0 ∷ rest)) is (contains_first x.0 rest))
      | inr later ↦ elim (Contains-append_cases (take n (take m rest) ++ new) (drop m rest) h later) [
        | inr end ↦ inl (contains_later x.0 rest h (there_behind m rest h end))
        | inl front ↦ elim (Contains-append_cases (take n (take m rest)) new h front) [
          | inl old ↦ inl (contains_later x.0 rest h (there_before m rest h (there_before n (take m rest) h old)))
          | inr fresh ↦ inr fresh
        ]
      ]
    ]

-- None is there twice.
pub window_handles-once : (olds : List (ℕ × ℕ)) (head : Bool) (n : ℕ) (new : List ℕ) → all_distinct (handles olds) ≡ true → all_distinct new ≡ true
    → ((h : ℕ) → Contains (handles olds) h → Contains new h → ⊥) → all_distinct (window_handles olds head n new) ≡ true
window_handles-once olds head zero new old_once new_once apart = refl
window_handles-once [] head (suc n) new old_once new_once apart = new_once
window_handles-once (x ∷ xs) head (suc zero) new old_once new_once apart = refl
window_handles-once (x ∷ []) true (suc (suc n)) new old_once new_once apart =
    distinct-cons x.0 new (λ there. apart x.0 (contains_first x.0 []) there) new_once
window_handles-once (x ∷ []) false (suc (suc n)) new old_once new_once apart =
    distinct-append new (x.0 ∷ []) new_once refl (λ h first last. apart h last first)
window_handles-once (x ∷ next ∷ xs) head (suc (suc n)) new old_once new_once apart =
    let rest : List ℕ = handles (next ∷ xs) in
    let m : ℕ = length xs in
    let a : List ℕ = take n (take m rest) in
    let z : List ℕ = drop m rest in
    let first_absent : Contains rest x.0 → ⊥ = distinct-first x.0 rest old_once in
    let rest_once = distinct-rest x.0 rest old_once in
    let halves = distinct-parts (take m rest) z (ap all_distinct (take-append-drop m rest) ∙ rest_once) in
    let a_once = (distinct-parts a (drop n (take m rest)) (ap all_distinct (take-append-drop n (take m rest)) ∙ halves.0)).0 in
    let in_rest : (h : ℕ) → Contains a h → Contains rest h = λ h at. there_before m rest h (there_before n (take m rest) h at) in
    let front : all_distinct (a ++ new) ≡ true =
    distinct-append a new a_once new_once (λ h old fresh. apart h (contains_later x.0 rest h (in_rest h old)) fresh) in
    let all : all_distinct ((a ++ new) ++ z) ≡ true =
    distinct-append (a ++ new) z front halves.1 (λ h at end. elim (Contains-append_cases a new h at) [
      | inl old ↦ halves.2 h (there_before n (take m rest) h old) end
      | inr fresh ↦ apart h (contains_later x.0 rest h (there_behind m rest h end)) fresh
    ]) in
    distinct-cons x.0 ((a ++ new) ++ z) (λ at. elim (Contains-append_cases (a ++ new) z x.0 at) [
      | inr end ↦ first_absent (there_behind m rest x.0 end)
      | inl early ↦ elim (Contains-append_cases a new x.0 early) [
        | inl old ↦ first_absent (in_rest x.0 old)
        | inr fresh ↦ apart x.0 (contains_first x.0 rest) fresh
      ]
    ]) all

-- The handles at some places of a list.
pub handles-places : (hs : List ℕ) (a n : ℕ) → a + n ≤ length hs → map (λ k. get_or hs k 0) (range_with_len a n) ≡ take n (drop a hs)
handles-places hs a zero within = refl
handles-places hs a (suc n) within =
    let next : a + 1 ≡ suc a = omega arith in
    ap (λ (xs : List ℕ). get_or hs a 0 ∷ xs) (handles-places hs (a + 1) n (omega arith))
    ∙ ap (λ (xs : List ℕ). take (suc n) xs) (sym (drop_more hs a 0 (omega arith)))

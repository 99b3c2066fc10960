-- Handles of which none is there twice.
use Rattle.std.proofs.Common.{◌≡◌, ℕ, suc, ◌+◌, ◌*◌, ◌≤◌, Bool, true, false, not, ◌||◌, ◌==◌, if◌then◌else◌, nat_lt, cond, List, [], ◌∷◌, ◌++◌, length, take, drop, filter, get_or, replicate, Option, None, is_none, count_by, refl, sym, ap, subst, ◌∙◌, inl, inr, arith, lt-ltb}
use Rattle.std.proofs.lemmas.Bool.{cases_Bool, and_from, not_from_false, eqb-true, cond-true, cond-false, eq-eqb, true≢false}
use Rattle.std.proofs.lemmas.List.{length-replicate, get_or-replicate, take-append-drop}
use Rattle.std.proofs.lemmas.List.Folds.{sum_by-replicate}
use Rattle.std.proofs.lemmas.List.Elements.{Contains-append_left, Contains-append_right, Contains-append_cases, All-contains, All-contains_itself, All-filter}
use Rattle.std.specs.List.{Contains, list_any, list_all}
use Rattle.geos_model.specs.ElementArray.{Element, all_distinct}
use Rattle.geos_model.proofs.Chains.{contains_cases, contains_first, contains_later}
use Rattle.geos_model.proofs.BlockLists.{distinct-first, distinct-rest}
use Rattle.geos_model.proofs.FreeLists.{free_in, length-free_le}

-- Numbers up to one, none of them twice, are one more than that at most.

abbrev free_slots : ℕ → List (Option Element)
free_slots n = replicate {A = Option Element} (suc n) None

count-slots : (n : ℕ) → count_by is_none (free_slots n) ≡ suc n
count-slots n =
    let each : count_by is_none (free_slots n) ≡ suc n * 1 = sum_by-replicate {X = Option Element} (λ o. cond (is_none o) 1 0) (suc n) None in
    let all : suc n * 1 ≡ suc n = omega arith in
    each ∙ all

slot_free : (n h : ℕ) → h ≤ n → free_in (free_slots n) h ≡ true
slot_free n h low =
    let long = length-replicate {A = Option Element} (suc n) None in
    let here = get_or-replicate {A = Option Element} (suc n) h None None (omega arith) in
    and_from (nat_lt h (length (free_slots n))) (is_none (get_or (free_slots n) h None)) (lt-ltb h (length (free_slots n)) (omega arith)) (ap is_none here)

slots_free : (n : ℕ) (hs : List ℕ) → ((h : ℕ) → Contains hs h → h ≤ n) → list_all (free_in (free_slots n)) hs ≡ true
slots_free n [] low = refl
slots_free n (h ∷ hs) low =
    and_from (free_in (free_slots n) h) (list_all (free_in (free_slots n)) hs) (slot_free n h (low h (contains_first h hs)))
    (slots_free n hs (λ x there. low x (contains_later h hs x there)))

pub distinct-few : (n : ℕ) (hs : List ℕ) → all_distinct hs ≡ true → ((h : ℕ) → Contains hs h → h ≤ n) → length hs ≤ suc n
distinct-few n hs once low =
    let few = length-free_le (free_slots n) hs once (slots_free n hs low) in
    let many = count-slots n in
    omega arith

-- Lists in a row.

-- what isn't there isn't found
absent_none : (h : ℕ) (hs : List ℕ) → (Contains hs h → ⊥) → list_any (λ y. h == y) hs ≡ false
absent_none h [] absent = refl
absent_none h (x ∷ hs) absent =
    let rest = absent_none h hs (λ there. absent (contains_later x hs h there)) in
    elim (cases_Bool (h == x)) [
      | inl is ↦ absurd (absent (subst (Contains (x ∷ hs)) (sym (eqb-true h x is)) (contains_first x hs)))
      | inr other ↦ ap (λ (b : Bool). b || list_any (λ y. h == y) hs) other ∙ rest
    ]

pub distinct-cons : (h : ℕ) (hs : List ℕ) → (Contains hs h → ⊥) → all_distinct hs ≡ true → all_distinct (h ∷ hs) ≡ true
distinct-cons h hs absent once =
    and_from (not (list_any (λ y. h == y) hs)) (all_distinct hs) (not_from_false (list_any (λ y. h == y) hs) (absent_none h hs absent)) once

pub distinct-append : (xs ys : List ℕ) → all_distinct xs ≡ true → all_distinct ys ≡ true → ((h : ℕ) → Contains xs h → Contains ys h → ⊥)
    → all_distinct (xs ++ ys) ≡ true
distinct-append [] ys left right apart = right
distinct-append (x ∷ xs) ys left right apart =
    distinct-cons x (xs ++ ys)
    (λ there. elim (Contains-append_cases xs ys x there) [
      | inl within ↦ distinct-first x xs left within
      | inr beyond ↦ apart x (contains_first x xs) beyond
    ])
    (distinct-append xs ys (distinct-rest x xs left) right (λ h first last. apart h (contains_later x xs h first) last))

pub distinct-parts : (xs ys : List ℕ) → all_distinct (xs ++ ys) ≡ true
    → (all_distinct xs ≡ true) × (all_distinct ys ≡ true) × ((h : ℕ) → Contains xs h → Contains ys h → ⊥)
distinct-parts [] ys once = (refl, once, λ h first last. absurd (let low = first.1 in omega arith))
distinct-parts (x ∷ xs) ys once =
    let rest = distinct-parts xs ys (distinct-rest x (xs ++ ys) once) in
    let absent : Contains (xs ++ ys) x → ⊥ = distinct-first x (xs ++ ys) once in (
      distinct-cons x xs (λ there. absent (Contains-append_left xs ys x there)) rest.0,
      rest.1,
      λ h first last. elim (contains_cases x xs h first) [
        | inl is ↦ absent (subst (Contains (xs ++ ys)) (sym is) (Contains-append_right xs ys h last))
        | inr later ↦ rest.2 h later last
      ],
    )

-- some of them
pub distinct-filter : (p : ℕ → Bool) (hs : List ℕ) → all_distinct hs ≡ true → all_distinct (filter p hs) ≡ true
distinct-filter p [] once = refl
distinct-filter p (h ∷ hs) once =
    let rest = distinct-filter p hs (distinct-rest h hs once) in
    let absent : Contains (filter p hs) h → ⊥ =
    λ there. distinct-first h hs once (All-contains (Contains hs) (filter p hs) h (All-filter p (Contains hs) hs (All-contains_itself hs)) there) in
    elim (cases_Bool (p h)) [
      | inl keep ↦ ap all_distinct (cond-true (p h) (h ∷ filter p hs) (filter p hs) keep) ∙ distinct-cons h (filter p hs) absent rest
      | inr go ↦ ap all_distinct (cond-false (p h) (h ∷ filter p hs) (filter p hs) go) ∙ rest
    ]

-- what is among the first or among the rest is there
pub there_before : (n : ℕ) (hs : List ℕ) (h : ℕ) → Contains (take n hs) h → Contains hs h
there_before n hs h there = subst (λ xs. Contains xs h) (take-append-drop n hs) (Contains-append_left (take n hs) (drop n hs) h there)

pub there_behind : (n : ℕ) (hs : List ℕ) (h : ℕ) → Contains (drop n hs) h → Contains hs h
there_behind n hs h there = subst (λ xs. Contains xs h) (take-append-drop n hs) (Contains-append_right (take n hs) (drop n hs) h there)

-- Handles of which none is there twice are no more than those among which they are.

abbrev without : ℕ → List ℕ → List ℕ
without h [] = []
without h (x ∷ xs) = if x == h then xs else x ∷ without h xs

without-fewer : (h : ℕ) (xs : List ℕ) → Contains xs h → length (without h xs) + 1 ≡ length xs
without-fewer h [] there = absurd (let low = there.1 in omega arith)
without-fewer h (x ∷ xs) there = elim (cases_Bool (x == h)) [
  | inl is ↦ (let same : length (without h (x ∷ xs)) ≡ length xs = ap length (cond-true (x == h) xs (x ∷ without h xs) is) in omega arith)
  | inr other ↦
      (let later : Contains xs h = elim (contains_cases x xs h there) [
        | inl at ↦ absurd (true≢false (sym (eq-eqb x h at) ∙ other))
        | inr beyond ↦ beyond
      ] in
      let rest = without-fewer h xs later in
      let same : length (without h (x ∷ xs)) ≡ suc (length (without h xs)) = ap length (cond-false (x == h) xs (x ∷ without h xs) other) in
      omega arith)
]

without-others : (h y : ℕ) (xs : List ℕ) → Contains xs y → (y ≡ h → ⊥) → Contains (without h xs) y
without-others h y [] there apart = there
without-others h y (x ∷ xs) there apart = elim (cases_Bool (x == h)) [
  | inl is ↦ subst (λ zs. Contains zs y) (sym (cond-true (x == h) xs (x ∷ without h xs) is)) (elim (contains_cases x xs y there) [
    | inl at ↦ absurd (apart (sym at ∙ eqb-true x h is))
    | inr beyond ↦ beyond
  ])
  | inr other ↦ subst (λ zs. Contains zs y) (sym (cond-false (x == h) xs (x ∷ without h xs) other)) (elim (contains_cases x xs y there) [
    | inl at ↦ subst (Contains (x ∷ without h xs)) at (contains_first x (without h xs))
    | inr beyond ↦ contains_later x (without h xs) y (without-others h y xs beyond apart)
  ])
]

pub contained-few : (hs xs : List ℕ) → all_distinct hs ≡ true → ((h : ℕ) → Contains hs h → Contains xs h) → length hs ≤ length xs
contained-few [] xs once within = omega arith
contained-few (h ∷ hs) xs once within =
    let here = within h (contains_first h hs) in
    let fewer = without-fewer h xs here in
    let rest = contained-few hs (without h xs) (distinct-rest h hs once) (λ y there.
    without-others h y xs (within y (contains_later h hs y there)) (λ is. distinct-first h hs once (subst (Contains hs) is there))) in
    omega arith

-- The handles that copies of blocks get.
use Rattle.std.proofs.Common.{◌≡◌, ℕ, zero, suc, ◌+◌, ◌-◌, ◌<◌, ◌≤◌, Bool, true, false, not, ◌==◌, nat_le, nat_lt, List, [], ◌∷◌, length, take, filter, refl, sym, ap, subst, ◌∙◌, inl, inr, arith, lt-ltb, leb-true, le-leb, length-take-le}
use Rattle.std.proofs.lemmas.Bool.{cases_Bool, and_parts, and_from, or_from, cond-true, cond-false, not-true, not_from_false, eqb-true, ltb-true, true≢false}
use Rattle.std.proofs.lemmas.List.FromFn.{length-range_with_len, get_or-range_with_len}
use Rattle.std.proofs.lemmas.List.Elements.{All-nil, All-cons, All-contains, All-take, All-filter, filter_passes}
use Rattle.std.specs.List.{All, Contains, list_all, list_any, range_with_len}
use Rattle.geos_model.specs.ElementArray.{all_distinct}
use Rattle.geos_model.specs.Document.{Document, most_blocks, vm_handles, is_vm_handle, is_live}
use Rattle.geos_model.specs.Chain.{free_handles, new_handles}
use Rattle.geos_model.specs.ChainLaws.{handles_rise, AreNew}
use Rattle.geos_model.proofs.Chains.{contains_cases, contains_first, contains_later}

-- Rising lists.

above-range : (x a n : ℕ) → x < a → list_all (nat_lt x) (range_with_len a n) ≡ true
above-range x a zero low = refl
above-range x a (suc n) low = and_from (nat_lt x a) (list_all (nat_lt x) (range_with_len (a + 1) n)) (lt-ltb x a low) (above-range x (a + 1) n (omega arith))

rising-range : (a n : ℕ) → handles_rise (range_with_len a n) ≡ true
rising-range a zero = refl
rising-range a (suc n) = and_from (list_all (nat_lt a) (range_with_len (a + 1) n)) (handles_rise (range_with_len (a + 1) n)) (above-range a (a + 1) n (omega arith)) (rising-range (a + 1) n)

list_all-filter : (p q : ℕ → Bool) (xs : List ℕ) → list_all q xs ≡ true → list_all q (filter p xs) ≡ true
list_all-filter p q [] all = refl
list_all-filter p q (x ∷ xs) all =
    let parts = and_parts (q x) (list_all q xs) all in
    let rest = list_all-filter p q xs parts.1 in
    elim (cases_Bool (p x)) [
      | inl e ↦ ap (list_all q) (cond-true (p x) _ _ e) ∙ and_from (q x) (list_all q (filter p xs)) parts.0 rest
      | inr e ↦ ap (list_all q) (cond-false (p x) _ _ e) ∙ rest
    ]

rising-filter : (p : ℕ → Bool) (xs : List ℕ) → handles_rise xs ≡ true → handles_rise (filter p xs) ≡ true
rising-filter p [] up = refl
rising-filter p (x ∷ xs) up =
    let parts = and_parts (list_all (nat_lt x) xs) (handles_rise xs) up in
    let rest = rising-filter p xs parts.1 in
    elim (cases_Bool (p x)) [
      | inl e ↦ ap handles_rise (cond-true (p x) _ _ e) ∙ and_from (list_all (nat_lt x) (filter p xs)) (handles_rise (filter p xs)) (list_all-filter p (nat_lt x) xs parts.0) rest
      | inr e ↦ ap handles_rise (cond-false (p x) _ _ e) ∙ rest
    ]

list_all-take : (q : ℕ → Bool) (n : ℕ) (xs : List ℕ) → list_all q xs ≡ true → list_all q (take n xs) ≡ true
list_all-take q zero xs all = refl
list_all-take q (suc n) [] all = refl
list_all-take q (suc n) (x ∷ xs) all =
    let parts = and_parts (q x) (list_all q xs) all in
    and_from (q x) (list_all q (take n xs)) parts.0 (list_all-take q n xs parts.1)

rising-take : (n : ℕ) (xs : List ℕ) → handles_rise xs ≡ true → handles_rise (take n xs) ≡ true
rising-take zero xs up = refl
rising-take (suc n) [] up = refl
rising-take (suc n) (x ∷ xs) up =
    let parts = and_parts (list_all (nat_lt x) xs) (handles_rise xs) up in
    and_from (list_all (nat_lt x) (take n xs)) (handles_rise (take n xs)) (list_all-take (nat_lt x) n xs parts.0) (rising-take n xs parts.1)

-- none of a rising list is there twice
met_none : (x : ℕ) (xs : List ℕ) → list_all (nat_lt x) xs ≡ true → list_any (λ y. x == y) xs ≡ false
met_none x [] above = refl
met_none x (y ∷ ys) above =
    let parts = and_parts (nat_lt x y) (list_all (nat_lt x) ys) above in
    let less : x < y = ltb-true x y parts.0 in
    or_from (x == y) (list_any (λ z. x == z) ys) (unequal x y less) (met_none x ys parts.1)
  where
    unequal : (a b : ℕ) → a < b → (a == b) ≡ false
    unequal a b less = elim (cases_Bool (a == b)) [
      | inl e ↦ (let same : a ≡ b = eqb-true a b e in absurd (omega arith))
      | inr e ↦ e
    ]

rising-distinct : (xs : List ℕ) → handles_rise xs ≡ true → all_distinct xs ≡ true
rising-distinct [] up = refl
rising-distinct (x ∷ xs) up =
    let parts = and_parts (list_all (nat_lt x) xs) (handles_rise xs) up in
    and_from (not (list_any (λ y. x == y) xs)) (all_distinct xs) (not_from_false (list_any (λ y. x == y) xs) (met_none x xs parts.0)) (rising-distinct xs parts.1)

-- what passes is kept
pub kept-there : (p : ℕ → Bool) (xs : List ℕ) (x : ℕ) → Contains xs x → p x ≡ true → Contains (filter p xs) x
kept-there p [] x there good = there
kept-there p (y ∷ ys) x there good = elim (cases_Bool (p y)) [
  | inl e ↦ subst (λ zs. Contains zs x) (sym (cond-true (p y) (y ∷ filter p ys) (filter p ys) e)) (elim (contains_cases y ys x there) [
    | inl is ↦ subst (Contains (y ∷ filter p ys)) is (contains_first y (filter p ys))
    | inr later ↦ contains_later y (filter p ys) x (kept-there p ys x later good)
  ])
  | inr e ↦ subst (λ zs. Contains zs x) (sym (cond-false (p y) (y ∷ filter p ys) (filter p ys) e)) (elim (contains_cases y ys x there) [
    | inl is ↦ absurd (true≢false (sym good ∙ ap p (sym is) ∙ e))
    | inr later ↦ kept-there p ys x later good
  ])
]

-- what a rising list has behind its first so many is greater than these
behind_taken : (n : ℕ) (xs : List ℕ) (x y : ℕ) → handles_rise xs ≡ true → Contains xs x → (Contains (take n xs) x → ⊥) → Contains (take n xs) y → y < x
behind_taken zero xs x y up there absent taken = absurd (let low = taken.1 in omega arith)
behind_taken (suc n) [] x y up there absent taken = absurd (absent there)
behind_taken (suc n) (z ∷ zs) x y up there absent taken =
    let parts = and_parts (list_all (nat_lt z) zs) (handles_rise zs) up in
    elim (contains_cases z zs x there) [
      | inl is ↦ absurd (absent (subst (Contains (z ∷ take n zs)) is (contains_first z (take n zs))))
      | inr later ↦ elim (contains_cases z (take n zs) y taken) [
        | inl is ↦ (let less : z < x = all_above z zs x parts.0 later in omega arith)
        | inr within ↦ behind_taken n zs x y parts.1 later (λ at. absent (contains_later z (take n zs) x at)) within
      ]
    ]
  where
    all_above : (a : ℕ) (bs : List ℕ) (b : ℕ) → list_all (nat_lt a) bs ≡ true → Contains bs b → a < b
    all_above a [] b above at = absurd (let low = at.1 in omega arith)
    all_above a (c ∷ cs) b above at =
        let halves = and_parts (nat_lt a c) (list_all (nat_lt a) cs) above in
        elim (contains_cases c cs b at) [
          | inl is ↦ (let less = ltb-true a c halves.0 in omega arith)
          | inr later ↦ all_above a cs b halves.1 later
        ]

-- The handles of a document.

handles-range : (a n : ℕ) → 1 ≤ a → a + n ≤ suc most_blocks → All (λ h. is_vm_handle h ≡ true) (range_with_len a n)
handles-range a zero one low = All-nil (λ h. is_vm_handle h ≡ true)
handles-range a (suc n) one low =
    All-cons (λ h. is_vm_handle h ≡ true) a (range_with_len (a + 1) n)
    (and_from (nat_le 1 a) (nat_le a most_blocks) (le-leb 1 a one) (le-leb a most_blocks (omega arith)))
    (handles-range (a + 1) n (omega arith) (omega arith))

vm_handles-all : All (λ h. is_vm_handle h ≡ true) vm_handles
unfolding vm_handles
vm_handles-all = handles-range 1 most_blocks (omega arith) (omega arith)

vm_handles-rising : handles_rise vm_handles ≡ true
unfolding vm_handles
vm_handles-rising = rising-range 1 most_blocks

vm_handles-there : (x : ℕ) → is_vm_handle x ≡ true → Contains vm_handles x
unfolding vm_handles
vm_handles-there x handle =
    let parts = and_parts (nat_le 1 x) (nat_le x most_blocks) handle in
    let some = leb-true 1 x parts.0 in
    let low = leb-true x most_blocks parts.1 in
    range-there 1 most_blocks x some (omega arith)
  where
    range-there : (a n y : ℕ) → a ≤ y → y < a + n → Contains (range_with_len a n) y
    range-there a n y from below =
        let many = length-range_with_len a n in
        let at : a + (y - a) ≡ y = omega arith in
        (y - a, omega arith, get_or-range_with_len a n (y - a) y (omega arith) ∙ at)

pub new-new : (d : Document) (n : ℕ) → n ≤ length (free_handles d) → AreNew d n (new_handles d n)
new-new d n enough =
    let free : ℕ → Bool = λ h. not (is_live d h) in
    let all_up = rising-filter free vm_handles vm_handles-rising in
    let up = rising-take n (free_handles d) all_up in
    let handles = All-take (λ h. is_vm_handle h ≡ true) n (free_handles d) (All-filter free (λ h. is_vm_handle h ≡ true) vm_handles vm_handles-all) in
    let frees = All-take (λ h. free h ≡ true) n (free_handles d) (filter_passes free vm_handles) in record {
      as_many = length-take-le n (free_handles d) enough;
      handle = λ x there. All-contains (λ h. is_vm_handle h ≡ true) (new_handles d n) x handles there;
      not_live = λ x there. not-true (is_live d x) (All-contains (λ h. free h ≡ true) (new_handles d n) x frees there);
      once = rising-distinct (new_handles d n) up;
      rising = up;
      least = λ x y handle not_live absent there.
          behind_taken n (free_handles d) x y all_up (kept-there free vm_handles x (vm_handles-there x handle) (ap not not_live)) absent there;
    }

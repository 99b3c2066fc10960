-- Lists of free tokens: each token's link is the next token of the list, and the last one's says that there is none.
use Rattle.std.proofs.Common.{◌≡◌, ◌≢◌, ℕ, zero, suc, ◌+◌, ◌<◌, ◌≤◌, Bool, true, false, not, ◌&&◌, ◌||◌, ◌==◌, nat_lt, cond, List, [], ◌∷◌, length, get_or, set, Option, Some, None, is_none, count_by, refl, sym, ap, ap₂, subst, ◌∙◌, arith, inl, inr, eqb-true, eq-eqb, ltb-true, get_or-set_other, length-set}
use Rattle.std.proofs.lemmas.Bool.{cases_Bool, and_parts, and_from, or_from, or_parts, or_left, or_right, not_from_false, not-true, true≢false, cond-true, cond-false}
use Rattle.std.proofs.lemmas.List.Sums.{sum_by-set}
use Rattle.std.specs.List.{list_all, list_any}
use Rattle.geos_model.specs.ElementArray.{Element, Slots, no_token, first_token, token_after, all_distinct, is_free}

-- each token's link is the token after it, and the last one's says that there is none
abbrev pub links : (ℕ → ℕ) → List ℕ → Type 0
links link [] = Unit {0}
links link (t ∷ ts) = (link t ≡ first_token ts) × links link ts

-- none of them says that there is none
abbrev pub are_tokens : List ℕ → Bool
are_tokens ts = list_all (λ t. nat_lt t no_token) ts

-- from one token on, links lead one way
pub same_walk : (link : ℕ → ℕ) (xs ys : List ℕ) → links link xs → links link ys → are_tokens xs ≡ true → are_tokens ys ≡ true → first_token xs ≡ first_token ys → xs ≡ ys
same_walk link [] [] lx ly tx ty e = refl
same_walk link [] (y ∷ ys) lx ly tx ty e =
    let low : y < no_token = ltb-true y no_token (and_parts (nat_lt y no_token) (are_tokens ys) ty).0 in
    absurd (omega arith)
same_walk link (x ∷ xs) [] lx ly tx ty e =
    let low : x < no_token = ltb-true x no_token (and_parts (nat_lt x no_token) (are_tokens xs) tx).0 in
    absurd (omega arith)
same_walk link (x ∷ xs) (y ∷ ys) lx ly tx ty e =
    let next : first_token xs ≡ first_token ys = sym lx.0 ∙ ap link e ∙ ly.0 in
    let rest : xs ≡ ys = same_walk link xs ys lx.1 ly.1 (and_parts (nat_lt x no_token) (are_tokens xs) tx).1 (and_parts (nat_lt y no_token) (are_tokens ys) ty).1 next in
    ap₂ (λ (t : ℕ) (ts : List ℕ). t ∷ ts) e rest

-- A walk's first token isn't met again: what follows the second place would be as long as what follows the first.
not_again : (link : ℕ → ℕ) (x : ℕ) (xs zs : List ℕ) → links link (x ∷ xs) → are_tokens (x ∷ xs) ≡ true → links link zs → are_tokens zs ≡ true → length zs ≤ length xs → list_any (λ y. x == y) zs ≡ false
not_again link x xs [] l t m u short = refl
not_again link x xs (z ∷ zs) l t m u short =
    let later : list_any (λ y. x == y) zs ≡ false = not_again link x xs zs l t m.1 (and_parts (nat_lt z no_token) (are_tokens zs) u).1 (omega arith) in
    elim (cases_Bool (x == z)) [
      | inl same ↦ (let is : x ∷ xs ≡ z ∷ zs = same_walk link (x ∷ xs) (z ∷ zs) l m t u (eqb-true x z same) in
          let long : suc (length xs) ≡ suc (length zs) = ap length is in
          absurd (omega arith))
      | inr other ↦ or_from (x == z) (list_any (λ y. x == y) zs) other later
    ]

-- A walk that ends has no token twice.
pub distinct_walk : (link : ℕ → ℕ) (ts : List ℕ) → links link ts → are_tokens ts ≡ true → all_distinct ts ≡ true
distinct_walk link [] l t = refl
distinct_walk link (x ∷ xs) l t =
    let rest : are_tokens xs ≡ true = (and_parts (nat_lt x no_token) (are_tokens xs) t).1 in
    let once : list_any (λ y. x == y) xs ≡ false = not_again link x xs xs l t l.1 rest (omega arith) in
    and_from (not (list_any (λ y. x == y) xs)) (all_distinct xs) (not_from_false (list_any (λ y. x == y) xs) once) (distinct_walk link xs l.1 rest)

-- a link of a walk is the one that a free list gives the token
pub token_after-link : (link : ℕ → ℕ) (ts : List ℕ) (t : ℕ) → links link ts → list_any (λ x. x == t) ts ≡ true → token_after ts t ≡ link t
token_after-link link [] t l met = absurd (true≢false (sym met))
token_after-link link (x ∷ xs) t l met = elim (cases_Bool (x == t)) [
  | inl here ↦ cond-true (x == t) _ _ here ∙ sym l.0 ∙ ap link (eqb-true x t here)
  | inr past ↦ cond-false (x == t) _ _ past ∙ token_after-link link xs t l.1 (subst (λ b. (b || list_any (λ y. y == t) xs) ≡ true) past met)
]

-- so many steps from a token meet tokens of a kind alone, and then no token is left
abbrev pub walk_ends : (ℕ → Bool) → (ℕ → ℕ) → ℕ → ℕ → Bool
walk_ends kind link zero t = t == no_token
walk_ends kind link (suc steps) t = kind t && walk_ends kind link steps (link t)

-- the tokens that they meet
abbrev pub walked : (ℕ → ℕ) → ℕ → ℕ → List ℕ
walked link zero t = []
walked link (suc steps) t = t ∷ walked link steps (link t)

pub length-walked : (link : ℕ → ℕ) (steps t : ℕ) → length (walked link steps t) ≡ steps
length-walked link zero t = refl
length-walked link (suc steps) t = ap suc (length-walked link steps (link t))

pub first_token-walked : (kind : ℕ → Bool) (link : ℕ → ℕ) (steps t : ℕ) → walk_ends kind link steps t ≡ true → first_token (walked link steps t) ≡ t
first_token-walked kind link zero t e = sym (eqb-true t no_token e)
first_token-walked kind link (suc steps) t e = refl

pub links-walked : (kind : ℕ → Bool) (link : ℕ → ℕ) (steps t : ℕ) → walk_ends kind link steps t ≡ true → links link (walked link steps t)
links-walked kind link zero t e = tt
links-walked kind link (suc steps) t e =
    let rest : walk_ends kind link steps (link t) ≡ true = (and_parts (kind t) (walk_ends kind link steps (link t)) e).1 in
    (sym (first_token-walked kind link steps (link t) rest), links-walked kind link steps (link t) rest)

pub all-walked : (kind : ℕ → Bool) (link : ℕ → ℕ) (steps t : ℕ) → walk_ends kind link steps t ≡ true → list_all kind (walked link steps t) ≡ true
all-walked kind link zero t e = refl
all-walked kind link (suc steps) t e =
    let parts = and_parts (kind t) (walk_ends kind link steps (link t)) e in
    and_from (kind t) (list_all kind (walked link steps (link t))) parts.0 (all-walked kind link steps (link t) parts.1)

-- a list that links lead along is walked in as many steps
pub walk_ends-links : (kind : ℕ → Bool) (link : ℕ → ℕ) (ts : List ℕ) → links link ts → list_all kind ts ≡ true → walk_ends kind link (length ts) (first_token ts) ≡ true
walk_ends-links kind link [] l all = refl
walk_ends-links kind link (t ∷ ts) l all =
    let parts = and_parts (kind t) (list_all kind ts) all in
    and_from (kind t) (walk_ends kind link (length ts) (link t)) parts.0
    (ap (walk_ends kind link (length ts)) l.0 ∙ walk_ends-links kind link ts l.1 parts.1)

-- a token of a slot that is free, by the slots alone
abbrev pub free_in : List (Option Element) → ℕ → Bool
free_in slots t = nat_lt t (length slots) && is_none (get_or slots t None)

free_in-lt : (slots : List (Option Element)) (t : ℕ) → free_in slots t ≡ true → t < length slots
free_in-lt slots t f = ltb-true t (length slots) (and_parts (nat_lt t (length slots)) (is_none (get_or slots t None)) f).0

-- a free slot that is used from now on is one free slot less
count_by-used : (slots : List (Option Element)) (t : ℕ) (e : Element) → free_in slots t ≡ true → count_by is_none (set slots t (Some e)) + 1 ≡ count_by is_none slots
count_by-used slots t e f =
    let free : is_none (get_or slots t None) ≡ true = (and_parts (nat_lt t (length slots)) (is_none (get_or slots t None)) f).1 in
    let one : ◌≡◌ {A = ℕ} (cond (is_none (get_or slots t None)) 1 0) 1 = ap {B = ℕ} (λ (b : Bool). cond b 1 0) free in
    let sums = sum_by-set (λ x. cond (is_none x) 1 0) slots t (Some e) None (free_in-lt slots t f) in
    omega (arith, one, sums)

-- other free tokens stay free where a slot is another
pub free_in-set : (slots : List (Option Element)) (t u : ℕ) (slot : Option Element) → (t == u) ≡ false → free_in slots u ≡ true → free_in (set slots t slot) u ≡ true
free_in-set slots t u slot other f =
    let apart : u ≢ t = λ is. true≢false (sym (eq-eqb t u (sym is)) ∙ other) in
    ap₂ (λ (n : ℕ) (o : Option Element). nat_lt u n && is_none o) (length-set slots t slot) (get_or-set_other slots t u slot None apart) ∙ f

pub all_free-set : (slots : List (Option Element)) (t : ℕ) (us : List ℕ) (slot : Option Element) → list_any (λ y. t == y) us ≡ false → list_all (free_in slots) us ≡ true → list_all (free_in (set slots t slot)) us ≡ true
all_free-set slots t [] slot none f = refl
all_free-set slots t (u ∷ us) slot none f =
    let apart = or_parts (t == u) (list_any (λ y. t == y) us) none in
    let free = and_parts (free_in slots u) (list_all (free_in slots) us) f in
    and_from (free_in (set slots t slot) u) (list_all (free_in (set slots t slot)) us) (free_in-set slots t u slot apart.0 free.0) (all_free-set slots t us slot apart.1 free.1)

-- distinct tokens of free slots are no more than these
pub length-free_le : (slots : List (Option Element)) (ts : List ℕ) → all_distinct ts ≡ true → list_all (free_in slots) ts ≡ true → length ts ≤ count_by is_none slots
length-free_le slots [] d f = omega arith
length-free_le slots (t ∷ ts) d f =
    let e : Element = record { count = 0; bytes = [] } in
    let apart = and_parts (not (list_any (λ y. t == y) ts)) (all_distinct ts) d in
    let free = and_parts (free_in slots t) (list_all (free_in slots) ts) f in
    let once : list_any (λ y. t == y) ts ≡ false = not-true (list_any (λ y. t == y) ts) apart.0 in
    let rest = length-free_le (set slots t (Some e)) ts apart.1 (all_free-set slots t ts (Some e) once free.1) in
    let less = count_by-used slots t e free.0 in
    omega (arith, rest, less)

any_turned : (t : ℕ) (ts : List ℕ) → list_any (λ y. t == y) ts ≡ true → list_any (λ x. x == t) ts ≡ true
any_turned t [] m = m
any_turned t (u ∷ us) m = elim (cases_Bool (t == u)) [
  | inl same ↦ or_left (u == t) (list_any (λ x. x == t) us) (eq-eqb u t (sym (eqb-true t u same)))
  | inr other ↦ or_right (u == t) (list_any (λ x. x == t) us) (any_turned t us (subst (λ b. (b || list_any (λ y. t == y) us) ≡ true) other m))
]

-- A free list of distinct tokens of free slots, as long as there are such slots, has the token of each.
pub all_free_met : (s : Slots) (t : ℕ) → list_all (is_free s) s.free ≡ true → all_distinct s.free ≡ true → length s.free ≡ count_by is_none s.slots → is_free s t ≡ true → list_any (λ x. x == t) s.free ≡ true
all_free_met s t f d n free = elim (cases_Bool (list_any (λ y. t == y) s.free)) [
  | inl met ↦ any_turned t s.free met
  | inr missed ↦ (let apart = and_from (not (list_any (λ y. t == y) s.free)) (all_distinct s.free) (not_from_false (list_any (λ y. t == y) s.free) missed) d in
      let more = length-free_le s.slots (t ∷ s.free) apart (and_from (is_free s t) (list_all (is_free s) s.free) free f) in
      absurd (omega (arith, more)))
]

-- How the keys of an order follow from its seats, and where each key is.
use Rattle.std.proofs.Common.{◌≡◌, ◌≢◌, ℕ, zero, suc, ◌+◌, ◌-◌, ◌<◌, ◌≤◌, Bool, true, false, cond, List, [], ◌∷◌, ◌++◌, length, take, map, Option, Some, None, is_some, nat_eq, slice_get, refl, sym, ap, subst, ◌∙◌, inl, inr, arith, eq-eqb}
use Rattle.std.specs.List.{AllByRecursion, IsDistinct}
use Rattle.std.specs.Option.{option_map_or}
use Rattle.std.specs.Map.{keys_of, lookup, lookup_entry, remove_entry}
use Rattle.std.proofs.lemmas.Bool.{ne_eqb}
use Rattle.std.proofs.lemmas.Bool.Decides.{eqb_tells}
use Rattle.lru.specs.LruCache.{last_entry, promoted, demoted}
use Rattle.buffer_pool.specs.Orders.{Seat, AreApart, AreKnown, IsVacant}
use Rattle.buffer_pool.specs.Places.{place_at}
use Rattle.buffer_pool.specs.declared.places.Place.{Place}

-- what a key's entry is

module _ {X : Type 0} (s : ℕ) where
  -- a value that is found is that of an entry with the key
  pub entry_of : (es : List (ℕ × X)) (v : X) → lookup (nat_eq s) es ≡ Some v → lookup_entry (nat_eq s) es ≡ Some (s, v)
  entry_of [] v is = absurd (cc is)
  entry_of (x ∷ es) v is = elim (eqb_tells s x.0) as (λ _. lookup_entry (nat_eq s) (x ∷ es) ≡ Some (s, v)) [
    | inl hit ↦
        let at : Some x.1 ≡ Some v = sym (ap (λ b. cond b (Some x.1) (lookup (nat_eq s) es)) hit.0) ∙ is in
        let same : x.1 ≡ v = cc at in
        ap (λ b. cond b (Some x) (lookup_entry (nat_eq s) es)) hit.0 ∙ (λ i. Some (sym hit.1 i, same i))
    | inr miss ↦
        ap (λ b. cond b (Some x) (lookup_entry (nat_eq s) es)) miss.0
        ∙ entry_of es v (sym (ap (λ b. cond b (Some x.1) (lookup (nat_eq s) es)) miss.0) ∙ is)
  ]

  -- what the first ones have all have
  pub found_in : (n : ℕ) (es : List (ℕ × X)) (v : X) → lookup (nat_eq s) (take n es) ≡ Some v → lookup (nat_eq s) es ≡ Some v
  found_in zero es v is = absurd (cc is)
  found_in (suc n) [] v is = absurd (cc is)
  found_in (suc n) (x ∷ es) v is = (elim (nat_eq s x.0) as (λ b. cond b (Some x.1) (lookup (nat_eq s) (take n es)) ≡ Some v → cond b (Some x.1) (lookup (nat_eq s) es) ≡ Some v) [
    | true ↦ λ at. at
    | false ↦ λ more. found_in n es v more
  ]) is

  -- without one of the first, all the others follow what is put before
  pub first_without : (n : ℕ) (e : ℕ × X) (es : List (ℕ × X)) (v : X) → lookup (nat_eq s) (take n es) ≡ Some v → take n (e ∷ remove_entry (nat_eq s) es) ≡ e ∷ remove_entry (nat_eq s) (take n es)
  first_without zero e es v is = absurd (cc is)
  first_without (suc n) e [] v is = absurd (cc is)
  first_without (suc n) e (x ∷ es) v is = ap (λ xs. e ∷ xs) ((elim (nat_eq s x.0) as (λ b. cond b (Some x.1) (lookup (nat_eq s) (take n es)) ≡ Some v → take n (cond b es (x ∷ remove_entry (nat_eq s) es)) ≡ cond b (take n es) (x ∷ remove_entry (nat_eq s) (take n es))) [
    | true ↦ λ at. refl
    | false ↦ λ more. first_without n x es v more
  ]) is)

  pub some_first : (n : ℕ) (es : List (ℕ × X)) (v : X) → lookup (nat_eq s) (take n es) ≡ Some v → 1 ≤ n
  some_first zero es v is = absurd (cc is)
  some_first (suc n) es v is = omega arith

  pub length_without : (es : List (ℕ × X)) (v : X) → lookup (nat_eq s) es ≡ Some v → length es ≡ length (remove_entry (nat_eq s) es) + 1
  length_without [] v is = absurd (cc is)
  length_without (x ∷ es) v is = (elim (nat_eq s x.0) as (λ b. cond b (Some x.1) (lookup (nat_eq s) es) ≡ Some v → length (x ∷ es) ≡ length (cond b es (x ∷ remove_entry (nat_eq s) es)) + 1) [
    | true ↦ λ at. omega arith
    | false ↦ λ more. omega (arith, length_without es v more)
  ]) is

  -- where none of the first is taken out, they stay
  pub first_stay : (n : ℕ) (es : List (ℕ × X)) → AllByRecursion (λ e. e.0 ≢ s) (take n es) → take n (remove_entry (nat_eq s) es) ≡ take n es
  first_stay zero es clear = refl
  first_stay (suc n) [] clear = refl
  first_stay (suc n) (x ∷ es) clear =
      ap (λ b. take (suc n) (cond b es (x ∷ remove_entry (nat_eq s) es))) (ne_eqb s x.0 (λ same. clear.0 (sym same)))
      ∙ ap (λ xs. x ∷ xs) (first_stay n es clear.1)

  pub none_of : (es : List (ℕ × X)) → AllByRecursion (λ e. e.0 ≢ s) es → lookup_entry (nat_eq s) es ≡ None
  none_of [] clear = refl
  none_of (x ∷ es) clear =
      ap (λ b. cond b (Some x) (lookup_entry (nat_eq s) es)) (ne_eqb s x.0 (λ same. clear.0 (sym same))) ∙ none_of es clear.1

  pub nothing_of : (es : List (ℕ × X)) → AllByRecursion (λ e. e.0 ≢ s) es → lookup (nat_eq s) es ≡ None
  nothing_of [] clear = refl
  nothing_of (x ∷ es) clear =
      ap (λ b. cond b (Some x.1) (lookup (nat_eq s) es)) (ne_eqb s x.0 (λ same. clear.0 (sym same))) ∙ nothing_of es clear.1

  -- taking out one leaves what is found of another
  pub other_stays : (q : ℕ) → q ≢ s → (es : List (ℕ × X)) → lookup (nat_eq q) (remove_entry (nat_eq s) es) ≡ lookup (nat_eq q) es
  other_stays q other [] = refl
  other_stays q other (x ∷ es) = elim (eqb_tells s x.0) as (λ _. lookup (nat_eq q) (remove_entry (nat_eq s) (x ∷ es)) ≡ lookup (nat_eq q) (x ∷ es)) [
    | inl hit ↦
        ap (λ b. lookup (nat_eq q) (cond b es (x ∷ remove_entry (nat_eq s) es))) hit.0
        ∙ sym (ap (λ b. cond b (Some x.1) (lookup (nat_eq q) es)) (ne_eqb q x.0 (λ same. other (same ∙ sym hit.1))))
    | inr miss ↦
        ap (λ b. lookup (nat_eq q) (cond b es (x ∷ remove_entry (nat_eq s) es))) miss.0
        ∙ ap (cond (nat_eq q x.0) (Some x.1)) (other_stays q other es)
  ]

  -- an entry that is found has the key
  pub seat_found : (es : List (ℕ × X)) (e : ℕ × X) → lookup_entry (nat_eq s) es ≡ Some e → e.0 ≡ s
  seat_found [] e is = absurd (cc is)
  seat_found (x ∷ es) e is = elim (eqb_tells s x.0) as (λ _. e.0 ≡ s) [
    | inl hit ↦
        let same : x ≡ e = cc (sym (ap (λ b. cond b (Some x) (lookup_entry (nat_eq s) es)) hit.0) ∙ is) in
        sym (hit.1 ∙ ap (λ (f : ℕ × X). f.0) same)
    | inr miss ↦ seat_found es e (sym (ap (λ b. cond b (Some x) (lookup_entry (nat_eq s) es)) miss.0) ∙ is)
  ]

  pub length_found : (es : List (ℕ × X)) (e : ℕ × X) → lookup_entry (nat_eq s) es ≡ Some e → length es ≡ length (remove_entry (nat_eq s) es) + 1
  length_found [] e is = absurd (cc is)
  length_found (x ∷ es) e is = (elim (nat_eq s x.0) as (λ b. cond b (Some x) (lookup_entry (nat_eq s) es) ≡ Some e → length (x ∷ es) ≡ length (cond b es (x ∷ remove_entry (nat_eq s) es)) + 1) [
    | true ↦ λ at. omega arith
    | false ↦ λ more. omega (arith, length_found es e more)
  ]) is

  pub stays : (es : List (ℕ × X)) → AllByRecursion (λ e. e.0 ≢ s) es → remove_entry (nat_eq s) es ≡ es
  stays [] clear = refl
  stays (x ∷ es) clear =
      ap (λ b. cond b es (x ∷ remove_entry (nat_eq s) es)) (ne_eqb s x.0 (λ same. clear.0 (sym same))) ∙ ap (λ xs. x ∷ xs) (stays es clear.1)

  -- a key that isn't there is not used
  pub none_used : (es : List (ℕ × X)) → lookup (nat_eq s) es ≡ None → promoted (nat_eq s) es ≡ es
  none_used es none = ap (λ o. option_map_or (λ (e : ℕ × X). e ∷ remove_entry (nat_eq s) es) o es) (no_entry es none)
    where
      no_entry : (xs : List (ℕ × X)) → lookup (nat_eq s) xs ≡ None → lookup_entry (nat_eq s) xs ≡ None
      no_entry [] is = refl
      no_entry (x ∷ xs) is = (elim (nat_eq s x.0) as (λ b. cond b (Some x.1) (lookup (nat_eq s) xs) ≡ None → cond b (Some x) (lookup_entry (nat_eq s) xs) ≡ None) [
        | true ↦ λ wrong. absurd (cc wrong)
        | false ↦ λ more. no_entry xs more
      ]) is

-- all of a list

pub all_without : {X : Type 0} (P : ℕ × X → Type 0) (test : ℕ → Bool) (es : List (ℕ × X)) → AllByRecursion P es → AllByRecursion P (remove_entry test es)
all_without P test [] all = all
all_without P test (x ∷ es) all = elim (test x.0) as (λ b. AllByRecursion P (cond b es (x ∷ remove_entry test es))) [
  | true ↦ all.1
  | false ↦ (all.0, all_without P test es all.1)
]

pub all_first : {X : Type 0} (P : X → Type 0) (n : ℕ) (es : List X) → AllByRecursion P es → AllByRecursion P (take n es)
all_first P zero es all = tt
all_first P (suc n) [] all = tt
all_first P (suc n) (x ∷ es) all = (all.0, all_first P n es all.1)

pub all_then : {X : Type 0} (P : X → Type 0) (es : List X) (e : X) → AllByRecursion P es → P e → AllByRecursion P (es ++ e ∷ [])
all_then P [] e all last = (last, tt)
all_then P (x ∷ es) e all last = (all.0, all_then P es e all.1 last)

pub all_so : {X : Type 0} (P Q : X → Type 0) → ((x : X) → P x → Q x) → (es : List X) → AllByRecursion P es → AllByRecursion Q es
all_so P Q so [] all = tt
all_so P Q so (x ∷ es) all = (so x all.0, all_so P Q so es all.1)

all_there : {X : Type 0} (P : X → Type 0) (i : ℕ) (es : List X) (e : X) → AllByRecursion P es → slice_get es i ≡ Some e → P e
all_there P i [] e all is = absurd (cc is)
all_there P zero (x ∷ es) e all is = let same : x ≡ e = cc is in subst P same all.0
all_there P (suc i) (x ∷ es) e all is = all_there P i es e all.1 is

pub all_found : {X : Type 0} (P : ℕ × X → Type 0) (test : ℕ → Bool) (es : List (ℕ × X)) (e : ℕ × X) → AllByRecursion P es → lookup_entry test es ≡ Some e → P e
all_found P test [] e all is = absurd (cc is)
all_found P test (x ∷ es) e all is = (elim (test x.0) as (λ b. cond b (Some x) (lookup_entry test es) ≡ Some e → P e) [
  | true ↦ λ at. let same : x ≡ e = cc at in subst P same all.0
  | false ↦ λ more. all_found P test es e all.1 more
]) is

-- seats that are apart

pub apart_without : (test : ℕ → Bool) (es : List Seat) → AreApart es → AreApart (remove_entry test es)
apart_without test [] apart = apart
apart_without test (x ∷ es) apart = elim (test x.0) as (λ b. AreApart (cond b es (x ∷ remove_entry test es))) [
  | true ↦ apart.1
  | false ↦ (all_without (λ (f : Seat). f.0 ≢ x.0) test es apart.0, apart_without test es apart.1)
]

pub apart_from : (s : ℕ) (es : List Seat) → AreApart es → AllByRecursion (λ (f : Seat). f.0 ≢ s) (remove_entry (nat_eq s) es)
apart_from s [] apart = tt
apart_from s (x ∷ es) apart = elim (eqb_tells s x.0) as (λ _. AllByRecursion (λ (f : Seat). f.0 ≢ s) (remove_entry (nat_eq s) (x ∷ es))) [
  | inl hit ↦
      subst (λ b. AllByRecursion (λ (f : Seat). f.0 ≢ s) (cond b es (x ∷ remove_entry (nat_eq s) es))) (sym hit.0)
      (all_so (λ (f : Seat). f.0 ≢ x.0) (λ (f : Seat). f.0 ≢ s) (λ f other same. other (same ∙ hit.1)) es apart.0)
  | inr miss ↦
      subst (λ b. AllByRecursion (λ (f : Seat). f.0 ≢ s) (cond b es (x ∷ remove_entry (nat_eq s) es))) (sym miss.0)
      ((λ same. miss.1 (sym same)), apart_from s es apart.1)
]

pub apart_first : (n : ℕ) (es : List Seat) → AreApart es → AreApart (take n es)
apart_first zero es apart = tt
apart_first (suc n) [] apart = tt
apart_first (suc n) (x ∷ es) apart = (all_first (λ (f : Seat). f.0 ≢ x.0) n es apart.0, apart_first n es apart.1)

pub apart_then : (es : List Seat) (e : Seat) → AreApart es → AllByRecursion (λ (f : Seat). f.0 ≢ e.0) es → AreApart (es ++ e ∷ [])
apart_then [] e apart other = (tt, tt)
apart_then (x ∷ es) e apart other =
    (all_then (λ (f : Seat). f.0 ≢ x.0) es e apart.0 (λ same. other.0 (sym same)), apart_then es e apart.1 other.1)

-- the seat at a place is none of those before it
clear_before : (n i : ℕ) (es : List Seat) (e : Seat) → AreApart es → slice_get es i ≡ Some e → n ≤ i → AllByRecursion (λ (f : Seat). f.0 ≢ e.0) (take n es)
clear_before zero i es e apart is le = tt
clear_before (suc n) i [] e apart is le = tt
clear_before (suc n) zero (x ∷ es) e apart is le = absurd (omega (arith, le))
clear_before (suc n) (suc i) (x ∷ es) e apart is le =
    ((λ same. all_there (λ (f : Seat). f.0 ≢ x.0) i es e apart.0 is (sym same)), clear_before n i es e apart.1 is (omega (arith, le)))

seen_at : (i : ℕ) (es : List Seat) (e : Seat) → slice_get es i ≡ Some e → is_some (lookup_entry (nat_eq e.0) es) ≡ true
seen_at i [] e is = absurd (cc is)
seen_at zero (x ∷ es) e is =
    let same : x ≡ e = cc is in
    ap (λ b. is_some (cond b (Some x) (lookup_entry (nat_eq e.0) es))) (eq-eqb e.0 x.0 (λ i. (sym same i).0))
seen_at (suc i) (x ∷ es) e is = elim (nat_eq e.0 x.0) as (λ b. is_some (cond b (Some x) (lookup_entry (nat_eq e.0) es)) ≡ true) [
  | true ↦ refl
  | false ↦ seen_at i es e is
]

-- the first seat stays the first, and the last one the last

pub first_stays : (es : List Seat) (e : Seat) → slice_get es 0 ≡ Some e → promoted (nat_eq e.0) es ≡ es
first_stays [] e is = absurd (cc is)
first_stays (x ∷ es) e is =
    let same : x ≡ e = cc is in
    ap (λ b. option_map_or (λ (f : Seat). f ∷ cond b es (x ∷ remove_entry (nat_eq e.0) es)) (cond b (Some x) (lookup_entry (nat_eq e.0) es)) (x ∷ es)) (eq-eqb e.0 x.0 (λ i. (sym same i).0))

record IsLast (es : List Seat) (e : Seat) : Type 0 where
  found : lookup_entry (nat_eq e.0) es ≡ Some e
  stays : remove_entry (nat_eq e.0) es ++ e ∷ [] ≡ es

is_last : (es : List Seat) (e : Seat) → AreApart es → slice_get es (length es - 1) ≡ Some e → IsLast es e
is_last [] e apart is = absurd (cc is)
is_last (x ∷ []) e apart is =
    let same : x ≡ e = cc is in
    let at : nat_eq e.0 x.0 ≡ true = eq-eqb e.0 x.0 (λ i. (sym same i).0) in
    record {
      found = ap (λ b. cond b (Some x) None) at ∙ ap Some same;
      stays = ap (λ b. cond b [] (x ∷ []) ++ e ∷ []) at ∙ ap (λ f. f ∷ []) (sym same);
    }
is_last (x ∷ y ∷ es) e apart is =
    let next : length (x ∷ y ∷ es) - 1 ≡ suc (length (y ∷ es) - 1) = omega arith in
    let later : slice_get (y ∷ es) (length (y ∷ es) - 1) ≡ Some e = sym (ap (slice_get (x ∷ y ∷ es)) next) ∙ is in
    let then = is_last (y ∷ es) e apart.1 later in
    let at : nat_eq e.0 x.0 ≡ false = ne_eqb e.0 x.0 (all_there (λ (f : Seat). f.0 ≢ x.0) (length (y ∷ es) - 1) (y ∷ es) e apart.0 later) in
    record {
      found = ap (λ b. cond b (Some x) (lookup_entry (nat_eq e.0) (y ∷ es))) at ∙ then.found;
      stays = ap (λ b. cond b (y ∷ es) (x ∷ remove_entry (nat_eq e.0) (y ∷ es)) ++ e ∷ []) at ∙ ap (λ fs. x ∷ fs) then.stays;
    }

pub last_stays : (es : List Seat) (e : Seat) → AreApart es → last_entry es ≡ Some e → demoted (nat_eq e.0) es ≡ es
last_stays es e apart is =
    let last = is_last es e apart is in
    ap (λ o. option_map_or (λ (f : Seat). remove_entry (nat_eq e.0) es ++ f ∷ []) o es) last.found ∙ last.stays

-- a seat that is vacant

pub vacant_last : (es : List Seat) (taken : ℕ) (e : Seat) → AreApart es → AllByRecursion (λ (f : Seat). f.0 < length es) es → last_entry es ≡ Some e → taken < length es → IsVacant es taken e.0
vacant_last es taken e apart below is few = record {
  clear = clear_before taken (length es - 1) es e apart is (omega (arith, few));
  is = inl (all_there (λ (f : Seat). f.0 < length es) (length es - 1) es e below is, few, seen_at (length es - 1) es e is);
}

pub vacant_new : (es : List Seat) (taken seat : ℕ) → AllByRecursion (λ (f : Seat). f.0 < length es) es → taken ≡ length es → seat ≡ length es → IsVacant es taken seat
vacant_new es taken seat below all is = record {
  clear = all_first (λ (f : Seat). f.0 ≢ seat) taken es (all_so (λ (f : Seat). f.0 < length es) (λ (f : Seat). f.0 ≢ seat) (λ f less same. absurd (omega (arith, less, same, is))) es below);
  is = inr (is, all);
}

-- where the keys are

module _ (places : List (Option Place)) (key : ℕ) where
  pub keyed_none : (xs : List Seat) → AreKnown places xs → place_at places key ≡ None → lookup (nat_eq key) (map (λ (e : Seat). e.1) xs) ≡ None
  keyed_none [] known none = refl
  keyed_none (x ∷ xs) known none =
      let other : key ≢ x.1.0 = λ same. absurd (cc (sym none ∙ ap (place_at places) same ∙ known.0)) in
      ap (λ b. cond b (Some x.1.1) (lookup (nat_eq key) (map (λ (e : Seat). e.1) xs))) (ne_eqb key x.1.0 other) ∙ keyed_none xs known.1 none

  module _ (p : Place) (at : place_at places key ≡ Some p) where
    same_place : (x : Seat) → place_at places x.1.0 ≡ Some (record { seat = x.0; slot = x.1.1 }) → key ≡ x.1.0 → p ≡ record { seat = x.0; slot = x.1.1 }
    same_place x known same = cc (sym at ∙ ap (place_at places) same ∙ known)

    found_here : (x : Seat) (xs : List Seat) → lookup (nat_eq p.seat) (x ∷ xs) ≡ Some (key, p.slot) → nat_eq p.seat x.0 ≡ true → x.1 ≡ (key, p.slot)
    found_here x xs is hit = cc (sym (ap (λ b. cond b (Some x.1) (lookup (nat_eq p.seat) xs)) hit) ∙ is)

    pub keyed_lookup : (xs : List Seat) → AreKnown places xs → lookup (nat_eq p.seat) xs ≡ Some (key, p.slot) → lookup (nat_eq key) (map (λ (e : Seat). e.1) xs) ≡ Some p.slot
    keyed_lookup [] known is = absurd (cc is)
    keyed_lookup (x ∷ xs) known is = elim (eqb_tells key x.1.0) as (λ _. lookup (nat_eq key) (map (λ (e : Seat). e.1) (x ∷ xs)) ≡ Some p.slot) [
      | inl hit ↦
          ap (λ b. cond b (Some x.1.1) (lookup (nat_eq key) (map (λ (e : Seat). e.1) xs))) hit.0
          ∙ ap (λ (q : Place). Some q.slot) (sym (same_place x known.0 hit.1))
      | inr miss ↦ elim (eqb_tells p.seat x.0) as (λ _. lookup (nat_eq key) (map (λ (e : Seat). e.1) (x ∷ xs)) ≡ Some p.slot) [
        | inl here ↦ absurd (miss.1 (λ i. (sym (found_here x xs is here.0) i).0))
        | inr there ↦
            ap (λ b. cond b (Some x.1.1) (lookup (nat_eq key) (map (λ (e : Seat). e.1) xs))) miss.0
            ∙ keyed_lookup xs known.1 (sym (ap (λ b. cond b (Some x.1) (lookup (nat_eq p.seat) xs)) there.0) ∙ is)
      ]
    ]

    pub keyed_without : (xs : List Seat) → AreKnown places xs → lookup (nat_eq p.seat) xs ≡ Some (key, p.slot) → remove_entry (nat_eq key) (map (λ (e : Seat). e.1) xs) ≡ map (λ (e : Seat). e.1) (remove_entry (nat_eq p.seat) xs)
    keyed_without [] known is = refl
    keyed_without (x ∷ xs) known is = elim (eqb_tells p.seat x.0) as (λ _. remove_entry (nat_eq key) (map (λ (e : Seat). e.1) (x ∷ xs)) ≡ map (λ (e : Seat). e.1) (remove_entry (nat_eq p.seat) (x ∷ xs))) [
      | inl here ↦
          let same : key ≡ x.1.0 = λ i. (sym (found_here x xs is here.0) i).0 in
          ap (λ b. cond b (map (λ (e : Seat). e.1) xs) (x.1 ∷ remove_entry (nat_eq key) (map (λ (e : Seat). e.1) xs))) (eq-eqb key x.1.0 same)
          ∙ sym (ap (λ b. map (λ (e : Seat). e.1) (cond b xs (x ∷ remove_entry (nat_eq p.seat) xs))) here.0)
      | inr there ↦
          let other : key ≢ x.1.0 = λ same. there.1 (ap (λ (q : Place). q.seat) (same_place x known.0 same)) in
          ap (λ b. cond b (map (λ (e : Seat). e.1) xs) (x.1 ∷ remove_entry (nat_eq key) (map (λ (e : Seat). e.1) xs))) (ne_eqb key x.1.0 other)
          ∙ ap (λ ys. x.1 ∷ ys) (keyed_without xs known.1 (sym (ap (λ b. cond b (Some x.1) (lookup (nat_eq p.seat) xs)) there.0) ∙ is))
          ∙ sym (ap (λ b. map (λ (e : Seat). e.1) (cond b xs (x ∷ remove_entry (nat_eq p.seat) xs))) there.0)
    ]

-- keys that are known differ
pub keyed_distinct : (places : List (Option Place)) (xs : List Seat) → AreKnown places xs → AreApart xs → IsDistinct nat_eq (keys_of (map (λ (e : Seat). e.1) xs))
unfolding IsDistinct
keyed_distinct places [] known apart = tt
keyed_distinct places (x ∷ xs) known apart = (others xs known.1 apart.0, keyed_distinct places xs known.1 apart.1)
  where
    others : (ys : List Seat) → AreKnown places ys → AllByRecursion (λ (f : Seat). f.0 ≢ x.0) ys → AllByRecursion (λ y. nat_eq x.1.0 y ≡ false) (keys_of (map (λ (e : Seat). e.1) ys))
    others [] known apart = tt
    others (y ∷ ys) known_ys apart_ys =
        (ne_eqb x.1.0 y.1.0 (λ same. apart_ys.0 (ap (λ (q : Place). q.seat) (sym (same_place places x.1.0 (record { seat = x.0; slot = x.1.1 }) known.0 y known_ys.0 same)))), others ys known_ys.1 apart_ys.1)

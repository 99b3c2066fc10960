-- How the entries of a pool follow from its keys, their slots and the values there.
use Rattle.std.proofs.Common.{◌≡◌, ◌≢◌, ℕ, ◌+◌, ◌<◌, ◌≤◌, Bool, true, false, cond, List, [], ◌∷◌, ◌++◌, length, Option, Some, None, is_some, nat_eq, slice_get, refl, sym, ap, subst, ◌∙◌, inl, inr, arith, true≢false}
use Rattle.std.specs.List.{AllByRecursion, cons_option}
use Rattle.std.specs.Option.{IsSome, option_and_then, option_map, option_map_or}
use Rattle.std.specs.Map.{keys_of, lookup, lookup_entry, remove_entry, set_value}
use Rattle.std.proofs.lemmas.Bool.{cases_eq}
use Rattle.std.proofs.lemmas.List.{length-map}
use Rattle.std.proofs.lemmas.List.Sums.{sum_by-set}
use Rattle.std.proofs.lemmas.List.Elements.{filter_map-append}
use Rattle.lru.specs.LruCache.{LruCache, lru_cache, promoted}
use Rattle.slab.specs.Slab.{Slab, get, slab_len, with_value, Updates, ContainsKey}
use Rattle.slab.proofs.SlabLemmas.{ContainsKey-within, Updates-with_value}
use Rattle.buffer_pool.specs.Seats.{seat_of, seated, AreApart, AreTaken, AreSeats}

pub some_of : {X : Type 0} (o : Option X) → IsSome o → (x : X) × (o ≡ Some x)
some_of None some = absurd (true≢false (sym some))
some_of (Some x) some = (x, refl)

pub first_taken : {V : Type 0} (s : Slab V) (es : List (ℕ × ℕ)) (e : ℕ × ℕ) → Some e ≡ slice_get es 0 → AreTaken s es → ContainsKey s e.1
first_taken s [] e is taken = absurd (cc is)
first_taken s (x ∷ es) e is taken = let same : x ≡ e = cc is in subst (λ (y : ℕ × ℕ). ContainsKey s y.1) same taken.0

none_by : {X : Type 0} (o : Option X) → is_some o ≡ false → o ≡ None
none_by None is = refl
none_by (Some x) is = absurd (cc is)

-- keys with slots

module _ (test : ℕ → Bool) where
  pub all_at : (P : ℕ × ℕ → Type 0) (es : List (ℕ × ℕ)) (e : ℕ × ℕ) → AllByRecursion P es → lookup_entry test es ≡ Some e → P e
  all_at P [] e all is = absurd (cc is)
  all_at P (x ∷ es) e all is = (elim (test x.0) as (λ b. cond b (Some x) (lookup_entry test es) ≡ Some e → P e) [
    | true ↦ λ at. let same : x ≡ e = cc at in subst P same all.0
    | false ↦ λ more. all_at P es e all.1 more
  ]) is

  pub all_removed : (P : ℕ × ℕ → Type 0) (es : List (ℕ × ℕ)) → AllByRecursion P es → AllByRecursion P (remove_entry test es)
  all_removed P [] all = all
  all_removed P (x ∷ es) all = elim (test x.0) as (λ b. AllByRecursion P (cond b es (x ∷ remove_entry test es))) [
    | true ↦ all.1
    | false ↦ (all.0, all_removed P es all.1)
  ]

  -- a slot that is found is that of an entry
  pub entry_at : (es : List (ℕ × ℕ)) (slot : ℕ) → lookup test es ≡ Some slot → (e : ℕ × ℕ) × (lookup_entry test es ≡ Some e) × (e.1 ≡ slot)
  entry_at [] slot is = absurd (cc is)
  entry_at (x ∷ es) slot is = (elim (test x.0) as (λ b. cond b (Some x.1) (lookup test es) ≡ Some slot → (e : ℕ × ℕ) × (cond b (Some x) (lookup_entry test es) ≡ Some e) × (e.1 ≡ slot)) [
    | true ↦ λ at. let same : x.1 ≡ slot = cc at in (x, refl, same)
    | false ↦ λ more. entry_at es slot more
  ]) is

  pub length_removed : (es : List (ℕ × ℕ)) (e : ℕ × ℕ) → lookup_entry test es ≡ Some e → length es ≡ length (remove_entry test es) + 1
  length_removed [] e is = absurd (cc is)
  length_removed (x ∷ es) e is = (elim (test x.0) as (λ b. cond b (Some x) (lookup_entry test es) ≡ Some e → length (x ∷ es) ≡ length (cond b es (x ∷ remove_entry test es)) + 1) [
    | true ↦ λ at. omega arith
    | false ↦ λ more. omega (arith, length_removed es e more)
  ]) is

  -- a key that isn't there is taken out of nothing
  pub absent_removed : (es : List (ℕ × ℕ)) → None ≡ lookup test es → remove_entry test es ≡ es
  absent_removed [] is = refl
  absent_removed (x ∷ es) is = (elim (test x.0) as (λ b. None ≡ cond b (Some x.1) (lookup test es) → cond b es (x ∷ remove_entry test es) ≡ x ∷ es) [
    | true ↦ λ wrong. absurd (cc wrong)
    | false ↦ λ more. ap (λ xs. x ∷ xs) (absent_removed es more)
  ]) is

  absent_entry : (es : List (ℕ × ℕ)) → lookup test es ≡ None → lookup_entry test es ≡ None
  absent_entry [] is = refl
  absent_entry (x ∷ es) is = (elim (test x.0) as (λ b. cond b (Some x.1) (lookup test es) ≡ None → cond b (Some x) (lookup_entry test es) ≡ None) [
    | true ↦ λ wrong. absurd (cc wrong)
    | false ↦ λ more. absent_entry es more
  ]) is

  pub removed_apart : (es : List (ℕ × ℕ)) → AreApart es → AreApart (remove_entry test es)
  removed_apart [] apart = apart
  removed_apart (x ∷ es) apart = elim (test x.0) as (λ b. AreApart (cond b es (x ∷ remove_entry test es))) [
    | true ↦ apart.1
    | false ↦ (all_removed (λ f. f.1 ≢ x.1) es apart.0, removed_apart es apart.1)
  ]

  -- no other key has the slot of the one that is found
  pub apart_from : (es : List (ℕ × ℕ)) (e : ℕ × ℕ) → AreApart es → lookup_entry test es ≡ Some e → AllByRecursion (λ (f : ℕ × ℕ). f.1 ≢ e.1) (remove_entry test es)
  apart_from [] e apart is = absurd (cc is)
  apart_from (x ∷ es) e apart is = (elim (test x.0) as (λ b. cond b (Some x) (lookup_entry test es) ≡ Some e → AllByRecursion (λ (f : ℕ × ℕ). f.1 ≢ e.1) (cond b es (x ∷ remove_entry test es))) [
    | true ↦ λ at. let same : x ≡ e = cc at in subst (λ (y : ℕ × ℕ). AllByRecursion (λ (f : ℕ × ℕ). f.1 ≢ y.1) es) same apart.0
    | false ↦ λ more.
        let other = all_at (λ f. f.1 ≢ x.1) es e apart.0 more in
        (λ same. other (sym same), apart_from es e apart.1 more)
  ]) is

  promoted_apart_by : (es : List (ℕ × ℕ)) (o : Option (ℕ × ℕ)) → AreApart es → lookup_entry test es ≡ o → AreApart (option_map_or (λ e. e ∷ remove_entry test es) o es)
  promoted_apart_by es None apart is = apart
  promoted_apart_by es (Some e) apart is = (apart_from es e apart is, removed_apart es apart)

  pub promoted_apart : (es : List (ℕ × ℕ)) → AreApart es → AreApart (promoted test es)
  promoted_apart es apart = promoted_apart_by es (lookup_entry test es) apart refl

  length_promoted_by : (es : List (ℕ × ℕ)) (o : Option (ℕ × ℕ)) → lookup_entry test es ≡ o → length (option_map_or (λ e. e ∷ remove_entry test es) o es) ≡ length es
  length_promoted_by es None is = refl
  length_promoted_by es (Some e) is = omega (arith, length_removed es e is)

  pub length_promoted : (es : List (ℕ × ℕ)) → length (promoted test es) ≡ length es
  length_promoted es = length_promoted_by es (lookup_entry test es) refl

  -- a key that isn't there is not used
  pub absent_promoted : (es : List (ℕ × ℕ)) → lookup test es ≡ None → promoted test es ≡ es
  absent_promoted es is = ap (λ o. option_map_or (λ (e : ℕ × ℕ). e ∷ remove_entry test es) o es) (absent_entry es is)

  passes : (es : List (ℕ × ℕ)) (e : ℕ × ℕ) → lookup_entry test es ≡ Some e → test e.0 ≡ true
  passes [] e is = absurd (cc is)
  passes (x ∷ es) e is = (elim (test x.0) as (λ b. test x.0 ≡ b → cond b (Some x) (lookup_entry test es) ≡ Some e → test e.0 ≡ true) [
    | true ↦ λ here at. let same : x ≡ e = cc at in subst (λ (y : ℕ × ℕ). test y.0 ≡ true) same here
    | false ↦ λ other more. passes es e more
  ]) refl is

  -- a key that is used keeps its slot
  pub slot_promoted : (es : List (ℕ × ℕ)) (slot : ℕ) → lookup test es ≡ Some slot → lookup test (promoted test es) ≡ Some slot
  slot_promoted es slot is =
      let e = entry_at es slot is in
      ap (λ o. lookup test (option_map_or (λ (f : ℕ × ℕ). f ∷ remove_entry test es) o es)) e.1
      ∙ ap (λ b. cond b (Some e.0.1) (lookup test (remove_entry test es))) (passes es e.0 e.1) ∙ ap Some e.2

-- keys with values

module _ {V : Type 0} (s : Slab V) where
  pub seated-cons : (e : ℕ × ℕ) (es : List (ℕ × ℕ)) (v : V) → get s e.1 ≡ Some v → seated s (e ∷ es) ≡ (e.0, v) ∷ seated s es
  seated-cons e es v is = ap (λ o. cons_option (option_map (λ (v : V). (e.0, v)) o) (seated s es)) is

  pub seated-push : (es : List (ℕ × ℕ)) (e : ℕ × ℕ) (v : V) → get s e.1 ≡ Some v → seated s (es ++ e ∷ []) ≡ seated s es ++ (e.0, v) ∷ []
  seated-push es e v is = filter_map-append (seat_of s) es (e ∷ []) ∙ ap (λ xs. seated s es ++ xs) (seated-cons e [] v is)

  pub keys-seated : (es : List (ℕ × ℕ)) → AreTaken s es → keys_of (seated s es) ≡ keys_of es
  keys-seated [] taken = refl
  keys-seated (e ∷ es) taken =
      let f = some_of (get s e.1) taken.0 in
      ap keys_of (seated-cons e es f.0 f.1) ∙ ap (λ ks. e.0 ∷ ks) (keys-seated es taken.1)

  pub length-seated : (es : List (ℕ × ℕ)) → AreTaken s es → length (seated s es) ≡ length es
  length-seated es taken =
      sym (length-map (seated s es) (λ (e : ℕ × V). e.0)) ∙ ap length (keys-seated es taken) ∙ length-map es (λ (e : ℕ × ℕ). e.0)

  pub first-seated : (es : List (ℕ × ℕ)) → AreTaken s es → slice_get (seated s es) 0 ≡ option_and_then (seat_of s) (slice_get es 0)
  first-seated [] taken = refl
  first-seated (e ∷ es) taken =
      let f = some_of (get s e.1) taken.0 in
      ap (λ xs. slice_get xs 0) (seated-cons e es f.0 f.1) ∙ sym (ap (option_map (λ (v : V). (e.0, v))) f.1)

  module _ (test : ℕ → Bool) where
    pub lookup-seated : (es : List (ℕ × ℕ)) → AreTaken s es → lookup test (seated s es) ≡ option_and_then (get s) (lookup test es)
    lookup-seated [] taken = refl
    lookup-seated (e ∷ es) taken =
        let f = some_of (get s e.1) taken.0 in
        ap (lookup test) (seated-cons e es f.0 f.1) ∙ elim (test e.0) as (λ b. cond b (Some f.0) (lookup test (seated s es)) ≡ option_and_then (get s) (cond b (Some e.1) (lookup test es))) [
          | true ↦ sym f.1
          | false ↦ lookup-seated es taken.1
        ]

    pub has-seated : (es : List (ℕ × ℕ)) → AreTaken s es → is_some (lookup test (seated s es)) ≡ is_some (lookup test es)
    has-seated [] taken = refl
    has-seated (e ∷ es) taken =
        let f = some_of (get s e.1) taken.0 in
        ap (λ xs. is_some (lookup test xs)) (seated-cons e es f.0 f.1) ∙ elim (test e.0) as (λ b. is_some (cond b (Some f.0) (lookup test (seated s es))) ≡ is_some (cond b (Some e.1) (lookup test es))) [
          | true ↦ refl
          | false ↦ has-seated es taken.1
        ]

    pub entry-seated : (es : List (ℕ × ℕ)) → AreTaken s es → lookup_entry test (seated s es) ≡ option_and_then (seat_of s) (lookup_entry test es)
    entry-seated [] taken = refl
    entry-seated (e ∷ es) taken =
        let f = some_of (get s e.1) taken.0 in
        ap (lookup_entry test) (seated-cons e es f.0 f.1) ∙ elim (test e.0) as (λ b. cond b (Some (e.0, f.0)) (lookup_entry test (seated s es)) ≡ option_and_then (seat_of s) (cond b (Some e) (lookup_entry test es))) [
          | true ↦ sym (ap (option_map (λ (v : V). (e.0, v))) f.1)
          | false ↦ entry-seated es taken.1
        ]

    -- a key that is found has a value
    pub taken_at : (es : List (ℕ × ℕ)) (slot : ℕ) → AreTaken s es → lookup test es ≡ Some slot → ContainsKey s slot
    taken_at es slot taken is =
        let e = entry_at test es slot is in
        subst (ContainsKey s) e.2 (all_at test (λ f. ContainsKey s f.1) es e.0 taken e.1)

    pub remove-seated : (es : List (ℕ × ℕ)) → AreTaken s es → seated s (remove_entry test es) ≡ remove_entry test (seated s es)
    remove-seated [] taken = refl
    remove-seated (e ∷ es) taken =
        let f = some_of (get s e.1) taken.0 in
        (elim (test e.0) as (λ b. seated s (cond b es (e ∷ remove_entry test es)) ≡ cond b (seated s es) ((e.0, f.0) ∷ remove_entry test (seated s es))) [
          | true ↦ refl
          | false ↦ seated-cons e (remove_entry test es) f.0 f.1 ∙ ap (λ xs. (e.0, f.0) ∷ xs) (remove-seated es taken.1)
        ]) ∙ sym (ap (remove_entry test) (seated-cons e es f.0 f.1))

    promoted_by : (es : List (ℕ × ℕ)) (o : Option (ℕ × ℕ)) → AreTaken s es → lookup_entry test es ≡ o → seated s (option_map_or (λ e. e ∷ remove_entry test es) o es) ≡ option_map_or (λ (e : ℕ × V). e ∷ remove_entry test (seated s es)) (option_and_then (seat_of s) o) (seated s es)
    promoted_by es None taken is = refl
    promoted_by es (Some e) taken is =
        let f = some_of (get s e.1) (all_at test (λ f. ContainsKey s f.1) es e taken is) in
        seated-cons e (remove_entry test es) f.0 f.1 ∙ ap (λ xs. (e.0, f.0) ∷ xs) (remove-seated es taken)
        ∙ sym (ap (λ o. option_map_or (λ (e : ℕ × V). e ∷ remove_entry test (seated s es)) (option_map (λ (v : V). (e.0, v)) o) (seated s es)) f.1)

    pub promoted-seated : (es : List (ℕ × ℕ)) → AreTaken s es → seated s (promoted test es) ≡ promoted test (seated s es)
    promoted-seated es taken =
        promoted_by es (lookup_entry test es) taken refl
        ∙ sym (ap (λ o. option_map_or (λ (e : ℕ × V). e ∷ remove_entry test (seated s es)) o (seated s es)) (entry-seated es taken))

    promoted_taken_by : (es : List (ℕ × ℕ)) (o : Option (ℕ × ℕ)) → AreTaken s es → lookup_entry test es ≡ o → AreTaken s (option_map_or (λ e. e ∷ remove_entry test es) o es)
    promoted_taken_by es None taken is = taken
    promoted_taken_by es (Some e) taken is = (all_at test (λ f. ContainsKey s f.1) es e taken is, all_removed test (λ f. ContainsKey s f.1) es taken)

    pub promoted_taken : (es : List (ℕ × ℕ)) → AreTaken s es → AreTaken s (promoted test es)
    promoted_taken es taken = promoted_taken_by es (lookup_entry test es) taken refl

-- a slot changes

module _ {V : Type 0} (s t : Slab V) (slot : ℕ) (o : Option V) (updates : Updates s t slot o) where
  pub seated-other : (es : List (ℕ × ℕ)) → AllByRecursion (λ (f : ℕ × ℕ). f.1 ≢ slot) es → seated t es ≡ seated s es
  seated-other [] others = refl
  seated-other (e ∷ es) others = λ i. cons_option (option_map (λ (v : V). (e.0, v)) (updates.others e.1 others.0 i)) (seated-other es others.1 i)

  pub taken-other : (es : List (ℕ × ℕ)) → AllByRecursion (λ (f : ℕ × ℕ). f.1 ≢ slot) es → AreTaken s es → AreTaken t es
  taken-other [] others taken = tt
  taken-other (e ∷ es) others taken = (subst IsSome (sym (updates.others e.1 others.0)) taken.0, taken-other es others.1 taken.1)

-- a slot that is free is that of no key
pub all_other : {V : Type 0} (s : Slab V) (slot : ℕ) (es : List (ℕ × ℕ)) → get s slot ≡ None → AreTaken s es → AllByRecursion (λ (f : ℕ × ℕ). f.1 ≢ slot) es
all_other s slot [] free taken = tt
all_other s slot (e ∷ es) free taken =
    (λ same. true≢false (sym taken.0 ∙ ap (λ k. is_some (get s k)) same ∙ ap is_some free), all_other s slot es free taken.1)

module _ {V : Type 0} (test : ℕ → Bool) (s t : Slab V) (slot : ℕ) where
  -- the value of the key that is found is written
  pub seated-write : (w : V) → Updates s t slot (Some w) → (es : List (ℕ × ℕ)) → AreTaken s es → AreApart es → lookup test es ≡ Some slot → seated t es ≡ set_value test (seated s es) w
  seated-write w updates [] taken apart is = absurd (cc is)
  seated-write w updates (e ∷ es) taken apart is =
      let f = some_of (get s e.1) taken.0 in
      (elim (test e.0) as (λ b. cond b (Some e.1) (lookup test es) ≡ Some slot → seated t (e ∷ es) ≡ cond b ((e.0, w) ∷ seated s es) ((e.0, f.0) ∷ set_value test (seated s es) w)) [
        | true ↦ λ at.
            let same : e.1 ≡ slot = cc at in
            seated-cons t e es w (ap (get t) same ∙ updates.changed)
            ∙ ap (λ xs. (e.0, w) ∷ xs) (seated-other s t slot (Some w) updates es (subst (λ k. AllByRecursion (λ (f : ℕ × ℕ). f.1 ≢ k) es) same apart.0))
        | false ↦ λ more.
            let x = entry_at test es slot more in
            let other = all_at test (λ f. f.1 ≢ e.1) es x.0 apart.0 x.1 in
            seated-cons t e es f.0 (updates.others e.1 (λ same. other (x.2 ∙ sym same)) ∙ f.1)
            ∙ ap (λ xs. (e.0, f.0) ∷ xs) (seated-write w updates es taken.1 apart.1 more)
      ]) is ∙ sym (ap (λ xs. set_value test xs w) (seated-cons s e es f.0 f.1))

  pub taken-write : (w : V) → Updates s t slot (Some w) → (es : List (ℕ × ℕ)) → AreTaken s es → AreTaken t es
  taken-write w updates [] taken = tt
  taken-write w updates (e ∷ es) taken = (
    elim (cases_eq e.1 slot) as (λ _. ContainsKey t e.1) [
      | inl same ↦ subst (λ o. IsSome o) (sym (ap (get t) same ∙ updates.changed)) refl
      | inr other ↦ subst (λ o. IsSome o) (sym (updates.others e.1 other)) taken.0
    ],
    taken-write w updates es taken.1,
  )

  -- the key that is found is taken out, and its slot is free
  pub seated-removed : Updates s t slot None → (es : List (ℕ × ℕ)) → AreTaken s es → AreApart es → lookup test es ≡ Some slot → (seated t (remove_entry test es) ≡ remove_entry test (seated s es)) × AreTaken t (remove_entry test es)
  seated-removed updates es taken apart is =
      let e = entry_at test es slot is in
      let others = subst (λ k. AllByRecursion (λ (f : ℕ × ℕ). f.1 ≢ k) (remove_entry test es)) e.2 (apart_from test es e.0 apart e.1) in (
        seated-other s t slot None updates (remove_entry test es) others ∙ remove-seated s test es taken,
        taken-other s t slot None updates (remove_entry test es) others (all_removed test (λ f. ContainsKey s f.1) es taken),
      )

-- the whole of a pool

module _ {V : Type 0} (order : LruCache ℕ ℕ) (s : Slab V) (seats : AreSeats order s) where
  -- the value of a key is written
  pub written_seats : (test : ℕ → Bool) (slot : ℕ) (w : V) → lookup test order.entries ≡ Some slot → AreSeats order (with_value s slot w)
  written_seats test slot w is =
      let present = taken_at s test order.entries slot seats.taken is in
      let counted = sum_by-set (λ o. cond (is_some o) 1 0) s.slots slot (Some w) None (ContainsKey-within s slot present) in
      let one : ◌≡◌ {A = ℕ} (cond (is_some (get s slot)) 1 0) 1 = ap (λ b. cond b 1 0) present in
      record {
        taken = taken-write test s (with_value s slot w) slot w (Updates-with_value s slot w present) order.entries seats.taken;
        apart = seats.apart;
        none_lost = omega (arith, counted, one, seats.none_lost);
        enough = seats.enough;
      }

  pub written : (test : ℕ → Bool) (slot : ℕ) (w : V) → lookup test order.entries ≡ Some slot → seated (with_value s slot w) order.entries ≡ set_value test (seated s order.entries) w
  written test slot w is =
      let present = taken_at s test order.entries slot seats.taken is in
      seated-write test s (with_value s slot w) slot w (Updates-with_value s slot w present) order.entries seats.taken seats.apart is

  -- a key is used
  pub promoted_seats : (test : ℕ → Bool) → AreSeats (lru_cache (promoted test order.entries) order.cap) s
  promoted_seats test = record {
    taken = promoted_taken s test order.entries seats.taken;
    apart = promoted_apart test order.entries seats.apart;
    none_lost = seats.none_lost ∙ sym (length_promoted test order.entries);
    enough = seats.enough;
  }

  -- a key comes in that isn't there
  module _ (key : ℕ) (absent : lookup (nat_eq key) (seated s order.entries) ≡ None) (room : length (seated s order.entries) < order.cap) where
    pub fits : slab_len s + 1 ≤ s.capacity
    fits = omega (arith, room, length-seated s order.entries seats.taken, seats.none_lost, seats.enough)

    pub absent_too : lookup (nat_eq key) order.entries ≡ None
    absent_too = none_by _ (sym (has-seated s (nat_eq key) order.entries seats.taken) ∙ ap is_some absent)

    pub room_too : length order.entries < order.cap
    room_too = omega (arith, room, length-seated s order.entries seats.taken)

  module _ (t : Slab V) (key slot : ℕ) (v : V) (free : get s slot ≡ None) (updates : Updates s t slot (Some v)) where
    pub inserted : seated t ((key, slot) ∷ order.entries) ≡ (key, v) ∷ seated s order.entries
    inserted =
        seated-cons t (key, slot) order.entries v updates.changed
        ∙ ap (λ xs. (key, v) ∷ xs) (seated-other s t slot (Some v) updates order.entries (all_other s slot order.entries free seats.taken))

    pub inserted_seats : slab_len t ≡ slab_len s + 1 → t.capacity ≡ s.capacity → AreSeats (lru_cache ((key, slot) ∷ order.entries) order.cap) t
    inserted_seats more same =
        let others = all_other s slot order.entries free seats.taken in
        record {
          taken = (ap is_some updates.changed, taken-other s t slot (Some v) updates order.entries others seats.taken);
          apart = (others, seats.apart);
          none_lost = omega (arith, more, seats.none_lost);
          enough = omega (arith, same, seats.enough);
        }

  -- a key goes
  module _ (test : ℕ → Bool) (t : Slab V) (slot : ℕ) (is : lookup test order.entries ≡ Some slot) (updates : Updates s t slot None) where
    pub popped : seated t (remove_entry test order.entries) ≡ remove_entry test (seated s order.entries)
    popped = (seated-removed test s t slot updates order.entries seats.taken seats.apart is).0

    pub popped_seats : slab_len t + 1 ≡ slab_len s → t.capacity ≡ s.capacity → AreSeats (lru_cache (remove_entry test order.entries) order.cap) t
    popped_seats less same =
        let e = entry_at test order.entries slot is in
        record {
          taken = (seated-removed test s t slot updates order.entries seats.taken seats.apart is).1;
          apart = removed_apart test order.entries seats.apart;
          none_lost = omega (arith, less, seats.none_lost, length_removed test order.entries e.0 e.1);
          enough = omega (arith, same, seats.enough);
        }

-- the value of a key that is used is written
module _ {V : Type 0} (order : LruCache ℕ ℕ) (s : Slab V) (seats : AreSeats order s) (test : ℕ → Bool) (slot : ℕ) (w : V) (is : lookup test order.entries ≡ Some slot) where
  abbrev used : LruCache ℕ ℕ
  used = lru_cache (promoted test order.entries) order.cap

  pub used_seats : AreSeats used (with_value s slot w)
  used_seats = written_seats used s (promoted_seats order s seats test) test slot w (slot_promoted test order.entries slot is)

  pub used_written : seated (with_value s slot w) (promoted test order.entries) ≡ set_value test (promoted test (seated s order.entries)) w
  used_written =
      written used s (promoted_seats order s seats test) test slot w (slot_promoted test order.entries slot is)
      ∙ ap (λ xs. set_value test xs w) (promoted-seated s test order.entries seats.taken)

-- What becomes of an order as keys are used, come and go.
use Rattle.std.proofs.Common.{◌≡◌, ◌≢◌, ℕ, zero, suc, ◌+◌, ◌-◌, ◌<◌, ◌≤◌, true, cond, List, [], ◌∷◌, ◌++◌, length, take, map, Option, Some, None, is_some, nat_eq, refl, sym, ap, subst, ◌∙◌, inl, inr, arith, eq-eqb}
use Rattle.std.specs.List.{AllByRecursion}
use Rattle.std.specs.Option.{option_map_or}
use Rattle.std.specs.Map.{lookup, lookup_entry, remove_entry}
use Rattle.std.proofs.lemmas.Bool.{ne_eqb}
use Rattle.std.proofs.lemmas.Bool.Decides.{eqb_tells}
use Rattle.std.proofs.lemmas.List.{length-append, length-map, take-append-le, take_all}
use Rattle.lru.specs.LruCache.{lru_cache, promoted, demoted, put_entries}
use Rattle.buffer_pool.specs.Orders.{Seat, AreKnown, IsOrdered, IsVacant, keyed}
use Rattle.buffer_pool.specs.Places.{place_at}
use Rattle.buffer_pool.specs.declared.places.Place.{Place}
use Rattle.buffer_pool.proofs.OrderLemmas.{entry_of, found_in, first_without, some_first, length_without, length_found, seat_found, stays, first_stay, none_of, nothing_of, other_stays, all_without, all_then, all_so, all_found, apart_without, apart_from, apart_first, apart_then, keyed_none, keyed_lookup, keyed_without}

known_so : (places new : List (Option Place)) (xs : List Seat) → AllByRecursion (λ (e : Seat). place_at new e.1.0 ≡ place_at places e.1.0) xs → AreKnown places xs → AreKnown new xs
known_so places new [] same known = tt
known_so places new (x ∷ xs) same known = (same.0 ∙ known.0, known_so places new xs same.1 known.1)

pub length-first : {X : Type 0} (n : ℕ) (es : List X) → n ≤ length es → length (take n es) ≡ n
length-first zero es le = refl
length-first (suc n) [] le = absurd (omega (arith, le))
length-first (suc n) (x ∷ es) le = ap suc (length-first n es (omega (arith, le)))

module _ (es : List Seat) (taken : ℕ) (places : List (Option Place)) (is : IsOrdered es taken places) where
  -- the places are the same in another list
  pub moved : (new : List (Option Place)) → ((k : ℕ) → place_at new k ≡ place_at places k) → IsOrdered es taken new
  moved new same = record {
    few = is.few;
    below = is.below;
    apart = is.apart;
    known = known_so places new (take taken es) (all_any (take taken es)) is.known;
    kept = λ k p at. is.kept k p (sym (same k) ∙ at);
  }
    where
      all_any : (xs : List Seat) → AllByRecursion (λ (e : Seat). place_at new e.1.0 ≡ place_at places e.1.0) xs
      all_any [] = tt
      all_any (x ∷ xs) = (same x.1.0, all_any xs)

  -- a key that has no place isn't there
  pub absent : (key : ℕ) → place_at places key ≡ None → lookup (nat_eq key) (keyed taken es) ≡ None
  absent key none = keyed_none places key (take taken es) is.known none

  -- a key that isn't there has no place
  pub unplaced : (key : ℕ) → lookup (nat_eq key) (keyed taken es) ≡ None → place_at places key ≡ None
  unplaced key none = by_place (place_at places key) refl
    where
      by_place : (o : Option Place) → place_at places key ≡ o → place_at places key ≡ None
      by_place None at = at
      by_place (Some p) at = absurd (cc (sym none ∙ keyed_lookup places key p at (take taken es) is.known (is.kept key p at)))

  -- a key that has a place
  module _ (key : ℕ) (p : Place) (at : place_at places key ≡ Some p) where
    abbrev seat : Seat
    seat = (p.seat, (key, p.slot))

    abbrev rest : List Seat
    rest = remove_entry (nat_eq p.seat) es

    here : lookup (nat_eq p.seat) es ≡ Some (key, p.slot)
    here = found_in p.seat taken es (key, p.slot) (is.kept key p at)

    entry : lookup_entry (nat_eq p.seat) es ≡ Some seat
    entry = entry_of p.seat es (key, p.slot) here

    pub present : lookup (nat_eq key) (keyed taken es) ≡ Some p.slot
    present = keyed_lookup places key p at (take taken es) is.known (is.kept key p at)

    pub seen : lookup (nat_eq p.seat) es ≡ Some (key, p.slot)
    seen = here

    pub some : 1 ≤ taken
    some = some_first p.seat taken es (key, p.slot) (is.kept key p at)

    abbrev gone : List Seat
    gone = remove_entry (nat_eq p.seat) (take taken es)

    keyed_gone : map (λ (e : Seat). e.1) gone ≡ remove_entry (nat_eq key) (keyed taken es)
    keyed_gone = sym (keyed_without places key p at (take taken es) is.known (is.kept key p at))

    -- another key has another seat
    other_seat : (k : ℕ) (q : Place) → place_at places k ≡ Some q → k ≢ key → q.seat ≢ p.seat
    other_seat k q at_k other same =
        let pair : (k, q.slot) ≡ (key, p.slot) = cc (sym (ap (λ s. lookup (nat_eq s) (take taken es)) (sym same) ∙ is.kept k q at_k) ∙ is.kept key p at) in
        other (ap (λ (e : ℕ × ℕ). e.0) pair)

    -- it is used
    used : promoted (nat_eq p.seat) es ≡ seat ∷ rest
    used = ap (λ o. option_map_or (λ (e : Seat). e ∷ rest) o es) entry

    used_first : take taken (seat ∷ rest) ≡ seat ∷ gone
    used_first = first_without p.seat taken seat es (key, p.slot) (is.kept key p at)

    pub used_keyed : keyed taken (promoted (nat_eq p.seat) es) ≡ promoted (nat_eq key) (keyed taken es)
    used_keyed =
        ap (keyed taken) used ∙ ap (map (λ (e : Seat). e.1)) used_first ∙ ap (λ xs. (key, p.slot) ∷ xs) keyed_gone
        ∙ sym (ap (λ o. option_map_or (λ (e : ℕ × ℕ). e ∷ remove_entry (nat_eq key) (keyed taken es)) o (keyed taken es)) (entry_of key (keyed taken es) p.slot present))

    used_kept : (k : ℕ) (q : Place) → place_at places k ≡ Some q → lookup (nat_eq q.seat) (seat ∷ gone) ≡ Some (k, q.slot)
    used_kept k q at_k = elim (eqb_tells q.seat p.seat) as (λ _. lookup (nat_eq q.seat) (seat ∷ gone) ≡ Some (k, q.slot)) [
      | inl same ↦
          ap (λ b. cond b (Some (key, p.slot)) (lookup (nat_eq q.seat) gone)) same.0
          ∙ sym (is.kept key p at) ∙ ap (λ s. lookup (nat_eq s) (take taken es)) (sym same.1) ∙ is.kept k q at_k
      | inr other ↦
          ap (λ b. cond b (Some (key, p.slot)) (lookup (nat_eq q.seat) gone)) other.0
          ∙ other_stays p.seat q.seat other.1 (take taken es) ∙ is.kept k q at_k
    ]

    pub used_ordered : IsOrdered (promoted (nat_eq p.seat) es) taken places
    used_ordered = subst (λ fs. IsOrdered fs taken places) (sym used) (
        let same : length (seat ∷ rest) ≡ length es = omega (arith, length_without p.seat es (key, p.slot) here) in
        let below = subst (λ n. AllByRecursion (λ (e : Seat). e.0 < n) es) (sym same) is.below in
        record {
          few = omega (arith, same, is.few);
          below = (all_found (λ (e : Seat). e.0 < length (seat ∷ rest)) (nat_eq p.seat) es seat below entry, all_without (λ (e : Seat). e.0 < length (seat ∷ rest)) (nat_eq p.seat) es below);
          apart = (apart_from p.seat es is.apart, apart_without (nat_eq p.seat) es is.apart);
          known = subst (AreKnown places) (sym used_first) (at, all_without (λ (e : Seat). place_at places e.1.0 ≡ Some (record { seat = e.0; slot = e.1.1 })) (nat_eq p.seat) (take taken es) is.known);
          kept = λ k q at_k. ap (lookup (nat_eq q.seat)) used_first ∙ used_kept k q at_k;
        }
        )

    -- it goes
    module _ (new : List (Option Place)) (less : (k : ℕ) → place_at new k ≡ cond (nat_eq key k) None (place_at places k)) where
      last : demoted (nat_eq p.seat) es ≡ rest ++ seat ∷ []
      last = ap (λ o. option_map_or (λ (e : Seat). rest ++ e ∷ []) o es) entry

      gone_first : take (taken - 1) (rest ++ seat ∷ []) ≡ gone
      gone_first =
          take-append-le (taken - 1) rest (seat ∷ []) (omega (arith, length_without p.seat es (key, p.slot) here, is.few, some))
          ∙ (let one : taken ≡ suc (taken - 1) = omega (arith, some) in
          cc (ap (λ n. take n (seat ∷ rest)) (sym one) ∙ used_first))

      pub gone_keyed : keyed (taken - 1) (demoted (nat_eq p.seat) es) ≡ remove_entry (nat_eq key) (keyed taken es)
      gone_keyed = ap (keyed (taken - 1)) last ∙ ap (map (λ (e : Seat). e.1)) gone_first ∙ keyed_gone

      others_known : (xs : List Seat) → AreKnown places xs → AllByRecursion (λ (f : Seat). f.0 ≢ p.seat) xs → AreKnown new xs
      others_known [] known others = tt
      others_known (x ∷ xs) known others =
          let other : key ≢ x.1.0 = λ same.
          let one : p ≡ record { seat = x.0; slot = x.1.1 } = cc (sym at ∙ ap (place_at places) same ∙ known.0) in
          others.0 (ap (λ (q : Place). q.seat) (sym one)) in
          (less x.1.0 ∙ ap (λ b. cond b None (place_at places x.1.0)) (ne_eqb key x.1.0 other) ∙ known.0, others_known xs known.1 others.1)

      gone_kept : (k : ℕ) (q : Place) → place_at new k ≡ Some q → lookup (nat_eq q.seat) gone ≡ Some (k, q.slot)
      gone_kept k q at_k = elim (eqb_tells key k) as (λ _. lookup (nat_eq q.seat) gone ≡ Some (k, q.slot)) [
        | inl same ↦ absurd (cc (sym (less k ∙ ap (λ b. cond b None (place_at places k)) same.0) ∙ at_k))
        | inr other ↦
            let before : place_at places k ≡ Some q = sym (less k ∙ ap (λ b. cond b None (place_at places k)) other.0) ∙ at_k in
            other_stays p.seat q.seat (other_seat k q before (λ same. other.1 (sym same))) (take taken es) ∙ is.kept k q before
      ]

      pub gone_ordered : IsOrdered (demoted (nat_eq p.seat) es) (taken - 1) new
      gone_ordered = subst (λ fs. IsOrdered fs (taken - 1) new) (sym last) (
          let same : length (rest ++ seat ∷ []) ≡ length es = omega (arith, length-append rest (seat ∷ []), length_without p.seat es (key, p.slot) here) in
          let below = subst (λ n. AllByRecursion (λ (e : Seat). e.0 < n) es) (sym same) is.below in
          let P : Seat → Type 0 = λ e. e.0 < length (rest ++ seat ∷ []) in
          record {
            few = omega (arith, same, is.few);
            below = all_then P rest seat (all_without P (nat_eq p.seat) es below) (all_found P (nat_eq p.seat) es seat below entry);
            apart = apart_then rest seat (apart_without (nat_eq p.seat) es is.apart) (apart_from p.seat es is.apart);
            known = subst (AreKnown new) (sym gone_first) (others_known gone
                (all_without (λ (e : Seat). place_at places e.1.0 ≡ Some (record { seat = e.0; slot = e.1.1 })) (nat_eq p.seat) (take taken es) is.known)
                (apart_from p.seat (take taken es) (apart_first taken es is.apart)));
            kept = λ k q at_k. ap (lookup (nat_eq q.seat)) gone_first ∙ gone_kept k q at_k;
          }
          )

  -- a key comes in
  module _ (cap key slot s : ℕ) (none : lookup (nat_eq key) (keyed taken es) ≡ None) (room : length (keyed taken es) < cap) (vacant : IsVacant es taken s) where
    abbrev came : List Seat
    came = (s, (key, slot)) ∷ remove_entry (nat_eq s) es

    taken_length : length (keyed taken es) ≡ taken
    taken_length = length-map (take taken es) (λ (e : Seat). e.1) ∙ length-first taken es is.few

    put_found : (o : Option Seat) → lookup_entry (nat_eq s) es ≡ o → is_some o ≡ true → put_entries nat_eq (lru_cache es cap) s (key, slot) ≡ came
    put_found None at some = absurd (cc some)
    put_found (Some e) at some =
        ap (λ o. option_map_or (λ (e : Seat). (e.0, (key, slot)) ∷ remove_entry (nat_eq s) es) o ((s, (key, slot)) ∷ take (cap - 1) es)) at
        ∙ ap (λ k. (k, (key, slot)) ∷ remove_entry (nat_eq s) es) (seat_found s es e at)

    all_clear : taken ≡ length es → AllByRecursion (λ (e : Seat). e.0 ≢ s) es
    all_clear all = subst (AllByRecursion (λ (e : Seat). e.0 ≢ s)) (take_all taken es (omega (arith, all))) vacant.clear

    whole : taken ≡ length es → remove_entry (nat_eq s) es ≡ es
    whole all = stays s es (all_clear all)

    pub put_is : put_entries nat_eq (lru_cache es cap) s (key, slot) ≡ came
    put_is = elim vacant.is as (λ _. put_entries nat_eq (lru_cache es cap) s (key, slot) ≡ came) [
      | inl old ↦ put_found (lookup_entry (nat_eq s) es) refl old.2
      | inr fresh ↦
          ap (λ o. option_map_or (λ (e : Seat). (e.0, (key, slot)) ∷ remove_entry (nat_eq s) es) o ((s, (key, slot)) ∷ take (cap - 1) es)) (none_of s es (all_clear fresh.1))
          ∙ ap (λ xs. (s, (key, slot)) ∷ xs) (take_all (cap - 1) es (omega (arith, fresh.1, taken_length, room)) ∙ sym (whole fresh.1))
    ]

    came_first : take (taken + 1) came ≡ (s, (key, slot)) ∷ take taken es
    came_first =
        let one : taken + 1 ≡ suc taken = omega arith in
        ap (λ n. take n came) one ∙ ap (λ xs. (s, (key, slot)) ∷ xs) (first_stay s taken es vacant.clear)

    pub came_keyed : keyed (taken + 1) (put_entries nat_eq (lru_cache es cap) s (key, slot)) ≡ (key, slot) ∷ keyed taken es
    came_keyed = ap (keyed (taken + 1)) put_is ∙ ap (map (λ (e : Seat). e.1)) came_first

    came_length : (taken < length came) × AllByRecursion (λ (e : Seat). e.0 < length came) came
    came_length = elim vacant.is as (λ _. (taken < length came) × AllByRecursion (λ (e : Seat). e.0 < length came) came) [
      | inl old ↦
          let same : length came ≡ length es = same_length (lookup_entry (nat_eq s) es) refl old.2 in
          (omega (arith, same, old.1), (omega (arith, same, old.0), all_without (λ (e : Seat). e.0 < length came) (nat_eq s) es (subst (λ n. AllByRecursion (λ (e : Seat). e.0 < n) es) (sym same) is.below)))
      | inr fresh ↦
          let more : length came ≡ length es + 1 = omega (arith, ap length (whole fresh.1)) in
          (omega (arith, more, fresh.1), (omega (arith, more, fresh.0), all_without (λ (e : Seat). e.0 < length came) (nat_eq s) es (all_so (λ (e : Seat). e.0 < length es) (λ (e : Seat). e.0 < length came) (λ e less. omega (arith, less, more)) es is.below)))
    ]
      where
        same_length : (o : Option Seat) → lookup_entry (nat_eq s) es ≡ o → is_some o ≡ true → length came ≡ length es
        same_length None at some = absurd (cc some)
        same_length (Some e) at some = omega (arith, length_found s es e at)

    module _ (new : List (Option Place)) (more : (k : ℕ) → place_at new k ≡ cond (nat_eq key k) (Some (record { seat = s; slot = slot })) (place_at places k)) where
      known_still : (xs : List Seat) → AreKnown places xs → AreKnown new xs
      known_still [] known = tt
      known_still (x ∷ xs) known =
          let other : key ≢ x.1.0 = λ same. absurd (cc (sym (unplaced key none) ∙ ap (place_at places) same ∙ known.0)) in
          (more x.1.0 ∙ ap (λ b. cond b (Some (record { seat = s; slot = slot })) (place_at places x.1.0)) (ne_eqb key x.1.0 other) ∙ known.0, known_still xs known.1)

      came_kept : (k : ℕ) (q : Place) → place_at new k ≡ Some q → lookup (nat_eq q.seat) ((s, (key, slot)) ∷ take taken es) ≡ Some (k, q.slot)
      came_kept k q at_k = elim (eqb_tells key k) as (λ _. lookup (nat_eq q.seat) ((s, (key, slot)) ∷ take taken es) ≡ Some (k, q.slot)) [
        | inl same ↦
            let is_q : (record { seat = s; slot = slot }) ≡ q = cc (sym (more k ∙ ap (λ b. cond b (Some (record { seat = s; slot = slot })) (place_at places k)) same.0) ∙ at_k) in
            ap (λ b. cond b (Some (key, slot)) (lookup (nat_eq q.seat) (take taken es))) (eq-eqb q.seat s (ap (λ (r : Place). r.seat) (sym is_q)))
            ∙ (λ i. Some (same.1 i, (is_q i).slot))
        | inr other ↦
            let before : place_at places k ≡ Some q = sym (more k ∙ ap (λ b. cond b (Some (record { seat = s; slot = slot })) (place_at places k)) other.0) ∙ at_k in
            let apart : q.seat ≢ s = λ same. absurd (cc (sym (nothing_of s (take taken es) vacant.clear) ∙ ap (λ r. lookup (nat_eq r) (take taken es)) (sym same) ∙ is.kept k q before)) in
            ap (λ b. cond b (Some (key, slot)) (lookup (nat_eq q.seat) (take taken es))) (ne_eqb q.seat s apart) ∙ is.kept k q before
      ]

      pub came_ordered : IsOrdered (put_entries nat_eq (lru_cache es cap) s (key, slot)) (taken + 1) new
      came_ordered = subst (λ fs. IsOrdered fs (taken + 1) new) (sym put_is) (record {
        few = omega (arith, came_length.0);
        below = came_length.1;
        apart = (apart_from s es is.apart, apart_without (nat_eq s) es is.apart);
        known = subst (AreKnown new) (sym came_first) (more key ∙ ap (λ b. cond b (Some (record { seat = s; slot = slot })) (place_at places key)) (eq-eqb key key refl), known_still (take taken es) is.known);
        kept = λ k q at_k. ap (lookup (nat_eq q.seat)) came_first ∙ came_kept k q at_k;
      })

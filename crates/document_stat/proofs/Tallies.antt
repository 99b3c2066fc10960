-- Tallies of more and more things.
use Rattle.std.proofs.Common.{◌≡◌, ◌+◌, ◌*◌, ◌<◌, ◌≤◌, min, ℕ, List, [], ◌∷◌, ◌++◌, All, Option, Some, None, length, refl, sym, ap, subst, ◌∙◌, arith, append_assoc, append-nil, length-append}
use Rattle.std.proofs.lemmas.List.Elements.{All-nil, All-push, All-append, All-weaker, All-cons}
use Rattle.std.proofs.lemmas.List.Sums.{sum_by_push}
use Rattle.document_stat.specs.Tallies.{AddsItems, AddsIfAny, IsLargest, IsTally, IsTallyIfAny, most_items}
use Rattle.document_stat.specs.declared.tally.Item.{Item}
use Rattle.document_stat.specs.declared.tally.Tally.{Tally}

-- The largest.

pub larger_first : (items : List Item) (x : Item) → IsLargest items None → IsLargest (items ++ x ∷ []) (Some x)
larger_first items x none = ([], [], ap (λ (l : List Item). l ++ x ∷ []) none, All-nil (λ y. y.size < x.size), All-nil (λ y. y.size ≤ x.size))

pub larger_kept : (items : List Item) (a x : Item) → IsLargest items (Some a) → x.size ≤ a.size → IsLargest (items ++ x ∷ []) (Some a)
larger_kept items a x is le =
    (is.0, is.1 ++ x ∷ [], ap (λ (l : List Item). l ++ x ∷ []) is.2 ∙ append_assoc is.0 (a ∷ is.1) (x ∷ []), is.3, All-push (λ y. y.size ≤ a.size) is.1 x is.4 le)

pub larger_new : (items : List Item) (a x : Item) → IsLargest items (Some a) → a.size < x.size → IsLargest (items ++ x ∷ []) (Some x)
larger_new items a x is less =
    let low : All (λ (y : Item). y.size < x.size) (is.0 ++ a ∷ is.1) =
    All-append (λ y. y.size < x.size) is.0 (a ∷ is.1) (All-weaker (λ y. y.size < a.size) (λ y. y.size < x.size) (λ y l. omega (arith, l, less)) is.0 is.3)
    (All-cons (λ y. y.size < x.size) a is.1 less (All-weaker (λ y. y.size ≤ a.size) (λ y. y.size < x.size) (λ y l. omega (arith, l, less)) is.1 is.4)) in
    (items, [], refl, subst (λ (l : List Item). All (λ (y : Item). y.size < x.size) l) (sym is.2) low, All-nil (λ y. y.size ≤ x.size))

-- One more.

pub tally_with : (items : List Item) (x : Item) (old new : Tally) → length items + 1 ≤ most_items → IsTally items old → x.size < 4294967296 → old.sum ≤ old.count * 4294967295
    → new.count ≡ min (old.count + 1) 18446744073709551615 → new.sum ≡ min (old.sum + x.size) 18446744073709551615 → IsLargest (items ++ x ∷ []) new.largest → IsTally (items ++ x ∷ []) new
tally_with items x old new few is small bounded count sum largest =
    let was = is.count in
    let long : length (items ++ x ∷ []) ≡ length items + 1 = length-append items (x ∷ []) in
    record {
      count = omega (arith, count, was, few, long);
      sum = (let exact : new.sum ≡ old.sum + x.size = omega (arith, sum, was, few, small, bounded) in exact ∙ ap (λ (n : ℕ). n + x.size) is.sum ∙ sym (sum_by_push (λ y. y.size) items x));
      largest = largest;
    }

-- Steps joined.

pub adds_none : (t : Tally) → AddsItems [] t t
adds_none t = record { tally = λ done few is. subst (λ (l : List Item). IsTally l t) (sym (append-nil done)) is }

pub adds_more : (xs ys : List Item) (a b c : Tally) → AddsItems xs a b → AddsItems ys b c → AddsItems (xs ++ ys) a c
adds_more xs ys a b c first then = record {
  tally = λ done few is.
      let both = length-append xs ys in
      let more = length-append done xs in
      subst (λ (l : List Item). IsTally l c) (append_assoc done xs ys) (then.tally (done ++ xs) (omega (arith, few, both, more)) (first.tally done (omega (arith, few, both)) is));
}

pub adds_same : (xs ys : List Item) (a b : Tally) → xs ≡ ys → AddsItems xs a b → AddsItems ys a b
adds_same xs ys a b same adds = subst (λ (l : List Item). AddsItems l a b) same adds

pub adds_if_any_none : (t : Option Tally) → AddsIfAny [] t t
adds_if_any_none t = record { tally = λ done few is. subst (λ (l : List Item). IsTallyIfAny l t) (sym (append-nil done)) is }

pub adds_if_any_more : (xs ys : List Item) (a b c : Option Tally) → AddsIfAny xs a b → AddsIfAny ys b c → AddsIfAny (xs ++ ys) a c
adds_if_any_more xs ys a b c first then = record {
  tally = λ done few is.
      let both = length-append xs ys in
      let more = length-append done xs in
      subst (λ (l : List Item). IsTallyIfAny l c) (append_assoc done xs ys) (then.tally (done ++ xs) (omega (arith, few, both, more)) (first.tally done (omega (arith, few, both)) is));
}

pub adds_if_any_same : (xs ys : List Item) (a b : Option Tally) → xs ≡ ys → AddsIfAny xs a b → AddsIfAny ys a b
adds_if_any_same xs ys a b same adds = subst (λ (l : List Item). AddsIfAny l a b) same adds

-- one that is counted where there was a tally, and where there was none
pub added_to_some : (x : Item) (a b : Tally) → AddsItems (x ∷ []) a b → AddsIfAny (x ∷ []) (Some a) (Some b)
added_to_some x a b adds = record { tally = λ done few is. (adds.tally done few is.0, omega (arith, length-append done (x ∷ []))) }

pub added_to_none : (x : Item) (a b : Tally) → IsTally [] a → AddsItems (x ∷ []) a b → AddsIfAny (x ∷ []) None (Some b)
added_to_none x a b none adds = record {
  tally = λ done few is.
      (subst (λ (l : List Item). IsTally (l ++ x ∷ []) b) (sym is) (adds.tally [] (omega arith) none), omega (arith, length-append done (x ∷ [])));
}

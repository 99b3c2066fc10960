-- An edit's own refusals come before lack of room.
use Rattle.std.proofs.Common.{◌≡◌, ◌⊎◌, ℕ, [], ◌∷◌, ◌++◌, Bool, true, false, cond, ◌||◌, ◌&&◌, Option, Some, None, ◌==◌, refl, sym, ap, ◌∙◌, inl, inr}
use Rattle.std.proofs.lemmas.Bool.{eqb-true, cases_Bool}
use Rattle.std.proofs.lemmas.List.Folds.{list_any-append}
use Rattle.std.proofs.Math.Bool.{or-true}
use Rattle.std.specs.List.{list_any}
use Rattle.geos_model.specs.Refusal.{Conditions, applies, one_order, first_refusal, number_of_fault}
use Rattle.geos_model.specs.declared.fault.Fault.{Fault}
use Rattle.geos_model.specs.declared.fault.Fault.TheVariants.{BadChain, IsMap, TooBig, NoHandles, Full, Worn}
use Rattle.geos_model.proofs.FirstRefusals.{found_passes, none_among}
use Rattle.geos_model.proofs.Order.{is_worn, accepted-room, refused-room}
use Rattle.doc_edits.specs.Found.{is_among, own_faults, late_faults, AreOwn, AreLate}

-- where nothing else is refused, room decides
abbrev pub room : Bool → Option Fault
room full = cond full (Some Full) None

not_own : (own : Conditions) (f : Fault) → AreOwn own → is_among own_faults f ≡ false → applies own f ≡ false
not_own own f are other = none_among own_faults own f are other

late_own : (g : Fault) → is_among own_faults g ≡ true → is_among late_faults g ≡ true
late_own g e =
    ap (λ (b : Bool). (6 == number_of_fault g) || b) (list_any-append (λ f. number_of_fault f == number_of_fault g) own_faults (BadChain ∷ IsMap ∷ TooBig ∷ NoHandles ∷ Full ∷ []) ∙ rw e refl)
    ∙ or-true (6 == number_of_fault g)

-- an edit's own refusals come late enough, and so does lack of room
pub own_late : (own : Conditions) (full : Bool) → AreOwn own → AreLate (own ++ (Full, full) ∷ [])
own_late [] full are = refl
own_late ((g, holds) ∷ own) full are = elim (cases_Bool (is_among own_faults g)) [
  | inl e ↦ rw (late_own g e) (own_late own full (rw e at are))
  | inr e ↦ let no : false ≡ true = rw e at are in cc
]

room_decides : (full : Bool) → first_refusal ((Full, full) ∷ []) ≡ room full
room_decides true = refl
room_decides false = refl

-- a refusal or none
which : (o : Option Fault) → (o ≡ None) ⊎ ((f : Fault) × (o ≡ Some f))
which None = inl refl
which (Some f) = inr (f, refl)

module _ (own : Conditions) (are : AreOwn own) where
  early : (f : Fault) → first_refusal own ≡ Some f → is_worn f ≡ false
  early f first = elim (cases_Bool (is_worn f)) [
    | inl e ↦ let none : applies own f ≡ false = ap (λ (n : ℕ). list_any (λ c. (number_of_fault c.0 == n) && c.1) own) (sym (eqb-true 27 (number_of_fault f) e)) ∙ not_own own Worn are refl in
        let no : true ≡ false = sym (found_passes (applies own) one_order f first) ∙ none in cc
    | inr e ↦ e
  ]

  -- what is refused of its own stays refused
  pub own_refused : (full : Bool) (f : Fault) → first_refusal own ≡ Some f → first_refusal (own ++ (Full, full) ∷ []) ≡ Some f
  own_refused full f first = refused-room own full f (early f first) first

  -- where nothing is, room decides
  pub own_accepted : (full : Bool) → first_refusal own ≡ None → first_refusal (own ++ (Full, full) ∷ []) ≡ room full
  own_accepted full first = accepted-room own full first ∙ room_decides full

  -- what is refused where there is less room
  pub more_refused : (few full : Bool) (f : Fault) → (few ≡ true → full ≡ true) → first_refusal (own ++ (Full, few) ∷ []) ≡ Some f → first_refusal (own ++ (Full, full) ∷ []) ≡ Some f
  more_refused few full f less first = elim (which (first_refusal own)) [
    | inl none ↦ own_accepted full none ∙ less_room few full f less (sym (own_accepted few none) ∙ first)
    | inr some ↦ own_refused full some.0 some.1 ∙ sym (own_refused few some.0 some.1) ∙ first
  ]
    where
      less_room : (few full : Bool) (f : Fault) → (few ≡ true → full ≡ true) → room few ≡ Some f → room full ≡ Some f
      less_room true full f less is = ap room (less refl) ∙ is
      less_room false full f less is = absurd (cc is)

  pub more_accepted : (few full : Bool) → first_refusal (own ++ (Full, few) ∷ []) ≡ None → first_refusal (own ++ (Full, full) ∷ []) ≡ room full
  more_accepted few full first = elim (which (first_refusal own)) [
    | inl none ↦ own_accepted full none
    | inr some ↦ let no : Some some.0 ≡ None = sym (own_refused few some.0 some.1) ∙ first in absurd (cc no)
  ]

  pub has_room : (full : Bool) → first_refusal (own ++ (Full, full) ∷ []) ≡ None → full ≡ false
  has_room full first = elim (which (first_refusal own)) [
    | inl none ↦ room_left full (sym (own_accepted full none) ∙ first)
    | inr some ↦ let no : Some some.0 ≡ None = sym (own_refused full some.0 some.1) ∙ first in absurd (cc no)
  ]
    where
      room_left : (full : Bool) → room full ≡ None → full ≡ false
      room_left true is = absurd (cc is)
      room_left false is = refl

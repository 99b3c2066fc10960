-- An edit's own refusals come before lack of room. Its conditions may be any.
use Rattle.std.proofs.Common.{◌≡◌, List, [], ◌∷◌, ◌++◌, Bool, true, false, not, ◌==◌, ◌&&◌, Some, None, find, refl, ap, ◌∙◌, inl, inr}
use Rattle.std.proofs.lemmas.Bool.{cases_Bool}
use Rattle.std.proofs.lemmas.List.Folds.{list_any-append}
use Rattle.std.specs.List.{list_all}
use Rattle.geos_model.specs.Refusal.{Conditions, applies, first_refusal, number_of_fault}
use Rattle.geos_model.specs.declared.fault.Fault.{Fault}
use Rattle.geos_model.specs.declared.fault.Fault.TheVariants.{BadCommand, Locked, NothingToUndo, NothingToRedo, NoTarget, NoBlock, WrongKind, NotLocked, LockLimit, CacheFull, NoChunk, NotArray, NoElement, NoName, BadChain, IsMap, NameInUse, CountFull, Range, TooBig, NoHandles, Full, Worn, GroupOpen, NoGroup}

-- the refusals that are looked for before lack of room
abbrev before : List Fault
before =
    BadCommand ∷ GroupOpen ∷ NoGroup ∷ Locked ∷ NothingToUndo ∷ NothingToRedo ∷ NoTarget ∷ NoBlock ∷ WrongKind ∷ NotLocked ∷ LockLimit
    ∷ CacheFull ∷ NoChunk ∷ NotArray ∷ NoElement ∷ NoName ∷ BadChain ∷ IsMap ∷ NameInUse ∷ CountFull ∷ Range
    ∷ TooBig ∷ NoHandles ∷ []

abbrev is_full : Fault → Bool
is_full fault = 8 == number_of_fault fault

-- the one refusal that is looked for after lack of room
abbrev pub is_worn : Fault → Bool
is_worn fault = 27 == number_of_fault fault

module _ (own : Conditions) (full : Bool) where
  abbrev all : Conditions
  all = own ++ (Full, full) ∷ []

  applies-all : (f : Fault) → applies own f ≡ false → applies all f ≡ applies ((Full, full) ∷ []) f
  applies-all f none = list_any-append (λ c. (number_of_fault c.0 == number_of_fault f) && c.1) own ((Full, full) ∷ []) ∙ rw none refl

  stays : (f : Fault) → applies own f ≡ true → applies all f ≡ true
  stays f some = list_any-append (λ c. (number_of_fault c.0 == number_of_fault f) && c.1) own ((Full, full) ∷ []) ∙ rw some refl

  find-room : (faults : List Fault) → find (applies own) faults ≡ None → find (applies all) faults ≡ find (applies ((Full, full) ∷ [])) faults
  find-room [] none = refl
  find-room (f ∷ faults) none = elim (cases_Bool (applies own f)) [
    | inl e ↦ absurd (cc (rw e at none))
    | inr e ↦ rw (applies-all f e, find-room faults (rw e at none)) refl
  ]

  -- where no other refusal applies, room decides
  pub accepted-room : first_refusal own ≡ None → first_refusal (own ++ (Full, full) ∷ []) ≡ first_refusal ((Full, full) ∷ [])
  accepted-room none = find-room (before ++ Full ∷ Worn ∷ []) none

  last-own : (fault : Fault) → is_worn fault ≡ false → find (applies own) (Full ∷ Worn ∷ []) ≡ Some fault → find (applies all) (Full ∷ Worn ∷ []) ≡ Some fault
  last-own fault early first = elim (cases_Bool (applies own Full)) [
    | inl e ↦ rw (stays Full e) (rw e at first)
    | inr e ↦ elim (cases_Bool (applies own Worn)) [
      | inl w ↦ let some : Some Worn ≡ Some fault = rw (e, w) at first in let is : Worn ≡ fault = cc in let no : true ≡ false = ap (λ (f : Fault). is_worn f) is ∙ early in cc
      | inr w ↦ absurd (cc (rw (e, w) at first))
    ]
  ]

  find-own : (faults : List Fault) (fault : Fault) → is_worn fault ≡ false → list_all (λ f. not (is_full f)) faults ≡ true → find (applies own) (faults ++ Full ∷ Worn ∷ []) ≡ Some fault → find (applies all) (faults ++ Full ∷ Worn ∷ []) ≡ Some fault
  find-own [] fault early others first = last-own fault early first
  find-own (f ∷ faults) fault early others first = elim (cases_Bool (applies own f)) [
    | inl e ↦ rw (stays f e) (rw e at first)
    | inr e ↦ elim (cases_Bool (is_full f)) [
      | inl this ↦ absurd (cc (rw this at others))
      | inr other ↦ rw (applies-all f e, other) (find-own faults fault early (rw other at others) (rw e at first))
    ]
  ]

  -- what is refused without a look at room stays refused
  pub refused-room : (fault : Fault) → is_worn fault ≡ false → first_refusal own ≡ Some fault → first_refusal (own ++ (Full, full) ∷ []) ≡ Some fault
  refused-room fault early first = find-own before fault early refl first

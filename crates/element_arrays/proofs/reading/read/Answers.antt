use Rattle.std.proofs.Common.{◌≡◌, ℕ, ◌+◌, List, [], ◌∷◌, true, is_some, Some, None, Result, Ok, Err, MatchResult, option_and_then, length, refl, sym, ap, ◌∙◌, arith}
use Rattle.geos_model.specs.Array.{Array, array_bytes, array_of}
use Rattle.geos_model.specs.ElementArray.{slots_of, element_array_of}
use Rattle.geos_model.specs.declared.fault.Fault.{Fault}
use Rattle.geos_model.specs.declared.fault.Fault.TheVariants.{NotArray}
use Rattle.geos_model.proofs.Arrays.{array_bytes-of}
use Rattle.element_arrays.specs.Slotted.{Slotted, slotted_array, slotted_bytes}
use Rattle.element_arrays.proofs.SlottedLemmas.{carried}
use Rattle.element_arrays.proofs.reading.read.Goals as goal

not_array : (bytes : List ℕ) → array_of bytes ≡ None → element_array_of bytes ≡ None
unfolding element_array_of
not_array bytes none = ap (option_and_then (slots_of 2)) none

no_more : (more : List ℕ) → length more + 2 ≡ 2 → more ≡ []
no_more [] long = refl
no_more (x ∷ more) long = absurd (omega (arith, long))

by_array : (bytes : List ℕ) (a : Array) (r : Result Slotted Fault) → array_of bytes ≡ Some a
    → MatchResult r (λ s. (slots_of 2 a ≡ Some s.slots) × (slotted_array s ≡ a) × (length s.more + 2 ≡ 2)) (λ fault. (fault ≡ NotArray) × (slots_of 2 a ≡ None))
    → MatchResult r (λ s. (element_array_of bytes ≡ Some s.slots) × (slotted_bytes s.more s.slots ≡ bytes) × (s.more ≡ [])) (λ fault. (fault ≡ NotArray) × (element_array_of bytes ≡ None))
unfolding element_array_of slotted_bytes
by_array bytes a (Ok s) of h = (ap (option_and_then (slots_of 2)) of ∙ h.0, ap array_bytes h.1 ∙ (array_bytes-of bytes a of).1, no_more s.more h.2)
by_array bytes a (Err fault) of h = (h.0, ap (option_and_then (slots_of 2)) of ∙ h.1)

-- an element array is one of slots
slots_are : (bytes : List ℕ) (a : Array) → array_of bytes ≡ Some a → is_some (element_array_of bytes) ≡ true → is_some (slots_of 2 a) ≡ true
unfolding element_array_of
slots_are bytes a of is = ap (λ o. is_some (option_and_then (slots_of 2) o)) (sym of) ∙ is

pub returns-in_err-view : goal.returns-in_err-view
returns-in_err-view c =
    carried c.from_residual.result _ _ c.in_err-view.field-0.0 c.from_residual.ensures.1 (c.in_err-view.ensures.0, not_array c.args.bytes.now c.in_err-view.ensures.1)

pub known_slots-requires-clause-known : goal.known_slots-requires-clause-known
known_slots-requires-clause-known c = slots_are c.args.bytes.now c.in_ok-view.view.array c.in_ok-view.ensures (c.is_known.ensures c.if-is_known.true)

pub returns-then-is_known : goal.returns-then-is_known
returns-then-is_known c = by_array c.args.bytes.now c.in_ok-view.view.array (Ok c.known_slots.result) c.in_ok-view.ensures c.known_slots.ensures

pub returns : goal.returns
returns c = by_array c.args.bytes.now c.in_ok-view.view.array c.slots_in.result c.in_ok-view.ensures c.slots_in.ensures

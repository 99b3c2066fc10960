-- What is known of a used element of sound slots.
use Rattle.std.proofs.Common.{◌≡◌, ℕ, zero, suc, ◌≤◌, ◌<◌, List, [], ◌∷◌, Bool, true, false, not, ◌==◌, ◌&&◌, ◌||◌, nat_le, Option, Some, None, is_some, get_or, length, refl, sym, subst, ◌∙◌, inl, inr, leb-true}
use Rattle.std.proofs.lemmas.Bool.{cases_lt, and_parts}
use Rattle.std.proofs.lemmas.List.Quantifiers.{position-Some}
use Rattle.std.proofs.Math.ListN.{get_or-eq_default}
use Rattle.std.specs.List.{list_all}
use Rattle.std.specs.Option.{option_map_or}
use Rattle.geos_model.specs.ArrayEdits.{is_missized}
use Rattle.geos_model.specs.ElementArray.{Element, Slots, element_at, is_sound, is_good_slot, greatest_count}
use Rattle.geos_model.specs.ElementEdits.{count_at, bytes_at, token_of}
use Rattle.geos_model.proofs.ElementArrays.{sound_parts}

good_at : (size : ℕ) (slots : List (Option Element)) (t : ℕ) → list_all (is_good_slot size) slots ≡ true → is_good_slot size (get_or slots t None) ≡ true
good_at size [] t all = refl
good_at size (x ∷ xs) zero all = (and_parts (is_good_slot size x) (list_all (is_good_slot size) xs) all).0
good_at size (x ∷ xs) (suc t) all = good_at size xs t (and_parts (is_good_slot size x) (list_all (is_good_slot size) xs) all).1

-- of the element that stands at a token
module _ (s : Slots) (t : ℕ) (e : Element) (at : element_at s t ≡ Some e) where
  pub count_at-is : count_at s t ≡ e.count
  count_at-is = rw at refl

  pub bytes_at-is : bytes_at s t ≡ e.bytes
  bytes_at-is = rw at refl

-- A used element's place, count and size.
module _ (s : Slots) (sound : is_sound s ≡ true) (t : ℕ) (e : Element) (at : element_at s t ≡ Some e) where
  pub within : t < length s.slots
  within = elim (cases_lt t (length s.slots)) [
    | inl l ↦ l
    | inr past ↦ let no : None ≡ Some e = sym (get_or-eq_default s.slots None past) ∙ at in absurd (cc no)
  ]

  good : is_good_slot s.size (Some e) ≡ true
  good = subst (λ slot. is_good_slot s.size slot ≡ true) at (good_at s.size s.slots t (sound_parts s sound).good)

  pub is_used : is_some (element_at s t) ≡ true
  is_used = rw at refl

  pub counted : 1 ≤ e.count
  counted = leb-true 1 e.count (and_parts (nat_le 1 e.count) (nat_le e.count greatest_count) (and_parts (nat_le 1 e.count && nat_le e.count greatest_count) (s.size == 0 || length e.bytes == s.size) good).0).0

  pub bounded : e.count ≤ greatest_count
  bounded = leb-true e.count greatest_count (and_parts (nat_le 1 e.count) (nat_le e.count greatest_count) (and_parts (nat_le 1 e.count && nat_le e.count greatest_count) (s.size == 0 || length e.bytes == s.size) good).0).1

  -- its bytes have the right size
  pub own_size : is_missized s.size e.bytes ≡ false
  own_size = by_size (s.size == 0) (length e.bytes == s.size) (and_parts (nat_le 1 e.count && nat_le e.count greatest_count) (s.size == 0 || length e.bytes == s.size) good).1
    where
      by_size : (any right : Bool) → (any || right) ≡ true → (not any && not right) ≡ false
      by_size true right h = refl
      by_size false true h = refl
      by_size false false h = absurd (cc h)

-- The token that is found of an element is that of one that passes the test.
pub found_element : (passes : Element → Bool) (s : Slots) (t : ℕ) → token_of passes s ≡ Some t → (e : Element) × (element_at s t ≡ Some e) × (passes e ≡ true)
found_element passes s t found = by_slot (element_at s t) (position-Some (λ slot. option_map_or passes slot false) s.slots t None found).1
  where
    by_slot : (slot : Option Element) → option_map_or passes slot false ≡ true → (e : Element) × (slot ≡ Some e) × (passes e ≡ true)
    by_slot None passed = absurd (cc passed)
    by_slot (Some e) passed = (e, refl, passed)

-- the element of a token that is used
pub used_element : (s : Slots) (t : ℕ) → is_some (element_at s t) ≡ true → (e : Element) × (element_at s t ≡ Some e)
used_element s t used = by_slot (element_at s t) refl used
  where
    by_slot : (slot : Option Element) → element_at s t ≡ slot → is_some slot ≡ true → (e : Element) × (element_at s t ≡ Some e)
    by_slot None is none = absurd (cc none)
    by_slot (Some e) is some = (e, is)

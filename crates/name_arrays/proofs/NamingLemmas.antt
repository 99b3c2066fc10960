-- What is found of a token in a sound name array, and its bytes with other slots.
use Rattle.std.proofs.Common.{◌≡◌, ℕ, zero, suc, ◌≤◌, List, [], ◌∷◌, ◌++◌, Bool, true, false, not, ◌==◌, ◌&&◌, ◌||◌, nat_le, Option, Some, None, is_some, get_or, length, take, drop, refl, sym, ap, ap₂, subst, ◌∙◌, leb-true, inl, inr}
use Rattle.std.proofs.lemmas.Bool.{and_parts, cases_Bool}
use Rattle.std.proofs.lemmas.List.{take-append-drop}
use Rattle.std.proofs.lemmas.List.Quantifiers.{position-Some}
use Rattle.std.specs.List.{list_all}
use Rattle.std.specs.Option.{option_map, option_map_or}
use Rattle.geos_model.specs.Words.{word}
use Rattle.geos_model.specs.Bytes.{same_bytes}
use Rattle.geos_model.specs.Array.{array_bytes}
use Rattle.geos_model.specs.ArrayEdits.{is_missized}
use Rattle.geos_model.specs.ElementArray.{Element, Slots, slots_array, element_at, is_good_slot, greatest_count}
use Rattle.geos_model.specs.ElementEdits.{with_element}
use Rattle.geos_model.specs.NameArray.{NameArray, is_name, is_named, is_sound_names, text_of, name_bytes}
use Rattle.geos_model.specs.NameEdits.{token_of_text, text_at, is_name_in_use}
use Rattle.geos_model.proofs.Arrays.{same_bytes-is}
use Rattle.geos_model.proofs.ElementArrays.{sound_parts}
use Rattle.geos_model.proofs.NameArrays.{sound_names_parts}
use Rattle.element_arrays.specs.Slotted.{Slotted, slotted_bytes}
use Rattle.name_arrays.specs.Reading.{named_array}
use Rattle.name_arrays.specs.Naming.{IsNameAt}
use Rattle.name_arrays.specs.declared.names.Name.{Name}

-- a test that each slot passes, and a free one too
all_at : (p : Option Element → Bool) (slots : List (Option Element)) (t : ℕ) → p None ≡ true → list_all p slots ≡ true → p (get_or slots t None) ≡ true
all_at p [] t none all = none
all_at p (slot ∷ slots) zero none all = (and_parts (p slot) (list_all p slots) all).0
all_at p (slot ∷ slots) (suc t) none all = all_at p slots t none (and_parts (p slot) (list_all p slots) all).1

module _ (a : NameArray) (sound : is_sound_names a ≡ true) where
  -- names have any size
  pub any_size : (bytes : List ℕ) → is_missized a.names.size bytes ≡ false
  any_size bytes = rw (sound_names_parts a sound).varied refl

  module _ (t : ℕ) (e : Element) (at : element_at a.names t ≡ Some e) where
    good : is_good_slot a.names.size (Some e) ≡ true
    good = subst (λ slot. is_good_slot a.names.size slot ≡ true) at (all_at (is_good_slot a.names.size) a.names.slots t refl (sound_parts a.names (sound_names_parts a sound).sound).good)

    counted : (nat_le 1 e.count && nat_le e.count greatest_count) ≡ true
    counted = (and_parts (nat_le 1 e.count && nat_le e.count greatest_count) (a.names.size == 0 || length e.bytes == a.names.size) good).0

    named : (nat_le a.part (length e.bytes) && is_name (drop a.part e.bytes)) ≡ true
    named = subst (λ slot. is_named a.part slot ≡ true) at (all_at (is_named a.part) a.names.slots t refl (sound_names_parts a sound).named)

    pub has_part : a.part ≤ length e.bytes
    has_part = leb-true a.part (length e.bytes) (and_parts (nat_le a.part (length e.bytes)) (is_name (drop a.part e.bytes)) named).0

    pub has_name : is_name (drop a.part e.bytes) ≡ true
    has_name = (and_parts (nat_le a.part (length e.bytes)) (is_name (drop a.part e.bytes)) named).1

    -- its count, part and name
    pub name_at : (name : Name) → name.count ≡ e.count → name.part.now ≡ take a.part e.bytes → name.text.now ≡ drop a.part e.bytes → IsNameAt a t name
    name_at name count_is part_is text_is = record {
      used = ap is_some at;
      count = ap (λ o. option_map_or (λ x. x.count) o 0) at ∙ sym count_is;
      least = subst (λ (n : ℕ). 1 ≤ n) (sym count_is) (leb-true 1 e.count (and_parts (nat_le 1 e.count) (nat_le e.count greatest_count) counted).0);
      most = subst (λ (n : ℕ). n ≤ greatest_count) (sym count_is) (leb-true e.count greatest_count (and_parts (nat_le 1 e.count) (nat_le e.count greatest_count) counted).1);
      part = ap (λ o. take a.part (option_map_or (λ x. x.bytes) o [])) at ∙ sym part_is;
      text = ap (λ o. option_map_or (text_of a) o []) at ∙ sym text_is;
      bytes = ap (λ o. option_map_or (λ x. x.bytes) o []) at ∙ sym (take-append-drop a.part e.bytes) ∙ ap₂ (λ (x y : List ℕ). x ++ y) (sym part_is) (sym text_is);
    }

  -- a name that is found is used, and is a name
  pub found_name : (t : ℕ) (text : List ℕ) → token_of_text a text ≡ Some t → (is_some (element_at a.names t) ≡ true) × (is_name text ≡ true)
  found_name t text is = by_slot (element_at a.names t) refl (position-Some (λ slot. option_map_or (λ e. same_bytes (text_of a e) text) slot false) a.names.slots t None is).1
    where
      by_slot : (slot : Option Element) → element_at a.names t ≡ slot → option_map_or (λ e. same_bytes (text_of a e) text) slot false ≡ true → (is_some (element_at a.names t) ≡ true) × (is_name text ≡ true)
      by_slot None at same = absurd (cc same)
      by_slot (Some e) at same = (ap is_some at, subst (λ l. is_name l ≡ true) (same_bytes-is (text_of a e) text same) (has_name t e at))

-- The bytes of a name array with other slots.
module _ (s : Slotted) (part : ℕ) (more : s.more ≡ word part) where
  pub new_bytes : (slots : Slots) → slotted_bytes s.more slots ≡ name_bytes (record (named_array s part) { names = slots })
  unfolding slotted_bytes name_bytes
  new_bytes slots = ap (λ (m : List ℕ). array_bytes (slots_array m slots)) more

  pub bytes_with : (t count count′ : ℕ) (bytes bytes′ : List ℕ) → count ≡ count′ → bytes ≡ bytes′
      → slotted_bytes s.more (with_element s.slots t count bytes) ≡ name_bytes (record (named_array s part) { names = with_element s.slots t count′ bytes′ })
  bytes_with t count count′ bytes bytes′ count_is bytes_is =
      new_bytes (with_element s.slots t count bytes)
      ∙ ap₂ (λ (n : ℕ) (l : List ℕ). name_bytes (record (named_array s part) { names = with_element s.slots t n l })) count_is bytes_is

-- a search that finds something
pub some_found : {T : Type 0} (f : T → ℕ) (r : Option T) {o : Option ℕ} → option_map f r ≡ o → is_some o ≡ is_some r
some_found f None is = ap is_some (sym is)
some_found f (Some x) is = ap is_some (sym is)

-- no other name is the same where none is, or where this one is
pub not_in_use : (a : NameArray) (t : ℕ) (text : List ℕ) → is_some (token_of_text a text) ≡ false → is_name_in_use a t text ≡ false
not_in_use a t text none = ap (λ (x : Bool). x && not (same_bytes (text_at a t) text)) none

pub own_name : (a : NameArray) (t : ℕ) (text : List ℕ) → not (same_bytes (text_at a t) text) ≡ false → is_name_in_use a t text ≡ false
own_name a t text same = elim (cases_Bool (is_some (token_of_text a text))) [
  | inl e ↦ ap₂ (λ (x y : Bool). x && y) e same
  | inr e ↦ not_in_use a t text e
]

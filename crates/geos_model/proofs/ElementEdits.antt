-- Edits of slots: they stay sound, and the slots of all other tokens stay as they were.
use Rattle.std.proofs.Common.{◌≡◌, ℕ, zero, suc, ◌+◌, ◌-◌, ◌<◌, ◌≤◌, Bool, true, false, not, ◌&&◌, ◌||◌, ◌==◌, nat_lt, nat_le, cond, List, [], ◌∷◌, ◌++◌, length, set, get_or, Option, Some, None, is_some, is_none, count_by, refl, sym, ap, subst, ◌∙◌, arith, inl, inr, eqb-true, ltb-true, ltb-false, lt-ltb, unwrap_or, leb-true, leb-false, le-leb, ap₂, if◌then◌else◌, get_or-set_other, length-set}
use Rattle.std.proofs.lemmas.Bool.{cases_Bool, cases_lt, eqb-false, and_parts, and_from, or_from, or_parts, not_from_false, not-true, true≢false, cond-true, cond-false, eq-eqb, ne_eqb}
use Rattle.std.proofs.lemmas.List.{get_or-set_same, get_or-append-add}
use Rattle.std.proofs.lemmas.List.Sums.{sum_by-set, sum_by_push, fails_before_first}
use Rattle.std.proofs.lemmas.List.Folds.{list_all-append}
use Rattle.std.proofs.Math.ListN.{get_or-eq_default}
use Rattle.std.specs.List.{list_all, list_any, position_or_len}
use Rattle.std.specs.Option.{option_map_or}
use Rattle.geos_model.specs.Refusal.{Conditions, one_order, applies, first_refusal}
use Rattle.geos_model.specs.Bytes.{same_bytes}
use Rattle.geos_model.specs.Array.{array_bytes}
use Rattle.geos_model.specs.ArrayEdits.{is_missized}
use Rattle.geos_model.specs.ElementArray.{Element, Slots, element_at, is_free, all_distinct, is_good_slot, is_sound, greatest_count, slots_array, element_bytes, element_array_of}
use Rattle.geos_model.specs.ElementEdits.{no_slots, elements_in, count_at, bytes_at, with_element, without_element, with_new_at, with_new, unreferenced, token_of, token_of_bytes, added, on_token, is_count_full, create_elements_conditions, add_conditions, add_reference_conditions, change_conditions, element_added, reference_added, reference_removed, element_deleted, element_changed}
use Rattle.geos_model.specs.EditLaws.{HasNone, KeepsOthers, Becomes, referenced, dereferenced, AddsBytes, LeavesElements, ElementEditsLaw}
use Rattle.geos_model.specs.declared.fault.Fault.{Fault}
use Rattle.geos_model.specs.declared.fault.Fault.TheVariants.{Range, NotArray, NoElement, CountFull}
use Rattle.geos_model.proofs.Arrays.{same_bytes-is, same_bytes-refl}
use Rattle.geos_model.proofs.ElementArrays.{sound_parts, sound_from, element_bytes-of, element_array_again}
use Rattle.geos_model.proofs.FreeLists.{free_in, all_free-set}
use Rattle.geos_model.proofs.UsedElements.{used_element, count_at-is, bytes_at-is, counted, bounded, own_size, found_element}
use Rattle.geos_model.proofs.Refusals.{stands_in, none_applies, or_none}

-- The slots of other tokens.

pub others-set : (s : Slots) (t : ℕ) (slot : Option Element) (u : ℕ) → (u ≡ t → ⊥) → get_or (set s.slots t slot) u None ≡ element_at s u
others-set s t slot u other = get_or-set_other s.slots t u slot None other

-- a slot behind the last one leaves those of all other tokens
get_or_behind : (slots : List (Option Element)) (slot : Option Element) (u : ℕ) → (u ≡ length slots → ⊥) → get_or (slots ++ slot ∷ []) u None ≡ get_or slots u None
get_or_behind [] slot zero other = absurd (other refl)
get_or_behind [] slot (suc u) other = refl
get_or_behind (x ∷ xs) slot zero other = refl
get_or_behind (x ∷ xs) slot (suc u) other = get_or_behind xs slot u (λ e. other (ap suc e))

others-with_new_at : (free : List ℕ) (s : Slots) (slot : Option Element) → KeepsOthers s (with_new_at free s slot).0 (with_new_at free s slot).1
others-with_new_at [] s slot u other = get_or_behind s.slots slot u other
others-with_new_at (t ∷ ts) s slot u other = others-set s t slot u other

pub others-with_new : (s : Slots) (bytes : List ℕ) → KeepsOthers s (with_new s bytes).0 (with_new s bytes).1
others-with_new s bytes = others-with_new_at s.free s (Some (record { count = 1; bytes = bytes }))

pub others-unreferenced : (s : Slots) (t : ℕ) → KeepsOthers s (unreferenced s t) t
others-unreferenced s t u other = elim (cases_Bool (nat_le (count_at s t) 1)) [
  | inl last ↦ ap (λ (x : Slots). element_at x u) (cond-true (nat_le (count_at s t) 1) _ _ last) ∙ others-set s t None u other
  | inr more ↦ ap (λ (x : Slots). element_at x u) (cond-false (nat_le (count_at s t) 1) _ _ more)
      ∙ others-set s t (Some (record { count = count_at s t - 1; bytes = bytes_at s t })) u other
]

-- One slot that is another.

-- what holds of each slot and of the new one
pub all_set : (p : Option Element → Bool) (slots : List (Option Element)) (t : ℕ) (slot : Option Element) → list_all p slots ≡ true → p slot ≡ true → list_all p (set slots t slot) ≡ true
all_set p [] t slot all here = refl
all_set p (o ∷ slots) zero slot all here = and_from (p slot) (list_all p slots) here (and_parts (p o) (list_all p slots) all).1
all_set p (o ∷ slots) (suc t) slot all here =
    let parts = and_parts (p o) (list_all p slots) all in
    and_from (p o) (list_all p (set slots t slot)) parts.0 (all_set p slots t slot parts.1 here)

-- a slot isn't both used and free
used_or_free : (o : Option Element) → is_some o ≡ true → is_none o ≡ false
used_or_free None used = absurd (true≢false (sym used))
used_or_free (Some e) used = refl

-- a used token isn't among free ones
used_apart : (slots : List (Option Element)) (t : ℕ) (us : List ℕ) → is_some (get_or slots t None) ≡ true → list_all (free_in slots) us ≡ true → list_any (λ y. t == y) us ≡ false
used_apart slots t [] used free = refl
used_apart slots t (u ∷ us) used free =
    let parts = and_parts (free_in slots u) (list_all (free_in slots) us) free in
    let none : is_none (get_or slots u None) ≡ true = (and_parts (nat_lt u (length slots)) (is_none (get_or slots u None)) parts.0).1 in
    let rest : list_any (λ y. t == y) us ≡ false = used_apart slots t us used parts.1 in
    elim (cases_Bool (t == u)) [
      | inl same ↦ (let is : t ≡ u = eqb-true t u same in
          let here : is_none (get_or slots t None) ≡ true = subst (λ n. is_none (get_or slots n None) ≡ true) (sym is) none in
          absurd (true≢false (sym here ∙ used_or_free (get_or slots t None) used)))
      | inr other ↦ or_from (t == u) (list_any (λ y. t == y) us) other rest
    ]

-- a used token is one of a slot
pub used_lt : (slots : List (Option Element)) (t : ℕ) → is_some (get_or slots t None) ≡ true → t < length slots
used_lt slots t used = elim (cases_lt t (length slots)) [
  | inl low ↦ low
  | inr past ↦ absurd (true≢false (sym used ∙ ap is_some (get_or-eq_default slots None past)))
]

-- how many free slots there are, with another slot in the place of one
count_by-set : (slots : List (Option Element)) (t : ℕ) (slot : Option Element) → t < length slots → count_by is_none (set slots t slot) + cond (is_none (get_or slots t None)) 1 0 ≡ count_by is_none slots + cond (is_none slot) 1 0
count_by-set slots t slot low = sum_by-set (λ x. cond (is_none x) 1 0) slots t slot None low

-- what a slot counts for
one_if : {b : Bool} → b ≡ true → ◌≡◌ {A = ℕ} (cond b 1 0) 1
one_if h = ap {B = ℕ} (λ (x : Bool). cond x 1 0) h

none_if : {b : Bool} → b ≡ false → ◌≡◌ {A = ℕ} (cond b 1 0) 0
none_if h = ap {B = ℕ} (λ (x : Bool). cond x 1 0) h

-- a used element is good where its count and bytes fit
good_element : (size count : ℕ) (bytes : List ℕ) → 1 ≤ count → count ≤ greatest_count → is_missized size bytes ≡ false → is_good_slot size (Some (record { count = count; bytes = bytes })) ≡ true
good_element size count bytes least most fits =
    and_from (nat_le 1 count && nat_le count greatest_count) (size == 0 || length bytes == size)
    (and_from (nat_le 1 count) (nat_le count greatest_count) (le-leb 1 count least) (le-leb count greatest_count most))
    (by_size (size == 0) (length bytes == size) fits)
  where
    by_size : (any right : Bool) → (not any && not right) ≡ false → (any || right) ≡ true
    by_size true right h = refl
    by_size false true h = refl
    by_size false false h = absurd (true≢false h)

-- Soundness.

pub sound-with_element : (s : Slots) (t count : ℕ) (bytes : List ℕ) → is_sound s ≡ true → is_some (element_at s t) ≡ true → 1 ≤ count → count ≤ greatest_count → is_missized s.size bytes ≡ false → is_sound (with_element s t count bytes) ≡ true
sound-with_element s t count bytes sound used least most fits =
    let h = sound_parts s sound in
    let slot : Option Element = Some (record { count = count; bytes = bytes }) in
    let old = none_if (used_or_free (element_at s t) used) in
    let number = count_by-set s.slots t slot (used_lt s.slots t used) in
    let counted = h.counted in
    sound_from (with_element s t count bytes) (record {
      sized = h.sized;
      good = all_set (is_good_slot s.size) s.slots t slot h.good (good_element s.size count bytes least most fits);
      free = all_free-set s.slots t s.free slot (used_apart s.slots t s.free used h.free) h.free;
      distinct = h.distinct;
      counted = omega (arith, counted, number, old);
    })

pub sound-without_element : (s : Slots) (t : ℕ) → is_sound s ≡ true → is_some (element_at s t) ≡ true → is_sound (without_element s t) ≡ true
sound-without_element s t sound used =
    let h = sound_parts s sound in
    let low : t < length s.slots = used_lt s.slots t used in
    let apart : list_any (λ y. t == y) s.free ≡ false = used_apart s.slots t s.free used h.free in
    let old = none_if (used_or_free (element_at s t) used) in
    let number = count_by-set s.slots t None low in
    let counted = h.counted in
    let slots : List (Option Element) = set s.slots t None in
    let length_same = length-set s.slots t None in
    let here : free_in slots t ≡ true =
    and_from (nat_lt t (length slots)) (is_none (get_or slots t None)) (lt-ltb t (length slots) (omega (arith, low, length_same)))
    (ap is_none (get_or-set_same s.slots t None None low)) in
    sound_from (without_element s t) (record {
      sized = h.sized;
      good = all_set (is_good_slot s.size) s.slots t None h.good refl;
      free = and_from (free_in slots t) (list_all (free_in slots) s.free) here (all_free-set s.slots t s.free None apart h.free);
      distinct = and_from (not (list_any (λ y. t == y) s.free)) (all_distinct s.free) (not_from_false (list_any (λ y. t == y) s.free) apart) h.distinct;
      counted = omega (arith, counted, number, old);
    })

-- A new element behind the last one, where no token is free, or in the slot of the newest free one.
sound-with_new_at : (free : List ℕ) (s : Slots) (e : Element) → s.free ≡ free → is_sound s ≡ true → is_good_slot s.size (Some e) ≡ true → is_sound (with_new_at free s (Some e)).0 ≡ true
sound-with_new_at [] s e is sound good =
    let h = sound_parts s sound in
    let new : Slots = (with_new_at [] s (Some e)).0 in
    let number : count_by is_none (s.slots ++ Some e ∷ []) ≡ count_by is_none s.slots + 0 = sum_by_push (λ x. cond (is_none x) 1 0) s.slots (Some e) in
    let counted = h.counted in
    sound_from new (record {
      sized = h.sized;
      good = list_all-append (is_good_slot s.size) s.slots (Some e ∷ [])
          ∙ and_from (list_all (is_good_slot s.size) s.slots) (is_good_slot s.size (Some e) && true) h.good (and_from (is_good_slot s.size (Some e)) true good refl);
      free = ap (list_all (is_free new)) is;
      distinct = h.distinct;
      counted = omega (arith, counted, number);
    })
sound-with_new_at (t ∷ ts) s e is sound good =
    let h = sound_parts s sound in
    let free = and_parts (is_free s t) (list_all (is_free s) ts) (subst (λ us. list_all (is_free s) us ≡ true) is h.free) in
    let distinct = and_parts (not (list_any (λ y. t == y) ts)) (all_distinct ts) (subst (λ us. all_distinct us ≡ true) is h.distinct) in
    let counted : suc (length ts) ≡ count_by is_none s.slots = sym (ap length is) ∙ h.counted in
    let slot = and_parts (nat_lt t (length s.slots)) (is_none (element_at s t)) free.0 in
    let old = one_if slot.1 in
    let number = count_by-set s.slots t (Some e) (ltb-true t (length s.slots) slot.0) in
    sound_from (with_new_at (t ∷ ts) s (Some e)).0 (record {
      sized = h.sized;
      good = all_set (is_good_slot s.size) s.slots t (Some e) h.good good;
      free = all_free-set s.slots t ts (Some e) (not-true (list_any (λ y. t == y) ts) distinct.0) free.1;
      distinct = distinct.1;
      counted = omega (arith, counted, number, old);
    })

pub sound-with_new : (s : Slots) (bytes : List ℕ) → is_sound s ≡ true → is_missized s.size bytes ≡ false → is_sound (with_new s bytes).0 ≡ true
sound-with_new s bytes sound fits =
    sound-with_new_at s.free s (record { count = 1; bytes = bytes }) refl sound (good_element s.size 1 bytes (omega arith) (omega arith) fits)

-- A used element's count and bytes.

-- what they are in a good slot
pub record IsGood (size count : ℕ) (bytes : List ℕ) : Type 0 where
  pub least : 1 ≤ count
  pub most : count ≤ greatest_count
  pub sized : is_missized size bytes ≡ false

pub used_is_good : (s : Slots) (t : ℕ) → is_sound s ≡ true → is_some (element_at s t) ≡ true → IsGood s.size (count_at s t) (bytes_at s t)
used_is_good s t sound used =
    let e : Element = (used_element s t used).0 in
    let at : element_at s t ≡ Some e = (used_element s t used).1 in
    let count = count_at-is s t e at in
    let least = counted s sound t e at in
    let most = bounded s sound t e at in
    record {
      least = omega (arith, count, least);
      most = omega (arith, count, most);
      sized = ap (is_missized s.size) (bytes_at-is s t e at) ∙ own_size s sound t e at;
    }

pub sound-unreferenced : (s : Slots) (t : ℕ) → is_sound s ≡ true → is_some (element_at s t) ≡ true → is_sound (unreferenced s t) ≡ true
sound-unreferenced s t sound used =
    let h = used_is_good s t sound used in
    let most = h.most in
    elim (cases_Bool (nat_le (count_at s t) 1)) [
      | inl last ↦ subst (λ x. is_sound x ≡ true) (sym (cond-true (nat_le (count_at s t) 1) _ _ last)) (sound-without_element s t sound used)
      | inr more ↦ (let two : 1 < count_at s t = leb-false (count_at s t) 1 more in
          subst (λ x. is_sound x ≡ true) (sym (cond-false (nat_le (count_at s t) 1) _ _ more))
          (sound-with_element s t (count_at s t - 1) (bytes_at s t) sound used (omega (arith, two)) (omega (arith, most)) h.sized))
    ]

-- The edits.

-- what isn't nothing is what unwrapping gives
some_of-unwrap : (o : Option Slots) (d : Slots) → is_none o ≡ false → o ≡ Some (unwrap_or o d)
some_of-unwrap None d some = absurd (true≢false some)
some_of-unwrap (Some s) d some = refl

-- what bytes that are an element array read as is sound
pub elements-sound : (bytes : List ℕ) → is_none (element_array_of bytes) ≡ false → is_sound (elements_in bytes) ≡ true
elements-sound bytes some = (element_bytes-of bytes (elements_in bytes) (some_of-unwrap (element_array_of bytes) (no_slots 0) some)).0

-- a slot that isn't free is used
pub used_from_not_none : (o : Option Element) → is_none o ≡ false → is_some o ≡ true
used_from_not_none None used = absurd (true≢false used)
used_from_not_none (Some e) used = refl

-- one reference more than a count that isn't full
pub below_full : (n : ℕ) → n ≤ greatest_count → (n == greatest_count) ≡ false → n + 1 ≤ greatest_count
below_full n most other = let apart = eqb-false n greatest_count other in omega (arith, most, apart)

pub sound-referenced : (s : Slots) (t : ℕ) → is_sound s ≡ true → is_some (element_at s t) ≡ true → (count_at s t == greatest_count) ≡ false → is_sound (with_element s t (count_at s t + 1) (bytes_at s t)) ≡ true
sound-referenced s t sound used room =
    let h = used_is_good s t sound used in
    sound-with_element s t (count_at s t + 1) (bytes_at s t) sound used (omega arith) (below_full (count_at s t) h.most room) h.sized

-- the token that is found is a used one
pub found_is_used : (passes : Element → Bool) (s : Slots) (t : ℕ) → token_of passes s ≡ Some t → is_some (element_at s t) ≡ true
found_is_used passes s t found = let here = found_element passes s t found in ap is_some here.1

-- what adding makes of slots, with the token that is found
abbrev added_at : Slots → List ℕ → Option ℕ → Slots × ℕ
added_at s bytes found = option_map_or (λ t. (with_element s t (count_at s t + 1) (bytes_at s t), t)) found (with_new s bytes)

sound-added_at : (s : Slots) (bytes : List ℕ) (found : Option ℕ) → token_of_bytes s bytes ≡ found → is_sound s ≡ true → is_count_full s found ≡ false → is_missized s.size bytes ≡ false → is_sound (added_at s bytes found).0 ≡ true
sound-added_at s bytes None is sound room fits = sound-with_new s bytes sound fits
sound-added_at s bytes (Some t) is sound room fits = sound-referenced s t sound (found_is_used (λ e. same_bytes e.bytes bytes) s t is) room

others-added_at : (s : Slots) (bytes : List ℕ) (found : Option ℕ) → KeepsOthers s (added_at s bytes found).0 (added_at s bytes found).1
others-added_at s bytes None = others-with_new s bytes
others-added_at s bytes (Some t) = others-set s t (Some (record { count = count_at s t + 1; bytes = bytes_at s t }))

pub sound-added : (s : Slots) (bytes : List ℕ) → is_sound s ≡ true → is_count_full s (token_of_bytes s bytes) ≡ false → is_missized s.size bytes ≡ false → is_sound (added s bytes).0 ≡ true
sound-added s bytes = sound-added_at s bytes (token_of_bytes s bytes) refl

-- an array without elements
sound-no_slots : (size : ℕ) → size ≤ 4096 → is_sound (no_slots size) ≡ true
sound-no_slots size low = sound_from (no_slots size) (record { sized = omega (arith, low); good = refl; free = refl; distinct = refl; counted = refl })

-- What stands under the token of an edit.

-- a slot that is set
slot_set : (s : Slots) (t : ℕ) (slot : Option Element) → is_some (element_at s t) ≡ true → get_or (set s.slots t slot) t None ≡ slot
slot_set s t slot used = get_or-set_same s.slots t slot None (used_lt s.slots t used)

becomes : (change : Element → Option Element) (s new : Slots) (t : ℕ) → is_some (element_at s t) ≡ true → ((e : Element) → element_at s t ≡ Some e → element_at new t ≡ change e)
    → Becomes change s new t
becomes change s new t used does = let there = used_element s t used in (there.0, there.1, does there.0 there.1)

pub becomes_referenced : (s : Slots) (t : ℕ) → is_some (element_at s t) ≡ true → Becomes referenced s (with_element s t (count_at s t + 1) (bytes_at s t)) t
becomes_referenced s t used = becomes referenced s (with_element s t (count_at s t + 1) (bytes_at s t)) t used (λ e at.
    slot_set s t (Some (record { count = count_at s t + 1; bytes = bytes_at s t })) used
    ∙ ap₂ (λ (n : ℕ) (bytes : List ℕ). Some (record { count = n + 1; bytes = bytes })) (count_at-is s t e at) (bytes_at-is s t e at))

pub becomes_dereferenced : (s : Slots) (t : ℕ) → is_sound s ≡ true → is_some (element_at s t) ≡ true → Becomes dereferenced s (unreferenced s t) t
becomes_dereferenced s t sound used = becomes dereferenced s (unreferenced s t) t used (λ e at.
    let count = count_at-is s t e at in
    let least = counted s sound t e at in
    elim (cases_Bool (nat_le (count_at s t) 1)) [
      | inl last ↦ (let one = leb-true (count_at s t) 1 last in
          ap (λ (x : Slots). element_at x t) (cond-true (nat_le (count_at s t) 1) _ _ last)
          ∙ slot_set s t None used
          ∙ sym (cond-true (e.count == 1) None (Some (record e { count = e.count - 1 })) (eq-eqb e.count 1 (omega (arith, count, least, one)))))
      | inr more ↦ (let many = leb-false (count_at s t) 1 more in
          ap (λ (x : Slots). element_at x t) (cond-false (nat_le (count_at s t) 1) _ _ more)
          ∙ slot_set s t (Some (record { count = count_at s t - 1; bytes = bytes_at s t })) used
          ∙ ap₂ (λ (n : ℕ) (bytes : List ℕ). Some (record { count = n - 1; bytes = bytes })) count (bytes_at-is s t e at)
          ∙ sym (cond-false (e.count == 1) None (Some (record e { count = e.count - 1 })) (ne_eqb e.count 1 (λ is. absurd (omega (arith, count, many, is))))))
    ])

-- no slot's element passes a test of which there is no token
pub none_passes : (passes : Element → Bool) (s : Slots) (u : ℕ) (e : Element) → is_none (token_of passes s) ≡ true → element_at s u ≡ Some e → passes e ≡ true → ⊥
none_passes passes s u e none at passed =
    let test : Option Element → Bool = λ slot. option_map_or passes slot false in
    let low = used_lt s.slots u (ap is_some at) in
    elim (cases_lt (position_or_len test s.slots) (length s.slots)) [
      | inl there ↦ (let odd : false ≡ true = sym (ap is_none (cond-true _ _ _ (lt-ltb (position_or_len test s.slots) (length s.slots) there))) ∙ none in absurd (cc odd))
      | inr past ↦ (let odd : true ≡ false = sym (ap test at ∙ passed) ∙ fails_before_first test s.slots u None (omega (arith, past, low)) in absurd (cc odd))
    ]

none_there : (o : Option Element) → is_none o ≡ true → o ≡ None
none_there None e = refl
none_there (Some x) e = absurd (true≢false (sym e))

-- the newest free token is that of a free slot
pub first_free : (s : Slots) (t : ℕ) (ts : List ℕ) → s.free ≡ t ∷ ts → is_sound s ≡ true → is_free s t ≡ true
first_free s t ts is sound = (and_parts (is_free s t) (list_all (is_free s) ts) (subst (λ us. list_all (is_free s) us ≡ true) is (sound_parts s sound).free)).0

-- a new element's token was not in use
pub new_unused : (free : List ℕ) (s : Slots) (slot : Option Element) → s.free ≡ free → is_sound s ≡ true → element_at s (with_new_at free s slot).1 ≡ None
new_unused [] s slot is sound = get_or-eq_default s.slots None (omega arith)
new_unused (t ∷ ts) s slot is sound = none_there (element_at s t) (and_parts (nat_lt t (length s.slots)) (is_none (element_at s t)) (first_free s t ts is sound)).1

-- and has it now
pub new_holds : (free : List ℕ) (s : Slots) (slot : Option Element) → s.free ≡ free → is_sound s ≡ true → element_at (with_new_at free s slot).0 (with_new_at free s slot).1 ≡ slot
new_holds [] s slot is sound =
    let place : length s.slots + 0 ≡ length s.slots = omega arith in
    ap (λ (n : ℕ). get_or (s.slots ++ slot ∷ []) n None) (sym place) ∙ get_or-append-add s.slots (slot ∷ []) 0 None
new_holds (t ∷ ts) s slot is sound =
    get_or-set_same s.slots t slot None (ltb-true t (length s.slots) (and_parts (nat_lt t (length s.slots)) (is_none (element_at s t)) (first_free s t ts is sound)).0)

adds_at : (s : Slots) (bytes : List ℕ) (found : Option ℕ) → token_of_bytes s bytes ≡ found → is_sound s ≡ true → AddsBytes bytes s (added_at s bytes found).0 (added_at s bytes found).1
adds_at s bytes None is sound =
    let slot : Option Element = Some (record { count = 1; bytes = bytes }) in
    inr (
      λ u e at same. none_passes (λ x. same_bytes x.bytes bytes) s u e (ap is_none is) at (ap (λ (b : List ℕ). same_bytes b bytes) same ∙ same_bytes-refl bytes),
      new_unused s.free s slot refl sound,
      new_holds s.free s slot refl sound,
    )
adds_at s bytes (Some t) is sound =
    let found = found_element (λ e. same_bytes e.bytes bytes) s t is in
    inl (bytes_at-is s t found.0 found.1 ∙ same_bytes-is found.0.bytes bytes found.2, becomes_referenced s t (ap is_some found.1))

-- an edit of a used element, whose conditions begin with those of a token
module _ (bytes : List ℕ) (t : ℕ) (rest : Conditions) (none : first_refusal (on_token bytes t ++ rest) ≡ None) where
  past_all : (f : Fault) → stands_in f one_order ≡ true → applies (on_token bytes t ++ rest) f ≡ false
  past_all f member = none_applies (on_token bytes t ++ rest) none f member

  pub token-sound : is_sound (elements_in bytes) ≡ true
  token-sound = elements-sound bytes (or_parts (is_none (element_array_of bytes)) (applies rest NotArray) (past_all NotArray refl)).0

  pub token-used : is_some (element_at (elements_in bytes) t) ≡ true
  token-used = used_from_not_none (element_at (elements_in bytes) t) (or_parts (is_none (element_at (elements_in bytes) t)) (applies rest NoElement) (past_all NoElement refl)).0

-- a new element array is short
length-no_slots : (size : ℕ) → length (element_bytes (no_slots size)) ≡ 10
unfolding element_bytes array_bytes slots_array
length-no_slots size = elim (cases_Bool ((if size == 0 then 0 else size + 3) == 0)) [
  | inl any ↦ rw any refl
  | inr one ↦ rw one refl
]

edits-create : (size : ℕ) → first_refusal (create_elements_conditions size) ≡ None → (element_array_of (element_bytes (no_slots size)) ≡ Some (no_slots size)) × HasNone (no_slots size)
edits-create size none =
    let cs : Conditions = create_elements_conditions size in
    let low : size ≤ 4096 = ltb-false 4096 size (or_none (none_applies cs none Range refl)).0 in
    let long = length-no_slots size in
    (element_array_again (no_slots size) (sound-no_slots size low) (omega (arith, long)), λ t. refl)

edits-add : (bytes element : List ℕ) → let s = elements_in bytes in LeavesElements (add_conditions bytes element) (element_added bytes element) s (added s element).0 (added s element).1 (AddsBytes element)
edits-add bytes element none short =
    let s : Slots = elements_in bytes in
    let new : Slots = (added s element).0 in
    let cs : Conditions = add_conditions bytes element in
    let sound : is_sound s ≡ true = elements-sound bytes (or_none (none_applies cs none NotArray refl)).0 in
    let room : is_count_full s (token_of_bytes s element) ≡ false = (or_none (none_applies cs none CountFull refl)).0 in
    let fits : is_missized s.size element ≡ false = (or_none (none_applies cs none Range refl)).0 in
    (element_array_again new (sound-added s element sound room fits) short, others-added_at s element (token_of_bytes s element), adds_at s element (token_of_bytes s element) refl sound)

edits-add_reference : (bytes : List ℕ) (t : ℕ) → let s = elements_in bytes in LeavesElements (add_reference_conditions bytes t) (reference_added bytes t) s (with_element s t (count_at s t + 1) (bytes_at s t)) t (Becomes referenced)
edits-add_reference bytes t none short =
    let s : Slots = elements_in bytes in
    let new : Slots = with_element s t (count_at s t + 1) (bytes_at s t) in
    let rest : Conditions = (CountFull, is_count_full s (Some t)) ∷ [] in
    let cs : Conditions = on_token bytes t ++ rest in
    let sound = token-sound bytes t rest none in
    let used = token-used bytes t rest none in
    let room : (count_at s t == greatest_count) ≡ false = (or_none (none_applies cs none CountFull refl)).0 in (
      element_array_again new (sound-referenced s t sound used room) short,
      others-set s t (Some (record { count = count_at s t + 1; bytes = bytes_at s t })),
      becomes_referenced s t used,
    )

edits-remove_reference : (bytes : List ℕ) (t : ℕ) → let s = elements_in bytes in LeavesElements (on_token bytes t) (reference_removed bytes t) s (unreferenced s t) t (Becomes dereferenced)
edits-remove_reference bytes t none short =
    let s : Slots = elements_in bytes in
    let new : Slots = unreferenced s t in
    let rest : Conditions = [] in
    let sound = token-sound bytes t rest none in
    let used = token-used bytes t rest none in
    (element_array_again new (sound-unreferenced s t sound used) short, others-unreferenced s t, becomes_dereferenced s t sound used)

edits-delete : (bytes : List ℕ) (t : ℕ) → let s = elements_in bytes in LeavesElements (on_token bytes t) (element_deleted bytes t) s (without_element s t) t (Becomes (λ e. None))
edits-delete bytes t none short =
    let s : Slots = elements_in bytes in
    let new : Slots = without_element s t in
    let rest : Conditions = [] in
    let sound = token-sound bytes t rest none in
    let used = token-used bytes t rest none in
    (element_array_again new (sound-without_element s t sound used) short, others-set s t None, becomes (λ e. None) s new t used (λ e at. slot_set s t None used))

edits-change : (bytes : List ℕ) (t : ℕ) (element : List ℕ) → let s = elements_in bytes in LeavesElements (change_conditions bytes t element) (element_changed bytes t element) s (with_element s t (count_at s t) element) t (Becomes (λ e. Some (record e { bytes = element })))
edits-change bytes t element none short =
    let s : Slots = elements_in bytes in
    let new : Slots = with_element s t (count_at s t) element in
    let rest : Conditions = (Range, is_missized s.size element) ∷ [] in
    let cs : Conditions = on_token bytes t ++ rest in
    let sound = token-sound bytes t rest none in
    let used = token-used bytes t rest none in
    let good = used_is_good s t sound used in
    let fits : is_missized s.size element ≡ false = (or_none (none_applies cs none Range refl)).0 in (
      element_array_again new (sound-with_element s t (count_at s t) element sound used good.least good.most fits) short,
      others-set s t (Some (record { count = count_at s t; bytes = element })),
      becomes (λ e. Some (record e { bytes = element })) s new t used (λ e at.
          slot_set s t (Some (record { count = count_at s t; bytes = element })) used
          ∙ ap (λ (n : ℕ). Some (record { count = n; bytes = element })) (count_at-is s t e at)),
    )

-- What accepted edits of an element array leave.
pub element_edits_law : ElementEditsLaw
element_edits_law = record {
  create = edits-create;
  add = edits-add;
  add_reference = edits-add_reference;
  remove_reference = edits-remove_reference;
  delete = edits-delete;
  change = edits-change;
}

-- An accepted edit of a name array leaves one, and distinct names distinct.
use Rattle.std.proofs.Common.{◌≡◌, ℕ, zero, suc, ◌+◌, ◌-◌, ◌<◌, ◌≤◌, Bool, true, false, ◌&&◌, not, ◌==◌, nat_lt, nat_le, if◌then◌else◌, List, [], ◌∷◌, ◌++◌, length, take, drop, set, get_or, is_some, Option, Some, None, unwrap_or, refl, sym, ap, ap₂, subst, ◌∙◌, arith, inl, inr, leb-true, leb-false, eqb-true, le-leb, ltb-false, length-take-le, length-append}
use Rattle.std.proofs.lemmas.Bool.{cases_Bool, cases_eq, and_parts, and_from, cond-true, cond-false, eq-eqb}
use Rattle.std.proofs.lemmas.List.{take-append-drop, get_or-append-add, get_or-set_same}
use Rattle.std.proofs.lemmas.List.Folds.{list_all-append}
use Rattle.std.proofs.Math.ListN.{get_or-eq_default}
use Rattle.std.proofs.Math.Seq.{drop-append_seam}
use Rattle.std.specs.List.{list_all}
use Rattle.std.specs.Option.{is_none, option_map_or}
use Rattle.geos_model.specs.Bytes.{same_bytes}
use Rattle.geos_model.specs.Refusal.{first_refusal}
use Rattle.geos_model.specs.Array.{array_bytes}
use Rattle.geos_model.specs.ArrayEdits.{is_missized}
use Rattle.geos_model.specs.ElementArray.{Element, Slots, element_at, is_sound, greatest_count, slots_array}
use Rattle.geos_model.specs.ElementEdits.{count_at, bytes_at, with_element, without_element, with_new, with_new_at, unreferenced, is_count_full}
use Rattle.geos_model.specs.NameArray.{NameArray, part_of, text_of, is_name, is_named, is_sound_names, name_bytes, name_array_of}
use Rattle.geos_model.specs.NameEdits.{no_names, names_in, token_of_text, text_at, part_at, name_with_reference, added_name, on_name_token, is_name_in_use, create_names_conditions, add_name_conditions, change_name_conditions, set_part_conditions, name_added, name_token_added, name_changed, name_part_set, name_reference_removed}
use Rattle.geos_model.specs.EditLaws.{HasNone, KeepsOthers, AreDistinct, HasName, AddsName, Renames, SetsPart, LosesReference, LeavesNames, NameEditsLaw}
use Rattle.geos_model.specs.declared.fault.Fault.TheVariants.{NotArray, NoElement, NameInUse, CountFull, Range}
use Rattle.geos_model.proofs.UsedElements.{used_element, count_at-is, bytes_at-is, counted, bounded, found_element}
use Rattle.geos_model.proofs.Refusals.{none_applies, or_none}
use Rattle.geos_model.proofs.Arrays.{same_bytes-is, same_bytes-refl}
use Rattle.geos_model.proofs.ElementEdits.{all_set, below_full, used_lt, used_from_not_none, sound-with_element, sound-without_element, sound-with_new, others-set, others-with_new, none_passes, new_unused, new_holds, becomes_dereferenced}
use Rattle.geos_model.proofs.NameArrays.{IsSoundNames, sound_names_parts, name_bytes-of, name_array_again}

-- the same array with other slots
abbrev holding : NameArray → Slots → NameArray
holding a s = record a { names = s }

-- Distinct names.

-- Where one slot alone is another, and its name stands in no other slot, names stay distinct.
distinct-put : (a : NameArray) (s : Slots) (t : ℕ) → KeepsOthers a.names s t → AreDistinct a
    → ((x : Element) → element_at s t ≡ Some x → (u : ℕ) (y : Element) → element_at a.names u ≡ Some y → text_of a y ≡ text_of a x → u ≡ t)
    → AreDistinct (holding a s)
distinct-put a s t others distinct alone p q x y p_is q_is same = elim (cases_eq p t) [
  | inl p_here ↦ elim (cases_eq q t) [
    | inl q_here ↦ p_here ∙ sym q_here
    | inr q_other ↦ p_here ∙ sym (alone x (sym (ap (element_at s) p_here) ∙ p_is) q y (sym (others q q_other) ∙ q_is) (sym same))
  ]
  | inr p_other ↦ elim (cases_eq q t) [
    | inl q_here ↦ alone y (sym (ap (element_at s) q_here) ∙ q_is) p x (sym (others p p_other) ∙ p_is) same ∙ sym q_here
    | inr q_other ↦ distinct p q x y (sym (others p p_other) ∙ p_is) (sym (others q q_other) ∙ q_is) same
  ]
]

some_same : (x y : Element) → Some x ≡ Some y → x ≡ y
some_same x y e = cc

-- what stands in a slot that is set
set_is : (slots : List (Option Element)) (t : ℕ) (slot : Option Element) (x : Element) → get_or (set slots t slot) t None ≡ Some x → slot ≡ Some x
set_is [] t slot x is = absurd (cc (is, get_or-eq_default {A = Option Element} [] None {n = t} (omega arith)))
set_is (o ∷ slots) zero slot x is = is
set_is (o ∷ slots) (suc t) slot x is = set_is slots t slot x is

-- no slot has a name of which there is no token
no_text : (a : NameArray) (text : List ℕ) (u : ℕ) (y : Element) → is_none (token_of_text a text) ≡ true → element_at a.names u ≡ Some y → text_of a y ≡ text → ⊥
no_text a text u y none is same =
    none_passes (λ e. same_bytes (text_of a e) text) a.names u y none is (ap (λ (bytes : List ℕ). same_bytes bytes text) same ∙ same_bytes-refl text)

-- Of the element of a token.
module _ (a : NameArray) (t : ℕ) (e : Element) (is : element_at a.names t ≡ Some e) where
  text_is : text_at a t ≡ text_of a e
  text_is = ap (λ slot. option_map_or (text_of a) slot []) is

  part_is : part_at a t ≡ part_of a e
  part_is = ap (take a.part) (bytes_at-is a.names t e is)

is_used : (s : Slots) (t : ℕ) → is_none (element_at s t) ≡ false → (e : Element) × (element_at s t ≡ Some e)
is_used s t used = used_element s t (used_from_not_none (element_at s t) used)

-- An element with the name of the slot that it comes to leaves names distinct.
same_name : (a : NameArray) (t : ℕ) (e x z : Element) → AreDistinct a → element_at a.names t ≡ Some e → Some x ≡ Some z → text_of a x ≡ text_of a e
    → (u : ℕ) (y : Element) → element_at a.names u ≡ Some y → text_of a y ≡ text_of a z → u ≡ t
same_name a t e x z distinct is new same u y y_is y_same = distinct u t y e y_is is (y_same ∙ ap (text_of a) (sym (some_same x z new)) ∙ same)

-- So does one with a name that no slot has.
new_name : (a : NameArray) (t : ℕ) (text : List ℕ) (x z : Element) → is_none (token_of_text a text) ≡ true → Some x ≡ Some z → text_of a x ≡ text
    → (u : ℕ) (y : Element) → element_at a.names u ≡ Some y → text_of a y ≡ text_of a z → u ≡ t
new_name a t text x z none new is u y y_is y_same = absurd (no_text a text u y none y_is (y_same ∙ ap (text_of a) (sym (some_same x z new)) ∙ is))

-- the slot of a new element
new_slot_at : (free : List ℕ) (s : Slots) (slot : Option Element) (z : Element) → element_at (with_new_at free s slot).0 (with_new_at free s slot).1 ≡ Some z → slot ≡ Some z
new_slot_at [] s slot z is =
    let place : length s.slots + 0 ≡ length s.slots = omega arith in
    sym (ap (λ (n : ℕ). get_or (s.slots ++ slot ∷ []) n None) (sym place) ∙ get_or-append-add s.slots (slot ∷ []) 0 None) ∙ is
new_slot_at (t ∷ ts) s slot z is = set_is s.slots t slot z is

-- Soundness.

all_new : (p : Option Element → Bool) (free : List ℕ) (s : Slots) (x : Option Element) → list_all p s.slots ≡ true → p x ≡ true → list_all p (with_new_at free s x).0.slots ≡ true
all_new p [] s x all here = list_all-append p s.slots (x ∷ []) ∙ and_from (list_all p s.slots) (list_all p (x ∷ [])) all (and_from (p x) true here refl)
all_new p (t ∷ ts) s x all here = all_set p s.slots t x all here

all_at : (p : Option Element → Bool) (xs : List (Option Element)) (t : ℕ) → p None ≡ true → list_all p xs ≡ true → p (get_or xs t None) ≡ true
all_at p [] zero none all = none
all_at p [] (suc t) none all = none
all_at p (o ∷ xs) zero none all = (and_parts (p o) (list_all p xs) all).0
all_at p (o ∷ xs) (suc t) none all = all_at p xs t none (and_parts (p o) (list_all p xs) all).1

-- what an edit of sound slots keeps
sound_holding : (a : NameArray) (s : Slots) → IsSoundNames a → is_sound s ≡ true → s.size ≡ a.names.size → list_all (is_named a.part) s.slots ≡ true → is_sound_names (holding a s) ≡ true
unfolding is_sound_names
sound_holding a s was sound size named =
    and_from (is_sound s && s.size == 0 && nat_le a.part 64) (list_all (is_named a.part) s.slots)
    (and_from (is_sound s && s.size == 0) (nat_le a.part 64)
    (and_from (is_sound s) (s.size == 0) sound (eq-eqb s.size 0 (size ∙ was.varied)))
    (le-leb a.part 64 was.part)) named

size-new : (free : List ℕ) (s : Slots) (x : Option Element) → (with_new_at free s x).0.size ≡ s.size
size-new [] s x = refl
size-new (t ∷ ts) s x = refl

fits : (a : NameArray) (bytes : List ℕ) → IsSoundNames a → is_missized a.names.size bytes ≡ false
fits a bytes was = ap (λ (n : ℕ). is_missized n bytes) was.varied

-- a part and a name behind it
module _ (part count : ℕ) (front text : List ℕ) (long : length front ≡ part) where
  cut : drop part (front ++ text) ≡ text
  cut = ap (λ (n : ℕ). drop n (front ++ text)) (sym long) ∙ drop-append_seam front text

  named : is_name text ≡ true → is_named part (Some (record { count = count; bytes = front ++ text })) ≡ true
  named name =
      and_from (nat_le part (length (front ++ text))) (is_name (drop part (front ++ text)))
      (le-leb part (length (front ++ text)) (omega (arith, length-append front text, long)))
      (ap is_name cut ∙ name)

-- Of an element of sound names.
module _ (a : NameArray) (was : IsSoundNames a) (t : ℕ) (e : Element) (is : element_at a.names t ≡ Some e) where
  named_here : is_named a.part (Some e) ≡ true
  named_here = subst (λ slot. is_named a.part slot ≡ true) is (all_at (is_named a.part) a.names.slots t refl was.named)

  long_part : length (part_of a e) ≡ a.part
  long_part = length-take-le a.part e.bytes (leb-true a.part (length e.bytes) (and_parts (nat_le a.part (length e.bytes)) (is_name (drop a.part e.bytes)) named_here).0)

  own_name : is_name (text_of a e) ≡ true
  own_name = (and_parts (nat_le a.part (length e.bytes)) (is_name (drop a.part e.bytes)) named_here).1

-- what is read as names is sound
names_sound : (bytes : List ℕ) → is_none (name_array_of bytes) ≡ false → is_sound_names (names_in bytes) ≡ true
names_sound bytes is = by_read (name_array_of bytes) refl is
  where
    by_read : (read : Option NameArray) → name_array_of bytes ≡ read → is_none read ≡ false → is_sound_names (unwrap_or read (no_names 0)) ≡ true
    by_read None e none = absurd (cc none)
    by_read (Some a) e some = (name_bytes-of bytes a e).0

-- What an edit of one slot leaves.
record Kept (a : NameArray) (s : Slots) (t : ℕ) : Type 0 where
  sound : is_sound_names (holding a s) ≡ true
  others : KeepsOthers a.names s t
  distinct : AreDistinct a → AreDistinct (holding a s)

left : (Changes : NameArray → NameArray → ℕ → Type 0) (a : NameArray) (s : Slots) (t : ℕ) → Kept a s t → Changes a (holding a s) t → length (name_bytes (holding a s)) < 65536
    → (name_array_of (name_bytes (holding a s)) ≡ Some (holding a s)) × KeepsOthers a.names s t × (AreDistinct a → AreDistinct (holding a s)) × Changes a (holding a s) t
left Changes a s t kept changes short = (name_array_again (holding a s) kept.sound short, kept.others, kept.distinct, changes)

-- An element with a part and a name, in the place of one.
module _ (a : NameArray) (was : IsSoundNames a) (t : ℕ) (e : Element) (is : element_at a.names t ≡ Some e)
    (count : ℕ) (some : 1 ≤ count) (most : count ≤ greatest_count) (front text : List ℕ) (long : length front ≡ a.part) (name : is_name text ≡ true) where
  abbrev x : Element
  x = record { count = count; bytes = front ++ text }

  kept_set : (AreDistinct a → (z : Element) → Some x ≡ Some z → (u : ℕ) (y : Element) → element_at a.names u ≡ Some y → text_of a y ≡ text_of a z → u ≡ t)
      → Kept a (with_element a.names t count (front ++ text)) t
  kept_set alone = record {
    sound = sound_holding a (with_element a.names t count (front ++ text)) was
        (sound-with_element a.names t count (front ++ text) was.sound (ap is_some is) some most (fits a (front ++ text) was)) refl
        (all_set (is_named a.part) a.names.slots t (Some x) was.named (named a.part count front text long name));
    others = λ u other. others-set a.names t (Some x) u other;
    distinct = λ d. distinct-put a (with_element a.names t count (front ++ text)) t (λ u other. others-set a.names t (Some x) u other) d
        (λ z at. alone d z (set_is a.names.slots t (Some x) z at));
  }

  -- with the name that was there
  kept_same : text ≡ text_of a e → Kept a (with_element a.names t count (front ++ text)) t
  kept_same same = kept_set (λ d z new. same_name a t e x z d is new (cut a.part count front text long ∙ same))

  -- with one that no slot has
  kept_new : is_none (token_of_text a text) ≡ true → Kept a (with_element a.names t count (front ++ text)) t
  kept_new none = kept_set (λ d z new. new_name a t text x z none new (cut a.part count front text long))

-- A new name.
kept_added : (a : NameArray) (part text : List ℕ) → IsSoundNames a → length part ≡ a.part → is_name text ≡ true → is_none (token_of_text a text) ≡ true
    → Kept a (with_new a.names (part ++ text)).0 (with_new a.names (part ++ text)).1
kept_added a part text was long name none =
    let x : Element = record { count = 1; bytes = part ++ text } in
    let s : Slots = (with_new a.names (part ++ text)).0 in
    record {
      sound = sound_holding a s was (sound-with_new a.names (part ++ text) was.sound (fits a (part ++ text) was)) (size-new a.names.free a.names (Some x))
          (all_new (is_named a.part) a.names.free a.names (Some x) was.named (named a.part 1 part text long name));
      others = others-with_new a.names (part ++ text);
      distinct = λ d. distinct-put a s (with_new a.names (part ++ text)).1 (others-with_new a.names (part ++ text)) d
          (λ z at. new_name a (with_new a.names (part ++ text)).1 text x z none (new_slot_at a.names.free a.names (Some x) z at) (cut a.part 1 part text long));
    }

-- One reference less, or none.
kept_unreferenced : (a : NameArray) (t : ℕ) (e : Element) → IsSoundNames a → element_at a.names t ≡ Some e → Kept a (unreferenced a.names t) t
kept_unreferenced a t e was is = elim (cases_Bool (nat_le (count_at a.names t) 1)) [
  | inl last ↦ subst (λ s. Kept a s t) (sym (cond-true (nat_le (count_at a.names t) 1) (without_element a.names t) _ last)) (record {
    sound = sound_holding a (without_element a.names t) was (sound-without_element a.names t was.sound (ap is_some is)) refl
        (all_set (is_named a.part) a.names.slots t None was.named refl);
    others = λ u other. others-set a.names t None u other;
    distinct = λ d. distinct-put a (without_element a.names t) t (λ u other. others-set a.names t None u other) d
        (λ z at u y y_is same. (let odd = set_is a.names.slots t None z at in absurd (cc odd)));
  })
  | inr more ↦ (
      let many : 1 < count_at a.names t = leb-false (count_at a.names t) 1 more in
      let most : e.count ≤ greatest_count = bounded a.names was.sound t e is in
      let count : count_at a.names t ≡ e.count = count_at-is a.names t e is in
      let whole : part_of a e ++ text_of a e ≡ bytes_at a.names t = take-append-drop a.part e.bytes ∙ sym (bytes_at-is a.names t e is) in
      subst (λ s. Kept a s t) (ap (λ (bytes : List ℕ). with_element a.names t (count_at a.names t - 1) bytes) whole
      ∙ sym (cond-false (nat_le (count_at a.names t) 1) _ (with_element a.names t (count_at a.names t - 1) (bytes_at a.names t)) more))
      (kept_same a was t e is (count_at a.names t - 1) (omega (arith, many)) (omega (arith, most, count)) (part_of a e) (text_of a e) (long_part a was t e is) (own_name a was t e is) refl))
]

-- One reference more.
kept_referenced : (a : NameArray) (t : ℕ) (e : Element) (part : List ℕ) (replace : Bool) → IsSoundNames a → element_at a.names t ≡ Some e
    → length part ≡ a.part → (count_at a.names t == greatest_count) ≡ false → Kept a (name_with_reference a part replace t) t
kept_referenced a t e part replace was is long room =
    let count : count_at a.names t ≡ e.count = count_at-is a.names t e is in
    let most : e.count ≤ greatest_count = bounded a.names was.sound t e is in
    let text : text_at a t ≡ text_of a e = text_is a t e is in
    kept_same a was t e is (count_at a.names t + 1) (omega arith) (below_full (count_at a.names t) (omega (arith, most, count)) room)
    (if replace then part else part_at a t) (text_at a t) (front_long replace) (ap is_name text ∙ own_name a was t e is) text
  where
    front_long : (replace : Bool) → length (if replace then part else part_at a t) ≡ a.part
    front_long true = long
    front_long false = ap length (part_is a t e is) ∙ long_part a was t e is

not_false : (b : Bool) → not b ≡ false → b ≡ true
not_false true e = refl
not_false false e = absurd (cc e)

some_none : {T : Type 0} (o : Option T) → is_some o ≡ false → is_none o ≡ true
some_none None e = refl
some_none (Some x) e = absurd (cc e)

-- Another name, which no other slot has.
kept_changed : (a : NameArray) (t : ℕ) (e : Element) (text : List ℕ) → IsSoundNames a → element_at a.names t ≡ Some e → is_name text ≡ true → is_name_in_use a t text ≡ false
    → Kept a (with_element a.names t (count_at a.names t) (part_at a t ++ text)) t
kept_changed a t e text was is name free =
    let count : count_at a.names t ≡ e.count = count_at-is a.names t e is in
    let some : 1 ≤ count_at a.names t = omega (arith, count, counted a.names was.sound t e is) in
    let most : count_at a.names t ≤ greatest_count = omega (arith, count, bounded a.names was.sound t e is) in
    let long : length (part_at a t) ≡ a.part = ap length (part_is a t e is) ∙ long_part a was t e is in
    elim (cases_Bool (is_some (token_of_text a text))) [
      | inl there ↦ (
          let own : same_bytes (text_at a t) text ≡ true = not_false (same_bytes (text_at a t) text) (ap (λ (b : Bool). b && not (same_bytes (text_at a t) text)) (sym there) ∙ free) in
          let same : text ≡ text_of a e = sym (same_bytes-is (text_at a t) text own) ∙ text_is a t e is in
          kept_same a was t e is (count_at a.names t) some most (part_at a t) text long name same)
      | inr absent ↦ kept_new a was t e is (count_at a.names t) some most (part_at a t) text long name (some_none (token_of_text a text) absent)
    ]

-- Another part before the same name.
kept_part : (a : NameArray) (t : ℕ) (e : Element) (part : List ℕ) → IsSoundNames a → element_at a.names t ≡ Some e → length part ≡ a.part
    → Kept a (with_element a.names t (count_at a.names t) (part ++ text_at a t)) t
kept_part a t e part was is long =
    let count : count_at a.names t ≡ e.count = count_at-is a.names t e is in
    let some : 1 ≤ count_at a.names t = omega (arith, count, counted a.names was.sound t e is) in
    let most : count_at a.names t ≤ greatest_count = omega (arith, count, bounded a.names was.sound t e is) in
    let text : text_at a t ≡ text_of a e = text_is a t e is in
    kept_same a was t e is (count_at a.names t) some most part (text_at a t) long (ap is_name text ∙ own_name a was t e is) text

kept_added_name : (a : NameArray) (text part : List ℕ) (replace : Bool) → IsSoundNames a → is_count_full a.names (token_of_text a text) ≡ false → is_name text ≡ true → length part ≡ a.part
    → Kept a (added_name a text part replace).0 (added_name a text part replace).1
kept_added_name a text part replace was room name long = by_token (token_of_text a text) refl room
  where
    chosen : Option ℕ → Slots × ℕ
    chosen token = option_map_or (λ t. (name_with_reference a part replace t, t)) token (with_new a.names (part ++ text))

    by_token : (token : Option ℕ) → token_of_text a text ≡ token → is_count_full a.names token ≡ false → Kept a (chosen token).0 (chosen token).1
    by_token None is room = kept_added a part text was long name (ap is_none is)
    by_token (Some t) is room =
        let found = found_element (λ e. same_bytes (text_of a e) text) a.names t is in
        kept_referenced a t found.0 part replace was found.1 long room

-- What stands under the token of an edit.

-- an element's name behind its part
has_own : (a : NameArray) (t : ℕ) (e : Element) → IsSoundNames a → element_at a.names t ≡ Some e → HasName a t e.count (part_of a e) (text_of a e)
has_own a t e was is =
    (long_part a was t e is, is ∙ ap (λ (bytes : List ℕ). Some (record { count = e.count; bytes = bytes })) (sym (take-append-drop a.part e.bytes)))

-- another one in its slot
has_set : (a : NameArray) (t : ℕ) (e : Element) (count : ℕ) (part text : List ℕ) → element_at a.names t ≡ Some e → length part ≡ a.part
    → HasName (holding a (with_element a.names t count (part ++ text))) t count part text
has_set a t e count part text is long =
    (long, get_or-set_same a.names.slots t (Some (record { count = count; bytes = part ++ text })) None (used_lt a.names.slots t (ap is_some is)))

adds_name : (a : NameArray) (text part : List ℕ) (replace : Bool) → IsSoundNames a → length part ≡ a.part
    → AddsName text part replace a (holding a (added_name a text part replace).0) (added_name a text part replace).1
adds_name a text part replace was long = by_token (token_of_text a text) refl
  where
    chosen : Option ℕ → Slots × ℕ
    chosen token = option_map_or (λ t. (name_with_reference a part replace t, t)) token (with_new a.names (part ++ text))

    chosen_long : (replace : Bool) (front : List ℕ) → length front ≡ a.part → length (if replace then part else front) ≡ a.part
    chosen_long true front own = long
    chosen_long false front own = own

    by_token : (token : Option ℕ) → token_of_text a text ≡ token → AddsName text part replace a (holding a (chosen token).0) (chosen token).1
    by_token None is =
        let slot : Option Element = Some (record { count = 1; bytes = part ++ text }) in
        inr (
          λ u e at same. no_text a text u e (ap is_none is) at same,
          new_unused a.names.free a.names slot refl was.sound,
          (long, new_holds a.names.free a.names slot refl was.sound),
        )
    by_token (Some t) is =
        let found = found_element (λ e. same_bytes (text_of a e) text) a.names t is in
        let e : Element = found.0 in
        let at : element_at a.names t ≡ Some e = found.1 in
        let own = has_own a t e was at in
        let same : text_of a e ≡ text = same_bytes-is (text_of a e) text found.2 in
        let front : List ℕ = if replace then part else part_of a e in
        let set : name_with_reference a part replace t ≡ with_element a.names t (e.count + 1) (front ++ text) =
        ap (λ (n : ℕ). with_element a.names t (n + 1) ((if replace then part else part_at a t) ++ text_at a t)) (count_at-is a.names t e at)
        ∙ ap (λ (x : List ℕ). with_element a.names t (e.count + 1) ((if replace then part else x) ++ text_at a t)) (part_is a t e at)
        ∙ ap (λ (x : List ℕ). with_element a.names t (e.count + 1) (front ++ x)) (text_is a t e at ∙ same) in
        inl (
          e.count,
          part_of a e,
          subst (λ (x : List ℕ). HasName a t e.count (part_of a e) x) same own,
          subst (λ (x : Slots). HasName (holding a x) t (e.count + 1) front text) (sym set)
              (has_set a t e (e.count + 1) front text at (chosen_long replace (part_of a e) own.0)),
        )

renames : (a : NameArray) (t : ℕ) (e : Element) (text : List ℕ) → IsSoundNames a → element_at a.names t ≡ Some e
    → Renames text a (holding a (with_element a.names t (count_at a.names t) (part_at a t ++ text))) t
renames a t e text was is =
    let own = has_own a t e was is in
    let set : with_element a.names t (count_at a.names t) (part_at a t ++ text) ≡ with_element a.names t e.count (part_of a e ++ text) =
    ap₂ (λ (n : ℕ) (part : List ℕ). with_element a.names t n (part ++ text)) (count_at-is a.names t e is) (part_is a t e is) in (
      e.count,
      part_of a e,
      text_of a e,
      own,
      subst (λ (x : Slots). HasName (holding a x) t e.count (part_of a e) text) (sym set) (has_set a t e e.count (part_of a e) text is own.0),
    )

sets_part : (a : NameArray) (t : ℕ) (e : Element) (part : List ℕ) → IsSoundNames a → element_at a.names t ≡ Some e → length part ≡ a.part
    → SetsPart part a (holding a (with_element a.names t (count_at a.names t) (part ++ text_at a t))) t
sets_part a t e part was is long =
    let set : with_element a.names t (count_at a.names t) (part ++ text_at a t) ≡ with_element a.names t e.count (part ++ text_of a e) =
    ap₂ (λ (n : ℕ) (text : List ℕ). with_element a.names t n (part ++ text)) (count_at-is a.names t e is) (text_is a t e is) in (
      e.count,
      part_of a e,
      text_of a e,
      has_own a t e was is,
      subst (λ (x : Slots). HasName (holding a x) t e.count part (text_of a e)) (sym set) (has_set a t e e.count part (text_of a e) is long),
    )

leaves_add : (bytes text part : List ℕ) (replace : Bool) → let a = names_in bytes in
    LeavesNames (add_name_conditions bytes text part) (name_added bytes text part replace) a (record a { names = (added_name a text part replace).0 }) (name_token_added bytes text part replace) (AddsName text part replace)
leaves_add bytes text part replace none short =
    let a : NameArray = names_in bytes in
    let new = added_name a text part replace in
    let conditions = add_name_conditions bytes text part in
    let range = or_none (or_none (none_applies conditions none Range refl)).0 in
    let was = sound_names_parts a (names_sound bytes (or_none (none_applies conditions none NotArray refl)).0) in
    let long : length part ≡ a.part = eqb-true (length part) a.part (not_false (length part == a.part) range.1) in
    left (AddsName text part replace) a new.0 new.1
    (kept_added_name a text part replace was (or_none (none_applies conditions none CountFull refl)).0 (not_false (is_name text) range.0) long)
    (adds_name a text part replace was long) short

leaves_change : (bytes : List ℕ) (t : ℕ) (text : List ℕ) → let a = names_in bytes in
    LeavesNames (change_name_conditions bytes t text) (name_changed bytes t text) a (record a { names = with_element a.names t (count_at a.names t) (part_at a t ++ text) }) t (Renames text)
leaves_change bytes t text none short =
    let a : NameArray = names_in bytes in
    let new : Slots = with_element a.names t (count_at a.names t) (part_at a t ++ text) in
    let conditions = change_name_conditions bytes t text in
    let was = sound_names_parts a (names_sound bytes (or_none (none_applies conditions none NotArray refl)).0) in
    let used = is_used a.names t (or_none (none_applies conditions none NoElement refl)).0 in
    let name = not_false (is_name text) (or_none (none_applies conditions none Range refl)).0 in
    left (Renames text) a new t (kept_changed a t used.0 text was used.1 name (or_none (none_applies conditions none NameInUse refl)).0)
    (renames a t used.0 text was used.1) short

leaves_part : (bytes : List ℕ) (t : ℕ) (part : List ℕ) → let a = names_in bytes in
    LeavesNames (set_part_conditions bytes t part) (name_part_set bytes t part) a (record a { names = with_element a.names t (count_at a.names t) (part ++ text_at a t) }) t (SetsPart part)
leaves_part bytes t part none short =
    let a : NameArray = names_in bytes in
    let new : Slots = with_element a.names t (count_at a.names t) (part ++ text_at a t) in
    let conditions = set_part_conditions bytes t part in
    let was = sound_names_parts a (names_sound bytes (or_none (none_applies conditions none NotArray refl)).0) in
    let used = is_used a.names t (or_none (none_applies conditions none NoElement refl)).0 in
    let long : length part ≡ a.part = eqb-true (length part) a.part (not_false (length part == a.part) (or_none (none_applies conditions none Range refl)).0) in
    left (SetsPart part) a new t (kept_part a t used.0 part was used.1 long) (sets_part a t used.0 part was used.1 long) short

leaves_remove : (bytes : List ℕ) (t : ℕ) → let a = names_in bytes in LeavesNames (on_name_token bytes t) (name_reference_removed bytes t) a (record a { names = unreferenced a.names t }) t LosesReference
leaves_remove bytes t none short =
    let a : NameArray = names_in bytes in
    let conditions = on_name_token bytes t in
    let was = sound_names_parts a (names_sound bytes (or_none (none_applies conditions none NotArray refl)).0) in
    let used = is_used a.names t (or_none (none_applies conditions none NoElement refl)).0 in
    left LosesReference a (unreferenced a.names t) t (kept_unreferenced a t used.0 was used.1) (becomes_dereferenced a.names t was.sound (ap is_some used.1)) short

created_sound : (part : ℕ) → nat_lt 64 part ≡ false → is_sound_names (no_names part) ≡ true
unfolding is_sound_names is_sound
created_sound part small = and_from (nat_le part 64) true (le-leb part 64 (ltb-false 64 part small)) refl

-- a new name array is short
length-no_names : (part : ℕ) → length (name_bytes (no_names part)) ≡ 12
unfolding name_bytes array_bytes slots_array
length-no_names part = refl

leaves_create : (part : ℕ) → first_refusal (create_names_conditions part) ≡ None
    → (name_array_of (name_bytes (no_names part)) ≡ Some (no_names part)) × HasNone (no_names part).names × AreDistinct (no_names part)
leaves_create part none =
    let conditions = create_names_conditions part in
    let sound = created_sound part (or_none (none_applies conditions none Range refl)).0 in
    let long = length-no_names part in
    (name_array_again (no_names part) sound (omega (arith, long)), λ t. refl, λ t u x y there. absurd (cc there))

pub name_edits_law : NameEditsLaw
name_edits_law = record { create = leaves_create; add = leaves_add; change_name = leaves_change; set_part = leaves_part; remove_reference = leaves_remove }

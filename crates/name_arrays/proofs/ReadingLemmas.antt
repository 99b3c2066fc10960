-- A chunk's bytes are the name array that is read of them, or none, and what refusals and new bytes come to there.
use Rattle.std.proofs.Common.{subst, ◌≡◌, ℕ, ◌+◌, ◌<◌, ◌≤◌, drop, inl, inr, length-drop, le-leb, eq-eqb, ne_eqb, Bool, true, false, ◌&&◌, ◌==◌, nat_le, if◌then◌else◌, List, length, Option, Some, None, option_and_then, refl, sym, ap, ◌∙◌, arith, leb-true, ◌-◌, ◌∷◌, ◌++◌, not, ◌||◌, is_some, is_none, unwrap_or, ap₂, Result, MatchResult, []}
use Rattle.std.proofs.lemmas.Bool.{lt-leb, cases_Bool, and_parts, and_from, and_cases, and_left, and_right, cond-true, cond-false, true≢false}
use Rattle.std.specs.List.{list_all}
use Rattle.byteorder.specs.Endian.{little_number}
use Rattle.geos_model.specs.Words.{word, word_at}
use Rattle.geos_model.specs.Array.{Array, array_bytes, array_of}
use Rattle.geos_model.specs.ElementArray.{Element, Slots, slots_array, slots_of, slots_read, element_at, is_sound}
use Rattle.geos_model.specs.NameArray.{NameArray, is_named, is_sound_names, names_read, names_of, name_array_of, name_bytes, is_name}
use Rattle.geos_model.proofs.Arrays.{array_bytes-of}
use Rattle.geos_model.proofs.NameArrays.{word-small}
use Rattle.element_arrays.specs.Slotted.{Slotted, slotted_array, slotted_bytes, ReplacesOne, GivesSlots, RefusesSlots}
use Rattle.element_arrays.specs.Tested.{has_length, are_slots_within}
use Rattle.element_arrays.proofs.TestedLemmas.{slots_read-is, slots_none}
use Rattle.name_arrays.specs.Reading.{named_array, IsNameArrayRead}
use Rattle.std.specs.Option.{option_map_or}
use Rattle.geos_model.specs.Refusal.{Conditions, first_refusal}
use Rattle.geos_model.specs.ElementEdits.{count_at, bytes_at, with_element, without_element, with_new, unreferenced, is_count_full}
use Rattle.geos_model.specs.NameEdits.{no_names, names_in, token_of_text, part_at, name_with_reference, added_name, name_added, name_token_added, text_at, name_changed, name_part_set, name_reference_removed, on_name_token, is_name_in_use, add_name_conditions, change_name_conditions, set_part_conditions}
use Rattle.geos_model.specs.declared.fault.Fault.TheVariants.{NotArray, NoElement, NameInUse, CountFull, Range}
use Rattle.name_arrays.specs.Referencing.{name_bytes_with_reference, name_reference_conditions}
use Rattle.name_arrays.proofs.NamingLemmas.{new_bytes, bytes_with, found_name}
use Rattle.geos_model.specs.ArrayEdits.{too_long}
use Rattle.geos_model.specs.declared.fault.Fault.{Fault}
use Rattle.geos_model.specs.declared.handle.Token.{Token}
use Rattle.chunk_edits.specs.declared.runs.ArrayPatch.{ArrayPatch}
use Rattle.chunk_arrays.specs.Replacing.{RefusesToReplace}
use Rattle.element_arrays.proofs.SlottedLemmas.{refuses_for, replaces_for, slots_handed_on, token_handed_on}

-- ---- a chunk's bytes are the name array that is read of them, or none where a test fails

part_is : (s : Slotted) → word_at (slotted_array s).extra 2 ≡ little_number 2 s.more
unfolding slots_array
part_is s = refl

-- Of a name behind its part, a used element has as many bytes as both.
named_is : (part : ℕ) (slot : Option Element) → has_length (part + 1) (part + 256) slot ≡ is_named part slot
named_is part None = refl
named_is part (Some e) = elim (cases_Bool (nat_le (part + 1) (length e.bytes) && nat_le (length e.bytes) (part + 256))) [
  | inl so ↦
      (let parts = and_parts (nat_le (part + 1) (length e.bytes)) (nat_le (length e.bytes) (part + 256)) so in
      let low = leb-true (part + 1) (length e.bytes) parts.0 in
      let high = leb-true (length e.bytes) (part + 256) parts.1 in
      let cut = length-drop part e.bytes in
      so ∙ sym (and_from _ _ (le-leb part (length e.bytes) (omega (arith, low))) (and_from _ _ (le-leb 1 (length (drop part e.bytes)) (omega (arith, low, cut))) (le-leb (length (drop part e.bytes)) 256 (omega (arith, high, cut))))))
  | inr other ↦ other ∙ sym (elim (cases_Bool (nat_le part (length e.bytes) && is_name (drop part e.bytes))) [
    | inl so ↦
        (let parts = and_parts (nat_le part (length e.bytes)) (is_name (drop part e.bytes)) so in
        let bounds = and_parts (nat_le 1 (length (drop part e.bytes))) (nat_le (length (drop part e.bytes)) 256) parts.1 in
        let within = leb-true part (length e.bytes) parts.0 in
        let low = leb-true 1 (length (drop part e.bytes)) bounds.0 in
        let high = leb-true (length (drop part e.bytes)) 256 bounds.1 in
        let cut = length-drop part e.bytes in
        absurd (true≢false (sym (and_from _ _ (le-leb (part + 1) (length e.bytes) (omega (arith, within, low, cut))) (le-leb (length e.bytes) (part + 256) (omega (arith, within, high, cut)))) ∙ other)))
    | inr others ↦ others
  ])
]

all_named : (part : ℕ) (slots : List (Option Element)) → list_all (has_length (part + 1) (part + 256)) slots ≡ list_all (is_named part) slots
all_named part slots = ap (λ (p : Option Element → Bool). list_all p slots) (λ i slot. named_is part slot i)

-- bytes that are no chunk array
pub no_array : (bytes : List ℕ) → array_of bytes ≡ None → name_array_of bytes ≡ None
unfolding name_array_of
no_array bytes none = ap (option_and_then names_of) none

abbrev accepted : Array → Slots → Option NameArray
accepted a s = if is_sound_names (names_read a s) then Some (names_read a s) else None

no_slots : (a : Array) → slots_of 4 a ≡ None → names_of a ≡ None
no_slots a none = ap (option_and_then (accepted a)) none

-- an array of other slots
other_slots : (a : Array) → slots_of 4 a ≡ Some (slots_read a) → is_sound_names (names_read a (slots_read a)) ≡ false → names_of a ≡ None
other_slots a some other = ap (option_and_then (accepted a)) some ∙ cond-false _ _ _ other

by_slots : (a : Array) → (slots_of 4 a ≡ Some (slots_read a) → is_sound_names (names_read a (slots_read a)) ≡ false) → names_of a ≡ None
by_slots a other = elim (cases_Bool (is_some (slots_of 4 a))) [
  | inl some ↦ (let read = slots_read-is 4 a some in other_slots a read (other read))
  | inr none ↦ no_slots a (slots_none 4 a none)
]

-- one with other extra bytes
pub other_extra : (a : Array) → (length a.extra ≡ 4 → ⊥) → names_of a ≡ None
unfolding slots_of
other_extra a other =
    let s : Slots = slots_read a in
    no_slots a (cond-false _ _ _ (and_left _ _ (and_left (length a.extra == 4) (is_sound s) (ne_eqb (length a.extra) 4 other))))

pub great_part : (a : Array) → 64 < word_at a.extra 2 → names_of a ≡ None
unfolding is_sound_names
great_part a great = by_slots a (λ read. and_left _ _ (and_right (is_sound (slots_read a) && (slots_read a).size == 0) (nat_le (word_at a.extra 2) 64) (lt-leb (word_at a.extra 2) 64 great)))

-- what is known of the array of names, and of the size of their parts
pub known_slots : (a : Array) → is_some (names_of a) ≡ true → (slots_of 4 a ≡ Some (slots_read a)) × (is_sound_names (names_read a (slots_read a)) ≡ true)
known_slots a is = elim (cases_Bool (is_some (slots_of 4 a))) [
  | inl some ↦
      (let read = slots_read-is 4 a some in
      elim (cases_Bool (is_sound_names (names_read a (slots_read a)))) [
        | inl sound ↦ (read, sound)
        | inr other ↦ absurd (true≢false (sym is ∙ ap is_some (other_slots a read other)))
      ])
  | inr none ↦ absurd (true≢false (sym is ∙ ap is_some (no_slots a (slots_none 4 a none))))
]

pub known_sound : (a : Array) (s : Slotted) (part : ℕ) → slots_of 4 a ≡ Some s.slots → part ≡ word_at a.extra 2 → is_some (names_of a) ≡ true → is_sound_names (named_array s part) ≡ true
known_sound a s part slots read is =
    let known = known_slots a is in
    let some : Some (slots_read a) ≡ Some s.slots = sym known.0 ∙ slots in
    let same : s.slots ≡ slots_read a = cc in
    let names : named_array s part ≡ names_read a (slots_read a) = ap (λ (p : ℕ). named_array s p) read ∙ ap (names_read a) same in
    ap is_sound_names names ∙ known.1

pub known_names : (bytes : List ℕ) (a : Array) → array_of bytes ≡ Some a → is_some (name_array_of bytes) ≡ true → is_some (names_of a) ≡ true
unfolding name_array_of
known_names bytes a of is = ap (λ o. is_some (option_and_then names_of o)) (sym of) ∙ is

pub small_part : (names : NameArray) → is_sound_names names ≡ true → names.part ≤ 64
unfolding is_sound_names
small_part names sound =
    let sized : Bool = is_sound names.names && names.names.size == 0 in
    let parts = and_parts (sized && nat_le names.part 64) (list_all (is_named names.part) names.names.slots) sound in
    leb-true names.part 64 (and_parts sized (nat_le names.part 64) parts.0).1

pub more_of : (a : Array) (s : Slotted) (part : ℕ) → slotted_array s ≡ a → part ≡ word_at a.extra 2 → part ≤ 64 → length s.more + 2 ≡ 4 → s.more ≡ word part
more_of a s part array read small long =
    let number : part ≡ little_number 2 s.more = read ∙ ap (λ (b : Array). word_at b.extra 2) (sym array) ∙ part_is s in
    sym (word-small s.more (omega (arith, long)) (omega (arith, number, small))) ∙ ap word (sym number)

pub not_within : (a : Array) → are_slots_within 4 (word_at a.extra 2 + 1) (word_at a.extra 2 + 256) a ≡ false → names_of a ≡ None
unfolding is_sound_names
not_within a refused = by_slots a (λ read. elim (and_cases (is_some (slots_of 4 a)) (list_all (has_length (word_at a.extra 2 + 1) (word_at a.extra 2 + 256)) (slots_read a).slots) refused) [
  | inl none ↦ absurd (true≢false (sym (ap is_some read) ∙ none))
  | inr other ↦ and_right _ _ (sym (all_named (word_at a.extra 2) (slots_read a).slots) ∙ other)
])

-- the names of a chunk's bytes are those of the array that they are
pub by_array : (bytes : List ℕ) (a : Array) → array_of bytes ≡ Some a → names_of a ≡ None → name_array_of bytes ≡ None
unfolding name_array_of
by_array bytes a is none = ap (option_and_then names_of) is ∙ none

-- slots that are read of a chunk's bytes, and the size of a part
module _ (bytes : List ℕ) (a : Array) (s : Slotted) (part : ℕ) (is : array_of bytes ≡ Some a) (slots : slots_of 4 a ≡ Some s.slots) (array : slotted_array s ≡ a) (read : part ≡ word_at a.extra 2) where
  names_is : names_read a s.slots ≡ named_array s part
  names_is = ap (λ (p : ℕ). record { part = p; names = s.slots }) (sym read)

  comes_to : name_array_of bytes ≡ accepted a s.slots
  unfolding name_array_of
  comes_to = ap (option_and_then names_of) is ∙ ap (option_and_then (accepted a)) slots

  -- names have any size
  pub one_size : (s.slots.size ≡ 0 → ⊥) → name_array_of bytes ≡ None
  unfolding is_sound_names
  one_size sized =
      let other : is_sound_names (names_read a s.slots) ≡ false = and_left _ _ (and_left _ _ (and_right (is_sound s.slots) (s.slots.size == 0) (ne_eqb s.slots.size 0 sized))) in
      comes_to ∙ cond-false _ _ _ other

  pub sound_read : is_sound_names (named_array s part) ≡ true → IsNameArrayRead bytes s part
  unfolding slotted_bytes
  sound_read sound = record {
    is = comes_to ∙ cond-true _ _ _ (ap is_sound_names names_is ∙ sound) ∙ ap Some names_is;
    same = ap array_bytes array ∙ (array_bytes-of bytes a is).1;
  }

  module _ (small : part ≤ 64) (any : s.slots.size ≡ 0) (named : list_all (has_length (part + 1) (part + 256)) s.slots.slots ≡ true) where
    pub is_sound_read : is_sound_names (named_array s part) ≡ true
    unfolding is_sound_names
    is_sound_read = and_from _ _ (and_from _ _ (and_from _ _ s.sound (eq-eqb s.slots.size 0 any)) (le-leb part 64 small)) (sym (all_named part s.slots.slots) ∙ named)

    pub more_is : length s.more + 2 ≡ 4 → s.more ≡ word part
    more_is = more_of a s part array read small

    pub is_read : IsNameArrayRead bytes s part
    is_read = sound_read is_sound_read

-- ---- what refusals and new bytes come to where a chunk's bytes are read as a name array

used_not_none : {T : Type 0} (o : Option T) → is_some o ≡ true → is_none o ≡ false
used_not_none None used = absurd (cc used)
used_not_none (Some x) used = refl

module _ (bytes : List ℕ) (s : Slotted) (size : ℕ) (read : IsNameArrayRead bytes s size) where
  abbrev a : NameArray
  a = named_array s size

  names_are : names_in bytes ≡ a
  names_are = ap (λ o. unwrap_or o (no_names 0)) read.is

  -- which refusals decide
  pub past_token : (t : ℕ) → is_some (element_at a.names t) ≡ true → (rest : Conditions) → first_refusal (on_name_token bytes t ++ rest) ≡ first_refusal rest
  past_token t used rest =
      ap₂ (λ o (b : NameArray). first_refusal ((NotArray, is_none o) ∷ (NoElement, is_none (element_at b.names t)) ∷ rest)) read.is names_are
      ∙ ap (λ (x : Bool). first_refusal ((NotArray, false) ∷ (NoElement, x) ∷ rest)) (used_not_none (element_at a.names t) used)

  pub change_refusals : (t : ℕ) (text : List ℕ) (in_use bad : Bool) → is_some (element_at a.names t) ≡ true → is_name_in_use a t text ≡ in_use → not (is_name text) ≡ bad
      → (rest : Conditions) → first_refusal (change_name_conditions bytes t text ++ rest) ≡ first_refusal ((NameInUse, in_use) ∷ (Range, bad) ∷ rest)
  change_refusals t text in_use bad used in_use_is bad_is rest =
      past_token t used ((NameInUse, is_name_in_use (names_in bytes) t text) ∷ (Range, not (is_name text)) ∷ rest)
      ∙ ap (λ (b : NameArray). first_refusal ((NameInUse, is_name_in_use b t text) ∷ (Range, not (is_name text)) ∷ rest)) names_are
      ∙ ap₂ (λ (x y : Bool). first_refusal ((NameInUse, x) ∷ (Range, y) ∷ rest)) in_use_is bad_is

  pub part_refusals : (t : ℕ) (part : List ℕ) (bad : Bool) → is_some (element_at a.names t) ≡ true → not (length part == size) ≡ bad
      → (rest : Conditions) → first_refusal (set_part_conditions bytes t part ++ rest) ≡ first_refusal ((Range, bad) ∷ rest)
  part_refusals t part bad used bad_is rest =
      past_token t used ((Range, not (length part == (names_in bytes).part)) ∷ rest)
      ∙ ap (λ (b : NameArray). first_refusal ((Range, not (length part == b.part)) ∷ rest)) names_are
      ∙ ap (λ (x : Bool). first_refusal ((Range, x) ∷ rest)) bad_is

  pub add_refusals : (text part : List ℕ) (full bad : Bool) → is_count_full a.names (token_of_text a text) ≡ full → (not (is_name text) || not (length part == size)) ≡ bad
      → (rest : Conditions) → first_refusal (add_name_conditions bytes text part ++ rest) ≡ first_refusal ((CountFull, full) ∷ (Range, bad) ∷ rest)
  add_refusals text part full bad full_is bad_is rest =
      ap₂ (λ o (b : NameArray). first_refusal ((NotArray, is_none o) ∷ (CountFull, is_count_full b.names (token_of_text b text)) ∷ (Range, not (is_name text) || not (length part == b.part)) ∷ rest)) read.is names_are
      ∙ ap₂ (λ (x y : Bool). first_refusal ((NotArray, false) ∷ (CountFull, x) ∷ (Range, y) ∷ rest)) full_is bad_is

  -- a name that is there
  module _ (text part : List ℕ) (replace : Bool) (t : ℕ) (found : token_of_text a text ≡ Some t) where
    added_found : name_bytes_with_reference a part replace t ≡ name_added bytes text part replace
    added_found = rw (names_are, found) refl

    pub token_found : t ≡ name_token_added bytes text part replace
    token_found =
        sym (ap (λ (b : NameArray). (added_name b text part replace).1) names_are
        ∙ ap (λ o. (option_map_or (λ x. (name_with_reference a part replace x, x)) o (with_new a.names (part ++ text))).1) found)

    full_found : is_count_full a.names (token_of_text a text) ≡ is_count_full a.names (Some t)
    full_found = ap (is_count_full a.names) found

    module _ (sound : is_sound_names a ≡ true) where
      -- the part's length alone decides
      decides : first_refusal (add_name_conditions bytes text part ++ too_long (name_added bytes text part replace)) ≡ first_refusal (name_reference_conditions a part t ++ too_long (name_added bytes text part replace))
      decides =
          let good : is_name text ≡ true = (found_name a sound t text found).1 in
          add_refusals text part (is_count_full a.names (Some t)) (not (length part == size)) full_found (ap (λ (x : Bool). not x || not (length part == size)) good) (too_long (name_added bytes text part replace))

      pub found_refused : (fault : Fault) → RefusesToReplace (name_reference_conditions a part t) (name_bytes_with_reference a part replace t) fault → RefusesToReplace (add_name_conditions bytes text part) (name_added bytes text part replace) fault
      found_refused =
          refuses_for (add_name_conditions bytes text part) (name_reference_conditions a part t) bytes (name_added bytes text part replace) (slotted_bytes s.more s.slots) (name_bytes_with_reference a part replace t)
          decides added_found

      pub found_replaced : (p : ArrayPatch) → ReplacesOne (name_reference_conditions a part t) (slotted_bytes s.more s.slots) (name_bytes_with_reference a part replace t) t p → ReplacesOne (add_name_conditions bytes text part) bytes (name_added bytes text part replace) (name_token_added bytes text part replace) p
      found_replaced p made =
          subst (λ n. ReplacesOne (add_name_conditions bytes text part) bytes (name_added bytes text part replace) n p) token_found (
          replaces_for (add_name_conditions bytes text part) (name_reference_conditions a part t) bytes (name_added bytes text part replace) (slotted_bytes s.more s.slots) (name_bytes_with_reference a part replace t)
          decides added_found read.same t p made)

  module _ (more : s.more ≡ word size) where
    -- a new one
    module _ (text part : List ℕ) (replace : Bool) (none : token_of_text a text ≡ None) where
      added_new : slotted_bytes s.more (with_new s.slots (part ++ text)).0 ≡ name_added bytes text part replace
      added_new = new_bytes s size more (with_new s.slots (part ++ text)).0 ∙ rw (names_are, none) refl

      token_new : (with_new s.slots (part ++ text)).1 ≡ name_token_added bytes text part replace
      token_new =
          sym (ap (λ (b : NameArray). (added_name b text part replace).1) names_are
          ∙ ap (λ o. (option_map_or (λ x. (name_with_reference a part replace x, x)) o (with_new a.names (part ++ text))).1) none)

      full_new : is_count_full a.names (token_of_text a text) ≡ false
      full_new = ap (is_count_full a.names) none

      -- its text and part decide
      pub new_refusals : (bad : Bool) → (not (is_name text) || not (length part == size)) ≡ bad → (rest : Conditions) → first_refusal (add_name_conditions bytes text part ++ rest) ≡ first_refusal ((CountFull, false) ∷ (Range, bad) ∷ rest)
      new_refusals bad bad_is = add_refusals text part false bad full_new bad_is

      pub new_handed_on : (not (is_name text) || not (length part == size)) ≡ false → (r : Result (ArrayPatch × Token) Fault)
          → MatchResult r (λ made. GivesSlots s (with_new s.slots (part ++ text)).0 (with_new s.slots (part ++ text)).1 made.0 × (made.1.0 ≡ (with_new s.slots (part ++ text)).1)) (RefusesSlots s (with_new s.slots (part ++ text)).0)
          → MatchResult r (λ made. ReplacesOne (add_name_conditions bytes text part) bytes (name_added bytes text part replace) (name_token_added bytes text part replace) made.0 × (made.1.0 ≡ name_token_added bytes text part replace)) (RefusesToReplace (add_name_conditions bytes text part) (name_added bytes text part replace))
      new_handed_on good r =
          token_handed_on (add_name_conditions bytes text part) s (with_new s.slots (part ++ text)).0 bytes (name_added bytes text part replace) (new_refusals false good []) read.same added_new
          r (name_token_added bytes text part replace) (with_new s.slots (part ++ text)).1 token_new

    -- a name under a token
    module _ (t count : ℕ) (count_is : count_at a.names t ≡ count) where
      pub changed : (text part : List ℕ) → part_at a t ≡ part → slotted_bytes s.more (with_element s.slots t count (part ++ text)) ≡ name_changed bytes t text
      changed text part part_is =
          bytes_with s size more t _ _ _ _ (sym count_is) (ap (λ (p : List ℕ). p ++ text) (sym part_is))
          ∙ ap (λ (b : NameArray). name_bytes (record b { names = with_element b.names t (count_at b.names t) (part_at b t ++ text) })) (sym names_are)

      pub part_set : (part text : List ℕ) → text_at a t ≡ text → slotted_bytes s.more (with_element s.slots t count (part ++ text)) ≡ name_part_set bytes t part
      part_set part text text_is =
          bytes_with s size more t _ _ _ _ (sym count_is) (ap (λ (l : List ℕ). part ++ l) (sym text_is))
          ∙ ap (λ (b : NameArray). name_bytes (record b { names = with_element b.names t (count_at b.names t) (part ++ text_at b t) })) (sym names_are)

      removed : (slots : Slots) → slots ≡ unreferenced s.slots t → slotted_bytes s.more slots ≡ name_reference_removed bytes t
      removed slots is =
          new_bytes s size more slots
          ∙ ap (λ (x : Slots). name_bytes (record a { names = x })) is
          ∙ ap (λ (b : NameArray). name_bytes (record b { names = unreferenced b.names t })) (sym names_are)

      module _ (used : is_some (element_at a.names t) ≡ true) (slots : Slots) (is : slots ≡ unreferenced s.slots t) where
        pub removed_handed_on : (r : Result ArrayPatch Fault) → MatchResult r (GivesSlots s slots t) (RefusesSlots s slots) → MatchResult r (ReplacesOne (on_name_token bytes t) bytes (name_reference_removed bytes t) t) (RefusesToReplace (on_name_token bytes t) (name_reference_removed bytes t))
        removed_handed_on = slots_handed_on (on_name_token bytes t) s slots bytes (name_reference_removed bytes t) (past_token t used []) read.same (removed slots is) t

      pub last_reference : count ≡ 1 → without_element s.slots t ≡ unreferenced s.slots t
      last_reference last = sym (cond-true _ _ _ (ap (λ (n : ℕ). nat_le n 1) (count_is ∙ last)))

      pub other_reference : (text : List ℕ) → nat_le count 1 ≡ false → bytes_at a.names t ≡ text → with_element s.slots t (count - 1) text ≡ unreferenced s.slots t
      other_reference text other bytes_is =
          (ap₂ (λ (n : ℕ) (l : List ℕ). with_element s.slots t (n - 1) l) (sym count_is) (sym bytes_is)
          ∙ sym (cond-false _ _ _ (ap (λ (n : ℕ). nat_le n 1) count_is ∙ other)))

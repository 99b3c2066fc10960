-- The elements in use: those read of bytes, those from a token on, one with other references, one that is added.
use Rattle.std.proofs.Common.{◌≡◌, ℕ, List, [], ◌++◌, Some, None, Result, Ok, Err, MatchResult, unwrap_or, refl, sym, ap, ◌∙◌, zero, suc, ◌+◌, ◌-◌, ◌<◌, ◌∷◌, Bool, true, false, cond, Option, option_map, is_some, count_by, get_or, length, take, drop, arith, add-one, drop-cons, nat_le, ap₂, append-nil, subst}
use Rattle.geos_model.specs.Refusal.{Conditions, first_refusal}
use Rattle.geos_model.specs.Array.{array_bytes}
use Rattle.geos_model.specs.ElementArray.{Element, Slots, slots_array, element_array_of, element_bytes, element_at}
use Rattle.geos_model.specs.ElementEdits.{no_slots, elements_in, on_elements, on_token, used_from, count_at, bytes_at, with_element, without_element, unreferenced, with_new, added, token_of_bytes, is_count_full, add_conditions, element_added, token_added}
use Rattle.geos_model.specs.declared.fault.Fault.{Fault}
use Rattle.geos_model.specs.declared.fault.Fault.TheVariants.{NoElement, NotArray, CountFull, Range}
use Rattle.element_arrays.specs.Answering.{IsAnswered, IsRefused}
use Rattle.element_arrays.specs.Used.{used_element}
use Rattle.element_arrays.specs.declared.slot_view.Used.{Used}
use Rattle.element_arrays.specs.Slotted.{Slotted, slotted_bytes, ReplacesOne, GivesSlots, RefusesSlots}
use Rattle.std.proofs.lemmas.List.Sums.{count_by_more_yes, count_by_more_no, sum_by-take-drop}
use Rattle.std.proofs.lemmas.Bool.{lt-leb, cond-true, cond-false}
use Rattle.geos_model.proofs.UsedElements.{count_at-is, bytes_at-is, found_element, own_size}
use Rattle.std.specs.Option.{option_map_or}
use Rattle.geos_model.specs.Bytes.{same_bytes}
use Rattle.geos_model.specs.ArrayEdits.{is_missized, too_long}
use Rattle.geos_model.proofs.Arrays.{same_bytes-is}
use Rattle.element_arrays.specs.Referencing.{element_with_reference, element_reference_conditions}
use Rattle.chunk_arrays.specs.Replacing.{RefusesToReplace}
use Rattle.chunk_edits.specs.declared.runs.ArrayPatch.{ArrayPatch}
use Rattle.element_arrays.proofs.SlottedLemmas.{slots_handed_on, refuses_for, replaces_for}

-- ---- the slots that are read of an element array's bytes, and what is found of a token there

-- In bytes that are read as slots.
module _ (bytes : List ℕ) (s : Slotted) (read : (element_array_of bytes ≡ Some s.slots) × (slotted_bytes s.more s.slots ≡ bytes) × (s.more ≡ [])) where
  pub elements_are : elements_in bytes ≡ s.slots
  elements_are = ap (λ o. unwrap_or o (no_slots 0)) read.0

  -- the bytes with other slots
  pub new_bytes : (slots : Slots) → slotted_bytes s.more slots ≡ element_bytes slots
  unfolding slotted_bytes element_bytes
  new_bytes slots = ap (λ (more : List ℕ). array_bytes (slots_array more slots)) read.2

  -- An edit makes `new` of the slots, and so of all bytes.
  module _ (edit : Slots → Slots) (new : Slots) (same : new ≡ edit s.slots) where
    pub edited_bytes : slotted_bytes s.more new ≡ element_bytes (edit (elements_in bytes))
    edited_bytes = new_bytes new ∙ ap element_bytes same ∙ ap (λ (x : Slots). element_bytes (edit x)) (sym elements_are)

    pub edit_handed_on : (own : Conditions) → first_refusal own ≡ None → (t : ℕ) (r : Result ArrayPatch Fault) → MatchResult r (GivesSlots s new t) (RefusesSlots s new)
        → MatchResult r (ReplacesOne own bytes (element_bytes (edit (elements_in bytes))) t) (RefusesToReplace own (element_bytes (edit (elements_in bytes))))
    edit_handed_on own none = slots_handed_on own s new bytes (element_bytes (edit (elements_in bytes))) none read.1 edited_bytes

  -- other refusals decide
  pub past_elements : (rest : Conditions) → first_refusal (on_elements bytes ++ rest) ≡ first_refusal rest
  past_elements rest = rw read.0 refl

  module _ (t : ℕ) (e : Element) (at : element_at s.slots t ≡ Some e) where
    pub element_is : element_at (elements_in bytes) t ≡ Some e
    element_is = ap (λ (x : Slots). element_at x t) elements_are ∙ at

    pub past_token : (rest : Conditions) → first_refusal (on_token bytes t ++ rest) ≡ first_refusal rest
    past_token rest = rw (read.0, at) refl

  pub no_element-refused : (t : ℕ) (fault : Fault) → (fault ≡ NoElement) × (element_at s.slots t ≡ None) → first_refusal (on_token bytes t) ≡ Some fault
  no_element-refused t fault h = rw (read.0, h.1) (ap Some (sym h.0))

  -- what is found of a token, or why nothing is
  pub answers_element : (t : ℕ) (r : Result Used Fault) → MatchResult r (λ used. element_at s.slots t ≡ Some (used_element used)) (λ fault. (fault ≡ NoElement) × (element_at s.slots t ≡ None))
      → MatchResult r (λ used. IsAnswered (on_token bytes t) (element_at (elements_in bytes) t) (Some (used_element used))) (IsRefused (on_token bytes t))
  answers_element t (Ok used) at = record { accepted = past_token t (used_element used) at []; same = sym (element_is t (used_element used) at) }
  answers_element t (Err fault) none = no_element-refused t fault none

-- ---- the used tokens from one on

-- a token is used where an element is found
pub is_used_slot : (found : Option Used) (slot : Option Element) (used : Bool) → used ≡ is_some found → option_map used_element found ≡ slot → is_some slot ≡ used
is_used_slot None slot used e same = ap is_some (sym same) ∙ sym e
is_used_slot (Some u) slot used e same = ap is_some (sym same) ∙ sym e

used_from-free : (slot : Option Element) (t : ℕ) (rest : List (Option Element)) → is_some slot ≡ false → used_from t (slot ∷ rest) ≡ used_from (t + 1) rest
used_from-free None t rest free = refl
used_from-free (Some e) t rest free = absurd (cc free)

used_from-used : (slot : Option Element) (t : ℕ) (rest : List (Option Element)) → is_some slot ≡ true → used_from t (slot ∷ rest) ≡ t ∷ used_from (t + 1) rest
used_from-used None t rest used = absurd (cc used)
used_from-used (Some e) t rest used = refl

module _ (slots : List (Option Element)) (t : ℕ) (within : t < length slots) where
  next : drop t slots ≡ get_or slots t None ∷ drop (t + 1) slots
  next = rw (add-one, drop-cons slots t None) refl

  parts : (i : ℕ) → count_by is_some (take i slots) + count_by is_some (drop i slots) ≡ count_by is_some slots
  parts i = sum_by-take-drop (λ slot. cond (is_some slot) 1 0) slots i

  module _ (free : is_some (get_or slots t None) ≡ false) where
    pub from-free : used_from t (drop t slots) ≡ used_from (t + 1) (drop (t + 1) slots)
    from-free = ap (used_from t) next ∙ used_from-free (get_or slots t None) t (drop (t + 1) slots) free

    pub count-free : count_by is_some (drop t slots) ≡ count_by is_some (drop (t + 1) slots)
    count-free = let more = count_by_more_no is_some slots t None within free in omega (arith, parts t, parts (t + 1), more)

  module _ (used : is_some (get_or slots t None) ≡ true) where
    pub from-used : used_from t (drop t slots) ≡ t ∷ used_from (t + 1) (drop (t + 1) slots)
    from-used = ap (used_from t) next ∙ used_from-used (get_or slots t None) t (drop (t + 1) slots) used

    pub count-used : count_by is_some (drop t slots) ≡ count_by is_some (drop (t + 1) slots) + 1
    count-used = let more = count_by_more_yes is_some slots t None within used in omega (arith, parts t, parts (t + 1), more)

-- one number less among tokens behind the first
pub get_or-behind : (t : ℕ) (ts : List ℕ) (n : ℕ) → 0 < n → get_or (t ∷ ts) n 0 ≡ get_or ts (n - 1) 0
get_or-behind t ts zero l = absurd (omega arith)
get_or-behind t ts (suc n) l = let less : n ≡ suc n - 1 = omega arith in ap (λ (k : ℕ). get_or ts k 0) less

-- ---- what slots are with other references of a used element

-- an element that is given in two parts, the second of them empty
pub whole_element : (s : Slots) (t count count′ : ℕ) (bytes bytes′ : List ℕ) → count ≡ count′ → bytes ≡ bytes′ → with_element s t count (bytes ++ []) ≡ with_element s t count′ bytes′
whole_element s t count count′ bytes bytes′ same_count same_bytes = ap₂ (λ (n : ℕ) (l : List ℕ). with_element s t n l) same_count (append-nil bytes ∙ same_bytes)

-- One reference less.
module _ (s : Slots) (t : ℕ) (e : Element) (at : element_at s t ≡ Some e) where
  pub last_reference : e.count ≡ 1 → without_element s t ≡ unreferenced s t
  last_reference one = sym (cond-true _ _ _ (ap (λ (n : ℕ). nat_le n 1) (count_at-is s t e at ∙ one)))

  pub other_reference : 1 < e.count → with_element s t (e.count - 1) (e.bytes ++ []) ≡ unreferenced s t
  other_reference more =
      whole_element s t (e.count - 1) (count_at s t - 1) e.bytes (bytes_at s t) (ap (λ (n : ℕ). n - 1) (sym (count_at-is s t e at))) (sym (bytes_at-is s t e at))
      ∙ sym (cond-false _ _ _ (ap (λ (n : ℕ). nat_le n 1) (count_at-is s t e at) ∙ lt-leb e.count 1 more))

-- ---- an element that is added: whether an equal one is there, and what refuses it then

-- An equal element is used.
equal_element : (s : Slots) (t : ℕ) (bytes : List ℕ) → token_of_bytes s bytes ≡ Some t → (e : Element) × (element_at s t ≡ Some e) × (e.bytes ≡ bytes)
equal_element s t bytes found =
    let here = found_element (λ e. same_bytes e.bytes bytes) s t found in
    (here.0, here.1, same_bytes-is here.0.bytes bytes here.2)

module _ (bytes element : List ℕ) (s : Slotted) (read : (element_array_of bytes ≡ Some s.slots) × (slotted_bytes s.more s.slots ≡ bytes) × (s.more ≡ [])) where
  conditions_are : (found : Option ℕ) → token_of_bytes s.slots element ≡ found → add_conditions bytes element ≡ (NotArray, false) ∷ (CountFull, is_count_full s.slots found) ∷ (Range, is_missized s.slots.size element) ∷ []
  conditions_are found is = rw read.0 (ap (λ (o : Option ℕ). (NotArray, false) ∷ (CountFull, is_count_full s.slots o) ∷ (Range, is_missized s.slots.size element) ∷ []) is)

  here : added s.slots element ≡ added (elements_in bytes) element
  here = ap (λ (x : Slots). added x element) (sym (elements_are bytes s read))

  module _ (t : ℕ) (found : token_of_bytes s.slots element ≡ Some t) where
    -- its count alone decides
    pub equal-decides : (rest : Conditions) → first_refusal (add_conditions bytes element ++ rest) ≡ first_refusal (element_reference_conditions s.slots t ++ rest)
    equal-decides rest =
        let equal = equal_element s.slots t element found in
        let fits : is_missized s.slots.size element ≡ false = subst (λ (l : List ℕ). is_missized s.slots.size l ≡ false) equal.2 (own_size s.slots s.sound t equal.0 equal.1) in
        ap (λ (own : Conditions). first_refusal (own ++ rest)) (conditions_are (Some t) found) ∙ rw (fits, equal.1) refl

    pub equal-added : added s.slots element ≡ (element_with_reference s.slots t, t)
    equal-added = ap (λ (o : Option ℕ). option_map_or (λ u. (element_with_reference s.slots u, u)) o (with_new s.slots element)) found

    equal : (element_with_reference s.slots t, t) ≡ added (elements_in bytes) element
    equal = sym equal-added ∙ here

    pub equal-bytes : slotted_bytes s.more (element_with_reference s.slots t) ≡ element_added bytes element
    equal-bytes = new_bytes bytes s read (element_with_reference s.slots t) ∙ ap (λ (x : Slots × ℕ). element_bytes x.0) equal

    pub equal-token : t ≡ token_added bytes element
    equal-token = ap (λ (x : Slots × ℕ). x.1) equal

    pub equal-refused : (fault : Fault) → RefusesToReplace (element_reference_conditions s.slots t) (slotted_bytes s.more (element_with_reference s.slots t)) fault → RefusesToReplace (add_conditions bytes element) (element_added bytes element) fault
    equal-refused =
        refuses_for (add_conditions bytes element) (element_reference_conditions s.slots t) bytes (element_added bytes element) (slotted_bytes s.more s.slots) (slotted_bytes s.more (element_with_reference s.slots t))
        (equal-decides (too_long (element_added bytes element))) equal-bytes

    pub equal-replaced : (p : ArrayPatch) → ReplacesOne (element_reference_conditions s.slots t) (slotted_bytes s.more s.slots) (slotted_bytes s.more (element_with_reference s.slots t)) t p → ReplacesOne (add_conditions bytes element) bytes (element_added bytes element) (token_added bytes element) p
    equal-replaced p made =
        subst (λ n. ReplacesOne (add_conditions bytes element) bytes (element_added bytes element) n p) equal-token (
        replaces_for (add_conditions bytes element) (element_reference_conditions s.slots t) bytes (element_added bytes element) (slotted_bytes s.more s.slots) (slotted_bytes s.more (element_with_reference s.slots t))
        (equal-decides (too_long (element_added bytes element))) equal-bytes read.1 t p made)

  module _ (none : token_of_bytes s.slots element ≡ None) where
    pub new-accepted : is_missized s.slots.size element ≡ false → first_refusal (add_conditions bytes element) ≡ None
    new-accepted fits = ap first_refusal (conditions_are None none) ∙ rw fits refl

    pub new-missized : is_missized s.slots.size element ≡ true → first_refusal (add_conditions bytes element) ≡ Some Range
    new-missized missized = ap first_refusal (conditions_are None none) ∙ rw missized refl

    pub new-added : added s.slots element ≡ with_new s.slots (element ++ [])
    new-added = ap (λ (o : Option ℕ). option_map_or (λ u. (element_with_reference s.slots u, u)) o (with_new s.slots element)) none ∙ ap (with_new s.slots) (sym (append-nil element))

    new_one : with_new s.slots (element ++ []) ≡ added (elements_in bytes) element
    new_one = sym new-added ∙ here

    pub new-bytes : slotted_bytes s.more (with_new s.slots (element ++ [])).0 ≡ element_added bytes element
    new-bytes = new_bytes bytes s read (with_new s.slots (element ++ [])).0 ∙ ap (λ (x : Slots × ℕ). element_bytes x.0) new_one

    pub new-token : (with_new s.slots (element ++ [])).1 ≡ token_added bytes element
    new-token = ap (λ (x : Slots × ℕ). x.1) new_one

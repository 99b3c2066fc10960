-- Edits and look-ups of an element array, as what they make of a chunk's bytes, and when they are refused.
use Rattle.std.specs.Prelude.{ℕ, List, [], ◌∷◌, ◌++◌, ◌+◌, ◌-◌, Bool, false, ◌==◌, nat_le, nat_lt, length, take, set, is_some, is_none, if◌then◌else◌, Option, Some, None, unwrap_or}
use Rattle.std.specs.List.{count_by, position}
use Rattle.std.specs.Option.{option_map_or}
use Rattle.geos_model.specs.Refusal.{Conditions}
use Rattle.geos_model.specs.Bytes.{same_bytes}
use Rattle.geos_model.specs.ArrayEdits.{is_missized}
use Rattle.geos_model.specs.ElementArray.{Element, Slots, element_at, element_bytes, element_array_of, greatest_count}
use Rattle.geos_model.specs.declared.fault.Fault.TheVariants.{Range, NotArray, NoElement, CountFull}

-- without elements
abbrev pub no_slots : ℕ → Slots
no_slots size = record { size = size; slots = []; free = [] }

-- the element array that bytes are; where they are none, one without elements
abbrev pub elements_in : List ℕ → Slots
elements_in bytes = unwrap_or (element_array_of bytes) (no_slots 0)

-- Of the element under a token; 0 or nothing where there is none.
abbrev pub count_at : Slots → ℕ → ℕ
count_at s t = option_map_or (λ e. e.count) (element_at s t) 0

abbrev pub bytes_at : Slots → ℕ → List ℕ
bytes_at s t = option_map_or (λ e. e.bytes) (element_at s t) []

-- Slots after a change.

abbrev pub with_element : Slots → ℕ → ℕ → List ℕ → Slots
with_element s t count bytes = record s { slots = set s.slots t (Some (record { count = count; bytes = bytes })) }

-- the element's token is free, and the newest of these
abbrev pub without_element : Slots → ℕ → Slots
without_element s t = record s { slots = set s.slots t None; free = t ∷ s.free }

-- with a new element of one reference and its token: the newest free one of these, else the next
abbrev pub with_new_at : List ℕ → Slots → Option Element → Slots × ℕ
with_new_at [] s e = (record s { slots = s.slots ++ e ∷ [] }, length s.slots)
with_new_at (t ∷ ts) s e = (record s { slots = set s.slots t e; free = ts }, t)

abbrev pub with_new : Slots → List ℕ → Slots × ℕ
with_new s bytes = with_new_at s.free s (Some (record { count = 1; bytes = bytes }))

-- one reference less; with none left the element is free
abbrev pub unreferenced : Slots → ℕ → Slots
unreferenced s t =
    if nat_le (count_at s t) 1 then without_element s t else with_element s t (count_at s t - 1) (bytes_at s t)

-- the lowest token whose element passes a test
abbrev pub token_of : (Element → Bool) → Slots → Option ℕ
token_of passes s = position (λ slot. option_map_or passes slot false) s.slots

abbrev pub token_of_bytes : Slots → List ℕ → Option ℕ
token_of_bytes s bytes = token_of (λ e. same_bytes e.bytes bytes) s

-- an equal element, the lowest of these, has one reference more; else there is a new one
abbrev pub added : Slots → List ℕ → Slots × ℕ
added s bytes =
    option_map_or (λ t. (with_element s t (count_at s t + 1) (bytes_at s t), t)) (token_of_bytes s bytes)
    (with_new s bytes)

-- The bytes of an element array after an edit of it.

abbrev pub element_added : List ℕ → List ℕ → List ℕ
element_added bytes element = element_bytes (added (elements_in bytes) element).0

-- the token of the element that is added
abbrev pub token_added : List ℕ → List ℕ → ℕ
token_added bytes element = (added (elements_in bytes) element).1

abbrev pub reference_added : List ℕ → ℕ → List ℕ
reference_added bytes t =
    let s = elements_in bytes in element_bytes (with_element s t (count_at s t + 1) (bytes_at s t))

abbrev pub reference_removed : List ℕ → ℕ → List ℕ
reference_removed bytes t = element_bytes (unreferenced (elements_in bytes) t)

abbrev pub element_deleted : List ℕ → ℕ → List ℕ
element_deleted bytes t = element_bytes (without_element (elements_in bytes) t)

abbrev pub element_changed : List ℕ → ℕ → List ℕ → List ℕ
element_changed bytes t element = let s = elements_in bytes in element_bytes (with_element s t (count_at s t) element)

-- Look-ups.

abbrev pub used_in : Slots → ℕ
used_in s = count_by is_some s.slots

-- the tokens of used elements from one on, rising
abbrev pub used_from : ℕ → List (Option Element) → List ℕ
used_from t [] = []
used_from t (None ∷ slots) = used_from (t + 1) slots
used_from t (Some e ∷ slots) = t ∷ used_from (t + 1) slots

-- how many used tokens are lower than this one
abbrev pub used_below : Slots → ℕ → ℕ
used_below s t = count_by is_some (take t s.slots)

-- Refusals; where the bytes are no element array, the others may be anything.

abbrev pub on_elements : List ℕ → Conditions
on_elements bytes = (NotArray, is_none (element_array_of bytes)) ∷ []

abbrev pub on_token : List ℕ → ℕ → Conditions
on_token bytes t = on_elements bytes ++ (NoElement, is_none (element_at (elements_in bytes) t)) ∷ []

abbrev pub on_used : List ℕ → ℕ → Conditions
on_used bytes k = on_elements bytes ++ (NoElement, nat_le (used_in (elements_in bytes)) k) ∷ []

-- the element of this token, if there is one, has as many references as any can have
abbrev pub is_count_full : Slots → Option ℕ → Bool
is_count_full s token = option_map_or (λ t. count_at s t == greatest_count) token false

abbrev pub create_elements_conditions : ℕ → Conditions
create_elements_conditions size = (Range, nat_lt 4096 size) ∷ []

abbrev pub add_conditions : List ℕ → List ℕ → Conditions
add_conditions bytes element =
    let s = elements_in bytes in
    on_elements bytes
    ++ (CountFull, is_count_full s (token_of_bytes s element)) ∷ (Range, is_missized s.size element) ∷ []

abbrev pub add_reference_conditions : List ℕ → ℕ → Conditions
add_reference_conditions bytes t = on_token bytes t ++ (CountFull, is_count_full (elements_in bytes) (Some t)) ∷ []

abbrev pub change_conditions : List ℕ → ℕ → List ℕ → Conditions
change_conditions bytes t element = on_token bytes t ++ (Range, is_missized (elements_in bytes).size element) ∷ []

-- Edits and look-ups of a name array, as what they make of a chunk's bytes, and when they are refused.
use Rattle.std.specs.Prelude.{ℕ, List, ◌∷◌, [], ◌++◌, ◌+◌, Bool, not, ◌==◌, ◌&&◌, ◌||◌, nat_lt, length, take, is_some, is_none, if◌then◌else◌, Option, unwrap_or}
use Rattle.std.specs.Option.{option_map_or}
use Rattle.geos_model.specs.Refusal.{Conditions}
use Rattle.geos_model.specs.Bytes.{same_bytes}
use Rattle.geos_model.specs.ElementArray.{Slots, element_at}
use Rattle.geos_model.specs.ElementEdits.{no_slots, count_at, bytes_at, with_element, with_new, unreferenced, token_of, is_count_full}
use Rattle.geos_model.specs.NameArray.{NameArray, name_bytes, name_array_of, text_of, is_name}
use Rattle.geos_model.specs.declared.fault.Fault.TheVariants.{Range, NotArray, NoElement, NoName, NameInUse, CountFull}

-- without names
abbrev pub no_names : ℕ → NameArray
no_names part = record { part = part; names = no_slots 0 }

-- the name array that bytes are; where they are none, one without names
abbrev pub names_in : List ℕ → NameArray
names_in bytes = unwrap_or (name_array_of bytes) (no_names 0)

abbrev pub token_of_text : NameArray → List ℕ → Option ℕ
token_of_text a text = token_of (λ e. same_bytes (text_of a e) text) a.names

-- the name under a token, and the part before it
abbrev pub text_at : NameArray → ℕ → List ℕ
text_at a t = option_map_or (text_of a) (element_at a.names t) []

abbrev pub part_at : NameArray → ℕ → List ℕ
part_at a t = take a.part (bytes_at a.names t)

-- A name that is there, the lowest of these, has one reference more, and gets the part only where it is to be set; else
-- there is a new one.
abbrev pub name_with_reference : NameArray → List ℕ → Bool → ℕ → Slots
name_with_reference a part replace t =
    with_element a.names t (count_at a.names t + 1) ((if replace then part else part_at a t) ++ text_at a t)

abbrev pub added_name : NameArray → List ℕ → List ℕ → Bool → Slots × ℕ
added_name a text part replace =
    option_map_or (λ t. (name_with_reference a part replace t, t)) (token_of_text a text)
    (with_new a.names (part ++ text))

-- The bytes of a name array after an edit of it.

abbrev pub name_added : List ℕ → List ℕ → List ℕ → Bool → List ℕ
name_added bytes text part replace =
    let a = names_in bytes in name_bytes (record a { names = (added_name a text part replace).0 })

abbrev pub name_token_added : List ℕ → List ℕ → List ℕ → Bool → ℕ
name_token_added bytes text part replace = (added_name (names_in bytes) text part replace).1

abbrev pub name_changed : List ℕ → ℕ → List ℕ → List ℕ
name_changed bytes t text =
    let a = names_in bytes in
    name_bytes (record a { names = with_element a.names t (count_at a.names t) (part_at a t ++ text) })

abbrev pub name_part_set : List ℕ → ℕ → List ℕ → List ℕ
name_part_set bytes t part =
    let a = names_in bytes in
    name_bytes (record a { names = with_element a.names t (count_at a.names t) (part ++ text_at a t) })

abbrev pub name_reference_removed : List ℕ → ℕ → List ℕ
name_reference_removed bytes t = let a = names_in bytes in name_bytes (record a { names = unreferenced a.names t })

-- Refusals; where the bytes are no name array, the others may be anything.

abbrev pub on_names : List ℕ → Conditions
on_names bytes = (NotArray, is_none (name_array_of bytes)) ∷ []

abbrev pub on_name_token : List ℕ → ℕ → Conditions
on_name_token bytes t = on_names bytes ++ (NoElement, is_none (element_at (names_in bytes).names t)) ∷ []

abbrev pub find_conditions : List ℕ → List ℕ → Conditions
find_conditions bytes text = on_names bytes ++ (NoName, is_none (token_of_text (names_in bytes) text)) ∷ []

-- another token has the name, and this one has another name
abbrev pub is_name_in_use : NameArray → ℕ → List ℕ → Bool
is_name_in_use a t text = is_some (token_of_text a text) && not (same_bytes (text_at a t) text)

abbrev pub create_names_conditions : ℕ → Conditions
create_names_conditions part = (Range, nat_lt 64 part) ∷ []

abbrev pub add_name_conditions : List ℕ → List ℕ → List ℕ → Conditions
add_name_conditions bytes text part =
    let a = names_in bytes in
    on_names bytes
    ++ (CountFull, is_count_full a.names (token_of_text a text))
    ∷ (Range, not (is_name text) || not (length part == a.part)) ∷ []

abbrev pub change_name_conditions : List ℕ → ℕ → List ℕ → Conditions
change_name_conditions bytes t text =
    on_name_token bytes t ++ (NameInUse, is_name_in_use (names_in bytes) t text) ∷ (Range, not (is_name text)) ∷ []

abbrev pub set_part_conditions : List ℕ → ℕ → List ℕ → Conditions
set_part_conditions bytes t part =
    on_name_token bytes t ++ (Range, not (length part == (names_in bytes).part)) ∷ []

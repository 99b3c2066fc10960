-- What accepted edits of arrays leave: arrays again, of what the edits mean. A chunk has fewer than 65,536 bytes.
use Rattle.std.specs.Prelude.{◌≡◌, ◌⊎◌, ◌<◌, ◌+◌, ◌-◌, ◌++◌, ◌==◌, ℕ, List, [], ◌∷◌, Bool, Option, Some, None, length, get_or, if◌then◌else◌}
use Rattle.geos_model.specs.Refusal.{Conditions, first_refusal}
use Rattle.geos_model.specs.Bytes.{resized}
use Rattle.geos_model.specs.Document.{Document, IsValid}
use Rattle.geos_model.specs.Meaning.{chunk_at, with_chunk, new_chunk_handle, makes_chunk, on_new_chunk, on_new_bytes}
use Rattle.geos_model.specs.Array.{Array, array_bytes, array_of}
use Rattle.geos_model.specs.ArrayEdits.{new_array, array_in, with_elements, element_inserted, element_set, element_resized, elements_deleted, array_zeroed, on_array, create_conditions, insert_conditions, set_conditions, resize_conditions, delete_conditions}
use Rattle.geos_model.specs.ElementArray.{Element, Slots, element_at, element_bytes, element_array_of}
use Rattle.geos_model.specs.ElementEdits.{no_slots, elements_in, count_at, bytes_at, with_element, without_element, unreferenced, added, element_added, token_added, reference_added, reference_removed, element_deleted, element_changed, on_token, create_elements_conditions, add_conditions, add_reference_conditions, change_conditions}
use Rattle.geos_model.specs.NameArray.{NameArray, text_of, name_bytes, name_array_of}
use Rattle.geos_model.specs.NameEdits.{no_names, names_in, text_at, part_at, added_name, name_added, name_token_added, name_changed, name_part_set, name_reference_removed, on_name_token, create_names_conditions, add_name_conditions, change_name_conditions, set_part_conditions}

-- Bytes stand in this chunk, few enough and by an edit that its own conditions don't refuse, as the laws below ask for.
pub record HasBytes (own : Conditions) (bytes : List ℕ) (d : Document) (b c : ℕ) : Type 0 where
  pub accepted : first_refusal own ≡ None
  pub few : length bytes < 65536
  pub there : chunk_at d b c ≡ bytes

-- What edits come to that make a chunk of some bytes, or leave them in the place of a chunk's, where nothing refuses
-- them.
pub record ChunkEditsLaw : Type 0 where
  pub made : (d : Document) (b : ℕ) (own : Conditions) (bytes : List ℕ) → IsValid d
      → first_refusal (on_new_chunk d b own bytes) ≡ None
      → HasBytes own bytes (makes_chunk d b bytes).0 b (new_chunk_handle d b)
  pub changed : (d : Document) (b c : ℕ) (own : Conditions) (bytes : List ℕ) → IsValid d
      → first_refusal (on_new_bytes d b c own bytes) ≡ None
      → HasBytes own bytes (with_chunk d b c bytes) b c

-- Where none of its own conditions refuses an edit of a chunk array, the bytes that it makes are this array.
abbrev pub LeavesArray : Conditions → List ℕ → Array → Type 0
LeavesArray own to a = first_refusal own ≡ None → length to < 65536 → array_of to ≡ Some a

pub record ArrayEditsLaw : Type 0 where
  pub create : (size extra : ℕ)
      → LeavesArray (create_conditions size extra) (array_bytes (new_array size extra)) (new_array size extra)
  pub insert : (bytes : List ℕ) (i : ℕ) (element : List ℕ)
      → LeavesArray (insert_conditions bytes i element) (element_inserted bytes i element)
      (with_elements (array_in bytes) i i (element ∷ []))
  pub set : (bytes : List ℕ) (i : ℕ) (element : List ℕ)
      → LeavesArray (set_conditions bytes i element) (element_set bytes i element)
      (with_elements (array_in bytes) i (i + 1) (element ∷ []))
  pub resize : (bytes : List ℕ) (i n : ℕ)
      → LeavesArray (resize_conditions bytes i) (element_resized bytes i n)
      (with_elements (array_in bytes) i (i + 1) (resized (get_or (array_in bytes).elements i []) n ∷ []))
  pub delete : (bytes : List ℕ) (i k : ℕ)
      → LeavesArray (delete_conditions bytes i k) (elements_deleted bytes i k)
      (with_elements (array_in bytes) i (i + k) [])
  pub zero : (bytes : List ℕ)
      → LeavesArray (on_array bytes) (array_zeroed bytes) (record (array_in bytes) { elements = [] })

-- no token is in use
abbrev pub HasNone : Slots → Type 0
HasNone s = (t : ℕ) → element_at s t ≡ None

-- The slots of all other tokens are as they were.
abbrev pub KeepsOthers : Slots → Slots → ℕ → Type 0
KeepsOthers s new t = (u : ℕ) → (u ≡ t → ⊥) → element_at new u ≡ element_at s u

-- Under the token stood an element, and what this makes of it stands there now.
abbrev pub Becomes : (Element → Option Element) → Slots → Slots → ℕ → Type 0
Becomes change s new t = (e : Element) × (element_at s t ≡ Some e) × (element_at new t ≡ change e)

-- one reference more, and one less, where the element goes with the last one
abbrev pub referenced : Element → Option Element
referenced e = Some (record e { count = e.count + 1 })

abbrev pub dereferenced : Element → Option Element
dereferenced e = if e.count == 1 then None else Some (record e { count = e.count - 1 })

-- no element has these bytes
abbrev pub IsAbsent : Slots → List ℕ → Type 0
IsAbsent s bytes = (u : ℕ) (e : Element) → element_at s u ≡ Some e → e.bytes ≡ bytes → ⊥

-- Bytes are added: the token's element has them and gets one reference more, or none has them and the token, which was
-- not in use, gets a new one.
abbrev pub AddsBytes : List ℕ → Slots → Slots → ℕ → Type 0
AddsBytes bytes s new t =
    ((bytes_at s t ≡ bytes) × Becomes referenced s new t)
    ⊎ (IsAbsent s bytes × (element_at s t ≡ None) × (element_at new t ≡ Some (record { count = 1; bytes = bytes })))

-- Where none of its own conditions refuses an edit of an element array, the bytes that it makes are this one, and only
-- under this token something changes, in this way.
abbrev pub LeavesElements : Conditions → List ℕ → Slots → Slots → ℕ → (Slots → Slots → ℕ → Type 0) → Type 0
LeavesElements own to s new t Changes =
    first_refusal own ≡ None → length to < 65536
    → (element_array_of to ≡ Some new) × KeepsOthers s new t × Changes s new t

pub record ElementEditsLaw : Type 0 where
  pub create : (size : ℕ) → first_refusal (create_elements_conditions size) ≡ None
      → (element_array_of (element_bytes (no_slots size)) ≡ Some (no_slots size)) × HasNone (no_slots size)
  pub add : (bytes element : List ℕ)
      → let s = elements_in bytes in
      LeavesElements (add_conditions bytes element) (element_added bytes element) s (added s element).0
      (token_added bytes element) (AddsBytes element)
  pub add_reference : (bytes : List ℕ) (t : ℕ)
      → let s = elements_in bytes in
      LeavesElements (add_reference_conditions bytes t) (reference_added bytes t) s
      (with_element s t (count_at s t + 1) (bytes_at s t)) t (Becomes referenced)
  pub remove_reference : (bytes : List ℕ) (t : ℕ)
      → let s = elements_in bytes in
      LeavesElements (on_token bytes t) (reference_removed bytes t) s (unreferenced s t) t (Becomes dereferenced)
  pub delete : (bytes : List ℕ) (t : ℕ)
      → let s = elements_in bytes in
      LeavesElements (on_token bytes t) (element_deleted bytes t) s (without_element s t) t (Becomes (λ e. None))
  pub change : (bytes : List ℕ) (t : ℕ) (element : List ℕ)
      → let s = elements_in bytes in
      LeavesElements (change_conditions bytes t element) (element_changed bytes t element) s
      (with_element s t (count_at s t) element) t (Becomes (λ e. Some (record e { bytes = element })))

-- Each name stands in one slot.
abbrev pub AreDistinct : NameArray → Type 0
AreDistinct a =
    (t u : ℕ) (x y : Element) → element_at a.names t ≡ Some x → element_at a.names u ≡ Some y
    → text_of a x ≡ text_of a y → t ≡ u

-- no element has this name
abbrev pub IsUnnamed : NameArray → List ℕ → Type 0
IsUnnamed a text = (u : ℕ) (e : Element) → element_at a.names u ≡ Some e → text_of a e ≡ text → ⊥

-- Under the token stands this name behind this part, with so many references.
abbrev pub HasName : NameArray → ℕ → ℕ → List ℕ → List ℕ → Type 0
HasName a t count part text =
    (length part ≡ a.part) × (element_at a.names t ≡ Some (record { count = count; bytes = part ++ text }))

-- A name is added: it stands under the token and gets one reference more, and the new part only where it is to be set,
-- or none has it and the token, which was not in use, gets it.
abbrev pub AddsName : List ℕ → List ℕ → Bool → NameArray → NameArray → ℕ → Type 0
AddsName text part replace a new t =
    ((count : ℕ) × (old : List ℕ) × HasName a t count old text
    × HasName new t (count + 1) (if replace then part else old) text)
    ⊎ (IsUnnamed a text × (element_at a.names t ≡ None) × HasName new t 1 part text)

-- Another name stands under the token, behind the same part and with the same references.
abbrev pub Renames : List ℕ → NameArray → NameArray → ℕ → Type 0
Renames text a new t =
    (count : ℕ) × (part : List ℕ) × (old : List ℕ) × HasName a t count part old × HasName new t count part text

-- The same name stands under the token, with the same references, and another part before it.
abbrev pub SetsPart : List ℕ → NameArray → NameArray → ℕ → Type 0
SetsPart part a new t =
    (count : ℕ) × (old : List ℕ) × (text : List ℕ) × HasName a t count old text × HasName new t count part text

-- The name has one reference less, and goes with the last one.
abbrev pub LosesReference : NameArray → NameArray → ℕ → Type 0
LosesReference a new t = Becomes dereferenced a.names new.names t

-- So it is of a name array, and an edit that finds the names distinct leaves them distinct.
abbrev pub LeavesNames : Conditions → List ℕ → NameArray → NameArray → ℕ → (NameArray → NameArray → ℕ → Type 0) → Type 0
LeavesNames own to a new t Changes =
    first_refusal own ≡ None → length to < 65536
    → (name_array_of to ≡ Some new) × KeepsOthers a.names new.names t × (AreDistinct a → AreDistinct new)
    × Changes a new t

pub record NameEditsLaw : Type 0 where
  pub create : (part : ℕ) → first_refusal (create_names_conditions part) ≡ None
      → (name_array_of (name_bytes (no_names part)) ≡ Some (no_names part)) × HasNone (no_names part).names
      × AreDistinct (no_names part)
  pub add : (bytes text part : List ℕ) (replace : Bool) → let a = names_in bytes in
      LeavesNames (add_name_conditions bytes text part) (name_added bytes text part replace) a
      (record a { names = (added_name a text part replace).0 }) (name_token_added bytes text part replace)
      (AddsName text part replace)
  pub change_name : (bytes : List ℕ) (t : ℕ) (text : List ℕ) → let a = names_in bytes in
      LeavesNames (change_name_conditions bytes t text) (name_changed bytes t text) a
      (record a { names = with_element a.names t (count_at a.names t) (part_at a t ++ text) }) t (Renames text)
  pub set_part : (bytes : List ℕ) (t : ℕ) (part : List ℕ) → let a = names_in bytes in
      LeavesNames (set_part_conditions bytes t part) (name_part_set bytes t part) a
      (record a { names = with_element a.names t (count_at a.names t) (part ++ text_at a t) }) t (SetsPart part)
  pub remove_reference : (bytes : List ℕ) (t : ℕ) → let a = names_in bytes in
      LeavesNames (on_name_token bytes t) (name_reference_removed bytes t) a
      (record a { names = unreferenced a.names t }) t LosesReference

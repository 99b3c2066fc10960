-- Edits of a chunk array, as what they make of a chunk's bytes, and when they are refused.
use Rattle.std.specs.Prelude.{ℕ, List, [], ◌∷◌, ◌++◌, ◌+◌, Bool, not, ◌==◌, ◌&&◌, ◌||◌, nat_le, nat_lt, length, replicate, get_or, is_none, unwrap_or}
use Rattle.std.specs.List.{splice}
use Rattle.geos_model.specs.Refusal.{Conditions}
use Rattle.geos_model.specs.Bytes.{resized}
use Rattle.geos_model.specs.Heap.{longest_chunk}
use Rattle.geos_model.specs.Array.{Array, array_bytes, array_of}
use Rattle.geos_model.specs.declared.fault.Fault.TheVariants.{Full, Range, NotArray, NoElement}

-- with no element, of so many zeros as extra bytes
abbrev pub new_array : ℕ → ℕ → Array
new_array size extra = record { extra = replicate extra 0; size = size; elements = [] }

-- the array that bytes are; where they are none, one without elements
abbrev pub array_in : List ℕ → Array
array_in bytes = unwrap_or (array_of bytes) (new_array 0 0)

-- these elements in the place of those from one to another
abbrev pub with_elements : Array → ℕ → ℕ → List (List ℕ) → Array
with_elements a from to elements = record a { elements = splice a.elements from to elements }

-- The bytes of an array after an edit of it.

abbrev pub element_inserted : List ℕ → ℕ → List ℕ → List ℕ
element_inserted bytes i element = array_bytes (with_elements (array_in bytes) i i (element ∷ []))

abbrev pub element_set : List ℕ → ℕ → List ℕ → List ℕ
element_set bytes i element = array_bytes (with_elements (array_in bytes) i (i + 1) (element ∷ []))

abbrev pub element_resized : List ℕ → ℕ → ℕ → List ℕ
element_resized bytes i n = element_set bytes i (resized (get_or (array_in bytes).elements i []) n)

abbrev pub elements_deleted : List ℕ → ℕ → ℕ → List ℕ
elements_deleted bytes i k = array_bytes (with_elements (array_in bytes) i (i + k) [])

abbrev pub array_zeroed : List ℕ → List ℕ
array_zeroed bytes = array_bytes (record (array_in bytes) { elements = [] })

-- Their refusals; where the bytes are no array, the others may be anything.

abbrev pub on_array : List ℕ → Conditions
on_array bytes = (NotArray, is_none (array_of bytes)) ∷ []

abbrev pub on_element : List ℕ → ℕ → Conditions
on_element bytes i = on_array bytes ++ (NoElement, nat_le (length (array_in bytes).elements) i) ∷ []

-- bytes that can't be an element of this size; of any number where sizes vary
abbrev pub is_missized : ℕ → List ℕ → Bool
is_missized size bytes = not (size == 0) && not (length bytes == size)

abbrev pub create_conditions : ℕ → ℕ → Conditions
create_conditions size extra = (Range, nat_lt 4096 size || nat_lt 1024 extra) ∷ []

abbrev pub insert_conditions : List ℕ → ℕ → List ℕ → Conditions
insert_conditions bytes i element =
    on_array bytes
    ++ (Range, nat_lt (length (array_in bytes).elements) i || is_missized (array_in bytes).size element) ∷ []

abbrev pub set_conditions : List ℕ → ℕ → List ℕ → Conditions
set_conditions bytes i element = on_element bytes i ++ (Range, is_missized (array_in bytes).size element) ∷ []

abbrev pub resize_conditions : List ℕ → ℕ → Conditions
resize_conditions bytes i = on_element bytes i ++ (Range, not ((array_in bytes).size == 0)) ∷ []

abbrev pub delete_conditions : List ℕ → ℕ → ℕ → Conditions
delete_conditions bytes i k = on_array bytes ++ (NoElement, nat_lt (length (array_in bytes).elements) (i + k)) ∷ []

-- more bytes than any chunk has
abbrev pub too_long : List ℕ → Conditions
too_long bytes = (Full, nat_lt longest_chunk (length bytes)) ∷ []

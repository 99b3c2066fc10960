-- What the bytes of a chunk read as.
use Rattle.std.specs.Prelude.{ℕ, List, Bool, true, false, length, if◌then◌else◌, Option, None, Some, is_some}
use Rattle.std.specs.Option.{option_map_or}
use Rattle.geos_model.specs.Array.{array_of}
use Rattle.geos_model.specs.ElementArray.{element_array_of}
use Rattle.geos_model.specs.NameArray.{name_array_of}
use Rattle.lmem_heap.specs.declared.known.ArrayKind.{ArrayKind}
use Rattle.lmem_heap.specs.declared.known.ArrayKind.TheVariants as kinds

-- every element array and every name array is a chunk array too, and none is both
abbrev pub kind_of_array : List ℕ → Option ArrayKind
kind_of_array bytes =
    if is_some (name_array_of bytes) then Some kinds.Name
    else if is_some (element_array_of bytes) then Some kinds.Element
    else if is_some (array_of bytes) then Some kinds.Chunk
    else None

abbrev pub is_kind : ArrayKind → Option ArrayKind → Bool
is_kind kinds.Chunk (Some kinds.Chunk) = true
is_kind kinds.Element (Some kinds.Element) = true
is_kind kinds.Name (Some kinds.Name) = true
is_kind kind other = false

-- how many elements they have, free ones too
abbrev pub element_count : List ℕ → ℕ
element_count bytes = option_map_or (λ a. length a.elements) (array_of bytes) 0

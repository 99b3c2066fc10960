-- The edits that make a name array or an element array by adding one after another, where no two are equal and no token
-- is free.
use Rattle.std.specs.Prelude.{ℕ, List, [], ◌∷◌, Bool, false, ◌==◌, length, take, drop, get_or, if◌then◌else◌, Option, Some, None}
use Rattle.std.specs.List.{flat_map, list_all, range_with_len}
use Rattle.std.specs.Option.{option_and_then, option_map_or}
use Rattle.geos_model.specs.Bytes.{same_bytes}
use Rattle.geos_model.specs.Array.{Array}
use Rattle.geos_model.specs.ElementArray.{Element, Slots, element_at, slots_of}
use Rattle.geos_model.specs.ElementEdits.{token_of}
use Rattle.geos_model.specs.NameArray.{NameArray, names_of}
use Rattle.geos_model.specs.declared.handle.VmHandle.{VmHandle}
use Rattle.geos_model.specs.declared.handle.ChunkHandle.{ChunkHandle}
use Rattle.geos_model.specs.declared.command.Edit.{Edit}
use Rattle.geos_model.specs.declared.command.Edit.TheVariants as edits
use Rattle.document_dump.specs.Arrays.{array_made}
use Rattle.document_dump.specs.declared.rows.Row.{Row}
use Rattle.document_dump.specs.declared.rows.Row.TheVariants as rows

-- the token is the lowest one whose element has these bytes behind the first ones
abbrev pub is_lowest_token : ℕ → Slots → ℕ → Element → Bool
is_lowest_token skip s t e =
    option_map_or (λ u. u == t) (token_of (λ x. same_bytes (drop skip x.bytes) (drop skip e.bytes)) s) false

-- the token has an element, and no lower one has an equal one
abbrev pub is_own : ℕ → Slots → ℕ → Bool
is_own skip s t = option_map_or (is_lowest_token skip s t) (element_at s t) false

unfoldable pub are_own : ℕ → Slots → Bool
are_own skip s = list_all (is_own skip s) (range_with_len 0 (length s.slots))

abbrev pub if_own_names : NameArray → Option NameArray
if_own_names a = if are_own a.part a.names then Some a else None

abbrev pub if_own_elements : Slots → Option Slots
if_own_elements s = if are_own 0 s then Some s else None

-- the names or the elements of an array, if it can be made so
unfoldable pub names_to_make : Array → Option NameArray
names_to_make a = option_and_then if_own_names (names_of a)

unfoldable pub elements_to_make : Array → Option Slots
elements_to_make a = option_and_then if_own_elements (slots_of 2 a)

abbrev pub row_created : VmHandle → Row → Slots → Edit
row_created b rows.Elements s = edits.CreateElementArray b s.size
row_created b (rows.Names part) s = edits.CreateNameArray b part

abbrev pub row_added : VmHandle → ChunkHandle → Row → List ℕ → Edit
row_added b c rows.Elements bytes = edits.AddElement b c bytes
row_added b c (rows.Names part) bytes = edits.AddName b c (drop part bytes) (take part bytes) false

-- More references than the one that it was added with are not added: they stand in front of the element as the chunk
-- array has it.
abbrev pub count_set : VmHandle → ChunkHandle → Array → ℕ → ℕ → List Edit
count_set b c a t count = if count == 1 then [] else edits.SetElement b c t (get_or a.elements t []) ∷ []

abbrev pub slot_made : VmHandle → ChunkHandle → Row → Array → Slots → ℕ → List Edit
slot_made b c row a s t = option_map_or (λ e. row_added b c row e.bytes ∷ count_set b c a t e.count) (element_at s t) []

unfoldable pub row_made : VmHandle → ChunkHandle → Row → Array → Slots → List Edit
row_made b c row a s = row_created b row s ∷ flat_map (slot_made b c row a s) (range_with_len 0 (length a.elements))

-- by its names, by its elements under tokens, or as any other array
unfoldable pub array_edits : VmHandle → ChunkHandle → Array → List Edit
array_edits b c a =
    option_map_or (λ n. row_made b c (rows.Names n.part) a n.names) (names_to_make a)
    (option_map_or (row_made b c rows.Elements a) (elements_to_make a) (array_made b c a))

-- The edits that make a chunk by the elements of the array that its bytes are, so that one element more is one line
-- more.
use Rattle.std.specs.Prelude.{ℕ, List, [], ◌∷◌, ◌++◌, Bool, ◌==◌, ◌&&◌, nat_le, length, if◌then◌else◌, Option, Some, None}
use Rattle.std.specs.List.{list_all}
use Rattle.std.specs.Option.{option_and_then}
use Rattle.geos_model.specs.Array.{Array, array_of}
use Rattle.geos_model.specs.declared.handle.VmHandle.{VmHandle}
use Rattle.geos_model.specs.declared.handle.ChunkHandle.{ChunkHandle}
use Rattle.geos_model.specs.declared.command.Edit.{Edit}
use Rattle.geos_model.specs.declared.command.Edit.TheVariants as edits

-- from the last one on, each in front of the others, so that no line has the place of its element
unfoldable pub elements_inserted : VmHandle → ChunkHandle → List (List ℕ) → List Edit
elements_inserted b c [] = []
elements_inserted b c (x ∷ xs) = elements_inserted b c xs ++ edits.InsertElement b c 0 x ∷ []

abbrev pub is_zeros : List ℕ → Bool
is_zeros bytes = list_all (λ x. x == 0) bytes

-- extra bytes, over zeros
abbrev pub extra_written : VmHandle → ChunkHandle → List ℕ → List Edit
extra_written b c extra = if is_zeros extra then [] else edits.Write b c 8 extra ∷ []

unfoldable pub array_made : VmHandle → ChunkHandle → Array → List Edit
array_made b c a =
    edits.CreateArray b a.size (length a.extra) ∷ extra_written b c a.extra ++ elements_inserted b c a.elements

-- so long elements and so many extra bytes can an array be made with
abbrev pub is_creatable : Array → Bool
is_creatable a = nat_le a.size 4096 && nat_le (length a.extra) 1024

abbrev pub if_creatable : Array → Option Array
if_creatable a = if is_creatable a then Some a else None

-- the array by whose elements these bytes are made, if they are one
unfoldable pub array_to_make : List ℕ → Option Array
array_to_make bytes = option_and_then if_creatable (array_of bytes)

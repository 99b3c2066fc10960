-- What the bytes of a chunk can be known to be.
use Rattle.std.specs.Prelude.{ℕ, List, Bool, is_some}
use Rattle.geos_model.specs.Array.{array_of}
use Rattle.geos_model.specs.ElementArray.{element_array_of}
use Rattle.geos_model.specs.NameArray.{name_array_of}
use Rattle.lmem_heap.specs.declared.known.ArrayKind.{ArrayKind}
use Rattle.lmem_heap.specs.declared.known.ArrayKind.TheVariants.{Chunk, Element, Name}

-- whether bytes are an array of a kind
abbrev pub is_array_of : ArrayKind → List ℕ → Bool
is_array_of Chunk bytes = is_some (array_of bytes)
is_array_of Element bytes = is_some (element_array_of bytes)
is_array_of Name bytes = is_some (name_array_of bytes)

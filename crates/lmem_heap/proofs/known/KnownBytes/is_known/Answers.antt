-- Arrays of all kinds are chunk arrays.
use Rattle.std.proofs.Common.{◌≡◌, ℕ, List, Option, Some, None, true, is_some, IfSome, refl, sym, ap₂, ◌∙◌}
use Rattle.std.specs.Option.{option_and_then}
use Rattle.geos_model.specs.Array.{array_of}
use Rattle.geos_model.specs.ElementArray.{slots_of, element_array_of}
use Rattle.geos_model.specs.NameArray.{names_of, name_array_of}
use Rattle.lmem_heap.specs.Known.{is_array_of}
use Rattle.lmem_heap.specs.declared.known.ArrayKind.{ArrayKind}
use Rattle.lmem_heap.specs.declared.known.ArrayKind.TheVariants.{Chunk, Element, Name}
use Rattle.lmem_heap.proofs.known.KnownBytes.is_known.Goals as goal

-- what comes of a value had one
had_one : {A B : Type 0} (f : A → Option B) (o : Option A) → is_some (option_and_then f o) ≡ true → is_some o ≡ true
had_one f None is = is
had_one f (Some x) is = refl

is_chunk_array : (kind : ArrayKind) (bytes : List ℕ) → is_array_of kind bytes ≡ true → is_array_of Chunk bytes ≡ true
unfolding element_array_of name_array_of
is_chunk_array Chunk bytes is = is
is_chunk_array Element bytes is = had_one (slots_of 2) (array_of bytes) is
is_chunk_array Name bytes is = had_one names_of (array_of bytes) is

of_some : (o : Option ArrayKind) (bytes : List ℕ) → IfSome o (λ k. is_array_of k bytes ≡ true) → is_some o ≡ true → is_array_of Chunk bytes ≡ true
of_some None bytes known is = cc
of_some (Some kind) bytes known is = is_chunk_array kind bytes known

pub returns-in-Chunk : goal.returns-in-Chunk
returns-in-Chunk c = λ is.
    ap₂ is_array_of c.in-Chunk.is (sym c.self.view_is) ∙ of_some c.self.inside.kind c.self.inside.bytes.now c.self.invariant (sym c.is_some.ensures ∙ is)

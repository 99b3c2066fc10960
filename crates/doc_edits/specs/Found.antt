-- What is found under a handle, and which refusals come later than that nothing is.
use Rattle.std.specs.Prelude.{◌≡◌, ℕ, List, [], ◌∷◌, ◌++◌, Bool, true, ◌==◌, Some}
use Rattle.std.specs.List.{list_any, list_all}
use Rattle.std.specs.FinMap.{get, contains_key}
use Rattle.geos_model.specs.Heap.{ChunkMap, is_heap_map}
use Rattle.geos_model.specs.Refusal.{Conditions, number_of_fault}
use Rattle.geos_model.specs.Document.{Document, attributes_of, chunks_of}
use Rattle.geos_model.specs.Meaning.{chunk_at}
use Rattle.geos_model.specs.declared.fault.Fault.{Fault}
use Rattle.geos_model.specs.declared.fault.Fault.TheVariants.{NoChunk, NotArray, NoElement, NoName, BadChain, IsMap, NameInUse, CountFull, Range, TooBig, NoHandles, Full}
use Rattle.geos_model.specs.declared.command.Body.{Body}
use Rattle.geos_model.specs.declared.command.Body.TheVariants.{Raw, Heap}

-- the block under a handle is live and has this body
abbrev pub IsBodyAt : Document → ℕ → Body → Type 0
IsBodyAt d h body = get d.blocks h ≡ Some (record { attributes = attributes_of d h; body = body })

abbrev pub IsRawAt : Document → ℕ → List ℕ → Type 0
IsRawAt d h bytes = IsBodyAt d h (Raw bytes)

abbrev pub IsHeapAt : Document → ℕ → ChunkMap → Type 0
IsHeapAt d h m = IsBodyAt d h (Heap m)

-- A chunk is live in a heap, and has these bytes.
pub record IsChunkAt (d : Document) (b c : ℕ) (bytes : List ℕ) : Type 0 where
  pub heap : IsHeapAt d b (chunks_of d b)
  pub live : contains_key (chunks_of d b) c ≡ true
  pub valid : is_heap_map (chunks_of d b) ≡ true
  pub value : bytes ≡ chunk_at d b c

-- So it is, whatever its bytes are.
abbrev pub IsChunkLive : Document → ℕ → ℕ → Type 0
IsChunkLive d b c = IsChunkAt d b c (chunk_at d b c)

-- one of these refusals
abbrev pub is_among : List Fault → Fault → Bool
is_among faults fault = list_any (λ f. number_of_fault f == number_of_fault fault) faults

-- an edit's own refusals come after those for its chunk, and before lack of room
abbrev pub own_faults : List Fault
own_faults = NotArray ∷ NoElement ∷ NoName ∷ NameInUse ∷ CountFull ∷ Range ∷ []

-- those that come after the ones for a block, its kind and room for it
abbrev pub late_faults : List Fault
late_faults = NoChunk ∷ own_faults ++ BadChain ∷ IsMap ∷ TooBig ∷ NoHandles ∷ Full ∷ []

abbrev pub AreLate : Conditions → Type 0
AreLate conditions = list_all (λ c. is_among late_faults c.0) conditions ≡ true

abbrev pub AreOwn : Conditions → Type 0
AreOwn conditions = list_all (λ c. is_among own_faults c.0) conditions ≡ true

-- What the bytes are that were found under a handle.
use Rattle.std.specs.Prelude.{◌≡◌, ℕ, List, true}
use Rattle.std.specs.FinMap.{contains_key}
use Rattle.geos_model.specs.Heap.{ChunkMap, chunk_bytes, is_heap_map}

-- A heap has a chunk under this handle, and these are its bytes.
pub record IsChunkIn (m : ChunkMap) (h : ℕ) (bytes : List ℕ) : Type 0 where
  pub live : contains_key m h ≡ true
  pub valid : is_heap_map m ≡ true
  pub value : bytes ≡ chunk_bytes m h

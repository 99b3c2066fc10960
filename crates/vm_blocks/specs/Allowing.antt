-- When a part of a body can be changed.
use Rattle.std.specs.Prelude.{◌≡◌, ◌≤◌, ◌+◌, ℕ, List, IsTrue, None, length, replicate}
use Rattle.std.specs.FinMap.{get, contains_key}
use Rattle.geos_model.specs.Heap.{ChunkMap, chunk_bytes, fits_with, is_chunk_handle, capacity}
use Rattle.chunk_edits.specs.Patching.{PatchPiece, peak, total_taken}
use Rattle.chunk_edits.specs.Splicing.{Splice, forwards}

-- a raw body has the part that is replaced, and room for what comes
pub record AllowsRaw (bytes : List ℕ) (s : Splice) : Type 0 where
  pub within : s.at + length s.old ≤ length bytes
  pub room : length (forwards s bytes) ≤ capacity

-- a raw body is of as many bytes as the pieces, and has room for as many as there are on the way
pub record AllowsRawPatch (bytes : List ℕ) (ps : List PatchPiece) : Type 0 where
  pub size : total_taken ps ≡ length bytes
  pub room : peak ps ≤ capacity

-- a chunk in its heap has the part that is replaced, and room for what comes
pub record AllowsChunk (m : ChunkMap) (c : ℕ) (s : Splice) : Type 0 where
  pub live : IsTrue (contains_key m c)
  pub within : s.at + length s.old ≤ length (chunk_bytes m c)
  pub fits : IsTrue (fits_with m c (forwards s (chunk_bytes m c)))

-- a chunk is of as many bytes as the pieces, and its heap has room for as many as there are on the way
pub record AllowsPatch (m : ChunkMap) (c : ℕ) (ps : List PatchPiece) : Type 0 where
  pub live : IsTrue (contains_key m c)
  pub size : total_taken ps ≡ length (chunk_bytes m c)
  pub fits : IsTrue (fits_with m c (replicate (peak ps) 0))

-- there is room for a chunk of these bytes under a handle that is free
pub record AllowsNewChunk (m : ChunkMap) (c : ℕ) (bytes : List ℕ) : Type 0 where
  pub handle : IsTrue (is_chunk_handle c)
  pub free : get m c ≡ None
  pub fits : IsTrue (fits_with m c bytes)

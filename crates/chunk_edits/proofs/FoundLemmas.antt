-- What follows for the bytes that were found under a chunk's handle.
use Rattle.std.proofs.Common.{◌≤◌, ℕ, List, length, ap, arith}
use Rattle.geos_model.specs.Heap.{ChunkMap, capacity}
use Rattle.geos_model.proofs.HeapTables.{chunk_bytes_le}
use Rattle.chunk_edits.specs.Found.{IsChunkIn}

-- a heap has room for them
pub found_short : (m : ChunkMap) (h : ℕ) (bytes : List ℕ) → IsChunkIn m h bytes → length bytes ≤ capacity
found_short m h bytes found = omega (arith, ap length found.value, chunk_bytes_le m h found.valid found.live)

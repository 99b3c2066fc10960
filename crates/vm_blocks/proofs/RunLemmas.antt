-- Runs of bytes that are replaced: what their body takes.
use Rattle.std.proofs.Common.{◌≡◌, ◌≤◌, ◌+◌, ◌-◌, ℕ, List, true, length, take, drop, arith, length-drop}
use Rattle.std.proofs.lemmas.List.{length-take-le}
use Rattle.std.specs.FinMap.{contains_key}
use Rattle.geos_model.specs.Bytes.{spliced}
use Rattle.geos_model.specs.Heap.{ChunkMap, capacity, chunk_bytes, fits_with, is_heap_map}
use Rattle.geos_model.proofs.HeapTables.{chunk_bytes_le}
use Rattle.chunk_edits.proofs.SplicingLemmas.{length-splice}
use Rattle.vm_blocks.proofs.RoomLemmas.{fits_few}

-- how many bytes there are after others came in the place of a run
pub length_after : (bytes new : List ℕ) (at n : ℕ) → at + n ≤ length bytes → length (spliced bytes at n new) ≡ length bytes - n + length new
length_after bytes new at n within = omega (arith, within, length-splice bytes new at (at + n) (omega (arith, within)))

-- so many bytes go
pub gone : (bytes : List ℕ) (at n : ℕ) → at + n ≤ length bytes → length (take n (drop at bytes)) ≡ n
gone bytes at n within = length-take-le n (drop at bytes) (omega (arith, within, length-drop at bytes))

-- how many bytes the chunk of a run has, and how many come
pub short_in : (m : ChunkMap) (c at n : ℕ) (new : List ℕ) → is_heap_map m ≡ true → contains_key m c ≡ true → at + n ≤ length (chunk_bytes m c) → fits_with m c (spliced (chunk_bytes m c) at n new) ≡ true
    → (length (chunk_bytes m c) ≤ capacity) × (length new ≤ capacity)
short_in m c at n new valid live within fits =
    let bytes = chunk_bytes m c in let most = chunk_bytes_le m c valid live in
    (omega (arith, most), omega (arith, within, length_after bytes new at n within, fits_few c (spliced bytes at n new) m fits))

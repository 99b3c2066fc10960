use Rattle.std.proofs.Common.{◌≡◌, ℕ, ◌-◌, List, min, true, length, take, replicate, inl, inr, arith, sym, ◌∙◌, length-append, length-take}
use Rattle.std.proofs.lemmas.Bool.{cases_lt}
use Rattle.std.proofs.lemmas.List.{length-replicate}
use Rattle.std.specs.FinMap.{contains_key}
use Rattle.geos_model.specs.Heap.{ChunkMap, chunk_bytes, fits_with, is_heap_map}
use Rattle.geos_model.specs.Bytes.{resized}
use Rattle.geos_model.proofs.HeapTables.{fits_with-same, fits_with-many}
use Rattle.chunk_edits.proofs.chunk.fits_size.Goals as goal

length-resized : (bytes : List ℕ) (n : ℕ) → length (resized bytes n) ≡ n
length-resized bytes n = omega (arith, length-append (take n bytes) (replicate (n - length bytes) 0), length-take n bytes, length-replicate {A = ℕ} (n - length bytes) 0)

-- a size that is cut where no heap has room
fits_with-cut : (m : ChunkMap) (h n : ℕ) (bytes : List ℕ) → is_heap_map m ≡ true → contains_key m h ≡ true → n ≡ min (length bytes) 4294967295 → fits_with m h (resized (chunk_bytes m h) n) ≡ fits_with m h bytes
fits_with-cut m h n bytes heap live cut =
    let size = length-resized (chunk_bytes m h) n in
    elim (cases_lt (length bytes) 4294967295) [
      | inl l ↦ fits_with-same m h (resized (chunk_bytes m h) n) bytes heap live (omega arith)
      | inr l ↦ fits_with-many m h (resized (chunk_bytes m h) n) heap live (omega arith) ∙ sym (fits_with-many m h bytes heap live (omega arith))
    ]

pub returns : goal.returns
returns c = λ bytes long.
    c.fits_resize.ensures
    ∙ fits_with-cut c.args.heap.now.chunks c.args.h.0 c.min.result bytes c.requires.valid c.requires.live (omega (arith, c.min.ensures, long))

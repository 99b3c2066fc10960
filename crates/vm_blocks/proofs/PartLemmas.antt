-- What applies to a document: a change of a part is one of a live block, whose body takes it.
use Rattle.std.proofs.Common.{◌≡◌, ◌≤◌, ℕ, List, true, false, not, length, replicate, Option, Some, None, is_some, refl, sym, arith}
use Rattle.std.proofs.lemmas.Bool.{le-leb}
use Rattle.std.proofs.lemmas.List.{length-replicate}
use Rattle.std.specs.Option.{option_map_or}
use Rattle.std.specs.FinMap.{get}
use Rattle.geos_model.specs.Heap.{ChunkMap, capacity, chunk_bytes, fits_with, is_chunk_handle, is_heap_map}
use Rattle.geos_model.specs.Document.{Block, Document, is_heap_body, is_live, is_valid_body, with_block}
use Rattle.geos_model.specs.declared.command.Body.{Body}
use Rattle.geos_model.specs.declared.command.Body.TheVariants.{Raw, Heap}
use Rattle.geos_model.proofs.HeapTables.{live_handle}
use Rattle.geos_model.proofs.HeapEdits.{heap-insert, heap-remove}
use Rattle.geos_model.specs.declared.block.Attributes.{Attributes}
use Rattle.geos_model.specs.declared.handle.ChunkHandle.{ChunkHandle}
use Rattle.chunk_edits.specs.Patching.{PatchPiece, directed_pieces, patched, peak, total_taken}
use Rattle.chunk_edits.specs.declared.runs.ArrayRuns.{ArrayRuns}
use Rattle.chunk_edits.specs.Splicing.{forwards}
use Rattle.chunk_edits.specs.declared.direction.Direction.{Direction}
use Rattle.chunk_edits.specs.declared.direction.Direction.TheVariants.{Forwards, Backwards}
use Rattle.chunk_edits.proofs.PatchingLemmas.{given_le_peak, patched_length_of, pieces_length, reversed_peak}
use Rattle.vm_blocks.specs.declared.change.PartChange.{PartChange}
use Rattle.vm_blocks.specs.declared.change.PartChange.TheVariants as parts
use Rattle.vm_blocks.proofs.RoomLemmas.{fits_fewer}
use Rattle.vm_blocks.specs.Changes.{content_bytes, after_part, directed_part, CanApplyPart}
use Rattle.vm_blocks.specs.Parts.{AllowsPart, body_after_part}

-- a block of either kind is live
raw_live : (o : Option Block) → option_map_or (λ b. not (is_heap_body b.body)) o false ≡ true → is_some o ≡ true
raw_live None raw = absurd (cc raw)
raw_live (Some block) raw = refl

heap_live : (o : Option Block) → option_map_or (λ b. is_heap_body b.body) o false ≡ true → is_some o ≡ true
heap_live None heap = absurd (cc heap)
heap_live (Some block) heap = refl

pub part_live : (b : ℕ) (p : PartChange) (d : Document) → CanApplyPart b p d → is_live d b ≡ true
part_live b (parts.Raw s) d fits = raw_live (get d.blocks b) fits.raw
part_live b (parts.RawPatch ps) d fits = raw_live (get d.blocks b) fits.raw
part_live b (parts.Chunk c s) d fits = heap_live (get d.blocks b) fits.heap
part_live b (parts.Patch c ps runs) d fits = heap_live (get d.blocks b) fits.heap
part_live b (parts.ChunkIn c content) d fits = heap_live (get d.blocks b) fits.heap
part_live b (parts.ChunkOut c content) d has = heap_live (get d.blocks b) has.heap

-- Its body takes the change.
module _ (d : Document) (b : ℕ) (u : Attributes) where
  takes : (p : PartChange) (body : Body) → get d.blocks b ≡ Some (record { attributes = u; body = body }) → CanApplyPart b p d → AllowsPart p body
  takes (parts.Raw s) (Raw bytes) is fits = record { within = rw is at fits.stands.within; room = rw is at fits.fits }
  takes (parts.Raw s) (Heap m) is fits = let no : false ≡ true = rw is at fits.raw in cc
  takes (parts.RawPatch ps) (Raw bytes) is fits = record { size = sym (pieces_length ps _ (rw is at fits.stands)); room = fits.fits }
  takes (parts.RawPatch ps) (Heap m) is fits = let no : false ≡ true = rw is at fits.raw in cc
  takes (parts.Chunk c s) (Raw bytes) is fits = let no : false ≡ true = rw is at fits.heap in cc
  takes (parts.Chunk c s) (Heap m) is fits = record { live = rw is at fits.live; within = rw is at fits.stands.within; fits = rw is at fits.fits }
  takes (parts.Patch c ps runs) (Raw bytes) is fits = let no : false ≡ true = rw is at fits.heap in cc
  takes (parts.Patch c ps runs) (Heap m) is fits = record { live = rw is at fits.live; size = sym (pieces_length ps _ (rw is at fits.stands)); fits = rw is at fits.fits }
  takes (parts.ChunkIn c content) (Raw bytes) is fits = let no : false ≡ true = rw is at fits.heap in cc
  takes (parts.ChunkIn c content) (Heap m) is fits = record { handle = fits.handle; free = rw is at fits.free; fits = rw is at fits.fits }
  takes (parts.ChunkOut c content) (Raw bytes) is has = let no : false ≡ true = rw is at has.heap in cc
  takes (parts.ChunkOut c content) (Heap m) is has = live_of (get m c.0) (rw is at has.stands)
    where
      live_of : (o : Option (List ℕ)) → o ≡ Some (content_bytes content) → is_some o ≡ true
      live_of o some = rw some refl

pub part_takes : (b : ℕ) (p : PartChange) (d : Document) (block : Block) → get d.blocks b ≡ Some block → CanApplyPart b p d → AllowsPart p block.body
part_takes b p d block is applies = takes d b block.attributes p block.body is applies

-- the document then
pub part_is : (b : ℕ) (p : PartChange) (d : Document) (block : Block) → get d.blocks b ≡ Some block → after_part b p d ≡ option_map_or (λ x. with_block d b (record x { body = body_after_part p x.body })) (get d.blocks b) d
part_is b (parts.Raw s) d block is = rw is refl
part_is b (parts.RawPatch ps) d block is = rw is refl
part_is b (parts.Chunk c s) d block is = rw is refl
part_is b (parts.Patch c ps runs) d block is = rw is refl
part_is b (parts.ChunkIn c content) d block is = rw is refl
part_is b (parts.ChunkOut c content) d block is = rw is refl

-- what a body takes leaves a body of its kind, and one that can be

pub part_kind : (p : PartChange) (body : Body) → AllowsPart p body → is_heap_body (body_after_part p body) ≡ is_heap_body body
part_kind (parts.Raw s) (Raw bytes) takes = refl
part_kind (parts.Raw s) (Heap m) takes = absurd takes
part_kind (parts.RawPatch ps) (Raw bytes) takes = refl
part_kind (parts.RawPatch ps) (Heap m) takes = absurd takes
part_kind (parts.Chunk c s) (Raw bytes) takes = absurd takes
part_kind (parts.Chunk c s) (Heap m) takes = refl
part_kind (parts.Patch c ps runs) (Raw bytes) takes = absurd takes
part_kind (parts.Patch c ps runs) (Heap m) takes = refl
part_kind (parts.ChunkIn c content) (Raw bytes) takes = absurd takes
part_kind (parts.ChunkIn c content) (Heap m) takes = refl
part_kind (parts.ChunkOut c content) (Raw bytes) takes = absurd takes
part_kind (parts.ChunkOut c content) (Heap m) takes = refl

-- what a patch makes of a raw body fits where as many bytes as there are on the way do
pub patched_few : (ps : List PatchPiece) (bytes : List ℕ) → total_taken ps ≡ length bytes → peak ps ≤ capacity → length (patched ps bytes) ≤ capacity
patched_few ps bytes size room = omega (arith, patched_length_of ps bytes size, given_le_peak ps, room)

-- what a patch makes of a chunk fits where there is room for as many bytes as there are on the way
pub patched_fits : (m : ChunkMap) (c : ℕ) (ps : List PatchPiece) (bytes : List ℕ) → is_heap_map m ≡ true → is_chunk_handle c ≡ true → total_taken ps ≡ length bytes → fits_with m c (replicate (peak ps) 0) ≡ true → fits_with m c (patched ps bytes) ≡ true
patched_fits m c ps bytes heap handle size room =
    fits_fewer m c (replicate (peak ps) 0) (patched ps bytes) heap handle room (omega (arith, patched_length_of ps bytes size, given_le_peak ps, length-replicate {A = ℕ} (peak ps) 0))

pub part_valid : (p : PartChange) (body : Body) → is_valid_body body ≡ true → AllowsPart p body → is_valid_body (body_after_part p body) ≡ true
part_valid (parts.Raw s) (Raw bytes) valid takes = le-leb _ _ takes.room
part_valid (parts.Raw s) (Heap m) valid takes = absurd takes
part_valid (parts.RawPatch ps) (Raw bytes) valid takes = le-leb _ _ (patched_few ps bytes takes.size takes.room)
part_valid (parts.RawPatch ps) (Heap m) valid takes = absurd takes
part_valid (parts.Chunk c s) (Raw bytes) valid takes = absurd takes
part_valid (parts.Chunk c s) (Heap m) valid takes = heap-insert m c.0 (forwards s (chunk_bytes m c.0)) valid (live_handle m c.0 valid takes.live) takes.fits
part_valid (parts.Patch c ps runs) (Raw bytes) valid takes = absurd takes
part_valid (parts.Patch c ps runs) (Heap m) valid takes =
    let handle = live_handle m c.0 valid takes.live in
    heap-insert m c.0 (patched ps (chunk_bytes m c.0)) valid handle (patched_fits m c.0 ps (chunk_bytes m c.0) valid handle takes.size takes.fits)
part_valid (parts.ChunkIn c content) (Raw bytes) valid takes = absurd takes
part_valid (parts.ChunkIn c content) (Heap m) valid takes = heap-insert m c.0 (content_bytes content) valid takes.handle takes.fits
part_valid (parts.ChunkOut c content) (Raw bytes) valid takes = absurd takes
part_valid (parts.ChunkOut c content) (Heap m) valid takes = heap-remove m c.0 valid

-- A patch in a direction is the one of the pieces in that direction.

pub directed_patch : (direction : Direction) (c : ChunkHandle) (ps : List PatchPiece) (runs : ArrayRuns) → directed_part direction (parts.Patch c ps runs) ≡ parts.Patch c (directed_pieces direction ps) runs
directed_patch Forwards c ps runs = refl
directed_patch Backwards c ps runs = refl

pub directed_raw_patch : (direction : Direction) (ps : List PatchPiece) → directed_part direction (parts.RawPatch ps) ≡ parts.RawPatch (directed_pieces direction ps)
directed_raw_patch Forwards ps = refl
directed_raw_patch Backwards ps = refl

pub directed_peak : (direction : Direction) (ps : List PatchPiece) → peak (directed_pieces direction ps) ≡ peak ps
directed_peak Forwards ps = refl
directed_peak Backwards ps = reversed_peak ps

-- What is built for an edit of a chunk: a change of a part of its bytes, or the bytes of a new one.
use Rattle.std.specs.Prelude.{◌≡◌, ◌≤◌, ℕ, List, true, None, Some, Result, Ok, Err, length, if◌then◌else◌}
use Rattle.geos_model.specs.Refusal.{first_refusal}
use Rattle.geos_model.specs.Heap.{longest_chunk, fits_with}
use Rattle.geos_model.specs.Document.{Document, chunks_of}
use Rattle.geos_model.specs.Meaning.{conditions, effect, chunk_at, with_chunk, makes_chunk, no_place}
use Rattle.geos_model.specs.Cost.{cost}
use Rattle.geos_model.specs.Machine.{kind_of}
use Rattle.geos_model.specs.Places.{places_of, at_new_chunk}
use Rattle.geos_model.specs.declared.fault.Fault.{Fault}
use Rattle.geos_model.specs.declared.fault.Fault.TheVariants.{Full}
use Rattle.geos_model.specs.declared.command.Done.{Done}
use Rattle.geos_model.specs.declared.command.Done.TheVariants.{Nothing}
use Rattle.geos_model.specs.declared.command.Edit.{Edit}
use Rattle.geos_model.specs.declared.command.Kind.TheVariants.{In}
use Rattle.geos_model.specs.declared.handle.VmHandle.{VmHandle}
use Rattle.geos_model.specs.declared.handle.ChunkHandle.{ChunkHandle}
use Rattle.chunk_edits.specs.Patching.{PatchLeads, patched}
use Rattle.chunk_edits.specs.Splicing.{OccursAt, Splice, forwards}
use Rattle.chunk_edits.specs.declared.runs.ArrayPatch.{ArrayPatch}
use Rattle.vm_blocks.specs.ChangeCosts.{part_cost}
use Rattle.vm_blocks.specs.ChangePlaces.{part_places}
use Rattle.vm_blocks.specs.declared.change.PartChange.{PartChange}
use Rattle.vm_blocks.specs.declared.change.PartChange.TheVariants as parts

-- what a change of a part makes of the bytes of its chunk
abbrev pub chunk_after : PartChange → List ℕ → List ℕ
chunk_after (parts.Chunk h s) bytes = forwards s bytes
chunk_after (parts.Patch h ps runs) bytes = patched ps bytes
chunk_after part bytes = bytes

-- it is one of this chunk
abbrev pub IsOfChunk : PartChange → ℕ → Type 0
IsOfChunk (parts.Chunk h s) c = h.0 ≡ c
IsOfChunk (parts.Patch h ps runs) c = h.0 ≡ c
IsOfChunk part c = ⊥

-- it stands in these bytes; a patch asks for room for no more of them than there are before or after it
abbrev pub StandsIn : PartChange → List ℕ → Type 0
StandsIn (parts.Chunk h s) bytes = OccursAt bytes s.at s.old
StandsIn (parts.Patch h ps runs) bytes = PatchLeads ps bytes (patched ps bytes)
StandsIn part bytes = ⊥

-- So it does, and what it makes of them is no longer than any chunk.
pub record IsBuilt (part : PartChange) (bytes : List ℕ) : Type 0 where
  pub stands : StandsIn part bytes
  pub short : length (chunk_after part bytes) ≤ longest_chunk

-- The part is what an edit comes to in a chunk: nothing but lack of room refuses it.
pub record MakesPart (edit : Edit) (d : Document) (b : VmHandle) (c : ChunkHandle) (part : PartChange) (done : Done)
    : Type 0 where
  pub chunk : IsOfChunk part c.0
  pub built : IsBuilt part (chunk_at d b.0 c.0)
  pub refusal : first_refusal (conditions edit d)
      ≡ (if fits_with (chunks_of d b.0) c.0 (chunk_after part (chunk_at d b.0 c.0)) then None else Some Full)
  pub document : with_chunk d b.0 c.0 (chunk_after part (chunk_at d b.0 c.0)) ≡ (effect edit d).0
  pub answer : done ≡ (effect edit d).1
  pub kind : kind_of edit ≡ In b
  pub cost : part_cost part ≡ cost edit d (effect edit d).0
  pub places : part_places b part ≡ places_of edit d

-- So does a splice, for which there is room.
pub record MakesSplice (edit : Edit) (d : Document) (b : VmHandle) (c : ChunkHandle) (s : Splice) : Type 0 where
  pub part : MakesPart edit d b c (parts.Chunk c s) Nothing
  pub fits : fits_with (chunks_of d b.0) c.0 (forwards s (chunk_at d b.0 c.0)) ≡ true

-- what was built for an edit that answers nothing
abbrev pub silently : Result ArrayPatch Fault → Result (ArrayPatch × Done) Fault
silently (Ok built) = Ok (built, Nothing)
silently (Err fault) = Err fault

-- The bytes are those of the chunk that an edit makes: nothing but lack of room refuses it.
pub record Creates (edit : Edit) (d : Document) (b : VmHandle) (bytes : List ℕ) : Type 0 where
  pub refusal : first_refusal (conditions edit d) ≡ first_refusal (no_place (chunks_of d b.0) bytes)
  pub does : effect edit d ≡ makes_chunk d b.0 bytes
  pub kind : kind_of edit ≡ In b
  pub cost : cost edit d (effect edit d).0 ≡ length bytes
  pub places : places_of edit d ≡ at_new_chunk d b

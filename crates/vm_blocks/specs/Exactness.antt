-- When a change of a part leads back: the body takes it, and what goes stands there.
use Rattle.std.specs.Prelude.{◌≡◌, ℕ, List, Some}
use Rattle.std.specs.FinMap.{get}
use Rattle.geos_model.specs.Heap.{ChunkMap, chunk_bytes}
use Rattle.geos_model.specs.declared.command.Body.{Body}
use Rattle.geos_model.specs.declared.command.Body.TheVariants.{Raw, Heap}
use Rattle.chunk_edits.specs.Patching.{ArePiecesOf}
use Rattle.chunk_edits.specs.Splicing.{OccursAt}
use Rattle.vm_blocks.specs.Changes.{content_bytes}
use Rattle.vm_blocks.specs.Parts.{AllowsPart}
use Rattle.vm_blocks.specs.declared.change.PartChange.{PartChange}
use Rattle.vm_blocks.specs.declared.change.PartChange.TheVariants as parts

abbrev pub RawHolds : PartChange → List ℕ → Type 0
RawHolds (parts.Raw s) bytes = OccursAt bytes s.at s.old
RawHolds (parts.RawPatch ps) bytes = ArePiecesOf ps bytes
RawHolds (parts.Chunk c s) bytes = ⊥
RawHolds (parts.Patch c ps runs) bytes = ⊥
RawHolds (parts.ChunkIn c content) bytes = ⊥
RawHolds (parts.ChunkOut c content) bytes = ⊥

abbrev pub HeapHolds : PartChange → ChunkMap → Type 0
HeapHolds (parts.Raw s) m = ⊥
HeapHolds (parts.RawPatch ps) m = ⊥
HeapHolds (parts.Chunk c s) m = OccursAt (chunk_bytes m c.0) s.at s.old
HeapHolds (parts.Patch c ps runs) m = ArePiecesOf ps (chunk_bytes m c.0)
HeapHolds (parts.ChunkIn c content) m = Unit {0}
HeapHolds (parts.ChunkOut c content) m = get m c.0 ≡ Some (content_bytes content)

-- the body has what goes, where it goes
abbrev pub HoldsPart : PartChange → Body → Type 0
HoldsPart part (Raw bytes) = RawHolds part bytes
HoldsPart part (Heap m) = HeapHolds part m

-- so that it takes the change, and the same the other way round gives it back
pub record IsExactPart (part : PartChange) (body : Body) : Type 0 where
  pub takes : AllowsPart part body
  pub holds : HoldsPart part body

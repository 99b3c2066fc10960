-- A change of a part, of the body by itself: which bodies take it, and what it makes of one.
use Rattle.std.specs.Prelude.{ℕ, List, IsTrue}
use Rattle.std.specs.FinMap.{insert, remove, contains_key}
use Rattle.geos_model.specs.Heap.{ChunkMap, chunk_bytes}
use Rattle.geos_model.specs.Document.{bytes_of_body, chunks_of_body}
use Rattle.geos_model.specs.declared.command.Body.{Body}
use Rattle.geos_model.specs.declared.command.Body.TheVariants.{Raw, Heap}
use Rattle.chunk_edits.specs.Patching.{patched}
use Rattle.chunk_edits.specs.Splicing.{forwards}
use Rattle.vm_blocks.specs.Allowing.{AllowsRaw, AllowsRawPatch, AllowsChunk, AllowsPatch, AllowsNewChunk}
use Rattle.vm_blocks.specs.Changes.{content_bytes}
use Rattle.vm_blocks.specs.declared.change.PartChange.{PartChange}
use Rattle.vm_blocks.specs.declared.change.PartChange.TheVariants as parts

abbrev pub RawAllowsPart : PartChange → List ℕ → Type 0
RawAllowsPart (parts.Raw s) bytes = AllowsRaw bytes s
RawAllowsPart (parts.RawPatch ps) bytes = AllowsRawPatch bytes ps
RawAllowsPart (parts.Chunk c s) bytes = ⊥
RawAllowsPart (parts.Patch c ps runs) bytes = ⊥
RawAllowsPart (parts.ChunkIn c content) bytes = ⊥
RawAllowsPart (parts.ChunkOut c content) bytes = ⊥

abbrev pub HeapAllowsPart : PartChange → ChunkMap → Type 0
HeapAllowsPart (parts.Raw s) m = ⊥
HeapAllowsPart (parts.RawPatch ps) m = ⊥
HeapAllowsPart (parts.Chunk c s) m = AllowsChunk m c.0 s
HeapAllowsPart (parts.Patch c ps runs) m = AllowsPatch m c.0 ps
HeapAllowsPart (parts.ChunkIn c content) m = AllowsNewChunk m c.0 (content_bytes content)
HeapAllowsPart (parts.ChunkOut c content) m = IsTrue (contains_key m c.0)

abbrev pub AllowsPart : PartChange → Body → Type 0
AllowsPart part (Raw bytes) = RawAllowsPart part bytes
AllowsPart part (Heap m) = HeapAllowsPart part m

abbrev pub body_after_part : PartChange → Body → Body
body_after_part (parts.Raw s) body = Raw (forwards s (bytes_of_body body))
body_after_part (parts.RawPatch ps) body = Raw (patched ps (bytes_of_body body))
body_after_part (parts.Chunk c s) body =
    Heap (insert (chunks_of_body body) c.0 (forwards s (chunk_bytes (chunks_of_body body) c.0)))
body_after_part (parts.Patch c ps runs) body =
    Heap (insert (chunks_of_body body) c.0 (patched ps (chunk_bytes (chunks_of_body body) c.0)))
body_after_part (parts.ChunkIn c content) body = Heap (insert (chunks_of_body body) c.0 (content_bytes content))
body_after_part (parts.ChunkOut c content) body = Heap (remove (chunks_of_body body) c.0)

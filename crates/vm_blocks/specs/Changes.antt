-- What a change makes of a document, the same change the other way round, and in which documents it can be made.
use Rattle.std.specs.Prelude.{◌≡◌, ◌≢◌, ◌≤◌, ◌+◌, ℕ, Bool, List, [], true, false, Some, None, length, map, replicate, reverse}
use Rattle.std.specs.List.{All}
use Rattle.std.specs.FinMap.{get, contains_key}
use Rattle.geos_model.specs.Heap.{capacity, fits_with, is_chunk_handle}
use Rattle.geos_model.specs.Document.{Block, Document, IsValid, is_vm_handle, is_live, is_heap, is_raw, chunks_of, raw_bytes_of, attributes_of, with_body, with_attributes, with_blocks, handles_of, without_blocks, FitAttributes, IsTyped}
use Rattle.geos_model.specs.ElementArray.{all_distinct}
use Rattle.geos_model.specs.Meaning.{chunk_at, with_chunk, without_chunk}
use Rattle.geos_model.specs.declared.command.Body.TheVariants.{Raw}
use Rattle.chunk_edits.specs.Patching.{PatchPiece, ArePiecesOf, total_held, patched, peak, reversed_pieces}
use Rattle.chunk_edits.specs.Splicing.{Splice, OccursAt, forwards}
use Rattle.chunk_edits.specs.declared.direction.Direction.{Direction}
use Rattle.chunk_edits.specs.declared.direction.Direction.TheVariants.{Forwards, Backwards}
use Rattle.geos_model.specs.Cost.{images_length}
use Rattle.geos_model.specs.declared.block.Attributes.{Attributes}
use Rattle.document_file.specs.Members.{imaged_blocks}
use Rattle.vm_blocks.specs.declared.change.Change.{Change}
use Rattle.vm_blocks.specs.declared.change.Change.TheVariants as changes
use Rattle.vm_blocks.specs.declared.change.PartChange.{PartChange}
use Rattle.vm_blocks.specs.declared.change.PartChange.TheVariants as parts
use Rattle.vm_blocks.specs.declared.change.Content.{Content}
use Rattle.vm_blocks.specs.declared.change.Content.TheVariants as contents

-- the bytes of a chunk that comes in or goes
abbrev pub content_bytes : Content → List ℕ
content_bytes (contents.Bytes bytes) = bytes
content_bytes (contents.Zeros n) = replicate n 0

-- What a change makes of a document.

-- attributes as a block of a kind has them: only a heap has a type
abbrev pub attributes_for_kind : Bool → Attributes → Attributes
attributes_for_kind true a = a
attributes_for_kind false a = record a { heap_type = 0 }

abbrev pub after_part : ℕ → PartChange → Document → Document
after_part b (parts.Raw s) d = with_body d b (Raw (forwards s (raw_bytes_of d b)))
after_part b (parts.RawPatch ps) d = with_body d b (Raw (patched ps (raw_bytes_of d b)))
after_part b (parts.Chunk c s) d = with_chunk d b c.0 (forwards s (chunk_at d b c.0))
after_part b (parts.Patch c ps runs) d = with_chunk d b c.0 (patched ps (chunk_at d b c.0))
after_part b (parts.ChunkIn c content) d = with_chunk d b c.0 (content_bytes content)
after_part b (parts.ChunkOut c content) d = without_chunk d b c.0

abbrev pub after_change : Change → Document → Document
after_change (changes.BlocksIn ms) d = with_blocks d (imaged_blocks ms.list.items)
after_change (changes.BlocksOut ms) d = without_blocks d (handles_of (imaged_blocks ms.list.items))
after_change (changes.Part b part) d = after_part b.0 part d
after_change (changes.Attributes b old new) d = with_attributes d b.0 (attributes_for_kind (is_heap d b.0) new)
after_change (changes.Map old new) d = record d { map_block = new.0 }

-- The same change the other way round.

abbrev pub reversed_splice : Splice → Splice
reversed_splice s = record { at = s.at; old = s.new; new = s.old }

abbrev pub reversed_part : PartChange → PartChange
reversed_part (parts.Raw s) = parts.Raw (reversed_splice s)
reversed_part (parts.RawPatch ps) = parts.RawPatch (reversed_pieces ps)
reversed_part (parts.Chunk c s) = parts.Chunk c (reversed_splice s)
reversed_part (parts.Patch c ps runs) = parts.Patch c (reversed_pieces ps) runs
reversed_part (parts.ChunkIn c content) = parts.ChunkOut c content
reversed_part (parts.ChunkOut c content) = parts.ChunkIn c content

abbrev pub reversed : Change → Change
reversed (changes.BlocksIn ms) = changes.BlocksOut ms
reversed (changes.BlocksOut ms) = changes.BlocksIn ms
reversed (changes.Part b part) = changes.Part b (reversed_part part)
reversed (changes.Attributes b old new) = changes.Attributes b new old
reversed (changes.Map old new) = changes.Map new old

-- the change that is made by carrying one out in a direction
abbrev pub directed_part : Direction → PartChange → PartChange
directed_part Forwards part = part
directed_part Backwards part = reversed_part part

abbrev pub directed : Direction → Change → Change
directed Forwards change = change
directed Backwards change = reversed change

-- the changes that are made by taking changes off a stack, on which the last one lies uppermost, and carrying each out
-- in a direction
abbrev pub directed_all : Direction → List Change → List Change
directed_all direction changes = map (directed direction) (reverse changes)

-- the document after a change is carried out in a direction
abbrev pub after_directed : Direction → Change → Document → Document
after_directed direction c d = after_change (directed direction c) d

-- In which documents a change can be made.

-- a handle that a block can have, and none has
pub record IsFreeHandle (d : Document) (b : ℕ) : Type 0 where
  pub handle : is_vm_handle b ≡ true
  pub free : get d.blocks b ≡ None

-- the block stands there, and isn't the map block
pub record CanRemove (d : Document) (b : ℕ) (block : Block) : Type 0 where
  pub stands : get d.blocks b ≡ Some block
  pub other : d.map_block ≢ b

-- so of each of these handles, no two of them the same
pub record AreFree (d : Document) (hs : List ℕ) : Type 0 where
  pub free : All (IsFreeHandle d) hs
  pub distinct : all_distinct hs ≡ true

-- so of each of these blocks, no two of them under the same handle
pub record CanRemoveAll (d : Document) (ps : List (ℕ × Block)) : Type 0 where
  pub go : All (λ p. CanRemove d p.0 p.1) ps
  pub distinct : all_distinct (handles_of ps) ≡ true

-- the part stands in a raw body, and the result fits
pub record FitsRaw (d : Document) (b : ℕ) (s : Splice) : Type 0 where
  pub raw : is_raw d b ≡ true
  pub stands : OccursAt (raw_bytes_of d b) s.at s.old
  pub fits : length (forwards s (raw_bytes_of d b)) ≤ capacity

-- the bytes of a raw body are those of the pieces, and as many as there are on the way fit
pub record FitsRawPatch (d : Document) (b : ℕ) (ps : List PatchPiece) : Type 0 where
  pub raw : is_raw d b ≡ true
  pub stands : ArePiecesOf ps (raw_bytes_of d b)
  pub fits : peak ps ≤ capacity

-- the part stands in a chunk, and the result fits
pub record FitsChunk (d : Document) (b c : ℕ) (s : Splice) : Type 0 where
  pub heap : is_heap d b ≡ true
  pub live : contains_key (chunks_of d b) c ≡ true
  pub stands : OccursAt (chunk_at d b c) s.at s.old
  pub fits : fits_with (chunks_of d b) c (forwards s (chunk_at d b c)) ≡ true

-- the bytes of a chunk are those of the pieces, and there is room for as many as there are on the way
pub record FitsPatch (d : Document) (b c : ℕ) (ps : List PatchPiece) : Type 0 where
  pub heap : is_heap d b ≡ true
  pub live : contains_key (chunks_of d b) c ≡ true
  pub stands : ArePiecesOf ps (chunk_at d b c)
  pub fits : fits_with (chunks_of d b) c (replicate (peak ps) 0) ≡ true

-- a handle that a chunk can have, and none has, and the heap has room for a chunk of these bytes there
pub record FitsNewChunk (d : Document) (b c : ℕ) (bytes : List ℕ) : Type 0 where
  pub heap : is_heap d b ≡ true
  pub handle : is_chunk_handle c ≡ true
  pub free : get (chunks_of d b) c ≡ None
  pub fits : fits_with (chunks_of d b) c bytes ≡ true

-- the chunk stands with exactly these bytes
pub record HasChunk (d : Document) (b c : ℕ) (bytes : List ℕ) : Type 0 where
  pub heap : is_heap d b ≡ true
  pub stands : get (chunks_of d b) c ≡ Some bytes

-- the block has these attributes, and the new ones can be: they are words, and only a heap has a type
pub record HasAttributes (d : Document) (b : ℕ) (old new : Attributes) : Type 0 where
  pub live : is_live d b ≡ true
  pub stands : attributes_of d b ≡ old
  pub fit : FitAttributes new
  pub typed : IsTyped (is_heap d b) new

-- the map block is this one, and the new one is 0 or live
pub record HasMap (d : Document) (old new : ℕ) : Type 0 where
  pub stands : d.map_block ≡ old
  pub live : new ≢ 0 → is_live d new ≡ true

abbrev pub CanApplyPart : ℕ → PartChange → Document → Type 0
CanApplyPart b (parts.Raw s) d = FitsRaw d b s
CanApplyPart b (parts.RawPatch ps) d = FitsRawPatch d b ps
CanApplyPart b (parts.Chunk c s) d = FitsChunk d b c.0 s
CanApplyPart b (parts.Patch c ps runs) d = FitsPatch d b c.0 ps
CanApplyPart b (parts.ChunkIn c content) d = FitsNewChunk d b c.0 (content_bytes content)
CanApplyPart b (parts.ChunkOut c content) d = HasChunk d b c.0 (content_bytes content)

abbrev pub CanApply : Change → Document → Type 0
CanApply (changes.BlocksIn ms) d = AreFree d (handles_of (imaged_blocks ms.list.items))
CanApply (changes.BlocksOut ms) d = CanRemoveAll d (imaged_blocks ms.list.items)
CanApply (changes.Part b part) d = CanApplyPart b.0 part d
CanApply (changes.Attributes b old new) d = HasAttributes d b.0 old new
CanApply (changes.Map old new) d = HasMap d old.0 new.0

-- A change of a valid document leaves a valid one, to which the same change the other way round applies and gives back
-- the first.
abbrev pub ChangeLaw : Type 0
ChangeLaw = (c : Change) (d : Document) → IsValid d → CanApply c d
    → IsValid (after_change c d) × CanApply (reversed c) (after_change c d)
    × (after_change (reversed c) (after_change c d) ≡ d)

-- The other way round twice is the change itself.
abbrev pub ReverseLaw : Type 0
ReverseLaw = (c : Change) → reversed (reversed c) ≡ c

-- the blocks that a change brings in, in order
abbrev pub incoming_blocks : Change → List (ℕ × Block)
incoming_blocks (changes.BlocksIn ms) = imaged_blocks ms.list.items
incoming_blocks (changes.BlocksOut ms) = []
incoming_blocks (changes.Part b part) = []
incoming_blocks (changes.Attributes b old new) = []
incoming_blocks (changes.Map old new) = []

-- How many content bytes a change holds.

abbrev pub content_weight : Content → ℕ
content_weight (contents.Bytes bytes) = length bytes
content_weight (contents.Zeros n) = 0

abbrev pub part_weight : PartChange → ℕ
part_weight (parts.Raw s) = length s.old + length s.new
part_weight (parts.RawPatch ps) = total_held ps
part_weight (parts.Chunk c s) = length s.old + length s.new
part_weight (parts.Patch c ps runs) = total_held ps
part_weight (parts.ChunkIn c content) = content_weight content
part_weight (parts.ChunkOut c content) = content_weight content

abbrev pub weight : Change → ℕ
weight (changes.BlocksIn ms) = images_length (imaged_blocks ms.list.items)
weight (changes.BlocksOut ms) = images_length (imaged_blocks ms.list.items)
weight (changes.Part b part) = part_weight part
weight (changes.Attributes b old new) = 0
weight (changes.Map old new) = 0

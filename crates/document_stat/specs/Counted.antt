-- What is counted of a document: the things, each with its size.
use Rattle.std.specs.Prelude.{ℕ, ◌-◌, ◌*◌, ◌^◌, min, List, [], ◌∷◌, Bool, not, ◌==◌, ◌&&◌, length, map, if◌then◌else◌, Option, None, Some}
use Rattle.std.specs.List.{filter, flat_map}
use Rattle.std.specs.FinMap.{entries}
use Rattle.std.specs.Ordering.{nat_cmp}
use Rattle.std.specs.BTreeMap.{get}
use Rattle.geos_model.specs.Heap.{capacity, need}
use Rattle.geos_model.specs.Document.{Block, is_heap_body, chunks_of_body}
use Rattle.geos_model.specs.declared.command.Body.{Body}
use Rattle.geos_model.specs.declared.command.Body.TheVariants.{Raw, Heap}
use Rattle.document_stat.specs.Arrays.{element_count, is_kind, kind_of_array}
use Rattle.document_stat.specs.Tallies.{AddsItems, AddsIfAny, IsTally, IsTallyIfAny}
use Rattle.lmem_heap.specs.declared.known.ArrayKind.{ArrayKind}
use Rattle.lmem_heap.specs.declared.known.ArrayKind.TheVariants as kinds
use Rattle.document_stat.specs.declared.blocks.BlockStat.{BlockStat}
use Rattle.document_stat.specs.declared.chunks.ArrayStat.{ArrayStat}
use Rattle.document_stat.specs.declared.chunks.ChunkStat.{ChunkStat}
use Rattle.document_stat.specs.declared.tally.Item.{Item}
use Rattle.document_stat.specs.declared.tally.Subject.TheVariants as subjects
use Rattle.document_stat.specs.declared.tally.Tally.{Tally}

-- blocks and chunks, each under its handle
abbrev pub Blocks : Type 0
Blocks = List (ℕ × Block)

abbrev pub Chunks : Type 0
Chunks = List (ℕ × List ℕ)

-- the bytes of a raw block, and those that a heap needs
abbrev pub body_size : Body → ℕ
body_size (Raw bytes) = length bytes
body_size (Heap m) = need m

abbrev pub block_item : ℕ × Block → Item
block_item b = record { subject = subjects.Block (record { 0 = b.0 }); size = body_size b.1.body }

abbrev pub raw_items : Blocks → List Item
raw_items bs = map block_item (filter (λ b. not (is_heap_body b.1.body)) bs)

abbrev pub heap_items : Blocks → List Item
heap_items bs = map block_item (filter (λ b. is_heap_body b.1.body) bs)

-- the heaps of a type
abbrev pub typed_items : ℕ → Blocks → List Item
typed_items heap_type bs =
    map block_item (filter (λ b. is_heap_body b.1.body && (b.1.attributes.heap_type == heap_type)) bs)

-- chunks of a block, each with its bytes, and arrays in them, each with its elements
abbrev pub chunk_item : ℕ → ℕ × List ℕ → Item
chunk_item block c = record { subject = subjects.Chunk (record { 0 = block }) (record { 0 = c.0 }); size = length c.1 }

abbrev pub array_item : ℕ → ℕ × List ℕ → Item
array_item block c =
    record { subject = subjects.Chunk (record { 0 = block }) (record { 0 = c.0 }); size = element_count c.1 }

abbrev pub chunk_items : ℕ → Chunks → List Item
chunk_items block cs = map (chunk_item block) cs

abbrev pub array_items : ArrayKind → ℕ → Chunks → List Item
array_items kind block cs = map (array_item block) (filter (λ c. is_kind kind (kind_of_array c.1)) cs)

-- of all heaps, by rising handles
abbrev pub chunks_of_block : ℕ × Block → Chunks
chunks_of_block b = entries (chunks_of_body b.1.body)

abbrev pub all_chunk_items : Blocks → List Item
all_chunk_items bs = flat_map (λ b. chunk_items b.0 (chunks_of_block b)) bs

abbrev pub all_array_items : ArrayKind → Blocks → List Item
all_array_items kind bs = flat_map (λ b. array_items kind b.0 (chunks_of_block b)) bs

-- What is told of them.

abbrev pub tally_of : ArrayKind → ArrayStat → Tally
tally_of kinds.Chunk s = s.chunk
tally_of kinds.Element s = s.element
tally_of kinds.Name s = s.name

-- of these blocks
pub record IsBlockStat (bs : Blocks) (s : BlockStat) : Type 0 where
  pub raw : IsTally (raw_items bs) s.raw
  pub heaps : IsTally (heap_items bs) s.heaps
  pub types : (t : ℕ) → IsTallyIfAny (typed_items t bs) (get nat_cmp s.types t)
  pub chunks : IsTally (all_chunk_items bs) s.chunks.all
  pub arrays : (kind : ArrayKind) → IsTally (all_array_items kind bs) (tally_of kind s.chunks.arrays)

-- what the heaps don't need of the bytes that each of them has, as far as the largest number goes
abbrev pub free_bytes : BlockStat → ℕ
free_bytes s = min (capacity * s.heaps.count) (2 ^ 64 - 1) - s.heaps.sum

-- Steps.

-- a chunk under a handle, or none
abbrev pub chunks_under : ℕ → Option (List ℕ) → Chunks
chunks_under h None = []
chunks_under h (Some bytes) = (h, bytes) ∷ []

abbrev pub if_so : Bool → Item → List Item
if_so b item = if b then item ∷ [] else []

-- an array of this kind is counted behind others, or none
pub record AddsArray (kind : Option ArrayKind) (item : Item) (old new : ArrayStat) : Type 0 where
  pub each : (k : ArrayKind) → AddsItems (if_so (is_kind k kind) item) (tally_of k old) (tally_of k new)

-- these chunks of a block are
pub record AddsChunks (block : ℕ) (cs : Chunks) (old new : ChunkStat) : Type 0 where
  pub all : AddsItems (chunk_items block cs) old.all new.all
  pub arrays : (kind : ArrayKind)
      → AddsItems (array_items kind block cs) (tally_of kind old.arrays) (tally_of kind new.arrays)

-- these blocks are
pub record AddsBlocks (bs : Blocks) (old new : BlockStat) : Type 0 where
  pub raw : AddsItems (raw_items bs) old.raw new.raw
  pub heaps : AddsItems (heap_items bs) old.heaps new.heaps
  pub types : (t : ℕ) → AddsIfAny (typed_items t bs) (get nat_cmp old.types t) (get nat_cmp new.types t)
  pub chunks : AddsItems (all_chunk_items bs) old.chunks.all new.chunks.all
  pub arrays : (kind : ArrayKind)
      → AddsItems (all_array_items kind bs) (tally_of kind old.chunks.arrays) (tally_of kind new.chunks.arrays)

-- no block was counted before them
pub record IsCount (bs : Blocks) (s : BlockStat) : Type 0 where
  pub first : BlockStat
  pub none : IsBlockStat [] first
  pub adds : AddsBlocks bs first s

-- What differs between two documents, block by block.
use Rattle.std.specs.Prelude.{ℕ, List, [], ◌∷◌, ◌++◌, ◌==◌, nat_eq, length, if◌then◌else◌, Option, Some, None}
use Rattle.std.specs.List.{common_prefix_len, flat_map}
use Rattle.std.specs.FinMap.{get, keys}
use Rattle.geos_model.specs.Bytes.{same_bytes}
use Rattle.geos_model.specs.Heap.{ChunkMap, chunk_handles}
use Rattle.geos_model.specs.Document.{Block, Document, vm_handles}
use Rattle.geos_model.specs.declared.handle.VmHandle.{VmHandle}
use Rattle.geos_model.specs.declared.handle.ChunkHandle.{ChunkHandle}
use Rattle.geos_model.specs.declared.block.Attributes.{Attributes}
use Rattle.geos_model.specs.declared.command.Body.{Body}
use Rattle.geos_model.specs.declared.command.Body.TheVariants as bodies
use Rattle.document_diff.specs.declared.difference.BodySize.{BodySize}
use Rattle.document_diff.specs.declared.difference.BodySize.TheVariants as sizes
use Rattle.document_diff.specs.declared.difference.BytesChange.{BytesChange}
use Rattle.document_diff.specs.declared.difference.Difference.{Difference}
use Rattle.document_diff.specs.declared.difference.Difference.TheVariants as differences

abbrev pub block_named : ℕ → VmHandle
block_named h = record { 0 = h }

abbrev pub chunk_named : ℕ → ChunkHandle
chunk_named c = record { 0 = c }

-- Bytes: how many there were and are, and how many in front are the same.

abbrev pub bytes_change : List ℕ → List ℕ → BytesChange
bytes_change old new = record { old = length old; new = length new; at = common_prefix_len nat_eq old new }

abbrev pub raw_compared : VmHandle → List ℕ → List ℕ → List Difference
raw_compared b old new = if same_bytes old new then [] else differences.RawChanged b (bytes_change old new) ∷ []

-- Chunks: what is under a handle in one heap and in the other.

abbrev pub chunk_compared : VmHandle → ChunkHandle → Option (List ℕ) → Option (List ℕ) → List Difference
chunk_compared b c None None = []
chunk_compared b c (Some old) None = differences.ChunkWent b c (length old) ∷ []
chunk_compared b c None (Some new) = differences.ChunkCame b c (length new) ∷ []
chunk_compared b c (Some old) (Some new) =
    if same_bytes old new then [] else differences.ChunkChanged b c (bytes_change old new) ∷ []

unfoldable pub heap_compared : VmHandle → ChunkMap → ChunkMap → List Difference
heap_compared b old new = flat_map (λ c. chunk_compared b (chunk_named c) (get old c) (get new c)) chunk_handles

-- Blocks: a raw one that came in the place of a heap, or a heap in that of a raw one, is another block.

-- a raw body's bytes, or a heap's chunks
abbrev pub size_of_body : Body → BodySize
size_of_body (bodies.Raw bytes) = sizes.Raw (length bytes)
size_of_body (bodies.Heap m) = sizes.Heap (length (keys m))

abbrev pub user_id_compared : VmHandle → ℕ → ℕ → List Difference
user_id_compared b old new = if old == new then [] else differences.UserId b old new ∷ []

abbrev pub type_compared : VmHandle → ℕ → ℕ → List Difference
type_compared b old new = if old == new then [] else differences.HeapType b old new ∷ []

abbrev pub attributes_compared : VmHandle → Attributes → Attributes → List Difference
attributes_compared b old new =
    user_id_compared b old.user_id new.user_id ++ type_compared b old.heap_type new.heap_type

abbrev pub bodies_compared : VmHandle → Attributes → Attributes → Body → Body → List Difference
bodies_compared b from to (bodies.Raw old) (bodies.Raw new) = attributes_compared b from to ++ raw_compared b old new
bodies_compared b from to (bodies.Heap old) (bodies.Heap new) =
    attributes_compared b from to ++ heap_compared b old new
bodies_compared b from to old new =
    differences.BlockWent b (size_of_body old) ∷ differences.BlockCame b (size_of_body new) ∷ []

-- what is under a handle in one document and in the other
abbrev pub block_compared : VmHandle → Option Block → Option Block → List Difference
block_compared b None None = []
block_compared b (Some old) None = differences.BlockWent b (size_of_body old.body) ∷ []
block_compared b None (Some new) = differences.BlockCame b (size_of_body new.body) ∷ []
block_compared b (Some old) (Some new) = bodies_compared b old.attributes new.attributes old.body new.body

-- Documents.

abbrev pub compared_at : Document → Document → ℕ → List Difference
compared_at old new h = block_compared (block_named h) (get old.blocks h) (get new.blocks h)

abbrev pub map_compared : ℕ → ℕ → List Difference
map_compared old new = if old == new then [] else differences.MapBlock (block_named old) (block_named new) ∷ []

unfoldable pub blocks_compared : Document → Document → List Difference
blocks_compared old new = flat_map (compared_at old new) vm_handles

abbrev pub compared : Document → Document → List Difference
compared old new = map_compared old.map_block new.map_block ++ blocks_compared old new

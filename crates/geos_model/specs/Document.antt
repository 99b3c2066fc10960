-- A document: blocks under handles, each with attributes and a body, and a map block.
use Rattle.std.specs.Prelude.{◌≡◌, ◌<◌, ℕ, List, [], ◌∷◌, Bool, true, false, not, ◌&&◌, nat_le, length, map, Option, Some, find, unwrap_or}
use Rattle.std.specs.List.{range_with_len}
use Rattle.std.specs.Ordering.{nat_cmp}
use Rattle.std.specs.Option.{option_map_or}
use Rattle.std.specs.FinMap.{FinMap, get, insert, remove, contains_key, empty}
use Rattle.geos_model.specs.declared.limit.TheConstants.{MOST_BLOCKS}
use Rattle.geos_model.specs.Heap.{ChunkMap, is_heap_map, capacity}
use Rattle.geos_model.specs.declared.block.Attributes.{Attributes}
use Rattle.geos_model.specs.declared.command.Body.{Body}
use Rattle.geos_model.specs.declared.command.Body.TheVariants.{Raw, Heap}

pub record Block : Type 0 where
  pub attributes : Attributes
  pub body : Body

-- those of no block, and an empty raw block with them
abbrev pub no_attributes : Attributes
no_attributes = record { user_id = 0; heap_type = 0 }

abbrev pub no_block : Block
no_block = record { attributes = no_attributes; body = Raw [] }

pub record Document : Type 0 where
  pub blocks : FinMap nat_cmp Block
  pub map_block : ℕ  -- 0 for none

abbrev pub empty_document : Document
empty_document = record { blocks = empty; map_block = 0 }

-- how many blocks a document can have
abbrev pub most_blocks : ℕ
most_blocks = MOST_BLOCKS

-- every VM handle
unfoldable pub vm_handles : List ℕ
vm_handles = range_with_len 1 most_blocks

abbrev pub is_vm_handle : ℕ → Bool
is_vm_handle h = nat_le 1 h && nat_le h most_blocks

abbrev pub is_heap_body : Body → Bool
is_heap_body (Raw bytes) = false
is_heap_body (Heap m) = true

-- a body that can be
abbrev pub is_valid_body : Body → Bool
is_valid_body (Raw bytes) = nat_le (length bytes) capacity
is_valid_body (Heap m) = is_heap_map m

-- the least handle that isn't live
unfoldable pub next_handle : Document → Option ℕ
next_handle d = find (λ h. not (contains_key d.blocks h)) vm_handles

abbrev pub is_live : Document → ℕ → Bool
is_live d h = contains_key d.blocks h

-- attributes whose numbers are words
pub record FitAttributes (a : Attributes) : Type 0 where
  pub user_id : a.user_id < 65536
  pub heap_type : a.heap_type < 65536

-- a heap can have any type, and what is none has the type 0
abbrev pub IsTyped : Bool → Attributes → Type 0
IsTyped is_heap a = is_heap ≡ false → a.heap_type ≡ 0

-- a block that can be under a handle
pub record IsValidBlock (h : ℕ) (b : Block) : Type 0 where
  pub handle : is_vm_handle h ≡ true
  pub attributes : FitAttributes b.attributes
  pub body : is_valid_body b.body ≡ true
  pub typed : IsTyped (is_heap_body b.body) b.attributes

-- A document that can be: each block is valid, and the map block is 0 or live.
pub record IsValid (d : Document) : Type 0 where
  pub blocks : (h : ℕ) (b : Block) → get d.blocks h ≡ Some b → IsValidBlock h b
  pub map_block : (d.map_block ≡ 0 → ⊥) → is_live d d.map_block ≡ true

-- the chunks of a heap, none of a raw body
abbrev pub chunks_of_body : Body → ChunkMap
chunks_of_body (Raw bytes) = empty
chunks_of_body (Heap m) = m

-- the bytes of a raw body, none of a heap
abbrev pub bytes_of_body : Body → List ℕ
bytes_of_body (Raw bytes) = bytes
bytes_of_body (Heap m) = []

abbrev pub is_heap : Document → ℕ → Bool
is_heap d h = option_map_or (λ b. is_heap_body b.body) (get d.blocks h) false

abbrev pub is_raw : Document → ℕ → Bool
is_raw d h = option_map_or (λ b. not (is_heap_body b.body)) (get d.blocks h) false

-- Of the block under a handle; where it isn't live or is of the other kind, nothing or 0.
abbrev pub chunks_of : Document → ℕ → ChunkMap
chunks_of d h = option_map_or (λ b. chunks_of_body b.body) (get d.blocks h) empty

abbrev pub raw_bytes_of : Document → ℕ → List ℕ
raw_bytes_of d h = option_map_or (λ b. bytes_of_body b.body) (get d.blocks h) []

abbrev pub attributes_of : Document → ℕ → Attributes
attributes_of d h = option_map_or (λ b. b.attributes) (get d.blocks h) no_attributes

abbrev pub user_id_of : Document → ℕ → ℕ
user_id_of d h = (attributes_of d h).user_id

abbrev pub heap_type_of : Document → ℕ → ℕ
heap_type_of d h = (attributes_of d h).heap_type

-- the block under a handle; where none is live, an empty raw one
abbrev pub block_at : Document → ℕ → Block
block_at d h = unwrap_or (get d.blocks h) no_block

-- the document with this block under a handle, and with none there
abbrev pub with_block : Document → ℕ → Block → Document
with_block d h b = record d { blocks = insert d.blocks h b }

abbrev pub without_block : Document → ℕ → Document
without_block d h = record d { blocks = remove d.blocks h }

-- the handles of these blocks
abbrev pub handles_of : List (ℕ × Block) → List ℕ
handles_of blocks = map (λ p. p.0) blocks

-- the document with these blocks put in, one after another, and with those under these handles taken out
abbrev pub with_blocks : Document → List (ℕ × Block) → Document
with_blocks d [] = d
with_blocks d (p ∷ ps) = with_blocks (with_block d p.0 p.1) ps

abbrev pub without_blocks : Document → List ℕ → Document
without_blocks d [] = d
without_blocks d (h ∷ hs) = without_blocks (without_block d h) hs

-- the document with this body of a block
abbrev pub with_body : Document → ℕ → Body → Document
with_body d h body = with_block d h (record { attributes = attributes_of d h; body = body })

-- the document with these attributes of a block, if it is live, with this user ID, and with this type
abbrev pub with_attributes : Document → ℕ → Attributes → Document
with_attributes d h attributes =
    option_map_or (λ b. with_block d h (record b { attributes = attributes })) (get d.blocks h) d

abbrev pub with_user_id : Document → ℕ → ℕ → Document
with_user_id d h uid = with_attributes d h (record (attributes_of d h) { user_id = uid })

abbrev pub with_heap_type : Document → ℕ → ℕ → Document
with_heap_type d h heap_type = with_attributes d h (record (attributes_of d h) { heap_type = heap_type })

-- The edits that make one document of another.
use Rattle.std.specs.Prelude.{ℕ, List, [], ◌∷◌, ◌++◌, ◌+◌, ◌*◌, ◌/◌, Bool, not, ◌==◌, ◌&&◌, ◌||◌, nat_lt, length, take, drop, replicate, if◌then◌else◌, Option, Some, None}
use Rattle.std.specs.List.{range_with_len, flat_map}
use Rattle.std.specs.Option.{option_map_or}
use Rattle.std.specs.FinMap.{get, keys}
use Rattle.geos_model.specs.Bytes.{same_bytes}
use Rattle.geos_model.specs.Heap.{ChunkMap, handle_of, table_len}
use Rattle.geos_model.specs.Image.{image}
use Rattle.geos_model.specs.Document.{Document, vm_handles, is_live, block_at, attributes_of}
use Rattle.geos_model.specs.declared.handle.VmHandle.{VmHandle}
use Rattle.geos_model.specs.declared.handle.ChunkHandle.{ChunkHandle}
use Rattle.geos_model.specs.declared.block.Attributes.{Attributes}
use Rattle.geos_model.specs.declared.command.Body.{Body}
use Rattle.geos_model.specs.declared.command.Body.TheVariants.{Raw, Heap}
use Rattle.geos_model.specs.declared.command.Edit.{Edit}
use Rattle.geos_model.specs.declared.command.Edit.TheVariants as edits
use Rattle.document_dump.specs.Arrays.{is_zeros, array_to_make}
use Rattle.document_dump.specs.Rows.{array_edits}
use Rattle.document_dump.specs.declared.bodies.Pass.{Pass}
use Rattle.document_dump.specs.declared.bodies.Pass.TheVariants as passes
use Rattle.document_dump.specs.declared.bodies.Target.{Target}
use Rattle.document_dump.specs.declared.bodies.Target.TheVariants as targets
use Rattle.document_dump.specs.declared.changes.Progress.{Progress}

abbrev pub block_name : ℕ → VmHandle
block_name h = record { 0 = h }

abbrev pub chunk_name : ℕ → ChunkHandle
chunk_name c = record { 0 = c }

-- Bytes, over zeros that are as many: they are written in pieces, and a piece of zeros isn't.

-- how many bytes a piece has, but for the last one
abbrev pub piece_length : ℕ
piece_length = 32

abbrev pub piece_at : List ℕ → ℕ → List ℕ
piece_at bytes k = take piece_length (drop (piece_length * k) bytes)

-- into a raw block, or a chunk
abbrev pub write_of : Target → ℕ → List ℕ → Edit
write_of (targets.Raw b) at bytes = edits.WriteRaw b at bytes
write_of (targets.Chunk b c) at bytes = edits.Write b c at bytes

abbrev pub piece_written : Target → List ℕ → ℕ → List Edit
piece_written target bytes k =
    if is_zeros (piece_at bytes k) then [] else write_of target (piece_length * k) (piece_at bytes k) ∷ []

unfoldable pub bytes_written : Target → List ℕ → List Edit
bytes_written target bytes = flat_map (piece_written target bytes) (range_with_len 0 ((length bytes + 31) / 32))

-- Chunks: one is made for each entry of the table, so that each gets its handle, and those that aren't live are freed
-- again. These are empty, so that the heap never needs more room than in the end.

abbrev pub bytes_made : VmHandle → ChunkHandle → List ℕ → List Edit
bytes_made b c bytes = edits.Alloc b (length bytes) ∷ bytes_written (targets.Chunk b c) bytes

-- by the elements of an array, where the bytes are one
abbrev pub chunk_made : VmHandle → ChunkHandle → Option (List ℕ) → List Edit
chunk_made b c None = edits.Alloc b 0 ∷ []
chunk_made b c (Some bytes) = option_map_or (array_edits b c) (array_to_make bytes) (bytes_made b c bytes)

abbrev pub chunk_freed : VmHandle → ChunkHandle → Option (List ℕ) → List Edit
chunk_freed b c None = edits.Free b c ∷ []
chunk_freed b c (Some bytes) = []

-- in one of the two passes
abbrev pub entry_edits : Pass → VmHandle → ChunkHandle → Option (List ℕ) → List Edit
entry_edits passes.Making = chunk_made
entry_edits passes.Freeing = chunk_freed

-- under so many handles, from the first on
unfoldable pub entries_passed : Pass → VmHandle → ChunkMap → ℕ → List Edit
entries_passed pass b m n =
    flat_map (λ i. entry_edits pass b (chunk_name (handle_of i)) (get m (handle_of i))) (range_with_len 0 n)

abbrev pub heap_filled : VmHandle → ChunkMap → List Edit
heap_filled b m =
    let n = table_len (keys m) in entries_passed passes.Making b m n ++ entries_passed passes.Freeing b m n

-- Blocks.

abbrev pub user_id_set : VmHandle → ℕ → ℕ → List Edit
user_id_set b old new = if old == new then [] else edits.SetUserId b new ∷ []

abbrev pub type_set : VmHandle → ℕ → ℕ → List Edit
type_set b old new = if old == new then [] else edits.SetType b new ∷ []

-- a block that is made with these attributes and this body under the handle, where that is the least free one
unfoldable pub block_made : VmHandle → Attributes → Body → List Edit
block_made b a (Raw bytes) = edits.NewRaw a.user_id (length bytes) ∷ bytes_written (targets.Raw b) bytes
block_made b a (Heap m) = edits.NewHeap a.user_id ∷ type_set b 0 a.heap_type ++ heap_filled b m

-- a block that keeps its body
abbrev pub attributes_set : VmHandle → Attributes → Attributes → List Edit
attributes_set b old new = user_id_set b old.user_id new.user_id ++ type_set b old.heap_type new.heap_type

-- Documents.

abbrev pub has_same_body : Document → Document → ℕ → Bool
has_same_body old new h = same_bytes (image (block_at old h).body) (image (block_at new h).body)

-- a block that is made, in the place of one with another body or where none is
unfoldable pub is_made : Document → Document → ℕ → Bool
is_made old new h = is_live new h && not (is_live old h && has_same_body old new h)

-- the block goes, and is no map block first
abbrev pub taken_out : ℕ → ℕ → List Edit
taken_out map_block h =
    (if map_block == h then edits.SetMap (block_name 0) ∷ [] else []) ++ edits.FreeBlock (block_name h) ∷ []

-- a free handle is taken by an empty block, so that a block above gets its own one
abbrev pub filler : Edit
filler = edits.NewRaw 0 0

-- what is done of the block under a handle, below which the blocks are made so far
abbrev pub block_changed : Document → Document → Progress → ℕ → List Edit
block_changed old new p h =
    if is_made old new h then
    replicate p.holes filler
    ++ (if is_live old h then taken_out p.map_block h else [])
    ++ block_made (block_name h) (attributes_of new h) (block_at new h).body
    else if is_live old h && is_live new h then
    attributes_set (block_name h) (attributes_of old h) (attributes_of new h)
    else []

-- How far they are made then. A block that is made leaves no handle free below, and is no map block.
abbrev pub after_block : Document → Document → Progress → ℕ → Progress
after_block old new p h =
    if is_made old new h then record { holes = 0; last = h; map_block = if p.map_block == h then 0 else p.map_block }
    else if is_live old h then p
    else record p { holes = p.holes + 1 }

-- Under these handles, which rise. A block that goes stays until all others are made, so that it takes its handle so
-- long.
unfoldable pub blocks_changed : Document → Document → Progress → List ℕ → List Edit
blocks_changed old new p [] = []
blocks_changed old new p (h ∷ hs) = block_changed old new p h ++ blocks_changed old new (after_block old new p h) hs

unfoldable pub progress_after : Document → Document → Progress → List ℕ → Progress
progress_after old new p [] = p
progress_after old new p (h ∷ hs) = progress_after old new (after_block old new p h) hs

abbrev pub map_set : ℕ → ℕ → List Edit
map_set old new = if old == new then [] else edits.SetMap (block_name new) ∷ []

-- A block goes that isn't in the new document: one of the old document, or one that took a handle below the last that
-- was made.
abbrev pub block_freed : Document → Document → ℕ → ℕ → List Edit
block_freed old new last h =
    if not (is_live new h) && (is_live old h || nat_lt h last) then edits.FreeBlock (block_name h) ∷ [] else []

unfoldable pub blocks_freed : Document → Document → ℕ → List Edit
blocks_freed old new last = flat_map (block_freed old new last) vm_handles

-- nothing is made, and the map block is this one
abbrev pub first_progress : ℕ → Progress
first_progress map_block = record { holes = 0; last = 0; map_block = map_block }

-- from the old document to the new one
unfoldable pub changes : Document → Document → List Edit
changes old new =
    let first = first_progress old.map_block in
    let p = progress_after old new first vm_handles in
    blocks_changed old new first vm_handles ++ map_set p.map_block new.map_block ++ blocks_freed old new p.last

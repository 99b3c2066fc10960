-- What an edit means: its refusals with their conditions, and where none holds the document after it and what it
-- answers.
use Rattle.std.specs.Prelude.{ℕ, List, [], ◌∷◌, ◌++◌, ◌+◌, not, ◌==◌, ◌&&◌, nat_lt, length, get_or, replicate, is_none, unwrap_or}
use Rattle.std.specs.FinMap.{insert, remove, contains_key, empty}
use Rattle.geos_model.specs.Refusal.{Conditions}
use Rattle.geos_model.specs.Bytes.{written, spliced, resized, inserted, deleted}
use Rattle.geos_model.specs.Array.{array_bytes}
use Rattle.geos_model.specs.ArrayEdits.{new_array, element_inserted, element_set, element_resized, elements_deleted, array_zeroed, on_array, create_conditions, insert_conditions, set_conditions, resize_conditions, delete_conditions}
use Rattle.geos_model.specs.ElementArray.{element_bytes}
use Rattle.geos_model.specs.ElementEdits.{no_slots, element_added, token_added, reference_added, reference_removed, element_deleted, element_changed, on_token, create_elements_conditions, add_conditions, add_reference_conditions, change_conditions}
use Rattle.geos_model.specs.NameArray.{name_bytes}
use Rattle.geos_model.specs.NameEdits.{no_names, name_added, name_token_added, name_changed, name_part_set, name_reference_removed, on_name_token, create_names_conditions, add_name_conditions, change_name_conditions, set_part_conditions}
use Rattle.geos_model.specs.Heap.{ChunkMap, capacity, next_chunk, chunk_bytes, fits_with, fits_new}
use Rattle.geos_model.specs.Document.{Block, Document, block_at, with_block, without_block, with_blocks, without_blocks, with_body, with_user_id, with_heap_type, is_live, is_heap, is_raw, chunks_of, raw_bytes_of, next_handle}
use Rattle.geos_model.specs.Chain.{chain_blocks, new_handles, copies_of, copy_conditions, free_conditions}
use Rattle.geos_model.specs.LargeEdits.{large_created, large_inserted, large_set, large_deleted, create_large_conditions, insert_large_conditions, set_large_conditions, delete_large_conditions}
use Rattle.geos_model.specs.declared.fault.Fault.TheVariants.{NoBlock, NoChunk, WrongKind, Full, TooBig, NoHandles, Range, IsMap}
use Rattle.geos_model.specs.declared.command.Body.TheVariants.{Raw, Heap}
use Rattle.geos_model.specs.declared.command.Done.{Done}
use Rattle.geos_model.specs.declared.command.Done.TheVariants as done
use Rattle.geos_model.specs.declared.command.Edit.{Edit}
use Rattle.geos_model.specs.declared.command.Edit.TheVariants as edits

-- a chunk's bytes, none where there is no such chunk
abbrev pub chunk_at : Document → ℕ → ℕ → List ℕ
chunk_at d b c = chunk_bytes (chunks_of d b) c

-- the document with a chunk's bytes
abbrev pub with_chunk : Document → ℕ → ℕ → List ℕ → Document
with_chunk d b c bytes = with_body d b (Heap (insert (chunks_of d b) c bytes))

-- the document without a chunk
abbrev pub without_chunk : Document → ℕ → ℕ → Document
without_chunk d b c = with_body d b (Heap (remove (chunks_of d b) c))

-- Refusals of an edit of bytes: it reaches past their end, the heap has no room for the new ones, or they are too many
-- for a raw body.

abbrev pub past_end : List ℕ → ℕ → Conditions
past_end bytes end = (Range, nat_lt (length bytes) end) ∷ []

abbrev pub no_room : ChunkMap → ℕ → List ℕ → Conditions
no_room m c bytes = (Full, not (fits_with m c bytes)) ∷ []

abbrev pub too_big : ℕ → Conditions
too_big n = (TooBig, nat_lt capacity n) ∷ []

-- the heap has no handle, or no room, for a new chunk of these bytes
abbrev pub no_place : ChunkMap → List ℕ → Conditions
no_place m bytes = (Full, not (fits_new m bytes)) ∷ []

-- the handle that a new chunk gets
abbrev pub new_chunk_handle : Document → ℕ → ℕ
new_chunk_handle d b = unwrap_or (next_chunk (chunks_of d b)) 0

abbrev pub on_block : Document → ℕ → Conditions
on_block d b = (NoBlock, not (is_live d b)) ∷ []

abbrev pub on_raw : Document → ℕ → Conditions
on_raw d b = on_block d b ++ (WrongKind, not (is_raw d b)) ∷ []

abbrev pub on_heap : Document → ℕ → Conditions
on_heap d b = on_block d b ++ (WrongKind, not (is_heap d b)) ∷ []

abbrev pub on_chunk : Document → ℕ → ℕ → Conditions
on_chunk d b c = on_heap d b ++ (NoChunk, not (contains_key (chunks_of d b) c)) ∷ []

-- the refusals of an edit that makes a chunk of these bytes, and of one that leaves these in the place of a chunk's
abbrev pub on_new_chunk : Document → ℕ → Conditions → List ℕ → Conditions
on_new_chunk d b own bytes = on_heap d b ++ own ++ no_place (chunks_of d b) bytes

abbrev pub on_new_bytes : Document → ℕ → ℕ → Conditions → List ℕ → Conditions
on_new_bytes d b c own bytes = on_chunk d b c ++ own ++ no_room (chunks_of d b) c bytes

-- The refusals of an edit, each with its condition. Where an earlier one applies, a later one may be anything.
abbrev pub conditions : Edit → Document → Conditions
conditions (edits.NewRaw uid size) d = too_big size ++ (NoHandles, is_none (next_handle d)) ∷ []
conditions (edits.NewHeap uid) d = (NoHandles, is_none (next_handle d)) ∷ []
conditions (edits.FreeBlock b) d = on_block d b.0 ++ (IsMap, d.map_block == b.0) ∷ []
conditions (edits.CopyBlock b) d = on_block d b.0 ++ (NoHandles, is_none (next_handle d)) ∷ []
conditions (edits.WriteRaw b at bytes) d = on_raw d b.0 ++ past_end (raw_bytes_of d b.0) (at + length bytes)
conditions (edits.SpliceRaw b at n bytes) d =
    let old = raw_bytes_of d b.0 in
    on_raw d b.0 ++ past_end old (at + n) ++ too_big (length (spliced old at n bytes))
conditions (edits.Attach b bytes) d = on_raw d b.0 ++ too_big (length bytes)
conditions (edits.SetUserId b uid) d = on_block d b.0
conditions (edits.SetType b heap_type) d = on_heap d b.0
conditions (edits.SetMap b) d = (NoBlock, not (b.0 == 0) && not (is_live d b.0)) ∷ []
conditions (edits.Alloc b n) d = on_heap d b.0 ++ no_place (chunks_of d b.0) (replicate n 0)
conditions (edits.Free b c) d = on_chunk d b.0 c.0
conditions (edits.Resize b c n) d = on_chunk d b.0 c.0 ++ no_room (chunks_of d b.0) c.0 (resized (chunk_at d b.0 c.0) n)
conditions (edits.Insert b c at n) d =
    on_chunk d b.0 c.0 ++ past_end (chunk_at d b.0 c.0) at
    ++ no_room (chunks_of d b.0) c.0 (inserted (chunk_at d b.0 c.0) at n)
conditions (edits.Delete b c at n) d = on_chunk d b.0 c.0 ++ past_end (chunk_at d b.0 c.0) (at + n)
conditions (edits.Write b c at bytes) d = on_chunk d b.0 c.0 ++ past_end (chunk_at d b.0 c.0) (at + length bytes)
conditions (edits.Splice b c at n bytes) d =
    let old = chunk_at d b.0 c.0 in on_new_bytes d b.0 c.0 (past_end old (at + n)) (spliced old at n bytes)
conditions (edits.CreateArray b size extra) d =
    on_new_chunk d b.0 (create_conditions size extra) (array_bytes (new_array size extra))
conditions (edits.InsertElement b c i element) d =
    let old = chunk_at d b.0 c.0 in
    on_new_bytes d b.0 c.0 (insert_conditions old i element) (element_inserted old i element)
conditions (edits.SetElement b c i element) d =
    let old = chunk_at d b.0 c.0 in on_new_bytes d b.0 c.0 (set_conditions old i element) (element_set old i element)
conditions (edits.ResizeElement b c i n) d =
    let old = chunk_at d b.0 c.0 in on_new_bytes d b.0 c.0 (resize_conditions old i) (element_resized old i n)
conditions (edits.DeleteElements b c i k) d =
    let old = chunk_at d b.0 c.0 in on_new_bytes d b.0 c.0 (delete_conditions old i k) (elements_deleted old i k)
conditions (edits.ZeroArray b c) d =
    let old = chunk_at d b.0 c.0 in on_new_bytes d b.0 c.0 (on_array old) (array_zeroed old)
conditions (edits.CreateElementArray b size) d =
    on_new_chunk d b.0 (create_elements_conditions size) (element_bytes (no_slots size))
conditions (edits.AddElement b c element) d =
    let old = chunk_at d b.0 c.0 in on_new_bytes d b.0 c.0 (add_conditions old element) (element_added old element)
conditions (edits.AddReference b c t) d =
    let old = chunk_at d b.0 c.0 in on_new_bytes d b.0 c.0 (add_reference_conditions old t.0) (reference_added old t.0)
conditions (edits.RemoveReference b c t) d =
    let old = chunk_at d b.0 c.0 in on_new_bytes d b.0 c.0 (on_token old t.0) (reference_removed old t.0)
conditions (edits.DeleteElement b c t) d =
    let old = chunk_at d b.0 c.0 in on_new_bytes d b.0 c.0 (on_token old t.0) (element_deleted old t.0)
conditions (edits.ChangeElement b c t element) d =
    let old = chunk_at d b.0 c.0 in
    on_new_bytes d b.0 c.0 (change_conditions old t.0 element) (element_changed old t.0 element)
conditions (edits.CreateNameArray b part) d =
    on_new_chunk d b.0 (create_names_conditions part) (name_bytes (no_names part))
conditions (edits.AddName b c text part replace) d =
    let old = chunk_at d b.0 c.0 in
    on_new_bytes d b.0 c.0 (add_name_conditions old text part) (name_added old text part replace)
conditions (edits.ChangeName b c t text) d =
    let old = chunk_at d b.0 c.0 in
    on_new_bytes d b.0 c.0 (change_name_conditions old t.0 text) (name_changed old t.0 text)
conditions (edits.SetNamePart b c t part) d =
    let old = chunk_at d b.0 c.0 in
    on_new_bytes d b.0 c.0 (set_part_conditions old t.0 part) (name_part_set old t.0 part)
conditions (edits.RemoveName b c t) d =
    let old = chunk_at d b.0 c.0 in on_new_bytes d b.0 c.0 (on_name_token old t.0) (name_reference_removed old t.0)
conditions (edits.CopyChain b) d = copy_conditions d b.0
conditions (edits.FreeChain b) d = free_conditions d b.0
conditions (edits.CreateLarge uid size) d = create_large_conditions d size
conditions (edits.InsertLarge b i bytes) d = insert_large_conditions d b.0 i.0 bytes
conditions (edits.SetLarge b i bytes) d = set_large_conditions d b.0 i.0 bytes
conditions (edits.DeleteLarge b i n) d = delete_large_conditions d b.0 i.0 n.0

-- an edit that makes a block, or a chunk, and answers its handle
abbrev pub makes_block : Document → Block → Document × Done
makes_block d block = let h = unwrap_or (next_handle d) 0 in (with_block d h block, done.Block (record { 0 = h }))

abbrev pub makes_chunk : Document → ℕ → List ℕ → Document × Done
makes_chunk d b bytes = (with_chunk d b (new_chunk_handle d b) bytes, done.Chunk (record { 0 = new_chunk_handle d b }))

-- an edit that copies these blocks, and answers the handle of the first one's copy
abbrev pub copies_blocks : Document → List ℕ → Document × Done
copies_blocks d hs =
    (with_blocks d (copies_of d hs), done.Block (record { 0 = get_or (new_handles d (length hs)) 0 0 }))

-- what an edit does that nothing refuses
abbrev pub effect : Edit → Document → Document × Done
effect (edits.NewRaw uid size) d =
    makes_block d (record { attributes = record { user_id = uid; heap_type = 0 }; body = Raw (replicate size 0) })
effect (edits.NewHeap uid) d =
    makes_block d (record { attributes = record { user_id = uid; heap_type = 0 }; body = Heap empty })
effect (edits.FreeBlock b) d = (without_block d b.0, done.Nothing)
effect (edits.CopyBlock b) d = makes_block d (block_at d b.0)
effect (edits.WriteRaw b at bytes) d = (with_body d b.0 (Raw (written (raw_bytes_of d b.0) at bytes)), done.Nothing)
effect (edits.SpliceRaw b at n bytes) d =
    (with_body d b.0 (Raw (spliced (raw_bytes_of d b.0) at n bytes)), done.Nothing)
effect (edits.Attach b bytes) d = (with_body d b.0 (Raw bytes), done.Nothing)
effect (edits.SetUserId b uid) d = (with_user_id d b.0 uid, done.Nothing)
effect (edits.SetType b heap_type) d = (with_heap_type d b.0 heap_type, done.Nothing)
effect (edits.SetMap b) d = (record d { map_block = b.0 }, done.Nothing)
effect (edits.Alloc b n) d = makes_chunk d b.0 (replicate n 0)
effect (edits.Free b c) d = (without_chunk d b.0 c.0, done.Nothing)
effect (edits.Resize b c n) d = (with_chunk d b.0 c.0 (resized (chunk_at d b.0 c.0) n), done.Nothing)
effect (edits.Insert b c at n) d = (with_chunk d b.0 c.0 (inserted (chunk_at d b.0 c.0) at n), done.Nothing)
effect (edits.Delete b c at n) d = (with_chunk d b.0 c.0 (deleted (chunk_at d b.0 c.0) at n), done.Nothing)
effect (edits.Write b c at bytes) d = (with_chunk d b.0 c.0 (written (chunk_at d b.0 c.0) at bytes), done.Nothing)
effect (edits.Splice b c at n bytes) d = (with_chunk d b.0 c.0 (spliced (chunk_at d b.0 c.0) at n bytes), done.Nothing)
effect (edits.CreateArray b size extra) d = makes_chunk d b.0 (array_bytes (new_array size extra))
effect (edits.InsertElement b c i element) d =
    (with_chunk d b.0 c.0 (element_inserted (chunk_at d b.0 c.0) i element), done.Nothing)
effect (edits.SetElement b c i element) d =
    (with_chunk d b.0 c.0 (element_set (chunk_at d b.0 c.0) i element), done.Nothing)
effect (edits.ResizeElement b c i n) d = (with_chunk d b.0 c.0 (element_resized (chunk_at d b.0 c.0) i n), done.Nothing)
effect (edits.DeleteElements b c i k) d =
    (with_chunk d b.0 c.0 (elements_deleted (chunk_at d b.0 c.0) i k), done.Nothing)
effect (edits.ZeroArray b c) d = (with_chunk d b.0 c.0 (array_zeroed (chunk_at d b.0 c.0)), done.Nothing)
effect (edits.CreateElementArray b size) d = makes_chunk d b.0 (element_bytes (no_slots size))
effect (edits.AddElement b c element) d =
    let old = chunk_at d b.0 c.0 in
    (with_chunk d b.0 c.0 (element_added old element), done.Token (record { 0 = token_added old element }))
effect (edits.AddReference b c t) d = (with_chunk d b.0 c.0 (reference_added (chunk_at d b.0 c.0) t.0), done.Nothing)
effect (edits.RemoveReference b c t) d =
    (with_chunk d b.0 c.0 (reference_removed (chunk_at d b.0 c.0) t.0), done.Nothing)
effect (edits.DeleteElement b c t) d = (with_chunk d b.0 c.0 (element_deleted (chunk_at d b.0 c.0) t.0), done.Nothing)
effect (edits.ChangeElement b c t element) d =
    (with_chunk d b.0 c.0 (element_changed (chunk_at d b.0 c.0) t.0 element), done.Nothing)
effect (edits.CreateNameArray b part) d = makes_chunk d b.0 (name_bytes (no_names part))
effect (edits.AddName b c text part replace) d =
    let old = chunk_at d b.0 c.0 in (
      with_chunk d b.0 c.0 (name_added old text part replace),
      done.Token (record { 0 = name_token_added old text part replace }),
    )
effect (edits.ChangeName b c t text) d =
    (with_chunk d b.0 c.0 (name_changed (chunk_at d b.0 c.0) t.0 text), done.Nothing)
effect (edits.SetNamePart b c t part) d =
    (with_chunk d b.0 c.0 (name_part_set (chunk_at d b.0 c.0) t.0 part), done.Nothing)
effect (edits.RemoveName b c t) d =
    (with_chunk d b.0 c.0 (name_reference_removed (chunk_at d b.0 c.0) t.0), done.Nothing)
effect (edits.CopyChain b) d = copies_blocks d (chain_blocks d b.0)
effect (edits.FreeChain b) d = (without_blocks d (chain_blocks d b.0), done.Nothing)
effect (edits.CreateLarge uid size) d =
    (large_created d uid size, done.Block (record { 0 = get_or (new_handles d 2) 0 0 }))
effect (edits.InsertLarge b i bytes) d = (large_inserted d b.0 i.0 bytes, done.Nothing)
effect (edits.SetLarge b i bytes) d = (large_set d b.0 i.0 bytes, done.Nothing)
effect (edits.DeleteLarge b i n) d = (large_deleted d b.0 i.0 n.0, done.Nothing)

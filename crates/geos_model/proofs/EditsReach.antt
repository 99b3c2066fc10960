-- Each edit that nothing refuses reaches the document after it by its places, so that these can be put together and
-- taken back.
use Rattle.std.proofs.Common.{◌≡◌, ℕ, ◌+◌, ◌-◌, ◌<◌, ◌≤◌, Bool, true, false, List, [], ◌∷◌, ◌++◌, length, drop, map, get_or, min, replicate, None, is_none, unwrap_or, refl, sym, subst, arith, ltb-false}
use Rattle.std.proofs.lemmas.Bool.{leb-false}
use Rattle.std.proofs.lemmas.List.{length-replicate}
use Rattle.std.proofs.Math.Seq.{drop-length}
use Rattle.std.specs.FinMap.{empty}
use Rattle.geos_model.specs.Refusal.{Conditions, first_refusal}
use Rattle.geos_model.specs.Bytes.{written, spliced, resized, inserted, deleted}
use Rattle.geos_model.specs.Array.{Array, array_bytes, array_of}
use Rattle.geos_model.specs.ArrayEdits.{new_array, array_in, with_elements, array_zeroed, element_inserted, element_set, element_resized, elements_deleted, create_conditions, insert_conditions, set_conditions, resize_conditions, delete_conditions}
use Rattle.geos_model.specs.ElementArray.{Slots, element_at, is_sound, element_bytes, element_array_of}
use Rattle.geos_model.specs.ElementEdits.{no_slots, elements_in, count_at, bytes_at, with_element, without_element, unreferenced, added, element_added, token_added, reference_added, reference_removed, element_deleted, element_changed, on_token, create_elements_conditions, add_conditions, add_reference_conditions, change_conditions}
use Rattle.geos_model.specs.NameArray.{NameArray, name_bytes, name_array_of}
use Rattle.geos_model.specs.NameEdits.{no_names, names_in, text_at, part_at, added_name, name_added, name_token_added, name_changed, name_part_set, name_reference_removed, on_name_token, create_names_conditions, add_name_conditions, change_name_conditions, set_part_conditions}
use Rattle.geos_model.specs.Document.{Block, Document, with_block, without_block, with_blocks, attributes_of, chunks_of, raw_bytes_of, is_heap, block_at, next_handle}
use Rattle.geos_model.specs.Chain.{chain_blocks, free_handles, copies_of, copy_conditions}
use Rattle.geos_model.specs.Meaning.{conditions, effect, chunk_at, with_chunk, new_chunk_handle, on_chunk, past_end, too_big, no_place, no_room}
use Rattle.geos_model.specs.Places.{array_places, block_place, at_new_chunk, places_of}
use Rattle.geos_model.specs.declared.fault.Fault.TheVariants.{NotArray, NoElement, Range, NoHandles}
use Rattle.geos_model.specs.declared.command.Body.TheVariants.{Raw, Heap}
use Rattle.geos_model.specs.declared.command.Edit.{Edit}
use Rattle.geos_model.specs.declared.command.Edit.TheVariants as edits
use Rattle.geos_model.specs.declared.handle.VmHandle.{VmHandle}
use Rattle.geos_model.specs.declared.handle.ChunkHandle.{ChunkHandle}
use Rattle.geos_model.proofs.Refusals.{none_applies, or_none}
use Rattle.geos_model.proofs.ElementEdits.{used_lt, used_from_not_none}
use Rattle.geos_model.proofs.ChainEdits.{copies_of-handles}
use Rattle.geos_model.proofs.Places.{at_map, at_put, at_taken, at_attributes}
use Rattle.geos_model.proofs.Reaching.{Reaches}
use Rattle.geos_model.proofs.PlacesOfEdits.{chunk_put, chunk_taken, chunk_run, chunk_holds, body_run, on_a_heap, on_a_chunk, on_a_raw, all_replaced, inserted-is, resized-is}
use Rattle.geos_model.proofs.ArrayPlaces.{array_reaches}
use Rattle.geos_model.proofs.LargeReaching.{blocks-put, blocks-taken, created-reaches, inserted-reaches, set-reaches, deleted-reaches}
use Rattle.geos_model.proofs.SlotPlaces.{Replaces, replaces-element, replaces-none, replaces-unreferenced, replaces-added, replaces-added_name, element_reaches, name_reaches}

-- Blocks.

put_one : (d : Document) (h : ℕ) (block : Block) → Reaches (block_place h ∷ []) d (with_block d h block)
put_one d h block = (with_block d h block, at_put d h block, tt, refl)

-- a chunk that is new
new_chunk : (d : Document) (b : VmHandle) (bytes : List ℕ) → is_heap d b.0 ≡ true → Reaches (at_new_chunk d b) d (with_chunk d b.0 (new_chunk_handle d b.0) bytes)
new_chunk d b bytes heap =
    (with_chunk d b.0 (new_chunk_handle d b.0) bytes, chunk_put d b (record { 0 = new_chunk_handle d b.0 }) bytes heap, tt, refl)

-- Arrays.

-- the places of an array's edit, told by the document after it
told : (d : Document) (b : VmHandle) (c : ChunkHandle) (bytes : List ℕ) (from to others : ℕ)
    → Reaches (array_places b c (chunk_at d b.0 c.0) bytes from to others) d (with_chunk d b.0 c.0 bytes)
    → Reaches (array_places b c (chunk_at d b.0 c.0) (chunk_at (with_chunk d b.0 c.0 bytes) b.0 c.0) from to others) d (with_chunk d b.0 c.0 bytes)
told d b c bytes from to others =
    subst (λ (l : List ℕ). Reaches (array_places b c (chunk_at d b.0 c.0) l from to others) d (with_chunk d b.0 c.0 bytes)) (sym (chunk_holds d b.0 c.0 bytes))

-- The conditions of an edit of a chunk that is to be an array of some kind.
abbrev on_kind : Document → VmHandle → ChunkHandle → Bool → Conditions → Conditions
on_kind d b c none own = on_chunk d b.0 c.0 ++ ((NotArray, none) ∷ own)

is_kind : (d : Document) (b : VmHandle) (c : ChunkHandle) (none : Bool) (own : Conditions) → first_refusal (on_kind d b c none own) ≡ None → none ≡ false
is_kind d b c none own accepted = (or_none (none_applies (on_kind d b c none own) accepted NotArray refl)).0

-- others in the place of the elements from one to another
array_edit : (d : Document) (b : VmHandle) (c : ChunkHandle) (from to : ℕ) (ys : List (List ℕ)) (own : Conditions)
    → first_refusal (on_kind d b c (is_none (array_of (chunk_at d b.0 c.0))) own) ≡ None
    → from ≤ length (array_in (chunk_at d b.0 c.0)).elements → from ≤ to
    → let new = array_bytes (with_elements (array_in (chunk_at d b.0 c.0)) from to ys) in
    Reaches (array_places b c (chunk_at d b.0 c.0) (chunk_at (with_chunk d b.0 c.0 new) b.0 c.0) from to (length ys)) d (with_chunk d b.0 c.0 new)
array_edit d b c from to ys own none low order =
    let old : List ℕ = chunk_at d b.0 c.0 in
    let here = on_a_chunk d b.0 c.0 ((NotArray, is_none (array_of old)) ∷ own) none in
    told d b c (array_bytes (with_elements (array_in old) from to ys)) from to (length ys)
    (array_reaches d b c (with_elements (array_in old) from to ys) from to ys here.0 here.1 (is_kind d b c (is_none (array_of old)) own none) refl refl refl low order)

array_zero : (d : Document) (b : VmHandle) (c : ChunkHandle) (own : Conditions) → first_refusal (on_kind d b c (is_none (array_of (chunk_at d b.0 c.0))) own) ≡ None
    → let old = chunk_at d b.0 c.0 in
    Reaches (array_places b c old (chunk_at (with_chunk d b.0 c.0 (array_zeroed old)) b.0 c.0) 0 (length (array_in old).elements) 0) d (with_chunk d b.0 c.0 (array_zeroed old))
array_zero d b c own none =
    let old : List ℕ = chunk_at d b.0 c.0 in
    let a : Array = array_in old in
    let here = on_a_chunk d b.0 c.0 ((NotArray, is_none (array_of old)) ∷ own) none in
    told d b c (array_zeroed old) 0 (length a.elements) 0
    (array_reaches d b c (record a { elements = [] }) 0 (length a.elements) [] here.0 here.1 (is_kind d b c (is_none (array_of old)) own none) refl refl
    (sym (drop-length a.elements)) (omega arith) (omega arith))

-- another element under a token
element_edit : (d : Document) (b : VmHandle) (c : ChunkHandle) (t : ℕ) (z : Slots) (own : Conditions)
    → first_refusal (on_kind d b c (is_none (element_array_of (chunk_at d b.0 c.0))) own) ≡ None
    → let s = elements_in (chunk_at d b.0 c.0) in (is_sound s ≡ true → Replaces s z t)
    → Reaches (array_places b c (chunk_at d b.0 c.0) (chunk_at (with_chunk d b.0 c.0 (element_bytes z)) b.0 c.0) t (t + 1) 1) d (with_chunk d b.0 c.0 (element_bytes z))
element_edit d b c t z own none replaces =
    let kind : Bool = is_none (element_array_of (chunk_at d b.0 c.0)) in
    let here = on_a_chunk d b.0 c.0 ((NotArray, kind) ∷ own) none in
    told d b c (element_bytes z) t (t + 1) 1 (element_reaches d b c t z here.0 here.1 (is_kind d b c kind own none) replaces)

-- another name under a token
name_edit : (d : Document) (b : VmHandle) (c : ChunkHandle) (t : ℕ) (z : Slots) (own : Conditions)
    → first_refusal (on_kind d b c (is_none (name_array_of (chunk_at d b.0 c.0))) own) ≡ None
    → let n = names_in (chunk_at d b.0 c.0) in (is_sound n.names ≡ true → Replaces n.names z t)
    → let new = name_bytes (record n { names = z }) in
    Reaches (array_places b c (chunk_at d b.0 c.0) (chunk_at (with_chunk d b.0 c.0 new) b.0 c.0) t (t + 1) 1) d (with_chunk d b.0 c.0 new)
name_edit d b c t z own none replaces =
    let kind : Bool = is_none (name_array_of (chunk_at d b.0 c.0)) in
    let here = on_a_chunk d b.0 c.0 ((NotArray, kind) ∷ own) none in
    told d b c (name_bytes (record (names_in (chunk_at d b.0 c.0)) { names = z })) t (t + 1) 1
    (name_reaches d b c t z here.0 here.1 (is_kind d b c kind own none) replaces)

-- a token with an element is one of a slot
token_lt : (s : Slots) (t : ℕ) → is_none (element_at s t) ≡ false → t < length s.slots
token_lt s t used = used_lt s.slots t (used_from_not_none (element_at s t) used)

pub edit-reaches : (e : Edit) (d : Document) → first_refusal (conditions e d) ≡ None → Reaches (places_of e d) d (effect e d).0
edit-reaches (edits.NewRaw uid size) d none = put_one d (unwrap_or (next_handle d) 0) (record { attributes = record { user_id = uid; heap_type = 0 }; body = Raw (replicate size 0) })
edit-reaches (edits.NewHeap uid) d none = put_one d (unwrap_or (next_handle d) 0) (record { attributes = record { user_id = uid; heap_type = 0 }; body = Heap empty })
edit-reaches (edits.FreeBlock b) d none = (without_block d b.0, at_taken d b.0, tt, refl)
edit-reaches (edits.CopyBlock b) d none = put_one d (unwrap_or (next_handle d) 0) (block_at d b.0)
edit-reaches (edits.WriteRaw b at bytes) d none =
    let old : List ℕ = raw_bytes_of d b.0 in
    let raw = on_a_raw d b.0 (past_end old (at + length bytes)) none in
    let low = ltb-false (length old) (at + length bytes) (or_none (none_applies (conditions (edits.WriteRaw b at bytes) d) none Range refl)).0 in
    body_run d b at (length bytes) (length bytes) (written old at bytes) bytes raw low refl refl
edit-reaches (edits.SpliceRaw b at n bytes) d none =
    let old : List ℕ = raw_bytes_of d b.0 in
    let raw = on_a_raw d b.0 (past_end old (at + n) ++ too_big (length (spliced old at n bytes))) none in
    let low = ltb-false (length old) (at + n) (or_none (none_applies (conditions (edits.SpliceRaw b at n bytes) d) none Range refl)).0 in
    body_run d b at n (length bytes) (spliced old at n bytes) bytes raw low refl refl
edit-reaches (edits.Attach b bytes) d none =
    let old : List ℕ = raw_bytes_of d b.0 in
    let raw = on_a_raw d b.0 (too_big (length bytes)) none in
    body_run d b 0 (length old) (length bytes) bytes bytes raw (omega arith) (all_replaced old bytes) refl
edit-reaches (edits.SetUserId b uid) d none = (_, at_attributes d b (record (attributes_of d b.0) { user_id = uid }), tt, refl)
edit-reaches (edits.SetType b heap_type) d none = (_, at_attributes d b (record (attributes_of d b.0) { heap_type = heap_type }), tt, refl)
edit-reaches (edits.SetMap b) d none = (_, at_map d b.0, tt, refl)
edit-reaches (edits.Alloc b n) d none = new_chunk d b (replicate n 0) (on_a_heap d b.0 (no_place (chunks_of d b.0) (replicate n 0)) none)
edit-reaches (edits.Free b c) d none = (_, chunk_taken d b c (on_a_chunk d b.0 c.0 [] none).0, tt, refl)
edit-reaches (edits.Resize b c n) d none =
    let old : List ℕ = chunk_at d b.0 c.0 in
    let here = on_a_chunk d b.0 c.0 (no_room (chunks_of d b.0) c.0 (resized old n)) none in
    chunk_run d b c (min n (length old)) (length old - n) (n - length old) (resized old n) (replicate (n - length old) 0) here.0 here.1
    (omega arith) (resized-is old n) (length-replicate (n - length old) 0)
edit-reaches (edits.Insert b c at n) d none =
    let old : List ℕ = chunk_at d b.0 c.0 in
    let here = on_a_chunk d b.0 c.0 (past_end old at ++ no_room (chunks_of d b.0) c.0 (inserted old at n)) none in
    let low = ltb-false (length old) at (or_none (none_applies (conditions (edits.Insert b c at n) d) none Range refl)).0 in
    chunk_run d b c at 0 n (inserted old at n) (replicate n 0) here.0 here.1 (omega (arith, low)) (inserted-is old at n) (length-replicate n 0)
edit-reaches (edits.Delete b c at n) d none =
    let old : List ℕ = chunk_at d b.0 c.0 in
    let here = on_a_chunk d b.0 c.0 (past_end old (at + n)) none in
    let low = ltb-false (length old) (at + n) (or_none (none_applies (conditions (edits.Delete b c at n) d) none Range refl)).0 in
    chunk_run d b c at n 0 (deleted old at n) [] here.0 here.1 low refl refl
edit-reaches (edits.Write b c at bytes) d none =
    let old : List ℕ = chunk_at d b.0 c.0 in
    let here = on_a_chunk d b.0 c.0 (past_end old (at + length bytes)) none in
    let low = ltb-false (length old) (at + length bytes) (or_none (none_applies (conditions (edits.Write b c at bytes) d) none Range refl)).0 in
    chunk_run d b c at (length bytes) (length bytes) (written old at bytes) bytes here.0 here.1 low refl refl
edit-reaches (edits.Splice b c at n bytes) d none =
    let old : List ℕ = chunk_at d b.0 c.0 in
    let here = on_a_chunk d b.0 c.0 (past_end old (at + n) ++ no_room (chunks_of d b.0) c.0 (spliced old at n bytes)) none in
    let low = ltb-false (length old) (at + n) (or_none (none_applies (conditions (edits.Splice b c at n bytes) d) none Range refl)).0 in
    chunk_run d b c at n (length bytes) (spliced old at n bytes) bytes here.0 here.1 low refl refl
edit-reaches (edits.CreateArray b size extra) d none =
    let bytes : List ℕ = array_bytes (new_array size extra) in
    new_chunk d b bytes (on_a_heap d b.0 (create_conditions size extra ++ no_place (chunks_of d b.0) bytes) none)
edit-reaches (edits.InsertElement b c i element) d none =
    let old : List ℕ = chunk_at d b.0 c.0 in
    let low = ltb-false (length (array_in old).elements) i (or_none (or_none (none_applies (conditions (edits.InsertElement b c i element) d) none Range refl)).0).0 in
    array_edit d b c i i (element ∷ []) (drop 1 (insert_conditions old i element ++ no_room (chunks_of d b.0) c.0 (element_inserted old i element))) none low (omega arith)
edit-reaches (edits.SetElement b c i element) d none =
    let old : List ℕ = chunk_at d b.0 c.0 in
    let low = leb-false (length (array_in old).elements) i (or_none (none_applies (conditions (edits.SetElement b c i element) d) none NoElement refl)).0 in
    array_edit d b c i (i + 1) (element ∷ []) (drop 1 (set_conditions old i element ++ no_room (chunks_of d b.0) c.0 (element_set old i element))) none
    (omega (arith, low)) (omega arith)
edit-reaches (edits.ResizeElement b c i n) d none =
    let old : List ℕ = chunk_at d b.0 c.0 in
    let low = leb-false (length (array_in old).elements) i (or_none (none_applies (conditions (edits.ResizeElement b c i n) d) none NoElement refl)).0 in
    array_edit d b c i (i + 1) (resized (get_or (array_in old).elements i []) n ∷ [])
    (drop 1 (resize_conditions old i ++ no_room (chunks_of d b.0) c.0 (element_resized old i n))) none (omega (arith, low)) (omega arith)
edit-reaches (edits.DeleteElements b c i k) d none =
    let old : List ℕ = chunk_at d b.0 c.0 in
    let low = ltb-false (length (array_in old).elements) (i + k) (or_none (none_applies (conditions (edits.DeleteElements b c i k) d) none NoElement refl)).0 in
    array_edit d b c i (i + k) [] (drop 1 (delete_conditions old i k ++ no_room (chunks_of d b.0) c.0 (elements_deleted old i k))) none
    (omega (arith, low)) (omega arith)
edit-reaches (edits.ZeroArray b c) d none = array_zero d b c (no_room (chunks_of d b.0) c.0 (array_zeroed (chunk_at d b.0 c.0))) none
edit-reaches (edits.CreateElementArray b size) d none =
    let bytes : List ℕ = element_bytes (no_slots size) in
    new_chunk d b bytes (on_a_heap d b.0 (create_elements_conditions size ++ no_place (chunks_of d b.0) bytes) none)
edit-reaches (edits.AddElement b c element) d none =
    let old : List ℕ = chunk_at d b.0 c.0 in
    element_edit d b c (token_added old element) (added (elements_in old) element).0
    (drop 1 (add_conditions old element ++ no_room (chunks_of d b.0) c.0 (element_added old element))) none
    (replaces-added (elements_in old) element)
edit-reaches (edits.AddReference b c t) d none =
    let old : List ℕ = chunk_at d b.0 c.0 in
    let s : Slots = elements_in old in
    let low = token_lt s t.0 (or_none (none_applies (conditions (edits.AddReference b c t) d) none NoElement refl)).0 in
    element_edit d b c t.0 (with_element s t.0 (count_at s t.0 + 1) (bytes_at s t.0))
    (drop 1 (add_reference_conditions old t.0 ++ no_room (chunks_of d b.0) c.0 (reference_added old t.0))) none
    (λ sound. replaces-element s t.0 (count_at s t.0 + 1) (bytes_at s t.0) low)
edit-reaches (edits.RemoveReference b c t) d none =
    let old : List ℕ = chunk_at d b.0 c.0 in
    let s : Slots = elements_in old in
    let low = token_lt s t.0 (or_none (none_applies (conditions (edits.RemoveReference b c t) d) none NoElement refl)).0 in
    element_edit d b c t.0 (unreferenced s t.0) (drop 1 (on_token old t.0 ++ no_room (chunks_of d b.0) c.0 (reference_removed old t.0))) none
    (λ sound. replaces-unreferenced s t.0 low)
edit-reaches (edits.DeleteElement b c t) d none =
    let old : List ℕ = chunk_at d b.0 c.0 in
    let s : Slots = elements_in old in
    let low = token_lt s t.0 (or_none (none_applies (conditions (edits.DeleteElement b c t) d) none NoElement refl)).0 in
    element_edit d b c t.0 (without_element s t.0) (drop 1 (on_token old t.0 ++ no_room (chunks_of d b.0) c.0 (element_deleted old t.0))) none
    (λ sound. replaces-none s t.0 low)
edit-reaches (edits.ChangeElement b c t element) d none =
    let old : List ℕ = chunk_at d b.0 c.0 in
    let s : Slots = elements_in old in
    let low = token_lt s t.0 (or_none (none_applies (conditions (edits.ChangeElement b c t element) d) none NoElement refl)).0 in
    element_edit d b c t.0 (with_element s t.0 (count_at s t.0) element)
    (drop 1 (change_conditions old t.0 element ++ no_room (chunks_of d b.0) c.0 (element_changed old t.0 element))) none
    (λ sound. replaces-element s t.0 (count_at s t.0) element low)
edit-reaches (edits.CreateNameArray b part) d none =
    let bytes : List ℕ = name_bytes (no_names part) in
    new_chunk d b bytes (on_a_heap d b.0 (create_names_conditions part ++ no_place (chunks_of d b.0) bytes) none)
edit-reaches (edits.AddName b c text part replace) d none =
    let old : List ℕ = chunk_at d b.0 c.0 in
    name_edit d b c (name_token_added old text part replace) (added_name (names_in old) text part replace).0
    (drop 1 (add_name_conditions old text part ++ no_room (chunks_of d b.0) c.0 (name_added old text part replace))) none
    (replaces-added_name (names_in old) text part replace)
edit-reaches (edits.ChangeName b c t text) d none =
    let old : List ℕ = chunk_at d b.0 c.0 in
    let n : NameArray = names_in old in
    let low = token_lt n.names t.0 (or_none (none_applies (conditions (edits.ChangeName b c t text) d) none NoElement refl)).0 in
    name_edit d b c t.0 (with_element n.names t.0 (count_at n.names t.0) (part_at n t.0 ++ text))
    (drop 1 (change_name_conditions old t.0 text ++ no_room (chunks_of d b.0) c.0 (name_changed old t.0 text))) none
    (λ sound. replaces-element n.names t.0 (count_at n.names t.0) (part_at n t.0 ++ text) low)
edit-reaches (edits.SetNamePart b c t part) d none =
    let old : List ℕ = chunk_at d b.0 c.0 in
    let n : NameArray = names_in old in
    let low = token_lt n.names t.0 (or_none (none_applies (conditions (edits.SetNamePart b c t part) d) none NoElement refl)).0 in
    name_edit d b c t.0 (with_element n.names t.0 (count_at n.names t.0) (part ++ text_at n t.0))
    (drop 1 (set_part_conditions old t.0 part ++ no_room (chunks_of d b.0) c.0 (name_part_set old t.0 part))) none
    (λ sound. replaces-element n.names t.0 (count_at n.names t.0) (part ++ text_at n t.0) low)
edit-reaches (edits.RemoveName b c t) d none =
    let old : List ℕ = chunk_at d b.0 c.0 in
    let n : NameArray = names_in old in
    let low = token_lt n.names t.0 (or_none (none_applies (conditions (edits.RemoveName b c t) d) none NoElement refl)).0 in
    name_edit d b c t.0 (unreferenced n.names t.0) (drop 1 (on_name_token old t.0 ++ no_room (chunks_of d b.0) c.0 (name_reference_removed old t.0))) none
    (λ sound. replaces-unreferenced n.names t.0 low)
edit-reaches (edits.CopyChain b) d none =
    let hs : List ℕ = chain_blocks d b.0 in
    let enough = ltb-false (length (free_handles d)) (length hs) (or_none (none_applies (copy_conditions d b.0) none NoHandles refl)).0 in
    subst (λ (l : List ℕ). Reaches (map block_place l) d (with_blocks d (copies_of d hs))) (copies_of-handles d hs enough) (blocks-put d (copies_of d hs))
edit-reaches (edits.FreeChain b) d none = blocks-taken d (chain_blocks d b.0)
edit-reaches (edits.CreateLarge uid size) d none = created-reaches d uid size none
edit-reaches (edits.InsertLarge b i bytes) d none = inserted-reaches d b.0 i.0 bytes none
edit-reaches (edits.SetLarge b i bytes) d none = set-reaches d b.0 i.0 bytes none
edit-reaches (edits.DeleteLarge b i n) d none = deleted-reaches d b.0 i.0 n.0 none

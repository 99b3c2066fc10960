-- An array that was edited is an array.
use Rattle.std.proofs.Common.{◌≡◌, ◌≤◌, ◌<◌, ℕ, List, true, false, Option, None, is_some, length, refl, sym, ap, ◌∙◌, arith}
use Rattle.std.specs.FinMap.{get, insert, contains_key}
use Rattle.std.specs.Option.{option_map_or}
use Rattle.geos_model.specs.Document.{Block, Document, attributes_of, chunks_of, is_heap, is_heap_body}
use Rattle.geos_model.specs.Heap.{chunk_bytes, is_heap_map, longest_chunk}
use Rattle.geos_model.specs.Meaning.{chunk_at, on_chunk, no_room, with_chunk}
use Rattle.geos_model.specs.Refusal.{Conditions, first_refusal}
use Rattle.geos_model.specs.Targets.{array_edit}
use Rattle.geos_model.specs.declared.command.Body.TheVariants.{Heap}
use Rattle.geos_model.specs.declared.command.Done.{Done}
use Rattle.geos_model.specs.declared.command.Edit.{Edit}
use Rattle.geos_model.specs.declared.handle.ChunkHandle.{ChunkHandle}
use Rattle.geos_model.specs.declared.handle.VmHandle.{VmHandle}
use Rattle.geos_model.specs.declared.target.ArrayEdit.{ArrayEdit}
use Rattle.geos_model.specs.declared.target.ArrayEdit.TheVariants as array_edits
use Rattle.geos_model.specs.declared.target.ChunkArrayEdit.TheVariants as chunk_array_edits
use Rattle.geos_model.specs.declared.target.ElementArrayEdit.TheVariants as element_array_edits
use Rattle.geos_model.specs.declared.target.NameArrayEdit.TheVariants as name_array_edits
use Rattle.geos_model.proofs.ArrayEdits.{array_edits_law}
use Rattle.geos_model.proofs.ChunkEdits.{accepted_middle}
use Rattle.geos_model.proofs.ChunkLengths.{in_heap}
use Rattle.geos_model.proofs.HeapEdits.{get-put_same}
use Rattle.geos_model.proofs.ElementEdits.{element_edits_law}
use Rattle.geos_model.proofs.NameEdits.{name_edits_law}
use Rattle.lmem_heap.specs.Known.{is_array_of}
use Rattle.lmem_heap.specs.declared.known.ArrayKind.{ArrayKind}
use Rattle.lmem_heap.specs.declared.known.ArrayKind.TheVariants as kinds
use Rattle.lmem_heap.proofs.PlacedLemmas.{slot_from_live}
use Rattle.doc_edits.specs.Marking.{array_kind, IsMade}
use Rattle.doc_edits.proofs.ArrayEdits.{inserted, given, sized, deleted, zeroed}
use Rattle.doc_edits.proofs.ChunkParts.{EditsChunk, Elements, chunk_with}
use Rattle.doc_edits.proofs.ElementEdits.{element_added, referenced, unreferenced, freed, element_changed}
use Rattle.doc_edits.proofs.NameEdits.{name_added, renamed, part_given, name_unreferenced}

-- Where none of its own conditions refuses it, an edit leaves bytes that are an array of the kind, if they are few.
abbrev Leaves : ArrayKind → Conditions → List ℕ → Type 0
Leaves kind own to = first_refusal own ≡ None → length to < 65536 → is_array_of kind to ≡ true

-- a block has a heap where a chunk of it was given bytes
heap_with : (d : Document) (b c : ℕ) (bytes : List ℕ) → is_heap (with_chunk d b c bytes) b ≡ true
heap_with d b c bytes =
    ap (λ (o : Option Block). option_map_or (λ (k : Block). is_heap_body k.body) o false) (get-put_same d.blocks b (record { attributes = attributes_of d b; body = Heap (insert (chunks_of d b) c bytes) }) b refl)

-- The chunk of an edit of an array that was made is in a heap, and has one.
abbrev Marked : Document → VmHandle → ChunkHandle → ArrayKind → Type 0
Marked d b c kind = (is_heap d b.0 ≡ true) × (is_heap_map (chunks_of d b.0) ≡ true → contains_key (chunks_of d b.0) c.0 ≡ true → is_array_of kind (chunk_at d b.0 c.0) ≡ true)

module _ (new : Document) (edit : Edit) (made : IsMade edit new) where
  left : (b : VmHandle) (c : ChunkHandle) (own : List ℕ → Conditions) (to : List ℕ → List ℕ) (at : List ℕ → Elements) (kind : ArrayKind)
      → ((d : Document) → (done : Done) × EditsChunk edit d b c own to at done) → ((old : List ℕ) → Leaves kind (own old) (to old)) → Marked new b c kind
  left b c own to at kind means leaves =
      let d = made.before in let old = chunk_at d b.0 c.0 in let edits = (means d).1 in
      let own_accepted : first_refusal (own old) ≡ None =
      accepted_middle (on_chunk d b.0 c.0) (own old) (no_room (chunks_of d b.0) c.0 (to old)) (sym (ap first_refusal edits.refusals) ∙ made.accepted) in
      let is : new ≡ with_chunk d b.0 c.0 (to old) = made.document ∙ ap (λ (p : Document × Done). p.0) edits.does in
      let there : chunk_at new b.0 c.0 ≡ to old = ap (λ (x : Document). chunk_at x b.0 c.0) is ∙ chunk_with d b.0 c.0 (to old) in
      let m = chunks_of new b.0 in (
        ap (λ (x : Document). is_heap x b.0) is ∙ heap_with d b.0 c.0 (to old),
        λ valid live.
            let short : length (chunk_bytes m c.0) ≤ longest_chunk = in_heap m c.0 (chunk_bytes m c.0) valid (slot_from_live (get m c.0) live) in
            let few : length (to old) < 65536 = omega (arith, short, ap length there) in
            ap (is_array_of kind) there ∙ leaves old own_accepted few,
      )

pub marked : (new : Document) (b : VmHandle) (c : ChunkHandle) (edit : ArrayEdit) → IsMade (array_edit b c edit) new → Marked new b c (array_kind edit)
marked new b c (array_edits.Chunk (chunk_array_edits.Insert i bytes)) made = left new _ made b c _ _ _ kinds.Chunk (λ d. (_, inserted d b c i bytes.now)) (λ old none few. ap is_some (array_edits_law.insert old i bytes.now none few))
marked new b c (array_edits.Chunk (chunk_array_edits.Set i bytes)) made = left new _ made b c _ _ _ kinds.Chunk (λ d. (_, given d b c i bytes.now)) (λ old none few. ap is_some (array_edits_law.set old i bytes.now none few))
marked new b c (array_edits.Chunk (chunk_array_edits.Resize i n)) made = left new _ made b c _ _ _ kinds.Chunk (λ d. (_, sized d b c i n)) (λ old none few. ap is_some (array_edits_law.resize old i n none few))
marked new b c (array_edits.Chunk (chunk_array_edits.Delete i k)) made = left new _ made b c _ _ _ kinds.Chunk (λ d. (_, deleted d b c i k)) (λ old none few. ap is_some (array_edits_law.delete old i k none few))
marked new b c (array_edits.Chunk chunk_array_edits.Zero) made = left new _ made b c _ _ _ kinds.Chunk (λ d. (_, zeroed d b c)) (λ old none few. ap is_some (array_edits_law.zero old none few))
marked new b c (array_edits.Element (element_array_edits.Add bytes)) made = left new _ made b c _ _ _ kinds.Element (λ d. (_, element_added d b c bytes.now (record { 0 = _ }) refl)) (λ old none few. ap is_some (element_edits_law.add old bytes.now none few).0)
marked new b c (array_edits.Element (element_array_edits.AddReference t)) made = left new _ made b c _ _ _ kinds.Element (λ d. (_, referenced d b c t)) (λ old none few. ap is_some (element_edits_law.add_reference old t.0 none few).0)
marked new b c (array_edits.Element (element_array_edits.RemoveReference t)) made = left new _ made b c _ _ _ kinds.Element (λ d. (_, unreferenced d b c t)) (λ old none few. ap is_some (element_edits_law.remove_reference old t.0 none few).0)
marked new b c (array_edits.Element (element_array_edits.Delete t)) made = left new _ made b c _ _ _ kinds.Element (λ d. (_, freed d b c t)) (λ old none few. ap is_some (element_edits_law.delete old t.0 none few).0)
marked new b c (array_edits.Element (element_array_edits.Change t bytes)) made = left new _ made b c _ _ _ kinds.Element (λ d. (_, element_changed d b c t bytes.now)) (λ old none few. ap is_some (element_edits_law.change old t.0 bytes.now none few).0)
marked new b c (array_edits.Name (name_array_edits.Add name part replace)) made = left new _ made b c _ _ _ kinds.Name (λ d. (_, name_added d b c name.now part.now replace (record { 0 = _ }) refl)) (λ old none few. ap is_some (name_edits_law.add old name.now part.now replace none few).0)
marked new b c (array_edits.Name (name_array_edits.Change t name)) made = left new _ made b c _ _ _ kinds.Name (λ d. (_, renamed d b c t name.now)) (λ old none few. ap is_some (name_edits_law.change_name old t.0 name.now none few).0)
marked new b c (array_edits.Name (name_array_edits.SetPart t part)) made = left new _ made b c _ _ _ kinds.Name (λ d. (_, part_given d b c t part.now)) (λ old none few. ap is_some (name_edits_law.set_part old t.0 part.now none few).0)
marked new b c (array_edits.Name (name_array_edits.Remove t)) made = left new _ made b c _ _ _ kinds.Name (λ d. (_, name_unreferenced d b c t)) (λ old none few. ap is_some (name_edits_law.remove_reference old t.0 none few).0)

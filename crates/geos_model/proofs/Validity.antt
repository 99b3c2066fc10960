-- Documents after one change are valid, and so they are where nothing refuses an edit of a chunk.
use Rattle.std.proofs.Common.{◌≡◌, ◌≢◌, ℕ, zero, suc, ◌+◌, ◌-◌, ◌<◌, ◌≤◌, Bool, true, false, not, ◌==◌, ◌&&◌, List, [], ◌∷◌, ◌++◌, length, take, drop, Option, Some, None, is_some, is_none, find, nat_cmp, unwrap_or, refl, sym, ap, subst, ◌∙◌, inl, inr, arith, le-leb, leb-true, ltb-false, length-append, length-drop, length-take-le}
use Rattle.std.proofs.lemmas.Bool.{cases_Bool, cases_eq, cond-true, cond-false, eqb-true, and_from, not-true}
use Rattle.std.proofs.lemmas.List.Folds.{list_any-append}
use Rattle.std.specs.List.{range_with_len, splice}
use Rattle.std.specs.Option.{option_map_or}
use Rattle.std.specs.FinMap.{get, empty, get-empty, insert, remove, contains_key}
use Rattle.geos_model.specs.Refusal.{Conditions, number_of_fault, applies, first_refusal}
use Rattle.geos_model.specs.Bytes.{written, deleted}
use Rattle.geos_model.specs.Heap.{capacity, is_chunk_handle, is_heap_map, fits_with, fits_new}
use Rattle.geos_model.specs.Document.{Block, Document, empty_document, is_vm_handle, vm_handles, next_handle, is_valid_body, is_heap_body, chunks_of_body, bytes_of_body, is_live, is_heap, chunks_of, raw_bytes_of, attributes_of, is_raw, with_block, without_block, with_body, with_attributes, no_attributes, most_blocks, FitAttributes, IsTyped, IsValidBlock, IsValid}
use Rattle.geos_model.specs.Meaning.{chunk_at, with_chunk, without_chunk, past_end, new_chunk_handle, makes_block, makes_chunk, on_chunk, on_new_chunk, on_new_bytes}
use Rattle.geos_model.specs.declared.fault.Fault.TheVariants.{NoBlock, NoChunk, WrongKind, Full, Range}
use Rattle.geos_model.specs.declared.block.Attributes.{Attributes}
use Rattle.geos_model.specs.declared.command.Body.{Body}
use Rattle.geos_model.specs.declared.command.Body.TheVariants.{Raw, Heap}
use Rattle.geos_model.proofs.Refusals.{none_applies, or_none}
use Rattle.geos_model.proofs.Tables.{table_map-nil}
use Rattle.geos_model.proofs.HeapTables.{live_handle, fits_with-fewer, is_heap_map-trimmed, need-table, trimmed-nil}
use Rattle.geos_model.proofs.HeapEdits.{get-put_same, get-put_other, get-taken, get-taken_other, heap-insert, heap-remove, placed}

-- what isn't false
pub not_false : (b : Bool) → not b ≡ false → b ≡ true
not_false true e = refl
not_false false e = absurd (cc e)

-- Documents after one change.

pub block_there : (o : Option Block) → is_some o ≡ true → (b : Block) × (o ≡ Some b)
block_there None h = absurd (cc h)
block_there (Some b) h = (b, refl)

-- without blocks
pub empty_document-valid : IsValid empty_document
empty_document-valid = record {
  blocks = λ h b is. let no : None ≡ Some b = sym (get-empty nat_cmp h) ∙ is in absurd (cc no);
  map_block = λ some. absurd (some refl);
}

-- with a valid block
pub with_block-valid : (d : Document) (h : ℕ) (b : Block) → IsValid d → IsValidBlock h b → IsValid (with_block d h b)
with_block-valid d h b valid good = record {
  blocks = λ q c is. elim (cases_eq q h) [
    | inl e ↦
        let some : Some b ≡ Some c = sym (get-put_same d.blocks h b q e) ∙ is in
        let same : b ≡ c = cc some in
        subst (λ k. IsValidBlock k c) (sym e) (subst (λ x. IsValidBlock h x) same good)
    | inr other ↦ valid.blocks q c (sym (get-put_other d.blocks h b q other) ∙ is)
  ];
  map_block = λ some. elim (cases_eq d.map_block h) [
    | inl e ↦ ap is_some (get-put_same d.blocks h b d.map_block e)
    | inr other ↦ ap is_some (get-put_other d.blocks h b d.map_block other) ∙ valid.map_block some
  ];
}

-- without a block that isn't the map block
pub without_block-valid : (d : Document) (h : ℕ) → IsValid d → d.map_block ≢ h → IsValid (without_block d h)
without_block-valid d h valid other = record {
  blocks = λ q c is. valid.blocks q c (get-taken d.blocks h q c is);
  map_block = λ some. ap is_some (get-taken_other d.blocks h d.map_block other) ∙ valid.map_block some;
}

-- The attributes of any block of a valid document are words, and only a heap has a type.

pub attributes-fit : (d : Document) (h : ℕ) → IsValid d → FitAttributes (attributes_of d h)
attributes-fit d h valid = by_block (get d.blocks h) (λ b is. (valid.blocks h b is).attributes)
  where
    by_block : (o : Option Block) → ((b : Block) → o ≡ Some b → FitAttributes b.attributes) → FitAttributes (option_map_or (λ b. b.attributes) o no_attributes)
    by_block None fit = record { user_id = omega arith; heap_type = omega arith }
    by_block (Some b) fit = fit b refl

pub attributes-typed : (d : Document) (h : ℕ) → IsValid d → IsTyped (is_heap d h) (attributes_of d h)
attributes-typed d h valid = by_block (get d.blocks h) (λ b is. (valid.blocks h b is).typed)
  where
    by_block : (o : Option Block) → ((b : Block) → o ≡ Some b → IsTyped (is_heap_body b.body) b.attributes)
        → IsTyped (option_map_or (λ b. is_heap_body b.body) o false) (option_map_or (λ b. b.attributes) o no_attributes)
    by_block None typed = λ _. refl
    by_block (Some b) typed = typed b refl

pub raw-typed : (d : Document) (h : ℕ) → IsValid d → is_raw d h ≡ true → (attributes_of d h).heap_type ≡ 0
raw-typed d h valid raw = attributes-typed d h valid (by_block (get d.blocks h) raw)
  where
    by_block : (o : Option Block) → option_map_or (λ b. not (is_heap_body b.body)) o false ≡ true → option_map_or (λ b. is_heap_body b.body) o false ≡ false
    by_block None raw = refl
    by_block (Some b) raw = not-true (is_heap_body b.body) raw

-- with a body of a live block, of a kind that can have its type
pub with_body-valid : (d : Document) (h : ℕ) (body : Body) → IsValid d → is_live d h ≡ true → IsTyped (is_heap_body body) (attributes_of d h) → is_valid_body body ≡ true → IsValid (with_body d h body)
with_body-valid d h body valid live typed good =
    let there = block_there (get d.blocks h) live in
    let old = valid.blocks h there.0 there.1 in
    with_block-valid d h (record { attributes = attributes_of d h; body = body }) valid (record {
      handle = old.handle;
      attributes = subst (λ (o : Option Block). FitAttributes (option_map_or (λ b. b.attributes) o no_attributes)) (sym there.1) old.attributes;
      body = good;
      typed = typed;
    })

-- with attributes of a block, if it is live, which it can have
pub with_attributes-valid : (d : Document) (h : ℕ) (a : Attributes) → IsValid d → FitAttributes a → IsTyped (is_heap d h) a → IsValid (with_attributes d h a)
with_attributes-valid d h a valid fit typed = by_block (get d.blocks h) refl typed
  where
    by_block : (o : Option Block) → get d.blocks h ≡ o → IsTyped (option_map_or (λ b. is_heap_body b.body) o false) a → IsValid (option_map_or (λ b. with_block d h (record b { attributes = a })) o d)
    by_block None is typed = valid
    by_block (Some b) is typed =
        let old = valid.blocks h b is in
        with_block-valid d h (record b { attributes = a }) valid (record { handle = old.handle; attributes = fit; body = old.body; typed = typed })

-- with another map block
pub with_map-valid : (d : Document) (h : ℕ) → IsValid d → (not (h == 0) && not (is_live d h)) ≡ false → IsValid (record d { map_block = h })
with_map-valid d h valid found = record {
  blocks = λ q c is. valid.blocks q c is;
  map_block = λ some. by_parts (h == 0) (is_live d h) (λ e. some (eqb-true h 0 e)) found;
}
  where
    by_parts : (none live : Bool) → (none ≡ true → ⊥) → (not none && not live) ≡ false → live ≡ true
    by_parts true live some e = absurd (some refl)
    by_parts false true some e = refl
    by_parts false false some e = absurd (cc e)

-- the first number of a row that passes a test is of that row
find-within : (p : ℕ → Bool) (n a h : ℕ) → find p (range_with_len a n) ≡ Some h → (a ≤ h) × (h < a + n)
find-within p zero a h is = absurd (cc is)
find-within p (suc n) a h is = elim (cases_Bool (p a)) [
  | inl e ↦ let found : Some a ≡ Some h = sym (cond-true _ _ _ e) ∙ is in let at : a ≡ h = cc found in (omega arith, omega arith)
  | inr e ↦ let rest = find-within p n (a + 1) h (sym (cond-false _ _ _ e) ∙ is) in (omega (arith, rest.0), omega (arith, rest.1))
]

next_handle-valid : (d : Document) (h : ℕ) → next_handle d ≡ Some h → is_vm_handle h ≡ true
unfolding next_handle vm_handles
next_handle-valid d h is =
    let within = find-within (λ q. not (contains_key d.blocks q)) most_blocks 1 h is in
    and_from _ _ (le-leb 1 h within.0) (le-leb h most_blocks (omega (arith, within.1)))

-- with a block that is made
pub makes_block-valid : (d : Document) (b : Block) → IsValid d → is_none (next_handle d) ≡ false → FitAttributes b.attributes → IsTyped (is_heap_body b.body) b.attributes
    → is_valid_body b.body ≡ true → IsValid (makes_block d b).0
makes_block-valid d b valid free low typed good =
    with_block-valid d (unwrap_or (next_handle d) 0) b valid (record { handle = by_next (next_handle d) (next_handle-valid d) free; attributes = low; body = good; typed = typed })
  where
    by_next : (o : Option ℕ) → ((h : ℕ) → o ≡ Some h → is_vm_handle h ≡ true) → is_none o ≡ false → is_vm_handle (unwrap_or o 0) ≡ true
    by_next None handle free = absurd (cc free)
    by_next (Some h) handle free = handle h refl

-- The chunks of a heap of a valid document.

body-heap : (body : Body) → is_valid_body body ≡ true → is_heap_body body ≡ true → is_heap_map (chunks_of_body body) ≡ true
body-heap (Raw bytes) valid heap = absurd (cc heap)
body-heap (Heap m) valid heap = valid

pub chunks-heap : (d : Document) (h : ℕ) → IsValid d → is_heap d h ≡ true → is_heap_map (chunks_of d h) ≡ true
chunks-heap d h valid heap = by_block (get d.blocks h) (λ b is. (valid.blocks h b is).body) heap
  where
    by_block : (o : Option Block) → ((b : Block) → o ≡ Some b → is_valid_body b.body ≡ true) → option_map_or (λ b. is_heap_body b.body) o false ≡ true
        → is_heap_map (option_map_or (λ b. chunks_of_body b.body) o empty) ≡ true
    by_block None valid heap = absurd (cc heap)
    by_block (Some b) valid heap = body-heap b.body (valid b refl) heap

-- the bytes of a raw block are not too many
pub raw_bytes-few : (d : Document) (h : ℕ) → IsValid d → length (raw_bytes_of d h) ≤ capacity
raw_bytes-few d h valid = by_block (get d.blocks h) (λ b is. (valid.blocks h b is).body)
  where
    by_body : (body : Body) → is_valid_body body ≡ true → length (bytes_of_body body) ≤ capacity
    by_body (Raw bytes) valid = leb-true (length bytes) capacity valid
    by_body (Heap m) valid = omega arith

    by_block : (o : Option Block) → ((b : Block) → o ≡ Some b → is_valid_body b.body ≡ true) → length (option_map_or (λ b. bytes_of_body b.body) o []) ≤ capacity
    by_block None valid = omega arith
    by_block (Some b) valid = by_body b.body (valid b refl)

-- Bytes that are written over or taken out.

length-splice : (xs : List ℕ) (at end : ℕ) (ys : List ℕ) → at ≤ end → end ≤ length xs → length (splice xs at end ys) ≡ at + length ys + (length xs - end)
length-splice xs at end ys order within =
    let front = length-take-le at xs (omega arith) in
    let back = length-drop end xs in
    let inner = length-append ys (drop end xs) in
    let whole = length-append (take at xs) (ys ++ drop end xs) in
    omega (arith, front, back, inner, whole)

pub length-written : (bytes : List ℕ) (at : ℕ) (new : List ℕ) → at + length new ≤ length bytes → length (written bytes at new) ≡ length bytes
length-written bytes at new within = let is = length-splice bytes at (at + length new) new (omega arith) within in omega (arith, is)

pub length-deleted : (bytes : List ℕ) (at n : ℕ) → at + n ≤ length bytes → length (deleted bytes at n) ≤ length bytes
length-deleted bytes at n within = let is = length-splice bytes at (at + n) [] (omega arith) within in omega (arith, is)

-- Edits of a chunk, which nothing refuses.

-- behind any conditions, lack of room is the last
pub full_last : (own : Conditions) (room : Bool) → applies (own ++ (Full, not room) ∷ []) Full ≡ false → room ≡ true
full_last own room none =
    let split = list_any-append (λ c. (number_of_fault c.0 == number_of_fault Full) && c.1) own ((Full, not room) ∷ []) in
    not_false room (or_none (or_none (sym split ∙ none)).1).0

-- on the conditions of a heap or of a chunk, with further ones
module _ (d : Document) (valid : IsValid d) (b : ℕ) where
  -- other bytes of a chunk
  with_chunk-valid : (c : ℕ) (bytes : List ℕ) → is_live d b ≡ true → is_heap d b ≡ true → is_chunk_handle c ≡ true → fits_with (chunks_of d b) c bytes ≡ true → IsValid (with_chunk d b c bytes)
  with_chunk-valid c bytes live heap handle room =
      with_body-valid d b (Heap (insert (chunks_of d b) c bytes)) valid live (λ raw. absurd (cc raw)) (heap-insert (chunks_of d b) c bytes (chunks-heap d b valid heap) handle room)

  -- a chunk that is there has a chunk handle
  pub chunk_handle : (c : ℕ) → is_heap d b ≡ true → contains_key (chunks_of d b) c ≡ true → is_chunk_handle c ≡ true
  chunk_handle c heap there = live_handle (chunks_of d b) c (chunks-heap d b valid heap) there

  -- a chunk is made
  pub new_chunk-valid : (own : Conditions) (bytes : List ℕ) → first_refusal (on_new_chunk d b own bytes) ≡ None → IsValid (makes_chunk d b bytes).0
  new_chunk-valid own bytes none =
      let cs : Conditions = on_new_chunk d b own bytes in
      let live = not_false (is_live d b) (or_none (none_applies cs none NoBlock refl)).0 in
      let heap = not_false (is_heap d b) (or_none (none_applies cs none WrongKind refl)).0 in
      let last = full_last own (fits_new (chunks_of d b) bytes) (none_applies cs none Full refl) in
      let place = placed (chunks_of d b) bytes last in
      with_chunk-valid (new_chunk_handle d b) bytes live heap place.0 place.1

  -- a chunk gets other bytes
  pub new_bytes-valid : (c : ℕ) (own : Conditions) (bytes : List ℕ) → first_refusal (on_new_bytes d b c own bytes) ≡ None → IsValid (with_chunk d b c bytes)
  new_bytes-valid c own bytes none =
      let cs : Conditions = on_new_bytes d b c own bytes in
      let live = not_false (is_live d b) (or_none (none_applies cs none NoBlock refl)).0 in
      let heap = not_false (is_heap d b) (or_none (none_applies cs none WrongKind refl)).0 in
      let there = not_false (contains_key (chunks_of d b) c) (or_none (none_applies cs none NoChunk refl)).0 in
      let room = full_last own (fits_with (chunks_of d b) c bytes) (none_applies cs none Full refl) in
      with_chunk-valid c bytes live heap (chunk_handle c heap there) room

  -- no more bytes, which fit without a look
  pub fewer_bytes-valid : (c end : ℕ) (bytes : List ℕ) → (end ≤ length (chunk_at d b c) → length bytes ≤ length (chunk_at d b c))
      → first_refusal (on_chunk d b c ++ past_end (chunk_at d b c) end) ≡ None → IsValid (with_chunk d b c bytes)
  fewer_bytes-valid c end bytes fewer none =
      let cs : Conditions = on_chunk d b c ++ past_end (chunk_at d b c) end in
      let live = not_false (is_live d b) (or_none (none_applies cs none NoBlock refl)).0 in
      let heap = not_false (is_heap d b) (or_none (none_applies cs none WrongKind refl)).0 in
      let there = not_false (contains_key (chunks_of d b) c) (or_none (none_applies cs none NoChunk refl)).0 in
      let within = ltb-false (length (chunk_at d b c)) end (or_none (none_applies cs none Range refl)).0 in
      with_chunk-valid c bytes live heap (chunk_handle c heap there)
      (fits_with-fewer (chunks_of d b) c bytes (chunks-heap d b valid heap) there (fewer within))

  -- a chunk is freed
  pub without_chunk-valid : (c : ℕ) → first_refusal (on_chunk d b c) ≡ None → IsValid (without_chunk d b c)
  without_chunk-valid c none =
      let cs : Conditions = on_chunk d b c in
      let live = not_false (is_live d b) (or_none (none_applies cs none NoBlock refl)).0 in
      let heap = not_false (is_heap d b) (or_none (none_applies cs none WrongKind refl)).0 in
      with_body-valid d b (Heap (remove (chunks_of d b) c)) valid live (λ raw. absurd (cc raw)) (heap-remove (chunks_of d b) c (chunks-heap d b valid heap))

-- a heap without chunks is a heap
pub empty-heap : is_heap_map empty ≡ true
empty-heap = ap is_heap_map (sym (table_map-nil {X = List ℕ} 2 16)) ∙ is_heap_map-trimmed [] (trimmed-nil (List ℕ)) (let is = need-table [] (trimmed-nil (List ℕ)) in omega (arith, is))

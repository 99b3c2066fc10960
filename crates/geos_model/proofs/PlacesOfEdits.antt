-- What edits of one chunk, or of one raw block, change, and how the places of them are reached.
use Rattle.std.proofs.Common.{◌≡◌, ◌≢◌, ℕ, ◌+◌, ◌-◌, ◌≤◌, true, false, not, ◌==◌, List, [], ◌∷◌, ◌++◌, length, drop, replicate, min, Option, Some, None, is_some, unwrap_or, refl, sym, ap, ap₂, ◌∙◌, arith, append-nil}
use Rattle.std.proofs.lemmas.Bool.{ne_eqb, cond-false}
use Rattle.std.proofs.lemmas.List.{drop_all, take_min}
use Rattle.std.specs.List.{splice}
use Rattle.std.specs.Option.{option_map_or, option_and_then}
use Rattle.std.specs.FinMap.{get, insert, remove, empty, contains_key}
use Rattle.geos_model.specs.Refusal.{Conditions, first_refusal}
use Rattle.geos_model.specs.Bytes.{resized, inserted}
use Rattle.geos_model.specs.Heap.{chunk_bytes}
use Rattle.geos_model.specs.Document.{Block, Document, with_body, chunks_of, raw_bytes_of, is_heap, is_raw, chunks_of_body, bytes_of_body, is_heap_body, attributes_of}
use Rattle.geos_model.specs.Meaning.{chunk_at, with_chunk, without_chunk, on_heap, on_chunk, on_raw}
use Rattle.geos_model.specs.Places.{part_of_body, ChangesAt}
use Rattle.geos_model.specs.declared.fault.Fault.TheVariants.{NoChunk, WrongKind}
use Rattle.geos_model.specs.declared.command.Body.{Body}
use Rattle.geos_model.specs.declared.command.Body.TheVariants.{Raw, Heap}
use Rattle.geos_model.specs.declared.handle.VmHandle.{VmHandle}
use Rattle.geos_model.specs.declared.handle.ChunkHandle.{ChunkHandle}
use Rattle.geos_model.specs.declared.place.Place.TheVariants as place
use Rattle.geos_model.proofs.Refusals.{none_applies, or_none}
use Rattle.geos_model.proofs.HeapEdits.{get-put_same, get-put_other, get-taken_other}
use Rattle.geos_model.proofs.Validity.{not_false}
use Rattle.geos_model.proofs.Places.{at_chunk, at_run}
use Rattle.geos_model.proofs.Reaching.{Reaches}

-- A block that is there.

heap_body : (body : Body) → is_heap_body body ≡ true → (y : ℕ) → part_of_body body y ≡ get (chunks_of_body body) y
heap_body (Raw bytes) heap y = absurd (cc heap)
heap_body (Heap m) heap y = refl

raw_body : (body : Body) → not (is_heap_body body) ≡ true → body ≡ Raw (bytes_of_body body)
raw_body (Raw bytes) raw = refl
raw_body (Heap m) raw = absurd (cc raw)

heap_there : (d : Document) (b : ℕ) → is_heap d b ≡ true → (old : Block) × (get d.blocks b ≡ Some old) × ((y : ℕ) → part_of_body old.body y ≡ get (chunks_of d b) y)
heap_there d b heap = by_block (get d.blocks b) heap
  where
    by_block : (o : Option Block) → option_map_or (λ x. is_heap_body x.body) o false ≡ true → (old : Block) × (o ≡ Some old) × ((y : ℕ) → part_of_body old.body y ≡ get (option_map_or (λ x. chunks_of_body x.body) o empty) y)
    by_block None heap = absurd (cc heap)
    by_block (Some x) heap = (x, refl, heap_body x.body heap)

raw_there : (d : Document) (b : ℕ) → is_raw d b ≡ true → (old : Block) × (get d.blocks b ≡ Some old) × (old.body ≡ Raw (raw_bytes_of d b))
raw_there d b raw = by_block (get d.blocks b) raw
  where
    by_block : (o : Option Block) → option_map_or (λ x. not (is_heap_body x.body)) o false ≡ true → (old : Block) × (o ≡ Some old) × (old.body ≡ Raw (option_map_or (λ x. bytes_of_body x.body) o []))
    by_block None raw = absurd (cc raw)
    by_block (Some x) raw = (x, refl, raw_body x.body raw)

live_some : (o : Option (List ℕ)) → is_some o ≡ true → o ≡ Some (unwrap_or o [])
live_some None live = absurd (cc live)
live_some (Some bytes) live = refl

-- Edits of one chunk.

pub chunk_put : (d : Document) (b : VmHandle) (c : ChunkHandle) (bytes : List ℕ) → is_heap d b.0 ≡ true
    → ChangesAt (place.Chunk b c ∷ []) d (with_chunk d b.0 c.0 bytes)
chunk_put d b c bytes heap =
    let there = heap_there d b.0 heap in
    at_chunk d b there.0 there.1 (Heap (insert (chunks_of d b.0) c.0 bytes)) c
    (λ y apart. get-put_other (chunks_of d b.0) c.0 bytes y apart ∙ sym (there.2 y))

pub chunk_taken : (d : Document) (b : VmHandle) (c : ChunkHandle) → is_heap d b.0 ≡ true
    → ChangesAt (place.Chunk b c ∷ []) d (without_chunk d b.0 c.0)
chunk_taken d b c heap =
    let there = heap_there d b.0 heap in
    at_chunk d b there.0 there.1 (Heap (remove (chunks_of d b.0) c.0)) c
    (λ y apart. get-taken_other (chunks_of d b.0) c.0 y apart ∙ sym (there.2 y))

chunk_changed : (d : Document) (b : VmHandle) (c : ChunkHandle) (at n m : ℕ) (bytes new : List ℕ) → is_heap d b.0 ≡ true → contains_key (chunks_of d b.0) c.0 ≡ true
    → bytes ≡ splice (chunk_at d b.0 c.0) at (at + n) new → length new ≡ m → ChangesAt (place.Run b c at n m ∷ []) d (with_chunk d b.0 c.0 bytes)
chunk_changed d b c at n m bytes new heap live is long =
    let there = heap_there d b.0 heap in
    at_run d b there.0 there.1 (Heap (insert (chunks_of d b.0) c.0 bytes)) c at n m (chunk_at d b.0 c.0) new
    (there.2 c.0 ∙ live_some (get (chunks_of d b.0) c.0) live)
    (get-put_same (chunks_of d b.0) c.0 bytes c.0 refl ∙ ap Some is)
    long
    (λ y apart. get-put_other (chunks_of d b.0) c.0 bytes y apart ∙ sym (there.2 y))

-- a run of a chunk's bytes that lies within them
pub chunk_run : (d : Document) (b : VmHandle) (c : ChunkHandle) (at n m : ℕ) (bytes new : List ℕ) → is_heap d b.0 ≡ true → contains_key (chunks_of d b.0) c.0 ≡ true
    → at + n ≤ length (chunk_at d b.0 c.0) → bytes ≡ splice (chunk_at d b.0 c.0) at (at + n) new → length new ≡ m
    → Reaches (place.Run b c at n m ∷ []) d (with_chunk d b.0 c.0 bytes)
chunk_run d b c at n m bytes new heap live low is long =
    let there = heap_there d b.0 heap in (
      with_chunk d b.0 c.0 bytes,
      chunk_changed d b c at n m bytes new heap live is long,
      (
        chunk_at d b.0 c.0,
        ap (option_and_then (λ x. part_of_body x.body c.0)) there.1 ∙ there.2 c.0 ∙ live_some (get (chunks_of d b.0) c.0) live,
        low,
      ),
      refl,
    )

-- the bytes that were put in a chunk stand there
pub chunk_holds : (d : Document) (b c : ℕ) (bytes : List ℕ) → chunk_at (with_chunk d b c bytes) b c ≡ bytes
chunk_holds d b c bytes =
    let block : Block = record { attributes = attributes_of d b; body = Heap (insert (chunks_of d b) c bytes) } in
    ap (λ (o : Option Block). chunk_bytes (option_map_or (λ x. chunks_of_body x.body) o empty) c) (get-put_same d.blocks b block b refl)
    ∙ ap (λ (o : Option (List ℕ)). unwrap_or o []) (get-put_same (chunks_of d b) c bytes c refl)

-- what an accepted edit of a heap finds, and one of a chunk

pub on_a_heap : (d : Document) (b : ℕ) (own : Conditions) → first_refusal (on_heap d b ++ own) ≡ None → is_heap d b ≡ true
on_a_heap d b own none = not_false (is_heap d b) (or_none (none_applies (on_heap d b ++ own) none WrongKind refl)).0

pub on_a_chunk : (d : Document) (b c : ℕ) (own : Conditions) → first_refusal (on_chunk d b c ++ own) ≡ None → (is_heap d b ≡ true) × (contains_key (chunks_of d b) c ≡ true)
on_a_chunk d b c own none = (
  not_false (is_heap d b) (or_none (none_applies (on_chunk d b c ++ own) none WrongKind refl)).0,
  not_false (contains_key (chunks_of d b) c) (or_none (none_applies (on_chunk d b c ++ own) none NoChunk refl)).0,
)

-- Edits of a raw block.

raw_part : (bytes other_bytes : List ℕ) (y : ℕ) → y ≢ 0 → part_of_body (Raw bytes) y ≡ part_of_body (Raw other_bytes) y
raw_part bytes other_bytes y apart = cond-false (y == 0) _ _ (ne_eqb y 0 apart) ∙ sym (cond-false (y == 0) _ _ (ne_eqb y 0 apart))

-- a run of a raw block's bytes that lies within them
pub body_run : (d : Document) (b : VmHandle) (at n m : ℕ) (bytes new : List ℕ) → is_raw d b.0 ≡ true → at + n ≤ length (raw_bytes_of d b.0)
    → bytes ≡ splice (raw_bytes_of d b.0) at (at + n) new → length new ≡ m
    → Reaches (place.Run b (record { 0 = 0 }) at n m ∷ []) d (with_body d b.0 (Raw bytes))
body_run d b at n m bytes new raw low is long =
    let there = raw_there d b.0 raw in (
      with_body d b.0 (Raw bytes),
      at_run d b there.0 there.1 (Raw bytes) (record { 0 = 0 }) at n m (raw_bytes_of d b.0) new
          (ap (λ (body : Body). part_of_body body 0) there.2)
          (ap Some is)
          long
          (λ y apart. raw_part bytes (raw_bytes_of d b.0) y apart ∙ sym (ap (λ (body : Body). part_of_body body y) there.2)),
      (
        raw_bytes_of d b.0,
        ap (option_and_then (λ x. part_of_body x.body 0)) there.1 ∙ ap (λ (body : Body). part_of_body body 0) there.2,
        low,
      ),
      refl,
    )

pub on_a_raw : (d : Document) (b : ℕ) (own : Conditions) → first_refusal (on_raw d b ++ own) ≡ None → is_raw d b ≡ true
on_a_raw d b own none = not_false (is_raw d b) (or_none (none_applies (on_raw d b ++ own) none WrongKind refl)).0

-- Bytes after an edit of them, as a splice.

-- others in the place of all
pub all_replaced : (was new : List ℕ) → new ≡ splice was 0 (0 + length was) new
all_replaced was new = sym (ap (λ (l : List ℕ). new ++ l) (drop_all (0 + length was) was (omega arith)) ∙ append-nil new)

pub inserted-is : (bytes : List ℕ) (at n : ℕ) → inserted bytes at n ≡ splice bytes at (at + 0) (replicate n 0)
inserted-is bytes at n = ap (λ (j : ℕ). splice bytes at j (replicate n 0)) (omega arith)

pub resized-is : (bytes : List ℕ) (n : ℕ) → resized bytes n ≡ splice bytes (min n (length bytes)) (min n (length bytes) + (length bytes - n)) (replicate (n - length bytes) 0)
resized-is bytes n =
    let zeros : List ℕ = replicate (n - length bytes) 0 in
    let gone : drop (min n (length bytes) + (length bytes - n)) bytes ≡ [] = drop_all (min n (length bytes) + (length bytes - n)) bytes (omega arith) in
    ap₂ (λ (l r : List ℕ). l ++ r) (sym (take_min n bytes)) (sym (ap (λ (l : List ℕ). zeros ++ l) gone ∙ append-nil zeros))

-- What a heap is after an edit of its chunks: with a chunk that fits it is a heap, and without one it always is.
use Rattle.std.proofs.Common.{◌≡◌, ◌≢◌, ℕ, ◌+◌, ◌*◌, ◌-◌, ◌/◌, ◌<◌, ◌≤◌, Bool, true, false, List, [], ◌∷◌, length, set, Option, Some, None, is_some, nat_cmp, unwrap_or, sum_by, refl, sym, ap, subst, ◌∙◌, inl, inr, arith}
use Rattle.std.proofs.lemmas.Bool.{le-leb, eq-eqb, cases_Bool, cases_eq, cases_lt, and_from, or_left, or_right, cond-true, cond-false, ne_eqb, true≢false}
use Rattle.std.proofs.lemmas.List.Sums.{sum_by-set}
use Rattle.std.specs.List.{list_all}
use Rattle.std.specs.Option.{option_map_or}
use Rattle.std.specs.Ordering.{eq_by_cmp}
use Rattle.std.specs.Cmp.{nat_cmp_total, unsigned_tied}
use Rattle.std.specs.FinMap.{FinMap, get, entries, keys, contains_key, contains_key-keys, same_map, nat_cmp-IsAntisymmetric, insert, remove, get-insert, get-remove}
use Rattle.geos_model.specs.Heap.{ChunkMap, is_chunk_handle, space_of, table_len, need, fits, is_heap_map, next_chunk, fits_with, fits_new}
use Rattle.geos_model.proofs.Table.{slot_space, table_map}
use Rattle.geos_model.proofs.Tables.{slot_at, get-table_map_at, slot_at_within, table_map-clear}
use Rattle.geos_model.proofs.HeapTables.{is_key, greatest, greatest_key, greatest_is, live_handle, live_slot, heap_map-table, need_le, space-table, next_chunk-free}

-- What is under a key of a finite map after another is put in or taken out.
module _ {X : Type 0} (m : FinMap nat_cmp X) (h : ℕ) where
  pub get-put_same : (x : X) (q : ℕ) → q ≡ h → get (insert m h x) q ≡ Some x
  get-put_same x q e = get-insert nat_cmp_total m h x q ∙ cond-true _ _ _ (unsigned_tied q h ∙ eq-eqb q h e)

  pub get-put_other : (x : X) (q : ℕ) → q ≢ h → get (insert m h x) q ≡ get m q
  get-put_other x q other = get-insert nat_cmp_total m h x q ∙ cond-false _ _ _ (unsigned_tied q h ∙ ne_eqb q h other)

  pub get-taken_same : (q : ℕ) → q ≡ h → get (remove m h) q ≡ None
  get-taken_same q e = get-remove nat_cmp_total m h q ∙ cond-true _ _ _ (unsigned_tied q h ∙ eq-eqb q h e)

  pub get-taken_other : (q : ℕ) → q ≢ h → get (remove m h) q ≡ get m q
  get-taken_other q other = get-remove nat_cmp_total m h q ∙ cond-false _ _ _ (unsigned_tied q h ∙ ne_eqb q h other)

  -- what is under a key that isn't the one that was taken out was there before
  pub get-taken : (q : ℕ) (x : X) → get (remove m h) q ≡ Some x → get m q ≡ Some x
  get-taken q x is = elim (cases_eq q h) [
    | inl e ↦ let no : None ≡ Some x = sym (get-taken_same q e) ∙ is in absurd (cc no)
    | inr other ↦ sym (get-taken_other q other) ∙ is
  ]

-- what holds of each key holds of all
all_from_key : (p : ℕ → Bool) (ks : List ℕ) → ((q : ℕ) → is_key ks q ≡ true → p q ≡ true) → list_all p ks ≡ true
all_from_key p [] all = refl
all_from_key p (k ∷ ks) all =
    and_from (p k) (list_all p ks)
    (all k (or_left (eq_by_cmp nat_cmp k k) (is_key ks k) (unsigned_tied k k ∙ eq-eqb k k refl)))
    (all_from_key p ks (λ q is. all q (or_right (eq_by_cmp nat_cmp q k) (is_key ks q) is)))

-- chunks under chunk handles that fit are a heap
heap_from : (m : ChunkMap) → ((q : ℕ) → is_some (get m q) ≡ true → is_chunk_handle q ≡ true) → fits m ≡ true → is_heap_map m ≡ true
unfolding is_heap_map
heap_from m handles room =
    and_from (list_all is_chunk_handle (keys m)) (fits m) (all_from_key is_chunk_handle (keys m) (λ q is. handles q (contains_key-keys m q ∙ is))) room

-- a heap with a chunk that fits is a heap
pub heap-insert : (m : ChunkMap) (h : ℕ) (bytes : List ℕ) → is_heap_map m ≡ true → is_chunk_handle h ≡ true → fits_with m h bytes ≡ true → is_heap_map (insert m h bytes) ≡ true
unfolding fits_with
heap-insert m h bytes heap handle room = heap_from (insert m h bytes) (λ q live. elim (cases_eq q h) [
  | inl e ↦ ap is_chunk_handle e ∙ handle
  | inr other ↦ live_handle m q heap (sym (ap is_some (get-put_other m h bytes q other)) ∙ live)
]) room

-- a table of fewer handles is no longer
table_len-fewer : (ks js : List ℕ) → ((q : ℕ) → is_key js q ≡ true → is_key ks q ≡ true) → table_len js ≤ table_len ks
unfolding table_len
table_len-fewer ks js fewer = elim (cases_lt 0 (greatest 0 js)) [
  | inl some ↦
      let there = greatest_is 0 js some in
      let l = greatest_key 0 ks there.0 (fewer there.0 there.1) in
      omega (arith, l, there.2)
  | inr none ↦ omega arith
]

live_before : (m : ChunkMap) (h q : ℕ) → is_some (get (remove m h) q) ≡ true → is_some (get m q) ≡ true
live_before m h q live = elim (cases_eq q h) [
  | inl e ↦ absurd (true≢false (sym live ∙ ap is_some (get-taken_same m h q e)))
  | inr other ↦ sym (ap is_some (get-taken_other m h q other)) ∙ live
]

-- the space of all chunks
abbrev space : ChunkMap → ℕ
space m = sum_by (λ c. space_of (length c.1)) (entries m)

space-clear : (t : List (Option (List ℕ))) (i h : ℕ) → h ≡ 16 + 2 * i → i < length t → space (remove (table_map 2 16 t) h) ≤ space (table_map 2 16 t)
space-clear t i h at l =
    let cleared : space (remove (table_map 2 16 t) h) ≡ sum_by slot_space (set t i None) =
    ap (λ (q : ℕ). space (remove (table_map 2 16 t) q)) at ∙ ap space (sym (table_map-clear (omega arith) 16 t i l)) ∙ space-table (set t i None) in
    let before = space-table t in
    let sums = sum_by-set slot_space t i None None l in
    omega (arith, cleared, before, sums)

space-remove : (m : ChunkMap) (h : ℕ) → is_heap_map m ≡ true → space (remove m h) ≤ space m
space-remove m h heap = elim (cases_Bool (contains_key m h)) [
  | inl live ↦
      let shown = heap_map-table m heap in
      let i : ℕ = (h - 16) / 2 in
      let at : h ≡ 16 + 2 * i = live_slot m h heap live in
      let slot : get (table_map 2 16 shown.0) h ≡ slot_at shown.0 i = get-table_map_at (omega arith) 16 shown.0 i h at in
      let full : is_some (slot_at shown.0 i) ≡ true = sym (ap is_some slot) ∙ ap (λ (x : ChunkMap). is_some (get x h)) (sym shown.2) ∙ live in
      subst (λ (x : ChunkMap). space (remove x h) ≤ space x) (sym shown.2) (space-clear shown.0 i h at (slot_at_within shown.0 i full))
  | inr absent ↦
      let same : remove m h ≡ m = same_map nat_cmp_total nat_cmp-IsAntisymmetric (remove m h) m (λ q. elim (cases_eq q h) [
        | inl e ↦ get-taken_same m h q e ∙ sym (none_at (get m h) absent) ∙ ap (get m) (sym e)
        | inr other ↦ get-taken_other m h q other
      ]) in
      omega (arith, ap space same)
]
  where
    none_at : (o : Option (List ℕ)) → is_some o ≡ false → o ≡ None
    none_at None e = refl
    none_at (Some x) e = absurd (true≢false e)

-- without a chunk a heap needs no more
need-remove : (m : ChunkMap) (h : ℕ) → is_heap_map m ≡ true → need (remove m h) ≤ need m
unfolding need
need-remove m h heap =
    let fewer = table_len-fewer (keys m) (keys (remove m h)) (λ q is. sym (contains_key-keys m q) ∙ live_before m h q (contains_key-keys (remove m h) q ∙ is)) in
    let less = space-remove m h heap in
    omega (arith, fewer, less)

-- a heap without a chunk is a heap
pub heap-remove : (m : ChunkMap) (h : ℕ) → is_heap_map m ≡ true → is_heap_map (remove m h) ≡ true
unfolding fits
heap-remove m h heap =
    let less = need-remove m h heap in
    let room = need_le m heap in
    heap_from (remove m h) (λ q live. live_handle m q heap (live_before m h q live)) (le-leb (need (remove m h)) 65520 (omega (arith, less, room)))

-- a new chunk that has a place gets a chunk handle, and fits there
pub placed : (m : ChunkMap) (bytes : List ℕ) → fits_new m bytes ≡ true
    → (is_chunk_handle (unwrap_or (next_chunk m) 0) ≡ true) × (fits_with m (unwrap_or (next_chunk m) 0) bytes ≡ true)
unfolding fits_new
placed m bytes room = by_next (next_chunk m) refl room
  where
    by_next : (next : Option ℕ) → next_chunk m ≡ next → option_map_or (λ h. fits_with m h bytes) next false ≡ true
        → (is_chunk_handle (unwrap_or next 0) ≡ true) × (fits_with m (unwrap_or next 0) bytes ≡ true)
    by_next None is room = absurd (cc room)
    by_next (Some h) is room = ((next_chunk-free m h is).0, room)

-- A table's value and the space that shows it, and where its chunks lie: apart, behind the table, and packed at the
-- end.
use Rattle.std.proofs.Common.{◌≡◌, ◌≢◌, ℕ, ◌+◌, ◌-◌, ◌<◌, ◌≤◌, List, [], ◌∷◌, length, get_or, get_or-set_other, set, take, replicate, Option, Some, None, IfSome, is_some, unwrap_or, ◌==◌, nat_lt, if◌then◌else◌, true, refl, sym, ap, subst, ◌∙◌, inl, inr, arith, ◌⊎◌, false, ◌*◌, ◌/◌, ◌++◌, slice_range, zero, suc, Bool}
use Rattle.std.proofs.lemmas.Bool.{cases_lt, cases_eq, cond-false, ne_eqb, lt-ltb, le-ltb}
use Rattle.std.proofs.lemmas.List.{length-set, length-replicate, get_or-take, get_or_past}
use Rattle.std.specs.Prelude.{Bool, false}
use Rattle.std.proofs.lemmas.List.FromFn.{fill_by_all, length-map-range_with_len, get_or-map-range_with_len}
use Rattle.std.proofs.lemmas.List.Sums.{sum_by-set}
use Rattle.std.proofs.lemmas.Grind.{get_or-set_at}
use Rattle.std.specs.Option.{option_map}
use Rattle.geos_model.specs.Heap.{space_of, chunk_bytes}
use Rattle.geos_model.proofs.Table.{slot_space, IsTrimmed, table_map}
use Rattle.geos_model.proofs.Tables.{table_map-cut, get-table_map_at, get-table_map_off, slot_at_within, get-table_map_nil, get-table_map_cons}
use Rattle.geos_model.proofs.HeapTables.{space-same, space-table}
use Rattle.lmem_heap.specs.declared.space.Space.{Space}
use Rattle.lmem_heap.specs.Pieces.{word_in, entry, piece_space, space, spaces, Piece, Used}
use Rattle.lmem_heap.specs.Tiled.{chunk_under, chunks_in, offset_under, table_end}
use Rattle.lmem_heap.specs.Space.{IsWellFormedBut, IsWellFormed}
use Rattle.heap_images.specs.Slots.{space_in, need_in}
use Rattle.lmem_heap.specs.Stored.{Stored, store_of, offsets_in, IsStoredHeap, IsChunkApart, AreStoredDisjoint, AreBehind, StoredHoldsChunks, AreLast}
use Rattle.lmem_heap.proofs.TiledLemmas.{under_dead, chunk_in, length-chunks_in, under_piece}
use Rattle.lmem_heap.proofs.EntryLemmas.{live_piece, size_live, size_dead, space_dead, total_small}
use Rattle.lmem_heap.proofs.ChunkBytesLemmas.{offset_some, offset_none}
use Rattle.std.specs.FinMap.{get, contains_key}
use Rattle.lmem_heap.specs.Placed.{Placed, placed_in, space_taken, AreAllLast}
use Rattle.lmem_heap.proofs.ResizingLemmas.{places_above}
use Rattle.lmem_heap.specs.Placed as placed

-- ---- a table's value, and the space that shows it

-- ---- the list of offsets

pub length-offsets_in : (xs : List ℕ) (t : ℕ) → length (offsets_in xs t) ≡ t
unfolding offsets_in
length-offsets_in xs t = length-map-range_with_len (λ i. offset_under (entry xs i)) 0 t

pub offset_in : (xs : List ℕ) (t i : ℕ) → i < t → get_or (offsets_in xs t) i None ≡ offset_under (entry xs i)
unfolding offsets_in
offset_in xs t i l = get_or-map-range_with_len (λ k. offset_under (entry xs k)) 0 t i i None l (omega arith)

pub offsets_by : (xs : List ℕ) (t : ℕ) (os : List (Option ℕ)) → length os ≡ t → ((k : ℕ) → k < t → get_or os k None ≡ offset_under (entry xs k)) → offsets_in xs t ≡ os
unfolding offsets_in
offsets_by xs t os count each = sym (fill_by_all (λ i. offset_under (entry xs i)) os t None count each)

-- where the entries are the same, the offsets are
pub offsets_same : (xs ys : List ℕ) (t u : ℕ) → u ≡ t → ((j : ℕ) → j < t → entry ys j ≡ entry xs j) → offsets_in ys u ≡ offsets_in xs t
offsets_same xs ys t u count same =
    offsets_by ys u (offsets_in xs t) (length-offsets_in xs t ∙ sym count) (λ k l. offset_in xs t k (omega arith) ∙ ap offset_under (sym (same k (omega arith))))

-- where one slot loses its piece, its own goes
pub offsets_vacated : (xs ys : List ℕ) (t u i : ℕ) → u ≡ t → i < t → ((j : ℕ) → j < t → j ≢ i → entry ys j ≡ entry xs j) → entry ys i ≤ 1 → offsets_in ys u ≡ set (offsets_in xs t) i None
offsets_vacated xs ys t u i count l same dead =
    let os = offsets_in xs t in let long = length-offsets_in xs t in
    offsets_by ys u (set os i None) (length-set os i None ∙ (long ∙ sym count)) (λ k below. elim (cases_eq k i) [
      | inl here ↦ get_or-set_at os i k None None here (omega arith) ∙ (offset_none (entry ys i) dead ∙ ap (λ (j : ℕ). offset_under (entry ys j)) (sym here))
      | inr other ↦ rw get_or-set_other (offset_in xs t k (omega arith) ∙ ap offset_under (sym (same k (omega arith) other)))
    ])

-- ---- the value

pub record IsShown (s : Space) (m : Stored) : Type 0 where
  pub chunks : chunks_in s.region s.slots ≡ m.chunks
  pub offsets : offsets_in s.region s.slots ≡ m.offsets
  pub count : s.slots ≡ length m.chunks
  pub count_offsets : s.slots ≡ length m.offsets

pub shown : (s : Space) (m : Stored) → store_of s.region s.slots ≡ m → IsShown s m
shown s m is = record {
  chunks = ap (λ (x : Stored). x.chunks) is;
  offsets = ap (λ (x : Stored). x.offsets) is;
  count = sym (length-chunks_in s.region s.slots) ∙ ap (λ (x : Stored). length x.chunks) is;
  count_offsets = sym (length-offsets_in s.region s.slots) ∙ ap (λ (x : Stored). length x.offsets) is;
}

-- what a table's number of slots tells
module _ (s : Space) (m : Stored) (i : ℕ) (stored : IsStoredHeap s) (is : store_of s.region s.slots ≡ m) (l : i < length m.chunks) where
  pub in_table : i < s.slots
  in_table = omega (arith, (shown s m is).count)

  pub in_chunks : i < length (chunks_in s.region s.slots)
  in_chunks = omega (arith, (shown s m is).count, length-chunks_in s.region s.slots)

  pub chunk_shown : get_or m.chunks i None ≡ chunk_under s.region (entry s.region i)
  chunk_shown = ap (λ (cs : List (Option (List ℕ))). get_or cs i None) (sym (shown s m is).chunks) ∙ chunk_in s.region s.slots i in_table

pub room_shown : (s : Space) (m : Stored) → IsStoredHeap s → store_of s.region s.slots ≡ m → need_in m.chunks ≤ 65520
room_shown s m stored is =
    let v = shown s m is in let k = stored.well_formed in let table = k.held.tiled.table in
    omega (arith, total_small s k.pieces k.free k.held, stored.count, ap space_in v.chunks, v.count)

pub space_shown : (s : Space) (m : Stored) → IsStoredHeap s → store_of s.region s.slots ≡ m → s.total ≡ space_in m.chunks
space_shown s m stored is = stored.count ∙ ap space_in (shown s m is).chunks

-- ---- an empty table

nil_of : {X : Type 0} → (t : List X) → length t ≡ 0 → t ≡ []
nil_of [] e = refl
nil_of (o ∷ t) e = absurd (omega arith)

pub no_chunks : (s : Space) → s.slots ≡ 0 → chunks_in s.region s.slots ≡ []
no_chunks s none = nil_of (chunks_in s.region s.slots) (length-chunks_in s.region s.slots ∙ none)

pub no_offsets : (s : Space) → s.slots ≡ 0 → offsets_in s.region s.slots ≡ []
no_offsets s none = nil_of (offsets_in s.region s.slots) (length-offsets_in s.region s.slots ∙ none)

pub stored_new : (s : Space) → IsWellFormed s → s.slots ≡ 0 → s.total ≡ 0 → IsStoredHeap s
stored_new s well_formed none empty = record { well_formed = well_formed; count = empty ∙ ap space_in (sym (no_chunks s none)) }

-- ---- sizes

no_bytes : (b : Bool) → length {A = ℕ} (unwrap_or (if b then None else Some []) []) ≡ 0
no_bytes true = refl
no_bytes false = refl

-- a chunk with bytes has a piece
pub live_of : {detached : ℕ} (s : Space) (i : ℕ) → IsWellFormedBut s detached → i < s.slots → 0 < length (unwrap_or (chunk_under s.region (entry s.region i)) []) → 1 < entry s.region i
live_of s i well_formed l some = elim (cases_lt 1 (entry s.region i)) [
  | inl live ↦ live
  | inr dead ↦ absurd (omega (arith, some, ap (λ (o : Option (List ℕ)). length (unwrap_or o [])) (under_dead s.region (entry s.region i) dead), none (entry s.region i == 0)))
] where
  none : (b : Bool) → length {A = ℕ} (unwrap_or (if b then None else Some []) []) ≡ 0
  none true = refl
  none false = refl

some_is : (o : Option (List ℕ)) (n : ℕ) → option_map (length {A = ℕ}) o ≡ Some n → length (unwrap_or o []) ≡ n
some_is None n e = cc
some_is (Some b) n e = let is : Some (length b) ≡ Some n = e in cc

-- and its size stands there
pub size_is : {detached : ℕ} (s : Space) (i : ℕ) → IsWellFormedBut s detached → i < s.slots → 1 < entry s.region i → length (unwrap_or (chunk_under s.region (entry s.region i)) []) ≡ word_in s.region (entry s.region i)
size_is s i well_formed l live = some_is (chunk_under s.region (entry s.region i)) (word_in s.region (entry s.region i)) (size_live s well_formed i l live)

pub size_small : (s : Space) (i : ℕ) (size : Option ℕ) → IsWellFormed s → i < s.slots → size ≡ option_map (length {A = ℕ}) (get_or (chunks_in s.region s.slots) i None) → IfSome size (λ n. n < 65536)
size_small s i size well_formed l is = elim (cases_lt 1 (entry s.region i)) [
  | inl live ↦
      let n = word_in s.region (entry s.region i) in let f = live_piece s well_formed i (entry s.region i) n l live refl refl in
      subst (λ (o : Option ℕ). IfSome o (λ m. m < 65536)) (sym (size_is_some live)) (omega (arith, f.ends))
  | inr dead ↦ subst (λ (o : Option ℕ). IfSome o (λ m. m < 65536)) (sym (is ∙ (ap (option_map (length {A = ℕ})) (chunk_in s.region s.slots i l) ∙ size_dead s.region (entry s.region i) dead))) (none (entry s.region i == 0))
] where
  size_is_some : 1 < entry s.region i → size ≡ Some (word_in s.region (entry s.region i))
  size_is_some live = is ∙ (ap (option_map (length {A = ℕ})) (chunk_in s.region s.slots i l) ∙ size_live s well_formed i l live)

  none : (b : Bool) → IfSome (if b then None else Some 0) (λ m. m < 65536)
  none true = tt
  none false = omega arith

-- ---- what the chunks take

dead_space : (b : Bool) → slot_space (if b then None else Some []) ≡ 0
dead_space true = refl
dead_space false = refl

pub stored_set : (s u : Space) (i : ℕ) (o : Option (List ℕ)) → IsStoredHeap s → IsWellFormed u → i < s.slots → chunks_in u.region u.slots ≡ set (chunks_in s.region s.slots) i o
    → u.total + slot_space (chunk_under s.region (entry s.region i)) ≡ s.total + slot_space o → IsStoredHeap u
stored_set s u i o stored well_formed l chunks total =
    let cs = chunks_in s.region s.slots in
    record { well_formed = well_formed; count = omega (arith, ap space_in chunks, sum_by-set slot_space cs i o None (omega (arith, length-chunks_in s.region s.slots)), ap slot_space (chunk_in s.region s.slots i l), stored.count) }

pub stored_vacated : (s u : Space) (i e : ℕ) → IsStoredHeap s → IsWellFormed u → i < s.slots → chunks_in u.region u.slots ≡ set (chunks_in s.region s.slots) i (if e == 0 then None else Some [])
    → u.total + slot_space (chunk_under s.region (entry s.region i)) ≡ s.total → IsStoredHeap u
stored_vacated s u i e stored well_formed l chunks total = stored_set s u i (if e == 0 then None else Some []) stored well_formed l chunks (omega (arith, dead_space (e == 0)))

-- a chunk with no bytes takes nothing
pub empty_dead : (s : Space) (i : ℕ) → IsWellFormed s → i < s.slots → length (unwrap_or (chunk_under s.region (entry s.region i)) []) ≡ 0 → entry s.region i ≤ 1
empty_dead s i well_formed l none = elim (cases_lt 1 (entry s.region i)) [
  | inl live ↦
      let n = word_in s.region (entry s.region i) in let f = live_piece s well_formed i (entry s.region i) n l live refl refl in
      absurd (omega (arith, f.some, size_is s i well_formed l live))
  | inr dead ↦ dead
]

-- ---- the table is cut

-- behind the trimmed table there is nothing
module _ (s u : Space) (same : u.region ≡ s.region) (less : u.slots ≤ s.slots) (none : (j : ℕ) → u.slots ≤ j → j < s.slots → entry s.region j ≡ 0) where
  pub cut_gaps : (j : ℕ) → u.slots ≤ j → get_or (chunks_in s.region s.slots) j None ≡ None
  cut_gaps j above = elim (cases_lt j s.slots) [
    | inl l ↦ chunk_in s.region s.slots j l ∙ (ap (chunk_under s.region) (none j above l) ∙ under_dead s.region 0 (omega arith))
    | inr past ↦ get_or_past (chunks_in s.region s.slots) j None (omega (arith, length-chunks_in s.region s.slots))
  ]

  pub cut_offsets : (j : ℕ) → get_or (offsets_in u.region u.slots) j None ≡ get_or (offsets_in s.region s.slots) j None
  cut_offsets j = elim (cases_lt j u.slots) [
    | inl well_formed ↦ offset_in u.region u.slots j well_formed ∙ (ap (λ (xs : List ℕ). offset_under (entry xs j)) same ∙ sym (offset_in s.region s.slots j (omega arith)))
    | inr cut ↦ get_or_past (offsets_in u.region u.slots) j None (omega (arith, length-offsets_in u.region u.slots)) ∙ sym (elim (cases_lt j s.slots) [
      | inl inside ↦ offset_in s.region s.slots j inside ∙ sym (offset_none (entry s.region j) (omega (arith, none j cut inside)))
      | inr past ↦ get_or_past (offsets_in s.region s.slots) j None (omega (arith, length-offsets_in s.region s.slots))
    ])
  ]

  pub stored_cut : IsStoredHeap s → IsWellFormed u → u.total ≡ s.total → chunks_in u.region u.slots ≡ take u.slots (chunks_in s.region s.slots) → IsStoredHeap u
  stored_cut stored well_formed total chunks =
      let cs = chunks_in s.region s.slots in
      record { well_formed = well_formed; count = total ∙ (stored.count ∙ (sym (space-same (take u.slots cs) cs (table_map-cut 2 16 cs u.slots cut_gaps)) ∙ ap space_in (sym chunks))) }

-- a slot whose entry isn't 0 has a chunk
pub live_some : (s : Space) (i : ℕ) → IsWellFormed s → i < s.slots → 0 < entry s.region i → is_some (get_or (chunks_in s.region s.slots) i None) ≡ true
live_some s i well_formed l some = ap is_some (chunk_in s.region s.slots i l) ∙ elim (cases_lt 1 (entry s.region i)) [
  | inl live ↦ some_of (chunk_under s.region (entry s.region i)) (word_in s.region (entry s.region i)) (size_live s well_formed i l live)
  | inr dead ↦ ap is_some (under_dead s.region (entry s.region i) dead ∙ cond-false (entry s.region i == 0) None (Some []) (ne_eqb (entry s.region i) 0 (omega arith)))
] where
  some_of : (o : Option (List ℕ)) (n : ℕ) → option_map (length {A = ℕ}) o ≡ Some n → is_some o ≡ true
  some_of None n e = cc
  some_of (Some b) n e = refl

pub cut_trimmed : (s u : Space) (m : Stored) → IsShown u m → IsWellFormed s → u.slots ≤ s.slots → chunks_in u.region u.slots ≡ take u.slots (chunks_in s.region s.slots) → (0 < u.slots → 0 < entry s.region (u.slots - 1)) → IsTrimmed m.chunks
cut_trimmed s u m v well_formed less chunks last some =
    let cs = chunks_in s.region s.slots in let more : 0 < u.slots = omega (arith, v.count) in let i = u.slots - 1 in
    ap (λ (k : ℕ). is_some (get_or m.chunks (k - 1) None)) (sym v.count)
    ∙ (ap (λ (c : List (Option (List ℕ))). is_some (get_or c i None)) (sym v.chunks ∙ chunks)
    ∙ (ap is_some (get_or-take u.slots cs i None (omega arith)) ∙ live_some s i well_formed (omega arith) (last more)))

-- ---- a chunk is placed, or written

module _ (s : Space) (m : Stored) (i : ℕ) (stored : IsStoredHeap s) (is : store_of s.region s.slots ≡ m) (l : i < length m.chunks) where
  the_slot : i < s.slots
  the_slot = in_table s m i stored is l

  bytes_are : length (unwrap_or (chunk_under s.region (entry s.region i)) []) ≡ length (unwrap_or (get_or m.chunks i None) [])
  bytes_are = ap (λ (o : Option (List ℕ)). length (unwrap_or o [])) (sym (chunk_shown s m i stored is l))

  pub empty_entry : length (unwrap_or (get_or m.chunks i None) []) ≡ 0 → entry s.region i ≤ 1
  empty_entry none = empty_dead s i stored.well_formed the_slot (bytes_are ∙ none)

  pub live_entry : 0 < length (unwrap_or (get_or m.chunks i None) []) → 1 < entry s.region i
  live_entry some = live_of s i stored.well_formed the_slot (omega (arith, bytes_are))

  -- what the table needs with another chunk in the slot
  pub need_shown : (b : List ℕ) → need_in (set m.chunks i (Some b)) + slot_space (chunk_under s.region (entry s.region i)) ≡ table_end s.slots + s.total + space_of (length b)
  need_shown b =
      omega (arith, sum_by-set slot_space m.chunks i (Some b) None l, ap slot_space (chunk_shown s m i stored is l), length-set m.chunks i (Some b), space_shown s m stored is, (shown s m is).count)

  pub place_fits : (n : ℕ) → length (unwrap_or (get_or m.chunks i None) []) ≡ 0 → need_in (set m.chunks i (Some (replicate n 0))) ≤ 65520 → table_end s.slots + s.total + space_of n ≤ 65520
  place_fits n none room =
      omega (arith, need_shown (replicate n 0), space_dead s.region (entry s.region i) (empty_entry none), ap space_of (length-replicate {A = ℕ} n 0))

slot_space-live : (o : Option (List ℕ)) (w : List ℕ) → is_some o ≡ true → length w ≡ length (unwrap_or o []) → slot_space (Some w) ≡ slot_space o
slot_space-live None w live same = cc
slot_space-live (Some b) w live same = ap space_of same

-- a chunk has other bytes, as many
pub stored_written : (s u : Space) (i : ℕ) (w : List ℕ) → IsStoredHeap s → IsWellFormed u → i < s.slots → u.total ≡ s.total → chunks_in u.region u.slots ≡ set (chunks_in s.region s.slots) i (Some w)
    → is_some (get_or (chunks_in s.region s.slots) i None) ≡ true → length w ≡ length (unwrap_or (get_or (chunks_in s.region s.slots) i None) []) → IsStoredHeap u
stored_written s u i w stored well_formed l total chunks live same =
    let here = chunk_in s.region s.slots i l in
    stored_set s u i (Some w) stored well_formed l chunks
    (omega (arith, slot_space-live (chunk_under s.region (entry s.region i)) w (ap is_some (sym here) ∙ live) (same ∙ ap (λ (o : Option (List ℕ)). length (unwrap_or o [])) here)))

-- ---- places

module _ (s : Space) (m : Stored) (i : ℕ) (stored : IsStoredHeap s) (is : store_of s.region s.slots ≡ m) (l : i < length m.chunks) (place : Option ℕ) (at : place ≡ offset_under (entry s.region i)) where
  live_size : 1 < entry s.region i → length (unwrap_or (get_or m.chunks i None) []) ≡ word_in s.region (entry s.region i)
  live_size live = sym (bytes_are s m i stored is l) ∙ size_is s i stored.well_formed (in_table s m i stored is l) live

  dead_size : entry s.region i ≤ 1 → length (unwrap_or (get_or m.chunks i None) []) ≡ 0
  dead_size dead = sym (bytes_are s m i stored is l) ∙ (ap (λ (o : Option (List ℕ)). length (unwrap_or o [])) (under_dead s.region (entry s.region i) dead) ∙ no_bytes (entry s.region i == 0))

  pub place_is : place ≡ get_or m.offsets i None
  place_is = at ∙ (sym (offset_in s.region s.slots i (in_table s m i stored is l)) ∙ ap (λ (os : List (Option ℕ)). get_or os i None) (shown s m is).offsets)

  pub place_there : is_some place ≡ nat_lt 0 (length (unwrap_or (get_or m.chunks i None) []))
  place_there = ap is_some at ∙ elim (cases_lt 1 (entry s.region i)) [
    | inl live ↦
        let f = live_piece s stored.well_formed i (entry s.region i) (word_in s.region (entry s.region i)) (in_table s m i stored is l) live refl refl in
        ap is_some (sym (offset_some (entry s.region i) live)) ∙ sym (lt-ltb 0 (length (unwrap_or (get_or m.chunks i None) [])) (omega (arith, live_size live, f.some)))
    | inr dead ↦ ap is_some (sym (offset_none (entry s.region i) dead)) ∙ sym (le-ltb 0 (length (unwrap_or (get_or m.chunks i None) [])) (omega (arith, dead_size dead)))
  ]

  pub place_within : IfSome place (λ n. n + length (unwrap_or (get_or m.chunks i None) []) ≤ 65520)
  place_within = subst (λ (o : Option ℕ). IfSome o (λ n. n + length (unwrap_or (get_or m.chunks i None) []) ≤ 65520)) (sym at) (elim (cases_lt 1 (entry s.region i)) [
    | inl live ↦
        let f = live_piece s stored.well_formed i (entry s.region i) (word_in s.region (entry s.region i)) (in_table s m i stored is l) live refl refl in
        subst (λ (o : Option ℕ). IfSome o (λ n. n + length (unwrap_or (get_or m.chunks i None) []) ≤ 65520)) (offset_some (entry s.region i) live) (omega (arith, live_size live, f.ends))
    | inr dead ↦ subst (λ (o : Option ℕ). IfSome o (λ n. n + length (unwrap_or (get_or m.chunks i None) []) ≤ 65520)) (offset_none (entry s.region i) dead) tt
  ])

-- ---- chunks lie apart from each other and behind the table, and the region has their bytes where they lie

-- of two pieces in one list, one comes before the other
pub in_order : (c d : Piece) → c ≢ d → (a b e f : List Piece) → a ++ (c ∷ e) ≡ b ++ (d ∷ f) → (spaces a + space c ≤ spaces b) ⊎ (spaces b + space d ≤ spaces a)
in_order c d ne [] [] e f same = absurd (ne (ap (λ (l : List Piece). get_or l 0 c) same))
in_order c d ne [] (x ∷ b) e f same = let first : c ≡ x = ap (λ (l : List Piece). get_or l 0 c) same in inl (omega (arith, ap space first))
in_order c d ne (x ∷ a) [] e f same = let first : x ≡ d = ap (λ (l : List Piece). get_or l 0 d) same in inr (omega (arith, ap space first))
in_order c d ne (x ∷ a) (y ∷ b) e f same =
    let first : x ≡ y = ap (λ (l : List Piece). get_or l 0 c) same in
    elim (in_order c d ne a b e f cc) [
      | inl before ↦ inl (omega (arith, before, ap space first))
      | inr behind ↦ inr (omega (arith, behind, ap space first))
    ]

same_slot : (i j : ℕ) (b c : List ℕ) → Used i b ≡ Used j c → i ≡ j
same_slot i j b c same = cc

space_some : (n : ℕ) → 0 < n → space_of n ≡ piece_space n
space_some n some = cond-false (n == 0) _ _ (ne_eqb n 0 (λ none. omega (arith, none)))

module _ (s : Space) (stored : IsStoredHeap s) where
  -- what holds of no place, and of each piece's, holds of each slot's
  each_slot : (P : Option ℕ → Type 0) (i : ℕ) → P None → (i < s.slots → 1 < entry s.region i → P (Some (entry s.region i + 2))) → P (get_or (offsets_in s.region s.slots) i None)
  each_slot P i none some = elim (cases_lt i s.slots) [
    | inl l ↦ subst P (sym (offset_in s.region s.slots i l)) (elim (cases_lt 1 (entry s.region i)) [
      | inl live ↦ subst P (offset_some (entry s.region i) live) (some l live)
      | inr dead ↦ subst P (offset_none (entry s.region i) (omega arith)) none
    ])
    | inr past ↦ subst P (sym (get_or_past (offsets_in s.region s.slots) i None (omega (arith, length-offsets_in s.region s.slots)))) none
  ]

  abbrev chunk_of : ℕ → List ℕ
  chunk_of i = unwrap_or (get_or (chunks_in s.region s.slots) i None) []

  space_there : (i : ℕ) → i < s.slots → 1 < entry s.region i → space_of (length (chunk_of i)) ≡ piece_space (word_in s.region (entry s.region i))
  space_there i l live =
      let n = word_in s.region (entry s.region i) in let f = live_piece s stored.well_formed i (entry s.region i) n l live refl refl in
      ap (λ (o : Option (List ℕ)). space_of (length (unwrap_or o []))) (chunk_in s.region s.slots i l) ∙ (ap space_of (size_is s i stored.well_formed l live) ∙ space_some n f.some)

  two_apart : (i j : ℕ) → i ≢ j → i < s.slots → 1 < entry s.region i → j < s.slots → 1 < entry s.region j → IsChunkApart (entry s.region i + 2) (chunk_of i) (entry s.region j + 2) (chunk_of j)
  two_apart i j ne l live m other =
      let f = live_piece s stored.well_formed i (entry s.region i) (word_in s.region (entry s.region i)) l live refl refl in
      let g = live_piece s stored.well_formed j (entry s.region j) (word_in s.region (entry s.region j)) m other refl refl in
      elim (in_order (Used i f.bytes) (Used j g.bytes) (λ same. ne (same_slot i j f.bytes g.bytes same)) f.before g.before f.after g.after (f.split ∙ sym g.split)) [
        | inl before ↦ inl (omega (arith, before, f.place, g.place, space_there i l live, ap piece_space f.size))
        | inr behind ↦ inr (omega (arith, behind, f.place, g.place, space_there j m other, ap piece_space g.size))
      ]

  disjoint : AreStoredDisjoint (store_of s.region s.slots)
  disjoint i j ne =
      each_slot (λ o. IfSome o (λ a. IfSome (get_or (offsets_in s.region s.slots) j None) (λ b. IsChunkApart a (chunk_of i) b (chunk_of j)))) i tt
      (λ l live. each_slot (λ o. IfSome o (λ b. IsChunkApart (entry s.region i + 2) (chunk_of i) b (chunk_of j))) j tt (λ m other. two_apart i j ne l live m other))

  behind : AreBehind (store_of s.region s.slots)
  behind i =
      each_slot (λ o. IfSome o (λ at. 18 + 2 * length (chunks_in s.region s.slots) ≤ at)) i tt
      (λ l live. let f = live_piece s stored.well_formed i (entry s.region i) (word_in s.region (entry s.region i)) l live refl refl in omega (arith, f.table, length-chunks_in s.region s.slots))

  holding : StoredHoldsChunks s.region (store_of s.region s.slots)
  holding i =
      each_slot (λ o. IfSome o (λ at. slice_range s.region at (at + length (chunk_of i)) ≡ chunk_of i)) i tt
      (λ l live.
      let e = entry s.region i in let here = chunk_in s.region s.slots i l in
      ap (λ (n : ℕ). slice_range s.region (e + 2) (e + 2 + n)) (ap (λ (o : Option (List ℕ)). length (unwrap_or o [])) here ∙ size_is s i stored.well_formed l live)
      ∙ sym (ap (λ (o : Option (List ℕ)). unwrap_or o []) (here ∙ under_piece s.region e live)))

pub shown_disjoint : (s : Space) (m : Stored) → IsStoredHeap s → store_of s.region s.slots ≡ m → AreStoredDisjoint m
shown_disjoint s m stored is = subst AreStoredDisjoint is (disjoint s stored)

pub shown_behind : (s : Space) (m : Stored) → IsStoredHeap s → store_of s.region s.slots ≡ m → AreBehind m
shown_behind s m stored is = subst AreBehind is (behind s stored)

pub shown_holding : (s : Space) (m : Stored) → IsStoredHeap s → store_of s.region s.slots ≡ m → StoredHoldsChunks s.region m
shown_holding s m stored is = subst (StoredHoldsChunks s.region) is (holding s stored)

-- ---- under handles

slot_or_none : (h n : ℕ) → ((i : ℕ) × (h ≡ 16 + 2 * i)) ⊎ ((i : ℕ) → i < n → h ≡ 16 + 2 * i → ⊥)
slot_or_none h n = elim (cases_eq h (16 + 2 * ((h - 16) / 2))) [
  | inl is ↦ inl ((h - 16) / 2, is)
  | inr other ↦ inr (λ i l at. other (omega (arith, at)))
]

module _ (m : Stored) where
  place_of : (h i : ℕ) → h ≡ 16 + 2 * i → get (table_map 2 16 m.offsets) h ≡ get_or m.offsets i None
  place_of h i at = get-table_map_at (omega arith) 16 m.offsets i h at

  bytes_of : (h i : ℕ) → h ≡ 16 + 2 * i → chunk_bytes (table_map 2 16 m.chunks) h ≡ unwrap_or (get_or m.chunks i None) []
  bytes_of h i at = ap (λ (o : Option (List ℕ)). unwrap_or o []) (get-table_map_at (omega arith) 16 m.chunks i h at)

  abbrev LieApart : Option ℕ → List ℕ → Option ℕ → List ℕ → Type 0
  LieApart o bytes p others = IfSome o (λ a. IfSome p (λ b. IsChunkApart a bytes b others))

  no_other : (o : Option ℕ) (bytes others : List ℕ) → LieApart o bytes None others
  no_other None bytes others = tt
  no_other (Some a) bytes others = tt

  apart_at : AreStoredDisjoint m → (h k i j : ℕ) → h ≢ k → h ≡ 16 + 2 * i → k ≡ 16 + 2 * j
      → LieApart (get (table_map 2 16 m.offsets) h) (chunk_bytes (table_map 2 16 m.chunks) h) (get (table_map 2 16 m.offsets) k) (chunk_bytes (table_map 2 16 m.chunks) k)
  apart_at apart h k i j ne at to =
      subst (λ (o : Option ℕ). LieApart o (chunk_bytes (table_map 2 16 m.chunks) h) (get (table_map 2 16 m.offsets) k) (chunk_bytes (table_map 2 16 m.chunks) k)) (sym (place_of h i at))
      (subst (λ (b : List ℕ). LieApart (get_or m.offsets i None) b (get (table_map 2 16 m.offsets) k) (chunk_bytes (table_map 2 16 m.chunks) k)) (sym (bytes_of h i at))
      (subst (λ (o : Option ℕ). LieApart (get_or m.offsets i None) (unwrap_or (get_or m.chunks i None) []) o (chunk_bytes (table_map 2 16 m.chunks) k)) (sym (place_of k j to))
      (subst (λ (b : List ℕ). LieApart (get_or m.offsets i None) (unwrap_or (get_or m.chunks i None) []) (get_or m.offsets j None) b) (sym (bytes_of k j to))
      (apart i j (λ same. ne (omega (arith, same)))))))

  placed_apart : AreStoredDisjoint m → placed.AreDisjoint (placed_in m)
  placed_apart apart h k ne = elim (slot_or_none h (length m.offsets)) [
    | inl at ↦ elim (slot_or_none k (length m.offsets)) [
      | inl to ↦ apart_at apart h k at.0 to.0 ne at.1 to.1
      | inr off ↦
          subst (λ (o : Option ℕ). LieApart (get (table_map 2 16 m.offsets) h) (chunk_bytes (table_map 2 16 m.chunks) h) o (chunk_bytes (table_map 2 16 m.chunks) k)) (sym (get-table_map_off (omega arith) 16 m.offsets k off))
          (no_other (get (table_map 2 16 m.offsets) h) (chunk_bytes (table_map 2 16 m.chunks) h) (chunk_bytes (table_map 2 16 m.chunks) k))
    ]
    | inr off ↦
        subst (λ (o : Option ℕ). LieApart o (chunk_bytes (table_map 2 16 m.chunks) h) (get (table_map 2 16 m.offsets) k) (chunk_bytes (table_map 2 16 m.chunks) k)) (sym (get-table_map_off (omega arith) 16 m.offsets h off)) tt
  ]

  slot_live : (k : ℕ) → contains_key (table_map 2 16 m.chunks) k ≡ true → (j : ℕ) × (k ≡ 16 + 2 * j) × (j < length m.chunks)
  slot_live k live = elim (slot_or_none k (length m.chunks)) [
    | inl to ↦ (to.0, to.1, slot_at_within m.chunks to.0 (sym (ap is_some (get-table_map_at (omega arith) 16 m.chunks to.0 k to.1)) ∙ live))
    | inr off ↦ let none : false ≡ true = sym (ap is_some (get-table_map_off (omega arith) 16 m.chunks k off)) ∙ live in cc
  ]

  placed_behind : AreBehind m → placed.AreBehindTable (placed_in m)
  placed_behind behind h k live = elim (slot_or_none h (length m.offsets)) [
    | inl at ↦ subst (λ (o : Option ℕ). IfSome o (λ a. k + 4 ≤ a)) (sym (place_of h at.0 at.1)) (weaker (get_or m.offsets at.0 None) (behind at.0))
    | inr off ↦ subst (λ (o : Option ℕ). IfSome o (λ a. k + 4 ≤ a)) (sym (get-table_map_off (omega arith) 16 m.offsets h off)) tt
  ] where
    weaker : (o : Option ℕ) → IfSome o (λ a. 18 + 2 * length m.chunks ≤ a) → IfSome o (λ a. k + 4 ≤ a)
    weaker None none = tt
    weaker (Some a) le = let at = slot_live k live in omega (arith, at.1, at.2, le)

  -- a region with the bytes at a place, if there is one
  abbrev HasThere : List ℕ → Option ℕ → List ℕ → Type 0
  HasThere xs o bytes = IfSome o (λ at. slice_range xs at (at + length bytes) ≡ bytes)

  placed_holding : (xs : List ℕ) → StoredHoldsChunks xs m → placed.HoldsChunks xs (placed_in m)
  placed_holding xs holds h = elim (slot_or_none h (length m.offsets)) [
    | inl at ↦
        subst (λ (o : Option ℕ). HasThere xs o (chunk_bytes (table_map 2 16 m.chunks) h)) (sym (place_of h at.0 at.1))
        (subst (λ (b : List ℕ). HasThere xs (get_or m.offsets at.0 None) b) (sym (bytes_of h at.0 at.1)) (holds at.0))
    | inr off ↦ subst (λ (o : Option ℕ). HasThere xs o (chunk_bytes (table_map 2 16 m.chunks) h)) (sym (get-table_map_off (omega arith) 16 m.offsets h off)) tt
  ]

pub heap_disjoint : (m : Stored) (p : Placed) → placed_in m ≡ p → AreStoredDisjoint m → placed.AreDisjoint p
heap_disjoint m p is apart = subst placed.AreDisjoint is (placed_apart m apart)

pub heap_behind : (m : Stored) (p : Placed) → placed_in m ≡ p → AreBehind m → placed.AreBehindTable p
heap_behind m p is behind = subst placed.AreBehindTable is (placed_behind m behind)

pub heap_holding : (xs : List ℕ) (m : Stored) (p : Placed) → placed_in m ≡ p → StoredHoldsChunks xs m → placed.HoldsChunks xs p
heap_holding xs m p is holds = subst (placed.HoldsChunks xs) is (placed_holding m xs holds)

-- ---- chunks that have been packed lie at the end of the region

-- no entry lies before the pieces
offset_last : (e low total : ℕ) → (1 < e → low ≤ e) → low + total ≡ 65520 → IfSome (offset_under e) (λ at. 65522 ≤ at + total)
offset_last e low total above ends = elim (cases_lt 1 e) [
  | inl live ↦ let l = above live in subst (λ (o : Option ℕ). IfSome o (λ at. 65522 ≤ at + total)) (offset_some e live) (omega (arith, l, ends))
  | inr dead ↦ subst (λ (o : Option ℕ). IfSome o (λ at. 65522 ≤ at + total)) (offset_none e (omega arith)) tt
]

pub all_last : (u : Space) → IsWellFormed u → u.low + u.total ≡ 65520 → AreLast (offsets_in u.region u.slots) u.total
all_last u well_formed ends i = elim (cases_lt i u.slots) [
  | inl l ↦ subst (λ (o : Option ℕ). IfSome o (λ at. 65522 ≤ at + u.total)) (sym (offset_in u.region u.slots i l)) (offset_last (entry u.region i) u.low u.total (λ live. places_above u well_formed i l live) ends)
  | inr past ↦ subst (λ (o : Option ℕ). IfSome o (λ at. 65522 ≤ at + u.total)) (sym (get_or_past (offsets_in u.region u.slots) i None (omega (arith, length-offsets_in u.region u.slots)))) tt
]

-- what holds of each slot holds under each handle
either : (P : Option ℕ → Type 0) (b : Bool) (o x : Option ℕ) → P o → P x → P (if b then o else x)
either P true o x here there = here
either P false o x here there = there

each_place : (P : Option ℕ → Type 0) (h : ℕ) (t : List (Option ℕ)) (q : ℕ) → P None → ((i : ℕ) → P (get_or t i None)) → P (get (table_map 2 h t) q)
each_place P h [] q none each = subst P (sym (get-table_map_nil (omega arith) h q)) none
each_place P h (o ∷ t) q none each = subst P (sym (get-table_map_cons (omega arith) h o t q)) (either P (q == h) o (get (table_map 2 (h + 2) t) q) (each zero) (each_place P (h + 2) t q none (λ i. each (suc i))))

pub shown_last : (m : Stored) (p : Placed) → placed_in m ≡ p → AreLast m.offsets (space_in m.chunks) → AreAllLast p
shown_last m p is last = subst AreAllLast is (λ h. each_place (λ o. IfSome o (λ at. 65522 ≤ at + space_taken (table_map 2 16 m.chunks))) 16 m.offsets h tt
    (λ i. subst (λ (n : ℕ). IfSome (get_or m.offsets i None) (λ at. 65522 ≤ at + n)) (sym (space-table m.chunks)) (last i)))

-- Bytes are written over those of a slot's chunk.
use Rattle.std.proofs.Common.{◌≡◌, ℕ, ◌+◌, ◌<◌, ◌≤◌, List, [], ◌∷◌, ◌++◌, length, take, drop, get_or, set, slice_range, Option, Some, None, is_some, unwrap_or, ◌==◌, if◌then◌else◌, true, false, refl, sym, ap, subst, ◌∙◌, inl, inr, add_assoc, arith}
use Rattle.std.specs.Prelude.{Bool}
use Rattle.std.proofs.lemmas.Bool.{cases_lt}
use Rattle.std.proofs.lemmas.List.{set-get_or, length-take, take-append-drop}
use Rattle.std.proofs.lemmas.List.Edits.{length-between, get_or-between}
use Rattle.std.proofs.lemmas.Grind.{same_number_lists}
use Rattle.raw_region.specs.Bytes.{put}
use Rattle.raw_region.proofs.Puts.{put_is, length-put, put-cut}
use Rattle.lmem_heap.specs.declared.space.Space.{Space}
use Rattle.lmem_heap.specs.Pieces.{word_in, entry}
use Rattle.lmem_heap.specs.Tiled.{chunk_under, chunks_in}
use Rattle.lmem_heap.specs.Space.{IsWellFormed, IsRunOf}
use Rattle.lmem_heap.specs.Stored.{Stored, store_of, offsets_in, IsStoredHeap}
use Rattle.lmem_heap.specs.LendsChunk.{with_table_chunk}
use Rattle.lmem_heap.proofs.TiledLemmas.{under_piece, under_dead}
use Rattle.lmem_heap.proofs.EntryLemmas.{IsLivePiece, live_piece}
use Rattle.lmem_heap.proofs.ChunkBytesLemmas.{written_well_formed, written_entries, written_chunks}
use Rattle.lmem_heap.proofs.StoredLemmas.{IsShown, shown, in_table, chunk_shown, size_is, offsets_same, stored_written}

pub put-none : (xs : List ℕ) (at : ℕ) → at ≤ length xs → put xs at [] ≡ xs
put-none xs at le = let end : at + 0 ≡ at = omega arith in put_is xs [] at (omega arith) ∙ (ap (λ (k : ℕ). take at xs ++ drop k xs) end ∙ take-append-drop at xs)

no_items : (ws : List ℕ) → length ws ≡ 0 → ws ≡ []
no_items [] none = refl
no_items (w ∷ ws) none = absurd (omega arith)

some_is : (o : Option (List ℕ)) → is_some o ≡ true → Some (unwrap_or o []) ≡ o
some_is None some = cc
some_is (Some b) some = refl

none_bytes : (b : Bool) → length {A = ℕ} (unwrap_or (if b then None else Some []) []) ≡ 0
none_bytes true = refl
none_bytes false = refl

module _ (s : Space) (m : Stored) (i from size : ℕ) (stored : IsStoredHeap s) (is : store_of s.region s.slots ≡ m) (slot : i < length m.chunks) (run : IsRunOf s.region i from size) where
  within : i < s.slots
  within = in_table s m i stored is slot

  v : IsShown s m
  v = shown s m is

  -- how many bytes there are
  pub run_size : length (unwrap_or (get_or m.chunks i None) []) ≡ size
  run_size =
      ap (λ (o : Option (List ℕ)). length (unwrap_or o [])) (chunk_shown s m i stored is slot) ∙ elim (cases_lt 1 (entry s.region i)) [
        | inl live ↦ let at = run.some live in size_is s i stored.well_formed within live ∙ sym at.1
        | inr dead ↦ ap (λ (o : Option (List ℕ)). length (unwrap_or o [])) (under_dead s.region (entry s.region i) dead) ∙ (none_bytes (entry s.region i == 0) ∙ sym (run.none dead))
      ]

  -- and which
  pub run_bytes : slice_range s.region from (from + size) ≡ unwrap_or (get_or m.chunks i None) []
  run_bytes = sym (ap (λ (o : Option (List ℕ)). unwrap_or o []) (chunk_shown s m i stored is slot) ∙ elim (cases_lt 1 (entry s.region i)) [
    | inl live ↦
        let at = run.some live in
        ap (λ (o : Option (List ℕ)). unwrap_or o []) (under_piece s.region (entry s.region i) live)
        ∙ (ap (λ (k : ℕ). slice_range s.region (entry s.region i + 2) (entry s.region i + 2 + k)) (sym at.1) ∙ ap (λ (k : ℕ). slice_range s.region k (k + size)) (sym at.0))
    | inr dead ↦
        let long = stored.well_formed.held.tiled.long in
        no_items (unwrap_or (chunk_under s.region (entry s.region i)) []) (ap (λ (o : Option (List ℕ)). length (unwrap_or o [])) (under_dead s.region (entry s.region i) dead) ∙ none_bytes (entry s.region i == 0))
        ∙ sym (no_items (slice_range s.region from (from + size)) (omega (arith, length-between s.region from (from + size) (omega (arith, run.ends)), run.none dead)))
  ])

  module _ (some : is_some (get_or m.chunks i None) ≡ true) (ys : List ℕ) (at : ℕ) (ws : List ℕ) (range : at + length ws ≤ size) (over : ys ≡ put s.region (from + at) ws) where
    -- a chunk with no bytes
    module _ (dead : entry s.region i ≤ 1) where
      nothing : ws ≡ []
      nothing = no_items ws (omega (arith, run.none dead))

      same : ys ≡ s.region
      same = let long = stored.well_formed.held.tiled.long in over ∙ (ap (λ (w : List ℕ). put s.region (from + at) w) nothing ∙ put-none s.region (from + at) (omega (arith, run.ends, run.none dead)))

      dead_chunks : chunks_in ys s.slots ≡ set m.chunks i (Some (put (unwrap_or (get_or m.chunks i None) []) at ws))
      dead_chunks =
          let c = get_or m.chunks i None in
          ap (λ (y : List ℕ). chunks_in y s.slots) same ∙ (v.chunks ∙ (sym (set-get_or m.chunks i None) ∙ ap (λ (o : Option (List ℕ)). set m.chunks i o)
          (sym (some_is c some) ∙ ap (λ (b : List ℕ). Some b) (sym (put-none (unwrap_or c []) at (omega (arith, run_size, run.none dead))) ∙ ap (λ (w : List ℕ). put (unwrap_or c []) at w) (sym nothing)))))

    -- one with bytes
    module _ (live : 1 < entry s.region i) where
      piece : IsLivePiece s stored.well_formed i (entry s.region i) (word_in s.region (entry s.region i))
      piece = live_piece s stored.well_formed i (entry s.region i) (word_in s.region (entry s.region i)) within live refl refl

      fits : at + length ws ≤ word_in s.region (entry s.region i)
      fits = let there = run.some live in omega (arith, there.1)

      put_there : ys ≡ put s.region (entry s.region i + 2 + at) ws
      put_there = let there = run.some live in over ∙ ap (λ (k : ℕ). put s.region (k + at) ws) there.0

    pub over_well_formed : IsWellFormed (record { region = ys; slots = s.slots; low = s.low; head = s.head; total = s.total })
    over_well_formed = elim (cases_lt 1 (entry s.region i)) [
      | inl live ↦ written_well_formed s stored.well_formed ys (entry s.region i) i (word_in s.region (entry s.region i)) at ws (piece live) within (fits live) (put_there live)
      | inr dead ↦ subst (λ (y : List ℕ). IsWellFormed (record { region = y; slots = s.slots; low = s.low; head = s.head; total = s.total })) (sym (same dead)) stored.well_formed
    ]

    pub over_chunks : chunks_in ys s.slots ≡ set m.chunks i (Some (put (unwrap_or (get_or m.chunks i None) []) at ws))
    over_chunks = elim (cases_lt 1 (entry s.region i)) [
      | inl live ↦
          written_chunks s stored.well_formed ys (entry s.region i) i (word_in s.region (entry s.region i)) at ws (piece live) within (fits live) (put_there live)
          ∙ ap (λ (cs : List (Option (List ℕ))). set cs i (Some (put (unwrap_or (get_or cs i None) []) at ws))) v.chunks
      | inr dead ↦ dead_chunks dead
    ]

    pub over_offsets : offsets_in ys s.slots ≡ m.offsets
    over_offsets = elim (cases_lt 1 (entry s.region i)) [
      | inl live ↦
          offsets_same s.region ys s.slots s.slots refl (written_entries s stored.well_formed ys (entry s.region i) i (word_in s.region (entry s.region i)) at ws (piece live) within (fits live) (put_there live)) ∙ v.offsets
      | inr dead ↦ ap (λ (y : List ℕ). offsets_in y s.slots) (same dead) ∙ v.offsets
    ]

    pub over_stored : IsStoredHeap (record { region = ys; slots = s.slots; low = s.low; head = s.head; total = s.total })
    over_stored =
        let b = unwrap_or (get_or m.chunks i None) [] in let u : Space = record { region = ys; slots = s.slots; low = s.low; head = s.head; total = s.total } in
        stored_written s u i (put b at ws) stored over_well_formed within refl (over_chunks ∙ ap (λ (x : List (Option (List ℕ))). set x i (Some (put b at ws))) (sym v.chunks))
        (ap (λ (x : List (Option (List ℕ))). is_some (get_or x i None)) v.chunks ∙ some) (length-put b ws at ∙ ap (λ (x : List (Option (List ℕ))). length (unwrap_or (get_or x i None) [])) (sym v.chunks))

slice-slice : (xs : List ℕ) (from size at n : ℕ) → from + size ≤ length xs → at + n ≤ size → slice_range xs (from + at) (from + at + n) ≡ slice_range (slice_range xs from (from + size)) at (at + n)
slice-slice xs from size at n le inside =
    let b = slice_range xs from (from + size) in let count = length-between xs from (from + size) le in
    let left = length-between xs (from + at) (from + at + n) (omega arith) in let right = length-between b at (at + n) (omega arith) in
    same_number_lists (slice_range xs (from + at) (from + at + n)) (slice_range b at (at + n)) (omega arith) (λ k l.
    get_or-between xs (from + at) (from + at + n) k 0 (omega arith) ∙ (ap (λ (q : ℕ). get_or xs q 0) (add_assoc from at k)
    ∙ (sym (get_or-between xs from (from + size) (at + k) 0 (omega arith)) ∙ sym (get_or-between b at (at + n) k 0 (omega arith)))))

-- a part of a slot's chunk
pub run_part : (s : Space) (m : Stored) (i from size at n : ℕ) → IsStoredHeap s → store_of s.region s.slots ≡ m → i < length m.chunks → IsRunOf s.region i from size → at + n ≤ size
    → slice_range s.region (from + at) (from + at + n) ≡ slice_range (unwrap_or (get_or m.chunks i None) []) at (at + n)
run_part s m i from size at n stored is slot run inside =
    slice-slice s.region from size at n (let long = stored.well_formed.held.tiled.long in omega (arith, run.ends)) inside ∙ ap (λ (b : List ℕ). slice_range b at (at + n)) (run_bytes s m i from size stored is slot run)

-- the chunk is lent, and comes back with the bytes w
module _ (s : Space) (m : Stored) (i from size : ℕ) (stored : IsStoredHeap s) (is : store_of s.region s.slots ≡ m) (slot : i < length m.chunks) (run : IsRunOf s.region i from size) (some : is_some (get_or m.chunks i None) ≡ true) (w : List ℕ) where
  there : put s.region from (take size w) ≡ put s.region (from + 0) (take size w)
  there = let at : from ≡ from + 0 = omega arith in ap (λ (k : ℕ). put s.region k (take size w)) at

  range : 0 + length (take size w) ≤ size
  range = omega (arith, length-take size w)

  pub lent_stored : IsStoredHeap (record { region = put s.region from (take size w); slots = s.slots; low = s.low; head = s.head; total = s.total })
  lent_stored = over_stored s m i from size stored is slot run some (put s.region from (take size w)) 0 (take size w) range there

  pub lent_shows : store_of (put s.region from (take size w)) s.slots ≡ with_table_chunk m i w
  lent_shows =
      let b = unwrap_or (get_or m.chunks i None) [] in let ys = put s.region from (take size w) in
      let cut : put b 0 (take size w) ≡ put b 0 w = ap (λ (k : ℕ). put b 0 (take k w)) (sym (run_size s m i from size stored is slot run)) ∙ put-cut b w in
      let chunks = over_chunks s m i from size stored is slot run some ys 0 (take size w) range there ∙ ap (λ (x : List ℕ). set m.chunks i (Some x)) cut in
      let offsets = over_offsets s m i from size stored is slot run some ys 0 (take size w) range there in
      ap (λ (x : List (Option (List ℕ))). record { chunks = x; offsets = offsets_in ys s.slots }) chunks ∙ ap (λ (x : List (Option ℕ)). record { chunks = set m.chunks i (Some (put b 0 w)); offsets = x }) offsets

-- A chunk that was found lies where its heap, its table and their region have it.
use Rattle.std.proofs.Common.{◌≡◌, ℕ, ◌+◌, ◌<◌, ◌≤◌, List, [], length, get_or, Option, Some, None, true, set, is_some, unwrap_or, refl, sym, ap, subst, ◌∙◌, inl, inr, arith}
use Rattle.std.proofs.lemmas.Bool.{cases_lt}
use Rattle.std.proofs.lemmas.Grind.{get_or-set_at}
use Rattle.std.proofs.lemmas.List.{length-set}
use Rattle.std.proofs.lemmas.List.Sums.{sum_by-set}
use Rattle.std.specs.FinMap.{get}
use Rattle.geos_model.specs.Heap.{space_of}
use Rattle.geos_model.proofs.Table.{slot_space}
use Rattle.geos_model.proofs.Tables.{get-table_map_at, slot_at_within}
use Rattle.heap_images.specs.Slots.{space_in, need_in}
use Rattle.lmem_heap.specs.declared.found.FoundChunk.{FoundChunk}
use Rattle.lmem_heap.specs.declared.space.Space.{Space}
use Rattle.lmem_heap.specs.Pieces.{word_in, entry}
use Rattle.lmem_heap.specs.Tiled.{offset_under}
use Rattle.lmem_heap.specs.Space.{IsRunOf}
use Rattle.lmem_heap.specs.Found.{IsFound, IsFoundAt, IsFoundIn, handle_found}
use Rattle.lmem_heap.specs.Placed.{Placed, placed_in}
use Rattle.lmem_heap.specs.Stored.{Stored, store_of, IsStoredHeap}
use Rattle.lmem_heap.proofs.ChunkBytesLemmas.{offset_some}
use Rattle.lmem_heap.proofs.EntryLemmas.{live_piece}
use Rattle.lmem_heap.proofs.LendsChunkLemmas.{run_size}
use Rattle.lmem_heap.proofs.StoredLemmas.{chunk_shown, in_table, live_entry, place_is, size_is}

-- its slot is one of the table
pub found_slot : (m : Stored) (found : FoundChunk) → IsFoundAt m found → found.slot < length m.chunks
found_slot m found is = slot_at_within m.chunks found.slot is.live

-- as many bytes in their place are found there still
pub found_still : (m n : Stored) (found : FoundChunk) (b : List ℕ) → IsFoundAt m found → n.chunks ≡ set m.chunks found.slot (Some b) → length b ≡ length (unwrap_or (get_or m.chunks found.slot None) [])
    → n.offsets ≡ m.offsets → IsFoundAt n found
found_still m n found b is chunks size offsets =
    let here : get_or n.chunks found.slot None ≡ Some b
    = ap (λ (cs : List (Option (List ℕ))). get_or cs found.slot None) chunks ∙ get_or-set_at m.chunks found.slot found.slot (Some b) None refl (found_slot m found is) in
    record {
      live = ap is_some here;
      size = is.size ∙ (sym size ∙ sym (ap (λ (o : Option (List ℕ)). length (unwrap_or o [])) here));
      ends = is.ends;
      lies = λ some. ap (λ (os : List (Option ℕ)). get_or os found.slot None) offsets ∙ is.lies some;
    }

-- there is as much room for as many bytes, whatever the slot has now
pub room_as : (cs ls : List (Option (List ℕ))) (i : ℕ) (o : Option (List ℕ)) (a b : List ℕ) → i < length cs → ls ≡ set cs i o → length a ≡ length b → need_in (set cs i (Some b)) ≤ 65520 → need_in (set ls i (Some a)) ≤ 65520
room_as cs ls i o a b l is same room =
    let here : get_or ls i None ≡ o = ap (λ (x : List (Option (List ℕ))). get_or x i None) is ∙ get_or-set_at cs i i o None refl l in
    let count : length ls ≡ length cs = ap length is ∙ length-set cs i o in
    omega (
      arith,
      room,
      sum_by-set slot_space cs i (Some b) None l,
      sum_by-set slot_space cs i o None l,
      sum_by-set slot_space ls i (Some a) None (omega arith),
      ap space_in is,
      ap slot_space here,
      ap space_of same,
      length-set cs i (Some b),
      length-set ls i (Some a),
    )

module _ (s : Space) (m : Stored) (found : FoundChunk) (stored : IsStoredHeap s) (shows : store_of s.region s.slots ≡ m) where
  -- where the bytes of a slot's chunk lie is where the slot's word says
  place_shown : found.slot < length m.chunks → 1 < entry s.region found.slot → get_or m.offsets found.slot None ≡ Some (entry s.region found.slot + 2)
  place_shown l live = sym (offset_some (entry s.region found.slot) live ∙ place_is s m found.slot stored shows l (offset_under (entry s.region found.slot)) refl)

  -- what was found is where the region has it
  pub found_run : IsFoundAt m found → IsRunOf s.region found.slot found.run.from found.run.size
  found_run is =
      let i = found.slot in let l = found_slot m found is in
      record {
        ends = is.ends;
        none = λ dead. elim (cases_lt 0 found.run.size) [
          | inl some ↦ absurd (omega (arith, dead, live_entry s m i stored shows l (omega (arith, some, is.size))))
          | inr none ↦ omega arith
        ];
        some = λ live.
            let within = in_table s m i stored shows l in let n = word_in s.region (entry s.region i) in
            let size : found.run.size ≡ n
            = is.size ∙ (ap (λ (o : Option (List ℕ)). length (unwrap_or o [])) (chunk_shown s m i stored shows l) ∙ size_is s i stored.well_formed within live) in
            let piece = live_piece s stored.well_formed i (entry s.region i) n within live refl refl in
            let from : Some found.run.from ≡ Some (entry s.region i + 2) = sym (is.lies (omega (arith, size, piece.some))) ∙ place_shown l live in
            (cc, size);
      }

  -- and what the region has is found
  pub run_found : found.slot < length m.chunks → is_some (get_or m.chunks found.slot None) ≡ true → IsRunOf s.region found.slot found.run.from found.run.size → IsFoundAt m found
  run_found l some run = record {
    live = some;
    size = sym (run_size s m found.slot found.run.from found.run.size stored shows l run);
    ends = run.ends;
    lies = λ more. elim (cases_lt 1 (entry s.region found.slot)) [
      | inl live ↦ place_shown l live ∙ ap Some (sym (run.some live).0)
      | inr dead ↦ absurd (omega (arith, more, run.none dead))
    ];
  }

-- A heap has under the handle what its table has in the slot.
module _ (t : Stored) (p : Placed) (found : FoundChunk) (shows : placed_in t ≡ p) where
  pub chunk_there : get p.chunks (handle_found found) ≡ get_or t.chunks found.slot None
  chunk_there = ap (λ (x : Placed). get x.chunks (handle_found found)) (sym shows) ∙ get-table_map_at (omega arith) 16 t.chunks found.slot (handle_found found) refl

  place_there : get p.places (handle_found found) ≡ get_or t.offsets found.slot None
  place_there = ap (λ (x : Placed). get x.places (handle_found found)) (sym shows) ∙ get-table_map_at (omega arith) 16 t.offsets found.slot (handle_found found) refl

  pub found_at : IsFoundIn p found → IsFoundAt t found
  found_at is = subst (λ (o : Option ℕ). IsFound (get_or t.chunks found.slot None) o found.run) place_there
      (subst (λ (o : Option (List ℕ)). IsFound o (get p.places (handle_found found)) found.run) chunk_there is)

  pub found_in : IsFoundAt t found → IsFoundIn p found
  found_in is = subst (λ (o : Option ℕ). IsFound (get p.chunks (handle_found found)) o found.run) (sym place_there)
      (subst (λ (o : Option (List ℕ)). IsFound o (get_or t.offsets found.slot None) found.run) (sym chunk_there) is)

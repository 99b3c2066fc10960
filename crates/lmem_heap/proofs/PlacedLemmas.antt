-- A heap over its table: what each call does to the table is what it does to the finite map.
use Rattle.std.proofs.Common.{◌≡◌, ℕ, zero, suc, ◌+◌, ◌-◌, ◌*◌, ◌/◌, ◌<◌, ◌≤◌, ◌≢◌, true, false, nat_le, max, min, List, [], ◌∷◌, ◌++◌, map, length, get_or, set, take, drop, replicate, Option, Some, None, is_some, unwrap_or, flat_map, refl, sym, ap, subst, ◌∙◌, inl, inr, arith, length-append}
use Rattle.std.proofs.lemmas.Bool.{cases_lt, cases_eq, cond-true, cond-false, lt-ltb, le-ltb, leb-true}
use Rattle.std.proofs.lemmas.List.{length-replicate, length-set, append-nil, take_more, take_all, length-take, length-take-le, length-drop}
use Rattle.std.proofs.lemmas.List.Sums.{sum_by-set}
use Rattle.std.specs.Option.{option_map, option_map_or}
use Rattle.std.specs.Ordering.{nat_cmp}
use Rattle.std.specs.FinMap.{FinMap, get, insert, remove, keys, contains_key}
use Rattle.geos_model.proofs.Table.{slot_space, table_entries, table_map, first_gap, IsTrimmed}
use Rattle.geos_model.specs.Heap.{ChunkMap, need, next_chunk, fits, fits_with, fits_new, space_of, is_chunk_handle, is_heap_map, chunk_bytes}
use Rattle.geos_model.specs.Bytes.{resized}
use Rattle.geos_model.proofs.Tables.{slot_at_within, slots_to, length-slots_to, slot_at-slots_to, put_at, put_at-within, length-put_at, table_map-same, table_map-cut, table_map-put, table_map-clear, next_chunk-table, get-table_map_at, get-table_map_off, first_gap_none, first_gap-take, first_gap-clear, first_gap-put_other, first_gap-put_first, first_gap_below, keys-table_map}
use Rattle.geos_model.proofs.HeapTables.{trimmed-put, live_handle, space-same, slot_space_le, space_of_ge, image-table, slot_size_word, slot_bytes}
use Rattle.raw_region.specs.Bytes.{put}
use Rattle.raw_region.proofs.Puts.{put_is}
use Rattle.lmem_heap.specs.Stored.{Stored}
use Rattle.lmem_heap.specs.Placed.{Placed, placed_in}
use Rattle.heap_images.proofs.SlotLemmas.{need_is, is_heap}
use Rattle.geos_model.specs.Image.{image}
use Rattle.geos_model.specs.Words.{word}
use Rattle.heap_images.specs.Packed.{PackedSlots}
use Rattle.heap_images.specs.Slots.{space_in, need_of, need_in, IsCounted}
use Rattle.std.specs.List as list
use Rattle.geos_model.specs.declared.command.Body.TheVariants as bodies

-- the finite maps that a table shows
pub shown_chunks : (m : Stored) (p : Placed) → placed_in m ≡ p → table_map 2 16 m.chunks ≡ p.chunks
shown_chunks m p is = ap (λ (x : Placed). x.chunks) is

pub shown_places : (m : Stored) (p : Placed) → placed_in m ≡ p → table_map 2 16 m.offsets ≡ p.places
shown_places m p is = ap (λ (x : Placed). x.places) is

pub same_placed : (m n : Placed) → m.chunks ≡ n.chunks → m.places ≡ n.places → m ≡ n
same_placed m n chunks places = ap (λ (x : ChunkMap). record { chunks = x; places = m.places }) chunks ∙ ap (λ (x : FinMap nat_cmp ℕ). record { chunks = n.chunks; places = x }) places

-- ---- the least free handle

pub next_some : (t : PackedSlots) → first_gap t < 32752 → next_chunk (table_map 2 16 t) ≡ Some (16 + 2 * first_gap t)
next_some t l = next_chunk-table t ∙ cond-true _ _ _ (lt-ltb (first_gap t) 32752 l)

pub next_none : (t : PackedSlots) → 32752 ≤ first_gap t → next_chunk (table_map 2 16 t) ≡ None
next_none t l = next_chunk-table t ∙ cond-false _ _ _ (le-ltb (first_gap t) 32752 l)

-- the search for it begins where all slots below have chunks
pub gap_found : (t : PackedSlots) (start : ℕ) → start ≤ first_gap t → start + first_gap (drop start t) ≡ first_gap t
gap_found t zero le = omega arith
gap_found [] (suc n) le = absurd (omega arith)
gap_found (None ∷ t) (suc n) le = absurd (omega arith)
gap_found (Some b ∷ t) (suc n) le = omega (arith, gap_found t n (omega arith))

pub first_gap_le : (t : PackedSlots) → first_gap t ≤ length t
first_gap_le [] = omega arith
first_gap_le (None ∷ t) = omega arith
first_gap_le (Some b ∷ t) = omega (arith, first_gap_le t)

pub gap_here : (t : PackedSlots) (k : ℕ) → get_or t k None ≡ None → first_gap t ≤ k
gap_here t k none = elim (cases_lt k (first_gap t)) [ inl l ↦ let both : false ≡ true = sym (ap is_some none) ∙ first_gap_below t k l in cc | inr le ↦ le ]

-- and it stays so where a chunk is put in a free slot
pub gap_put_here : (t : PackedSlots) (k : ℕ) (b : List ℕ) → k ≤ first_gap t → get_or t k None ≡ None → k + 1 ≤ first_gap (put_at t k b)
gap_put_here t k b le none = omega (arith, first_gap-put_first t k b (let up = gap_here t k none in omega arith))

pub gap_put_there : (t : PackedSlots) (gap k : ℕ) (b : List ℕ) → gap ≤ first_gap t → gap ≤ first_gap (put_at t k b)
gap_put_there t gap k b le = elim (cases_eq (first_gap t) k) [ inl same ↦ omega (arith, first_gap-put_first t k b same) | inr other ↦ omega (arith, first_gap-put_other t k b other) ]

-- whether a new chunk fits
pub fits_new-some : (m : ChunkMap) (h : ℕ) (b : List ℕ) → next_chunk m ≡ Some h → fits_new m b ≡ fits_with m h b
unfolding fits_new
fits_new-some m h b next = ap (λ (o : Option ℕ). option_map_or (λ h. fits_with m h b) o false) next

pub fits_new-none : (m : ChunkMap) (b : List ℕ) → next_chunk m ≡ None → fits_new m b ≡ false
unfolding fits_new
fits_new-none m b next = ap (λ (o : Option ℕ). option_map_or (λ h. fits_with m h b) o false) next

-- where one fits there is a handle for it
pub gap_below : (t : PackedSlots) (b : List ℕ) (m : ChunkMap) → table_map 2 16 t ≡ m → fits_new m b ≡ true → first_gap t < 32752
gap_below t b m shows fit = elim (cases_lt (first_gap t) 32752) [
  | inl l ↦ l
  | inr l ↦ let no : false ≡ true = sym (fits_new-none m b (ap next_chunk (sym shows) ∙ next_none t l)) ∙ fit in cc
]

pub next_at : (t : PackedSlots) (gap h : ℕ) (b : List ℕ) (m : ChunkMap) → table_map 2 16 t ≡ m → gap ≡ first_gap t → h ≡ 16 + 2 * gap → fits_new m b ≡ true → next_chunk m ≡ Some h
next_at t gap h b m shows first at fit =
    ap next_chunk (sym shows) ∙ (next_some t (gap_below t b m shows fit) ∙ ap (λ (g : ℕ). Some (16 + 2 * g)) (sym first) ∙ ap Some (sym at))

-- what the heap holds is one that can be
pub valid_is : (t : PackedSlots) (gap : ℕ) (m : ChunkMap) → table_map 2 16 t ≡ m → IsCounted t gap → is_heap_map m ≡ true
valid_is t gap m shows held = ap is_heap_map (sym shows) ∙ is_heap t held.0 held.2

-- ---- the image

pub image_made : (t : PackedSlots) (n : ℕ) (a b c d e low : List ℕ) (m : ChunkMap) → table_map 2 16 t ≡ m → a ≡ [] → b ≡ a ++ 1 ∷ [] → c ≡ b ++ low → low ≡ word n → d ≡ c ++ flat_map slot_size_word t → e ≡ d ++ flat_map slot_bytes t → n ≡ length t → IsTrimmed t
    → e ≡ image (bodies.Heap m)
image_made t n a b c d e low m shows a_is b_is c_is low_is d_is e_is count trimmed =
    let front : c ≡ 1 ∷ word (length t) = c_is ∙ (ap (λ (l : List ℕ). l ++ low) (b_is ∙ ap (λ (l : List ℕ). l ++ 1 ∷ []) a_is) ∙ (ap (λ (l : List ℕ). 1 ∷ l) low_is ∙ ap (λ (k : ℕ). 1 ∷ word k) count)) in
    e_is ∙ (ap (λ (l : List ℕ). l ++ flat_map slot_bytes t) (d_is ∙ ap (λ (l : List ℕ). l ++ flat_map slot_size_word t) front)
    ∙ (sym (image-table t trimmed) ∙ ap (λ (x : ChunkMap). image (bodies.Heap x)) shows))

-- ---- slots one by one

pub none_there : (o : Option (List ℕ)) → is_some o ≡ false → o ≡ None
none_there None e = refl
none_there (Some b) e = cc

pub slot_from_live : (o : Option (List ℕ)) → is_some o ≡ true → o ≡ Some (unwrap_or o [])
slot_from_live None live = cc
slot_from_live (Some b) live = refl

-- ---- slots and handles

-- what a slot's handle names
pub get_slot : (t : PackedSlots) (i h : ℕ) → h ≡ 16 + 2 * i → get (table_map 2 16 t) h ≡ get_or t i None
get_slot t i h is = get-table_map_at (omega arith) 16 t i h is

-- what is no slot's names nothing
pub get_other : (t : PackedSlots) (h : ℕ) → ((i : ℕ) → i < length t → h ≡ 16 + 2 * i → ⊥) → get (table_map 2 16 t) h ≡ None
get_other t h off = get-table_map_off (omega arith) 16 t h off

-- a live handle is a chunk handle
pub live_is : (t : PackedSlots) (h : ℕ) (m : ChunkMap) → table_map 2 16 t ≡ m → IsTrimmed t → need_in t ≤ 65520 → contains_key m h ≡ true → is_chunk_handle h ≡ true
live_is t h m shows trimmed room live = live_handle m h (ap is_heap_map (sym shows) ∙ is_heap t trimmed room) live

-- a slot that has this chunk
pub record Live (t : PackedSlots) (i : ℕ) (b : List ℕ) : Type 0 where
  pub within : i < length t
  pub holds : get_or t i None ≡ Some b
  pub space : space_of (length b) ≤ space_in t
  pub bytes : length b ≤ space_in t

module _ (t : PackedSlots) (i h : ℕ) (m : ChunkMap) (shows : table_map 2 16 t ≡ m) (at : h ≡ 16 + 2 * i) where
  slot_is : get_or t i None ≡ get m h
  slot_is = sym (get_slot t i h at) ∙ ap (λ (x : ChunkMap). get x h) shows

  -- a free handle's slot has no chunk
  pub free_slot : get m h ≡ None → get_or t i None ≡ None
  free_slot free = slot_is ∙ free

  -- a live handle's has its own
  pub live_slot : contains_key m h ≡ true → Live t i (chunk_bytes m h)
  live_slot live =
      let holds : get_or t i None ≡ Some (chunk_bytes m h) = slot_is ∙ slot_from_live (get m h) live in
      let space : space_of (length (chunk_bytes m h)) ≤ space_in t = omega (arith, ap slot_space holds, slot_space_le t i) in
      record { within = slot_at_within t i (ap is_some holds); holds = holds; space = space; bytes = omega (arith, space_of_ge (length (chunk_bytes m h))) }

  pub live_size : (size : Option ℕ) → contains_key m h ≡ true → size ≡ option_map length (get_or t i None) → size ≡ Some (length (chunk_bytes m h))
  live_size size live is = is ∙ ap (option_map length) (live_slot live).holds

  -- a chunk is put under the handle
  pub shows_put : (n : PackedSlots) (b : List ℕ) → n ≡ put_at t i b → table_map 2 16 n ≡ insert m h b
  shows_put n b is =
      ap (table_map 2 16) is ∙ (table_map-put (omega arith) 16 t i b ∙ (ap (λ (k : ℕ). insert (table_map 2 16 t) k b) (sym at) ∙ ap (λ (x : ChunkMap). insert x h b) shows))

  -- and whether it fits
  pub fits_put : (b : List ℕ) → IsTrimmed t → fits_with m h b ≡ nat_le (need_in (put_at t i b)) 65520
  unfolding fits_with fits
  fits_put b trimmed =
      ap (λ (n : ℕ). nat_le n 65520) (ap need (sym (shows_put (put_at t i b) b refl)) ∙ need_is (put_at t i b) (trimmed-put t i b trimmed))

  pub room_put : (b : List ℕ) → IsTrimmed t → fits_with m h b ≡ true → need_in (put_at t i b) ≤ 65520
  room_put b trimmed fit = leb-true _ _ (sym (fits_put b trimmed) ∙ fit)

-- ---- what a chunk that is put in a slot changes

pub space-slots_to : (t : PackedSlots) (i : ℕ) → space_in (slots_to t i) ≡ space_in t
space-slots_to t i = space-same (slots_to t i) t (table_map-same 2 16 (slots_to t i) t (slot_at-slots_to t i))

space-put : (t : PackedSlots) (i : ℕ) (b : List ℕ) → space_in (put_at t i b) + slot_space (get_or t i None) ≡ space_in t + space_of (length b)
space-put t i b =
    omega (arith, sum_by-set slot_space (slots_to t i) i (Some b) None (omega (arith, length-slots_to t i)), ap slot_space (slot_at-slots_to t i i), space-slots_to t i)

-- in a slot with no chunk
pub need_new : (t : PackedSlots) (i : ℕ) (b : List ℕ) → get_or t i None ≡ None → need_in (put_at t i b) ≡ 16 + 4 * ((max (length t) (i + 1) + 1) / 2) + (space_in t + space_of (length b))
need_new t i b gap = omega (arith, length-put_at t i b, space-put t i b, ap slot_space gap)

-- in the place of another
pub need_changed : (t : PackedSlots) (i : ℕ) (b c : List ℕ) → Live t i c → need_in (put_at t i b) ≡ 16 + 4 * ((length t + 1) / 2) + (space_in t - space_of (length c) + space_of (length b))
need_changed t i b c live = let l = live.within in let fewer = live.space in omega (arith, length-put_at t i b, space-put t i b, ap slot_space live.holds)

-- what becomes of the table where a slot's chunk is changed
pub put_changed : (t n : PackedSlots) (i : ℕ) (b c : List ℕ) (change : List ℕ → List ℕ) → Live t i c → n ≡ set t i (Some (change (unwrap_or (get_or t i None) []))) → change c ≡ b → n ≡ put_at t i b
put_changed t n i b c change live is to =
    is ∙ (ap (λ (o : Option (List ℕ)). set t i (Some (change (unwrap_or o [])))) live.holds ∙ (ap (λ (l : List ℕ). set t i (Some l)) to ∙ sym (put_at-within t i b live.within)))

pub put_spliced : (t n : PackedSlots) (i at end : ℕ) (new b : List ℕ) → Live t i b → n ≡ set t i (Some (list.splice (unwrap_or (get_or t i None) []) at end new)) → n ≡ put_at t i (list.splice b at end new)
put_spliced t n i at end new b live is = put_changed t n i (list.splice b at end new) b (λ (l : List ℕ). list.splice l at end new) live is refl

pub put_written : (t n : PackedSlots) (i at : ℕ) (ws b : List ℕ) → Live t i b → at + length ws ≤ length b → n ≡ set t i (Some (put (unwrap_or (get_or t i None) []) at ws)) → n ≡ put_at t i (list.splice b at (at + length ws) ws)
put_written t n i at ws b live le is = put_changed t n i (list.splice b at (at + length ws) ws) b (λ (l : List ℕ). put l at ws) live is (put_is b ws at le)

pub put_resized : (t n : PackedSlots) (i size : ℕ) (b : List ℕ) → Live t i b → n ≡ set t i (Some (resized (unwrap_or (get_or t i None) []) size)) → n ≡ put_at t i (resized b size)
put_resized t n i size b live is = put_changed t n i (resized b size) b (λ (l : List ℕ). resized l size) live is refl

-- a set slot has room where the chunk under its handle has
pub set_room : (t : PackedSlots) (i : ℕ) (b c : List ℕ) → i < length t → b ≡ c → need_in (put_at t i c) ≤ 65520 → need_in (set t i (Some b)) ≤ 65520
set_room t i b c l same room = subst (λ (x : PackedSlots). need_in x ≤ 65520) (put_at-within t i c l ∙ ap (λ (x : List ℕ). set t i (Some x)) (sym same)) room

-- what a heap keeps of its table
pub counted_put : (t n : PackedSlots) (i gap : ℕ) (b : List ℕ) → IsTrimmed t → need_in (put_at t i b) ≤ 65520 → n ≡ put_at t i b → gap ≤ first_gap (put_at t i b) → IsCounted n gap
counted_put t n i gap b trimmed room is first = subst (λ (x : PackedSlots). IsCounted x gap) (sym is) (trimmed-put t i b trimmed, first, room)

pub counted_changed : (t n : PackedSlots) (i gap : ℕ) (b c : List ℕ) → Live t i c → IsCounted t gap → need_in (put_at t i b) ≤ 65520 → n ≡ put_at t i b → IsCounted n gap
counted_changed t n i gap b c live counted room is =
    let other : first_gap t ≢ i = λ e. let none : None ≡ Some c = sym (ap (λ (k : ℕ). get_or t k None) (sym e) ∙ first_gap_none t) ∙ live.holds in cc in
    counted_put t n i gap b counted.0 room is (omega (arith, counted.1, first_gap-put_other t i b other))

-- ---- a chunk's new bytes

pub length-splice : (b new : List ℕ) (at k : ℕ) → at + k ≤ length b → length (list.splice b at (at + k) new) ≡ length b - k + length new
length-splice b new at k le = let j = at + k in omega (arith, length-append (take at b) (new ++ drop j b), length-append new (drop j b), length-take-le at b (omega arith), length-drop j b)

pub length-resized : (b : List ℕ) (n : ℕ) → length (resized b n) ≡ n
length-resized b n = let k = n - length b in omega (arith, length-append (take n b) (replicate k 0), length-take n b, length-replicate {A = ℕ} k 0)

-- ---- a chunk is allocated: slots are opened up to its own, and it is put there

module _ (t g : PackedSlots) (i k : ℕ) (count : k ≡ max (length t) (i + 1)) (grown : g ≡ t ++ replicate (k - length t) None) (none : get_or t i None ≡ None) where
  opened_is : g ≡ slots_to t i
  opened_is = let same : k - length t ≡ i + 1 - length t = omega arith in grown ∙ ap (λ (m : ℕ). t ++ replicate m None) same

  none_unmoved : get_or g i None ≡ None
  none_unmoved = ap (λ (x : PackedSlots). get_or x i None) opened_is ∙ (slot_at-slots_to t i i ∙ none)

  pub zeros_put : (size : ℕ) → set g i (Some (replicate size 0)) ≡ put_at t i (replicate size 0)
  zeros_put size = ap (λ (x : PackedSlots). set x i (Some (replicate size 0))) opened_is

  pub none_bytes : length (unwrap_or (get_or g i None) []) ≡ 0
  none_bytes = ap (λ (o : Option (List ℕ)). length (unwrap_or o [])) none_unmoved

  pub in_slots : i < length g
  in_slots = omega (arith, ap length opened_is, length-slots_to t i)

  pub grow_room : (z : List ℕ) → need_in (put_at t i z) ≤ 65520 → need_of k (space_in t) ≤ 65520
  grow_room z room = omega (arith, need_new t i z none, count)

  pub new_room : (size : ℕ) → need_in (put_at t i (replicate size 0)) ≤ 65520 → need_in (set g i (Some (replicate size 0))) ≤ 65520
  new_room size room = subst (λ (x : PackedSlots). need_in x ≤ 65520) (sym (zeros_put size)) room

-- ---- a chunk is freed: its slot is cleared, and the slots behind the last chunk are left off

module _ (t s n : PackedSlots) (i k : ℕ) (c : List ℕ) (live : Live t i c) (cleared : s ≡ set t i None) (is : n ≡ take k s) (gaps : (j : ℕ) → k ≤ j → get_or s j None ≡ None) where
  shows_cut : table_map 2 16 n ≡ table_map 2 16 s
  shows_cut = ap (table_map 2 16) is ∙ table_map-cut 2 16 s k gaps

  pub shows_freed : (h : ℕ) (m : ChunkMap) → table_map 2 16 t ≡ m → h ≡ 16 + 2 * i → table_map 2 16 n ≡ remove m h
  shows_freed h m shows at =
      shows_cut ∙ (ap (table_map 2 16) cleared ∙ (table_map-clear (omega arith) 16 t i live.within
      ∙ (ap (λ (q : ℕ). remove (table_map 2 16 t) q) (sym at) ∙ ap (λ (x : ChunkMap). remove x h) shows)))

  pub counted_freed : (gap first : ℕ) → IsCounted t gap → IsTrimmed n → first ≡ min (min gap i) k → IsCounted n first
  counted_freed gap first counted trimmed gap_is =
      let count : space_in n + space_of (length c) ≡ space_in t
      = omega (arith, space-same n s shows_cut, ap space_in cleared, sum_by-set slot_space t i None None live.within, ap slot_space live.holds) in
      let short : length n ≤ length t = omega (arith, ap length is, length-take k s, ap length cleared, length-set t i None) in
      let next : first_gap n ≡ min (min (first_gap t) i) k = ap first_gap is ∙ (first_gap-take s k ∙ ap (λ (g : ℕ). min g k) (ap first_gap cleared ∙ first_gap-clear t i live.within)) in
      (trimmed, omega (arith, gap_is, counted.1, next), omega (arith, counted.2))

-- where the other chunks lie
pub places_freed : (os vs ns : List (Option ℕ)) (i h : ℕ) (m : FinMap nat_cmp ℕ) → table_map 2 16 os ≡ m → h ≡ 16 + 2 * i → i < length os → vs ≡ set os i None → ((j : ℕ) → get_or ns j None ≡ get_or vs j None) → table_map 2 16 ns ≡ remove m h
places_freed os vs ns i h m shows at l cleared same =
    table_map-same 2 16 ns vs same ∙ (ap (table_map 2 16) cleared ∙ (table_map-clear (omega arith) 16 os i l ∙ (ap (λ (q : ℕ). remove (table_map 2 16 os) q) (sym at) ∙ ap (λ (x : FinMap nat_cmp ℕ). remove x h) shows)))

-- ---- the space, slot by slot

-- ---- the handles, slot by slot

abbrev pub handles_in : PackedSlots → List ℕ
handles_in t = map (λ e. e.0) (table_entries 2 16 t)

handles-along : (h k : ℕ) (t : PackedSlots) (o : Option (List ℕ)) → k ≡ h + 2 * length t → map (λ e. e.0) (table_entries 2 h (t ++ o ∷ [])) ≡ map (λ e. e.0) (table_entries 2 h t) ++ map (λ e. e.0) (table_entries 2 k (o ∷ []))
handles-along h k [] o at = let e : k ≡ h = omega arith in ap (λ (n : ℕ). map (λ (e : ℕ × List ℕ). e.0) (table_entries 2 n (o ∷ []))) (sym e)
handles-along h k (None ∷ t) o at = handles-along (h + 2) k t o (omega arith)
handles-along h k (Some b ∷ t) o at = ap (λ (l : List ℕ). h ∷ l) (handles-along (h + 2) k t o (omega arith))

handles_more : (t : PackedSlots) (i : ℕ) (o : Option (List ℕ)) → i < length t → get_or t i None ≡ o → handles_in (take (i + 1) t) ≡ handles_in (take i t) ++ map (λ e. e.0) (table_entries 2 (16 + 2 * i) (o ∷ []))
handles_more t i o l is =
    ap handles_in (take_more t i None l ∙ ap (λ (p : Option (List ℕ)). take i t ++ p ∷ []) is)
    ∙ handles-along 16 (16 + 2 * i) (take i t) o (omega (arith, length-take-le i t (omega arith)))

pub handles_some : (t : PackedSlots) (i : ℕ) → i < length t → is_some (get_or t i None) ≡ true → handles_in (take (i + 1) t) ≡ handles_in (take i t) ++ (16 + 2 * i) ∷ []
handles_some t i l live = handles_more t i (Some (unwrap_or (get_or t i None) [])) l (slot_from_live (get_or t i None) live)

pub handles_none : (t : PackedSlots) (i : ℕ) → i < length t → get_or t i None ≡ None → handles_in (take (i + 1) t) ≡ handles_in (take i t)
handles_none t i l gap = handles_more t i None l gap ∙ append-nil (handles_in (take i t))

pub handles_all : (t : PackedSlots) (n : ℕ) → n ≡ length t → handles_in (take n t) ≡ keys (table_map 2 16 t)
handles_all t n count = ap handles_in (take_all n t (omega arith)) ∙ sym (keys-table_map (omega arith) 16 t)

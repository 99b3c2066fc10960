-- Heaps as tables of chunks: what a heap needs and its image, slot by slot, and that every heap is such a table.
use Rattle.std.proofs.Common.{set, ◌≡◌, ℕ, zero, suc, ◌+◌, ◌*◌, ◌/◌, ◌-◌, ◌%◌, ◌<◌, ◌≤◌, Bool, true, false, ◌&&◌, ◌≢◌, List, [], ◌∷◌, ◌++◌, map, max, length, Option, Some, None, is_some, nat_le, nat_cmp, not, ◌==◌, find, sum_by, fold, flat_map, refl, sym, ap, subst, ◌∙◌, inl, inr, arith, unwrap_or}
use Rattle.std.proofs.lemmas.Bool.{le-leb, leb-true, eqb-true, eq-eqb, cases_Bool, cases_eq, cases_lt, and_from, and_parts, or_cases, or_left, or_right, cond-true, cond-false, ne_eqb, lt-leb}
use Rattle.std.proofs.lemmas.List.{length-set, length-map, get_or-map}
use Rattle.std.proofs.lemmas.List.FromFn.{length-map-range_with_len, get_or-map-range_with_len}
use Rattle.std.proofs.lemmas.List.Sums.{sum_by-cons, sum_by-set}
use Rattle.std.proofs.Math.Bool.{not-not}
use Rattle.std.specs.List.{range_with_len, list_all, list_any}
use Rattle.std.specs.Option.{option_map_or}
use Rattle.std.specs.Ordering.{eq_by_cmp}
use Rattle.std.specs.Cmp.{nat_cmp_total, unsigned_tied}
use Rattle.std.specs.FinMap.{get, entries, keys, values, contains_key, contains_key-keys, same_map, nat_cmp-IsAntisymmetric, insert}
use Rattle.geos_model.specs.Words.{word}
use Rattle.geos_model.proofs.Table.{slot_space, table_entries, table_map, IsTrimmed}
use Rattle.geos_model.specs.Heap.{ChunkMap, handle_of, is_chunk_handle, space_of, table_len, need, fits, is_heap_map, next_chunk, chunk_handles, chunk_bytes, fits_with}
use Rattle.geos_model.specs.Image.{no_chunk, handles_to, size_word, image}
use Rattle.geos_model.specs.declared.command.Body.TheVariants.{Heap}
use Rattle.geos_model.proofs.Tables.{slot_at, put_at, length-put_at, full-put_at, entries-table_map, keys-table_map, values-table_map, get-table_map, get-table_map_at, get-table_map_off, slot_at_within, table_map-set, put_at-within}

-- a slot's size as a heap's image has it
abbrev pub slot_size : Option (List ℕ) → ℕ
slot_size None = 0xFFFF
slot_size (Some bytes) = length bytes

abbrev pub slot_size_word : Option (List ℕ) → List ℕ
slot_size_word o = word (slot_size o)

-- a slot's bytes
abbrev pub slot_bytes : Option (List ℕ) → List ℕ
slot_bytes None = []
slot_bytes (Some bytes) = bytes

-- whether the last slot has a value, and b where there is none
abbrev ends_full : {X : Type 0} → Bool → List (Option X) → Bool
ends_full b [] = b
ends_full b (o ∷ t) = ends_full (is_some o) t

ends_full-slot : {X : Type 0} (b : Bool) (o : Option X) (t : List (Option X)) → ends_full b (o ∷ t) ≡ is_some (slot_at (o ∷ t) (length t))
ends_full-slot b o [] = refl
ends_full-slot b o (a ∷ t) = ends_full-slot (is_some o) a t

ends_full-trimmed : {X : Type 0} (t : List (Option X)) → IsTrimmed t → ends_full true t ≡ true
ends_full-trimmed [] trimmed = refl
ends_full-trimmed (o ∷ t) trimmed =
    let last : suc (length t) - 1 ≡ length t = omega arith in
    ends_full-slot true o t ∙ ap (λ (i : ℕ). is_some (slot_at (o ∷ t) i)) (sym last) ∙ trimmed (omega arith)

pub trimmed-nil : (X : Type 0) → IsTrimmed {X = X} []
trimmed-nil X l = absurd (omega arith)

module _ {X : Type 0} where
  -- a value is put in a slot
  pub trimmed-put : (t : List (Option X)) (i : ℕ) (x : X) → IsTrimmed t → IsTrimmed (put_at t i x)
  trimmed-put t i x trimmed some =
      let n : ℕ = max (length t) (i + 1) - 1 in
      ap (λ (k : ℕ). is_some (slot_at (put_at t i x) (k - 1))) (length-put_at t i x)
      ∙ full-put_at t i n x (λ other. let same : n ≡ length t - 1 = omega arith in ap (λ (k : ℕ). is_some (slot_at t k)) same ∙ trimmed (omega arith))

-- the greatest place of the handles of a table, one slot after the other
table_len-row : {X : Type 0} (b : Bool) (t : List (Option X)) (h k a : ℕ) → h ≡ 16 + 2 * k → a ≤ k → (b ≡ true → a ≡ k) → ends_full b t ≡ true → fold (λ m q. max m ((q - 14) / 2)) a (map (λ e. e.0) (table_entries 2 h t)) ≡ k + length t
table_len-row b [] h k a at below last full = let e : a ≡ k = last full in omega arith
table_len-row b (None ∷ t) h k a at below last full =
    table_len-row false t (h + 2) (k + 1) a (omega arith) (omega arith) (λ e. cc) full ∙ omega arith
table_len-row b (Some x ∷ t) h k a at below last full =
    let top : max a ((h - 14) / 2) ≡ k + 1 = omega arith in
    table_len-row true t (h + 2) (k + 1) (max a ((h - 14) / 2)) (omega arith) (omega arith) (λ e. top) full ∙ omega arith

-- a trimmed table is as long as its map says
pub table_len-table : (t : List (Option (List ℕ))) → IsTrimmed t → table_len (keys (table_map 2 16 t)) ≡ length t
unfolding table_len
table_len-table t trimmed =
    ap (fold (λ m h. max m ((h - 14) / 2)) 0) (keys-table_map (omega arith) 16 t)
    ∙ table_len-row true t 16 0 0 (omega arith) (omega arith) (λ e. refl) (ends_full-trimmed t trimmed)
    ∙ omega arith

-- the space of the entries, one slot after the other
space-row : (t : List (Option (List ℕ))) (h a : ℕ) → fold (λ n c. n + space_of (length c.1)) a (table_entries 2 h t) ≡ fold (λ n o. n + slot_space o) a t
space-row [] h a = refl
space-row (None ∷ t) h a = let same : a ≡ a + 0 = omega arith in space-row t (h + 2) a ∙ ap (λ (n : ℕ). fold (λ n o. n + slot_space o) n t) same
space-row (Some x ∷ t) h a = space-row t (h + 2) (a + space_of (length x))

-- the space of a table's chunks is that of its map's
pub space-table : (t : List (Option (List ℕ))) → sum_by (λ c. space_of (length c.1)) (entries (table_map 2 16 t)) ≡ sum_by slot_space t
space-table t = ap (sum_by (λ c. space_of (length c.1))) (entries-table_map (omega arith) 16 t) ∙ space-row t 16 0

-- so tables that show the same map take the same space
pub space-same : (s t : List (Option (List ℕ))) → table_map 2 16 s ≡ table_map 2 16 t → sum_by slot_space s ≡ sum_by slot_space t
space-same s t same = sym (space-table s) ∙ ap (λ (m : ChunkMap). sum_by (λ c. space_of (length c.1)) (entries m)) same ∙ space-table t

-- what a trimmed table's heap needs
pub need-table : (t : List (Option (List ℕ))) → IsTrimmed t → need (table_map 2 16 t) ≡ 16 + 4 * ((length t + 1) / 2) + sum_by slot_space t
unfolding need
need-table t trimmed =
    let len : table_len (keys (table_map 2 16 t)) ≡ length t = table_len-table t trimmed in
    ap (λ (n : ℕ). 16 + 4 * ((n + 1) / 2) + sum_by (λ c. space_of (length c.1)) (entries (table_map 2 16 t))) len
    ∙ ap (λ (n : ℕ). 16 + 4 * ((length t + 1) / 2) + n) (space-table t)

size_word-slot : (o : Option (List ℕ)) → word (option_map_or length o no_chunk) ≡ slot_size_word o
size_word-slot None = refl
size_word-slot (Some x) = refl

-- the sizes of a row of handles
sizes-row : (m : ChunkMap) (a : ℕ) (t : List (Option (List ℕ))) → ((i : ℕ) → get m (handle_of (a + i)) ≡ slot_at t i) → flat_map (size_word m) (map handle_of (range_with_len a (length t))) ≡ flat_map slot_size_word t
sizes-row m a [] at = refl
sizes-row m a (o ∷ t) at =
    let here : a ≡ a + 0 = omega arith in
    let shift : (i : ℕ) → a + 1 + i ≡ a + suc i = λ i. omega arith in
    let first : size_word m (handle_of a) ≡ slot_size_word o = ap (λ (k : ℕ). size_word m (handle_of k)) here ∙ ap (λ (p : Option (List ℕ)). word (option_map_or length p no_chunk)) (at 0) ∙ size_word-slot o in
    let rest : flat_map (size_word m) (map handle_of (range_with_len (a + 1) (length t))) ≡ flat_map slot_size_word t = sizes-row m (a + 1) t (λ i. ap (λ (k : ℕ). get m (handle_of k)) (shift i) ∙ at (suc i)) in
    ap (λ (s : List ℕ). s ++ flat_map (size_word m) (map handle_of (range_with_len (a + 1) (length t)))) first ∙ ap (λ (s : List ℕ). slot_size_word o ++ s) rest

bytes-row : (t : List (Option (List ℕ))) (h : ℕ) → flat_map (λ bytes. bytes) (map (λ e. e.1) (table_entries 2 h t)) ≡ flat_map slot_bytes t
bytes-row [] h = refl
bytes-row (None ∷ t) h = bytes-row t (h + 2)
bytes-row (Some x ∷ t) h = ap (λ (s : List ℕ). x ++ s) (bytes-row t (h + 2))

-- the image of a trimmed table's heap
pub image-table : (t : List (Option (List ℕ))) → IsTrimmed t → image (Heap (table_map 2 16 t)) ≡ 1 ∷ word (length t) ++ flat_map slot_size_word t ++ flat_map slot_bytes t
unfolding image
image-table t trimmed =
    let m : ChunkMap = table_map 2 16 t in
    let len : table_len (keys m) ≡ length t = table_len-table t trimmed in
    let at_zero : (i : ℕ) → 0 + i ≡ i = λ i. omega arith in
    let sizes : flat_map (size_word m) (handles_to (length t)) ≡ flat_map slot_size_word t = sizes-row m 0 t (λ i. ap (λ (k : ℕ). get m (handle_of k)) (at_zero i) ∙ get-table_map (omega arith) 16 t i) in
    let bytes : flat_map (λ bytes. bytes) (values m) ≡ flat_map slot_bytes t = ap (flat_map (λ (bytes : List ℕ). bytes)) (values-table_map (omega arith) 16 t) ∙ bytes-row t 16 in
    ap (λ (n : ℕ). 1 ∷ word n ++ flat_map (size_word m) (handles_to n) ++ flat_map (λ bytes. bytes) (values m)) len
    ∙ ap (λ (s : List ℕ). 1 ∷ word (length t) ++ s ++ flat_map (λ bytes. bytes) (values m)) sizes
    ∙ ap (λ (s : List ℕ). 1 ∷ word (length t) ++ flat_map slot_size_word t ++ s) bytes

-- ---- which tables are heaps

is_chunk_handle-row : (k : ℕ) → k < 32752 → is_chunk_handle (16 + 2 * k) ≡ true
unfolding is_chunk_handle
is_chunk_handle-row k l =
    and_from _ _ (and_from _ _ (le-leb 16 (16 + 2 * k) (omega arith)) (le-leb (16 + 2 * k) 0xFFEE (omega arith))) (eq-eqb _ _ (omega arith))

pub is_chunk_handle-parts : (h : ℕ) → is_chunk_handle h ≡ true → (16 ≤ h) × (h ≤ 0xFFEE) × (h % 2 ≡ 0)
unfolding is_chunk_handle
is_chunk_handle-parts h e =
    let outer = and_parts (nat_le 16 h && nat_le h 0xFFEE) (h % 2 == 0) e in
    let inner = and_parts (nat_le 16 h) (nat_le h 0xFFEE) outer.0 in
    (leb-true 16 h inner.0, leb-true h 0xFFEE inner.1, eqb-true (h % 2) 0 outer.1)

handles-row : (t : List (Option (List ℕ))) (h k : ℕ) → h ≡ 16 + 2 * k → k + length t ≤ 32752 → list_all is_chunk_handle (map (λ e. e.0) (table_entries 2 h t)) ≡ true
handles-row [] h k at long = refl
handles-row (None ∷ t) h k at long = handles-row t (h + 2) (k + 1) (omega arith) (omega arith)
handles-row (Some x ∷ t) h k at long =
    and_from _ _ (ap is_chunk_handle at ∙ is_chunk_handle-row k (omega arith)) (handles-row t (h + 2) (k + 1) (omega arith) (omega arith))

none_from_dead : {X : Type 0} (o : Option X) → is_some o ≡ false → o ≡ None
none_from_dead None e = refl
none_from_dead (Some x) e = cc

-- the first of a row of handles that passes a test
find-row : (p : ℕ → Bool) (n a h : ℕ) → find p (map handle_of (range_with_len a n)) ≡ Some h → (i : ℕ) × (i < a + n) × (h ≡ 16 + 2 * i) × (p h ≡ true)
find-row p zero a h is = cc
find-row p (suc n) a h is = elim (cases_Bool (p (handle_of a))) [
  | inl e ↦
      let found : Some (handle_of a) ≡ Some h = sym (cond-true _ _ _ e) ∙ is in let at : handle_of a ≡ h = cc in
      (a, omega arith, sym at, ap p (sym at) ∙ e)
  | inr e ↦ let rest = find-row p n (a + 1) h (sym (cond-false _ _ _ e) ∙ is) in (rest.0, omega (arith, rest.1), rest.2, rest.3)
]

-- the least free handle is a chunk handle that is free
pub next_chunk-free : (m : ChunkMap) (h : ℕ) → next_chunk m ≡ Some h → (is_chunk_handle h ≡ true) × (get m h ≡ None)
unfolding next_chunk chunk_handles
next_chunk-free m h is =
    let there = find-row (λ q. not (contains_key m q)) 32752 0 h is in
    (ap is_chunk_handle there.2 ∙ is_chunk_handle-row there.0 (omega (arith, there.1)), none_from_dead (get m h) (sym (not-not (contains_key m h)) ∙ ap not there.3))

-- a table that is short enough and fits is a heap
pub is_heap_map-table : (t : List (Option (List ℕ))) → length t ≤ 32752 → need (table_map 2 16 t) ≤ 65520 → is_heap_map (table_map 2 16 t) ≡ true
unfolding is_heap_map fits
is_heap_map-table t long room =
    and_from _ _ (ap (list_all is_chunk_handle) (keys-table_map (omega arith) 16 t) ∙ handles-row t 16 0 (omega arith) (omega arith)) (le-leb _ _ room)

-- a heap needs no more than its capacity
pub need_le : (m : ChunkMap) → is_heap_map m ≡ true → need m ≤ 65520
unfolding is_heap_map fits
need_le m e = leb-true _ _ (and_parts _ _ e).1

-- a trimmed table that fits is short enough
pub length_le-table : (t : List (Option (List ℕ))) → IsTrimmed t → need (table_map 2 16 t) ≤ 65520 → length t ≤ 32752
length_le-table t trimmed room = let is = need-table t trimmed in omega (arith, is)

-- a trimmed table that fits is a heap
pub is_heap_map-trimmed : (t : List (Option (List ℕ))) → IsTrimmed t → need (table_map 2 16 t) ≤ 65520 → is_heap_map (table_map 2 16 t) ≡ true
is_heap_map-trimmed t trimmed room = is_heap_map-table t (length_le-table t trimmed room) room

-- a slot's space is part of the sum
pub slot_space_le : (t : List (Option (List ℕ))) (i : ℕ) → slot_space (slot_at t i) ≤ sum_by slot_space t
slot_space_le [] i = omega arith
slot_space_le (o ∷ t) zero = let whole = sum_by-cons slot_space o t in omega (arith, whole)
slot_space_le (o ∷ t) (suc i) =
    let whole = sum_by-cons slot_space o t in
    let rest = slot_space_le t i in
    omega (arith, whole, rest)

-- the space of a chunk with bytes
pub space_of_some : (n : ℕ) → 0 < n → space_of n ≡ 4 * ((n + 5) / 4)
space_of_some n l = cond-false (n == 0) _ _ (ne_eqb n 0 (λ e. absurd (omega arith)))

-- a chunk takes no less than its bytes
pub space_of_ge : (n : ℕ) → n ≤ space_of n
space_of_ge n = elim (cases_eq n 0) [
  | inl e ↦ omega arith
  | inr e ↦ let is = space_of_some n (omega arith) in omega (arith, is)
]

space_of_le : (n r : ℕ) → space_of n ≤ r → r ≤ 65500 → n ≤ 65498
space_of_le n r l m = elim (cases_eq n 0) [
  | inl e ↦ omega arith
  | inr e ↦ let is = space_of_some n (omega arith) in omega (arith, is)
]

-- the greatest size of a chunk
pub chunk_length_le : (t : List (Option (List ℕ))) → IsTrimmed t → need (table_map 2 16 t) ≤ 65520 → (i : ℕ) (bytes : List ℕ) → slot_at t i ≡ Some bytes → length bytes ≤ 65498
chunk_length_le [] trimmed room i bytes at = cc
chunk_length_le (o ∷ t) trimmed room i bytes at =
    let is = need-table (o ∷ t) trimmed in
    let part : slot_space (slot_at (o ∷ t) i) ≤ sum_by slot_space (o ∷ t) = slot_space_le (o ∷ t) i in
    let here : space_of (length bytes) ≤ sum_by slot_space (o ∷ t) = subst (λ p. slot_space p ≤ sum_by slot_space (o ∷ t)) at part in
    space_of_le (length bytes) (sum_by slot_space (o ∷ t)) here (omega (arith, is))

-- ---- every heap is a table

-- a key of a list of keys
abbrev pub is_key : List ℕ → ℕ → Bool
is_key ks q = list_any (eq_by_cmp nat_cmp q) ks

key-is : (q k : ℕ) → eq_by_cmp nat_cmp q k ≡ true → q ≡ k
key-is q k e = eqb-true q k (sym (unsigned_tied q k) ∙ e)

all-key : (p : ℕ → Bool) (ks : List ℕ) (q : ℕ) → list_all p ks ≡ true → is_key ks q ≡ true → p q ≡ true
all-key p [] q all is = cc
all-key p (k ∷ ks) q all is =
    let parts = and_parts (p k) (list_all p ks) all in
    elim (or_cases (eq_by_cmp nat_cmp q k) (is_key ks q) is) [
      | inl e ↦ ap p (key-is q k e) ∙ parts.0
      | inr e ↦ all-key p ks q parts.1 e
    ]

abbrev pub greatest : ℕ → List ℕ → ℕ
greatest a ks = fold (λ m q. max m ((q - 14) / 2)) a ks

greatest_above : (a : ℕ) (ks : List ℕ) → a ≤ greatest a ks
greatest_above a [] = omega arith
greatest_above a (k ∷ ks) = let l = greatest_above (max a ((k - 14) / 2)) ks in omega (arith, l)

pub greatest_key : (a : ℕ) (ks : List ℕ) (q : ℕ) → is_key ks q ≡ true → (q - 14) / 2 ≤ greatest a ks
greatest_key a [] q is = cc
greatest_key a (k ∷ ks) q is = elim (or_cases (eq_by_cmp nat_cmp q k) (is_key ks q) is) [
  | inl e ↦
      let at : q ≡ k = key-is q k e in
      let l = greatest_above (max a ((k - 14) / 2)) ks in
      omega (arith, l, ap (λ (x : ℕ). (x - 14) / 2) at)
  | inr e ↦ greatest_key (max a ((k - 14) / 2)) ks q e
]

-- the greatest is that of a key, where it is above the start
pub greatest_is : (a : ℕ) (ks : List ℕ) → a < greatest a ks → (q : ℕ) × (is_key ks q ≡ true) × ((q - 14) / 2 ≡ greatest a ks)
greatest_is a [] l = absurd (omega arith)
greatest_is a (k ∷ ks) l = elim (cases_lt (max a ((k - 14) / 2)) (greatest (max a ((k - 14) / 2)) ks)) [
  | inl more ↦ let there = greatest_is (max a ((k - 14) / 2)) ks more in (there.0, or_right (eq_by_cmp nat_cmp there.0 k) (is_key ks there.0) there.1, there.2)
  | inr same ↦
      let up = greatest_above (max a ((k - 14) / 2)) ks in
      (k, or_left (eq_by_cmp nat_cmp k k) (is_key ks k) (unsigned_tied k k ∙ eq-eqb k k refl), omega (arith, up))
]

-- the table that shows a heap
abbrev pub table_of : ChunkMap → List (Option (List ℕ))
table_of m = map (get m) (handles_to (table_len (keys m)))

pub length-table_of : (m : ChunkMap) → length (table_of m) ≡ table_len (keys m)
length-table_of m = length-map (handles_to (table_len (keys m))) (get m) ∙ length-map-range_with_len handle_of 0 (table_len (keys m))

slot_at-table_of : (m : ChunkMap) (i n : ℕ) → i < n → slot_at (map (get m) (handles_to n)) i ≡ get m (handle_of i)
slot_at-table_of m i n l =
    let long : length (handles_to n) ≡ n = length-map-range_with_len handle_of 0 n in
    get_or-map (get m) (handles_to n) i 0 None (omega arith) ∙ ap (get m) (get_or-map-range_with_len handle_of 0 n i i 0 l (omega arith))

key_of : (m : ChunkMap) (q : ℕ) → is_some (get m q) ≡ true → is_key (keys m) q ≡ true
key_of m q live = sym (contains_key-keys m q) ∙ live

-- a live handle is one of the row
pub live_handle : (m : ChunkMap) (q : ℕ) → is_heap_map m ≡ true → is_some (get m q) ≡ true → is_chunk_handle q ≡ true
unfolding is_heap_map
live_handle m q heap live = all-key is_chunk_handle (keys m) q (and_parts _ _ heap).0 (key_of m q live)

live_below : (m : ChunkMap) (q : ℕ) → is_some (get m q) ≡ true → (q - 14) / 2 ≤ table_len (keys m)
unfolding table_len
live_below m q live = greatest_key 0 (keys m) q (key_of m q live)

-- what is no handle of the table isn't live
dead : (m : ChunkMap) (q : ℕ) → is_heap_map m ≡ true → ((i : ℕ) → i < table_len (keys m) → q ≢ 16 + 2 * i) → get m q ≡ None
dead m q heap off = elim (cases_Bool (is_some (get m q))) [
  | inl live ↦
      let parts = is_chunk_handle-parts q (live_handle m q heap live) in
      let below = live_below m q live in
      absurd (off ((q - 16) / 2) (omega (arith, parts.0, parts.2, below)) (omega (arith, parts.0, parts.2)))
  | inr e ↦ none_from_dead (get m q) e
]

get-table_of : (m : ChunkMap) (q : ℕ) → is_heap_map m ≡ true → get (table_map 2 16 (table_of m)) q ≡ get m q
get-table_of m q heap =
    let n : ℕ = table_len (keys m) in
    let long : length (table_of m) ≡ n = length-table_of m in
    elim (cases_eq q (16 + 2 * ((q - 16) / 2))) [
      | inl e ↦ elim (cases_lt ((q - 16) / 2) n) [
        | inl l ↦ get-table_map_at (omega arith) 16 (table_of m) ((q - 16) / 2) q e ∙ slot_at-table_of m ((q - 16) / 2) n l ∙ ap (get m) (sym e)
        | inr past ↦
            let off : (i : ℕ) → i < n → q ≢ 16 + 2 * i = λ i l is. absurd (omega arith) in
            get-table_map_off (omega arith) 16 (table_of m) q (λ i l. off i (omega arith)) ∙ sym (dead m q heap off)
      ]
      | inr apart ↦
          let off : (i : ℕ) → i < n → q ≢ 16 + 2 * i = λ i l is. apart (omega arith) in
          get-table_map_off (omega arith) 16 (table_of m) q (λ i l. off i (omega arith)) ∙ sym (dead m q heap off)
    ]

-- a heap is what its table shows
pub table_map-table_of : (m : ChunkMap) → is_heap_map m ≡ true → table_map 2 16 (table_of m) ≡ m
table_map-table_of m heap = same_map nat_cmp_total nat_cmp-IsAntisymmetric _ _ (λ q. get-table_of m q heap)

greatest_live : (m : ChunkMap) → 0 < table_len (keys m) → (q : ℕ) × (is_some (get m q) ≡ true) × ((q - 14) / 2 ≡ table_len (keys m))
unfolding table_len
greatest_live m l =
    let there = greatest_is 0 (keys m) l in
    (there.0, contains_key-keys m there.0 ∙ there.1, there.2)

pub trimmed-table_of : (m : ChunkMap) → is_heap_map m ≡ true → IsTrimmed (table_of m)
trimmed-table_of m heap some =
    let n : ℕ = table_len (keys m) in
    let long : length (table_of m) ≡ n = length-table_of m in
    let there = greatest_live m (omega arith) in
    let parts = is_chunk_handle-parts there.0 (live_handle m there.0 heap there.1) in
    let last : handle_of (n - 1) ≡ there.0 = omega (arith, parts.0, parts.2, there.2) in
    let place : length (table_of m) - 1 ≡ n - 1 = omega arith in
    ap (λ (i : ℕ). is_some (slot_at (table_of m) i)) place
    ∙ ap is_some (slot_at-table_of m (n - 1) n (omega arith) ∙ ap (get m) last)
    ∙ there.1

-- every heap is a table
pub heap_map-table : (m : ChunkMap) → is_heap_map m ≡ true → (t : List (Option (List ℕ))) × IsTrimmed t × (m ≡ table_map 2 16 t) × (length t ≡ table_len (keys m))
heap_map-table m heap = (table_of m, trimmed-table_of m heap, sym (table_map-table_of m heap), length-table_of m)

-- ---- other bytes of a live chunk

-- a live handle is a slot's
pub live_slot : (m : ChunkMap) (h : ℕ) → is_heap_map m ≡ true → contains_key m h ≡ true → h ≡ 16 + 2 * ((h - 16) / 2)
live_slot m h heap live = let parts = is_chunk_handle-parts h (live_handle m h heap live) in omega (arith, parts.0, parts.2)

-- what a slot with a value takes
slot_space-live : (o : Option (List ℕ)) → is_some o ≡ true → slot_space o ≡ space_of (length (unwrap_or o []))
slot_space-live None live = cc
slot_space-live (Some b) live = refl

need-set : (t : List (Option (List ℕ))) (i : ℕ) (b : List ℕ) → IsTrimmed t → i < length t → need (insert (table_map 2 16 t) (16 + 2 * i) b) + slot_space (slot_at t i) ≡ need (table_map 2 16 t) + space_of (length b)
need-set t i b trimmed l =
    let before = need-table t trimmed in
    let after = need-table (set t i (Some b)) (subst (λ (s : List (Option (List ℕ))). IsTrimmed s) (put_at-within t i b l) (trimmed-put t i b trimmed)) in
    let same : length (set t i (Some b)) ≡ length t = length-set t i (Some b) in
    let space = sum_by-set slot_space t i (Some b) None l in
    let shows : need (table_map 2 16 (set t i (Some b))) ≡ need (insert (table_map 2 16 t) (16 + 2 * i) b) = ap need (table_map-set (omega arith) 16 t i b l) in
    omega (arith, before, after, same, space, shows)

need-at : (t : List (Option (List ℕ))) (i h : ℕ) (b : List ℕ) → IsTrimmed t → h ≡ 16 + 2 * i → contains_key (table_map 2 16 t) h ≡ true → need (insert (table_map 2 16 t) h b) + space_of (length (chunk_bytes (table_map 2 16 t) h)) ≡ need (table_map 2 16 t) + space_of (length b)
need-at t i h b trimmed at live =
    let slot : get (table_map 2 16 t) h ≡ slot_at t i = get-table_map_at (omega arith) 16 t i h at in
    let full : is_some (slot_at t i) ≡ true = sym (ap is_some slot) ∙ live in
    let here : slot_space (slot_at t i) ≡ space_of (length (chunk_bytes (table_map 2 16 t) h)) = ap slot_space (sym slot) ∙ slot_space-live (get (table_map 2 16 t) h) live in
    let set_is = need-set t i b trimmed (slot_at_within t i full) in
    let handle = ap (λ (k : ℕ). need (insert (table_map 2 16 t) k b)) at in
    omega (arith, here, set_is, handle)

-- what a heap needs then
pub need-insert : (m : ChunkMap) (h : ℕ) (b : List ℕ) → is_heap_map m ≡ true → contains_key m h ≡ true → need (insert m h b) + space_of (length (chunk_bytes m h)) ≡ need m + space_of (length b)
need-insert m h b heap live =
    let shown = heap_map-table m heap in
    let live_there : contains_key (table_map 2 16 shown.0) h ≡ true = ap (λ (x : ChunkMap). contains_key x h) (sym shown.2) ∙ live in
    subst (λ (x : ChunkMap). need (insert x h b) + space_of (length (chunk_bytes x h)) ≡ need x + space_of (length b)) (sym shown.2)
    (need-at shown.0 ((h - 16) / 2) h b shown.1 (live_slot m h heap live) live_there)

-- more bytes take no less space
space_of_mono : (a b : ℕ) → a ≤ b → space_of a ≤ space_of b
space_of_mono a b le = elim (cases_eq a 0) [
  | inl e ↦ let none : space_of a ≡ 0 = ap space_of e in omega (arith, none)
  | inr e ↦ omega (arith, space_of_some a (omega arith), space_of_some b (omega arith))
]

-- whether they fit is a matter of how many they are
pub fits_with-same : (m : ChunkMap) (h : ℕ) (a b : List ℕ) → is_heap_map m ≡ true → contains_key m h ≡ true → length a ≡ length b → fits_with m h a ≡ fits_with m h b
unfolding fits_with fits
fits_with-same m h a b heap live same =
    let needed : need (insert m h a) ≡ need (insert m h b) = omega (arith, need-insert m h a heap live, need-insert m h b heap live, ap space_of same) in
    ap (λ (n : ℕ). nat_le n 65520) needed

-- no more than there are fit
pub fits_with-fewer : (m : ChunkMap) (h : ℕ) (b : List ℕ) → is_heap_map m ≡ true → contains_key m h ≡ true → length b ≤ length (chunk_bytes m h) → fits_with m h b ≡ true
unfolding fits_with fits
fits_with-fewer m h b heap live fewer =
    le-leb _ _ (omega (arith, need-insert m h b heap live, need_le m heap, space_of_mono (length b) (length (chunk_bytes m h)) fewer))

space_le-need : (m : ChunkMap) (h : ℕ) → is_heap_map m ≡ true → contains_key m h ≡ true → space_of (length (chunk_bytes m h)) ≤ need m
space_le-need m h heap live = let empty = need-insert m h [] heap live in omega (arith, empty)

-- a chunk has no more than there is room for, and more bytes don't fit
pub chunk_bytes_le : (m : ChunkMap) (h : ℕ) → is_heap_map m ≡ true → contains_key m h ≡ true → length (chunk_bytes m h) ≤ 65520
chunk_bytes_le m h heap live = omega (arith, space_le-need m h heap live, space_of_ge (length (chunk_bytes m h)), need_le m heap)

pub fits_with-many : (m : ChunkMap) (h : ℕ) (b : List ℕ) → is_heap_map m ≡ true → contains_key m h ≡ true → 65520 < length b → fits_with m h b ≡ false
unfolding fits_with fits
fits_with-many m h b heap live many =
    lt-leb _ _ (omega (arith, need-insert m h b heap live, space_le-need m h heap live, space_of_ge (length b)))

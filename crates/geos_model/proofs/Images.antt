-- A body's image reads back as the body, so two heaps with one image are one heap.
use Rattle.std.proofs.Common.{◌≡◌, ℕ, zero, suc, ◌+◌, ◌*◌, ◌<◌, ◌≤◌, true, List, [], ◌∷◌, ◌++◌, map, length, drop, Option, Some, None, ◌==◌, sum_by, flat_map, refl, sym, ap, subst, ◌∙◌, arith, length-append}
use Rattle.std.proofs.lemmas.Bool.{cond-false, ne_eqb, leb-true}
use Rattle.std.proofs.lemmas.List.{take_at, drop_at}
use Rattle.std.proofs.lemmas.List.Sums.{sum_by-cons}
use Rattle.std.specs.List.{range_with_len}
use Rattle.std.specs.FinMap.{empty, from_entries}
use Rattle.byteorder.specs.Numbers.{little_number-reads_back}
use Rattle.byteorder.specs.Endian.{little_number}
use Rattle.geos_model.specs.Words.{word, word_at}
use Rattle.geos_model.proofs.Table.{slot_space, table_entries, table_map, IsTrimmed}
use Rattle.geos_model.specs.Heap.{ChunkMap, need, is_heap_map}
use Rattle.geos_model.specs.Document.{is_valid_body}
use Rattle.geos_model.specs.Image.{chunks_read, image, body_read}
use Rattle.geos_model.specs.declared.command.Body.{Body}
use Rattle.geos_model.specs.declared.command.Body.TheVariants.{Raw, Heap}
use Rattle.geos_model.proofs.Tables.{slot_at, table_map-nil}
use Rattle.geos_model.proofs.HeapTables.{slot_size, slot_size_word, slot_bytes, trimmed-nil, image-table, need-table, need_le, length_le-table, chunk_length_le, space_of_ge, heap_map-table}

-- the number in the bytes of a word
pub word-reads_back : (n : ℕ) (rest : List ℕ) → n < 65536 → little_number 2 (word n ++ rest) ≡ n
word-reads_back n rest l = little_number-reads_back 2 n rest l

-- each chunk of a table is shorter than a size that says that there is none
abbrev pub IsShort : List (Option (List ℕ)) → Type 0
IsShort t = (i : ℕ) (bytes : List ℕ) → slot_at t i ≡ Some bytes → length bytes < 65535

-- a size is a word
slot_size_lt : (o : Option (List ℕ)) → ((bytes : List ℕ) → o ≡ Some bytes → length bytes < 65535) → slot_size o < 65536
slot_size_lt None short = omega arith
slot_size_lt (Some bytes) short = let l = short bytes refl in omega (arith, l)

-- a size in the sizes of a table
size-reads_back : (t : List (Option (List ℕ))) (i : ℕ) (rest : List ℕ) → IsShort t → i < length t → little_number 2 (drop (2 * i) (flat_map slot_size_word t ++ rest)) ≡ slot_size (slot_at t i)
size-reads_back [] i rest short l = absurd (omega arith)
size-reads_back (o ∷ t) zero rest short l =
    word-reads_back (slot_size o) (flat_map slot_size_word t ++ rest) (slot_size_lt o (short 0))
size-reads_back (o ∷ t) (suc i) rest short l =
    let next : 2 * suc i ≡ suc (suc (2 * i)) = omega arith in
    ap (λ (k : ℕ). little_number 2 (drop k (flat_map slot_size_word (o ∷ t) ++ rest))) next
    ∙ size-reads_back t i rest (λ k bytes e. short (suc k) bytes e) (omega arith)

-- a function of the places that gives each slot's size
sizes-places : (g : ℕ → ℕ) (a : ℕ) (t : List (Option (List ℕ))) → ((i : ℕ) → i < length t → g (a + i) ≡ slot_size (slot_at t i)) → map g (range_with_len a (length t)) ≡ map slot_size t
sizes-places g a [] at = refl
sizes-places g a (o ∷ t) at =
    let here : a ≡ a + 0 = omega arith in
    let first : g a ≡ slot_size o = ap g here ∙ at 0 (omega arith) in
    let rest : map g (range_with_len (a + 1) (length t)) ≡ map slot_size t = sizes-places g (a + 1) t (λ i l. let shift : a + 1 + i ≡ a + suc i = omega arith in ap g shift ∙ at (suc i) (omega arith)) in
    ap (λ (x : ℕ). x ∷ map g (range_with_len (a + 1) (length t))) first ∙ ap (λ (xs : List ℕ). slot_size o ∷ xs) rest

-- the chunks of a table in its sizes and bytes
pub chunks_read-table : (t : List (Option (List ℕ))) (h : ℕ) → IsShort t → chunks_read h (map slot_size t) (flat_map slot_bytes t) ≡ table_entries 2 h t
chunks_read-table [] h short = refl
chunks_read-table (None ∷ t) h short = chunks_read-table t (h + 2) (λ k bytes e. short (suc k) bytes e)
chunks_read-table (Some x ∷ t) h short =
    let l : length x < 65535 = short 0 x refl in
    let rest : List ℕ = flat_map slot_bytes t in
    cond-false (length x == 65535) _ _ (ne_eqb (length x) 65535 (λ e. absurd (omega arith)))
    ∙ ap (λ (bytes : List ℕ). (h, bytes) ∷ chunks_read (h + 2) (map slot_size t) (drop (length x) (x ++ rest))) (take_at x rest (length x) refl)
    ∙ ap (λ (bytes : List ℕ). (h, x) ∷ chunks_read (h + 2) (map slot_size t) bytes) (drop_at x rest (length x) refl)
    ∙ ap (λ (es : List (ℕ × List ℕ)). (h, x) ∷ es) (chunks_read-table t (h + 2) (λ k bytes e. short (suc k) bytes e))

length-sizes : (t : List (Option (List ℕ))) → length (flat_map slot_size_word t) ≡ 2 * length t
length-sizes [] = refl
length-sizes (o ∷ t) = let rest = length-sizes t in omega (arith, rest)

-- the sizes and bytes of a table, behind three bytes
sizes-behind : (t : List (Option (List ℕ))) (a b c : ℕ) (rest : List ℕ) → IsShort t → map (λ i. word_at (a ∷ b ∷ c ∷ flat_map slot_size_word t ++ rest) (3 + 2 * i)) (range_with_len 0 (length t)) ≡ map slot_size t
sizes-behind t a b c rest short = sizes-places (λ i. word_at (a ∷ b ∷ c ∷ flat_map slot_size_word t ++ rest) (3 + 2 * i)) 0 t (λ i l.
    let behind : 3 + 2 * (0 + i) ≡ suc (suc (suc (2 * i))) = omega arith in
    ap (λ (k : ℕ). little_number 2 (drop k (a ∷ b ∷ c ∷ flat_map slot_size_word t ++ rest))) behind ∙ size-reads_back t i rest short l)

bytes-behind : (t : List (Option (List ℕ))) (a b c : ℕ) (rest : List ℕ) → drop (3 + 2 * length t) (a ∷ b ∷ c ∷ flat_map slot_size_word t ++ rest) ≡ rest
bytes-behind t a b c rest =
    let behind : 3 + 2 * length t ≡ suc (suc (suc (2 * length t))) = omega arith in
    ap (λ (k : ℕ). drop k (a ∷ b ∷ c ∷ flat_map slot_size_word t ++ rest)) behind ∙ drop_at (flat_map slot_size_word t) rest (2 * length t) (length-sizes t)

-- a table's sizes and bytes read back as the heap that the table shows
pub body_read-table : (t : List (Option (List ℕ))) → length t < 65536 → IsShort t → body_read (1 ∷ word (length t) ++ flat_map slot_size_word t ++ flat_map slot_bytes t) ≡ Heap (table_map 2 16 t)
unfolding body_read table_map
body_read-table t long short =
    let bytes : List ℕ = 1 ∷ word (length t) ++ flat_map slot_size_word t ++ flat_map slot_bytes t in
    let len : word_at bytes 1 ≡ length t = word-reads_back (length t) (flat_map slot_size_word t ++ flat_map slot_bytes t) long in
    ap (λ (n : ℕ). Heap (from_entries (chunks_read 16 (map (λ i. word_at bytes (3 + 2 * i)) (range_with_len 0 n)) (drop (3 + 2 * n) bytes)))) len
    ∙ ap (λ (sizes : List ℕ). Heap (from_entries (chunks_read 16 sizes (drop (3 + 2 * length t) bytes)))) (sizes-behind t _ _ _ (flat_map slot_bytes t) short)
    ∙ ap (λ (rest : List ℕ). Heap (from_entries (chunks_read 16 (map slot_size t) rest))) (bytes-behind t _ _ _ (flat_map slot_bytes t))
    ∙ ap (λ (es : List (ℕ × List ℕ)). Heap (from_entries es)) (chunks_read-table t 16 short)

body_read-trimmed : (t : List (Option (List ℕ))) → IsTrimmed t → need (table_map 2 16 t) ≤ 65520 → body_read (image (Heap (table_map 2 16 t))) ≡ Heap (table_map 2 16 t)
body_read-trimmed t trimmed room =
    let long = length_le-table t trimmed room in
    ap body_read (image-table t trimmed) ∙ body_read-table t (omega (arith, long)) (λ i bytes at. let l = chunk_length_le t trimmed room i bytes at in omega (arith, l))

-- a heap's image reads back as the heap
pub body_read-image : (m : ChunkMap) → is_heap_map m ≡ true → body_read (image (Heap m)) ≡ Heap m
body_read-image m heap =
    let shown = heap_map-table m heap in
    let room : need (table_map 2 16 shown.0) ≤ 65520 = subst (λ n. need n ≤ 65520) shown.2 (need_le m heap) in
    subst (λ n. body_read (image (Heap n)) ≡ Heap n) (sym shown.2) (body_read-trimmed shown.0 shown.1 room)

-- so does a raw body's
pub body_read-raw : (bytes : List ℕ) → body_read (image (Raw bytes)) ≡ Raw bytes
unfolding body_read image
body_read-raw bytes = refl

-- and so does each body that can be
pub body_read-body : (body : Body) → is_valid_body body ≡ true → body_read (image body) ≡ body
body_read-body (Raw bytes) valid = body_read-raw bytes
body_read-body (Heap m) valid = body_read-image m valid

-- two bodies with one image are one
pub image-injective_body : (a b : Body) → is_valid_body a ≡ true → is_valid_body b ≡ true → image a ≡ image b → a ≡ b
image-injective_body a b valid other same = sym (body_read-body a valid) ∙ ap body_read same ∙ body_read-body b other

pub length_image-empty : length (image (Heap empty)) ≡ 3
length_image-empty =
    ap (λ m. length (image (Heap m))) (sym (table_map-nil {X = List ℕ} 2 16)) ∙ ap length (image-table [] (trimmed-nil (List ℕ)))

-- the bytes of a table's chunks are no more than their space
bytes_le : (t : List (Option (List ℕ))) → length (flat_map slot_bytes t) ≤ sum_by slot_space t
bytes_le [] = omega arith
bytes_le (None ∷ t) =
    let rest = bytes_le t in
    let whole = sum_by-cons slot_space None t in
    omega (arith, rest, whole)
bytes_le (Some x ∷ t) =
    let rest = bytes_le t in
    let whole = sum_by-cons slot_space (Some x) t in
    let here = space_of_ge (length x) in
    let parts = length-append x (flat_map slot_bytes t) in
    omega (arith, rest, whole, here, parts)

-- an image's length, by its table
pub length_image-table : (t : List (Option (List ℕ))) → IsTrimmed t → length (image (Heap (table_map 2 16 t))) ≡ 3 + 2 * length t + length (flat_map slot_bytes t)
length_image-table t trimmed =
    let parts = length-append (flat_map slot_size_word t) (flat_map slot_bytes t) in
    let sizes = length-sizes t in
    ap length (image-table t trimmed) ∙ omega (arith, parts, sizes)

-- a heap's image is shorter than what the heap needs
pub length_image_le_need : (m : ChunkMap) → is_heap_map m ≡ true → length (image (Heap m)) ≤ need m
length_image_le_need m heap =
    let shown = heap_map-table m heap in
    let of_table : length (image (Heap (table_map 2 16 shown.0))) ≤ need (table_map 2 16 shown.0) =
    let long = length_image-table shown.0 shown.1 in
    let room = need-table shown.0 shown.1 in
    let bytes = bytes_le shown.0 in
    omega (arith, long, room, bytes) in
    subst (λ n. length (image (Heap n)) ≤ need n) (sym shown.2) of_table

pub length_image_le : (m : ChunkMap) → is_heap_map m ≡ true → length (image (Heap m)) ≤ 65521
length_image_le m heap =
    let l = length_image_le_need m heap in
    let room = need_le m heap in
    omega (arith, l, room)

length_image-raw : (bytes : List ℕ) → length (image (Raw bytes)) ≡ length bytes + 1
unfolding image
length_image-raw bytes = omega arith

-- an image has at most 65,521 bytes
pub length_image_body_le : (body : Body) → is_valid_body body ≡ true → length (image body) ≤ 65521
length_image_body_le (Raw bytes) valid =
    let room : length bytes ≤ 65520 = leb-true (length bytes) 65520 valid in
    let is = length_image-raw bytes in
    omega (arith, room, is)
length_image_body_le (Heap m) valid = length_image_le m valid

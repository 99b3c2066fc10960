-- The image of a heap, as a table packed in bytes.
use Rattle.std.proofs.Common.{◌≡◌, ℕ, suc, ◌+◌, ◌-◌, ◌<◌, ◌≤◌, true, List, [], ◌∷◌, ◌++◌, length, get_or, set, take, drop, replicate, Option, Some, None, unwrap_or, flat_map, refl, sym, ap, subst, ◌∙◌, arith, length-append, append_assoc}
use Rattle.std.specs.Prelude.{◌↔◌, IsSome}
use Rattle.std.proofs.lemmas.List.{append-nil, set_at, take_more, take_all, length-take-le, length-replicate, get_or-append_right, get_or-replicate}
use Rattle.std.proofs.lemmas.List.Sums.{sum_by-cons, sum_by-append, sum_by-take-le}
use Rattle.std.proofs.lemmas.List.Folds.{sum_by-replicate}
use Rattle.std.specs.Option.{option_map}
use Rattle.geos_model.proofs.Table.{slot_space, table_map, IsTrimmed}
use Rattle.geos_model.specs.Heap.{ChunkMap, need, is_heap_map}
use Rattle.geos_model.specs.Image.{image}
use Rattle.geos_model.specs.Words.{word, word_at}
use Rattle.geos_model.proofs.HeapTables.{image-table, slot_size_word, slot_bytes, need_le, heap_map-table, space_of_ge}
use Rattle.geos_model.proofs.Images.{word-reads_back}
use Rattle.heap_images.specs.Packed.{PackedSlots, IsPackedTable, heads, chunks, packed, slots_in}
use Rattle.heap_images.specs.Slots.{space_in, need_in}
use Rattle.heap_images.specs.HeapImage.{IsHeapImage, HasHeapTable}
use Rattle.heap_images.proofs.SlotLemmas.{need_is, is_heap}
use Rattle.heap_images.proofs.PackedLemmas.{length-packed, length-slots_in, slots_in-packed, slot_some, slot_length, chunks-append, chunks-cons}
use Rattle.geos_model.specs.declared.command.Body.TheVariants as bodies

-- a chunk takes no less than its bytes
pub length-chunks_le : (t : PackedSlots) → length (chunks t) ≤ space_in t
length-chunks_le [] = omega arith
length-chunks_le (None ∷ t) = omega (arith, length-chunks_le t, sum_by-cons slot_space None t)
length-chunks_le (Some b ∷ t) = omega (arith, length-chunks_le t, sum_by-cons slot_space (Some b) t, length-append b (chunks t), space_of_ge (length b))

-- ---- the image

heads-sizes : (t : PackedSlots) → flat_map slot_size_word t ≡ heads t
heads-sizes [] = refl
heads-sizes (None ∷ t) = ap (λ (l : List ℕ). word 65535 ++ l) (heads-sizes t)
heads-sizes (Some b ∷ t) = ap (λ (l : List ℕ). word (length b) ++ l) (heads-sizes t)

chunks-bytes : (t : PackedSlots) → flat_map slot_bytes t ≡ chunks t
chunks-bytes [] = refl
chunks-bytes (None ∷ t) = chunks-bytes t
chunks-bytes (Some b ∷ t) = ap (λ (l : List ℕ). b ++ l) (chunks-bytes t)

pub image_is : (t : PackedSlots) → IsTrimmed t → image (bodies.Heap (table_map 2 16 t)) ≡ 1 ∷ word (length t) ++ packed t
unfolding packed
image_is t trimmed =
    let front = 1 ∷ word (length t) in
    image-table t trimmed ∙ (ap (λ (l : List ℕ). front ++ (l ++ flat_map slot_bytes t)) (heads-sizes t) ∙ ap (λ (l : List ℕ). front ++ (heads t ++ l)) (chunks-bytes t))

-- tables with the same bytes are one
pub packed_same : (s t : PackedSlots) → length (chunks s) < 65535 → length (chunks t) < 65535 → length s ≡ length t → packed s ≡ packed t → s ≡ t
packed_same s t small_s small_t count is =
    sym (slots_in-packed s small_s) ∙ (ap (λ (n : ℕ). slots_in n (packed s)) count ∙ (ap (slots_in (length t)) is ∙ slots_in-packed t small_t))

pub size_le : (t : PackedSlots) (i size : ℕ) → i < length t → Some size ≡ option_map length (get_or t i None) → size ≤ length (chunks t)
size_le t i size l is =
    let slot = slot_some (get_or t i None) size is in
    omega (arith, slot_length t i l, ap (λ (o : Option (List ℕ)). length (unwrap_or o [])) slot.1, slot.2)

-- ---- bytes that are no image

-- a heap's image, by its table
image_parts : (bytes : List ℕ) → IsHeapImage bytes → (t : PackedSlots) × IsTrimmed t × (need_in t ≤ 65520) × (bytes ≡ 1 ∷ word (length t) ++ packed t)
unfolding IsHeapImage
image_parts bytes is =
    let shown = heap_map-table is.0 is.1 in let t = shown.0 in
    let room : need_in t ≤ 65520 = omega (arith, need_is t shown.1, ap need shown.2, need_le is.0 is.1) in
    (t, shown.1, room, sym is.2 ∙ (ap (λ (x : ChunkMap). image (bodies.Heap x)) shown.2 ∙ image_is t shown.1))

pub no_image_begin : (bytes : List ℕ) → ((n : ℕ) (rest : List ℕ) → bytes ≡ 1 ∷ word n ++ rest → ⊥) → ¬ IsHeapImage bytes
no_image_begin bytes other is = let parts = image_parts bytes is in other (length parts.0) (packed parts.0) parts.3

packed_short : (t : PackedSlots) → need_in t ≤ 65520 → length (packed t) ≤ 65504
packed_short t room = omega (arith, length-packed t, length-chunks_le t)

pub no_image_long : (bytes : List ℕ) → 65523 < length bytes → ¬ IsHeapImage bytes
no_image_long bytes long is =
    let parts = image_parts bytes is in
    absurd (omega (arith, packed_short parts.0 parts.2, ap length parts.3))

-- an image of a table of n slots
same_parts : (n : ℕ) (bytes : List ℕ) (t : PackedSlots) → n < 65536 → length t < 65536 → bytes ≡ 1 ∷ word n ++ drop 3 bytes → bytes ≡ 1 ∷ word (length t) ++ packed t → (length t ≡ n) × (packed t ≡ drop 3 bytes)
same_parts n bytes t n_word t_word begins is =
    let e : 1 ∷ word (length t) ++ packed t ≡ 1 ∷ word n ++ drop 3 bytes = sym is ∙ begins in
    let same : length t ≡ n = sym (word-reads_back (length t) (packed t) t_word) ∙ (ap (λ (l : List ℕ). word_at l 1) e ∙ word-reads_back n (drop 3 bytes) n_word) in
    (same, sym (ap (drop 3) is))

pub no_image_table : (n : ℕ) (bytes rest : List ℕ) → n < 65536 → bytes ≡ 1 ∷ word n ++ drop 3 bytes → rest ≡ drop 3 bytes → ((t : PackedSlots) → length t ≡ n → packed t ≡ rest → ⊥) → ¬ IsHeapImage bytes
no_image_table n bytes rest n_word begins behind none is =
    let parts = image_parts bytes is in let room = parts.2 in
    let same = same_parts n bytes parts.0 n_word (omega arith) begins parts.3 in
    none parts.0 same.0 (same.1 ∙ sym behind)

pub no_image_heap : (n : ℕ) (bytes rest : List ℕ) (t : PackedSlots) → n < 65536 → bytes ≡ 1 ∷ word n ++ drop 3 bytes → rest ≡ drop 3 bytes → length rest ≤ 65520 → length t ≡ n → packed t ≡ rest → (IsTrimmed t → need_in t ≤ 65520 → ⊥) → ¬ IsHeapImage bytes
no_image_heap n bytes rest t n_word begins behind short count is_rest none is =
    let parts = image_parts bytes is in let s = parts.0 in let room = parts.2 in
    let same = same_parts n bytes s n_word (omega arith) begins parts.3 in
    let both : packed s ≡ packed t = same.1 ∙ (sym behind ∙ sym is_rest) in
    let there : s ≡ t = packed_same s t (omega (arith, length-chunks_le s, parts.2)) (omega (arith, length-packed t, ap length is_rest)) (same.0 ∙ sym count) both in
    none (subst (λ (x : PackedSlots). IsTrimmed x) there parts.1) (subst (λ (x : PackedSlots). need_in x ≤ 65520) there parts.2)

-- ---- bytes that are one

pub heap_table : (n : ℕ) (bytes rest : List ℕ) → bytes ≡ 1 ∷ word n ++ drop 3 bytes → rest ≡ drop 3 bytes → IsPackedTable n rest → IsTrimmed (slots_in n rest) × (need_in (slots_in n rest) ≤ 65520) → HasHeapTable n bytes
heap_table n bytes rest begins behind table heap = record {
  begins = begins;
  table = subst (IsPackedTable n) behind table;
  trimmed = subst (λ xs. IsTrimmed (slots_in n xs)) behind heap.0;
  fits = subst (λ xs. need_in (slots_in n xs) ≤ 65520) behind heap.1;
}

-- of the heap of the table that stands in it
pub image_again : (n : ℕ) (bytes : List ℕ) (m : ChunkMap) → HasHeapTable n bytes → m ≡ table_map 2 16 (slots_in n (drop 3 bytes)) → (image (bodies.Heap m) ≡ bytes) × (is_heap_map m ≡ true)
image_again n bytes m has shows =
    let t = slots_in n (drop 3 bytes) in (
      ap (λ (x : ChunkMap). image (bodies.Heap x)) shows ∙ (image_is t has.trimmed ∙ (ap (λ (k : ℕ). 1 ∷ word k ++ packed t) (length-slots_in n (drop 3 bytes)) ∙ (ap (λ (l : List ℕ). 1 ∷ word n ++ l) (sym has.table.whole) ∙ sym has.begins))),
      ap is_heap_map shows ∙ is_heap t has.trimmed has.fits,
    )

image_there : (n : ℕ) (bytes : List ℕ) → HasHeapTable n bytes → IsHeapImage bytes
unfolding IsHeapImage
image_there n bytes has = let m = table_map 2 16 (slots_in n (drop 3 bytes)) in let again = image_again n bytes m has refl in (m, again.1, again.0)

-- the test for one finds none, or one
pub found_none : (bytes : List ℕ) → ¬ IsHeapImage bytes → IsSome {T = ℕ} None ↔ IsHeapImage bytes
found_none bytes none = (λ found. absurd (cc found), λ is. absurd (none is))

pub found_some : (n : ℕ) (bytes : List ℕ) → HasHeapTable n bytes → IsSome (Some n) ↔ IsHeapImage bytes
found_some n bytes has = (λ found. image_there n bytes has, λ is. refl)

pub no_such_heap : (bytes : List ℕ) → IsSome {T = ℕ} None ↔ IsHeapImage bytes → (m : ChunkMap) → is_heap_map m ≡ true → image (bodies.Heap m) ≡ bytes → ⊥
unfolding IsHeapImage
no_such_heap bytes none m valid is = let found = none.1 (m, valid, is) in absurd (cc found)

-- ---- slot by slot

-- the slots so far are filled
abbrev pub so_far : PackedSlots → ℕ → PackedSlots
so_far cs i = take i cs ++ replicate (length cs - i) None

pub so_far_none : (cs : PackedSlots) (i : ℕ) → i < length cs → get_or (so_far cs i) i None ≡ None
so_far_none cs i l = get_or-append_right (take i cs) (replicate (length cs - i) None) i i None (length-take-le i cs (omega arith)) (omega arith) ∙ get_or-replicate (length cs - i) (i - i) None None (omega arith)

more_by : (n i : ℕ) → i < n → n - i ≡ suc (n - (i + 1))
more_by n i l = omega arith

pub so_far_more : (cs : PackedSlots) (i : ℕ) (o : Option (List ℕ)) → i < length cs → get_or cs i None ≡ o → set (so_far cs i) i o ≡ so_far cs (i + 1)
so_far_more cs i o l is =
    let k = length cs - (i + 1) in let front : length (take i cs) ≡ i = length-take-le i cs (omega arith) in
    let rest : replicate {A = Option (List ℕ)} (length cs - i) None ≡ None ∷ replicate k None = ap (λ (m : ℕ). replicate m None) (more_by (length cs) i l) in
    ap (λ (r : PackedSlots). set (take i cs ++ r) i o) rest ∙ (set_at (take i cs) None (replicate k None) o i front
    ∙ (sym (append_assoc (take i cs) (o ∷ []) (replicate k None)) ∙ (ap (λ (p : Option (List ℕ)). (take i cs ++ p ∷ []) ++ replicate k None) (sym is) ∙ ap (λ (r : PackedSlots). r ++ replicate k None) (sym (take_more cs i None l)))))

pub so_far_all : (cs : PackedSlots) (i : ℕ) → length cs ≤ i → so_far cs i ≡ cs
so_far_all cs i past = let none : length cs - i ≡ 0 = omega arith in ap (λ (k : ℕ). take i cs ++ replicate k None) none ∙ (append-nil (take i cs) ∙ take_all i cs past)

pub length-so_far : (cs : PackedSlots) (i : ℕ) → i ≤ length cs → length (so_far cs i) ≡ length cs
length-so_far cs i le = omega (arith, length-append (take i cs) (replicate (length cs - i) None), length-take-le i cs le, length-replicate {A = Option (List ℕ)} (length cs - i) None)

-- the bytes of one chunk more
pub chunks_more : (t : PackedSlots) (i : ℕ) → i < length t → length (chunks (take (i + 1) t)) ≡ length (chunks (take i t)) + length (unwrap_or (get_or t i None) [])
chunks_more t i l =
    let o = get_or t i None in
    omega (arith, ap (λ (s : PackedSlots). length (chunks s)) (take_more t i None l), ap length (chunks-append (take i t) (o ∷ [])), length-append (chunks (take i t)) (chunks (o ∷ [])), ap length (chunks-cons o []), length-append (unwrap_or o []) [])

-- what they take
space-so_far : (cs : PackedSlots) (i : ℕ) → space_in (so_far cs i) ≤ space_in cs
space-so_far cs i = let k = length cs - i in omega (arith, sum_by-append slot_space (take i cs) (replicate k None), sum_by-replicate slot_space k None, sum_by-take-le slot_space cs i)

pub put_room : (cs now : PackedSlots) (i : ℕ) (o : Option (List ℕ)) → now ≡ so_far cs i → i < length cs → get_or cs i None ≡ o → need_in cs ≤ 65520 → need_in (set now i o) ≤ 65520
put_room cs now i o is l there room =
    let same : set now i o ≡ so_far cs (i + 1) = ap (λ (x : PackedSlots). set x i o) is ∙ so_far_more cs i o l there in
    omega (arith, ap space_in same, ap length same, length-so_far cs (i + 1) (omega arith), space-so_far cs (i + 1))

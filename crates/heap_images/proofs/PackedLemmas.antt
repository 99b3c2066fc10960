-- A table of chunks as bytes: its parts are found in them again, and bytes are told that are such a table.
use Rattle.std.proofs.Common.{◌≡◌, ◌≢◌, ℕ, zero, suc, ◌+◌, ◌*◌, ◌-◌, ◌/◌, ◌%◌, ◌<◌, ◌≤◌, List, [], ◌∷◌, ◌++◌, map, length, get_or, set, take, drop, Option, Some, None, unwrap_or, max, ◌==◌, if◌then◌else◌, refl, sym, ap, ◌∙◌, inl, inr, arith, length-append, append_assoc}
use Rattle.std.proofs.lemmas.Bool.{ne_eqb, cond-true, cond-false, eqb-true, cases_Bool}
use Rattle.std.proofs.lemmas.List.{append-nil, take_at, drop_at, length-take-le, length-drop, set_split, set-get_or, take-append-drop, take_all, drop-drop, take-take, drop-take}
use Rattle.std.specs.Option.{option_map}
use Rattle.byteorder.specs.Endian.{little_number}
use Rattle.geos_model.specs.Words.{word, word_at}
use Rattle.geos_model.proofs.Images.{word-reads_back}
use Rattle.heap_images.specs.Packed.{PackedSlots, packed_size, heads, chunks, packed, packed_words, total, cut, slots_in}
use Rattle.std.specs.List as list

-- ---- a list in three parts

-- its middle part is read
module _ (A X B : List ℕ) (at : ℕ) (front : length A ≡ at) where
  pub slice-mid : (j : ℕ) → at + length X ≡ j → list.between at j (A ++ (X ++ B)) ≡ X
  slice-mid j end = ap (λ (l : List ℕ). take (j - at) l) (drop_at A (X ++ B) at front) ∙ take_at X B (j - at) (omega arith)

-- ---- the parts of a table

pub length-heads : (t : PackedSlots) → length (heads t) ≡ 2 * length t
length-heads [] = refl
length-heads (o ∷ t) = omega (arith, length-heads t)

pub heads-append : (s t : PackedSlots) → heads (s ++ t) ≡ heads s ++ heads t
heads-append [] t = refl
heads-append (o ∷ s) t = ap (λ (l : List ℕ). word (packed_size o) ++ l) (heads-append s t)

pub chunks-cons : (o : Option (List ℕ)) (t : PackedSlots) → chunks (o ∷ t) ≡ unwrap_or o [] ++ chunks t
chunks-cons None t = refl
chunks-cons (Some b) t = refl

pub chunks-append : (s t : PackedSlots) → chunks (s ++ t) ≡ chunks s ++ chunks t
chunks-append [] t = refl
chunks-append (None ∷ s) t = chunks-append s t
chunks-append (Some b ∷ s) t = ap (λ (l : List ℕ). b ++ l) (chunks-append s t) ∙ sym (append_assoc b (chunks s) (chunks t))

size_le : (o : Option (List ℕ)) → packed_size o ≤ max 65535 (length (unwrap_or o []))
size_le None = omega arith
size_le (Some b) = omega arith

pub length-packed : (t : PackedSlots) → length (packed t) ≡ 2 * length t + length (chunks t)
unfolding packed
length-packed t = omega (arith, length-append (heads t) (chunks t), length-heads t)

pub length-chunks-take : (i : ℕ) (t : PackedSlots) → length (chunks (take i t)) ≤ length (chunks t)
length-chunks-take i t = omega (arith, length-append (chunks (take i t)) (chunks (drop i t)), ap length (chunks-append (take i t) (drop i t)), ap (λ (s : PackedSlots). length (chunks s)) (take-append-drop i t))

-- ---- what is read of the bytes

-- a size is a word
module _ (o : Option (List ℕ)) (t : PackedSlots) (small : length (chunks (o ∷ t)) < 65535) where
  rest_small : length (chunks t) < 65535
  rest_small = omega (arith, ap length (chunks-cons o t), length-append (unwrap_or o []) (chunks t))

  size_small : packed_size o < 65536
  size_small = omega (arith, size_le o, ap length (chunks-cons o t), length-append (unwrap_or o []) (chunks t))

  size-reads_back : (rest : List ℕ) → word_at (heads (o ∷ t) ++ rest) 0 ≡ packed_size o
  size-reads_back rest = word-reads_back (packed_size o) (heads t ++ rest) size_small

-- the first words
pub words-heads : (i : ℕ) (t : PackedSlots) (rest : List ℕ) → i ≤ length t → length (chunks t) < 65535 → packed_words i (heads t ++ rest) ≡ map packed_size (take i t)
words-heads zero t rest l small = refl
words-heads (suc i) [] rest l small = absurd (omega arith)
words-heads (suc i) (o ∷ t) rest l small =
    ap (λ (n : ℕ). n ∷ packed_words i (heads t ++ rest)) (size-reads_back o t small rest) ∙ ap (λ (s : List ℕ). packed_size o ∷ s) (words-heads i t rest (omega arith) (rest_small o t small))

-- one word
pub word-heads : (t : PackedSlots) (i : ℕ) (rest : List ℕ) → i < length t → length (chunks t) < 65535 → word_at (heads t ++ rest) (2 * i) ≡ packed_size (get_or t i None)
word-heads [] i rest l small = absurd (omega arith)
word-heads (o ∷ t) zero rest l small = size-reads_back o t small rest
word-heads (o ∷ t) (suc i) rest l small =
    let low : 2 * suc i ≡ suc (suc (2 * i)) = omega arith in
    ap (λ (n : ℕ). word_at (heads (o ∷ t) ++ rest) n) low ∙ word-heads t i rest (omega arith) (rest_small o t small)

-- how many bytes the chunks have, by their sizes
pub total-sizes : (t : PackedSlots) → length (chunks t) < 65535 → total (map packed_size t) ≡ length (chunks t)
total-sizes [] small = refl
total-sizes (None ∷ t) small = total-sizes t small
total-sizes (Some b ∷ t) small =
    let both = length-append b (chunks t) in
    cond-false _ _ _ (ne_eqb (length b) 65535 (λ e. absurd (omega arith))) ∙ (ap (λ (n : ℕ). length b + n) (total-sizes t (omega arith)) ∙ sym both)

-- the chunks again
pub cut-chunks : (t : PackedSlots) (rest : List ℕ) → length (chunks t) < 65535 → cut (map packed_size t) (chunks t ++ rest) ≡ t
cut-chunks [] rest small = refl
cut-chunks (None ∷ t) rest small = ap (λ (s : PackedSlots). None ∷ s) (cut-chunks t rest small)
cut-chunks (Some b ∷ t) rest small =
    let both = length-append b (chunks t) in let whole = append_assoc b (chunks t) rest in
    cond-false _ _ _ (ne_eqb (length b) 65535 (λ e. absurd (omega arith)))
    ∙ (ap (λ (l : List ℕ). Some (take (length b) l) ∷ cut (map packed_size t) (drop (length b) l)) whole
    ∙ (ap (λ (l : List ℕ). Some l ∷ cut (map packed_size t) (drop (length b) (b ++ (chunks t ++ rest)))) (take_at b (chunks t ++ rest) (length b) refl)
    ∙ (ap (λ (l : List ℕ). Some b ∷ cut (map packed_size t) l) (drop_at b (chunks t ++ rest) (length b) refl) ∙ ap (λ (s : PackedSlots). Some b ∷ s) (cut-chunks t rest (omega arith)))))

-- the table again
pub slots_in-packed : (t : PackedSlots) → length (chunks t) < 65535 → slots_in (length t) (packed t) ≡ t
unfolding slots_in packed
slots_in-packed t small =
    ap (λ (s : List ℕ). cut s (drop (2 * length t) (heads t ++ chunks t))) (words-heads (length t) t (chunks t) (omega arith) small ∙ ap (map packed_size) (take_all (length t) t (omega arith)))
    ∙ (ap (cut (map packed_size t)) (drop_at (heads t) (chunks t) (2 * length t) (length-heads t) ∙ sym (append-nil (chunks t))) ∙ cut-chunks t [] small)

length-words : (n : ℕ) (xs : List ℕ) → length (packed_words n xs) ≡ n
length-words zero xs = refl
length-words (suc n) xs = ap suc (length-words n (drop 2 xs))

length-cut : (sizes bytes : List ℕ) → length (cut sizes bytes) ≡ length sizes
length-cut [] bytes = refl
length-cut (size ∷ sizes) bytes = elim (cases_Bool (size == 65535)) [
  | inl e ↦ ap length (cond-true _ _ _ e) ∙ ap suc (length-cut sizes bytes)
  | inr e ↦ ap length (cond-false _ _ _ e) ∙ ap suc (length-cut sizes (drop size bytes))
]

pub length-slots_in : (n : ℕ) (xs : List ℕ) → length (slots_in n xs) ≡ n
unfolding slots_in
length-slots_in n xs = length-cut (packed_words n xs) (drop (2 * n) xs) ∙ length-words n xs

-- ---- a table's struct, opened and closed

-- the fields of a table and the slots that they show
pub record Opened (n : ℕ) (xs : List ℕ) (t : PackedSlots) : Type 0 where
  pub count : n ≡ length t
  pub bytes : xs ≡ packed t
  pub long : length xs ≡ 2 * length t + length (chunks t)
  pub small : length (chunks t) < 65535
  pub room : 2 * length t + length (chunks t) ≤ 65520

pub closed : (n : ℕ) (xs : List ℕ) (t : PackedSlots) → n ≡ length t → xs ≡ packed t → length xs ≤ 65520 → Opened n xs t
closed n xs t count is le =
    let long : length xs ≡ 2 * length t + length (chunks t) = ap length is ∙ length-packed t in
    record { count = count; bytes = is; long = long; small = omega arith; room = omega arith }

pub opened : (n : ℕ) (xs : List ℕ) (t : PackedSlots) → slots_in n xs ≡ t → (xs ≡ packed (slots_in n xs)) × (length xs ≤ 65520) → Opened n xs t
opened n xs t view held = closed n xs t (sym (length-slots_in n xs) ∙ ap length view) (held.0 ∙ ap packed view) held.1

-- ---- slots at the end

-- ---- one slot

-- the bytes of a slot's chunk, and where they stand
abbrev pub bytes_of : PackedSlots → ℕ → List ℕ
bytes_of t i = unwrap_or (get_or t i None) []

abbrev pub place_of : PackedSlots → ℕ → ℕ
place_of t i = 2 * length t + length (chunks (take i t))

-- the chunks before a slot, its own and those behind it
chunks-set : (t : PackedSlots) (i : ℕ) (o : Option (List ℕ)) → i < length t → length (chunks (set t i o)) ≡ length (chunks (take i t)) + (length (unwrap_or o []) + length (chunks (drop (suc i) t)))
chunks-set t i o l =
    let A = take i t in let B = drop (suc i) t in
    let is : chunks (set t i o) ≡ chunks A ++ (unwrap_or o [] ++ chunks B) = ap chunks (set_split t i o l) ∙ (chunks-append A (o ∷ B) ∙ ap (λ (s : List ℕ). chunks A ++ s) (chunks-cons o B)) in
    omega (arith, ap length is, length-append (chunks A) (unwrap_or o [] ++ chunks B), length-append (unwrap_or o []) (chunks B))

chunks-slot : (t : PackedSlots) (i : ℕ) → i < length t → length (chunks t) ≡ length (chunks (take i t)) + (length (bytes_of t i) + length (chunks (drop (suc i) t)))
chunks-slot t i l = ap (λ (s : PackedSlots). length (chunks s)) (sym (set-get_or t i None)) ∙ chunks-set t i (get_or t i None) l

-- a change of a slot changes what the chunks take by as much
pub length-chunks-set : (t : PackedSlots) (i : ℕ) (o : Option (List ℕ)) → i < length t → length (chunks (set t i o)) + length (bytes_of t i) ≡ length (chunks t) + length (unwrap_or o [])
length-chunks-set t i o l = omega (arith, chunks-slot t i l, chunks-set t i o l)

-- the chunks before a slot and its own are no more than all
pub place_within : (t : PackedSlots) (i : ℕ) → i < length t → length (chunks (take i t)) + length (bytes_of t i) ≤ length (chunks t)
place_within t i l = omega (arith, chunks-slot t i l)

module _ (t : PackedSlots) (i : ℕ) (l : i < length t) where
  -- a table's bytes, with another size and other bytes at the slot
  abbrev at_slot : ℕ → List ℕ → List ℕ
  at_slot size b = heads (take i t) ++ (word size ++ (heads (drop (suc i) t) ++ (chunks (take i t) ++ (b ++ chunks (drop (suc i) t)))))

  packed-set : (o : Option (List ℕ)) → packed (set t i o) ≡ at_slot (packed_size o) (unwrap_or o [])
  unfolding packed
  packed-set o =
      let A = take i t in let B = drop (suc i) t in
      ap packed (set_split t i o l) ∙ (ap (λ (h : List ℕ). h ++ chunks (A ++ o ∷ B)) (heads-append A (o ∷ B))
      ∙ (ap (λ (h : List ℕ). (heads A ++ (word (packed_size o) ++ heads B)) ++ h) (chunks-append A (o ∷ B) ∙ ap (λ (h : List ℕ). chunks A ++ h) (chunks-cons o B)) ∙ simp append_assoc))

  packed-slot : packed t ≡ at_slot (packed_size (get_or t i None)) (bytes_of t i)
  packed-slot = ap packed (sym (set-get_or t i None)) ∙ packed-set (get_or t i None)

  module _ (size : ℕ) where
    abbrev front : List ℕ
    front = heads (take i t) ++ (word size ++ (heads (drop (suc i) t) ++ chunks (take i t)))

    front_length : length front ≡ place_of t i
    front_length =
        let A = take i t in let B = drop (suc i) t in
        omega (arith, length-append (heads A) (word size ++ (heads B ++ chunks A)), length-append (heads B) (chunks A), length-heads A, length-heads B, length-take-le i t (omega arith), length-drop (suc i) t)

    at_slot_is : (b : List ℕ) → at_slot size b ≡ front ++ (b ++ chunks (drop (suc i) t))
    at_slot_is b = simp append_assoc

  -- a chunk is read
  pub chunk_is : (at j : ℕ) → at ≡ place_of t i → at + length (bytes_of t i) ≡ j → list.between at j (packed t) ≡ bytes_of t i
  chunk_is at j place end =
      let size = packed_size (get_or t i None) in let b = bytes_of t i in
      ap (λ (h : List ℕ). list.between at j h) (packed-slot ∙ at_slot_is size b) ∙ slice-mid (front size) b (chunks (drop (suc i) t)) at (omega (arith, front_length size)) j end

-- the size word of a slot
pub size_is : (t : PackedSlots) (i : ℕ) → i < length t → length (chunks t) < 65535 → word_at (packed t) (2 * i) ≡ packed_size (get_or t i None)
unfolding packed
size_is t i l small = word-heads t i (chunks t) l small

-- what stands before a slot's bytes
pub total-before : (t : PackedSlots) (i : ℕ) → i ≤ length t → length (chunks t) < 65535 → total (packed_words i (packed t)) ≡ length (chunks (take i t))
unfolding packed
total-before t i l small =
    ap total (words-heads i t (chunks t) l small) ∙ total-sizes (take i t) (let le = length-chunks-take i t in omega arith)

-- ---- the sizes one by one

word-drop : (k : ℕ) (xs : List ℕ) → word_at (drop 2 xs) (2 * k) ≡ word_at xs (2 * suc k)
word-drop k xs = let e : 2 + 2 * k ≡ 2 * suc k = omega arith in ap (little_number 2) (drop-drop (2 * k) 2 xs ∙ ap (λ (n : ℕ). drop n xs) e)

words_more : (k : ℕ) (xs : List ℕ) → packed_words (k + 1) xs ≡ packed_words k xs ++ word_at xs (2 * k) ∷ []
words_more zero xs = refl
words_more (suc k) xs =
    let e : suc k + 1 ≡ suc (k + 1) = omega arith in
    ap (λ (n : ℕ). packed_words n xs) e ∙ (ap (λ (l : List ℕ). word_at xs 0 ∷ l) (words_more k (drop 2 xs)) ∙ ap (λ (n : ℕ). word_at xs 0 ∷ (packed_words k (drop 2 xs) ++ n ∷ [])) (word-drop k xs))

-- what a size adds
abbrev pub live_size : ℕ → ℕ
live_size size = if size == 65535 then 0 else size

total-cons : (size : ℕ) (sizes : List ℕ) → total (size ∷ sizes) ≡ live_size size + total sizes
total-cons size sizes = elim (cases_Bool (size == 65535)) [
  | inl e ↦ let z : 0 + total sizes ≡ total sizes = omega arith in cond-true _ _ _ e ∙ (sym z ∙ ap (λ (n : ℕ). n + total sizes) (sym (cond-true _ _ _ e)))
  | inr e ↦ cond-false _ _ _ e ∙ ap (λ (n : ℕ). n + total sizes) (sym (cond-false _ _ _ e))
]

total_more : (sizes : List ℕ) (size : ℕ) → total (sizes ++ size ∷ []) ≡ total sizes + live_size size
total_more [] size = omega (arith, total-cons size [])
total_more (s ∷ sizes) size = omega (arith, total-cons s (sizes ++ size ∷ []), total-cons s sizes, total_more sizes size)

-- one more size is counted, or passed over
pub counted : (xs : List ℕ) (k sum size : ℕ) → sum ≡ total (packed_words k xs) → size ≡ word_at xs (2 * k) → size ≢ 65535 → sum + size ≡ total (packed_words (k + 1) xs)
counted xs k sum size so_far is live =
    ap (λ (n : ℕ). n + size) so_far ∙ (ap (λ (n : ℕ). total (packed_words k xs) + n) (sym (cond-false _ _ _ (ne_eqb size 65535 live)))
    ∙ (sym (total_more (packed_words k xs) size) ∙ (ap (λ (n : ℕ). total (packed_words k xs ++ n ∷ [])) is ∙ ap total (sym (words_more k xs)))))

pub passed : (xs : List ℕ) (k sum size : ℕ) → sum ≡ total (packed_words k xs) → size ≡ word_at xs (2 * k) → size ≡ 65535 → sum ≡ total (packed_words (k + 1) xs)
passed xs k sum size so_far is gap =
    let z : sum ≡ sum + 0 = omega arith in
    z ∙ (ap (λ (n : ℕ). n + 0) so_far ∙ (ap (λ (n : ℕ). total (packed_words k xs) + live_size n) (sym gap)
    ∙ (sym (total_more (packed_words k xs) size) ∙ (ap (λ (n : ℕ). total (packed_words k xs ++ n ∷ [])) is ∙ ap total (sym (words_more k xs))))))

-- ---- a slot by its size word

pub size_none : (o : Option (List ℕ)) (size : ℕ) → size ≡ packed_size o → size ≡ 65535 → length (unwrap_or o []) < 65535 → None ≡ option_map length o
size_none None size is gap small = refl
size_none (Some b) size is gap small = absurd (omega arith)

pub size_some : (o : Option (List ℕ)) (size : ℕ) → size ≡ packed_size o → size ≢ 65535 → Some size ≡ option_map length o
size_some None size is live = absurd (live is)
size_some (Some b) size is live = ap Some is

pub slot_length : (t : PackedSlots) (i : ℕ) → i < length t → length (bytes_of t i) ≤ length (chunks t)
slot_length t i l = let e = length-chunks-set t i None l in omega (arith, e)

-- the slot behind a size
pub slot_some : (o : Option (List ℕ)) (size : ℕ) → Some size ≡ option_map length o → (b : List ℕ) × (o ≡ Some b) × (size ≡ length b)
slot_some None size is = cc
slot_some (Some b) size is = (b, refl, cc)

-- ---- bytes that are a table

take-more : (m n : ℕ) (xs : List ℕ) → take m xs ++ take n (drop m xs) ≡ take (m + n) xs
take-more m n xs =
    ap (λ (l : List ℕ). l ++ take n (drop m xs)) (sym (take-take m (m + n) xs (omega arith)))
    ∙ (ap (λ (l : List ℕ). take m (take (m + n) xs) ++ l) (sym (drop-take m n xs)) ∙ take-append-drop m (take (m + n) xs))

chunks-cut : (sizes bytes : List ℕ) → total sizes ≤ length bytes → chunks (cut sizes bytes) ≡ take (total sizes) bytes
chunks-cut [] bytes within = refl
chunks-cut (size ∷ sizes) bytes within = elim (cases_Bool (size == 65535)) [
  | inl e ↦
      let is : total (size ∷ sizes) ≡ total sizes = cond-true _ _ _ e in
      ap chunks (cond-true _ _ _ e) ∙ (chunks-cut sizes bytes (omega arith) ∙ ap (λ (n : ℕ). take n bytes) (sym is))
  | inr e ↦
      let is : total (size ∷ sizes) ≡ size + total sizes = cond-false _ _ _ e in
      ap chunks (cond-false _ _ _ e)
      ∙ (ap (λ (l : List ℕ). take size bytes ++ l) (chunks-cut sizes (drop size bytes) (omega (arith, length-drop size bytes)))
      ∙ (take-more size (total sizes) bytes ∙ ap (λ (n : ℕ). take n bytes) (sym is)))
]

-- sizes as bytes
abbrev size_bytes : List ℕ → List ℕ
size_bytes [] = []
size_bytes (size ∷ sizes) = word size ++ size_bytes sizes

heads-cut : (sizes bytes : List ℕ) → total sizes ≤ length bytes → heads (cut sizes bytes) ≡ size_bytes sizes
heads-cut [] bytes within = refl
heads-cut (size ∷ sizes) bytes within = elim (cases_Bool (size == 65535)) [
  | inl e ↦
      let is : total (size ∷ sizes) ≡ total sizes = cond-true _ _ _ e in
      let gap : size ≡ 65535 = eqb-true size 65535 e in
      ap heads (cond-true _ _ _ e) ∙ (ap (λ (l : List ℕ). word 65535 ++ l) (heads-cut sizes bytes (omega arith)) ∙ ap (λ (n : ℕ). word n ++ size_bytes sizes) (sym gap))
  | inr e ↦
      let is : total (size ∷ sizes) ≡ size + total sizes = cond-false _ _ _ e in
      ap heads (cond-false _ _ _ e)
      ∙ (ap (λ (n : ℕ). word n ++ heads (cut sizes (drop size bytes))) (length-take-le size bytes (omega arith))
      ∙ ap (λ (l : List ℕ). word size ++ l) (heads-cut sizes (drop size bytes) (omega (arith, length-drop size bytes))))
]

-- two bytes are the word that they are read as
word_again : (a b : ℕ) (xs : List ℕ) → a < 256 → b < 256 → word (word_at (a ∷ b ∷ xs) 0) ≡ a ∷ b ∷ []
word_again a b xs a_byte b_byte =
    let n = word_at (a ∷ b ∷ xs) 0 in
    let low : n % 256 ≡ a = omega arith in let high : n / 256 % 256 ≡ b = omega arith in
    ap (λ (x : ℕ). x ∷ (n / 256 % 256) ∷ []) low ∙ ap (λ (y : ℕ). a ∷ y ∷ []) high

size_bytes-words : (n : ℕ) (xs : List ℕ) → ((i : ℕ) → get_or xs i 0 < 256) → 2 * n ≤ length xs → size_bytes (packed_words n xs) ≡ take (2 * n) xs
size_bytes-words zero xs byte long = refl
size_bytes-words (suc n) [] byte long = absurd (omega arith)
size_bytes-words (suc n) (a ∷ []) byte long = absurd (omega arith)
size_bytes-words (suc n) (a ∷ b ∷ xs) byte long =
    let twice : 2 * suc n ≡ suc (suc (2 * n)) = omega arith in
    ap (λ (l : List ℕ). l ++ size_bytes (packed_words n xs)) (word_again a b xs (byte 0) (byte 1))
    ∙ (ap (λ (l : List ℕ). a ∷ b ∷ l) (size_bytes-words n xs (λ i. byte (suc (suc i))) (omega arith)) ∙ ap (λ (m : ℕ). take m (a ∷ b ∷ xs)) (sym twice))

pub unpacked : (n : ℕ) (xs : List ℕ) → ((i : ℕ) → get_or xs i 0 < 256) → 2 * n ≤ length xs → total (packed_words n xs) ≡ length xs - 2 * n → packed (slots_in n xs) ≡ xs
unfolding packed slots_in
unpacked n xs byte long whole =
    let D = drop (2 * n) xs in let rest : length D ≡ length xs - 2 * n = length-drop (2 * n) xs in
    ap (λ (l : List ℕ). l ++ chunks (cut (packed_words n xs) D)) (heads-cut (packed_words n xs) D (omega arith) ∙ size_bytes-words n xs byte long)
    ∙ (ap (λ (l : List ℕ). take (2 * n) xs ++ l) (chunks-cut (packed_words n xs) D (omega arith) ∙ take_all (total (packed_words n xs)) D (omega arith)) ∙ take-append-drop (2 * n) xs)

-- a table's bytes pass the test
pub packed-total : (n : ℕ) (xs : List ℕ) (t : PackedSlots) → length xs ≤ 65520 → length t ≡ n → packed t ≡ xs → (2 * n ≤ length xs) × (total (packed_words n xs) ≡ length xs - 2 * n)
packed-total n xs t short count is =
    let long : length xs ≡ 2 * length t + length (chunks t) = ap length (sym is) ∙ length-packed t in
    let sum : total (packed_words (length t) (packed t)) ≡ length (chunks t) = total-before t (length t) (omega arith) (omega arith) ∙ ap (λ (s : PackedSlots). length (chunks s)) (take_all (length t) t (omega arith)) in
    let same : total (packed_words n xs) ≡ length (chunks t) = ap (λ (m : ℕ). total (packed_words m xs)) (sym count) ∙ (ap (λ (l : List ℕ). total (packed_words (length t) l)) (sym is) ∙ sum) in
    (omega arith, omega arith)

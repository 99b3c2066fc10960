-- An element array's bytes read back as its slots, and bytes that read as slots are those slots' bytes.
use lib.Pointwise.{pointwise, bytes_decides, pointwise_decides}
use Rattle.std.proofs.Common.{◌≡◌, ℕ, zero, suc, ◌+◌, ◌*◌, ◌-◌, ◌/◌, ◌%◌, ◌<◌, ◌≤◌, Bool, true, false, not, ◌&&◌, ◌||◌, ◌==◌, nat_lt, nat_le, if◌then◌else◌, List, [], ◌∷◌, ◌++◌, map, length, drop, replicate, get_or, Option, Some, None, option_and_then, is_none, count_by, refl, sym, ap, ap₂, subst, ◌∙◌, arith, inl, inr, eqb-true, eq-eqb, ne_eqb, ltb-true, lt-ltb, le-ltb, leb-true, le-leb, drop_of_length-le}
use Rattle.std.proofs.lemmas.Bool.{cases_Bool, and_parts, and_from, or_right, or_parts, cond-true, cond-false, not-true}
use Rattle.std.proofs.lemmas.List.{get_or-map, length-map, length-replicate}
use Rattle.std.proofs.lemmas.List.Sums.{count_by-le-length}
use Rattle.std.proofs.lemmas.Option.{option_and_then_some}
use Rattle.std.proofs.lemmas.List.FromFn.{length-enumerate_from, get_or-enumerate_from}
use Rattle.std.specs.List.{list_all, list_any, enumerate_from}
use Rattle.byteorder.specs.Endian.{little_bytes, little_number}
use Rattle.byteorder.specs.Numbers.{little_number-reads_back}
use Rattle.geos_model.specs.Bytes.{same_bytes}
use Rattle.geos_model.specs.Words.{word, word_at}
use Rattle.geos_model.specs.Array.{Array, array_bytes, array_of, is_even}
use Rattle.geos_model.specs.ElementArray.{Element, Slots, no_token, greatest_count, greatest_size, first_token, token_after, slot_bytes, slots_array, is_free, all_distinct, is_good_slot, is_sound, slot_read, free_read, slots_read, same_array, slots_of, element_bytes, element_array_of}
use Rattle.geos_model.proofs.Images.{word-reads_back}
use Rattle.geos_model.proofs.Arrays.{same_bytes-is, same_bytes-refl, size_lt, array_bytes-of, array_again, length-array_bytes, length-elements}
use Rattle.geos_model.proofs.FreeLists.{links, are_tokens, walk_ends, walked, length-walked, first_token-walked, links-walked, all-walked}

-- what soundness says, part by part
pub record IsSound (s : Slots) : Type 0 where
  pub sized : s.size ≤ greatest_size
  pub good : list_all (is_good_slot s.size) s.slots ≡ true
  pub free : list_all (is_free s) s.free ≡ true
  pub distinct : all_distinct s.free ≡ true
  pub counted : length s.free ≡ count_by is_none s.slots

pub sound_parts : (s : Slots) → is_sound s ≡ true → IsSound s
unfolding is_sound
sound_parts s sound =
    let sizes : Bool = nat_le s.size greatest_size in
    let goods : Bool = list_all (is_good_slot s.size) s.slots in
    let frees : Bool = list_all (is_free s) s.free in
    let apart : Bool = all_distinct s.free in
    let four = and_parts (sizes && goods && frees && apart) (length s.free == count_by is_none s.slots) sound in
    let three = and_parts (sizes && goods && frees) apart four.0 in
    let two = and_parts (sizes && goods) frees three.0 in
    let one = and_parts sizes goods two.0 in
    record {
      sized = leb-true s.size greatest_size one.0;
      good = one.1;
      free = two.1;
      distinct = three.1;
      counted = eqb-true (length s.free) (count_by is_none s.slots) four.1;
    }

pub sound_from : (s : Slots) → IsSound s → is_sound s ≡ true
unfolding is_sound
sound_from s h =
    and_from _ _ (and_from _ _ (and_from _ _ (and_from _ _ (le-leb s.size greatest_size h.sized) h.good) h.free) h.distinct)
    (eq-eqb (length s.free) (count_by is_none s.slots) h.counted)

-- the same array, as an equation
pub same_array-is : (a b : Array) → same_array a b ≡ true → a ≡ b
same_array-is a b same =
    let outer = and_parts (same_bytes a.extra b.extra && a.size == b.size) (pointwise same_bytes a.elements b.elements) same in
    let inner = and_parts (same_bytes a.extra b.extra) (a.size == b.size) outer.0 in
    let extra : a.extra ≡ b.extra = same_bytes-is a.extra b.extra inner.0 in
    let size : a.size ≡ b.size = eqb-true a.size b.size inner.1 in
    let elements : a.elements ≡ b.elements = (pointwise_decides bytes_decides a.elements b.elements).0 outer.1 in
    λ i. record { extra = extra i; size = size i; elements = elements i }

pub same_array-refl : (a : Array) → same_array a a ≡ true
same_array-refl a =
    and_from _ _ (and_from _ _ (same_bytes-refl a.extra) (eq-eqb a.size a.size refl)) ((pointwise_decides bytes_decides a.elements a.elements).1 refl)

-- a size that is read is one that fits
pub size_read_le : (a : Array) → is_even a ≡ true → (slots_read a).size ≤ greatest_size
size_read_le a even = let l = size_lt a even in omega arith

-- slots that an array is pass the test
abbrev passes : ℕ → Array → Slots → Bool
passes extra a s = length a.extra == extra && is_sound s && same_array (slots_array (drop 2 a.extra) s) a

-- An array that reads as slots is those slots' array, with as many extra bytes as are wanted.
pub slots_of-is : (extra : ℕ) (a : Array) (s : Slots) → slots_of extra a ≡ Some s → (length a.extra ≡ extra) × (is_sound s ≡ true) × (slots_array (drop 2 a.extra) s ≡ a) × (slots_read a ≡ s)
unfolding slots_of
slots_of-is extra a s e = elim (cases_Bool (passes extra a (slots_read a))) [
  | inl so ↦ (let some : Some (slots_read a) ≡ Some s = sym (cond-true _ _ _ so) ∙ e in
      let is : slots_read a ≡ s = cc in
      let here : passes extra a s ≡ true = subst (λ r. passes extra a r ≡ true) is so in
      let outer = and_parts (length a.extra == extra && is_sound s) (same_array (slots_array (drop 2 a.extra) s) a) here in
      let inner = and_parts (length a.extra == extra) (is_sound s) outer.0 in
      (eqb-true (length a.extra) extra inner.0, inner.1, same_array-is (slots_array (drop 2 a.extra) s) a outer.1, is))
  | inr other ↦ (let none : None ≡ Some s = sym (cond-false _ _ _ other) ∙ e in absurd (cc))
]

-- and an array of sound slots reads as what is read of it
pub slots_of-from : (extra : ℕ) (a : Array) → length a.extra ≡ extra → is_sound (slots_read a) ≡ true → slots_array (drop 2 a.extra) (slots_read a) ≡ a → slots_of extra a ≡ Some (slots_read a)
unfolding slots_of
slots_of-from extra a long sound is =
    let same : same_array (slots_array (drop 2 a.extra) (slots_read a)) a ≡ true = subst (λ b. same_array b a ≡ true) (sym is) (same_array-refl a) in
    cond-true _ _ _ (and_from _ _ (and_from _ _ (eq-eqb (length a.extra) extra long) sound) same)

-- the elements of slots, whose first token is given
abbrev pub elements_from : Slots → ℕ → List (Option Element) → List (List ℕ)
elements_from s n slots = map (λ x. slot_bytes s x.0 x.1) (enumerate_from n slots)

pub length-elements_from : (s : Slots) (n : ℕ) (slots : List (Option Element)) → length (elements_from s n slots) ≡ length slots
length-elements_from s n slots = length-map (enumerate_from n slots) (λ x. slot_bytes s x.0 x.1) ∙ length-enumerate_from n slots

-- a count's third byte isn't the one that tells a free element
third_byte : (c : ℕ) (rest : List ℕ) → c ≤ greatest_count → (get_or (little_bytes 3 c ++ rest) 2 0 == 0xFF) ≡ false
third_byte c rest l = ne_eqb (c / 65536 % 256) 0xFF (λ e. absurd (omega arith))

-- a slot's bytes read back as the slot
pub slot_read-bytes : (s : Slots) (t : ℕ) (slot : Option Element) → is_good_slot s.size slot ≡ true → slot_read (slot_bytes s t slot) ≡ slot
slot_read-bytes s t None good = refl
slot_read-bytes s t (Some e) good =
    let outer = and_parts (nat_le 1 e.count && nat_le e.count greatest_count) (s.size == 0 || length e.bytes == s.size) good in
    let most : e.count ≤ greatest_count = leb-true e.count greatest_count (and_parts (nat_le 1 e.count) (nat_le e.count greatest_count) outer.0).1 in
    let count : little_number 3 (little_bytes 3 e.count ++ e.bytes) ≡ e.count = little_number-reads_back 3 e.count e.bytes (omega arith) in
    cond-false _ _ _ (third_byte e.count e.bytes most) ∙ ap (λ (n : ℕ). Some (record { count = n; bytes = e.bytes })) count

-- A used element's bytes are those of the slot that is read of them.
pub slot_bytes-used : (s : Slots) (t x y z : ℕ) (rest : List ℕ) → x < 256 → y < 256 → z < 256 → (z == 0xFF) ≡ false → slot_bytes s t (slot_read (x ∷ y ∷ z ∷ rest)) ≡ x ∷ y ∷ z ∷ rest
slot_bytes-used s t x y z rest lx ly lz used =
    let c : ℕ = little_number 3 (x ∷ y ∷ z ∷ rest) in
    let first : c % 256 ≡ x = omega arith in
    let second : c / 256 % 256 ≡ y = omega arith in
    let third : c / 65536 % 256 ≡ z = omega arith in
    ap (slot_bytes s t) (cond-false (z == 0xFF) _ _ used)
    ∙ ap₂ (λ (a b : ℕ). a ∷ b ∷ c / 65536 % 256 ∷ rest) first second
    ∙ ap (λ (d : ℕ). x ∷ y ∷ d ∷ rest) third

-- So are a free element's, where it has the free list's next token and zeros.
pub slot_bytes-free : (s : Slots) (t x y : ℕ) (rest : List ℕ) → x < 256 → y < 256 → token_after s.free t ≡ x + 256 * y → rest ≡ replicate s.size 0 → slot_bytes s t (slot_read (x ∷ y ∷ 0xFF ∷ rest)) ≡ x ∷ y ∷ 0xFF ∷ rest
slot_bytes-free s t x y rest lx ly next zeros =
    let first : (x + 256 * y) % 256 ≡ x = omega arith in
    let second : (x + 256 * y) / 256 % 256 ≡ y = omega arith in
    ap₂ (λ (n : ℕ) (l : List ℕ). word n ++ 0xFF ∷ l) next (sym zeros)
    ∙ ap₂ (λ (a b : ℕ). a ∷ b ∷ 0xFF ∷ rest) first second

pub slots_read-elements : (s : Slots) (n : ℕ) (slots : List (Option Element)) → list_all (is_good_slot s.size) slots ≡ true → map slot_read (elements_from s n slots) ≡ slots
slots_read-elements s n [] good = refl
slots_read-elements s n (x ∷ xs) good =
    let parts = and_parts (is_good_slot s.size x) (list_all (is_good_slot s.size) xs) good in
    ap₂ (λ (y : Option Element) (ys : List (Option Element)). y ∷ ys) (slot_read-bytes s n x parts.0) (slots_read-elements s (n + 1) xs parts.1)

-- a slot's bytes have the size, where sizes are one
length-slot_bytes : (s : Slots) (t : ℕ) (slot : Option Element) → (s.size == 0) ≡ false → is_good_slot s.size slot ≡ true → length (slot_bytes s t slot) ≡ s.size + 3
length-slot_bytes s t None one good = let zeros = length-replicate {A = ℕ} s.size 0 in omega (arith, zeros)
length-slot_bytes s t (Some e) one good =
    let outer = and_parts (nat_le 1 e.count && nat_le e.count greatest_count) (s.size == 0 || length e.bytes == s.size) good in
    let long : length e.bytes ≡ s.size = eqb-true (length e.bytes) s.size (subst (λ b. (b || length e.bytes == s.size) ≡ true) one outer.1) in
    omega (arith, long)

elements-one_size : (s : Slots) (n : ℕ) (slots : List (Option Element)) → (s.size == 0) ≡ false → list_all (is_good_slot s.size) slots ≡ true → list_all (λ x. length x == s.size + 3) (elements_from s n slots) ≡ true
elements-one_size s n [] one good = refl
elements-one_size s n (x ∷ xs) one good =
    let parts = and_parts (is_good_slot s.size x) (list_all (is_good_slot s.size) xs) good in
    and_from (length (slot_bytes s n x) == s.size + 3) (list_all (λ y. length y == s.size + 3) (elements_from s (n + 1) xs))
    (eq-eqb (length (slot_bytes s n x)) (s.size + 3) (length-slot_bytes s n x one parts.0))
    (elements-one_size s (n + 1) xs one parts.1)

-- the array of slots is even where their size fits
pub slots_even : (more : List ℕ) (s : Slots) → s.size ≤ greatest_size → list_all (is_good_slot s.size) s.slots ≡ true → is_even (slots_array more s) ≡ true
unfolding slots_array
slots_even more s low good =
    let size : ℕ = if s.size == 0 then 0 else s.size + 3 in
    let all : ℕ → Bool = λ k. list_all (λ x. length x == k) (elements_from s 0 s.slots) in
    let even : ℕ → Bool = λ k. nat_lt k 65536 && (k == 0 || all k) in
    elim (cases_Bool (s.size == 0)) [
      | inl any ↦ ap even (cond-true (s.size == 0) 0 (s.size + 3) any)
      | inr one ↦ ap even (cond-false (s.size == 0) 0 (s.size + 3) one)
          ∙ and_from (nat_lt (s.size + 3) 65536) (s.size + 3 == 0 || all (s.size + 3)) (lt-ltb (s.size + 3) 65536 (omega arith))
          (or_right (s.size + 3 == 0) (all (s.size + 3)) (elements-one_size s 0 s.slots one good))
    ]

-- a test that follows from another
pub all-weaker : (p q : ℕ → Bool) (ts : List ℕ) → ((t : ℕ) → p t ≡ true → q t ≡ true) → list_all p ts ≡ true → list_all q ts ≡ true
all-weaker p q [] weaker all = refl
all-weaker p q (t ∷ ts) weaker all =
    let parts = and_parts (p t) (list_all p ts) all in
    and_from (q t) (list_all q ts) (weaker t parts.0) (all-weaker p q ts weaker parts.1)

-- the token that an array's element says to be after its own
abbrev pub link_in : List (List ℕ) → ℕ → ℕ
link_in elements t = word_at (get_or elements t []) 0

-- a walk along the links reads its tokens
pub free_read-walk : (most : ℕ) (elements : List (List ℕ)) (ts : List ℕ) → length ts ≤ most → length elements < 65536 → list_all (λ t. nat_lt t (length elements)) ts ≡ true → links (link_in elements) ts → free_read most elements (first_token ts) ≡ ts
free_read-walk zero elements [] room few low l = refl
free_read-walk zero elements (t ∷ ts) room few low l = absurd (omega arith)
free_read-walk (suc most) elements [] room few low l = cond-false (nat_lt no_token (length elements)) _ _ (le-ltb no_token (length elements) (omega arith))
free_read-walk (suc most) elements (t ∷ ts) room few low l =
    let parts = and_parts (nat_lt t (length elements)) (list_all (λ u. nat_lt u (length elements)) ts) low in
    cond-true (nat_lt t (length elements)) _ _ parts.0
    ∙ ap (λ (u : ℕ). t ∷ free_read most elements u) l.0
    ∙ ap (λ (us : List ℕ). t ∷ us) (free_read-walk most elements ts (omega arith) few parts.1 l.1)

-- and so does a walk of so many steps that ends
pub free_read-walked : (kind : ℕ → Bool) (most steps t : ℕ) (elements : List (List ℕ)) → steps ≤ most → length elements < 65536 → ((u : ℕ) → kind u ≡ true → u < length elements) → walk_ends kind (link_in elements) steps t ≡ true → free_read most elements t ≡ walked (link_in elements) steps t
free_read-walked kind most steps t elements room few low e =
    let link : ℕ → ℕ = link_in elements in
    let long = length-walked link steps t in
    let inside : list_all (λ u. nat_lt u (length elements)) (walked link steps t) ≡ true = all-weaker kind (λ u. nat_lt u (length elements)) (walked link steps t) (λ u h. lt-ltb u (length elements) (low u h)) (all-walked kind link steps t e) in
    ap (free_read most elements) (sym (first_token-walked kind link steps t e))
    ∙ free_read-walk most elements (walked link steps t) (omega (arith, long)) few inside (links-walked kind link steps t e)

pub first_token-lt : (ts : List ℕ) → are_tokens ts ≡ true → first_token ts < 65536
first_token-lt [] low = omega arith
first_token-lt (t ∷ ts) low =
    let l : t < no_token = ltb-true t no_token (and_parts (nat_lt t no_token) (are_tokens ts) low).0 in
    omega arith

token_after-lt : (ts : List ℕ) (t : ℕ) → are_tokens ts ≡ true → token_after ts t < 65536
token_after-lt [] t low = omega arith
token_after-lt (x ∷ xs) t low =
    let rest : are_tokens xs ≡ true = (and_parts (nat_lt x no_token) (are_tokens xs) low).1 in
    elim (cases_Bool (x == t)) [
      | inl here ↦ subst (λ n. n < 65536) (sym (cond-true (x == t) _ _ here)) (first_token-lt xs rest)
      | inr past ↦ subst (λ n. n < 65536) (sym (cond-false (x == t) _ _ past)) (token_after-lt xs t rest)
    ]

-- one more token in front changes no link of the others
links-past : (x : ℕ) (all ts : List ℕ) → list_any (λ y. x == y) ts ≡ false → links (token_after all) ts → links (token_after (x ∷ all)) ts
links-past x all [] apart l = tt
links-past x all (t ∷ ts) apart l =
    let parts = or_parts (x == t) (list_any (λ y. x == y) ts) apart in
    (cond-false (x == t) _ _ parts.0 ∙ l.0, links-past x all ts parts.1 l.1)

-- distinct tokens have the links that a free list gives them
pub links-token_after : (ts : List ℕ) → all_distinct ts ≡ true → links (token_after ts) ts
links-token_after [] distinct = tt
links-token_after (x ∷ xs) distinct =
    let parts = and_parts (not (list_any (λ y. x == y) xs)) (all_distinct xs) distinct in
    (cond-true (x == x) _ _ (eq-eqb x x refl), links-past x xs xs (not-true (list_any (λ y. x == y) xs) parts.0) (links-token_after xs parts.1))

-- links that agree at tokens of a kind
pub links-same : (f g : ℕ → ℕ) (kind : ℕ → Bool) (ts : List ℕ) → ((t : ℕ) → kind t ≡ true → g t ≡ f t) → list_all kind ts ≡ true → links f ts → links g ts
links-same f g kind [] same all l = tt
links-same f g kind (t ∷ ts) same all l =
    let parts = and_parts (kind t) (list_all kind ts) all in
    (same t parts.0 ∙ l.0, links-same f g kind ts same parts.1 l.1)

free_lt : (s : Slots) (t : ℕ) → is_free s t ≡ true → t < length s.slots
free_lt s t free = ltb-true t (length s.slots) (and_parts (nat_lt t (length s.slots)) (is_none (get_or s.slots t None)) free).0

pub free_tokens : (s : Slots) → length s.slots < 65536 → list_all (is_free s) s.free ≡ true → are_tokens s.free ≡ true
free_tokens s few free = all-weaker (is_free s) (λ t. nat_lt t no_token) s.free (λ t h. let l = free_lt s t h in lt-ltb t no_token (omega (arith, l))) free

is_none-is : (o : Option Element) → is_none o ≡ true → o ≡ None
is_none-is None h = refl
is_none-is (Some e) h = cc

-- the link in a free slot's bytes
pub link-slots : (s : Slots) (t : ℕ) → are_tokens s.free ≡ true → is_free s t ≡ true → link_in (elements_from s 0 s.slots) t ≡ token_after s.free t
link-slots s t low free =
    let at : t < length s.slots = free_lt s t free in
    let none : get_or s.slots t None ≡ None = is_none-is (get_or s.slots t None) (and_parts (nat_lt t (length s.slots)) (is_none (get_or s.slots t None)) free).1 in
    let place : 0 + t ≡ t = omega arith in
    let numbered = length-enumerate_from 0 s.slots in
    let bytes : get_or (elements_from s 0 s.slots) t [] ≡ slot_bytes s t None =
    get_or-map (λ x. slot_bytes s x.0 x.1) (enumerate_from 0 s.slots) t (0, None) [] (omega (arith, at, numbered))
    ∙ ap (λ (x : ℕ × Option Element). slot_bytes s x.0 x.1) (get_or-enumerate_from 0 s.slots t (0, None) at)
    ∙ ap₂ (λ (u : ℕ) (o : Option Element). slot_bytes s u o) place none in
    ap (λ (l : List ℕ). word_at l 0) bytes ∙ word-reads_back (token_after s.free t) (0xFF ∷ replicate s.size 0) (token_after-lt s.free t low)

-- the free list reads back
pub free_read-elements : (s : Slots) → IsSound s → length s.slots < 65536 → free_read (length s.slots) (elements_from s 0 s.slots) (first_token s.free) ≡ s.free
free_read-elements s sound few =
    let low : are_tokens s.free ≡ true = free_tokens s few sound.free in
    let long = length-elements_from s 0 s.slots in
    let most = count_by-le-length is_none s.slots in
    let counted = sound.counted in
    let inside : list_all (λ t. nat_lt t (length (elements_from s 0 s.slots))) s.free ≡ true = all-weaker (is_free s) (λ t. nat_lt t (length (elements_from s 0 s.slots))) s.free (λ t h. let l = free_lt s t h in lt-ltb t (length (elements_from s 0 s.slots)) (omega (arith, l, long))) sound.free in
    let linked : links (link_in (elements_from s 0 s.slots)) s.free = links-same (token_after s.free) (link_in (elements_from s 0 s.slots)) (is_free s) s.free (λ t h. link-slots s t low h) sound.free (links-token_after s.free sound.distinct) in
    free_read-walk (length s.slots) (elements_from s 0 s.slots) s.free (omega (arith, most, counted)) (omega (arith, long)) inside linked

size-back : (n : ℕ) → (if n == 0 then 0 else n + 3) - 3 ≡ n
size-back n = elim (cases_Bool (n == 0)) [
  | inl any ↦ ap (λ (k : ℕ). k - 3) (cond-true (n == 0) 0 (n + 3) any) ∙ sym (eqb-true n 0 any)
  | inr one ↦ ap (λ (k : ℕ). k - 3) (cond-false (n == 0) 0 (n + 3) one) ∙ omega arith
]

-- What is read of the array of slots is these slots.
pub slots_read-array : (more : List ℕ) (s : Slots) → IsSound s → length s.slots < 65536 → slots_read (slots_array more s) ≡ s
unfolding slots_array
slots_read-array more s sound few =
    let elements : List (List ℕ) = elements_from s 0 s.slots in
    let first : word_at (word (first_token s.free) ++ more) 0 ≡ first_token s.free = word-reads_back (first_token s.free) more (first_token-lt s.free (free_tokens s few sound.free)) in
    let size : (if s.size == 0 then 0 else s.size + 3) - 3 ≡ s.size = size-back s.size in
    let slots : map slot_read elements ≡ s.slots = slots_read-elements s 0 s.slots sound.good in
    let free : free_read (length elements) elements (word_at (word (first_token s.free) ++ more) 0) ≡ s.free =
    ap₂ (λ (n t : ℕ). free_read n elements t) (length-elements_from s 0 s.slots) first ∙ free_read-elements s sound few in
    λ i. record { size = size i; slots = slots i; free = free i }

length_extra : (more : List ℕ) (s : Slots) → (length (slots_array more s).extra == 2 + length more) ≡ true
unfolding slots_array
length_extra more s = eq-eqb (length (word (first_token s.free) ++ more)) (2 + length more) (omega arith)

extra_more : (more : List ℕ) (s : Slots) → drop 2 (slots_array more s).extra ≡ more
unfolding slots_array
extra_more more s = refl

-- The array of slots, with whatever more it has as extra bytes, reads back as these slots.
pub slots_again : (more : List ℕ) (s : Slots) → is_sound s ≡ true → length s.slots < 65536 → slots_of (2 + length more) (slots_array more s) ≡ Some s
unfolding slots_of
slots_again more s sound few =
    let a : Array = slots_array more s in
    let read : slots_read a ≡ s = slots_read-array more s (sound_parts s sound) few in
    let same : same_array (slots_array (drop 2 a.extra) s) a ≡ true = subst (λ l. same_array (slots_array l s) a ≡ true) (sym (extra_more more s)) (same_array-refl a) in
    let here : passes (2 + length more) a s ≡ true = and_from _ _ (and_from _ _ (length_extra more s) sound) same in
    cond-true _ _ _ (subst (λ r. passes (2 + length more) a r ≡ true) (sym read) here) ∙ ap Some read

-- no more slots than bytes
pub slots_few : (more : List ℕ) (s : Slots) → is_sound s ≡ true → length (array_bytes (slots_array more s)) < 65536 → length s.slots < 65536
unfolding slots_array
slots_few more s sound short =
    let h = sound_parts s sound in
    let even : is_even (slots_array more s) ≡ true = slots_even more s h.sized h.good in
    let long = length-elements_from s 0 s.slots in
    let count = length-elements (slots_array more s) even in
    let whole = length-array_bytes (slots_array more s) in
    omega (arith, long, count, whole)

-- and so do its bytes, where they are short enough
pub slots_array-again : (more : List ℕ) (s : Slots) → is_sound s ≡ true → length (array_bytes (slots_array more s)) < 65536 → option_and_then (slots_of (2 + length more)) (array_of (array_bytes (slots_array more s))) ≡ Some s
slots_array-again more s sound short =
    let h = sound_parts s sound in
    let even : is_even (slots_array more s) ≡ true = slots_even more s h.sized h.good in
    ap (option_and_then (slots_of (2 + length more))) (array_again (slots_array more s) even short)
    ∙ slots_again more s sound (slots_few more s sound short)

-- bytes that are an element array are the bytes of its slots
pub element_bytes-of : (bytes : List ℕ) (s : Slots) → element_array_of bytes ≡ Some s → (is_sound s ≡ true) × (element_bytes s ≡ bytes)
unfolding element_array_of element_bytes
element_bytes-of bytes s e = option_and_then_some (slots_of 2) (array_of bytes) s e (λ a read of.
    let is = slots_of-is 2 a s of in
    let long : length a.extra ≡ 2 = is.0 in
    let none : drop 2 a.extra ≡ [] = drop_of_length-le a.extra {i = 2} (omega arith) in
    (is.1, ap (λ (more : List ℕ). array_bytes (slots_array more s)) (sym none) ∙ ap array_bytes is.2 ∙ (array_bytes-of bytes a read).1))

-- an element array's bytes read back as its slots
pub element_array_again : (s : Slots) → is_sound s ≡ true → length (element_bytes s) < 65536 → element_array_of (element_bytes s) ≡ Some s
unfolding element_array_of element_bytes
element_array_again s sound short = slots_array-again [] s sound short

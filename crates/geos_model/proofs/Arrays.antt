-- An array's bytes read back as the array, and bytes that read as an array are that array's.
use lib.Pointwise.{bytes_decides}
use Rattle.std.proofs.Common.{◌≡◌, ℕ, suc, ◌+◌, ◌*◌, ◌-◌, ◌<◌, ◌≤◌, Bool, true, false, ◌&&◌, ◌||◌, ◌==◌, nat_lt, if◌then◌else◌, List, [], ◌∷◌, ◌++◌, map, length, take, drop, Some, None, flat_map, refl, sym, ap, ap₂, subst, ◌∙◌, arith, inl, inr, length-append, append_assoc, append-nil, drop-drop, take_at, drop_at, eqb-true, ltb-true, lt-ltb, pos_of_ne-zero, le-mul_of_pos_right}
use Rattle.std.proofs.lemmas.Bool.{cases_Bool, and_parts, and_from, cond-true, cond-false, eqb-false}
use Rattle.std.specs.List.{range_with_len, list_all}
use Rattle.byteorder.specs.Endian.{little_number}
use Rattle.geos_model.specs.Bytes.{same_bytes}
use Rattle.geos_model.specs.Words.{word, word_at}
use Rattle.geos_model.specs.Array.{Array, places_from, place_table, array_start, array_bytes, is_even, cut_at, cut_evenly, array_read, array_of}
use Rattle.geos_model.proofs.Images.{word-reads_back}

-- the same bytes, as an equation
pub same_bytes-is : (xs ys : List ℕ) → same_bytes xs ys ≡ true → xs ≡ ys
same_bytes-is xs ys = (bytes_decides xs ys).0

pub same_bytes-refl : (xs : List ℕ) → same_bytes xs xs ≡ true
same_bytes-refl xs = (bytes_decides xs xs).1 refl

-- elements one after another
abbrev pub joined : List (List ℕ) → List ℕ
joined xs = flat_map (λ x. x) xs

-- numbers that words can hold
abbrev pub are_words : List ℕ → Bool
are_words ps = list_all (λ p. nat_lt p 65536) ps

-- elements of one size, cut at it
pub cut_evenly-joined : (size : ℕ) (xs : List (List ℕ)) → list_all (λ x. length x == size) xs ≡ true → cut_evenly (length xs) size (joined xs) ≡ xs
cut_evenly-joined size [] h = refl
cut_evenly-joined size (x ∷ xs) h =
    let parts = and_parts (length x == size) (list_all (λ y. length y == size) xs) h in
    let here : length x ≡ size = eqb-true (length x) size parts.0 in
    ap (λ (y : List ℕ). y ∷ cut_evenly (length xs) size (drop size (x ++ joined xs))) (take_at x (joined xs) size here)
    ∙ ap (λ (l : List ℕ). x ∷ cut_evenly (length xs) size l) (drop_at x (joined xs) size here)
    ∙ ap (λ (l : List (List ℕ)). x ∷ l) (cut_evenly-joined size xs parts.1)

-- elements of one size, by their count
pub length-joined : (size : ℕ) (xs : List (List ℕ)) → list_all (λ x. length x == size) xs ≡ true → length (joined xs) ≡ length xs * size
length-joined size [] h = omega arith
length-joined size (x ∷ xs) h =
    let parts = and_parts (length x == size) (list_all (λ y. length y == size) xs) h in
    let here : length x ≡ size = eqb-true (length x) size parts.0 in
    let rest : length (joined xs) ≡ length xs * size = length-joined size xs parts.1 in
    let whole = length-append x (joined xs) in
    let more : suc (length xs) * size ≡ length xs * size + size = omega arith in
    omega (arith, here, rest, whole, more)

pub length-places : (at : ℕ) (xs : List (List ℕ)) → length (places_from at xs) ≡ length xs
length-places at [] = refl
length-places at (x ∷ xs) = ap suc (length-places (at + length x) xs)

pub length-words : (ps : List ℕ) → length (flat_map word ps) ≡ 2 * length ps
length-words [] = refl
length-words (p ∷ ps) = let rest = length-words ps in omega (arith, rest)

-- no element begins past the end of all
pub places-words : (at : ℕ) (xs : List (List ℕ)) → at + length (joined xs) < 65536 → are_words (places_from at xs) ≡ true
places-words at [] l = refl
places-words at (x ∷ xs) l =
    let whole = length-append x (joined xs) in
    and_from (nat_lt at 65536) (are_words (places_from (at + length x) xs)) (lt-ltb at 65536 (omega arith)) (places-words (at + length x) xs (omega arith))

-- words that lie one after another from a place on
pub words_read : (bytes : List ℕ) (start k : ℕ) (ps rest : List ℕ) → are_words ps ≡ true → drop (start + 2 * k) bytes ≡ flat_map word ps ++ rest → map (λ i. word_at bytes (start + 2 * i)) (range_with_len k (length ps)) ≡ ps
words_read bytes start k [] rest small at = refl
words_read bytes start k (p ∷ ps) rest small at =
    let parts = and_parts (nat_lt p 65536) (are_words ps) small in
    let here : word_at bytes (start + 2 * k) ≡ p = ap (little_number 2) at ∙ word-reads_back p (flat_map word ps ++ rest) (ltb-true p 65536 parts.0) in
    let shift : start + 2 * (k + 1) ≡ start + 2 * k + 2 = omega arith in
    let next : drop (start + 2 * (k + 1)) bytes ≡ flat_map word ps ++ rest = ap (λ (n : ℕ). drop n bytes) shift ∙ sym (drop-drop 2 (start + 2 * k) bytes) ∙ ap (drop 2) at in
    ap₂ (λ (n : ℕ) (ns : List ℕ). n ∷ ns) here (words_read bytes start (k + 1) ps rest parts.1 next)

-- elements that lie one after another, cut where they begin
pub cut_at-joined : (at : ℕ) (xs : List (List ℕ)) (bytes : List ℕ) → drop at bytes ≡ joined xs → cut_at (places_from at xs) bytes ≡ xs
cut_at-joined at [] bytes e = refl
cut_at-joined at (x ∷ []) bytes e = ap (λ (l : List ℕ). l ∷ []) (e ∙ append-nil x)
cut_at-joined at (x ∷ y ∷ ys) bytes e =
    let rest : List ℕ = joined (y ∷ ys) in
    let size : length x ≡ (at + length x) - at = omega arith in
    let here : take ((at + length x) - at) (drop at bytes) ≡ x = ap (take ((at + length x) - at)) e ∙ take_at x rest ((at + length x) - at) size in
    let next : drop (at + length x) bytes ≡ rest = sym (drop-drop (length x) at bytes) ∙ ap (drop (length x)) e ∙ drop_at x rest (length x) refl in
    ap₂ (λ (l : List ℕ) (ls : List (List ℕ)). l ∷ ls) here (cut_at-joined (at + length x) (y ∷ ys) bytes next)

-- the four words before the extra bytes
abbrev pub head_of : Array → List ℕ
head_of a = word (length a.elements) ++ word a.size ++ word 0 ++ word (array_start a)

-- the table of places, where an array has it
abbrev pub table_of : Array → List ℕ
table_of a = place_table (array_start a) a

-- where the elements begin whose sizes vary
abbrev pub places_of : Array → List ℕ
places_of a = places_from (array_start a + 2 * length a.elements) a.elements

-- an array's bytes, from the right
abbrev pub spelled : Array → List ℕ
spelled a = head_of a ++ (a.extra ++ (table_of a ++ joined a.elements))

pub array_bytes-spelled : (a : Array) → array_bytes a ≡ spelled a
unfolding array_bytes
array_bytes-spelled a = ap (λ (l : List ℕ). head_of a ++ l) (append_assoc a.extra (table_of a) (joined a.elements))

-- what reading makes of the numbers in the header
abbrev read_with : ℕ → ℕ → ℕ → List ℕ → Array
read_with count size start bytes = record {
  extra = drop 8 (take start bytes);
  size = size;
  elements = if size == 0
      then cut_at (map (λ i. word_at bytes (start + 2 * i)) (range_with_len 0 count)) bytes
      else cut_evenly count size (drop start bytes);
}

pub count-read : (a : Array) → length a.elements < 65536 → word_at (spelled a) 0 ≡ length a.elements
count-read a few = word-reads_back (length a.elements) [] few

pub size-read : (a : Array) → a.size < 65536 → word_at (spelled a) 2 ≡ a.size
size-read a small = word-reads_back a.size [] small

pub start-read : (a : Array) → array_start a < 65536 → word_at (spelled a) 6 ≡ array_start a
start-read a near = word-reads_back (array_start a) [] near

length-head : (a : Array) → length (head_of a ++ a.extra) ≡ array_start a
length-head a = omega arith

pub extra-read : (a : Array) → drop 8 (take (array_start a) (spelled a)) ≡ a.extra
extra-read a = ap (drop 8) (take_at (head_of a ++ a.extra) (table_of a ++ joined a.elements) (array_start a) (length-head a))

-- what lies behind the extra bytes
pub behind_extra : (a : Array) → drop (array_start a) (spelled a) ≡ table_of a ++ joined a.elements
behind_extra a = drop_at (head_of a ++ a.extra) (table_of a ++ joined a.elements) (array_start a) (length-head a)

-- the table where sizes vary
pub table-any : (a : Array) → (a.size == 0) ≡ true → table_of a ≡ flat_map word (places_of a)
table-any a any = cond-true (a.size == 0) _ _ any

pub table-even : (a : Array) → (a.size == 0) ≡ false → table_of a ≡ []
table-even a one = cond-false (a.size == 0) _ _ one

pub length_table-any : (a : Array) → (a.size == 0) ≡ true → length (table_of a) ≡ 2 * length a.elements
length_table-any a any = ap length (table-any a any) ∙ length-words (places_of a) ∙ ap (λ (n : ℕ). 2 * n) (length-places _ a.elements)

-- the places that the table gives
pub places-read : (a : Array) → (a.size == 0) ≡ true → are_words (places_of a) ≡ true → map (λ i. word_at (spelled a) (array_start a + 2 * i)) (range_with_len 0 (length a.elements)) ≡ places_of a
places-read a any low =
    let here : array_start a + 2 * 0 ≡ array_start a = omega arith in
    let at : drop (array_start a + 2 * 0) (spelled a) ≡ flat_map word (places_of a) ++ joined a.elements =
    ap (λ (n : ℕ). drop n (spelled a)) here ∙ behind_extra a ∙ ap (λ (t : List ℕ). t ++ joined a.elements) (table-any a any) in
    ap (λ (n : ℕ). map (λ i. word_at (spelled a) (array_start a + 2 * i)) (range_with_len 0 n)) (sym (length-places _ a.elements))
    ∙ words_read (spelled a) (array_start a) 0 (places_of a) (joined a.elements) low at

-- what lies behind the table
pub behind_table : (a : Array) → (a.size == 0) ≡ true → drop (array_start a + 2 * length a.elements) (spelled a) ≡ joined a.elements
behind_table a any =
    sym (drop-drop (2 * length a.elements) (array_start a) (spelled a))
    ∙ ap (drop (2 * length a.elements)) (behind_extra a)
    ∙ drop_at (table_of a) (joined a.elements) (2 * length a.elements) (length_table-any a any)

-- elements whose sizes vary
elements-any : (a : Array) → (a.size == 0) ≡ true → are_words (places_of a) ≡ true → cut_at (map (λ i. word_at (spelled a) (array_start a + 2 * i)) (range_with_len 0 (length a.elements))) (spelled a) ≡ a.elements
elements-any a any low =
    ap (λ (ps : List ℕ). cut_at ps (spelled a)) (places-read a any low)
    ∙ cut_at-joined (array_start a + 2 * length a.elements) a.elements (spelled a) (behind_table a any)

-- each element has the size, where it is one
pub all_even : (a : Array) → is_even a ≡ true → (a.size == 0) ≡ false → list_all (λ x. length x == a.size) a.elements ≡ true
all_even a even one =
    let parts = and_parts (nat_lt a.size 65536) (a.size == 0 || list_all (λ x. length x == a.size) a.elements) even in
    subst (λ b. (b || list_all (λ x. length x == a.size) a.elements) ≡ true) one parts.1

pub size_lt : (a : Array) → is_even a ≡ true → a.size < 65536
size_lt a even = ltb-true a.size 65536 (and_parts (nat_lt a.size 65536) (a.size == 0 || list_all (λ x. length x == a.size) a.elements) even).0

-- elements of one size
elements-even : (a : Array) → is_even a ≡ true → (a.size == 0) ≡ false → cut_evenly (length a.elements) a.size (drop (array_start a) (spelled a)) ≡ a.elements
elements-even a even one =
    ap (cut_evenly (length a.elements) a.size) (behind_extra a ∙ ap (λ (t : List ℕ). t ++ joined a.elements) (table-even a one))
    ∙ cut_evenly-joined a.size a.elements (all_even a even one)

-- the places of elements fit words, where there is a table of them
abbrev pub HasWords : Array → Type 0
HasWords a = (a.size == 0) ≡ true → are_words (places_of a) ≡ true

elements_read : (a : Array) → is_even a ≡ true → HasWords a → (read_with (length a.elements) a.size (array_start a) (spelled a)).elements ≡ a.elements
elements_read a even low = elim (cases_Bool (a.size == 0)) [
  | inl any ↦ cond-true (a.size == 0) _ _ any ∙ elements-any a any (low any)
  | inr one ↦ cond-false (a.size == 0) _ _ one ∙ elements-even a even one
]

read-spelled : (a : Array) → is_even a ≡ true → length a.elements < 65536 → array_start a < 65536 → HasWords a → array_read (spelled a) ≡ a
read-spelled a even few near low =
    ap (λ (n : ℕ). read_with n (word_at (spelled a) 2) (word_at (spelled a) 6) (spelled a)) (count-read a few)
    ∙ ap (λ (n : ℕ). read_with (length a.elements) n (word_at (spelled a) 6) (spelled a)) (size-read a (size_lt a even))
    ∙ ap (λ (n : ℕ). read_with (length a.elements) a.size n (spelled a)) (start-read a near)
    ∙ ap₂ (λ (extra : List ℕ) (elements : List (List ℕ)). record { extra = extra; size = a.size; elements = elements }) (extra-read a) (elements_read a even low)

-- An array's bytes read back as the array, however long they are, where the numbers in them fit words.
pub array_again-long : (a : Array) → is_even a ≡ true → length a.elements < 65536 → array_start a < 65536 → HasWords a → array_of (array_bytes a) ≡ Some a
unfolding array_of
array_again-long a even few near low =
    let bytes : List ℕ = array_bytes a in
    let read : array_read bytes ≡ a = ap array_read (array_bytes-spelled a) ∙ read-spelled a even few near low in
    let same : (is_even a && same_bytes (array_bytes a) bytes) ≡ true = and_from (is_even a) (same_bytes (array_bytes a) bytes) even (same_bytes-refl bytes) in
    cond-true _ _ _ (subst (λ r. (is_even r && same_bytes (array_bytes r) bytes) ≡ true) (sym read) same) ∙ ap Some read

pub length-array_bytes : (a : Array) → length (array_bytes a) ≡ array_start a + length (table_of a) + length (joined a.elements)
length-array_bytes a =
    let inner = length-append (table_of a) (joined a.elements) in
    let outer = length-append a.extra (table_of a ++ joined a.elements) in
    ap length (array_bytes-spelled a) ∙ omega (arith, inner, outer)

-- no more elements than bytes
pub length-elements : (a : Array) → is_even a ≡ true → length a.elements ≤ length (table_of a) + length (joined a.elements)
length-elements a even = elim (cases_Bool (a.size == 0)) [
  | inl any ↦ (let table = length_table-any a any in omega (arith, table))
  | inr one ↦ (
      let bytes : length (joined a.elements) ≡ length a.elements * a.size = length-joined a.size a.elements (all_even a even one) in
      let some : 0 < a.size = pos_of_ne-zero (eqb-false a.size 0 one) in
      let most : length a.elements ≤ length a.elements * a.size = le-mul_of_pos_right (length a.elements) some in
      omega (arith, bytes, most))
]

-- An array's bytes read back as the array where they are fewer than 65,536.
pub array_again : (a : Array) → is_even a ≡ true → length (array_bytes a) < 65536 → array_of (array_bytes a) ≡ Some a
array_again a even short =
    let whole = length-array_bytes a in
    let count = length-elements a even in
    array_again-long a even (omega (arith, whole, count)) (omega (arith, whole)) (λ any.
    let table = length_table-any a any in
    places-words (array_start a + 2 * length a.elements) a.elements (omega (arith, whole, table)))

-- What bytes read as is what reading makes of them, and that passes the test.
pub array_of-read : (bytes : List ℕ) (a : Array) → array_of bytes ≡ Some a → (array_read bytes ≡ a) × ((is_even a && same_bytes (array_bytes a) bytes) ≡ true)
unfolding array_of
array_of-read bytes a e =
    let r : Array = array_read bytes in
    elim (cases_Bool (is_even r && same_bytes (array_bytes r) bytes)) [
      | inl so ↦ (let some : Some r ≡ Some a = sym (cond-true _ _ _ so) ∙ e in
          let is : r ≡ a = cc in
          (is, subst (λ x. (is_even x && same_bytes (array_bytes x) bytes) ≡ true) is so))
      | inr other ↦ (let none : None ≡ Some a = sym (cond-false _ _ _ other) ∙ e in absurd (cc))
    ]

-- Bytes that read as an array are the bytes of that array, whose elements are as even as it says.
pub array_bytes-of : (bytes : List ℕ) (a : Array) → array_of bytes ≡ Some a → (is_even a ≡ true) × (array_bytes a ≡ bytes)
array_bytes-of bytes a e =
    let parts = and_parts (is_even a) (same_bytes (array_bytes a) bytes) (array_of-read bytes a e).1 in
    (parts.0, same_bytes-is (array_bytes a) bytes parts.1)

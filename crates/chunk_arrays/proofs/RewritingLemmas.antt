-- Arrays with elements in the place of others: their places, lengths and bytes.
use Rattle.std.proofs.Common.{◌≡◌, ℕ, ◌+◌, ◌*◌, ◌-◌, ◌<◌, ◌≤◌, Bool, true, false, ◌==◌, List, [], ◌∷◌, ◌++◌, length, take, drop, flat_map, min, replicate, if◌then◌else◌, sym, ap, ap₂, ◌∙◌, arith, inl, inr, length-append, append-nil, length-take-le, length-drop, pos_of_ne-zero, le-mul_of_pos_right}
use Rattle.std.proofs.lemmas.Bool.{cases_Bool, cond-true, cond-false, eqb-false}
use Rattle.std.proofs.lemmas.List.{take_rest, take_all, length-replicate}
use Rattle.std.proofs.lemmas.List.Concat.{flat_map-append}
use Rattle.std.specs.List.{splice}
use Rattle.geos_model.specs.Words.{word}
use Rattle.geos_model.specs.Array.{Array, places_from, place_table, array_start, array_bytes, is_even}
use Rattle.geos_model.specs.ArrayEdits.{new_array}
use Rattle.chunk_arrays.specs.Reading.{words_from}
use Rattle.chunk_arrays.specs.Rewriting.{extra_after}
use Rattle.geos_model.proofs.Arrays.{joined, length-words, length-places, length-joined, all_even, array_bytes-spelled, length-array_bytes}

pub joined-append : (xs ys : List (List ℕ)) → joined (xs ++ ys) ≡ joined xs ++ joined ys
joined-append xs ys = flat_map-append (λ (x : List ℕ). x) xs ys

pub length-joined_append : (xs ys : List (List ℕ)) → length (joined (xs ++ ys)) ≡ length (joined xs) + length (joined ys)
length-joined_append xs ys = ap length (joined-append xs ys) ∙ length-append (joined xs) (joined ys)

pub places_from-append : (at : ℕ) (xs ys : List (List ℕ)) → places_from at (xs ++ ys) ≡ places_from at xs ++ places_from (at + length (joined xs)) ys
places_from-append at [] ys = let e : at ≡ at + length (joined []) = omega arith in ap (λ (n : ℕ). places_from n ys) e
places_from-append at (x ∷ xs) ys =
    let e : at + length x + length (joined xs) ≡ at + length (joined (x ∷ xs)) = omega (arith, length-append x (joined xs)) in
    ap (λ (l : List ℕ). at ∷ l) (places_from-append (at + length x) xs ys ∙ ap (λ (n : ℕ). places_from (at + length x) xs ++ places_from n ys) e)

pub words_from-append : (at : ℕ) (xs ys : List (List ℕ)) → words_from at (xs ++ ys) ≡ words_from at xs ++ words_from (at + length (joined xs)) ys
words_from-append at xs ys =
    ap (flat_map word) (places_from-append at xs ys) ∙ flat_map-append word (places_from at xs) (places_from (at + length (joined xs)) ys)

-- a run from the first element on, and one to the last
pub joined-front : (xs : List (List ℕ)) (n : ℕ) → joined (take (n - 0) xs) ≡ joined (take n xs)
joined-front xs n = let e : n - 0 ≡ n = omega arith in ap (λ (m : ℕ). joined (take m xs)) e

pub run_back : (xs : List (List ℕ)) (to count : ℕ) → count ≡ length xs → take (count - to) (drop to xs) ≡ drop to xs
run_back xs to count is = ap (λ (n : ℕ). take (n - to) (drop to xs)) is ∙ take_rest xs to

-- elements with others in the place of some
module _ (xs ys : List (List ℕ)) (from to : ℕ) where
  pub joined-splice : joined (splice xs from to ys) ≡ joined (take from xs) ++ (joined ys ++ joined (drop to xs))
  joined-splice = joined-append (take from xs) (ys ++ drop to xs) ∙ ap (λ (l : List ℕ). joined (take from xs) ++ l) (joined-append ys (drop to xs))

  pub length_joined-splice : length (joined (splice xs from to ys)) ≡ length (joined (take from xs)) + length (joined ys) + length (joined (drop to xs))
  length_joined-splice =
      let front = length-joined_append (take from xs) (ys ++ drop to xs) in
      let back = length-joined_append ys (drop to xs) in
      omega (arith, front, back)

  pub length-spliced : from ≤ to → to ≤ length xs → length (splice xs from to ys) ≡ from + length ys + (length xs - to)
  length-spliced order within =
      let front = length-append (take from xs) (ys ++ drop to xs) in
      let back = length-append ys (drop to xs) in
      let start : length (take from xs) ≡ from = length-take-le from xs (omega arith) in
      omega (arith, front, back, start, length-drop to xs)

  pub words-splice : (at : ℕ) → words_from at (splice xs from to ys) ≡ words_from at (take from xs) ++ (words_from (at + length (joined (take from xs))) ys ++ words_from (at + length (joined (take from xs)) + length (joined ys)) (drop to xs))
  words-splice at =
      words_from-append at (take from xs) (ys ++ drop to xs)
      ∙ ap (λ (l : List ℕ). words_from at (take from xs) ++ l) (words_from-append (at + length (joined (take from xs))) ys (drop to xs))

-- the table of places where sizes vary, and where they don't
pub place_table-any : (at : ℕ) (a : Array) → (a.size == 0) ≡ true → place_table at a ≡ words_from (at + 2 * length a.elements) a.elements
place_table-any at a any = cond-true (a.size == 0) _ _ any

pub place_table-even : (at : ℕ) (a : Array) → (a.size == 0) ≡ false → place_table at a ≡ []
place_table-even at a one = cond-false (a.size == 0) _ _ one

pub length-words_from : (at : ℕ) (xs : List (List ℕ)) → length (words_from at xs) ≡ 2 * length xs
length-words_from at xs = length-words (places_from at xs) ∙ ap (λ (n : ℕ). 2 * n) (length-places at xs)

pub length-place_table : (at : ℕ) (a : Array) → length (place_table at a) ≡ (if a.size == 0 then 2 * length a.elements else 0)
length-place_table at a = elim (cases_Bool (a.size == 0)) [
  | inl any ↦ ap length (place_table-any at a any) ∙ length-words_from (at + 2 * length a.elements) a.elements ∙ sym (cond-true (a.size == 0) (2 * length a.elements) 0 any)
  | inr one ↦ ap length (place_table-even at a one) ∙ sym (cond-false (a.size == 0) (2 * length a.elements) 0 one)
]

-- no more elements than bytes
pub length-elements_le : (at : ℕ) (a : Array) → is_even a ≡ true → length a.elements ≤ length (place_table at a) + length (joined a.elements)
length-elements_le at a even = elim (cases_Bool (a.size == 0)) [
  | inl any ↦ (let table = ap length (place_table-any at a any) ∙ length-words_from (at + 2 * length a.elements) a.elements in omega (arith, table))
  | inr one ↦ (
      let bytes : length (joined a.elements) ≡ length a.elements * a.size = length-joined a.size a.elements (all_even a even one) in
      let some : 0 < a.size = pos_of_ne-zero (eqb-false a.size 0 one) in
      let most : length a.elements ≤ length a.elements * a.size = le-mul_of_pos_right (length a.elements) some in
      omega (arith, bytes, most))
]

-- the four words that an array begins with
abbrev header : ℕ → ℕ → ℕ → List ℕ
header count size start = word count ++ word size ++ word 0 ++ word start

-- how many bytes an array has
pub length-array : (a : Array) → length (array_bytes a) ≡ 8 + length a.extra + (if a.size == 0 then 2 * length a.elements else 0) + length (joined a.elements)
length-array a = let whole = length-array_bytes a in let table = length-place_table (array_start a) a in omega (arith, whole, table)

-- Sums that are cut at the greatest number.
abbrev pub cut : ℕ → ℕ
cut n = min n 18446744073709551615

pub cut_sum : (x y a b z : ℕ) → x ≡ cut a → y ≡ cut b → z ≡ cut (x + y) → z ≡ cut (a + b)
cut_sum x y a b z x_is y_is z_is = omega arith

pub cut_table : (b : Bool) (n count table : ℕ) → count ≡ cut n → table ≡ cut (if b then 2 * count else 0) → table ≡ cut (if b then 2 * n else 0)
cut_table true n count table count_is table_is = omega arith
cut_table false n count table count_is table_is = table_is

-- extra bytes with others as the first are as many
pub length-extra_after : (a : Array) (first : List ℕ) → length first ≤ length a.extra → length (extra_after a first) ≡ length a.extra
length-extra_after a first short =
    let whole = length-append first (drop (length first) a.extra) in
    omega (arith, short, whole, length-drop (length first) a.extra)

-- other extra bytes, as many, change no length
pub length-other_extra : (a : Array) (extra : List ℕ) → length extra ≡ length a.extra → length (array_bytes (record a { extra = extra })) ≡ length (array_bytes a)
length-other_extra a extra same = let one = length-array (record a { extra = extra }) in let other = length-array a in omega (arith, one, other, same)

-- where an array of an element or none in the place of some is short, its count and header fit words
pub head_room : (b : Array) (count : ℕ) → is_even b ≡ true → length (array_bytes b) ≤ 65498 → count ≡ cut (length b.elements)
    → (count ≡ length b.elements) × (count < 65536) × (array_start b + length (place_table (array_start b) b) + length (joined b.elements) ≤ 65498)
head_room b count even short count_is =
    let whole = length-array_bytes b in
    let most = length-elements_le (array_start b) b even in
    let is : count ≡ length b.elements = omega (arith, whole, most) in
    (is, omega (arith, whole, most), omega (arith, whole))

-- no table where there are no elements
place_table-nil : (at size extra : ℕ) → place_table at (new_array size extra) ≡ []
place_table-nil at size extra = elim (cases_Bool (size == 0)) [
  | inl any ↦ place_table-any at (new_array size extra) any
  | inr one ↦ place_table-even at (new_array size extra) one
]

-- the bytes of an array without elements
pub bytes_created : (size extra : ℕ) (o h r : List ℕ) → o ≡ [] → h ≡ o ++ header 0 size (8 + extra) → r ≡ take (8 + extra) h ++ replicate (8 + extra - length h) 0
    → r ≡ array_bytes (new_array size extra)
bytes_created size extra o h r o_is h_is r_is =
    let start : ℕ = array_start (new_array size extra) in
    let header_is : h ≡ header 0 size (8 + extra) = h_is ∙ ap (λ (l : List ℕ). l ++ header 0 size (8 + extra)) o_is in
    let long : length h ≡ 8 = ap length header_is in
    let kept : take (8 + extra) h ≡ h = take_all (8 + extra) h (omega arith) in
    let rest : 8 + extra - length h ≡ extra = omega arith in
    let start_is : 8 + extra ≡ start = ap (λ (n : ℕ). 8 + n) (sym (length-replicate extra 0)) in
    let behind : replicate extra 0 ≡ replicate extra 0 ++ (place_table start (new_array size extra) ++ []) =
    sym (append-nil (replicate extra 0)) ∙ ap (λ (l : List ℕ). replicate extra 0 ++ (l ++ [])) (sym (place_table-nil start size extra)) in
    r_is
    ∙ ap₂ (λ (l : List ℕ) (n : ℕ). l ++ replicate n 0) (kept ∙ header_is) rest
    ∙ ap₂ (λ (n : ℕ) (l : List ℕ). header 0 size n ++ l) start_is behind
    ∙ sym (array_bytes-spelled (new_array size extra))

-- Where the elements of an array lie: in its bytes, and by the numbers that a view reads.
use Rattle.std.proofs.Common.{◌≡◌, ◌≢◌, ℕ, zero, suc, ◌+◌, ◌*◌, ◌-◌, ◌<◌, ◌≤◌, true, ◌==◌, List, [], ◌∷◌, ◌++◌, length, take, drop, get_or, sym, ap, ap₂, ◌∙◌, inl, inr, arith, length-append, append_assoc, append-nil, take_at, drop_at}
use Rattle.std.proofs.lemmas.Bool.{cases_Bool, and_parts, cond-true, cond-false, eq-eqb, ne_eqb, eqb-true, cases_lt}
use Rattle.std.proofs.lemmas.List.{take-append-drop, take-take, drop-take, get_or-take, get_or-drop}
use Rattle.std.proofs.lemmas.List.FromFn.{get_or-map-range_with_len}
use Rattle.std.proofs.lemmas.Grind.{flat_map-append}
use Rattle.std.proofs.Math.Seq.{drop-cons, take-length}
use Rattle.std.specs.List.{list_all}
use Rattle.geos_model.specs.Words.{word_at}
use Rattle.geos_model.specs.Array.{Array, array_start, array_bytes, array_read}
use Rattle.geos_model.proofs.Arrays.{joined, head_of, table_of, array_bytes-spelled, table-even, length_table-any}
use Rattle.chunk_arrays.specs.Parts.{place_at, HasParts}
use Rattle.chunk_arrays.specs.Reading.{NoneEnds, elements_start, element_place}
use Rattle.chunk_arrays.proofs.CutLemmas.{place-is}
use Rattle.chunk_arrays.proofs.PartsLemmas.{length-elements_read, start_is, places_are, all-even, bytes-read}

-- elements in two parts
pub joined_parts : (xs : List (List ℕ)) (k : ℕ) → joined (take k xs) ++ joined (drop k xs) ≡ joined xs
joined_parts xs k = sym (flat_map-append (λ x. x) (take k xs) (drop k xs)) ∙ ap joined (take-append-drop k xs)

length-parts : (xs : List (List ℕ)) (k : ℕ) → length (joined (take k xs)) + length (joined (drop k xs)) ≡ length (joined xs)
length-parts xs k = sym (length-append (joined (take k xs)) (joined (drop k xs))) ∙ ap length (joined_parts xs k)

-- what lies before the elements
abbrev pub front_of : Array → List ℕ
front_of a = head_of a ++ a.extra ++ table_of a

pub length-front : (a : Array) → length (front_of a) ≡ elements_start a
length-front a =
    let parts = length-append a.extra (table_of a) in
    elim (cases_Bool (a.size == 0)) [
      | inl any ↦
          let table = length_table-any a any in
          let is : elements_start a ≡ array_start a + 2 * length a.elements = ap (λ (n : ℕ). array_start a + n) (cond-true (a.size == 0) _ _ any) in
          omega (arith, parts, table, is)
      | inr one ↦
          let table : length (table_of a) ≡ 0 = ap length (table-even a one) in
          let is : elements_start a ≡ array_start a + 0 = ap (λ (n : ℕ). array_start a + n) (cond-false (a.size == 0) _ _ one) in
          omega (arith, parts, table, is)
    ]

pub bytes-front : (a : Array) → array_bytes a ≡ front_of a ++ joined a.elements
bytes-front a = array_bytes-spelled a ∙ ap (λ (l : List ℕ). head_of a ++ l) (sym (append_assoc a.extra (table_of a) (joined a.elements)))

-- the bytes from an element on
pub drop-place : (a : Array) (i : ℕ) → drop (element_place a i) (array_bytes a) ≡ joined (drop i a.elements)
drop-place a i =
    let before : List ℕ = joined (take i a.elements) in
    let whole : array_bytes a ≡ (front_of a ++ before) ++ joined (drop i a.elements) =
    bytes-front a ∙ ap (λ (l : List ℕ). front_of a ++ l) (sym (joined_parts a.elements i)) ∙ sym (append_assoc (front_of a) before (joined (drop i a.elements))) in
    let front = length-front a in
    let long : length (front_of a ++ before) ≡ element_place a i = length-append (front_of a) before ∙ ap (λ (n : ℕ). n + length before) front in
    ap (drop (element_place a i)) whole ∙ drop_at (front_of a ++ before) (joined (drop i a.elements)) (element_place a i) long

-- from one place to another are the elements between
pub place-step : (a : Array) (from to : ℕ) → from ≤ to → element_place a to ≡ element_place a from + length (joined (take (to - from) (drop from a.elements)))
place-step a from to up =
    let n : ℕ = to - from in
    let is : to ≡ from + n = omega arith in
    let front : List (List ℕ) = take from a.elements in
    let cut : take from (take to a.elements) ≡ front = take-take from to a.elements up in
    let rest : drop from (take to a.elements) ≡ take n (drop from a.elements) = ap (λ (k : ℕ). drop from (take k a.elements)) is ∙ drop-take from n a.elements in
    let whole = length-parts (take to a.elements) from in
    let one : length (joined (take from (take to a.elements))) ≡ length (joined front) = ap (λ (xs : List (List ℕ)). length (joined xs)) cut in
    let two : length (joined (drop from (take to a.elements))) ≡ length (joined (take n (drop from a.elements))) = ap (λ (xs : List (List ℕ)). length (joined xs)) rest in
    omega (arith, whole, one, two)

pub place-order : (a : Array) (from to : ℕ) → from ≤ to → element_place a from ≤ element_place a to
place-order a from to up = let step = place-step a from to up in omega (arith, step)

-- the last element ends where the bytes do
pub place-end : (a : Array) → element_place a (length a.elements) ≡ length (array_bytes a)
place-end a =
    let front = length-front a in
    let all : length (joined (take (length a.elements) a.elements)) ≡ length (joined a.elements) = ap (λ (xs : List (List ℕ)). length (joined xs)) (take-length a.elements) in
    let whole = length-append (front_of a) (joined a.elements) in
    let bytes = ap length (bytes-front a) in
    omega (arith, front, all, whole, bytes)

pub place-within : (a : Array) (i : ℕ) → i ≤ length a.elements → element_place a i ≤ length (array_bytes a)
place-within a i l = let up = place-order a i (length a.elements) l in let end = place-end a in omega (arith, up, end)

-- the bytes between two places are those of the elements between
pub run-is : (a : Array) (from to : ℕ) → from ≤ to → take (element_place a to - element_place a from) (drop (element_place a from) (array_bytes a)) ≡ joined (take (to - from) (drop from a.elements))
run-is a from to up =
    let run : List ℕ = joined (take (to - from) (drop from a.elements)) in
    let step = place-step a from to up in
    let long : length run ≡ element_place a to - element_place a from = omega (arith, step) in
    ap (take (element_place a to - element_place a from)) (drop-place a from ∙ sym (joined_parts (drop from a.elements) (to - from)))
    ∙ take_at run (joined (drop (to - from) (drop from a.elements))) (element_place a to - element_place a from) long

-- one element
pub one-is : (xs : List (List ℕ)) (i : ℕ) → i < length xs → joined (take (i + 1 - i) (drop i xs)) ≡ get_or xs i []
one-is xs i l =
    let one : i + 1 - i ≡ 1 = omega arith in
    ap (λ (n : ℕ). joined (take n (drop i xs))) one
    ∙ ap (λ (ys : List (List ℕ)). joined (take 1 ys)) (drop-cons xs i [] l)
    ∙ append-nil (get_or xs i [])

-- the last byte of an element stands before the place of the next
pub end-of : (a : Array) (k : ℕ) → k < length a.elements → 0 < length (get_or a.elements k [])
    → get_or (get_or a.elements k []) (length (get_or a.elements k []) - 1) 0 ≡ get_or (array_bytes a) (element_place a (k + 1) - 1) 0
end-of a k low some =
    let n : ℕ = element_place a (k + 1) - element_place a k in
    let rest : List ℕ = drop (element_place a k) (array_bytes a) in
    let step = place-step a k (k + 1) (omega arith) in
    let one = one-is a.elements k low in
    let bytes = ap length one in
    let is : get_or a.elements k [] ≡ take n rest = sym (run-is a k (k + 1) (omega arith) ∙ one) in
    let last : length (get_or a.elements k []) - 1 ≡ n - 1 = omega (arith, step, bytes) in
    let at : element_place a k + (n - 1) ≡ element_place a (k + 1) - 1 = omega (arith, step, bytes, some) in
    ap₂ (λ (l : List ℕ) (i : ℕ). get_or l i 0) is last
    ∙ get_or-take n rest (n - 1) 0 (omega (arith, step, bytes, some))
    ∙ get_or-drop (element_place a k) (array_bytes a) (n - 1) 0
    ∙ ap (λ (i : ℕ). get_or (array_bytes a) i 0) at

-- one element more that ends in another byte
pub none_more : (a : Array) (from k byte : ℕ) → k < length a.elements → NoneEnds a from k byte → (get_or (array_bytes a) (element_place a (k + 1) - 1) 0 ≡ byte → ⊥)
    → NoneEnds a from (k + 1) byte
none_more a from k byte low none other j le lt some same = elim (cases_lt j k) [
  | inl less ↦ none j le less some same
  | inr last ↦ (
      let is : k ≡ j = omega (arith, last, lt) in
      other (ap (λ (n : ℕ). get_or (array_bytes a) (element_place a (n + 1) - 1) 0) is ∙ sym (end-of a j (omega (arith, low, is)) some) ∙ same))
]

-- elements of one size
length-some : (size : ℕ) (xs : List (List ℕ)) (i : ℕ) → list_all (λ x. length x == size) xs ≡ true → i ≤ length xs → length (joined (take i xs)) ≡ i * size
length-some size xs zero even l = omega arith
length-some size [] (suc i) even l = absurd (omega arith)
length-some size (x ∷ xs) (suc i) even l =
    let parts = and_parts (length x == size) (list_all (λ y. length y == size) xs) even in
    let here : length x ≡ size = eqb-true (length x) size parts.0 in
    let rest = length-some size xs i parts.1 (omega arith) in
    let whole = length-append x (joined (take i xs)) in
    let more : suc i * size ≡ i * size + size = omega arith in
    omega (arith, here, rest, whole, more)

-- The places, by the numbers in the bytes.
module _ (bytes : List ℕ) (has : HasParts bytes) where
  pub place-last : (i : ℕ) → i ≡ word_at bytes 0 → element_place (array_read bytes) i ≡ length bytes
  place-last i is = ap (element_place (array_read bytes)) (is ∙ sym (length-elements_read bytes)) ∙ place-end (array_read bytes) ∙ ap length (bytes-read bytes has)

  pub place-any : word_at bytes 2 ≡ 0 → (i : ℕ) → i < word_at bytes 0 → element_place (array_read bytes) i ≡ word_at bytes (word_at bytes 6 + 2 * i)
  place-any any i l =
      let a : Array = array_read bytes in
      let count = length-elements_read bytes in
      let start : elements_start a ≡ array_start a + 2 * length a.elements = ap (λ (n : ℕ). array_start a + n) (cond-true (a.size == 0) _ _ (eq-eqb a.size 0 any)) in
      ap (λ (n : ℕ). n + length (joined (take i a.elements))) start
      ∙ sym (place-is (array_start a + 2 * length a.elements) a.elements i (omega (arith, count)))
      ∙ ap (λ (ps : List ℕ). get_or ps i 0) (places_are bytes has any)
      ∙ get_or-map-range_with_len (place_at bytes (word_at bytes 6)) 0 (word_at bytes 0) i i 0 l (omega arith)

  pub place-even : word_at bytes 2 ≢ 0 → (i : ℕ) → i ≤ word_at bytes 0 → element_place (array_read bytes) i ≡ word_at bytes 6 + i * word_at bytes 2
  place-even one i l =
      let a : Array = array_read bytes in
      let count = length-elements_read bytes in
      let start : elements_start a ≡ array_start a + 0 = ap (λ (n : ℕ). array_start a + n) (cond-false (a.size == 0) _ _ (ne_eqb a.size 0 one)) in
      let is = start_is bytes has in
      let some : length (joined (take i a.elements)) ≡ i * word_at bytes 2 = length-some (word_at bytes 2) a.elements i (all-even bytes has one) (omega (arith, count)) in
      omega (arith, start, is, some)

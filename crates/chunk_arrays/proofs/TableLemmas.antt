-- The table of places of an array, in parts, with other places, and as a patch rewrites it.
use Rattle.std.proofs.Common.{◌≡◌, ℕ, ◌+◌, ◌*◌, ◌-◌, ◌%◌, ◌^◌, ◌≤◌, true, ◌==◌, List, [], ◌∷◌, ◌++◌, map, length, take, drop, flat_map, if◌then◌else◌, inl, inr, sym, ap, ap₂, refl, ◌∙◌, arith, length-drop, length-take-le, append_assoc, take-append-drop, drop-drop, take_at, drop_at}
use Rattle.std.proofs.lemmas.Bool.{cases_Bool, cond-true, cond-false}
use Rattle.std.specs.List.{splice}
use Rattle.geos_model.specs.Words.{word}
use Rattle.geos_model.specs.Array.{Array, places_from, place_table, array_start, array_bytes}
use Rattle.geos_model.proofs.Arrays.{joined, length-places, array_bytes-spelled, behind_extra, table-any}
use Rattle.chunk_edits.specs.Patching.{rebased}
use Rattle.chunk_edits.proofs.PatchingLemmas.{word-same, rebased_words}
use Rattle.chunk_arrays.specs.Reading.{element_place, words_from}
use Rattle.chunk_arrays.proofs.PlaceLemmas.{place-step}
use Rattle.chunk_arrays.specs.Drafting.{Adds}
use Rattle.chunk_arrays.specs.declared.draft.Draft.{Draft}
use Rattle.chunk_arrays.proofs.RewritingLemmas.{cut, words-splice, length_joined-splice, length-place_table, run_back, length-array, place_table-any, length-words_from}
use Rattle.chunk_arrays.proofs.DraftingLemmas.{adds-as, adds-around}

-- a list in three parts
pub three_parts : (xs : List (List ℕ)) (from to : ℕ) → from ≤ to → take from xs ++ (take (to - from) (drop from xs) ++ drop to xs) ≡ xs
three_parts xs from to order =
    let there : to ≡ from + (to - from) = omega arith in
    ap (λ (n : ℕ). take from xs ++ (take (to - from) (drop from xs) ++ drop n xs)) there
    ∙ ap (λ (l : List (List ℕ)). take from xs ++ (take (to - from) (drop from xs) ++ l)) (sym (drop-drop (to - from) from xs))
    ∙ ap (λ (l : List (List ℕ)). take from xs ++ l) (take-append-drop (to - from) (drop from xs))
    ∙ take-append-drop from xs

pub length-part : (xs : List (List ℕ)) (from to : ℕ) → from ≤ to → to ≤ length xs → length (take (to - from) (drop from xs)) ≡ to - from
length-part xs from to order within = length-take-le (to - from) (drop from xs) (omega (arith, length-drop from xs))

-- as many words as elements, from whichever place
pub no_words : (xs : List (List ℕ)) (at to : ℕ) (words : List ℕ) → words ≡ words_from at xs → length words ≡ 0 → words ≡ words_from to xs
no_words [] at to words is none = is
no_words (x ∷ xs) at to words is none = absurd (let long = ap length is ∙ length-words_from at (x ∷ xs) in omega (arith, long, none))

-- Where sizes vary, the first element begins behind the table.
module _ (a : Array) (any : a.size ≡ 0) where
  pub is_zero : (a.size == 0) ≡ true
  is_zero = ap (λ (n : ℕ). n == 0) any

  pub place-of : (i : ℕ) → element_place a i ≡ array_start a + 2 * length a.elements + length (joined (take i a.elements))
  place-of i = ap (λ (n : ℕ). array_start a + n + length (joined (take i a.elements))) (cond-true (a.size == 0) _ _ is_zero)

  -- the words of all places, those of some in the middle apart
  pub table-parts : (from to : ℕ) → from ≤ to
      → place_table (array_start a) a ≡ words_from (element_place a 0) (take from a.elements) ++ (words_from (element_place a from) (take (to - from) (drop from a.elements)) ++ words_from (element_place a to) (drop to a.elements))
  table-parts from to order =
      let xs : List (List ℕ) = a.elements in
      let run : List (List ℕ) = take (to - from) (drop from xs) in
      let first : ℕ = array_start a + 2 * length xs in
      let start : first + 0 ≡ element_place a 0 = sym (place-of 0) in
      let begin : first ≡ element_place a 0 = omega (arith, start) in
      let here : first + length (joined (take from xs)) ≡ element_place a from = sym (place-of from) in
      let there : first + length (joined (take from xs)) + length (joined run) ≡ element_place a to =
      (let step = place-step a from to order in omega (arith, step, here)) in
      table-any a is_zero
      ∙ ap (words_from first) (sym (three_parts xs from to order))
      ∙ words-splice xs run from to first
      ∙ ap₂ (λ (n m : ℕ). words_from n (take from xs) ++ (words_from (first + length (joined (take from xs))) run ++ words_from m (drop to xs))) begin there
      ∙ ap (λ (n : ℕ). words_from (element_place a 0) (take from xs) ++ (words_from n run ++ words_from (element_place a to) (drop to xs))) here

  -- the words of the places of some
  pub table-run : (from to at n : ℕ) → from ≤ to → to ≤ length a.elements → at ≡ array_start a + 2 * from → n ≡ 2 * (to - from)
      → take n (drop at (array_bytes a)) ≡ words_from (element_place a from) (take (to - from) (drop from a.elements))
  table-run from to at n order within at_is n_is =
      let xs : List (List ℕ) = a.elements in
      let front : List ℕ = words_from (element_place a 0) (take from xs) in
      let run : List ℕ = words_from (element_place a from) (take (to - from) (drop from xs)) in
      let back : List ℕ = words_from (element_place a to) (drop to xs) in
      let front_long : length front ≡ 2 * from = length-words_from (element_place a 0) (take from xs) ∙ ap (λ (k : ℕ). 2 * k) (length-take-le from xs (omega arith)) in
      let run_long : length run ≡ n = length-words_from (element_place a from) (take (to - from) (drop from xs)) ∙ ap (λ (k : ℕ). 2 * k) (length-part xs from to order within) ∙ sym n_is in
      let behind : drop at (array_bytes a) ≡ run ++ (back ++ joined xs) =
      ap (λ (k : ℕ). drop k (array_bytes a)) at_is
      ∙ sym (drop-drop (2 * from) (array_start a) (array_bytes a))
      ∙ ap (λ (l : List ℕ). drop (2 * from) (drop (array_start a) l)) (array_bytes-spelled a)
      ∙ ap (drop (2 * from)) (behind_extra a ∙ ap (λ (l : List ℕ). l ++ joined xs) (table-parts from to order) ∙ append_assoc front (run ++ back) (joined xs))
      ∙ drop_at front ((run ++ back) ++ joined xs) (2 * from) front_long
      ∙ append_assoc run back (joined xs) in
      ap (take n) behind ∙ take_at run (back ++ joined xs) n run_long

-- Places that are as far behind one number as others are behind another.
shifted-places : (xs : List (List ℕ)) (at bt from to : ℕ) → at + to ≡ bt + from
    → flat_map word (map (λ w. w + to + (2 ^ 16 - from % 2 ^ 16)) (places_from at xs)) ≡ words_from bt xs
shifted-places [] at bt from to same = refl
shifted-places (x ∷ xs) at bt from to same =
    ap₂ (λ (l m : List ℕ). l ++ m)
    (word-same (at + to + (2 ^ 16 - from % 2 ^ 16)) bt (omega arith))
    (shifted-places xs (at + length x) (bt + length x) from to (omega arith))

pub rebased-places : (xs : List (List ℕ)) (words at to : ℕ) → words ≡ length xs → rebased words at to (words_from at xs) ≡ words_from to xs
rebased-places xs words at to is =
    ap (λ (n : ℕ). rebased n at to (words_from at xs)) (is ∙ sym (length-places at xs))
    ∙ rebased_words (places_from at xs) at to
    ∙ shifted-places xs at to at to (omega arith)

-- Elements in the place of some, where the array stays short: how many there are, and where the last one ends.
pub table_fits : (a : Array) (from to count : ℕ) (ys : List (List ℕ)) → a.size ≡ 0
    → length (array_bytes (record a { elements = splice a.elements from to ys })) ≤ 65498
    → count ≡ cut (length (splice a.elements from to ys))
    → (count ≡ length (splice a.elements from to ys)) × (array_start a + 2 * count + length (joined (take from a.elements)) + length (joined ys) + length (joined (drop to a.elements)) ≤ 65498)
table_fits a from to count ys any short count_is =
    let b : Array = record a { elements = splice a.elements from to ys } in
    let whole = length-array b in
    let table : (if a.size == 0 then 2 * length b.elements else 0) ≡ 2 * length (splice a.elements from to ys) = cond-true (a.size == 0) _ _ (is_zero a any) in
    let parts = length_joined-splice a.elements ys from to in
    let is : count ≡ length (splice a.elements from to ys) = omega (arith, whole, table, short, count_is) in
    (is, omega (arith, whole, table, short, parts, is))

-- the places of all elements, a part at a time
pub table-added : (a : Array) (from to count : ℕ) (ys : List (List ℕ)) → a.size ≡ 0 → from ≤ to → count ≡ length (splice a.elements from to ys)
    → (d e f g : Draft) (first place behind all : ℕ) (words : List ℕ)
    → first ≡ array_start a + 2 * count → place ≡ first + length (joined (take from a.elements)) → behind ≡ place + length (joined ys) → all ≡ length a.elements
    → words ≡ words_from (element_place a from) (take (to - from) (drop from a.elements))
    → Adds d e (words_from (element_place a 0) (take (from - 0) (drop 0 a.elements))) (words_from first (take (from - 0) (drop 0 a.elements)))
    → Adds e f words (words_from place ys)
    → Adds f g (words_from (element_place a to) (take (all - to) (drop to a.elements))) (words_from behind (take (all - to) (drop to a.elements)))
    → Adds d g (place_table (array_start a) a) (place_table (array_start a) (record a { elements = splice a.elements from to ys }))
table-added a from to count ys any order count_is d e f g first place behind all words first_is place_is behind_is all_is words_is one two three =
    let xs : List (List ℕ) = a.elements in
    let b : Array = record a { elements = splice xs from to ys } in
    let front : take (from - 0) (drop 0 xs) ≡ take from xs = (let same : from - 0 ≡ from = omega arith in ap (λ (n : ℕ). take n xs) same) in
    let back : take (all - to) (drop to xs) ≡ drop to xs = run_back xs to all all_is in
    let alike : (m n : ℕ) (ws : List (List ℕ)) → length (words_from m ws) ≡ length (words_from n ws) =
    λ m n ws. length-words_from m ws ∙ sym (length-words_from n ws) in
    let old : words_from (element_place a 0) (take (from - 0) (drop 0 xs)) ++ (words ++ words_from (element_place a to) (take (all - to) (drop to xs))) ≡ place_table (array_start a) a =
    ap₂ (λ (l m : List (List ℕ)). words_from (element_place a 0) l ++ (words ++ words_from (element_place a to) m)) front back
    ∙ ap (λ (l : List ℕ). words_from (element_place a 0) (take from xs) ++ (l ++ words_from (element_place a to) (drop to xs))) words_is
    ∙ sym (table-parts a any from to order) in
    let new : words_from first (take (from - 0) (drop 0 xs)) ++ (words_from place ys ++ words_from behind (take (all - to) (drop to xs))) ≡ place_table (array_start a) b =
    ap₂ (λ (l m : List (List ℕ)). words_from first l ++ (words_from place ys ++ words_from behind m)) front back
    ∙ ap₂ (λ (m n : ℕ). words_from first (take from xs) ++ (words_from m ys ++ words_from n (drop to xs))) place_is (behind_is ∙ ap (λ (n : ℕ). n + length (joined ys)) place_is)
    ∙ sym (words-splice xs ys from to first)
    ∙ ap (λ (n : ℕ). words_from n (splice xs from to ys)) (first_is ∙ ap (λ (n : ℕ). array_start a + 2 * n) count_is)
    ∙ sym (place_table-any (array_start a) b (is_zero a any)) in
    adds-as d g _ _ _ _ old new
    (adds-around d e f g _ _ words (words_from place ys) _ _
    (alike (element_place a 0) first (take (from - 0) (drop 0 xs)))
    (alike (element_place a to) behind (take (all - to) (drop to xs)))
    one two three)

-- no more than the words of all places
pub place_table-le : (at : ℕ) (a : Array) → length (place_table at a) ≤ 2 * length a.elements
place_table-le at a = elim (cases_Bool (a.size == 0)) [
  | inl any ↦ (let long = length-place_table at a ∙ cond-true (a.size == 0) _ _ any in omega (arith, long))
  | inr one ↦ (let long = length-place_table at a ∙ cond-false (a.size == 0) _ _ one in omega (arith, long))
]

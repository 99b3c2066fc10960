-- Where the bytes of an array change by which an element or none takes the place of some.
use Rattle.std.proofs.Common.{◌≡◌, ◌⊎◌, ℕ, ◌+◌, ◌*◌, ◌-◌, ◌<◌, ◌≤◌, Bool, true, false, ◌==◌, ◌&&◌, ◌||◌, if◌then◌else◌, List, [], ◌∷◌, ◌++◌, length, take, drop, Option, Some, None, inl, inr, refl, sym, ap, ap₂, ◌∙◌, arith, length-drop, take-append-drop, take_at, drop_at, eqb-true, eq-eqb}
use Rattle.std.proofs.lemmas.Bool.{cases_Bool, and_parts, and_from, or_cases, or_left, or_right, cond-true, true≢false}
use Rattle.std.proofs.lemmas.List.{append_cancel_left}
use Rattle.std.specs.List.{splice}
use Rattle.byteorder.specs.Endian.{little_number}
use Rattle.geos_model.specs.Bytes.{same_bytes}
use Rattle.geos_model.specs.Words.{word}
use Rattle.geos_model.specs.Array.{Array, array_bytes, array_of, array_start, is_even, place_table}
use Rattle.geos_model.specs.Places.{head_length}
use Rattle.geos_model.proofs.Arrays.{joined, table_of, array_again, all_even, length-joined, length-elements, length-array_bytes, same_bytes-is, same_bytes-refl, table-even}
use Rattle.geos_model.proofs.Images.{word-reads_back}
use Rattle.geos_model.specs.declared.handle.VmHandle.{VmHandle}
use Rattle.geos_model.specs.declared.handle.ChunkHandle.{ChunkHandle}
use Rattle.geos_model.specs.declared.place.Place.{Place}
use Rattle.geos_model.specs.declared.place.Place.TheVariants as place
use Rattle.chunk_edits.specs.Runs.{AreRuns, head_places}
use Rattle.chunk_arrays.specs.Reading.{elements_start, element_place, words_from}
use Rattle.chunk_arrays.specs.Rewriting.{extra_after}
use Rattle.chunk_arrays.proofs.PlaceLemmas.{front_of, length-front, bytes-front, place-step, place-within}
use Rattle.chunk_arrays.proofs.RewritingLemmas.{words-splice, length_joined-splice, length-spliced, length-extra_after, length-array, place_table-any}
use Rattle.chunk_arrays.proofs.TableLemmas.{three_parts, length-part, is_zero, place-of, table-parts}

-- how many bytes some elements in the middle have
abbrev pub length_between : List (List ℕ) → ℕ → ℕ → ℕ
length_between xs from to = length (joined (take (to - from) (drop from xs)))

-- Elements of which others come in the place of some.
module _ (xs ys : List (List ℕ)) (from to : ℕ) (order : from ≤ to) where
  pub length-parts : length (joined xs) ≡ length (joined (take from xs)) + length_between xs from to + length (joined (drop to xs))
  length-parts = ap (λ (l : List (List ℕ)). length (joined l)) (sym (three_parts xs from to order)) ∙ length_joined-splice xs (take (to - from) (drop from xs)) from to

-- one place at most is the same whatever lies there
one_place : (at : ℕ) (xs ys : List (List ℕ)) → length xs ≡ length ys → length ys ≤ 1 → words_from at xs ≡ words_from at ys
one_place at [] [] same one = refl
one_place at [] (y ∷ ys) same one = absurd (omega arith)
one_place at (x ∷ xs) [] same one = absurd (omega arith)
one_place at (x ∷ []) (y ∷ []) same one = refl
one_place at (x ∷ []) (y ∷ z ∷ ys) same one = absurd (omega arith)
one_place at (x ∷ w ∷ xs) (y ∷ ys) same one = absurd (omega arith)

word-same : (m n : ℕ) (rest behind : List ℕ) → m < 65536 → n < 65536 → word m ++ rest ≡ word n ++ behind → m ≡ n
word-same m n rest behind low near same = sym (word-reads_back m rest low) ∙ ap (little_number 2) same ∙ word-reads_back n behind near

-- the places of some tell where the first begins
begin_same : (xs : List (List ℕ)) (m n : ℕ) → m < 65536 → n < 65536 → words_from m xs ≡ words_from n xs → (length xs ≡ 0) ⊎ (m ≡ n)
begin_same [] m n low near same = inl refl
begin_same (x ∷ xs) m n low near same = inr (word-same m n (words_from (m + length x) xs) (words_from (n + length x) xs) low near same)

no_place : (xs : List (List ℕ)) (m n : ℕ) → length xs ≡ 0 → words_from m xs ≡ words_from n xs
no_place [] m n none = refl
no_place (x ∷ xs) m n none = absurd (omega arith)

-- The table of places, and that with others in the place of some, as many and one at most.
module _ (a : Array) (from to : ℕ) (ys : List (List ℕ)) (order : from ≤ to) (within : to ≤ length a.elements) (any : a.size ≡ 0) (level : length (splice a.elements from to ys) ≡ length a.elements) (one : length ys ≤ 1) where
  -- the table where the elements behind begin there
  abbrev table_with : ℕ → List ℕ
  table_with n = words_from (element_place a 0) (take from a.elements) ++ (words_from (element_place a from) (take (to - from) (drop from a.elements)) ++ words_from n (drop to a.elements))

  table-old : table_of a ≡ table_with (element_place a from + length_between a.elements from to)
  table-old = table-parts a any from to order ∙ ap table_with (place-step a from to order)

  table-new : place_table (array_start a) (record a { elements = splice a.elements from to ys }) ≡ table_with (element_place a from + length (joined ys))
  table-new =
      let xs : List (List ℕ) = a.elements in
      let front : ℕ = length (joined (take from xs)) in
      let first : ℕ = array_start a + 2 * length (splice xs from to ys) in
      let start : array_start a + 2 * length xs + 0 ≡ element_place a 0 = sym (place-of a any 0) in
      let begin : first ≡ element_place a 0 = omega (arith, start, level) in
      let here : first + front ≡ element_place a from = (let at = place-of a any from in omega (arith, at, level)) in
      let few : length ys ≡ length (take (to - from) (drop from xs)) =
      (let long = length-spliced xs ys from to order within in let part = length-part xs from to order within in omega (arith, long, part, level, order, within)) in
      place_table-any (array_start a) (record a { elements = splice xs from to ys }) (is_zero a any)
      ∙ words-splice xs ys from to first
      ∙ ap₂ (λ (n m : ℕ). words_from n (take from xs) ++ (words_from m ys ++ words_from (m + length (joined ys)) (drop to xs))) begin here
      ∙ ap (λ (l : List ℕ). words_from (element_place a 0) (take from xs) ++ (l ++ words_from (element_place a from + length (joined ys)) (drop to xs)))
      (sym (one_place (element_place a from) (take (to - from) (drop from xs)) ys (sym few) one))

  -- where no element is behind, or they begin where they did
  pub table-stays : (to ≡ length a.elements) ⊎ (length_between a.elements from to ≡ length (joined ys)) → table_of a ≡ place_table (array_start a) (record a { elements = splice a.elements from to ys })
  table-stays last = elim last [
    | inl end ↦ (
        let none : length (drop to a.elements) ≡ 0 = (let rest = length-drop to a.elements in omega (arith, rest, end)) in
        table-old
        ∙ ap (λ (l : List ℕ). words_from (element_place a 0) (take from a.elements) ++ (words_from (element_place a from) (take (to - from) (drop from a.elements)) ++ l))
        (no_place (drop to a.elements) (element_place a from + length_between a.elements from to) (element_place a from + length (joined ys)) none)
        ∙ sym table-new)
    | inr same ↦ table-old ∙ ap (λ (n : ℕ). table_with (element_place a from + n)) same ∙ sym table-new
  ]

  pub stays-table : element_place a from + length_between a.elements from to < 65536 → element_place a from + length (joined ys) < 65536
      → table_of a ≡ place_table (array_start a) (record a { elements = splice a.elements from to ys }) → (to ≡ length a.elements) ⊎ (length_between a.elements from to ≡ length (joined ys))
  stays-table low near same =
      let words : words_from (element_place a from + length_between a.elements from to) (drop to a.elements) ≡ words_from (element_place a from + length (joined ys)) (drop to a.elements) =
      append_cancel_left (words_from (element_place a from) (take (to - from) (drop from a.elements))) (words_from (element_place a from + length_between a.elements from to) (drop to a.elements)) (words_from (element_place a from + length (joined ys)) (drop to a.elements))
      (append_cancel_left (words_from (element_place a 0) (take from a.elements)) _ _ (sym table-old ∙ same ∙ table-new)) in
      elim (begin_same (drop to a.elements) (element_place a from + length_between a.elements from to) (element_place a from + length (joined ys)) low near words) [
        | inl none ↦ inl (let rest = length-drop to a.elements in omega (arith, rest, none, within))
        | inr there ↦ inr (omega (arith, there))
      ]

-- the place of the bytes before the elements, or none
heads_of : (b : VmHandle) (c : ChunkHandle) (kept : Bool) (m n : ℕ) → head_places b c (if kept then None else Some (m, n)) ≡ (if kept then [] else place.Run b c 0 m n ∷ [])
heads_of b c true m n = refl
heads_of b c false m n = refl

-- the places of the same numbers
module _ (b : VmHandle) (c : ChunkHandle) where
  places_same : (kept kept′ : Bool) (h : Option (ℕ × ℕ)) (head new_head at gone come head′ new_head′ at′ gone′ come′ : ℕ) → kept ≡ kept′
      → h ≡ (if kept then None else Some (head, new_head)) → head ≡ head′ → new_head ≡ new_head′ → at ≡ at′ → gone ≡ gone′ → come ≡ come′
      → head_places b c h ++ place.Run b c at gone come ∷ [] ≡ (if kept′ then [] else place.Run b c 0 head′ new_head′ ∷ []) ++ place.Run b c at′ gone′ come′ ∷ []
  places_same kept kept′ h head new_head at gone come head′ new_head′ at′ gone′ come′ kept_is h_is head_is new_head_is at_is gone_is come_is =
      let heads : head_places b c h ≡ (if kept′ then [] else place.Run b c 0 head′ new_head′ ∷ []) =
      ap (head_places b c) h_is ∙ heads_of b c kept head new_head
      ∙ ap₂ (λ (m n : ℕ). if kept then [] else place.Run b c 0 m n ∷ []) head_is new_head_is
      ∙ ap (λ (k : Bool). if k then [] else place.Run b c 0 head′ new_head′ ∷ []) kept_is in
      ap₂ (λ (ps : List Place) (n : ℕ). ps ++ place.Run b c n gone come ∷ []) heads at_is
      ∙ ap₂ (λ (m n : ℕ). (if kept′ then [] else place.Run b c 0 head′ new_head′ ∷ []) ++ place.Run b c at′ m n ∷ []) gone_is come_is

-- An array of which others, or none, come in the place of some elements.
module _ (a : Array) (first : List ℕ) (from to : ℕ) (ys : List (List ℕ)) (short : length first ≤ length a.extra) (order : from ≤ to) (within : to ≤ length a.elements) where
  abbrev new : Array
  new = record a { extra = extra_after a first; elements = splice a.elements from to ys }

  pub start_same : array_start new ≡ array_start a
  start_same = ap (λ (n : ℕ). 8 + n) (length-extra_after a first short)

  -- what the code looks at
  abbrev stays : Bool
  stays = length new.elements == length a.elements && (same_bytes (take (length first) a.extra) first && (to == length a.elements || length_between a.elements from to == length (joined ys)))

  abbrev spelled : ℕ → List ℕ → List ℕ → List ℕ
  spelled count extra table = word count ++ word a.size ++ word 0 ++ word (8 + length extra) ++ extra ++ table

  -- the other extra bytes are the old ones
  extra_stays : take (length first) a.extra ≡ first → extra_after a first ≡ a.extra
  extra_stays same = ap (λ (l : List ℕ). l ++ drop (length first) a.extra) (sym same) ∙ take-append-drop (length first) a.extra

  stays_extra : a.extra ≡ extra_after a first → take (length first) a.extra ≡ first
  stays_extra same = ap (take (length first)) same ∙ take_at first (drop (length first) a.extra) (length first) refl

  module _ (few : (ys ≡ []) ⊎ ((to ≤ from + 1) × (length ys ≡ 1))) (even : is_even a ≡ true) (even_new : is_even new ≡ true) where
    most : length ys ≤ 1
    most = elim few [
      | inl none ↦ (let no = ap length none in omega (arith, no))
      | inr one ↦ (let is = one.1 in omega (arith, is))
    ]

    table_same : length new.elements ≡ length a.elements → (to ≡ length a.elements) ⊎ (length_between a.elements from to ≡ length (joined ys)) → table_of a ≡ table_of new
    table_same level last = elim (cases_Bool (a.size == 0)) [
      | inl any ↦
          table-stays a from to ys order within (eqb-true a.size 0 any) level most last
          ∙ ap (λ (n : ℕ). place_table n (record a { elements = splice a.elements from to ys })) (sym start_same)
      | inr one ↦ table-even a one ∙ sym (table-even new one)
    ]

    front_same : stays ≡ true → front_of a ≡ front_of new
    front_same so =
        let outer = and_parts _ _ so in
        let inner = and_parts _ _ outer.1 in
        let level : length new.elements ≡ length a.elements = eqb-true _ _ outer.0 in
        let extra : extra_after a first ≡ a.extra = extra_stays (same_bytes-is _ _ inner.0) in
        let table : table_of a ≡ table_of new = table_same level (elim (or_cases _ _ inner.1) [
          | inl end ↦ inl (eqb-true _ _ end)
          | inr same ↦ inr (eqb-true _ _ same)
        ]) in
        ap₂ (λ (n : ℕ) (l : List ℕ). spelled n l (table_of a)) (sym level) (sym extra)
        ∙ ap (spelled (length new.elements) (extra_after a first)) table

    module _ (old_low : length (array_bytes a) < 65536) (new_low : length (array_bytes new) < 65536) where
      -- elements of one size, and as many, have as many bytes together
      pub level_even : (a.size == 0) ≡ false → length new.elements ≡ length a.elements → length_between a.elements from to ≡ length (joined ys)
      level_even one level =
          let old = length-joined a.size a.elements (all_even a even one) in
          let all = length-joined a.size new.elements (all_even new even_new one) ∙ ap (λ (n : ℕ). n * a.size) level in
          let parts = length-parts a.elements ys from to order in
          let is = length_joined-splice a.elements ys from to in
          omega (arith, old, all, parts, is)

      last_same : length new.elements ≡ length a.elements → table_of a ≡ table_of new → (to ≡ length a.elements) ⊎ (length_between a.elements from to ≡ length (joined ys))
      last_same level same = elim (cases_Bool (a.size == 0)) [
        | inl any ↦
            let zero : a.size ≡ 0 = eqb-true a.size 0 any in
            let end = place-within a to within in
            let step = place-step a from to order in
            let at = place-of a zero from in
            let long = length-array new in
            let table : (if a.size == 0 then 2 * length new.elements else 0) ≡ 2 * length new.elements = cond-true (a.size == 0) _ _ any in
            let parts = length_joined-splice a.elements ys from to in
            let extra = start_same in
            stays-table a from to ys order within zero level most (omega (arith, end, step, old_low)) (omega (arith, at, long, table, parts, extra, level, new_low))
            (same ∙ ap (λ (n : ℕ). place_table n (record a { elements = splice a.elements from to ys })) start_same)
        | inr one ↦ inr (level_even one level)
      ]

      same_stays : front_of a ≡ front_of new → stays ≡ true
      same_stays same =
          let old = length-array_bytes a in
          let old_count = length-elements a even in
          let all = length-array_bytes new in
          let new_count = length-elements new even_new in
          let level : length a.elements ≡ length new.elements = word-same (length a.elements) (length new.elements) _ _ (omega (arith, old, old_count, old_low)) (omega (arith, all, new_count, new_low)) same in
          let behind : a.extra ++ table_of a ≡ extra_after a first ++ table_of new = ap (drop 8) same in
          let long : length (extra_after a first) ≡ length a.extra = length-extra_after a first short in
          let extra : a.extra ≡ extra_after a first = sym (take_at a.extra (table_of a) (length a.extra) refl) ∙ ap (take (length a.extra)) behind ∙ take_at (extra_after a first) (table_of new) (length a.extra) long in
          let table : table_of a ≡ table_of new = sym (drop_at a.extra (table_of a) (length a.extra) refl) ∙ ap (drop (length a.extra)) behind ∙ drop_at (extra_after a first) (table_of new) (length a.extra) long in
          and_from _ _ (eq-eqb _ _ (sym level)) (and_from _ _ (ap (λ (l : List ℕ). same_bytes l first) (stays_extra extra) ∙ same_bytes-refl first)
          (elim (last_same (sym level) table) [
            | inl end ↦ or_left (to == length a.elements) (length_between a.elements from to == length (joined ys)) (eq-eqb _ _ end)
            | inr is ↦ or_right (to == length a.elements) (length_between a.elements from to == length (joined ys)) (eq-eqb _ _ is)
          ]))

      -- the bytes before the elements stay where the code says so
      stays-is : stays ≡ same_bytes (front_of a) (front_of new)
      stays-is = elim (cases_Bool stays) [
        | inl so ↦ so ∙ sym (ap (same_bytes (front_of a)) (sym (front_same so)) ∙ same_bytes-refl (front_of a))
        | inr moved ↦ elim (cases_Bool (same_bytes (front_of a) (front_of new))) [
          | inl same ↦ absurd (true≢false (sym (same_stays (same_bytes-is _ _ same)) ∙ moved))
          | inr other ↦ moved ∙ sym other
        ]
      ]

      -- The bytes before the elements, taken from all.
      taken : (b : Array) (n : ℕ) → n ≡ elements_start b → take n (array_bytes b) ≡ front_of b
      taken b n is =
          ap (λ (k : ℕ). take k (array_bytes b)) (is ∙ sym (length-front b))
          ∙ ap (take (length (front_of b))) (bytes-front b)
          ∙ take_at (front_of b) (joined b.elements) (length (front_of b)) refl

      new_count : from + length ys + length (drop to a.elements) ≡ length new.elements
      new_count = (let many = length-spliced a.elements ys from to order within in let rest = length-drop to a.elements in omega (arith, many, rest))

      new_start : head_length a (from + length ys + length (drop to a.elements)) ≡ elements_start new
      new_start = ap₂ (λ (s n : ℕ). s + (if a.size == 0 then 2 * n else 0)) (sym start_same) new_count

      -- the numbers that are looked up and summed make the places
      pub runs_are : (kept : Bool) (head new_head at gone come : ℕ) (h : Option (ℕ × ℕ)) → kept ≡ stays
          → head ≡ elements_start a → new_head ≡ elements_start new → at ≡ new_head + length (joined (take from a.elements)) → gone ≡ length_between a.elements from to → come ≡ length (joined ys)
          → h ≡ (if kept then None else Some (head, new_head))
          → AreRuns (array_bytes a) (array_bytes new) from to (length ys) (record { head = h; at = at; before = gone; after = come })
      runs_are kept head new_head at gone come h kept_is head_is new_head_is at_is gone_is come_is h_is b c =
          let again : array_of (array_bytes a) ≡ Some a = array_again a even old_low in
          let old = length-array a in
          let all = length-array new in
          let parts = length-parts a.elements ys from to order in
          let is = length_joined-splice a.elements ys from to in
          let count = new_start in
          let before : ℕ = length (joined (take from a.elements)) in
          let behind : ℕ = length (joined (drop to a.elements)) in
          let start : ℕ = head_length a (length a.elements) in
          let start′ : ℕ = head_length a (from + length ys + length (drop to a.elements)) in
          let at_same : at ≡ start′ + before = omega (arith, at_is, new_head_is, count) in
          let gone_same : gone ≡ length (array_bytes a) - start - before - behind = omega (arith, gone_is, old, parts) in
          let come_same : come ≡ length (array_bytes new) - (start′ + before) - behind = omega (arith, all, is, count, come_is) in
          let kept_same : kept ≡ same_bytes (take start (array_bytes a)) (take start′ (array_bytes new)) =
          kept_is ∙ stays-is ∙ sym (ap₂ same_bytes (taken a start refl) (taken new start′ count)) in
          rw again
          (places_same b c kept _ h head new_head at gone come start start′ (start′ + before) _ _ kept_same
          h_is head_is (new_head_is ∙ sym count) at_same gone_same come_same)

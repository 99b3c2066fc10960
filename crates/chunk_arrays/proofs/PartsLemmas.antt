-- Bytes with the parts of an array are an array, and an array's bytes have them.
use Rattle.std.proofs.Common.{◌≡◌, ◌≢◌, ℕ, zero, suc, ◌+◌, ◌*◌, ◌-◌, ◌%◌, ◌<◌, ◌≤◌, Bool, true, false, ◌&&◌, ◌||◌, ◌==◌, nat_lt, List, [], ◌++◌, map, length, take, drop, get_or, flat_map, is_some, Some, None, refl, sym, ap, subst, ◌∙◌, inl, inr, arith, drop-drop}
use Rattle.std.proofs.lemmas.Bool.{cases_Bool, cases_lt, and_parts, and_from, cond-true, cond-false, eq-eqb, ne_eqb, eqb-true, eqb-false, lt-ltb, true≢false}
use Rattle.std.proofs.lemmas.List.{drop-take, length-drop, length-take}
use Rattle.std.proofs.Math.Seq.{drop-length}
use Rattle.std.proofs.Math.Nat.{mod-le}
use Rattle.std.proofs.lemmas.List.FromFn.{length-map-range_with_len, get_or-map-range_with_len}
use Rattle.std.specs.List.{range_with_len, list_all}
use Rattle.byteorder.specs.Endian.{little_number}
use Rattle.geos_model.specs.Bytes.{same_bytes}
use Rattle.geos_model.specs.Words.{word, word_at}
use Rattle.geos_model.specs.Array.{places_from, array_start, array_bytes, is_even, cut_at, cut_evenly, array_read, array_of}
use Rattle.geos_model.proofs.Images.{word-reads_back}
use Rattle.geos_model.proofs.Arrays.{joined, same_bytes-is, same_bytes-refl, length-joined, length-places, head_of, table_of, places_of, spelled, array_bytes-spelled, start-read, behind_extra, table-any, table-even, length_table-any, all_even, length-array_bytes}
use Rattle.chunk_arrays.specs.Parts.{AreByteValues, place_at, IsPlaceTable, HasElements, HasParts}
use Rattle.chunk_arrays.proofs.CutLemmas.{word_at-lt, rejoin, word_rejoin, words_rejoin, word_in_words, length-cut_at, length-cut_evenly, even-cut_evenly, joined-cut_evenly, cut_from, places-cut, joined-cut, length-cut_at_le, place-next, place-le}

-- places that rise
pub rising_le : (g : ℕ → ℕ) (n i d : ℕ) → ((k : ℕ) → k + 1 < n → g k ≤ g (k + 1)) → i + d < n → g i ≤ g (i + d)
rising_le g n i zero rising l = let same : i + 0 ≡ i = omega arith in subst (λ (k : ℕ). g i ≤ g k) (sym same) (omega arith)
rising_le g n i (suc d) rising l =
    let next : i + suc d ≡ i + d + 1 = omega arith in
    let one = rising (i + d) (omega arith) in
    let rest = rising_le g n i d rising (omega arith) in
    subst (λ (k : ℕ). g i ≤ g k) (sym next) (omega (arith, one, rest))

module _ (bytes : List ℕ) where
  -- the numbers of the header
  abbrev count_of : ℕ
  count_of = word_at bytes 0

  abbrev size_of : ℕ
  size_of = word_at bytes 2

  abbrev start_of : ℕ
  start_of = word_at bytes 6

  -- the elements that are read, where sizes vary and where they don't
  abbrev elements_any : List (List ℕ)
  elements_any = cut_from (place_at bytes start_of) bytes 0 count_of

  abbrev elements_even : List (List ℕ)
  elements_even = cut_evenly count_of size_of (drop start_of bytes)

  pub elements-any : size_of ≡ 0 → (array_read bytes).elements ≡ elements_any
  elements-any any = cond-true (size_of == 0) _ _ (eq-eqb size_of 0 any)

  pub elements-even : size_of ≢ 0 → (array_read bytes).elements ≡ elements_even
  elements-even one = cond-false (size_of == 0) _ _ (ne_eqb size_of 0 one)

  -- there are as many as the header says
  pub length-elements_read : length (array_read bytes).elements ≡ count_of
  length-elements_read = elim (cases_Bool (size_of == 0)) [
    | inl any ↦ ap length (cond-true (size_of == 0) _ _ any) ∙ length-cut_at (map (place_at bytes start_of) (range_with_len 0 count_of)) bytes ∙ length-map-range_with_len (place_at bytes start_of) 0 count_of
    | inr one ↦ ap length (cond-false (size_of == 0) _ _ one) ∙ length-cut_evenly count_of size_of (drop start_of bytes)
  ]

  length-extra_read : length (array_read bytes).extra ≤ start_of - 8
  length-extra_read =
      let cut = length-drop 8 (take start_of bytes) in
      let taken = length-take start_of bytes in
      omega (arith, cut, taken)

-- The first half: bytes with these parts are an array.
module _ (bytes : List ℕ) (has : HasParts bytes) where
  pub start_is : array_start (array_read bytes) ≡ start_of bytes
  start_is =
      let cut = length-drop 8 (take (start_of bytes) bytes) in
      let taken = length-take (start_of bytes) bytes in
      let low = has.low in
      let high = has.high in
      omega (arith, cut, taken, low, high)

  -- the extra bytes, and those behind them
  extra_rejoin : (array_read bytes).extra ++ drop (start_of bytes) bytes ≡ drop 8 bytes
  extra_rejoin =
      let m : ℕ = start_of bytes - 8 in
      let low = has.low in
      let is : start_of bytes ≡ 8 + m = omega (arith, low) in
      ap (λ (s : ℕ). drop 8 (take s bytes) ++ drop s bytes) is
      ∙ ap (λ (l : List ℕ). l ++ drop (8 + m) bytes) (drop-take 8 m bytes)
      ∙ rejoin bytes 8 m

  pub extra-is : take (start_of bytes - 8) (drop 8 bytes) ≡ (array_read bytes).extra
  extra-is =
      let m : ℕ = start_of bytes - 8 in
      let low = has.low in
      let is : 8 + m ≡ start_of bytes = omega (arith, low) in
      sym (drop-take 8 m bytes) ∙ ap (λ (s : ℕ). drop 8 (take s bytes)) is

  -- the header, and the bytes behind it
  head_rejoin : (tail : List ℕ) → tail ≡ drop 8 bytes → head_of (array_read bytes) ++ tail ≡ bytes
  head_rejoin tail e =
      let long = has.header in
      let are = has.are_bytes in
      ap (λ (n : ℕ). word n ++ word (size_of bytes) ++ word 0 ++ word (array_start (array_read bytes)) ++ tail) (length-elements_read bytes)
      ∙ ap (λ (n : ℕ). word (count_of bytes) ++ word (size_of bytes) ++ word 0 ++ word n ++ tail) start_is
      ∙ ap (λ (l : List ℕ). word (count_of bytes) ++ word (size_of bytes) ++ word 0 ++ word (start_of bytes) ++ l) e
      ∙ ap (λ (l : List ℕ). word (count_of bytes) ++ word (size_of bytes) ++ word 0 ++ l) (word_rejoin bytes are 6 (omega arith))
      ∙ ap (λ (n : ℕ). word (count_of bytes) ++ word (size_of bytes) ++ word n ++ drop 6 bytes) (sym has.third)
      ∙ ap (λ (l : List ℕ). word (count_of bytes) ++ word (size_of bytes) ++ l) (word_rejoin bytes are 4 (omega arith))
      ∙ ap (λ (l : List ℕ). word (count_of bytes) ++ l) (word_rejoin bytes are 2 (omega arith))
      ∙ word_rejoin bytes are 0 (omega arith)

  -- elements of one size fill the bytes behind the extra bytes
  length-behind : length (drop (start_of bytes) bytes) ≡ length bytes - start_of bytes
  length-behind = length-drop (start_of bytes) bytes

  fill_even : size_of bytes ≢ 0 → length (drop (start_of bytes) bytes) ≡ count_of bytes * size_of bytes
  fill_even one =
      let fill = has.elements.even one in
      let left = length-behind in
      omega (arith, fill, left)

  pub all-even : size_of bytes ≢ 0 → list_all (λ x. length x == size_of bytes) (array_read bytes).elements ≡ true
  all-even one =
      let fill = fill_even one in
      ap (list_all (λ x. length x == size_of bytes)) (elements-even bytes one)
      ∙ even-cut_evenly (count_of bytes) (size_of bytes) (drop (start_of bytes) bytes) (omega (arith, fill))

  behind_even : size_of bytes ≢ 0 → table_of (array_read bytes) ++ joined (array_read bytes).elements ≡ drop (start_of bytes) bytes
  behind_even one =
      ap (λ (t : List ℕ). t ++ joined (array_read bytes).elements) (table-even (array_read bytes) (ne_eqb (size_of bytes) 0 one))
      ∙ ap joined (elements-even bytes one)
      ∙ joined-cut_evenly (count_of bytes) (size_of bytes) (drop (start_of bytes) bytes) (fill_even one)

  -- the elements begin where the table says
  module _ (any : size_of bytes ≡ 0) where
    table : IsPlaceTable bytes (count_of bytes) (start_of bytes)
    table = has.elements.table any

    places_from_first : (n : ℕ) → count_of bytes ≡ n → places_from (start_of bytes + 2 * n) (elements_any bytes) ≡ map (place_at bytes (start_of bytes)) (range_with_len 0 n)
    places_from_first zero is = ap (λ (n : ℕ). places_from (start_of bytes + 2 * 0) (cut_from (place_at bytes (start_of bytes)) bytes 0 n)) is
    places_from_first (suc n) is =
        let g : ℕ → ℕ = place_at bytes (start_of bytes) in
        let end : start_of bytes + 2 * suc n ≡ g 0 = ap (λ (k : ℕ). start_of bytes + 2 * k) (sym is) ∙ sym (table.first (omega arith)) in
        ap (λ (k : ℕ). places_from (start_of bytes + 2 * suc n) (cut_from g bytes 0 k)) is
        ∙ ap (λ (at : ℕ). places_from at (cut_from g bytes 0 (suc n))) end
        ∙ places-cut g bytes 0 n (λ i l. table.rising i (omega arith)) (λ i l. table.within i (omega arith))

    joined_first : (n : ℕ) → count_of bytes ≡ n → joined (elements_any bytes) ≡ drop (start_of bytes + 2 * n) bytes
    joined_first zero is =
        let whole = table.none is in
        let same : start_of bytes + 2 * 0 ≡ length bytes = omega (arith, whole) in
        ap (λ (n : ℕ). joined (cut_from (place_at bytes (start_of bytes)) bytes 0 n)) is
        ∙ sym (drop-length bytes)
        ∙ ap (λ (k : ℕ). drop k bytes) (sym same)
    joined_first (suc n) is =
        let g : ℕ → ℕ = place_at bytes (start_of bytes) in
        let end : g 0 ≡ start_of bytes + 2 * suc n = table.first (omega arith) ∙ ap (λ (k : ℕ). start_of bytes + 2 * k) is in
        ap (λ (k : ℕ). joined (cut_from g bytes 0 k)) is
        ∙ joined-cut g bytes 0 n (λ i l. table.rising i (omega arith)) (λ i l. table.within i (omega arith))
        ∙ ap (λ (k : ℕ). drop k bytes) end

    pub places_are : places_of (array_read bytes) ≡ map (place_at bytes (start_of bytes)) (range_with_len 0 (count_of bytes))
    places_are =
        ap (λ (s : ℕ). places_from (s + 2 * length (array_read bytes).elements) (array_read bytes).elements) start_is
        ∙ ap (λ (n : ℕ). places_from (start_of bytes + 2 * n) (array_read bytes).elements) (length-elements_read bytes)
        ∙ ap (places_from (start_of bytes + 2 * count_of bytes)) (elements-any bytes any)
        ∙ places_from_first (count_of bytes) refl

    behind_any : table_of (array_read bytes) ++ joined (array_read bytes).elements ≡ drop (start_of bytes) bytes
    behind_any =
        let here : start_of bytes + 2 * 0 ≡ start_of bytes = omega arith in
        let end : start_of bytes + 2 * count_of bytes ≡ start_of bytes + 2 * (0 + count_of bytes) = omega arith in
        let room = table.room in
        let words : List ℕ = flat_map word (map (place_at bytes (start_of bytes)) (range_with_len 0 (count_of bytes))) in
        ap (λ (t : List ℕ). t ++ joined (array_read bytes).elements) (table-any (array_read bytes) (eq-eqb (size_of bytes) 0 any) ∙ ap (flat_map word) places_are)
        ∙ ap (λ (l : List ℕ). words ++ l) (ap joined (elements-any bytes any) ∙ joined_first (count_of bytes) refl ∙ ap (λ (k : ℕ). drop k bytes) end)
        ∙ words_rejoin bytes has.are_bytes (start_of bytes) 0 (count_of bytes) (omega (arith, room))
        ∙ ap (λ (k : ℕ). drop k bytes) here

  behind_read : table_of (array_read bytes) ++ joined (array_read bytes).elements ≡ drop (start_of bytes) bytes
  behind_read = elim (cases_Bool (size_of bytes == 0)) [
    | inl any ↦ behind_any (eqb-true (size_of bytes) 0 any)
    | inr one ↦ behind_even (eqb-false (size_of bytes) 0 one)
  ]

  pub bytes-read : array_bytes (array_read bytes) ≡ bytes
  bytes-read =
      array_bytes-spelled (array_read bytes)
      ∙ head_rejoin ((array_read bytes).extra ++ (table_of (array_read bytes) ++ joined (array_read bytes).elements))
      (ap (λ (l : List ℕ). (array_read bytes).extra ++ l) behind_read ∙ extra_rejoin)

  pub even-read : is_even (array_read bytes) ≡ true
  even-read =
      let small = lt-ltb (size_of bytes) 65536 (word_at-lt bytes has.are_bytes 2) in
      and_from (nat_lt (size_of bytes) 65536) (size_of bytes == 0 || list_all (λ x. length x == size_of bytes) (array_read bytes).elements) small
      (elim (cases_Bool (size_of bytes == 0)) [
        | inl any ↦ ap (λ (b : Bool). b || list_all (λ x. length x == size_of bytes) (array_read bytes).elements) any
        | inr one ↦ ap (λ (b : Bool). b || list_all (λ x. length x == size_of bytes) (array_read bytes).elements) one ∙ all-even (eqb-false (size_of bytes) 0 one)
      ])

  pub array_of-parts : array_of bytes ≡ Some (array_read bytes)
  unfolding array_of
  array_of-parts = cond-true _ _ _ (and_from (is_even (array_read bytes)) (same_bytes (array_bytes (array_read bytes)) bytes) even-read (subst (λ l. same_bytes l bytes ≡ true) (sym bytes-read) (same_bytes-refl bytes)))

  pub few-read : length (array_read bytes).elements < 65536
  few-read = let is = length-elements_read bytes in let few = word_at-lt bytes has.are_bytes 0 in omega (arith, is, few)

  pub are_bytes-read : AreByteValues (array_bytes (array_read bytes))
  are_bytes-read = subst AreByteValues (sym bytes-read) has.are_bytes

-- The second half: an array's bytes have these parts.
module _ (bytes : List ℕ) (are : AreByteValues bytes) (even : is_even (array_read bytes) ≡ true) (same : array_bytes (array_read bytes) ≡ bytes) where
  spells : spelled (array_read bytes) ≡ bytes
  spells = sym (array_bytes-spelled (array_read bytes)) ∙ same

  long : length bytes ≡ array_start (array_read bytes) + length (table_of (array_read bytes)) + length (joined (array_read bytes).elements)
  long = ap length (sym same) ∙ length-array_bytes (array_read bytes)

  start_back : start_of bytes ≡ array_start (array_read bytes)
  start_back =
      let small = word_at-lt bytes are 6 in
      let few = length-extra_read bytes in
      ap (λ (l : List ℕ). word_at l 6) (sym spells) ∙ start-read (array_read bytes) (omega (arith, small, few))

  third_back : word_at bytes 4 ≡ 0
  third_back = ap (λ (l : List ℕ). word_at l 4) (sym spells) ∙ word-reads_back 0 [] (omega arith)

  even_back : size_of bytes ≢ 0 → length bytes ≡ start_of bytes + count_of bytes * size_of bytes
  even_back one =
      let is : (size_of bytes == 0) ≡ false = ne_eqb (size_of bytes) 0 one in
      let none : length (table_of (array_read bytes)) ≡ 0 = ap length (table-even (array_read bytes) is) in
      let whole : length (joined (array_read bytes).elements) ≡ count_of bytes * size_of bytes =
      length-joined (size_of bytes) (array_read bytes).elements (all_even (array_read bytes) even is) ∙ ap (λ (n : ℕ). n * size_of bytes) (length-elements_read bytes) in
      let start = start_back in
      let all = long in
      omega (arith, none, whole, start, all)

  module _ (any : size_of bytes ≡ 0) where
    any_is : (size_of bytes == 0) ≡ true
    any_is = eq-eqb (size_of bytes) 0 any

    length-table : length (table_of (array_read bytes)) ≡ 2 * count_of bytes
    length-table = length_table-any (array_read bytes) any_is ∙ ap (λ (n : ℕ). 2 * n) (length-elements_read bytes)

    -- a place of the table is where the element begins, as far as a word holds it
    place_back : (i : ℕ) → i < count_of bytes → place_at bytes (start_of bytes) i ≡ get_or (places_of (array_read bytes)) i 0 % 65536
    place_back i l =
        let count = length-elements_read bytes in
        let places = length-places (array_start (array_read bytes) + 2 * length (array_read bytes).elements) (array_read bytes).elements in
        let behind : drop (start_of bytes) bytes ≡ flat_map word (places_of (array_read bytes)) ++ joined (array_read bytes).elements =
        ap (λ (s : ℕ). drop s bytes) start_back
        ∙ ap (drop (array_start (array_read bytes))) (sym spells)
        ∙ behind_extra (array_read bytes)
        ∙ ap (λ (t : List ℕ). t ++ joined (array_read bytes).elements) (table-any (array_read bytes) any_is) in
        ap (little_number 2) (sym (drop-drop (2 * i) (start_of bytes) bytes) ∙ ap (drop (2 * i)) behind)
        ∙ word_in_words (places_of (array_read bytes)) (joined (array_read bytes).elements) i (omega (arith, count, places))

    -- an element whose end is before its place would have no bytes, and then its end would be its place
    element_le : (i : ℕ) → suc i < count_of bytes → length (get_or (array_read bytes).elements i []) ≤ place_at bytes (start_of bytes) (suc i) - place_at bytes (start_of bytes) i
    element_le i l =
        let g : ℕ → ℕ = place_at bytes (start_of bytes) in
        let ps : List ℕ = map g (range_with_len 0 (count_of bytes)) in
        let many = length-map-range_with_len g 0 (count_of bytes) in
        let le : length (get_or (cut_at ps bytes) i []) ≤ get_or ps (suc i) 0 - get_or ps i 0 = length-cut_at_le ps bytes i (omega (arith, many)) in
        let here : get_or ps i 0 ≡ g i = get_or-map-range_with_len g 0 (count_of bytes) i i 0 (omega arith) (omega arith) in
        let next : get_or ps (suc i) 0 ≡ g (suc i) = get_or-map-range_with_len g 0 (count_of bytes) (suc i) (suc i) 0 l (omega arith) in
        let is : length (get_or (array_read bytes).elements i []) ≡ length (get_or (cut_at ps bytes) i []) = ap (λ (xs : List (List ℕ)). length (get_or xs i [])) (elements-any bytes any) in
        omega (arith, le, here, next, is)

    rising_back : (i : ℕ) → suc i < count_of bytes → place_at bytes (start_of bytes) i ≤ place_at bytes (start_of bytes) (suc i)
    rising_back i l =
        let g : ℕ → ℕ = place_at bytes (start_of bytes) in
        let P : ℕ → ℕ = λ (k : ℕ). get_or (places_of (array_read bytes)) k 0 in
        let count = length-elements_read bytes in
        let at : ℕ = array_start (array_read bytes) + 2 * length (array_read bytes).elements in
        let step : P (suc i) ≡ P i + length (get_or (array_read bytes).elements i []) = place-next at (array_read bytes).elements i (omega (arith, count)) in
        elim (cases_lt (g (suc i)) (g i)) [
          | inr up ↦ up
          | inl down ↦
              let le = element_le i l in
              let stays : P (suc i) ≡ P i = omega (arith, le, step, down) in
              let same : g (suc i) ≡ g i = place_back (suc i) l ∙ ap (λ (n : ℕ). n % 65536) stays ∙ sym (place_back i (omega arith)) in
              absurd (omega arith)
        ]

    within_back : (i : ℕ) → i < count_of bytes → place_at bytes (start_of bytes) i ≤ length bytes
    within_back i l =
        let count = length-elements_read bytes in
        let place = place_back i l in
        let at : ℕ = array_start (array_read bytes) + 2 * length (array_read bytes).elements in
        let most = place-le at (array_read bytes).elements i (omega (arith, count)) in
        let less = mod-le (get_or (places_of (array_read bytes)) i 0) 65536 in
        let table = length-table in
        let all = long in
        omega (arith, count, place, most, less, table, all)

    first_back : (n : ℕ) → count_of bytes ≡ suc n → place_at bytes (start_of bytes) 0 ≡ start_of bytes + 2 * count_of bytes
    first_back n is =
        let g : ℕ → ℕ = place_at bytes (start_of bytes) in
        let whole : length (joined (array_read bytes).elements) ≡ length bytes - g 0 =
        ap (λ (xs : List (List ℕ)). length (joined xs)) (elements-any bytes any)
        ∙ ap (λ (k : ℕ). length (joined (cut_from g bytes 0 k))) is
        ∙ ap length (joined-cut g bytes 0 n (λ i l. let next : suc i ≡ i + 1 = omega arith in subst (λ k. g i ≤ g k) next (rising_back i (omega arith))) (λ i l. within_back i (omega arith)))
        ∙ length-drop (g 0) bytes in
        let within = within_back 0 (omega arith) in
        let start = start_back in
        let table = length-table in
        let all = long in
        omega (arith, whole, within, start, table, all)

    none_back : count_of bytes ≡ 0 → length bytes ≡ start_of bytes
    none_back is =
        let none : length (joined (array_read bytes).elements) ≡ 0 =
        ap (λ (xs : List (List ℕ)). length (joined xs)) (elements-any bytes any)
        ∙ ap (λ (k : ℕ). length (joined (cut_from (place_at bytes (start_of bytes)) bytes 0 k))) is in
        let start = start_back in
        let table = length-table in
        let all = long in
        omega (arith, none, start, table, all)

    table_back : IsPlaceTable bytes (count_of bytes) (start_of bytes)
    table_back = record {
      room = let start = start_back in let table = length-table in let all = long in omega (arith, start, table, all);
      none = none_back;
      first = λ some. first_back (count_of bytes - 1) (omega arith);
      rising = λ i l. let next : suc i ≡ i + 1 = omega arith in subst (λ k. place_at bytes (start_of bytes) i ≤ place_at bytes (start_of bytes) k) next (rising_back i (omega arith));
      within = within_back;
    }

  parts_back : HasParts bytes
  parts_back =
      let start = start_back in
      let all = long in
      record {
        are_bytes = are;
        header = omega (arith, all);
        third = third_back;
        low = omega (arith, start);
        high = omega (arith, start, all);
        elements = record { even = even_back; table = table_back };
      }

-- what is an array has them
pub known_parts : (bytes : List ℕ) → AreByteValues bytes → is_some (array_of bytes) ≡ true → HasParts bytes
unfolding array_of
known_parts bytes are is = elim (cases_Bool (is_even (array_read bytes) && same_bytes (array_bytes (array_read bytes)) bytes)) [
  | inl so ↦
      let parts = and_parts (is_even (array_read bytes)) (same_bytes (array_bytes (array_read bytes)) bytes) so in
      parts_back bytes are parts.0 (same_bytes-is (array_bytes (array_read bytes)) bytes parts.1)
  | inr other ↦
      let none : is_some (array_of bytes) ≡ false = ap is_some (cond-false _ _ _ other) in
      absurd (true≢false (sym is ∙ none))
]

-- so what is no array lacks one
pub not_array : (bytes : List ℕ) → AreByteValues bytes → (HasParts bytes → ⊥) → array_of bytes ≡ None
unfolding array_of
not_array bytes are lacks = elim (cases_Bool (is_even (array_read bytes) && same_bytes (array_bytes (array_read bytes)) bytes)) [
  | inl so ↦
      let parts = and_parts (is_even (array_read bytes)) (same_bytes (array_bytes (array_read bytes)) bytes) so in
      absurd (lacks (parts_back bytes are parts.0 (same_bytes-is (array_bytes (array_read bytes)) bytes parts.1)))
  | inr other ↦ cond-false _ _ _ other
]

-- the same, by the numbers that were read
module _ (bytes : List ℕ) (are : AreByteValues bytes) (count size start : ℕ) (count_is : count ≡ word_at bytes 0) (size_is : size ≡ word_at bytes 2) (start_is : start ≡ word_at bytes 6) where
  pub no_elements : (HasElements bytes count size start → ⊥) → array_of bytes ≡ None
  no_elements lacks = not_array bytes are (λ p. lacks (rw (count_is, size_is, start_is) p.elements))

  pub parts_found : 8 ≤ length bytes → word_at bytes 4 ≡ 0 → 8 ≤ start → start ≤ length bytes → HasElements bytes count size start → HasParts bytes
  parts_found header third low high elements = record {
    are_bytes = are;
    header = header;
    third = third;
    low = omega (arith, low, start_is);
    high = omega (arith, high, start_is);
    elements = rw (← count_is, ← size_is, ← start_is) elements;
  }

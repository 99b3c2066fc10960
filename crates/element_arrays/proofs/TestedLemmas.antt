-- An array passes the tests of slots exactly where it is one of slots.
use Rattle.std.proofs.Common.{◌≡◌, ℕ, zero, suc, ◌+◌, ◌*◌, ◌-◌, ◌/◌, ◌%◌, ◌<◌, ◌≤◌, ◌⊎◌, Bool, true, false, ◌&&◌, ◌||◌, ◌==◌, nat_lt, nat_le, if◌then◌else◌, List, [], ◌∷◌, ◌++◌, map, length, drop, replicate, get_or, Option, Some, None, is_none, is_some, count_by, cond, refl, sym, ap, ap₂, subst, ◌∙◌, arith, inl, inr, eqb-true, eq-eqb, ltb-true, lt-ltb, le-ltb, leb-true, le-leb, ne_eqb, length-drop, drop-drop}
use Rattle.std.proofs.lemmas.Bool.{cases_Bool, and_parts, and_from, and_cases, and_left, and_right, or_left, or_right, cond-true, cond-false, eqb-false, false≢true, true≢false}
use Rattle.std.proofs.lemmas.List.{get_or-map, get_or-drop, length-map, length-replicate}
use Rattle.std.proofs.lemmas.List.Sums.{count_by-le-length, sum_by-cons, position_or_len_is}
use Rattle.std.proofs.lemmas.List.Folds.{list_all-map}
use Rattle.std.proofs.lemmas.List.FromFn.{length-enumerate_from, get_or-enumerate_from}
use Rattle.std.specs.Option.{MatchOption}
use Rattle.std.specs.List.{list_all, enumerate_from, position, position_or_len}
use Rattle.byteorder.specs.Endian.{little_bytes, little_number}
use Rattle.geos_model.specs.Words.{word, word_at}
use Rattle.geos_model.specs.Array.{Array, array_bytes}
use Rattle.geos_model.specs.ElementArray.{Element, Slots, greatest_count, first_token, token_after, slot_bytes, slots_array, is_free, is_good_slot, is_sound, slot_read, free_read, slots_read, same_array, slots_of}
use Rattle.geos_model.proofs.Images.{word-reads_back}
use Rattle.geos_model.proofs.Arrays.{head_of, table_of, joined, array_bytes-spelled, all_even}
use Rattle.geos_model.proofs.FreeLists.{links, are_tokens, distinct_walk, all_free_met, walk_ends, length-walked, first_token-walked, links-walked, all-walked, walk_ends-links, token_after-link}
use Rattle.geos_model.proofs.ElementArrays.{IsSound, sound_parts, sound_from, same_array-is, same_array-refl, size_read_le, elements_from, link_in, first_token-lt, links-token_after, links-same, free_read-walked, free_tokens, link-slots, all-weaker}
use Rattle.chunk_arrays.specs.Parts.{AreByteValues}
use Rattle.chunk_arrays.specs.Reading.{NoneEnds}
use Rattle.chunk_arrays.specs.Viewed.{Viewed}
use Rattle.chunk_arrays.proofs.PlaceLemmas.{place-step, place-within, one-is}
use Rattle.geos_model.specs.Bytes.{same_bytes}
use Rattle.geos_model.proofs.Arrays.{same_bytes-is}
use Rattle.element_arrays.specs.Tested.{NoneHas, is_freed, is_freed_at, is_slot, is_slot_within, are_slots_within, has_length, has_bytes, is_walk}

bytes_left : (xs ys : List ℕ) (i : ℕ) → AreByteValues (xs ++ ys) → get_or xs i 0 < 256
bytes_left [] ys i h = omega arith
bytes_left (x ∷ xs) ys zero h = h 0
bytes_left (x ∷ xs) ys (suc i) h = bytes_left xs ys i (λ j. h (suc j))

bytes_right : (xs ys : List ℕ) → AreByteValues (xs ++ ys) → AreByteValues ys
bytes_right [] ys h = h
bytes_right (x ∷ xs) ys h = bytes_right xs ys (λ j. h (suc j))

bytes_joined : (xs : List (List ℕ)) (i : ℕ) → AreByteValues (joined xs) → AreByteValues (get_or xs i [])
bytes_joined [] i h = λ j. omega arith
bytes_joined (x ∷ xs) zero h = λ j. bytes_left x (joined xs) j h
bytes_joined (x ∷ xs) (suc i) h = bytes_joined xs i (bytes_right x (joined xs) h)

spelled_bytes : (v : Viewed) → let a = v.array in AreByteValues (head_of a ++ (a.extra ++ (table_of a ++ joined a.elements)))
spelled_bytes v = subst AreByteValues (array_bytes-spelled v.array) v.are_bytes

extra_bytes : (v : Viewed) → AreByteValues v.array.extra
extra_bytes v = let a = v.array in λ i. bytes_left a.extra (table_of a ++ joined a.elements) i (bytes_right (head_of a) _ (spelled_bytes v))

element_bytes : (v : Viewed) (i : ℕ) → AreByteValues (get_or v.array.elements i [])
element_bytes v i = let a = v.array in bytes_joined a.elements i (bytes_right (table_of a) _ (bytes_right a.extra _ (bytes_right (head_of a) _ (spelled_bytes v))))

-- two bytes are those of their word
word_again : (xs : List ℕ) → AreByteValues xs → 2 ≤ length xs → word (word_at xs 0) ++ drop 2 xs ≡ xs
word_again [] byte long = absurd (omega arith)
word_again (a ∷ []) byte long = absurd (omega arith)
word_again (a ∷ b ∷ xs) byte long =
    let low_byte : a < 256 = byte 0 in
    let high_byte : b < 256 = byte 1 in
    let low : (a + 256 * (b + 0)) % 256 ≡ a = omega arith in
    let high : (a + 256 * (b + 0)) / 256 % 256 ≡ b = omega arith in
    ap₂ (λ (x y : ℕ). x ∷ y ∷ xs) low high

-- and three are those of their number
three_again : (xs : List ℕ) → AreByteValues xs → 3 ≤ length xs → little_bytes 3 (little_number 3 xs) ++ drop 3 xs ≡ xs
three_again [] byte long = absurd (omega arith)
three_again (a ∷ []) byte long = absurd (omega arith)
three_again (a ∷ b ∷ []) byte long = absurd (omega arith)
three_again (a ∷ b ∷ c ∷ xs) byte long =
    let low_byte : a < 256 = byte 0 in
    let middle_byte : b < 256 = byte 1 in
    let high_byte : c < 256 = byte 2 in
    let low : (a + 256 * (b + 256 * (c + 0))) % 256 ≡ a = omega arith in
    let middle : (a + 256 * (b + 256 * (c + 0))) / 256 % 256 ≡ b = omega arith in
    let high : (a + 256 * (b + 256 * (c + 0))) / 65536 % 256 ≡ c = omega arith in
    ap₂ (λ (x : ℕ) (l : List ℕ). x ∷ l) low (ap₂ (λ (y z : ℕ). y ∷ z ∷ xs) middle high)

zeros-is : (n : ℕ) (xs : List ℕ) → length xs ≡ n → list_all (λ b. b == 0) xs ≡ true → xs ≡ replicate n 0
zeros-is zero [] len all = refl
zeros-is (suc n) [] len all = absurd (omega arith)
zeros-is zero (x ∷ xs) len all = absurd (omega arith)
zeros-is (suc n) (x ∷ xs) len all =
    let parts = and_parts (x == 0) (list_all (λ b. b == 0) xs) all in
    ap₂ (λ (y : ℕ) (ys : List ℕ). y ∷ ys) (eqb-true x 0 parts.0) (zeros-is n xs (omega arith) parts.1)

all_zeros : (n : ℕ) → list_all (λ b. b == 0) (replicate n 0) ≡ true
all_zeros zero = refl
all_zeros (suc n) = all_zeros n

-- a free slot's bytes behind its link
free_rest : (size : ℕ) (xs : List ℕ) → is_slot size xs ≡ true → is_freed xs ≡ true → drop 2 xs ≡ 0xFF ∷ replicate size 0
free_rest size [] fits freed = cc
free_rest size (a ∷ []) fits freed = cc
free_rest size (a ∷ b ∷ []) fits freed = cc
free_rest size (a ∷ b ∷ c ∷ xs) fits freed =
    let bytes : List ℕ = a ∷ b ∷ c ∷ xs in
    let sized : (length bytes == size + 3 && list_all (λ x. x == 0) xs) ≡ true = sym (cond-true (is_freed bytes) _ _ freed) ∙ (and_parts (nat_le 3 (length bytes)) _ fits).1 in
    let parts = and_parts (length bytes == size + 3) (list_all (λ x. x == 0) xs) sized in
    let long : length bytes ≡ size + 3 = eqb-true (length bytes) (size + 3) parts.0 in
    let rest : length xs ≡ size = omega arith in
    ap₂ (λ (x : ℕ) (ys : List ℕ). x ∷ ys) (eqb-true c 0xFF freed) (zeros-is size xs rest parts.1)

pub slot_long : (size : ℕ) (xs : List ℕ) → is_slot size xs ≡ true → 3 ≤ length xs
slot_long size xs fits = leb-true 3 (length xs) (and_parts (nat_le 3 (length xs)) _ fits).0

-- a list's test, element by element
each_passes : {X : Type 0} (p : X → Bool) (xs : List X) (i : ℕ) (d : X) → list_all p xs ≡ true → i < length xs → p (get_or xs i d) ≡ true
each_passes p [] i d all l = absurd (omega arith)
each_passes p (x ∷ xs) zero d all l = (and_parts (p x) (list_all p xs) all).0
each_passes p (x ∷ xs) (suc i) d all l = each_passes p xs i d (and_parts (p x) (list_all p xs) all).1 (omega arith)

all_pass : {X : Type 0} (p : X → Bool) (xs : List X) (d : X) → ((i : ℕ) → i < length xs → p (get_or xs i d) ≡ true) → list_all p xs ≡ true
all_pass p [] d each = refl
all_pass p (x ∷ xs) d each = and_from (p x) (list_all p xs) (each 0 (omega arith)) (all_pass p xs d (λ i l. each (suc i) (omega arith)))

-- slots that are read

none_read : (x : List ℕ) → is_none (slot_read x) ≡ is_freed x
none_read x = elim (cases_Bool (is_freed x)) [
  | inl so ↦ ap is_none (cond-true (is_freed x) _ _ so) ∙ sym so
  | inr other ↦ ap is_none (cond-false (is_freed x) _ _ other) ∙ sym other
]

count_read : (xs : List (List ℕ)) → count_by is_none (map slot_read xs) ≡ count_by is_freed xs
count_read [] = refl
count_read (x ∷ xs) =
    sum_by-cons (λ o. cond (is_none o) 1 0) (slot_read x) (map slot_read xs)
    ∙ ap₂ (λ (b : Bool) (n : ℕ). cond b 1 0 + n) (none_read x) (count_read xs)
    ∙ sym (sum_by-cons (λ y. cond (is_freed y) 1 0) x xs)

free_is : (a : Array) (t : ℕ) → is_free (slots_read a) t ≡ is_freed_at a.elements t
free_is a t =
    let read : List (Option Element) = map slot_read a.elements in
    let long : length read ≡ length a.elements = length-map a.elements slot_read in
    ap (λ (n : ℕ). nat_lt t n && is_none (get_or read t None)) long
    ∙ (elim (cases_Bool (nat_lt t (length a.elements))) [
      | inl low ↦ ap (λ (o : Option Element). nat_lt t (length a.elements) && is_none o) (get_or-map slot_read a.elements t [] None (ltb-true t (length a.elements) low))
          ∙ ap (λ (b : Bool). nat_lt t (length a.elements) && b) (none_read (get_or a.elements t []))
      | inr high ↦ and_left _ _ high ∙ sym (and_left _ _ high)
    ])

-- a count fits three bytes of which the third is not that of a free element
count_le : (xs : List ℕ) → AreByteValues xs → is_freed xs ≡ false → little_number 3 xs ≤ greatest_count
count_le xs byte used =
    let low : get_or xs 0 0 < 256 = byte 0 in
    let middle : get_or xs 1 0 < 256 = byte 1 in
    let high : get_or xs 2 0 < 256 = byte 2 in
    let other = eqb-false (get_or xs 2 0) 0xFF used in
    omega (arith, other)

counted : (size : ℕ) (xs : List ℕ) → is_slot size xs ≡ true → is_freed xs ≡ false → nat_le 1 (little_number 3 xs) ≡ true
counted size xs fits used = sym (cond-false (is_freed xs) _ _ used) ∙ (and_parts (nat_le 3 (length xs)) _ fits).1

good_read : (size : ℕ) (xs : List ℕ) → AreByteValues xs → is_slot size xs ≡ true → (size ≡ 0) ⊎ (length xs ≡ size + 3) → is_good_slot size (slot_read xs) ≡ true
good_read size xs byte fits sized = elim (cases_Bool (is_freed xs)) [
  | inl so ↦ ap (is_good_slot size) (cond-true (is_freed xs) _ _ so)
  | inr other ↦ ap (is_good_slot size) (cond-false (is_freed xs) _ _ other)
      ∙ and_from _ _ (and_from _ _ (counted size xs fits other) (le-leb (little_number 3 xs) greatest_count (count_le xs byte other)))
      (elim sized [
        | inl any ↦ or_left (size == 0) (length (drop 3 xs) == size) (eq-eqb size 0 any)
        | inr one ↦ or_right (size == 0) (length (drop 3 xs) == size) (let cut = length-drop 3 xs in eq-eqb (length (drop 3 xs)) size (omega (arith, cut)))
      ])
]

-- the free list that a walk reads
record Walked (elements : List (List ℕ)) (steps token : ℕ) (ts : List ℕ) : Type 0 where
  count : length ts ≡ steps
  first : first_token ts ≡ token
  linked : links (link_in elements) ts
  freed : list_all (is_freed_at elements) ts ≡ true

walk_is : (steps : ℕ) (elements : List (List ℕ)) (t : ℕ) → is_walk steps elements t ≡ walk_ends (is_freed_at elements) (link_in elements) steps t
walk_is zero elements t = refl
walk_is (suc steps) elements t = ap (λ (b : Bool). is_freed_at elements t && b) (walk_is steps elements (link_in elements t))

walk_read : (steps most : ℕ) (elements : List (List ℕ)) (t : ℕ) → length elements < 65536 → steps ≤ most → is_walk steps elements t ≡ true → Walked elements steps t (free_read most elements t)
walk_read steps most elements t few room walk =
    let kind : ℕ → Bool = is_freed_at elements in
    let link : ℕ → ℕ = link_in elements in
    let ends : walk_ends kind link steps t ≡ true = sym (walk_is steps elements t) ∙ walk in
    let read = free_read-walked kind most steps t elements room few (λ u h. ltb-true u (length elements) (and_parts (nat_lt u (length elements)) (is_freed (get_or elements u [])) h).0) ends in
    subst (Walked elements steps t) (sym read)
    (record {
      count = length-walked link steps t;
      first = first_token-walked kind link steps t ends;
      linked = links-walked kind link steps t ends;
      freed = all-walked kind link steps t ends;
    })

-- elements that are those of the slots which are read
same_elements : (s : Slots) (n : ℕ) (xs : List (List ℕ)) → ((i : ℕ) → i < length xs → slot_bytes s (n + i) (slot_read (get_or xs i [])) ≡ get_or xs i []) → elements_from s n (map slot_read xs) ≡ xs
same_elements s n [] each = refl
same_elements s n (x ∷ xs) each =
    let here : n + 0 ≡ n = omega arith in
    ap₂ (λ (y : List ℕ) (ys : List (List ℕ)). y ∷ ys)
    (subst (λ m. slot_bytes s m (slot_read x) ≡ x) here (each 0 (omega arith)))
    (same_elements s (n + 1) xs (λ i l.
    let next : n + suc i ≡ n + 1 + i = omega arith in
    subst (λ m. slot_bytes s m (slot_read (get_or xs i [])) ≡ get_or xs i []) next (each (suc i) (omega arith))))

each_same : (s : Slots) (xs : List (List ℕ)) → elements_from s 0 (map slot_read xs) ≡ xs → (i : ℕ) → i < length xs → slot_bytes s i (slot_read (get_or xs i [])) ≡ get_or xs i []
each_same s xs same i l =
    let read : List (Option Element) = map slot_read xs in
    let long : length read ≡ length xs = length-map xs slot_read in
    let numbered = length-enumerate_from 0 read in
    let place : 0 + i ≡ i = omega arith in
    let bytes : get_or (elements_from s 0 read) i [] ≡ slot_bytes s i (slot_read (get_or xs i [])) =
    get_or-map (λ x. slot_bytes s x.0 x.1) (enumerate_from 0 read) i (0, None) [] (omega (arith, long, numbered))
    ∙ ap (λ (x : ℕ × Option Element). slot_bytes s x.0 x.1) (get_or-enumerate_from 0 read i (0, None) (omega (arith, long)))
    ∙ ap₂ (λ (u : ℕ) (o : Option Element). slot_bytes s u o) place (get_or-map slot_read xs i [] None l) in
    sym bytes ∙ ap (λ (ys : List (List ℕ)). get_or ys i []) same

-- An array passes the tests.
pub record IsPassed (a : Array) : Type 0 where
  pub sized : (a.size ≡ 0) ⊎ (4 ≤ a.size)
  pub each : list_all (is_slot (a.size - 3)) a.elements ≡ true
  pub walk : is_walk (count_by is_freed a.elements) a.elements (word_at a.extra 0) ≡ true

-- An array that passes them is one of slots.
module _ (v : Viewed) (long : 2 ≤ length v.array.extra) (p : IsPassed v.array) where
  read : Walked v.array.elements (count_by is_freed v.array.elements) (word_at v.array.extra 0) (slots_read v.array).free
  read =
      let few = v.few in
      let most = count_by-le-length is_freed v.array.elements in
      walk_read (count_by is_freed v.array.elements) (length v.array.elements) v.array.elements (word_at v.array.extra 0) few most p.walk

  one_size : (i : ℕ) → i < length v.array.elements → (v.array.size - 3 ≡ 0) ⊎ (length (get_or v.array.elements i []) ≡ v.array.size - 3 + 3)
  one_size i l = elim p.sized [
    | inl any ↦ inl (omega arith)
    | inr some ↦
        (let one : (v.array.size == 0) ≡ false = ne_eqb v.array.size 0 (λ e. absurd (omega arith)) in
        let here : length (get_or v.array.elements i []) ≡ v.array.size = eqb-true _ v.array.size (each_passes (λ x. length x == v.array.size) v.array.elements i [] (all_even v.array v.even one) l) in
        inr (omega arith))
  ]

  fits : (i : ℕ) → i < length v.array.elements → is_slot (v.array.size - 3) (get_or v.array.elements i []) ≡ true
  fits i l = each_passes (is_slot (v.array.size - 3)) v.array.elements i [] p.each l

  good : list_all (is_good_slot (v.array.size - 3)) (map slot_read v.array.elements) ≡ true
  good =
      list_all-map (is_good_slot (v.array.size - 3)) slot_read v.array.elements
      ∙ all_pass (λ x. is_good_slot (v.array.size - 3) (slot_read x)) v.array.elements [] (λ i l. good_read (v.array.size - 3) (get_or v.array.elements i []) (element_bytes v i) (fits i l) (one_size i l))

  free : list_all (is_free (slots_read v.array)) (slots_read v.array).free ≡ true
  free = all-weaker (is_freed_at v.array.elements) (is_free (slots_read v.array)) (slots_read v.array).free (λ t f. free_is v.array t ∙ f) read.freed

  tokens : are_tokens (slots_read v.array).free ≡ true
  tokens = free_tokens (slots_read v.array) (let few = v.few in let same = length-map v.array.elements slot_read in omega (arith, same, few)) free

  is_soundly : IsSound (slots_read v.array)
  is_soundly = record {
    sized = size_read_le v.array v.even;
    good = good;
    free = free;
    distinct = distinct_walk (link_in v.array.elements) (slots_read v.array).free read.linked tokens;
    counted = read.count ∙ sym (count_read v.array.elements);
  }

  again : (i : ℕ) → i < length v.array.elements → slot_bytes (slots_read v.array) i (slot_read (get_or v.array.elements i [])) ≡ get_or v.array.elements i []
  again i l =
      let x : List ℕ = get_or v.array.elements i [] in
      let byte = element_bytes v i in
      let enough = slot_long (v.array.size - 3) x (fits i l) in
      elim (cases_Bool (is_freed x)) [
        | inl so ↦
            (let free_here : is_free (slots_read v.array) i ≡ true = free_is v.array i ∙ and_from _ _ (lt-ltb i (length v.array.elements) l) so in
            let met = all_free_met (slots_read v.array) i free is_soundly.distinct is_soundly.counted free_here in
            let next : token_after (slots_read v.array).free i ≡ word_at x 0 = token_after-link (link_in v.array.elements) (slots_read v.array).free i read.linked met in
            ap (slot_bytes (slots_read v.array) i) (cond-true (is_freed x) _ _ so)
            ∙ ap₂ (λ (n : ℕ) (r : List ℕ). word n ++ r) next (sym (free_rest (v.array.size - 3) x (fits i l) so))
            ∙ word_again x byte (omega (arith, enough)))
        | inr other ↦ ap (slot_bytes (slots_read v.array) i) (cond-false (is_freed x) _ _ other) ∙ three_again x byte enough
      ]

  size_again : (if v.array.size - 3 == 0 then 0 else v.array.size - 3 + 3) ≡ v.array.size
  size_again = elim p.sized [
    | inl any ↦ cond-true (v.array.size - 3 == 0) _ _ (eq-eqb (v.array.size - 3) 0 (omega arith)) ∙ sym any
    | inr some ↦ cond-false (v.array.size - 3 == 0) _ _ (ne_eqb (v.array.size - 3) 0 (λ e. absurd (omega arith))) ∙ omega arith
  ]

  extra_again : word (first_token (slots_read v.array).free) ++ drop 2 v.array.extra ≡ v.array.extra
  extra_again = ap (λ (t : ℕ). word t ++ drop 2 v.array.extra) read.first ∙ word_again v.array.extra (extra_bytes v) long

  pub passed_sound : is_sound (slots_read v.array) ≡ true
  passed_sound = sound_from (slots_read v.array) is_soundly

  pub passed_same : slots_array (drop 2 v.array.extra) (slots_read v.array) ≡ v.array
  unfolding slots_array
  passed_same =
      let extra = extra_again in
      let size = size_again in
      let elements = same_elements (slots_read v.array) 0 v.array.elements (λ i l. let place : i ≡ 0 + i = omega arith in subst (λ m. slot_bytes (slots_read v.array) m (slot_read (get_or v.array.elements i [])) ≡ get_or v.array.elements i []) place (again i l)) in
      λ i. record { extra = extra i; size = size i; elements = elements i }

-- An array of slots passes them.

free_fits : (size n : ℕ) → is_slot size (word n ++ 0xFF ∷ replicate size 0) ≡ true
free_fits size n =
    let bytes : List ℕ = word n ++ 0xFF ∷ replicate size 0 in
    let zeros = length-replicate {A = ℕ} size 0 in
    and_from (nat_le 3 (length bytes)) (length bytes == size + 3 && list_all (λ b. b == 0) (replicate size 0)) (le-leb 3 (length bytes) (omega (arith, zeros)))
    (and_from _ _ (eq-eqb (length bytes) (size + 3) (omega (arith, zeros))) (all_zeros size))

slot_fits : (s : Slots) (t : ℕ) (x : List ℕ) → is_good_slot s.size (slot_read x) ≡ true → slot_bytes s t (slot_read x) ≡ x → is_slot s.size x ≡ true
slot_fits s t x good same = elim (cases_Bool (is_freed x)) [
  | inl so ↦ subst (λ y. is_slot s.size y ≡ true) (sym (ap (slot_bytes s t) (cond-true (is_freed x) _ _ so)) ∙ same) (free_fits s.size (token_after s.free t))
  | inr other ↦
      (let e : Element = record { count = little_number 3 x; bytes = drop 3 x } in
      let is : slot_read x ≡ Some e = cond-false (is_freed x) _ _ other in
      let here : is_good_slot s.size (Some e) ≡ true = sym (ap (is_good_slot s.size) is) ∙ good in
      let count = (and_parts (nat_le 1 e.count) (nat_le e.count greatest_count) (and_parts (nat_le 1 e.count && nat_le e.count greatest_count) (s.size == 0 || length e.bytes == s.size) here).0).0 in
      let bytes : little_bytes 3 e.count ++ drop 3 x ≡ x = sym (ap (slot_bytes s t) is) ∙ same in
      let long : suc (suc (suc (length (drop 3 x)))) ≡ length x = ap length bytes in
      and_from _ _ (le-leb 3 (length x) (omega arith)) (cond-false (is_freed x) _ _ other ∙ count))
]

module _ (a : Array) (few : length a.elements < 65536) (sound : is_sound (slots_read a) ≡ true) (same : slots_array (drop 2 a.extra) (slots_read a) ≡ a) where
  same_extra : word (first_token (slots_read a).free) ++ drop 2 a.extra ≡ a.extra
  unfolding slots_array
  same_extra = ap (λ (b : Array). b.extra) same

  same_size : (if a.size - 3 == 0 then 0 else a.size - 3 + 3) ≡ a.size
  unfolding slots_array
  same_size = ap (λ (b : Array). b.size) same

  same_slots : elements_from (slots_read a) 0 (map slot_read a.elements) ≡ a.elements
  unfolding slots_array
  same_slots = ap (λ (b : Array). b.elements) same

  was_sized : (a.size ≡ 0) ⊎ (4 ≤ a.size)
  was_sized = elim (cases_Bool (a.size - 3 == 0)) [
    | inl any ↦ inl (sym same_size ∙ cond-true (a.size - 3 == 0) _ _ any)
    | inr one ↦ (let some = eqb-false (a.size - 3) 0 one in inr (omega (arith, some)))
  ]

  pub long_elements : (i : ℕ) → i < length a.elements → is_slot (a.size - 3) (get_or a.elements i []) ≡ true
  long_elements i l =
      let goods : list_all (λ x. is_good_slot (a.size - 3) (slot_read x)) a.elements ≡ true = sym (list_all-map (is_good_slot (a.size - 3)) slot_read a.elements) ∙ (sound_parts (slots_read a) sound).good in
      slot_fits (slots_read a) i (get_or a.elements i []) (each_passes (λ x. is_good_slot (a.size - 3) (slot_read x)) a.elements i [] goods l) (each_same (slots_read a) a.elements same_slots i l)

  had_tokens : are_tokens (slots_read a).free ≡ true
  had_tokens = free_tokens (slots_read a) (let long = length-map a.elements slot_read in omega (arith, long, few)) (sound_parts (slots_read a) sound).free

  had_links : links (link_in a.elements) (slots_read a).free
  had_links =
      links-same (token_after (slots_read a).free) (link_in a.elements) (is_free (slots_read a)) (slots_read a).free
      (λ t f. sym (ap (λ (xs : List (List ℕ)). link_in xs t) same_slots) ∙ link-slots (slots_read a) t had_tokens f)
      (sound_parts (slots_read a) sound).free (links-token_after (slots_read a).free (sound_parts (slots_read a) sound).distinct)

  had_walk : is_walk (count_by is_freed a.elements) a.elements (word_at a.extra 0) ≡ true
  had_walk =
      let parts = sound_parts (slots_read a) sound in
      let count : length (slots_read a).free ≡ count_by is_freed a.elements = parts.counted ∙ count_read a.elements in
      let first : first_token (slots_read a).free ≡ word_at a.extra 0 =
      sym (word-reads_back (first_token (slots_read a).free) (drop 2 a.extra) (first_token-lt (slots_read a).free had_tokens)) ∙ ap (λ (l : List ℕ). word_at l 0) same_extra in
      let freed = all-weaker (is_free (slots_read a)) (is_freed_at a.elements) (slots_read a).free (λ t f. sym (free_is a t) ∙ f) parts.free in
      ap₂ (λ (n t : ℕ). is_walk n a.elements t) (sym count) (sym first)
      ∙ walk_is (length (slots_read a).free) a.elements (first_token (slots_read a).free)
      ∙ walk_ends-links (is_freed_at a.elements) (link_in a.elements) (slots_read a).free had_links freed

  pub was_passed : IsPassed a
  was_passed = record { sized = was_sized; each = all_pass (is_slot (a.size - 3)) a.elements [] long_elements; walk = had_walk }

-- So the test is exact.

pub slots_passed : (extra : ℕ) (v : Viewed) → 2 ≤ extra → length v.array.extra ≡ extra → IsPassed v.array → is_some (slots_of extra v.array) ≡ true
unfolding slots_of
slots_passed extra v enough long p =
    let a : Array = v.array in
    let s : Slots = slots_read a in
    let same : same_array (slots_array (drop 2 a.extra) s) a ≡ true = subst (λ b. same_array b a ≡ true) (sym (passed_same v (omega arith) p)) (same_array-refl a) in
    ap is_some (cond-true _ _ _ (and_from _ _ (and_from _ _ (eq-eqb (length a.extra) extra long) (passed_sound v (omega arith) p)) same))

pub slots_refused : (extra : ℕ) (a : Array) → length a.elements < 65536 → (length a.extra ≡ extra → IsPassed a → ⊥) → is_some (slots_of extra a) ≡ false
unfolding slots_of
slots_refused extra a few refused =
    let s : Slots = slots_read a in
    elim (cases_Bool (length a.extra == extra && is_sound s && same_array (slots_array (drop 2 a.extra) s) a)) [
      | inl so ↦
          (let outer = and_parts (length a.extra == extra && is_sound s) (same_array (slots_array (drop 2 a.extra) s) a) so in
          let inner = and_parts (length a.extra == extra) (is_sound s) outer.0 in
          absurd (refused (eqb-true (length a.extra) extra inner.0) (was_passed a few inner.1 (same_array-is _ a outer.1))))
      | inr other ↦ ap is_some (cond-false _ _ _ other)
    ]

pub slots_read-is : (extra : ℕ) (a : Array) → is_some (slots_of extra a) ≡ true → slots_of extra a ≡ Some (slots_read a)
unfolding slots_of
slots_read-is extra a some =
    let s : Slots = slots_read a in
    elim (cases_Bool (length a.extra == extra && is_sound s && same_array (slots_array (drop 2 a.extra) s) a)) [
      | inl so ↦ cond-true _ _ _ so
      | inr other ↦ absurd (false≢true (sym (ap is_some (cond-false _ _ _ other)) ∙ some))
    ]

none_from : (o : Option Slots) → is_some o ≡ false → o ≡ None
none_from None h = refl
none_from (Some s) h = cc

pub slots_none : (extra : ℕ) (a : Array) → is_some (slots_of extra a) ≡ false → slots_of extra a ≡ None
slots_none extra a none = none_from (slots_of extra a) none

-- With bounds on the lengths of used elements.

and_swap : (p q r t : Bool) → ((p && q) && (r && t)) ≡ ((p && r) && (q && t))
and_swap true q true t = refl
and_swap true q false t = and_right q false refl
and_swap false q r t = refl

-- one test of each element is two
pub within_split : (size least most : ℕ) (xs : List (List ℕ)) → list_all (is_slot_within size least most) xs ≡ (list_all (is_slot size) xs && list_all (has_length least most) (map slot_read xs))
within_split size least most [] = refl
within_split size least most (x ∷ xs) =
    ap (λ (b : Bool). is_slot_within size least most x && b) (within_split size least most xs)
    ∙ and_swap (is_slot size x) (has_length least most (slot_read x)) (list_all (is_slot size) xs) (list_all (has_length least most) (map slot_read xs))

-- a free slot has any length, and so has a used one no longer than the greatest
length-freed : (least most : ℕ) (x : List ℕ) → is_freed x ≡ true → has_length least most (slot_read x) ≡ true
length-freed least most x so = ap (has_length least most) (cond-true (is_freed x) _ _ so)

pub length-used : (least most : ℕ) (x : List ℕ) → is_freed x ≡ false → has_length least most (slot_read x) ≡ (nat_le least (length x - 3) && nat_le (length x - 3) most)
length-used least most x other = ap (has_length least most) (cond-false (is_freed x) _ _ other) ∙ ap (λ (n : ℕ). nat_le least n && nat_le n most) (length-drop 3 x)

length-short : (most : ℕ) (x : List ℕ) → length x ≤ most → has_length 0 most (slot_read x) ≡ true
length-short most x short = elim (cases_Bool (is_freed x)) [
  | inl so ↦ length-freed 0 most x so
  | inr other ↦ length-used 0 most x other ∙ and_from _ _ (le-leb 0 (length x - 3) (omega arith)) (le-leb (length x - 3) most (omega (arith, short)))
]

-- no element is longer than the array
pub any_length : (a : Array) (most : ℕ) → most ≡ length (array_bytes a) → list_all (has_length 0 most) (slots_read a).slots ≡ true
any_length a most is =
    list_all-map (has_length 0 most) slot_read a.elements
    ∙ all_pass (λ x. has_length 0 most (slot_read x)) a.elements [] (λ i l.
    let step = place-step a i (i + 1) (omega arith) in
    let one = ap length (one-is a.elements i l) in
    let within = place-within a (i + 1) (omega (arith, l)) in
    length-short most (get_or a.elements i []) (omega (arith, is, step, one, within)))

-- What is tested of an array of slots so, one by one.
pub within_passed : (extra least most : ℕ) (a : Array) → is_some (slots_of extra a) ≡ true → list_all (has_length least most) (slots_read a).slots ≡ true → are_slots_within extra least most a ≡ true
within_passed extra least most a some all = and_from _ _ some all

pub within_refused : (extra least most : ℕ) (a : Array) → is_some (slots_of extra a) ≡ false → are_slots_within extra least most a ≡ false
within_refused extra least most a none = and_left _ _ none

-- all used elements have so many bytes, so that no slots are refused for these
pub none_within : (extra most : ℕ) (a : Array) → most ≡ length (array_bytes a) → are_slots_within extra 0 most a ≡ false → slots_of extra a ≡ None
none_within extra most a is refused = elim (and_cases (is_some (slots_of extra a)) (list_all (has_length 0 most) (slots_read a).slots) refused) [
  | inl none ↦ slots_none extra a none
  | inr other ↦ absurd (true≢false (sym (any_length a most is) ∙ other))
]

-- A slot that can't end in some bytes has others.
pub other_end : (skip : ℕ) (slot bytes : List ℕ) → ((n : ℕ) → same_bytes (drop n slot) bytes ≡ false) → has_bytes skip bytes (slot_read slot) ≡ false
other_end skip slot bytes other = elim (cases_Bool (is_freed slot)) [
  | inl so ↦ ap (has_bytes skip bytes) (cond-true (is_freed slot) _ _ so)
  | inr used ↦ ap (has_bytes skip bytes) (cond-false (is_freed slot) _ _ used) ∙ ap (λ (l : List ℕ). same_bytes l bytes) (drop-drop skip 3 slot) ∙ other (3 + skip)
]

-- the last byte of some that end in others
last_of : (xs ys : List ℕ) (n : ℕ) → 0 < length ys → drop n xs ≡ ys → get_or xs (length xs - 1) 0 ≡ get_or ys (length ys - 1) 0
last_of xs ys n some is =
    let cut = length-drop n xs in
    let long = ap length is in
    let at : length xs - 1 ≡ n + (length ys - 1) = omega (arith, cut, long, some) in
    ap (λ (k : ℕ). get_or xs k 0) at ∙ sym (get_or-drop n xs (length ys - 1) 0) ∙ ap (λ (l : List ℕ). get_or l (length ys - 1) 0) is

pub other_last : (xs ys : List ℕ) → 0 < length ys → (get_or xs (length xs - 1) 0 ≡ get_or ys (length ys - 1) 0 → ⊥) → (n : ℕ) → same_bytes (drop n xs) ys ≡ false
other_last xs ys some other n = elim (cases_Bool (same_bytes (drop n xs) ys)) [
  | inl so ↦ absurd (other (last_of xs ys n some (same_bytes-is (drop n xs) ys so)))
  | inr others ↦ others
]

-- Slots none of which ends in the last of some bytes.
pub none_has : (a : Array) (from to byte : ℕ) (bytes : List ℕ) → to ≤ length a.elements → ((k : ℕ) → k < length a.elements → 3 ≤ length (get_or a.elements k []))
    → 0 < length bytes → byte ≡ get_or bytes (length bytes - 1) 0 → NoneEnds a from to byte → NoneHas (map slot_read a.elements) from to bytes
none_has a from to byte bytes within long some is none k low up skip =
    let less : k < length a.elements = omega (arith, within, up) in
    let e : List ℕ = get_or a.elements k [] in
    let enough = long k less in
    ap (has_bytes skip bytes) (get_or-map slot_read a.elements k [] None less)
    ∙ other_end skip e bytes (other_last e bytes some (λ same. none k low up (omega (arith, enough)) (same ∙ sym is)))

pub candidates : (a : Array) (from byte : ℕ) (bytes : List ℕ) (found : Option ℕ) → ((k : ℕ) → k < length a.elements → 3 ≤ length (get_or a.elements k []))
    → 0 < length bytes → byte ≡ get_or bytes (length bytes - 1) 0
    → MatchOption found (NoneEnds a from (length a.elements) byte) (λ i. (from ≤ i) × (i < length a.elements) × NoneEnds a from i byte)
    → MatchOption found (NoneHas (map slot_read a.elements) from (length (map slot_read a.elements)) bytes)
    (λ i. (from ≤ i) × (i < length (map slot_read a.elements)) × NoneHas (map slot_read a.elements) from i bytes)
candidates a from byte bytes None long some is none =
    let same = length-map a.elements slot_read in
    λ k low up. none_has a from (length a.elements) byte bytes (omega arith) long some is none k low (omega (arith, same, up))
candidates a from byte bytes (Some i) long some is h =
    let same = length-map a.elements slot_read in
    let low = h.1 in
    (h.0, omega (arith, same, low), none_has a from i byte bytes (omega (arith, low)) long some is h.2)

-- a view's first word, and its elements, are within
pub extra_long : (more : List ℕ) (s : Slots) (a : Array) → slots_array more s ≡ a → 2 ≤ length a.extra
unfolding slots_array
extra_long more s a same = let long : suc (suc (length more)) ≡ length a.extra = ap (λ (b : Array). length b.extra) same in omega arith

-- the first element that passes
pub position_at : {X : Type 0} (p : X → Bool) (xs : List X) (i : ℕ) (d : X) → i < length xs → ((k : ℕ) → k < i → p (get_or xs k d) ≡ false) → p (get_or xs i d) ≡ true → position p xs ≡ Some i
position_at p xs i d low before here =
    let at : position_or_len p xs ≡ i = position_or_len_is p xs i d (omega arith) before (λ _. here) in
    cond-true _ _ _ (lt-ltb (position_or_len p xs) (length xs) (omega arith)) ∙ ap Some at

pub position_none : {X : Type 0} (p : X → Bool) (xs : List X) (d : X) → ((k : ℕ) → k < length xs → p (get_or xs k d) ≡ false) → position p xs ≡ None
position_none p xs d each =
    let at : position_or_len p xs ≡ length xs = position_or_len_is p xs (length xs) d (omega arith) each (λ l. absurd (omega arith)) in
    cond-false _ _ _ (le-ltb (position_or_len p xs) (length xs) (omega arith))

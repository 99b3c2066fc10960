-- Bytes cut into words and elements, and put together again.
use Rattle.std.proofs.Common.{◌≡◌, ℕ, zero, suc, ◌+◌, ◌*◌, ◌-◌, ◌/◌, ◌%◌, ◌<◌, ◌≤◌, true, ◌==◌, List, [], ◌∷◌, ◌++◌, map, length, take, drop, get_or, slice_index, flat_map, refl, sym, ap, ap₂, subst, ◌∙◌, arith, length-append, append-nil, drop-drop}
use Rattle.std.proofs.lemmas.Bool.{and_from, eq-eqb}
use Rattle.std.proofs.lemmas.List.{take-append-drop, get_or-drop, length-drop, length-take}
use Rattle.std.specs.List.{range_with_len, list_all}
use Rattle.byteorder.specs.Endian.{little_number}
use Rattle.byteorder.specs.Numbers.{little_from-lt, little_from-bytes}
use Rattle.geos_model.specs.Words.{word, word_at}
use Rattle.geos_model.specs.Array.{places_from, cut_at, cut_evenly}
use Rattle.geos_model.proofs.Arrays.{joined}
use Rattle.chunk_arrays.specs.Parts.{AreByteValues, place_at}

drop_bytes : (bytes : List ℕ) → AreByteValues bytes → (at i : ℕ) → slice_index (drop at bytes) i < 256
drop_bytes bytes are at i = subst (λ n. n < 256) (sym (get_or-drop at bytes i 0)) (are (at + i))

pub word_at-lt : (bytes : List ℕ) → AreByteValues bytes → (at : ℕ) → word_at bytes at < 65536
word_at-lt bytes are at = little_from-lt 0 2 (drop at bytes) (drop_bytes bytes are at)

-- the bytes of the number in two bytes
pair_written : (x y : ℕ) → x < 256 → y < 256 → word (x + 256 * (y + 256 * 0)) ≡ x ∷ y ∷ []
pair_written x y l m =
    let n : ℕ = x + 256 * (y + 256 * 0) in
    let low : n % 256 ≡ x = omega arith in
    let high : n / 256 % 256 ≡ y = omega arith in
    ap₂ (λ (a b : ℕ). a ∷ b ∷ []) low high

word_written : (xs : List ℕ) → 2 ≤ length xs → AreByteValues xs → word (little_number 2 xs) ≡ take 2 xs
word_written [] l are = absurd (omega arith)
word_written (x ∷ []) l are = absurd (omega arith)
word_written (x ∷ y ∷ xs) l are = pair_written x y (are 0) (are 1)

-- some bytes, and those behind them
pub rejoin : (bytes : List ℕ) (i n : ℕ) → take n (drop i bytes) ++ drop (i + n) bytes ≡ drop i bytes
rejoin bytes i n = ap (λ (l : List ℕ). take n (drop i bytes) ++ l) (sym (drop-drop n i bytes)) ∙ take-append-drop n (drop i bytes)

-- a word, and the bytes behind it
pub word_rejoin : (bytes : List ℕ) → AreByteValues bytes → (i : ℕ) → i + 2 ≤ length bytes → word (word_at bytes i) ++ drop (i + 2) bytes ≡ drop i bytes
word_rejoin bytes are i l =
    let long = length-drop i bytes in
    ap (λ (w : List ℕ). w ++ drop (i + 2) bytes) (word_written (drop i bytes) (omega (arith, long)) (drop_bytes bytes are i)) ∙ rejoin bytes i 2

-- the words of a table, and the bytes behind it
pub words_rejoin : (bytes : List ℕ) → AreByteValues bytes → (start k n : ℕ) → start + 2 * (k + n) ≤ length bytes → flat_map word (map (place_at bytes start) (range_with_len k n)) ++ drop (start + 2 * (k + n)) bytes ≡ drop (start + 2 * k) bytes
words_rejoin bytes are start k zero l =
    let same : start + 2 * (k + 0) ≡ start + 2 * k = omega arith in
    ap (λ (m : ℕ). drop m bytes) same
words_rejoin bytes are start k (suc n) l =
    let rest : List ℕ = flat_map word (map (place_at bytes start) (range_with_len (k + 1) n)) in
    let shift : start + 2 * (k + suc n) ≡ start + 2 * (k + 1 + n) = omega arith in
    let next : start + 2 * (k + 1) ≡ start + 2 * k + 2 = omega arith in
    let behind : rest ++ drop (start + 2 * (k + suc n)) bytes ≡ drop (start + 2 * k + 2) bytes =
    ap (λ (m : ℕ). rest ++ drop m bytes) shift
    ∙ words_rejoin bytes are start (k + 1) n (omega arith)
    ∙ ap (λ (m : ℕ). drop m bytes) next in
    ap (λ (tail : List ℕ). word (word_at bytes (start + 2 * k)) ++ tail) behind ∙ word_rejoin bytes are (start + 2 * k) (omega arith)

-- a number in words that lie one after another
pub word_in_words : (ps rest : List ℕ) (i : ℕ) → i < length ps → little_number 2 (drop (2 * i) (flat_map word ps ++ rest)) ≡ get_or ps i 0 % 65536
word_in_words [] rest i l = absurd (omega arith)
word_in_words (p ∷ ps) rest zero l = little_from-bytes 2 0 p (flat_map word ps ++ rest) ∙ ap (λ (n : ℕ). n % 65536) (div_one p)
  where
    div_one : (n : ℕ) → n / 1 ≡ n
    div_one n = omega arith
word_in_words (p ∷ ps) rest (suc i) l =
    let next : 2 * suc i ≡ suc (suc (2 * i)) = omega arith in
    ap (λ (k : ℕ). little_number 2 (drop k (flat_map word (p ∷ ps) ++ rest))) next ∙ word_in_words ps rest i (omega arith)

pub length-cut_at : (ps bytes : List ℕ) → length (cut_at ps bytes) ≡ length ps
length-cut_at [] bytes = refl
length-cut_at (p ∷ []) bytes = refl
length-cut_at (p ∷ q ∷ ps) bytes = ap suc (length-cut_at (q ∷ ps) bytes)

pub length-cut_evenly : (count size : ℕ) (bytes : List ℕ) → length (cut_evenly count size bytes) ≡ count
length-cut_evenly zero size bytes = refl
length-cut_evenly (suc count) size bytes = ap suc (length-cut_evenly count size (drop size bytes))

-- pieces of one size have that size where there are bytes for all
pub even-cut_evenly : (count size : ℕ) (bytes : List ℕ) → count * size ≤ length bytes → list_all (λ x. length x == size) (cut_evenly count size bytes) ≡ true
even-cut_evenly zero size bytes l = refl
even-cut_evenly (suc count) size bytes l =
    let whole : suc count * size ≡ size + count * size = omega arith in
    let first = length-take size bytes in
    let rest = length-drop size bytes in
    and_from (length (take size bytes) == size) (list_all (λ x. length x == size) (cut_evenly count size (drop size bytes)))
    (eq-eqb (length (take size bytes)) size (omega (arith, first, whole)))
    (even-cut_evenly count size (drop size bytes) (omega (arith, rest, whole)))

-- and together are all bytes
pub joined-cut_evenly : (count size : ℕ) (bytes : List ℕ) → length bytes ≡ count * size → joined (cut_evenly count size bytes) ≡ bytes
joined-cut_evenly zero size [] l = refl
joined-cut_evenly zero size (x ∷ bytes) l = absurd (omega arith)
joined-cut_evenly (suc count) size bytes l =
    let whole : suc count * size ≡ size + count * size = omega arith in
    let rest = length-drop size bytes in
    ap (λ (tail : List ℕ). take size bytes ++ tail) (joined-cut_evenly count size (drop size bytes) (omega (arith, rest, whole)))
    ∙ take-append-drop size bytes

-- elements between places that rise begin at those places, and together are all bytes from the first on
module _ (g : ℕ → ℕ) (bytes : List ℕ) where
  abbrev pub cut_from : ℕ → ℕ → List (List ℕ)
  cut_from k n = cut_at (map g (range_with_len k n)) bytes

  abbrev pub Rising : ℕ → Type 0
  Rising n = (i : ℕ) → i + 1 < n → g i ≤ g (i + 1)

  abbrev pub Within : ℕ → Type 0
  Within n = (i : ℕ) → i < n → g i ≤ length bytes

  pub places-cut : (k n : ℕ) → Rising (k + suc n) → Within (k + suc n) → places_from (g k) (cut_from k (suc n)) ≡ map g (range_with_len k (suc n))
  places-cut k zero rising within = refl
  places-cut k (suc n) rising within =
      let more : k + 1 + suc n ≡ k + suc (suc n) = omega arith in
      let up : g k ≤ g (k + 1) = rising k (omega arith) in
      let low : g (k + 1) ≤ length bytes = within (k + 1) (omega arith) in
      let taken = length-take (g (k + 1) - g k) (drop (g k) bytes) in
      let left = length-drop (g k) bytes in
      let next : g k + length (take (g (k + 1) - g k) (drop (g k) bytes)) ≡ g (k + 1) = omega (arith, taken, left, up, low) in
      ap (λ (at : ℕ). g k ∷ places_from at (cut_from (k + 1) (suc n))) next
      ∙ ap (λ (ps : List ℕ). g k ∷ ps) (places-cut (k + 1) n (λ i l. rising i (omega arith)) (λ i l. within i (omega arith)))

  pub joined-cut : (k n : ℕ) → Rising (k + suc n) → Within (k + suc n) → joined (cut_from k (suc n)) ≡ drop (g k) bytes
  joined-cut k zero rising within = append-nil (drop (g k) bytes)
  joined-cut k (suc n) rising within =
      let more : k + 1 + suc n ≡ k + suc (suc n) = omega arith in
      let up : g k ≤ g (k + 1) = rising k (omega arith) in
      let next : g (k + 1) ≡ g k + (g (k + 1) - g k) = omega (arith, up) in
      ap (λ (tail : List ℕ). take (g (k + 1) - g k) (drop (g k) bytes) ++ tail)
      (joined-cut (k + 1) n (λ i l. rising i (omega arith)) (λ i l. within i (omega arith)) ∙ ap (λ (at : ℕ). drop at bytes) next)
      ∙ rejoin bytes (g k) (g (k + 1) - g k)

-- an element is no longer than from its place to the next
pub length-cut_at_le : (ps bytes : List ℕ) (i : ℕ) → suc i < length ps → length (get_or (cut_at ps bytes) i []) ≤ get_or ps (suc i) 0 - get_or ps i 0
length-cut_at_le [] bytes i l = absurd (omega arith)
length-cut_at_le (p ∷ []) bytes i l = absurd (omega arith)
length-cut_at_le (p ∷ q ∷ ps) bytes zero l =
    let taken = length-take (q - p) (drop p bytes) in
    omega (arith, taken)
length-cut_at_le (p ∷ q ∷ ps) bytes (suc i) l = length-cut_at_le (q ∷ ps) bytes i (omega arith)

-- where an element begins
pub place-next : (at : ℕ) (xs : List (List ℕ)) (i : ℕ) → suc i < length xs → get_or (places_from at xs) (suc i) 0 ≡ get_or (places_from at xs) i 0 + length (get_or xs i [])
place-next at [] i l = absurd (omega arith)
place-next at (x ∷ []) i l = absurd (omega arith)
place-next at (x ∷ y ∷ xs) zero l = refl
place-next at (x ∷ y ∷ xs) (suc i) l = place-next (at + length x) (y ∷ xs) i (omega arith)

pub place-is : (at : ℕ) (xs : List (List ℕ)) (i : ℕ) → i < length xs → get_or (places_from at xs) i 0 ≡ at + length (joined (take i xs))
place-is at [] i l = absurd (omega arith)
place-is at (x ∷ xs) zero l = omega arith
place-is at (x ∷ xs) (suc i) l =
    let rest = place-is (at + length x) xs i (omega arith) in
    let whole = length-append x (joined (take i xs)) in
    rest ∙ omega (arith, whole)

pub place-le : (at : ℕ) (xs : List (List ℕ)) (i : ℕ) → i < length xs → get_or (places_from at xs) i 0 ≤ at + length (joined xs)
place-le at [] i l = absurd (omega arith)
place-le at (x ∷ xs) zero l = omega arith
place-le at (x ∷ xs) (suc i) l =
    let rest = place-le (at + length x) xs i (omega arith) in
    let whole = length-append x (joined xs) in
    omega (arith, rest, whole)

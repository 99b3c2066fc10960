-- What the operands' texts come to.
use Rattle.std.proofs.Common.{◌≡◌, ℕ, ◌+◌, ◌*◌, ◌^◌, ◌%◌, ◌==◌, ◌<◌, ◌≤◌, true, false, List, [], ◌∷◌, length, length-take, take, fold, slice_index, Some, None, is_some, Result, Ok, Err, refl, sym, ap, ◌∙◌, arith, inl, inr}
use Rattle.std.specs.Prelude.{IsSomeAnd, IsTrue, codes}
use Rattle.std.specs.List.{list_all}
use Rattle.std.proofs.lemmas.Bool.{cases_Bool, eqb-true}
use Rattle.std.proofs.lemmas.Bool.Decides.{nat_tests}
use Rattle.std.proofs.lemmas.List.Sums.{AllPass-from_list_all, list_all-from_AllPass}
use Rattle.geos_script.specs.Reading.{is_nonempty}
use Rattle.std.proofs.Math.Nat.{pow-le-pow_right}
use Rattle.hex.specs.Hex.{decode_of, decode_pairs, is_hex_digit, pair_value}
use Rattle.hex.specs.declared.error.FromHexError.{FromHexError}
use Rattle.hex.proofs.HexLemmas.{decode_of-ok, decode_of-digits}
use Rattle.geos_model.specs.Script.{bytes, handle, is_digit, number_within, with_digit, two_bytes, if_spelled, same_bytes}
use Rattle.geos_model.proofs.Arrays.{same_bytes-is}
use Rattle.std.specs.Prelude.{option_and_then}

-- a number of at most eight digits has room for a further byte
pub small_number : (n i : ℕ) → n < 10 ^ i → i < 9 → 10 * n + 255 < 2 ^ 32
small_number n i below few =
    let bound : 10 ^ i ≤ 10 ^ 8 = pow-le-pow_right {n = 10} (omega arith) {i = i} {j = 8} (omega arith) in
    omega (arith, bound)

-- bytes that aren't two are no handle
two_bytes-other : (bytes : List ℕ) → (length bytes ≡ 2 → ⊥) → two_bytes bytes ≡ None
two_bytes-other [] h = refl
two_bytes-other (a ∷ []) h = refl
two_bytes-other (a ∷ b ∷ []) h = absurd (h refl)
two_bytes-other (a ∷ b ∷ c ∷ bytes) h = refl

-- what a word decodes to is no handle where it isn't four digits
two_bytes-refused : (word : List ℕ) (r : Result (List ℕ) FromHexError) → decode_of word ≡ r → (length word ≡ 4 → list_all is_hex_digit word ≡ true → ⊥)
    → option_and_then two_bytes (if_spelled r) ≡ None
two_bytes-refused word (Err x) is others = refl
two_bytes-refused word (Ok bytes) is others = two_bytes-other bytes (λ two.
    let ok = decode_of-ok word bytes is in
    others (omega (arith, ok.2)) (list_all-from_AllPass is_hex_digit word ok.1))

-- a word that isn't four digits is no handle
pub handle-refused : (word : List ℕ) → (length word ≡ 4 → list_all is_hex_digit word ≡ true → ⊥) → handle word ≡ None
handle-refused word others = two_bytes-refused word (decode_of word) refl others

-- four digits are one
pub handle-spelled : (word : List ℕ) (high low : ℕ) → length word ≡ 4 → pair_value (slice_index word 0) (slice_index word 1) 0 ≡ Ok high
    → pair_value (slice_index word 2) (slice_index word 3) 2 ≡ Ok low → handle word ≡ Some (256 * high + low)
unfolding decode_pairs
handle-spelled (a ∷ b ∷ c ∷ d ∷ []) high low four first second = rw (first, second) refl
handle-spelled [] high low four first second = absurd (omega arith)
handle-spelled (a ∷ []) high low four first second = absurd (omega arith)
handle-spelled (a ∷ b ∷ []) high low four first second = absurd (omega arith)
handle-spelled (a ∷ b ∷ c ∷ []) high low four first second = absurd (omega arith)
handle-spelled (a ∷ b ∷ c ∷ d ∷ e ∷ word) high low four first second = absurd (omega arith)

none_spelled : (word : List ℕ) (r : Result (List ℕ) FromHexError) → decode_of word ≡ r → list_all is_hex_digit word ≡ false → false ≡ is_some (if_spelled r)
none_spelled word (Err e) is not = refl
none_spelled word (Ok bs) is not = cc (sym not ∙ list_all-from_AllPass is_hex_digit word (decode_of-ok word bs is).1)

-- pairs of digits spell bytes, and nothing else of an even length does
pairs_spelled : (word : List ℕ) → length word % 2 ≡ 0 → list_all is_hex_digit word ≡ is_some (if_spelled (decode_of word))
pairs_spelled word even =
    elim (cases_Bool (list_all is_hex_digit word)) [
      | inl all ↦
          let decoded = decode_of-digits word even (AllPass-from_list_all is_hex_digit word all) in
          all ∙ sym (ap (λ r. is_some (if_spelled r)) decoded.1)
      | inr not ↦ not ∙ none_spelled word (decode_of word) refl not
    ]

-- a word of some bytes that is no dash spells bytes where it is pairs of digits
pub spelled_digits : (word : List ℕ) → same_bytes word (codes "-") ≡ false → length word == 0 ≡ false → length word % 2 == 0 ≡ true
    → list_all is_hex_digit word ≡ is_some (bytes word)
spelled_digits word no_dash some even = rw (no_dash, some) (pairs_spelled word (eqb-true _ _ even))

some_decoded : (word : List ℕ) (r : Result (List ℕ) FromHexError) → decode_of word ≡ r → 0 < length word → is_some (if_spelled r) ≡ true → IsSomeAnd (if_spelled r) (λ bs. IsTrue (is_nonempty bs))
some_decoded word (Err e) is some there = cc there
some_decoded word (Ok []) is some there = let ok = decode_of-ok word [] is in absurd (omega (arith, ok.2))
some_decoded word (Ok (x ∷ bs)) is some there = refl

-- what a word spells that is no dash has bytes
pub spelled_some : (word : List ℕ) → same_bytes word (codes "-") ≡ false → is_some (bytes word) ≡ true → IsSomeAnd (bytes word) (λ bs. IsTrue (is_nonempty bs))
spelled_some word no_dash there =
    elim (cases_Bool (length word == 0)) [
      | inl none ↦ cc (rw (no_dash, none) at there)
      | inr some ↦
          let long : 0 < length word = grind (arith, nat_tests) in
          let decoded : is_some (if_spelled (decode_of word)) ≡ true = rw (no_dash, some) at there in
          rw (no_dash, some) (some_decoded word (decode_of word) refl long decoded)
    ]

spelled_pairs_all : (word bs : List ℕ) (r : Result (List ℕ) FromHexError) → decode_of word ≡ r → if_spelled r ≡ Some bs → list_all is_hex_digit word ≡ true
spelled_pairs_all word bs (Err e) is some = cc some
spelled_pairs_all word bs (Ok x) is some = list_all-from_AllPass is_hex_digit word (decode_of-ok word x is).1

-- what pairs of digits spell
pub decoded-digits : (word bs : List ℕ) → if_spelled (decode_of word) ≡ Some bs → list_all is_hex_digit word ≡ true
decoded-digits word bs is = spelled_pairs_all word bs (decode_of word) refl is

-- no pairs of digits, no bytes
pub decoded-none : (word : List ℕ) → list_all is_hex_digit word ≡ false → None ≡ if_spelled (decode_of word)
decoded-none word others = go (decode_of word) refl
  where
    go : (r : Result (List ℕ) FromHexError) → decode_of word ≡ r → None ≡ if_spelled r
    go (Err e) is = refl
    go (Ok x) is = cc (sym others ∙ list_all-from_AllPass is_hex_digit word (decode_of-ok word x is).1)

no_dash-even : (word : List ℕ) → length word % 2 ≡ 0 → same_bytes word (codes "-") ≡ false
no_dash-even word even =
    elim (cases_Bool (same_bytes word (codes "-"))) [
      | inl dash ↦ let one : length word ≡ 1 = ap length (same_bytes-is word (codes "-") dash) in absurd (omega (arith, one))
      | inr other ↦ other
    ]

-- pairs of digits are a word that spells what they do
pub bytes-even : (word : List ℕ) → 0 < length word → length word % 2 ≡ 0 → bytes word ≡ if_spelled (decode_of word)
bytes-even word some even =
    let there : (length word == 0) ≡ false = grind (arith, nat_tests) in
    rw (no_dash-even word even, there) refl

handle_pairs : (word : List ℕ) (h : ℕ) (r : Result (List ℕ) FromHexError) → decode_of word ≡ r → option_and_then two_bytes (if_spelled r) ≡ Some h
    → list_all is_hex_digit word ≡ true
handle_pairs word h (Err e) is some = cc some
handle_pairs word h (Ok bs) is some = list_all-from_AllPass is_hex_digit word (decode_of-ok word bs is).1

-- a handle's digits are some
pub handle-digits : (word : List ℕ) (h : ℕ) → handle word ≡ Some h → list_all is_hex_digit word ≡ true
handle-digits word h is = handle_pairs word h (decode_of word) refl is

-- digits at the front spell a number, where they are 1 to so many
pub number-spelled : (most : ℕ) (xs : List ℕ) (n : ℕ) → 0 < n → n ≤ length xs → n ≤ most → list_all is_digit (take n xs) ≡ true
    → number_within most (take n xs) ≡ Some (fold with_digit 0 (take n xs))
number-spelled most xs n some within few digits =
    let len : length (take n xs) ≡ n = omega (arith, length-take n xs) in
    rw (len, digits) (grind (arith, nat_tests))

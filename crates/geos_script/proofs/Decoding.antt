-- Digits that are decoded by the table, and in two parts.
use Rattle.std.proofs.Common.{nat_lt, ◌≡◌, ◌&&◌, ℕ, ◌+◌, ◌*◌, ◌%◌, ◌<◌, ◌≤◌, Bool, true, false, List, [], ◌∷◌, ◌++◌, length, take, drop, slice_index, bit_or, Result, Ok, Err, refl, sym, ap, ◌∙◌, inl, inr, arith}
use Rattle.std.specs.List.{AllPass, list_all}
use Rattle.std.proofs.lemmas.Bool.{and_parts, cases_Bool, cases_lt}
use Rattle.std.proofs.lemmas.Bool.Decides.{nat_tests}
use Rattle.std.proofs.lemmas.List.{take-append-drop}
use Rattle.std.proofs.lemmas.List.Folds.{list_all_more}
use Rattle.std.proofs.lemmas.Nat.{le_or_l, le_or_r, or_lt}
use Rattle.hex.specs.Hex.{decode_pairs, is_hex_digit, pair_value}
use Rattle.hex.specs.declared.error.FromHexError.{FromHexError}
use Rattle.hex.proofs.HexLemmas.{decode_pairs-ok}
use Rattle.hex.proofs.Pairs.{cons_byte, decode_pairs-ok_pair}
use Rattle.geos_script.proofs.Digits.{counted, counted_digit, counted_other, few, pair_valued, value}

-- bytes seen together are as small as each
or_small : (a b : ℕ) → nat_lt (bit_or a b) 256 ≡ (nat_lt a 256 && nat_lt b 256)
or_small a b =
    elim (cases_lt a 256) [
      | inl small_a ↦ elim (cases_lt b 256) [
        | inl small_b ↦ let both : bit_or a b < 256 = or_lt 8 a b small_a small_b in grind (arith, nat_tests)
        | inr large ↦ let more : b ≤ bit_or a b = le_or_r a b in grind (arith, nat_tests)
      ]
      | inr large ↦ let more : a ≤ bit_or a b = le_or_l a b in grind (arith, nat_tests)
    ]

-- two bytes count for less than 256 where both are digits
pair_small : (high low p q : ℕ) → p ≡ counted high → q ≡ counted low → nat_lt (16 * p + q) 256 ≡ (is_hex_digit high && is_hex_digit low)
pair_small high low p q h l =
    elim (cases_Bool (is_hex_digit high)) [
      | inl digit ↦ elim (cases_Bool (is_hex_digit low)) [
        | inl other ↦
            let p_few : p < 16 = rw (h ∙ counted_digit high digit) (few high digit) in
            let q_few : q < 16 = rw (l ∙ counted_digit low other) (few low other) in
            let small : nat_lt (16 * p + q) 256 ≡ true = small_test (16 * p + q) (omega (arith, p_few, q_few)) in
            rw (digit, other) small
        | inr none ↦
            let much : q ≡ 65536 = l ∙ counted_other low none in
            let large : nat_lt (16 * p + q) 256 ≡ false = large_test (16 * p + q) (omega (arith, much)) in
            rw (digit, none) large
      ]
      | inr none ↦
          let much : p ≡ 65536 = h ∙ counted_other high none in
          let large : nat_lt (16 * p + q) 256 ≡ false = large_test (16 * p + q) (omega (arith, much)) in
          rw none large
    ]
  where
    small_test : (n : ℕ) → n < 256 → nat_lt n 256 ≡ true
    small_test n lt = grind (arith, nat_tests)

    large_test : (n : ℕ) → 256 ≤ n → nat_lt n 256 ≡ false
    large_test n le = grind (arith, nat_tests)

-- whether a further pair is of digits too
pub pair_seen : (s : List ℕ) (i seen p q : ℕ) → 2 * i + 1 < length s → nat_lt seen 256 ≡ list_all is_hex_digit (take (2 * i) s)
    → p ≡ counted (slice_index s (2 * i)) → q ≡ counted (slice_index s (2 * i + 1))
    → nat_lt (bit_or seen (16 * p + q)) 256 ≡ list_all is_hex_digit (take (2 * (i + 1)) s)
pair_seen s i seen p q fits so_far h l =
    let two : 2 * (i + 1) ≡ 2 * i + 1 + 1 = omega arith in
    let first = list_all_more is_hex_digit s (2 * i) 0 (omega arith) in
    let second = list_all_more is_hex_digit s (2 * i + 1) 0 (omega arith) in
    let high = is_hex_digit (slice_index s (2 * i)) in
    let low = is_hex_digit (slice_index s (2 * i + 1)) in
    or_small seen (16 * p + q) ∙ ap (λ b. nat_lt seen 256 && b) (pair_small (slice_index s (2 * i)) (slice_index s (2 * i + 1)) p q h l) ∙ ap (λ b. b && (high && low)) so_far
    ∙ regrouped (list_all is_hex_digit (take (2 * i) s)) high low ∙ ap (λ b. b && low) (sym first) ∙ sym second
    ∙ ap (λ (n : ℕ). list_all is_hex_digit (take n s)) (sym two)
  where
    regrouped : (x y z : Bool) → (x && (y && z)) ≡ ((x && y) && z)
    regrouped true y z = refl
    regrouped false y z = refl

-- where what is seen so far is small, it was before, and the pair's byte is what it counts for
pub pair_small_parts : (high low seen p q : ℕ) → p ≡ counted high → q ≡ counted low → bit_or seen (16 * p + q) < 256
    → (seen < 256) × ((i : ℕ) → pair_value high low i ≡ Ok ((16 * p + q) % 256))
pair_small_parts high low seen p q h l small =
    let before : seen < 256 = omega (arith, le_or_l seen (16 * p + q)) in
    let byte : 16 * p + q < 256 = omega (arith, le_or_r seen (16 * p + q)) in
    let both = and_parts _ _ (sym (pair_small high low p q h l) ∙ small_test (16 * p + q) byte) in
    (before, λ i. pair_valued high low i both.0 both.1 ∙ ap Ok (same p q _ _ (h ∙ counted_digit high both.0) (l ∙ counted_digit low both.1) byte))
  where
    small_test : (n : ℕ) → n < 256 → nat_lt n 256 ≡ true
    small_test n lt = grind (arith, nat_tests)

    same : (p q v w : ℕ) → p ≡ v → q ≡ w → 16 * p + q < 256 → v * 16 + w ≡ (16 * p + q) % 256
    same p q v w ep eq lt = omega arith

-- the byte of two digits
abbrev byte_at : ℕ → ℕ → ℕ
byte_at high low = value high * 16 + value low

-- what pairs of digits spell begins with the first one's byte
pair_parts : (i high low : ℕ) (rest bytes : List ℕ) → decode_pairs i (high ∷ low ∷ rest) ≡ Ok bytes
    → (is_hex_digit high ≡ true) × (is_hex_digit low ≡ true) × ((t : List ℕ) × (decode_pairs (i + 2) rest ≡ Ok t) × (bytes ≡ byte_at high low ∷ t))
pair_parts i high low rest bytes is = (h, l, go (decode_pairs (i + 2) rest) refl)
  where
    all : AllPass is_hex_digit (high ∷ low ∷ rest)
    all = (decode_pairs-ok i (high ∷ low ∷ rest) bytes is).0

    h : is_hex_digit high ≡ true
    h = all 0 0 (omega arith)

    l : is_hex_digit low ≡ true
    l = all 1 0 (omega arith)

    begun : cons_byte (byte_at high low) (decode_pairs (i + 2) rest) ≡ Ok bytes
    begun = sym (decode_pairs-ok_pair i high low (byte_at high low) rest (pair_valued high low i h l)) ∙ is

    go : (r : Result (List ℕ) FromHexError) → decode_pairs (i + 2) rest ≡ r → (t : List ℕ) × (decode_pairs (i + 2) rest ≡ Ok t) × (bytes ≡ byte_at high low ∷ t)
    go (Ok t) e = (t, e, cc (rw e at begun))
    go (Err x) e = cc (rw e at begun)

-- wherever they stand
ok_anywhere : (i j : ℕ) (s bytes : List ℕ) → decode_pairs i s ≡ Ok bytes → decode_pairs j s ≡ Ok bytes
unfolding decode_pairs
ok_anywhere i j [] bytes is = is
ok_anywhere i j (x ∷ []) bytes is = cc is
ok_anywhere i j (high ∷ low ∷ rest) bytes is =
    let parts = pair_parts i high low rest bytes is in
    decode_pairs-ok_pair j high low (byte_at high low) rest (pair_valued high low j parts.0 parts.1)
    ∙ ap (cons_byte (byte_at high low)) (ok_anywhere (i + 2) (j + 2) rest parts.2.0 parts.2.1) ∙ ap Ok (sym parts.2.2)

-- two texts of digits, one behind the other
decode_append : (i j : ℕ) (xs front ys back : List ℕ) → decode_pairs i xs ≡ Ok front → decode_pairs j ys ≡ Ok back → decode_pairs i (xs ++ ys) ≡ Ok (front ++ back)
unfolding decode_pairs
decode_append i j [] front ys back is_front is_back = let none : front ≡ [] = cc is_front in rw none (ok_anywhere j i ys back is_back)
decode_append i j (x ∷ []) front ys back is_front is_back = cc is_front
decode_append i j (high ∷ low ∷ rest) front ys back is_front is_back =
    let parts = pair_parts i high low rest front is_front in
    let behind = decode_append (i + 2) j rest parts.2.0 ys back parts.2.1 is_back in
    decode_pairs-ok_pair i high low (byte_at high low) (rest ++ ys) (pair_valued high low i parts.0 parts.1)
    ∙ ap (cons_byte (byte_at high low)) behind ∙ ap (λ (l : List ℕ). Ok (l ++ back)) (sym parts.2.2)

-- digits that are decoded in two parts
pub decoded-parts : (s xs ys front back : List ℕ) (n : ℕ) → xs ≡ take n s → ys ≡ drop n s → decode_pairs 0 xs ≡ Ok front → decode_pairs 0 ys ≡ Ok back
    → decode_pairs 0 s ≡ Ok (front ++ back)
decoded-parts s xs ys front back n is_xs is_ys is_front is_back =
    let whole : xs ++ ys ≡ s = rw (is_xs, is_ys) (take-append-drop n s) in
    ap (decode_pairs 0) (sym whole) ∙ decode_append 0 0 xs front ys back is_front is_back

-- no digits spell no bytes
pub decoded-nothing : (xs front : List ℕ) → length xs ≡ 0 → length front ≡ 0 → decode_pairs 0 xs ≡ Ok front
unfolding decode_pairs
decoded-nothing [] [] none also = refl
decoded-nothing [] (y ∷ front) none also = absurd (omega arith)
decoded-nothing (x ∷ xs) front none also = absurd (omega arith)

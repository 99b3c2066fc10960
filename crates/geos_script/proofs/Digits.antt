-- Hexadecimal digits are read as one word, or by a table.
use Rattle.std.proofs.Common.{◌≡◌, ℕ, zero, suc, ◌+◌, ◌*◌, ◌/◌, ◌%◌, ◌<◌, ◌≤◌, ◌&&◌, ◌||◌, Bool, true, false, not, nat_eq, bit_and, Option, Some, None, is_some, Ok, refl, inl, inr, arith}
use Rattle.std.specs.Option.{unwrap_or}
use Rattle.std.proofs.lemmas.Bool.{and_parts, cases_eq, eqb-true}
use Rattle.std.proofs.lemmas.Bool.Decides.{nat_tests}
use Rattle.hex.specs.Hex.{hex_digit_value, is_hex_digit, pair_value}

abbrev pub value : ℕ → ℕ
value digit = unwrap_or (hex_digit_value digit) 0

-- the values of two digits, each in its byte of the word
abbrev pub values : ℕ → ℕ
values digits = bit_and digits 3855 + 9 * bit_and (digits / 64) 257

-- what a byte counts for in the table: a digit's value, or more than four digits spell
abbrev pub counted : ℕ → ℕ
counted digit = unwrap_or (hex_digit_value digit) 65536

pub counted_few : (digit : ℕ) → counted digit ≤ 65536
counted_few digit = grind (arith, nat_tests)

-- a digit counts for its value, and what is none for more than four digits spell
pub counted_digit : (digit : ℕ) → is_hex_digit digit ≡ true → counted digit ≡ value digit
counted_digit digit is = go (hex_digit_value digit) is
  where
    go : (v : Option ℕ) → is_some v ≡ true → unwrap_or v 65536 ≡ unwrap_or v 0
    go None some = cc some
    go (Some v) some = refl

pub counted_other : (digit : ℕ) → is_hex_digit digit ≡ false → counted digit ≡ 65536
counted_other digit isnt = go (hex_digit_value digit) isnt
  where
    go : (v : Option ℕ) → is_some v ≡ false → unwrap_or v 65536 ≡ 65536
    go None none = refl
    go (Some v) none = cc none

-- whether each number below n passes
all_below : ℕ → (ℕ → Bool) → Bool
all_below zero passes = true
all_below (suc n) passes = passes n && all_below n passes

below : (n : ℕ) (passes : ℕ → Bool) (k : ℕ) → all_below n passes ≡ true → k < n → passes k ≡ true
unfolding all_below
below zero passes k all lt = absurd (omega arith)
below (suc n) passes k all lt =
    let both = and_parts _ _ all in
    elim (cases_eq k n) [
      | inl same ↦ rw same both.0
      | inr other ↦ below n passes k both.1 (omega (arith, other))
    ]

is_read : ℕ → ℕ → Bool
is_read high low =
    not (is_hex_digit high && is_hex_digit low) || nat_eq (values (high + low * 256)) (value high + value low * 256)

-- by computing all
all_read : all_below 103 (λ high. all_below 103 (is_read high)) ≡ true
unfolding all_below is_read
all_read = refl

small : (digit : ℕ) → is_hex_digit digit ≡ true → digit < 103
small digit is = grind (arith, nat_tests, is)

pub few : (digit : ℕ) → is_hex_digit digit ≡ true → value digit < 16
few digit is = grind (arith, nat_tests, is)

pub values_read : (high low : ℕ) → is_hex_digit high ≡ true → is_hex_digit low ≡ true
    → values (high + low * 256) ≡ value high + value low * 256
unfolding is_read
values_read high low h l =
    let one = below 103 (λ x. all_below 103 (is_read x)) high all_read (small high h) in
    let both = below 103 (is_read high) low one (small low l) in
    eqb-true _ _ (rw (h, l) at both)

-- the byte that two digits spell
pub pair_read : (high low i : ℕ) → is_hex_digit high ≡ true → is_hex_digit low ≡ true
    → pair_value high low i ≡ Ok ((16 * (value high + value low * 256) + (value high + value low * 256) / 256) % 256)
pair_read high low i h l = go (hex_digit_value high) refl (hex_digit_value low) refl
  where
    go : (x : Option ℕ) → hex_digit_value high ≡ x → (y : Option ℕ) → hex_digit_value low ≡ y
        → pair_value high low i ≡ Ok ((16 * (value high + value low * 256) + (value high + value low * 256) / 256) % 256)
    go None e y f = cc (rw e at h)
    go (Some x) e None f = cc (rw f at l)
    go (Some x) e (Some y) f =
        let one : x < 16 = rw e at (few high h) in
        let other : y < 16 = rw f at (few low l) in
        let same : (16 * (x + y * 256) + (x + y * 256) / 256) % 256 ≡ x * 16 + y = omega (arith, one, other) in
        rw (e, f, same) refl

-- the byte of two digits, by their values
pub pair_valued : (high low i : ℕ) → is_hex_digit high ≡ true → is_hex_digit low ≡ true → pair_value high low i ≡ Ok (value high * 16 + value low)
pair_valued high low i h l = go (hex_digit_value high) refl (hex_digit_value low) refl
  where
    go : (x : Option ℕ) → hex_digit_value high ≡ x → (y : Option ℕ) → hex_digit_value low ≡ y → pair_value high low i ≡ Ok (value high * 16 + value low)
    go None e y f = cc (rw e at h)
    go (Some x) e None f = cc (rw f at l)
    go (Some x) e (Some y) f = rw (e, f) refl

-- Any bytes are those of the number that is read from them, low byte first.
use Rattle.std.proofs.Common.{◌≡◌, ℕ, zero, suc, ◌+◌, ◌*◌, ◌/◌, ◌%◌, ◌^◌, ◌<◌, List, [], ◌∷◌, length, slice_index, refl, sym, ap, ap₂, ◌∙◌, inl, inr, arith}
use Rattle.std.proofs.Math.Nat.{div-div-eq-div-mul, div-one, pow-suc}
use Rattle.std.proofs.Math.ListN.{get_or-eq_default}
use Rattle.std.proofs.lemmas.Bool.{cases_lt}
use Rattle.std.specs.List.{All}
use Rattle.std.specs.Int.{byte_at, bytes_low_first}
use Rattle.byteorder.specs.Endian.{little_number, little_bytes}
use Rattle.byteorder.specs.Numbers.{little_from-cons, little_from-lt, little_number-reads_back}
use Rattle.geos_model.specs.Laws.{NumberLaw}

byte_at-pow : (i n : ℕ) → byte_at i n ≡ n / 256 ^ i % 256
byte_at-pow zero n = ap (λ (x : ℕ). x % 256) (sym (div-one n))
byte_at-pow (suc i) n = refl

-- a byte further up is one of what is left without the lowest
byte_at-next : (i n : ℕ) → byte_at (suc i) n ≡ byte_at i (n / 256)
byte_at-next i n =
    ap (λ (p : ℕ). n / p % 256) (pow-suc 256 i ∙ (let turned : 256 ^ i * 256 ≡ 256 * 256 ^ i = omega arith in turned))
    ∙ ap (λ (x : ℕ). x % 256) (sym (div-div-eq-div-mul n 256 (256 ^ i)))
    ∙ sym (byte_at-pow i (n / 256))

bytes-next : (i k n : ℕ) → bytes_low_first (suc i) k n ≡ bytes_low_first i k (n / 256)
bytes-next i zero n = refl
bytes-next i (suc k) n = ap₂ (λ (b : ℕ) (bs : List ℕ). b ∷ bs) (byte_at-next i n) (bytes-next (suc i) k n)

-- bytes as they are
abbrev AreBytes : List ℕ → Type 0
AreBytes bytes = All (λ b. b < 256) bytes

below : (bytes : List ℕ) → AreBytes bytes → (k : ℕ) → slice_index bytes k < 256
below bytes all k = elim (cases_lt k (length bytes)) [
  | inl l ↦ all k 0 l
  | inr past ↦ (let none : slice_index bytes k ≡ 0 = get_or-eq_default bytes 0 past in omega (arith, none))
]

in_range : (bytes : List ℕ) → AreBytes bytes → little_number (length bytes) bytes < 256 ^ length bytes
in_range bytes all = little_from-lt 0 (length bytes) bytes (below bytes all)

written_back : (bytes : List ℕ) → AreBytes bytes → little_bytes (length bytes) (little_number (length bytes) bytes) ≡ bytes
written_back [] all = refl
written_back (b ∷ bs) all =
    let low : b < 256 = all 0 b (omega arith) in
    let rest : little_bytes (length bs) (little_number (length bs) bs) ≡ bs = written_back bs (λ k d l. all (suc k) d (omega arith)) in
    let number : little_number (suc (length bs)) (b ∷ bs) ≡ b + 256 * little_number (length bs) bs = ap (λ (r : ℕ). b + 256 * r) (little_from-cons 0 (length bs) b bs) in
    let first : (b + 256 * little_number (length bs) bs) % 256 ≡ b = omega arith in
    let left : (b + 256 * little_number (length bs) bs) / 256 ≡ little_number (length bs) bs = omega arith in
    ap (little_bytes (suc (length bs))) number
    ∙ ap₂ (λ (x : ℕ) (xs : List ℕ). x ∷ xs) first
    (bytes-next 0 (length bs) (b + 256 * little_number (length bs) bs) ∙ ap (little_bytes (length bs)) left ∙ rest)

pub number_law : NumberLaw
number_law = record { read_back = little_number-reads_back; in_range = in_range; written_back = written_back }

-- All branches of a root, seen together.
use Rattle.std.proofs.Common.{◌≡◌, ℕ, ◌+◌, ◌<◌, ◌%◌, ◌↔◌, List, bit_or, min, sym, ap, ap₂, subst, ◌∙◌, inl, inr, arith}
use Rattle.std.proofs.lemmas.Bool.{cases_eq}
use Rattle.std.proofs.lemmas.Nat.{or_mod, le_or_l, le_or_r}
use Rattle.geos_model.specs.Words.{word_at, double_word_at}
use Rattle.chunk_arrays.specs.Parts.{AreByteValues}
use Rattle.chunk_arrays.proofs.CutLemmas.{word_at-lt}

-- what holds of each up to one, and of that one
each_more : (P : ℕ → Type 0) (i : ℕ) → ((k : ℕ) → k < i → P k) → P i → (k : ℕ) → k < i + 1 → P k
each_more P i before here k low = elim (cases_eq k i) [
  | inl is ↦ subst P (sym is) here
  | inr other ↦ before k (omega arith)
]

-- no bit of the low half is set in either of two numbers
or_none : (a b : ℕ) → bit_or a b % 65536 ≡ 0 → (a % 65536 ≡ 0) × (b % 65536 ≡ 0)
or_none a b none =
    let both : bit_or a b % 65536 ≡ bit_or (a % 65536) (b % 65536) = or_mod a b 16 in
    let left = le_or_l (a % 65536) (b % 65536) in
    let right = le_or_r (a % 65536) (b % 65536) in
    (omega (arith, both, left, none), omega (arith, both, right, none))

none_or : (a b : ℕ) → a % 65536 ≡ 0 → b % 65536 ≡ 0 → bit_or a b % 65536 ≡ 0
none_or a b left right = or_mod a b 16 ∙ ap₂ bit_or left right

-- the low half of the number in four bytes is the number in the first two
low_word : (bytes : List ℕ) → AreByteValues bytes → (at : ℕ) → double_word_at bytes at % 65536 ≡ word_at bytes at
low_word bytes are at = (let small = word_at-lt bytes are at in omega (arith, small))

pub zeros_more : (bytes : List ℕ) → AreByteValues bytes → (place : ℕ → ℕ) (i seen next : ℕ) → next ≡ double_word_at bytes (place i)
    → (seen % 65536 ≡ 0) ↔ ((k : ℕ) → k < i → word_at bytes (place k) ≡ 0)
    → (bit_or seen next % 65536 ≡ 0) ↔ ((k : ℕ) → k < i + 1 → word_at bytes (place k) ≡ 0)
zeros_more bytes are place i seen next is before =
    let low : next % 65536 ≡ word_at bytes (place i) = ap (λ (n : ℕ). n % 65536) is ∙ low_word bytes are (place i) in (
      λ none. (let both = or_none seen next none in each_more (λ k. word_at bytes (place k) ≡ 0) i (before.0 both.0) (sym low ∙ both.1)),
      λ all. none_or seen next (before.1 (λ k less. all k (omega (arith, less)))) (low ∙ all i (omega arith)),
    )

-- the least count is above 0 where each is
pub least_more : (f : ℕ → ℕ) (i least next found : ℕ) → next ≡ f i → found ≡ min least next → (0 < least) ↔ ((k : ℕ) → k < i → 0 < f k)
    → (0 < found) ↔ ((k : ℕ) → k < i + 1 → 0 < f k)
least_more f i least next found here is before = (
  λ some. each_more (λ k. 0 < f k) i (before.0 (omega (arith, some, is))) (omega (arith, some, is, here)),
  λ all.
      let rest : 0 < least = before.1 (λ k less. all k (omega (arith, less))) in
      let last : 0 < f i = all i (omega arith) in
      omega (arith, rest, last, here, is),
)

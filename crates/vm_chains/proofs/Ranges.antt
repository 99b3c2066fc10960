-- Numbers that are gone through one by one.
use Rattle.std.proofs.Common.{◌≡◌, ℕ, suc, ◌+◌, ◌-◌, ◌<◌, ◌≤◌, [], ◌∷◌, ap, arith}
use Rattle.std.specs.List.{range_with_len}

pub range_next : (i n : ℕ) → i < n → range_with_len i (n - i) ≡ i ∷ range_with_len (i + 1) (n - (i + 1))
range_next i n within =
    let e : n - i ≡ suc (n - (i + 1)) = omega arith in ap (λ (k : ℕ). range_with_len i k) e

pub range_done : (i n : ℕ) → n ≤ i → range_with_len i (n - i) ≡ []
range_done i n past =
    let e : n - i ≡ 0 = omega arith in ap (λ (k : ℕ). range_with_len i k) e

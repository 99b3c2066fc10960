use Rattle.std.proofs.Common.{◌≡◌, ◌+◌, ◌-◌, ℕ, List, length, get_or, refl, sym, ap, ◌∙◌, arith}
use Rattle.large_bodies.proofs.CommonParts.{back_more, one_here}
use Rattle.large_bodies.proofs.differences.common_back.Goals as goal

before : (xs : List ℕ) (n : ℕ) → get_or xs (length xs - (n + 1)) 0 ≡ get_or xs (length xs - n - 1) 0
before xs n = ap (λ (i : ℕ). get_or xs i 0) (let same : length xs - (n + 1) ≡ length xs - n - 1 = omega arith in same)

pub loop-n-preserved : goal.loop-n-preserved
loop-n-preserved c =
    let old : List ℕ = c.args.old.now in let new : List ℕ = c.args.new.now in
    let n : ℕ = c.loop-n.n in
    back_more old new n 1 (n + 1) c.loop-n.invariant
    (one_here old new (length old - (n + 1)) (length new - (n + 1)) (omega arith) (omega arith) (before old n ∙ c.if-old-n.true ∙ sym (before new n))) refl (omega arith) (omega arith)

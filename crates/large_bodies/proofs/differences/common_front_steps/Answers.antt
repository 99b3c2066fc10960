use Rattle.std.proofs.Common.{◌≡◌, ◌+◌, ◌*◌, ◌-◌, ℕ, List, take, drop, ap, sym, ◌∙◌, arith}
use Rattle.large_bodies.proofs.CommonParts.{front_more, same_by_test}
use Rattle.large_bodies.proofs.differences.common_front_steps.Goals as goal

pub loop-k-preserved : goal.loop-k-preserved
loop-k-preserved c =
    let old : List ℕ = c.args.old.now in let new : List ℕ = c.args.new.now in
    let n : ℕ = c.loop-k.k * 64 in
    let step : n + 64 - n ≡ 64 = omega arith in
    let same : take (n + 64 - n) (drop n old) ≡ take (n + 64 - n) (drop n new) = same_by_test (take (n + 64 - n) (drop n old)) (take (n + 64 - n) (drop n new)) c.ne.result c.ne.ensures c.if-ne.false in
    front_more old new n 64 ((c.loop-k.k + 1) * 64) c.loop-k.invariant
    (ap (λ (j : ℕ). take j (drop n old)) (sym step) ∙ same ∙ ap (λ (j : ℕ). take j (drop n new)) step) (omega arith) (omega arith) (omega arith)

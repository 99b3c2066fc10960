use Rattle.std.proofs.Common.{◌≡◌, ◌≤◌, ◌+◌, ◌*◌, ◌-◌, ℕ, List, length, take, drop, refl, sym, ◌∙◌, arith}
use Rattle.large_bodies.proofs.CommonParts.{back_more, same_by_test}
use Rattle.large_bodies.proofs.differences.common_back_steps.Goals as goal

-- the last bytes of a part that ends at a place
ending : (xs : List ℕ) (e a : ℕ) → e - 64 ≡ a → e - a ≡ 64 → take (e - (e - 64)) (drop (e - 64) xs) ≡ take 64 (drop a xs)
ending xs e a begins long = rw begins (rw long refl)

pub loop-k-preserved : goal.loop-k-preserved
loop-k-preserved c =
    let old : List ℕ = c.args.old.now in let new : List ℕ = c.args.new.now in
    let n : ℕ = c.loop-k.k * 64 in let m : ℕ = (c.loop-k.k + 1) * 64 in
    let in_old : m ≤ length old = omega arith in let in_new : m ≤ length new = omega arith in
    let x : ℕ = length old - n in let y : ℕ = length new - n in
    let same : take (x - (x - 64)) (drop (x - 64) old) ≡ take (y - (y - 64)) (drop (y - 64) new) =
    same_by_test (take (x - (x - 64)) (drop (x - 64) old)) (take (y - (y - 64)) (drop (y - 64) new)) c.ne.result c.ne.ensures c.if-ne.false in
    back_more old new n 64 m c.loop-k.invariant
    (sym (ending old x (length old - m) (omega arith) (omega arith)) ∙ same ∙ ending new y (length new - m) (omega arith) (omega arith)) (omega arith) in_old in_new

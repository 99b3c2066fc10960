use Rattle.std.proofs.Common.{◌+◌, ℕ, List, refl, arith}
use Rattle.large_bodies.proofs.CommonParts.{front_more, one_here}
use Rattle.large_bodies.proofs.differences.common_front.Goals as goal

pub loop-n-preserved : goal.loop-n-preserved
loop-n-preserved c =
    let old : List ℕ = c.args.old.now in let new : List ℕ = c.args.new.now in
    let n : ℕ = c.loop-n.n in
    front_more old new n 1 (n + 1) c.loop-n.invariant (one_here old new n n (omega arith) (omega arith) c.if-old-n.true) refl (omega arith) (omega arith)

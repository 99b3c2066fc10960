use Rattle.std.proofs.Common.{ℕ, ap, refl, get_or, arith}
use Rattle.lmem_heap.proofs.EditLemmas.{slid_is}
use Rattle.lmem_heap.proofs.words.slide.Goals as goal

pub returns-then-p-q : goal.returns-then-p-q
returns-then-p-q c = slid_is c.args.region.now c.slide.new.self c.args.p c.args.q c.args.n c.slide.ensures (omega arith) (omega arith)

pub returns-else-p-q : goal.returns-else-p-q
returns-else-p-q c = let same = c.if-p-q.false in record {
  long = refl;
  moved = λ k l. ap (λ (m : ℕ). get_or c.args.region.now m 0) (omega arith);
  before = λ k l. refl;
  behind = λ k l. refl;
}

use Rattle.std.proofs.Common.{arith}
use Rattle.lmem_heap.proofs.EditLemmas.{zeroed_is}
use Rattle.lmem_heap.proofs.words.zero.Goals as goal

pub returns : goal.returns
returns c = zeroed_is c.args.region.now c.zero.new.self c.args.p c.args.n c.zero.ensures (omega arith)

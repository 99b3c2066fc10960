use Rattle.std.proofs.Common.{arith}
use Rattle.lmem_heap.proofs.EditLemmas.{set_is}
use Rattle.lmem_heap.proofs.words.set_word.Goals as goal

pub returns : goal.returns
returns c = set_is c.args.region.now c.set_word.new.self c.args.p c.args.v c.set_word.ensures (omega arith) c.requires.small

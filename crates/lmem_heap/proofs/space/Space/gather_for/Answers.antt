use Rattle.std.proofs.Common.{arith}
use Rattle.lmem_heap.proofs.EntryLemmas.{total_small}
use Rattle.lmem_heap.proofs.space.Space.gather_for.Goals as goal

pub overflow_sub-self : goal.overflow_sub-self
overflow_sub-self c = let k = c.requires.well_formed in omega (arith, total_small c.args.self.now k.pieces k.free k.held)

pub overflow_sub-self-2 : goal.overflow_sub-self-2
overflow_sub-self-2 c = let k = c.requires.well_formed in omega (arith, total_small c.args.self.now k.pieces k.free k.held)

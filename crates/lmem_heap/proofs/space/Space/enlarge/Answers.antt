use Rattle.std.proofs.Common.{arith}
use Rattle.lmem_heap.proofs.EntryLemmas.{size_ends}
use Rattle.lmem_heap.proofs.space.Space.enlarge.Goals as goal

pub find_next-requires-clause-small : goal.find_next-requires-clause-small
find_next-requires-clause-small c = omega (arith, c.requires.fits, size_ends c.requires.well_formed c.args.i c.requires.slot c.requires.live)

use Rattle.std.proofs.Common.{arith}
use Rattle.lmem_heap.proofs.EntryLemmas.{size_ends}
use Rattle.lmem_heap.proofs.space.Space.resize.Goals as goal

pub piece_space-requires : goal.piece_space-requires
piece_space-requires c = omega (arith, c.requires.fits, size_ends c.requires.well_formed c.args.i c.requires.slot c.requires.live)

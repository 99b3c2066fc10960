use Rattle.std.proofs.Common.{◌+◌, arith}
use Rattle.lmem_heap.proofs.FreeListLemmas.{linked_bounds}
use Rattle.lmem_heap.proofs.space.Space.find_next.Goals as goal

pub word_in-head-requires : goal.word_in-head-requires
word_in-head-requires c = let b = linked_bounds c.args.self.now c.in_ok-prev.prev (c.live_piece-p.result.place + c.piece_space.result) c.in_ok-prev.ensures in omega (arith, b.1)

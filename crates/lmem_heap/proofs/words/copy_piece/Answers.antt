use Rattle.lmem_heap.proofs.EditLemmas.{copied_is}
use Rattle.lmem_heap.proofs.words.copy_piece.Goals as goal

pub returns : goal.returns
returns c = copied_is c.args.region.now c.slide.new.region c.zero.new.region c.args.p c.args.q c.args.size c.args.n c.requires.more c.slide.ensures c.zero.ensures

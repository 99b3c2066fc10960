use Rattle.std.proofs.Common.{refl}
use Rattle.lmem_heap.proofs.ThreadingLemmas.{threaded_is}
use Rattle.lmem_heap.proofs.compaction.threading.thread.Goals as goal

pub returns : goal.returns
returns c = threaded_is c.args.region.now c.set_word.new.region c.set_entry.new.region c.args.i c.args.p c.args.v c.args.e _ c.set_word.ensures c.set_entry.ensures refl c.requires.slot

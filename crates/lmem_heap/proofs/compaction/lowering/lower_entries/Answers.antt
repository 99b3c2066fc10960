use Rattle.lmem_heap.proofs.EditLemmas.{lowering_next}
use Rattle.lmem_heap.proofs.compaction.lowering.lower_entries.Goals as goal

pub loop-i-preserved : goal.loop-i-preserved
loop-i-preserved c = lowering_next c.args.region.now c.loop-i.region c.lower_entry.new.region c.args.t c.args.m c.args.by c.loop-i.i c.loop-i-test.true c.loop-i.invariant c.lower_entry.ensures

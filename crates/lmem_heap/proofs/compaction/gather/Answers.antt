use Rattle.std.proofs.Common.{arith}
use Rattle.lmem_heap.proofs.PackingLemmas.{gap_whole, swapped_low, gathered}
use Rattle.lmem_heap.proofs.compaction.gather.Goals as goal

pub thread_all-requires : goal.thread_all-requires
thread_all-requires c = let h = c.requires.pieces in (h.0, h.1)

pub pack-requires : goal.pack-requires
pack-requires c =
    let h = c.requires.pieces in
    (h.0, swapped_low c.args.region.now c.args.t c.args.low c.args.total h.0 h.1 h.2 c.thread_all.new.region (c.thread_all.ensures h.0 h.1))

pub set_word-requires-clause-within : goal.set_word-requires-clause-within
set_word-requires-clause-within c = let h = c.requires.pieces in omega (arith, c.requires.some, gap_whole c.args.region.now c.args.t c.args.low c.args.total h.0 h.1 h.2)

pub set_word-requires-clause-long : goal.set_word-requires-clause-long
set_word-requires-clause-long c =
    let h = c.requires.pieces in
    (c.pack.ensures h.0 (swapped_low c.args.region.now c.args.t c.args.low c.args.total h.0 h.1 h.2 c.thread_all.new.region (c.thread_all.ensures h.0 h.1))).long

pub returns-clause-gathered : goal.returns-clause-gathered
returns-clause-gathered c = λ cs h count. let given = c.thread_all.ensures cs h in
    gathered c.args.region.now c.args.t c.args.low c.args.total cs h count c.thread_all.new.region c.pack.new.region c.set_word.new.region c.requires.some given
    (c.pack.ensures cs (swapped_low c.args.region.now c.args.t c.args.low c.args.total cs h count c.thread_all.new.region given)) c.set_word.ensures

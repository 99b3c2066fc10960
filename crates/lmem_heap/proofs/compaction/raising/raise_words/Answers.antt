use Rattle.std.proofs.Common.{◌*◌, ◌+◌, ◌-◌, arith}
use Rattle.lmem_heap.proofs.RaisingLemmas.{raised_next}
use Rattle.lmem_heap.proofs.compaction.raising.raise_words.Goals as goal

pub loop-i-preserved : goal.loop-i-preserved
loop-i-preserved c =
    let l = c.loop-i in
    raised_next c.args.table.now l.table c.raise_word.new.word l.i (2 * l.i + 2 - 2 * l.i) c.args.from (c.args.from + c.args.span + 1) c.args.by l.invariant (omega (arith, c.loop-i-test.true)) (omega arith) c.raise_word.ensures.long c.raise_word.ensures.raised

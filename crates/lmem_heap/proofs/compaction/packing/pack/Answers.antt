use Rattle.std.proofs.Common.{arith}
use Rattle.lmem_heap.proofs.PackingLemmas.{walk_starts, walk_ends, free_step, turn_within, turn_low, turn_ready, turn_moving}
use Rattle.lmem_heap.proofs.compaction.packing.pack.Goals as goal

pub loop-p-init : goal.loop-p-init
loop-p-init c = λ cs h. walk_starts c.args.region.now c.args.low c.args.target cs h.long h.lies h.points h.shaped

pub word_in-head-requires : goal.word_in-head-requires
word_in-head-requires c = turn_within c.args.region.now c.args.low c.args.target c.requires.0 c.loop-p.region c.loop-p.p c.loop-p.q (c.loop-p.invariant c.requires.0 c.requires.1) c.loop-p-test.true

pub loop-p-smaller-then-head-eq1 : goal.loop-p-smaller-then-head-eq1
loop-p-smaller-then-head-eq1 c =
    let s = free_step c.args.region.now c.args.low c.args.target c.requires.0 c.loop-p.region c.loop-p.p c.loop-p.q (c.loop-p.invariant c.requires.0 c.requires.1) c.word_in-head.result c.word_in-head.ensures.value c.loop-p-test.true c.if-head-eq1.true in
    omega (arith, s.0, s.1)

pub loop-p-preserved-then-head-eq1 : goal.loop-p-preserved-then-head-eq1
loop-p-preserved-then-head-eq1 c = λ cs h.
    (free_step c.args.region.now c.args.low c.args.target cs c.loop-p.region c.loop-p.p c.loop-p.q (c.loop-p.invariant cs h) c.word_in-head.result c.word_in-head.ensures.value c.loop-p-test.true c.if-head-eq1.true).2

pub overflow_sub-q : goal.overflow_sub-q
overflow_sub-q c = omega (arith, turn_low c.args.region.now c.args.low c.args.target c.requires.0 c.loop-p.region c.loop-p.p c.loop-p.q (c.loop-p.invariant c.requires.0 c.requires.1))

pub thread_run-end-requires : goal.thread_run-end-requires
thread_run-end-requires c =
    let w = c.loop-p.invariant c.requires.0 c.requires.1 in
    (w.rest, turn_ready c.args.region.now c.args.low c.args.target c.requires.0 c.loop-p.region c.loop-p.p c.loop-p.q w c.requires.1)

pub overflow_sub-end : goal.overflow_sub-end
overflow_sub-end c =
    let m = turn_moving c.args.region.now c.args.low c.args.target c.requires.0 c.loop-p.region c.loop-p.p c.loop-p.q (c.loop-p.invariant c.requires.0 c.requires.1) c.requires.1 c.word_in-head.result c.word_in-head.ensures.value c.loop-p-test.true c.if-head-eq1.false c.thread_run-end.new.region c.thread_run-end.result c.thread_run-end.ensures.run c.thread_run-end.ensures.stops in
    omega (arith, m.more)

pub slide-requires-clause-source : goal.slide-requires-clause-source
slide-requires-clause-source c =
    let m = turn_moving c.args.region.now c.args.low c.args.target c.requires.0 c.loop-p.region c.loop-p.p c.loop-p.q (c.loop-p.invariant c.requires.0 c.requires.1) c.requires.1 c.word_in-head.result c.word_in-head.ensures.value c.loop-p-test.true c.if-head-eq1.false c.thread_run-end.new.region c.thread_run-end.result c.thread_run-end.ensures.run c.thread_run-end.ensures.stops in
    omega (arith, m.within, m.more)

pub slide-requires-clause-target : goal.slide-requires-clause-target
slide-requires-clause-target c =
    let m = turn_moving c.args.region.now c.args.low c.args.target c.requires.0 c.loop-p.region c.loop-p.p c.loop-p.q (c.loop-p.invariant c.requires.0 c.requires.1) c.requires.1 c.word_in-head.result c.word_in-head.ensures.value c.loop-p-test.true c.if-head-eq1.false c.thread_run-end.new.region c.thread_run-end.result c.thread_run-end.ensures.run c.thread_run-end.ensures.stops in
    omega (arith, m.within, m.behind, m.more)

pub overflow_sub-q-else-head-eq1 : goal.overflow_sub-q-else-head-eq1
overflow_sub-q-else-head-eq1 c =
    let m = turn_moving c.args.region.now c.args.low c.args.target c.requires.0 c.loop-p.region c.loop-p.p c.loop-p.q (c.loop-p.invariant c.requires.0 c.requires.1) c.requires.1 c.word_in-head.result c.word_in-head.ensures.value c.loop-p-test.true c.if-head-eq1.false c.thread_run-end.new.region c.thread_run-end.result c.thread_run-end.ensures.run c.thread_run-end.ensures.stops in
    omega (arith, m.more)

pub loop-p-smaller : goal.loop-p-smaller
loop-p-smaller c =
    let m = turn_moving c.args.region.now c.args.low c.args.target c.requires.0 c.loop-p.region c.loop-p.p c.loop-p.q (c.loop-p.invariant c.requires.0 c.requires.1) c.requires.1 c.word_in-head.result c.word_in-head.ensures.value c.loop-p-test.true c.if-head-eq1.false c.thread_run-end.new.region c.thread_run-end.result c.thread_run-end.ensures.run c.thread_run-end.ensures.stops in
    omega (arith, m.within, m.more)

pub slide-requires-clause-long : goal.slide-requires-clause-long
slide-requires-clause-long c =
    (turn_moving c.args.region.now c.args.low c.args.target c.requires.0 c.loop-p.region c.loop-p.p c.loop-p.q (c.loop-p.invariant c.requires.0 c.requires.1) c.requires.1 c.word_in-head.result c.word_in-head.ensures.value c.loop-p-test.true c.if-head-eq1.false c.thread_run-end.new.region c.thread_run-end.result c.thread_run-end.ensures.run c.thread_run-end.ensures.stops).long

pub loop-p-preserved : goal.loop-p-preserved
loop-p-preserved c = λ cs h.
    let m = turn_moving c.args.region.now c.args.low c.args.target cs c.loop-p.region c.loop-p.p c.loop-p.q (c.loop-p.invariant cs h) h c.word_in-head.result c.word_in-head.ensures.value c.loop-p-test.true c.if-head-eq1.false c.thread_run-end.new.region c.thread_run-end.result c.thread_run-end.ensures.run c.thread_run-end.ensures.stops in
    m.next c.slide.new.region c.slide.ensures

pub returns : goal.returns
returns c = λ cs h. walk_ends c.args.region.now c.args.low c.args.target cs c.loop-p.region c.loop-p.p c.loop-p.q (c.loop-p.invariant cs h) c.loop-p-test.false

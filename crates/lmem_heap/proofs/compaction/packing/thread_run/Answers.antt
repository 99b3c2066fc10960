use Rattle.std.proofs.Common.{arith}
use Rattle.lmem_heap.proofs.PackingLemmas.{run_starts, run_within, run_turn}
use Rattle.lmem_heap.proofs.compaction.packing.thread_run.Goals as goal

pub word_in-head-requires : goal.word_in-head-requires
word_in-head-requires c = run_within c.args.region.now c.args.start c.args.target c.requires.0 c.requires.1 c.loop-p.region c.loop-p.p (c.loop-p.invariant c.requires.0 c.requires.1) c.loop-p-test.true

pub word_in-n-requires : goal.word_in-n-requires
word_in-n-requires c =
    (run_turn c.args.region.now c.args.start c.args.target c.requires.0 c.requires.1 c.loop-p.region c.loop-p.p (c.loop-p.invariant c.requires.0 c.requires.1) c.word_in-head.result c.word_in-head.ensures.value c.loop-p-test.true c.if-head-eq1.false).read

pub slot_at-requires : goal.slot_at-requires
slot_at-requires c =
    (run_turn c.args.region.now c.args.start c.args.target c.requires.0 c.requires.1 c.loop-p.region c.loop-p.p (c.loop-p.invariant c.requires.0 c.requires.1) c.word_in-head.result c.word_in-head.ensures.value c.loop-p-test.true c.if-head-eq1.false).high

pub thread-requires-clause-slot : goal.thread-requires-clause-slot
thread-requires-clause-slot c =
    rw c.slot_at.ensures ((run_turn c.args.region.now c.args.start c.args.target c.requires.0 c.requires.1 c.loop-p.region c.loop-p.p (c.loop-p.invariant c.requires.0 c.requires.1) c.word_in-head.result c.word_in-head.ensures.value c.loop-p-test.true c.if-head-eq1.false).below)

pub thread-requires-clause-within : goal.thread-requires-clause-within
thread-requires-clause-within c = run_within c.args.region.now c.args.start c.args.target c.requires.0 c.requires.1 c.loop-p.region c.loop-p.p (c.loop-p.invariant c.requires.0 c.requires.1) c.loop-p-test.true

pub thread-requires-clause-word : goal.thread-requires-clause-word
thread-requires-clause-word c =
    let room = (run_turn c.args.region.now c.args.start c.args.target c.requires.0 c.requires.1 c.loop-p.region c.loop-p.p (c.loop-p.invariant c.requires.0 c.requires.1) c.word_in-head.result c.word_in-head.ensures.value c.loop-p-test.true c.if-head-eq1.false).room in
    omega arith

pub overflow_sub-p : goal.overflow_sub-p
overflow_sub-p c =
    let t = run_turn c.args.region.now c.args.start c.args.target c.requires.0 c.requires.1 c.loop-p.region c.loop-p.p (c.loop-p.invariant c.requires.0 c.requires.1) c.word_in-head.result c.word_in-head.ensures.value c.loop-p-test.true c.if-head-eq1.false in
    omega (arith, t.ahead)

pub loop-p-init : goal.loop-p-init
loop-p-init c = λ cs h. run_starts c.args.region.now c.args.start c.args.target cs h

pub loop-p-preserved : goal.loop-p-preserved
loop-p-preserved c = λ cs h.
    rw c.piece_space-p.ensures ((run_turn c.args.region.now c.args.start c.args.target cs h c.loop-p.region c.loop-p.p (c.loop-p.invariant cs h) c.word_in-head.result c.word_in-head.ensures.value c.loop-p-test.true c.if-head-eq1.false).next
    c.word_in-n.result c.thread.new.region c.word_in-n.ensures.value (rw c.slot_at.ensures at c.thread.ensures))

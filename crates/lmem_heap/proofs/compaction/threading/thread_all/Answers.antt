use Rattle.std.proofs.Common.{ℕ, ◌+◌, ◌≤◌, List, sym, subst, arith}
use Rattle.lmem_heap.proofs.PieceLemmas.{lies_end}
use Rattle.lmem_heap.specs.Pieces.{size_head, entry}
use Rattle.lmem_heap.proofs.ThreadingLemmas.{IsThreading, threading_starts, threading_ends, thread_live, thread_none}
use Rattle.lmem_heap.proofs.compaction.threading.thread_all.Goals as goal
use Rattle.lmem_heap.proofs.compaction.threading.thread_all.Goals.{then-p-gt1, else-p-gt1}

pub loop-i-init : goal.loop-i-init
loop-i-init c = λ cs h. threading_starts c.args.region.now c.args.t c.args.low cs h

pub entry-p-requires : goal.entry-p-requires
entry-p-requires c = omega (arith, c.requires.1.table, lies_end size_head c.args.region.now c.args.low c.requires.0 65520 c.requires.1.lies)

pub word_in-n-requires : goal.word_in-n-requires
word_in-n-requires c = (thread_live c.args.region.now c.args.t c.args.low c.requires.0 c.requires.1 c.loop-i.region c.loop-i.i (c.loop-i.invariant c.requires.0 c.requires.1) c.entry-p.result c.entry-p.ensures.value c.loop-i-test.true c.if-p-gt1.true).within

pub thread-requires-clause-slot : goal.thread-requires-clause-slot
thread-requires-clause-slot c = (thread_live c.args.region.now c.args.t c.args.low c.requires.0 c.requires.1 c.loop-i.region c.loop-i.i (c.loop-i.invariant c.requires.0 c.requires.1) c.entry-p.result c.entry-p.ensures.value c.loop-i-test.true c.if-p-gt1.true).below

pub thread-requires-clause-within : goal.thread-requires-clause-within
thread-requires-clause-within c = (thread_live c.args.region.now c.args.t c.args.low c.requires.0 c.requires.1 c.loop-i.region c.loop-i.i (c.loop-i.invariant c.requires.0 c.requires.1) c.entry-p.result c.entry-p.ensures.value c.loop-i-test.true c.if-p-gt1.true).within

pub thread-requires-clause-value : goal.thread-requires-clause-value
thread-requires-clause-value c = omega (arith, c.requires.1.table, lies_end size_head c.args.region.now c.args.low c.requires.0 65520 c.requires.1.lies)

pub loop-i-preserved : goal.loop-i-preserved
loop-i-preserved c = λ cs h.
    elim c.if-p-gt1.branch [
      | then-p-gt1 w ↦
          let live = thread_live c.args.region.now c.args.t c.args.low cs h c.loop-i.region c.loop-i.i (c.loop-i.invariant cs h) c.entry-p.result c.entry-p.ensures.value c.loop-i-test.true w.if-p-gt1.true in
          let done = live.next w.word_in-n.result w.thread.new.region w.word_in-n.ensures.value (rw w.entry_at.ensures at w.thread.ensures) in
          subst (λ (ys : List ℕ). IsThreading c.args.region.now ys c.args.t c.args.low cs (c.loop-i.i + 1)) (sym w.region-is) done
      | else-p-gt1 w ↦
          let dead : entry c.loop-i.region c.loop-i.i ≤ 1 = omega (arith, c.entry-p.ensures.value, w.if-p-gt1.false) in
          let done = thread_none c.args.region.now c.args.t c.args.low cs h c.loop-i.region c.loop-i.i (c.loop-i.invariant cs h) dead in
          subst (λ (ys : List ℕ). IsThreading c.args.region.now ys c.args.t c.args.low cs (c.loop-i.i + 1)) (sym w.region-is) done
    ]

pub returns : goal.returns
returns c = λ cs h. threading_ends c.args.region.now c.args.t c.args.low cs h c.loop-i.region c.loop-i.i (c.loop-i.invariant cs h) (omega arith)

pub entry_at-requires : goal.entry_at-requires
entry_at-requires c = omega (arith, c.requires.1.table, lies_end size_head c.args.region.now c.args.low c.requires.0 65520 c.requires.1.lies)

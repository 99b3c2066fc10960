use Rattle.std.proofs.Common.{◌<◌, refl, arith}
use Rattle.lmem_heap.specs.Pieces.{entry}
use Rattle.lmem_heap.proofs.EditLemmas.{entry_lowered, entry_left}
use Rattle.lmem_heap.proofs.compaction.lowering.lower_entry.Goals as goal
use Rattle.lmem_heap.proofs.compaction.lowering.lower_entry.Goals.{else-e-gt1-via-then-e-gt1+else-e-m, else-e-gt1-via-else-e-gt1}

pub overflow_sub-e : goal.overflow_sub-e
overflow_sub-e c =
    let is = c.entry-e.ensures.value in
    let live : 1 < entry c.args.region.now c.args.i = omega (arith, c.if-e-gt1.true) in
    omega (arith, c.requires.enough live)

pub returns-then-e-m : goal.returns-then-e-m
returns-then-e-m c =
    let is = c.entry-e.ensures.value in
    let live : 1 < entry c.args.region.now c.args.i = omega (arith, c.if-e-gt1.true) in
    entry_lowered c.args.region.now c.set_entry.new.region c.args.i c.args.m c.args.by c.entry-e.result _ is (omega (arith, c.requires.enough live)) c.if-e-gt1.true c.if-e-m.true c.set_entry.ensures refl

pub returns-else-e-gt1 : goal.returns-else-e-gt1
returns-else-e-gt1 c =
    let is = c.entry-e.ensures.value in
    elim c.else-e-gt1.branch [
      | else-e-gt1-via-then-e-gt1+else-e-m w ↦ entry_left c.args.region.now c.args.i c.args.m c.args.by c.entry-e.result is (λ a b. omega (arith, w.if-e-m.false)) c.requires.some
      | else-e-gt1-via-else-e-gt1 w ↦ entry_left c.args.region.now c.args.i c.args.m c.args.by c.entry-e.result is (λ a b. omega (arith, w.if-e-gt1.false)) c.requires.some
    ]

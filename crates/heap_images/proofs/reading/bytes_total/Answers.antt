use Rattle.std.proofs.Common.{arith, ◌∙◌}
use Rattle.heap_images.proofs.PackedLemmas.{counted, passed}
use Rattle.heap_images.proofs.reading.bytes_total.Goals as goal
use Rattle.heap_images.proofs.reading.bytes_total.Goals.{then-size, else-size}

pub loop-k-preserved : goal.loop-k-preserved
loop-k-preserved c = elim c.if-size.branch [
  | then-size w ↦ (w.sum-is ∙ counted c.args.rest.now c.loop-k.k c.loop-k.sum c.size_word-size.result c.loop-k.invariant.0 c.size_word-size.ensures.value w.if-size.true, omega arith)
  | else-size w ↦ (w.sum-is ∙ passed c.args.rest.now c.loop-k.k c.loop-k.sum c.size_word-size.result c.loop-k.invariant.0 c.size_word-size.ensures.value w.if-size.false, omega arith)
]

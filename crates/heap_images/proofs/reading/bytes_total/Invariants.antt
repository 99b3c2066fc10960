use Rattle.std.proofs.Common.{◌≡◌, ◌*◌, ◌≤◌}
use Rattle.heap_images.specs.Packed.{packed_words, total}
use Rattle.heap_images.proofs.reading.bytes_total.Given as goal

abbrev pub invariant-loop-k : goal.invariant-loop-k
invariant-loop-k l = (l.sum ≡ total (packed_words l.k l.rest)) × (l.sum ≤ 65535 * l.k)

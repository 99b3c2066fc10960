use Rattle.std.proofs.Common.{◌≡◌, ◌*◌, map}
use Rattle.std.specs.List.{range_with_len}
use Rattle.geos_model.specs.Words.{word_at}
use Rattle.file_map.proofs.heaps.read_sizes.Given as goal

abbrev pub invariant-loop-i : goal.invariant-loop-i
invariant-loop-i l = l.read.items ≡ map (λ i. word_at l.table (2 * i)) (range_with_len 0 l.i)

use Rattle.std.proofs.Common.{◌≡◌, ◌+◌, ◌*◌, ◌≤◌, take}
use Rattle.std.specs.Prelude.{sum_by}
use Rattle.file_map.specs.Heaps.{header, chunk_space}
use Rattle.file_map.proofs.heaps.used.Given as goal

abbrev pub invariant-loop-size : goal.invariant-loop-size
invariant-loop-size l = record {
  sum : l.total ≡ header l.sizes + sum_by chunk_space (take l.size-index l.sizes);
  most : l.total ≤ 200000 + 65540 * l.size-index;
}

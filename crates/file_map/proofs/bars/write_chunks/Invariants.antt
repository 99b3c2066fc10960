use Rattle.std.proofs.Common.{false, ◌*◌, ◌+◌, ◌≤◌, drop}
use Rattle.file_map.specs.Bars.{chunks_drawn}
use Rattle.file_map.specs.Heaps.{header}
use Rattle.file_map.proofs.TextLemmas.{Gone}
use Rattle.file_map.proofs.bars.write_chunks.Given as goal

abbrev pub invariant-loop-entry : goal.invariant-loop-entry
invariant-loop-entry g l = record {
  most : l.at ≤ 200000 + 65540 * l.entry;
  text : Gone (g.W.Write.contents l.initial.writer) (g.W.Write.contents l.writer) (chunks_drawn l.dark l.at l.entry (drop l.entry l.sizes)) (chunks_drawn false (header l.sizes) 0 l.sizes);
}

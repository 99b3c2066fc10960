use Rattle.std.proofs.Common.{take, flat_map, IsTrue}
use Rattle.std.specs.Io.KnownBytes.{Appends}
use Rattle.file_format.specs.Reading.{OnlyReadsStore}
use Rattle.file_map.specs.Heaps.{line_of}
use Rattle.file_map.proofs.drawing.write_heaps.Given as goal

abbrev pub invariant-loop-part : goal.invariant-loop-part
invariant-loop-part g l = record {
  looks : OnlyReadsStore (g.S.Store.facts l.initial.store) (g.S.Store.facts l.store);
  text : IsTrue (g.S.Store.facts l.initial.store).honest
      → Appends (g.W.Write.contents l.initial.writer) (g.W.Write.contents l.writer) (flat_map (line_of (g.S.Store.facts l.initial.store).content) (take l.part-index l.parts));
}

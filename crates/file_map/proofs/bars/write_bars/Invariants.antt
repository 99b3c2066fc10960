use Rattle.std.proofs.Common.{◌*◌, ◌+◌, ◌≤◌, drop, IsTrue}
use Rattle.file_format.specs.Reading.{OnlyReadsStore}
use Rattle.file_map.specs.Bars.{bars_drawn}
use Rattle.file_map.proofs.TextLemmas.{Gone}
use Rattle.file_map.proofs.bars.write_bars.Given as goal

abbrev pub invariant-loop-part : goal.invariant-loop-part
invariant-loop-part g l = record {
  looks : OnlyReadsStore (g.S.Store.facts l.initial.store) (g.S.Store.facts l.store);
  most : l.y ≤ l.top + 34 * l.part-index;
  text : IsTrue (g.S.Store.facts l.initial.store).honest
      → Gone (g.W.Write.contents l.initial.writer) (g.W.Write.contents l.writer) (bars_drawn (g.S.Store.facts l.initial.store).content l.y (drop l.part-index l.parts))
      (bars_drawn (g.S.Store.facts l.initial.store).content l.top l.parts);
}

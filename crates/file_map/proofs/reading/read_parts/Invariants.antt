use Rattle.std.proofs.Common.{◌≡◌, take, map, IsTrue}
use Rattle.file_format.specs.Reading.{OnlyReadsStore}
use Rattle.file_map.specs.Parts.{part_of_usage}
use Rattle.file_map.proofs.reading.read_parts.Given as goal

abbrev pub invariant-loop-usage : goal.invariant-loop-usage
invariant-loop-usage g l = record {
  looks : OnlyReadsStore (g.S.Store.facts l.initial.store) (g.S.Store.facts l.store);
  extents : map (λ p. p.extent) l.parts.items ≡ map (λ u. u.extent) (take l.usage-index l.usages);
  parts : IsTrue (g.S.Store.facts l.initial.store).honest → l.parts.items ≡ map (part_of_usage (g.S.Store.facts l.initial.store).content) (take l.usage-index l.usages);
}

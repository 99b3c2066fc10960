use Rattle.std.proofs.Common.{◌≡◌, IsTrue, length, map}
use Rattle.std.specs.List.{range_with_len}
use Rattle.file_format.specs.Reading.{OnlyReadsStore}
use Rattle.file_salvage.specs.Entries.{damage_at}
use Rattle.file_salvage.proofs.entries.damages.Given as goal

abbrev pub invariant-loop-i : goal.invariant-loop-i
invariant-loop-i g l = record {
  reads : OnlyReadsStore (g.S.Store.facts l.initial.store) (g.S.Store.facts l.store);
  count : length l.found.items ≡ l.i;
  damages : IsTrue (g.S.Store.facts l.initial.store).honest
      → l.found.items ≡ map (damage_at (g.S.Store.facts l.initial.store).content l.listing.file_version l.listing.bytes.now) (range_with_len 0 l.i);
}

use Rattle.std.proofs.Common.{◌≡◌, IsTrue, Some, take}
use Rattle.file_format.specs.File.{blocks_of_entries}
use Rattle.file_format.specs.Reading.{OnlyReadsStore}
use Rattle.document_stat.specs.Counted.{Blocks, IsCount}
use Rattle.document_stat.proofs.documents.count_blocks.Given as goal

-- the blocks so far are counted
abbrev pub invariant-loop-entry : goal.invariant-loop-entry
invariant-loop-entry g l = record {
  looks : OnlyReadsStore (g.S.Store.facts l.fn.store) (g.S.Store.facts l.store);
  counted : IsTrue (g.S.Store.facts l.fn.store).honest
      → (bs : Blocks) × (blocks_of_entries (g.S.Store.facts l.fn.store).content (take l.entry-index l.entries) ≡ Some bs) × IsCount bs l.stat;
}

use Rattle.std.proofs.Common.{◌≤◌, ℕ, IsTrue}
use Rattle.geos_model.specs.Document.{Document, empty_document}
use Rattle.file_format.specs.Reading.{OnlyReadsStore}
use Rattle.document_dump.specs.Changes.{first_progress}
use Rattle.document_dump.specs.Entries.{IsListedAs}
use Rattle.document_dump.proofs.Went.{Went}
use Rattle.document_dump.proofs.entries.write_all_listed.Given as goal

abbrev pub invariant-loop-i : goal.invariant-loop-i
invariant-loop-i g l = record {
  reads : OnlyReadsStore (g.S.Store.facts l.initial.store) (g.S.Store.facts l.store);
  holes : l.progress.holes ≤ l.i;
  went : IsTrue (g.S.Store.facts l.initial.store).honest → (map_block : ℕ) (d : Document) → IsListedAs (g.S.Store.facts l.initial.store).content map_block l.entries d
      → Went empty_document d (first_progress 0) l.progress l.i (g.W.Write.contents l.initial.writer) (g.W.Write.contents l.writer) l.some;
}

use Rattle.std.proofs.Common.{◌≤◌, IsTrue}
use Rattle.document_file.specs.StoredDocuments.{OnlyReadsDocuments}
use Rattle.document_dump.specs.Versions.{new_in, old_in}
use Rattle.document_dump.proofs.Went.{Went}
use Rattle.document_dump.proofs.dumping.write_blocks.Given as goal

abbrev pub invariant-loop-i : goal.invariant-loop-i
invariant-loop-i g l = record {
  reads : OnlyReadsDocuments g.S.Store.facts l.initial.file l.file;
  holes : l.progress.holes ≤ l.i;
  went : IsTrue (g.S.Store.facts l.initial.file.store).honest
      → Went (old_in l.stage l.initial.file) (new_in l.stage l.initial.file) l.initial.progress l.progress l.i (g.W.Write.contents l.initial.writer) (g.W.Write.contents l.writer) l.some;
}

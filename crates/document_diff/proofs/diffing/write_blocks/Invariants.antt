use Rattle.std.proofs.Common.{IsTrue}
use Rattle.document_file.specs.StoredDocuments.{OnlyReadsDocuments}
use Rattle.document_diff.specs.Differences.{compared_at}
use Rattle.document_diff.specs.Diffs.{document_by}
use Rattle.document_diff.proofs.Went.{IsWritten, text_to}
use Rattle.document_diff.proofs.diffing.write_blocks.Given as goal

abbrev pub invariant-loop-i : goal.invariant-loop-i
invariant-loop-i g l = record {
  reads_old : OnlyReadsDocuments g.S.Store.facts l.initial.old l.old;
  reads_new : OnlyReadsDocuments g.T.Store.facts l.initial.new l.new;
  went : IsTrue (g.S.Store.facts l.initial.old.store).honest
      → IsTrue (g.T.Store.facts l.initial.new.store).honest
      → IsWritten (text_to (compared_at (document_by l.version l.initial.old) (document_by l.version l.initial.new)) l.i) (g.W.Write.contents l.initial.writer) (g.W.Write.contents l.writer) l.none;
}

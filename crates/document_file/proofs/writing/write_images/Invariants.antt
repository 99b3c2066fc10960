use Rattle.document_file.proofs.WritingLemmas.{Writes}
use Rattle.document_file.proofs.writing.write_images.Given as goal

abbrev pub invariant-loop-i : goal.invariant-loop-i
invariant-loop-i g l = Writes l.slots l.extents l.puts l.i (g.S.Store.facts l.fn.store) (g.S.Store.facts l.store)

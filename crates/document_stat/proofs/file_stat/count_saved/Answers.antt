use Rattle.std.proofs.Common.{Some, length}
use Rattle.file_format.specs.File.{bytes_in, saved_sum}
use Rattle.file_format.proofs.FileDocuments.{directory_of-some, summed_directory-some}
use Rattle.file_format.specs.Listed.{as_directory}
use Rattle.file_format.proofs.StoredDirectoryLemmas.{directory_formed}
use Rattle.document_stat.proofs.Files.{document_there}
use Rattle.document_stat.proofs.file_stat.count_saved.Goals as goal

pub returns-clause-ok : goal.returns-clause-ok
returns-clause-ok g c = λ so counting.
    let s = c.args.slot.now.slot in
    let file = (g.S.Store.facts c.args.store.now).content in
    let d = as_directory c.args.slot.now.saved in
    let there = (summed_directory-some s.version file (saved_sum s) s.saved d counting.saved).1 in
    let formed = directory_formed s.version (length file) (bytes_in file s.saved) d (directory_of-some s.version file s.saved d there).1 in
    let counted = c.in_ok-count_document.ensures.ok so s.version (length file) formed in
    (counted.0, document_there s.version file (saved_sum s) s.saved d (Some counted.0) counting.saved counted.1, counted.2)

use Rattle.std.proofs.Common.{sym}
use Rattle.document_file.proofs.StoredDocumentsLemmas.{OnlyReadsDocuments-refl}
use Rattle.document_dump.proofs.Steps.{made-gone}
use Rattle.document_dump.proofs.changes.old_change.Goals as goal

pub returns-in-None-clause-reads : goal.returns-in-None-clause-reads
returns-in-None-clause-reads g c = OnlyReadsDocuments-refl g.S.Store.facts c.args.file.now

pub returns-in-None-clause-ok : goal.returns-in-None-clause-ok
returns-in-None-clause-ok g c = λ so.
    let gone = sym c.in-None.ensures.live in
    (made-gone c.args.file.now.saved c.args.file.now.updated c.args.block.0 gone, c.requires.was, gone)

use Rattle.std.proofs.Common.{sym}
use Rattle.document_file.proofs.StoredDocumentsLemmas.{OnlyReadsDocuments-refl}
use Rattle.document_dump.proofs.Steps.{made-gone, made-new}
use Rattle.document_dump.proofs.changes.new_change.Goals as goal

pub returns-in-None-clause-reads : goal.returns-in-None-clause-reads
returns-in-None-clause-reads g c = OnlyReadsDocuments-refl g.S.Store.facts c.args.file.now

pub returns-in-None-clause-ok : goal.returns-in-None-clause-ok
returns-in-None-clause-ok g c = λ so.
    let gone = sym c.in-None.ensures.live in
    (made-gone c.args.file.now.saved c.args.file.now.updated c.args.block.0 gone, c.requires, gone)

pub returns-in_ok-image-in-Some-clause-ok : goal.returns-in_ok-image-in-Some-clause-ok
returns-in_ok-image-in-Some-clause-ok g c = λ so.
    let h = c.args.block.0 in
    let live = sym c.in-Some.ensures.live in
    (made-new c.args.file.now.saved c.args.file.now.updated h c.requires live, sym c.requires, c.in-Some.ensures.attributes, c.reveal_invariant.ensures.updated.bodies so h live, c.in_ok-image-in-Some.ensures.image so)

use Rattle.std.proofs.Common.{sym}
use Rattle.geos_model.specs.Document.{empty_document}
use Rattle.document_file.proofs.StoredDocumentsLemmas.{OnlyReadsDocuments-refl}
use Rattle.document_dump.proofs.Steps.{made-gone, made-new, live-empty}
use Rattle.document_dump.proofs.changes.first_change.Goals as goal

pub returns-in-None-clause-reads : goal.returns-in-None-clause-reads
returns-in-None-clause-reads g c = OnlyReadsDocuments-refl g.S.Store.facts c.args.file.now

pub returns-in-None-clause-ok : goal.returns-in-None-clause-ok
returns-in-None-clause-ok g c = λ so.
    let gone = sym c.in-None.ensures.live in
    (made-gone empty_document c.args.file.now.saved c.args.block.0 gone, live-empty c.args.block.0, gone)

pub returns-in_ok-image-in-Some-clause-ok : goal.returns-in_ok-image-in-Some-clause-ok
returns-in_ok-image-in-Some-clause-ok g c = λ so.
    let h = c.args.block.0 in
    let live = sym c.in-Some.ensures.live in
    (made-new empty_document c.args.file.now.saved h (live-empty h) live, sym (live-empty h), c.in-Some.ensures.attributes, c.reveal_invariant.ensures.saved.bodies so h live, c.in_ok-image-in-Some.ensures.image so)

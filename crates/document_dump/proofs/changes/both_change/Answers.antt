use Rattle.std.proofs.Common.{not, sym, ap, ◌∙◌}
use Rattle.geos_model.specs.Document.{Document, block_at}
use Rattle.geos_model.specs.Image.{image}
use Rattle.document_file.proofs.StoredDocumentsLemmas.{OnlyReadsDocuments-trans}
use Rattle.document_dump.proofs.Stages.{still_honest}
use Rattle.document_dump.proofs.Steps.{made-both}
use Rattle.document_dump.proofs.changes.both_change.Goals as goal

pub returns-in_err-image-clause-reads : goal.returns-in_err-image-clause-reads
returns-in_err-image-clause-reads g c = OnlyReadsDocuments-trans g.S.Store.facts _ _ _ (g.met.S.Store.timely c.args.file.now.store) c.read_saved.ensures.reads c.read_block.ensures.reads

pub returns-then-same-clause-reads : goal.returns-then-same-clause-reads
returns-then-same-clause-reads g c = OnlyReadsDocuments-trans g.S.Store.facts _ _ _ (g.met.S.Store.timely c.args.file.now.store) c.read_saved.ensures.reads c.read_block.ensures.reads

pub returns-clause-reads : goal.returns-clause-reads
returns-clause-reads g c = OnlyReadsDocuments-trans g.S.Store.facts _ _ _ (g.met.S.Store.timely c.args.file.now.store) c.read_saved.ensures.reads c.read_block.ensures.reads

pub returns-then-same-clause-ok : goal.returns-then-same-clause-ok
returns-then-same-clause-ok g c = λ so.
    let h = c.args.block.0 in
    let reads = c.read_saved.ensures.reads in
    let still = still_honest g.S.Store.facts _ _ reads so in
    let former = c.as_slice.ensures.value ∙ c.in_ok-former.ensures.image so in
    let latter = c.as_slice-2.ensures.value ∙ c.in_ok-image.ensures.image still ∙ ap (λ (d : Document). image (block_at d h).body) (reads.updated.same so) in
    let made = made-both c.args.file.now.saved c.args.file.now.updated h _ _ _ c.requires.was c.requires.live former latter c.is_same-same.ensures in
    (made ∙ ap not c.if-same.true, c.requires.was, c.requires.live, c.requires.before, c.requires.after)

pub returns-clause-ok : goal.returns-clause-ok
returns-clause-ok g c = λ so.
    let h = c.args.block.0 in
    let reads = c.read_saved.ensures.reads in
    let still = still_honest g.S.Store.facts _ _ reads so in
    let former = c.as_slice.ensures.value ∙ c.in_ok-former.ensures.image so in
    let image_is = c.in_ok-image.ensures.image still ∙ ap (λ (d : Document). image (block_at d h).body) (reads.updated.same so) in
    let made = made-both c.args.file.now.saved c.args.file.now.updated h _ _ _ c.requires.was c.requires.live former (c.as_slice-2.ensures.value ∙ image_is) c.is_same-same.ensures in
    (made ∙ ap not c.if-same.false, sym c.requires.was, c.requires.after, c.reveal_invariant.ensures.updated.bodies so h c.requires.live, image_is)

use Rattle.std.proofs.Common.{◌++◌, List, ℕ, ap, subst, ◌∙◌}
use Rattle.std.specs.Io.KnownBytes.{Appends}
use Rattle.geos_model.specs.Document.{empty_document}
use Rattle.document_dump.specs.Faults.{IsChangeOf}
use Rattle.document_dump.specs.Lines.{text}
use Rattle.document_dump.specs.Changes.{block_changed}
use Rattle.document_dump.specs.Dumps.{is_some_text}
use Rattle.std.proofs.lemmas.Result.{err_from_is_err_and}
use Rattle.document_dump.proofs.Failing.{refused-part}
use Rattle.document_dump.proofs.Listed.{listed_document}
use Rattle.document_dump.proofs.entries.write_listed.Goals as goal

pub returns-clause-ok : goal.returns-clause-ok
returns-clause-ok g c = λ so map_block d is.
    let pushed = c.in_ok-after.ensures.ok empty_document d (c.in_ok-change.ensures.ok so map_block d is) in
    let t = text (block_changed empty_document d c.args.progress c.args.block.0) in
    let out_is = c.as_slice.ensures.value ∙ pushed.0 ∙ ap (λ (l : List ℕ). l ++ t) c.new-out.ensures.items in
    let sent = c.in_ok-some.ensures.ok in
    (sent.0 ∙ ap is_some_text out_is, pushed.1, subst (λ (l : List ℕ). Appends (g.W.Write.contents c.args.writer.now) (g.W.Write.contents c.send.new.writer) l) out_is sent.1)

pub returns-in_err-after-clause-fails : goal.returns-in_err-after-clause-fails
returns-in_err-after-clause-fails g c =
    let p = err_from_is_err_and c.from_residual-in_err-after.result c.from_residual-in_err-after.ensures.1 in
    rw (p.1, p.2)
    (refused-part (IsChangeOf c.args.block.0 c.in_ok-change.change) (g.S.Store.facts c.args.store.now) (g.S.Store.facts c.listed_change.new.store) _ c.in_err-after.ensures.err
    (λ so. let d = listed_document (g.S.Store.facts c.args.store.now).content 0 c.args.entries.now (c.requires.whole so) in (empty_document, d.0, c.in_ok-change.ensures.ok so 0 d.0 d.1)))

use Rattle.std.proofs.Common.{◌++◌, List, ℕ, ap, subst, ◌∙◌}
use Rattle.std.specs.Io.KnownBytes.{Appends}
use Rattle.document_dump.specs.Faults.{IsChangeOf}
use Rattle.document_dump.specs.Lines.{text}
use Rattle.document_dump.specs.Changes.{block_changed}
use Rattle.document_dump.specs.Dumps.{is_some_text}
use Rattle.document_dump.specs.Versions.{new_in, old_in}
use Rattle.std.proofs.lemmas.Result.{err_from_is_err_and}
use Rattle.document_dump.proofs.Failing.{refused-part}
use Rattle.document_dump.proofs.dumping.write_block.Goals as goal

pub returns-clause-ok : goal.returns-clause-ok
returns-clause-ok g c = λ so.
    let old = old_in c.args.stage c.args.file.now in
    let new = new_in c.args.stage c.args.file.now in
    let pushed = c.in_ok-after.ensures.ok old new (c.in_ok-change.ensures.ok so) in
    let t = text (block_changed old new c.args.progress c.args.block.0) in
    let is = c.as_slice.ensures.value ∙ pushed.0 ∙ ap (λ (l : List ℕ). l ++ t) c.new-out.ensures.items in
    let sent = c.in_ok-some.ensures.ok in
    (sent.0 ∙ ap is_some_text is, pushed.1, subst (λ (l : List ℕ). Appends (g.W.Write.contents c.args.writer.now) (g.W.Write.contents c.send.new.writer) l) is sent.1)

pub returns-in_err-after-clause-fails : goal.returns-in_err-after-clause-fails
returns-in_err-after-clause-fails g c =
    let old = old_in c.args.stage c.args.file.now in
    let new = new_in c.args.stage c.args.file.now in
    let p = err_from_is_err_and c.from_residual-in_err-after.result c.from_residual-in_err-after.ensures.1 in
    rw (p.1, p.2)
    (refused-part (IsChangeOf c.args.block.0 c.in_ok-change.change) (g.S.Store.facts c.args.file.now.store) (g.S.Store.facts c.change_of.new.file.store) _ c.in_err-after.ensures.err
    (λ so. (old, new, c.in_ok-change.ensures.ok so)))

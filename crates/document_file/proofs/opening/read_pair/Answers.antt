use Rattle.std.proofs.Common.{◌≡◌, ℕ, Option, Err, None, ap, sym, ◌∙◌}
use Rattle.std.proofs.lemmas.Result.{err_from_is_err_and}
use Rattle.file_format.specs.File.{saved_sum, summed_document, working_sum}
use Rattle.geos_model.specs.declared.fault.Fault.TheVariants.{Damaged}
use Rattle.file_format.proofs.LooksLemmas.{OnlyReadsStore-trans, held_before}
use Rattle.document_file.proofs.OpenedDirectoryLemmas.{no_saved}
use Rattle.document_file.proofs.opening.read_pair.Goals as goal

pub returns-in_err-saved-clause-looks : goal.returns-in_err-saved-clause-looks
returns-in_err-saved-clause-looks g c = OnlyReadsStore-trans _ _ _ (λ so. g.met.S.Store.timely c.args.store.now so) c.read_document.ensures.looks c.read_saved.ensures.looks

pub returns-clause-looks : goal.returns-clause-looks
returns-clause-looks g c = OnlyReadsStore-trans _ _ _ (λ so. g.met.S.Store.timely c.args.store.now so) c.read_document.ensures.looks c.read_saved.ensures.looks

pub returns-in_err-saved-clause-damaged : goal.returns-in_err-saved-clause-damaged
returns-in_err-saved-clause-damaged g c =
    let p = err_from_is_err_and c.from_residual-in_err-saved.result c.from_residual-in_err-saved.ensures.1 in
    let version = c.args.slot.version in
    rw (p.1, p.2) (λ err so.
    let file = (g.S.Store.facts c.args.store.now).content in
    let was : c.in_err-saved.field-0.0 ≡ Damaged = (cc) in
    no_saved (summed_document version file (working_sum c.args.slot) c.args.slot.working) (summed_document version file (saved_sum c.args.slot) c.args.slot.saved) (held_before (λ f. summed_document version f (saved_sum c.args.slot) c.args.slot.saved ≡ None) _ _ c.read_document.ensures.looks (λ so2. ap (λ (o : Option ℕ). summed_document version (g.S.Store.facts c.read_document.new.store).content o c.args.slot.saved) (sym c.directory_sums-working_sum.ensures.saved) ∙ c.in_err-saved.ensures.damaged (ap (λ f. Err f) was) so2) so))

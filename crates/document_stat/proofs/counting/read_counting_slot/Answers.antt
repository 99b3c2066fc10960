use Rattle.std.proofs.Common.{◌≡◌, ◌∙◌, ℕ, Err, None, Option, Some, ap, sym}
use Rattle.std.proofs.lemmas.Result.{err_from_is_err_and}
use Rattle.file_format.proofs.LooksLemmas.{OnlyReadsStore-trans, held_before}
use Rattle.file_format.specs.File.{saved_sum, summed_directory, working_sum}
use Rattle.file_format.specs.Listed.{as_directory}
use Rattle.document_stat.proofs.Files.{directory_none, refused_by, refused_saved, refused_updated}
use Rattle.document_stat.proofs.counting.read_counting_slot.Goals as goal

pub returns-in_err-updated-clause-looks : goal.returns-in_err-updated-clause-looks
returns-in_err-updated-clause-looks g c = OnlyReadsStore-trans _ _ _ (λ so. g.met.S.Store.timely c.args.store.now so) c.choose_slot.ensures.looks c.read_directory.ensures.looks

pub returns-in_err-updated-clause-err : goal.returns-in_err-updated-clause-err
returns-in_err-updated-clause-err g c =
    let file = (g.S.Store.facts c.args.store.now).content in
    let s = c.in_ok-slot.slot in
    let p = err_from_is_err_and c.from_residual-in_err-updated.result c.from_residual-in_err-updated.ensures.1 in
    rw (p.1, p.2) (λ so.
    refused_by file _ c.in_err-updated.ensures.refusals (λ damaged.
    let none = held_before (λ f. summed_directory s.version f c.working_sum.result s.working ≡ None) _ _ c.choose_slot.ensures.looks (c.in_err-updated.ensures.damaged (ap (λ f. Err f) damaged)) so in
    refused_updated file s (c.in_ok-slot.ensures.ok so) (directory_none s.version file (working_sum s) s.working (ap (λ (w : Option ℕ). summed_directory s.version file w s.working) (sym c.working_sum.ensures) ∙ none))))

pub returns-in_err-saved-clause-looks : goal.returns-in_err-saved-clause-looks
returns-in_err-saved-clause-looks g c =
    OnlyReadsStore-trans _ _ _ (λ so. g.met.S.Store.timely c.args.store.now so)
    (OnlyReadsStore-trans _ _ _ (λ so. g.met.S.Store.timely c.args.store.now so) c.choose_slot.ensures.looks c.read_directory.ensures.looks) c.read_directory-2.ensures.looks

pub returns-in_err-saved-clause-err : goal.returns-in_err-saved-clause-err
returns-in_err-saved-clause-err g c =
    let file = (g.S.Store.facts c.args.store.now).content in
    let s = c.in_ok-slot.slot in
    let looks = OnlyReadsStore-trans _ _ _ (λ so. g.met.S.Store.timely c.args.store.now so) c.choose_slot.ensures.looks c.read_directory.ensures.looks in
    let p = err_from_is_err_and c.from_residual-in_err-saved.result c.from_residual-in_err-saved.ensures.1 in
    rw (p.1, p.2) (λ so.
    refused_by file _ c.in_err-saved.ensures.refusals (λ damaged.
    let none = held_before (λ f. summed_directory s.version f c.saved_sum.result s.saved ≡ None) _ _ looks (c.in_err-saved.ensures.damaged (ap (λ f. Err f) damaged)) so in
    refused_saved file s (c.in_ok-slot.ensures.ok so) (directory_none s.version file (saved_sum s) s.saved (ap (λ (w : Option ℕ). summed_directory s.version file w s.saved) (sym c.saved_sum.ensures) ∙ none))))

pub returns-clause-looks : goal.returns-clause-looks
returns-clause-looks g c =
    OnlyReadsStore-trans _ _ _ (λ so. g.met.S.Store.timely c.args.store.now so)
    (OnlyReadsStore-trans _ _ _ (λ so. g.met.S.Store.timely c.args.store.now so) c.choose_slot.ensures.looks c.read_directory.ensures.looks) c.read_directory-2.ensures.looks

pub returns-clause-ok : goal.returns-clause-ok
returns-clause-ok g c = λ so.
    let s = c.in_ok-slot.slot in
    let file = (g.S.Store.facts c.args.store.now).content in
    let first = c.choose_slot.ensures.looks in
    let both = OnlyReadsStore-trans _ _ _ (λ so. g.met.S.Store.timely c.args.store.now so) first c.read_directory.ensures.looks in
    record {
      chosen = c.in_ok-slot.ensures.ok so;
      updated = ap (λ (w : Option ℕ). summed_directory s.version file w s.working) (sym c.working_sum.ensures)
          ∙ held_before (λ f. summed_directory s.version f c.working_sum.result s.working ≡ Some (as_directory c.in_ok-updated.updated)) _ _ first c.in_ok-updated.ensures.read so;
      saved = ap (λ (w : Option ℕ). summed_directory s.version file w s.saved) (sym c.saved_sum.ensures)
          ∙ held_before (λ f. summed_directory s.version f c.saved_sum.result s.saved ≡ Some (as_directory c.in_ok-saved.saved)) _ _ both c.in_ok-saved.ensures.read so;
    }

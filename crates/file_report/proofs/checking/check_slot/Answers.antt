use Rattle.std.proofs.Common.{rules, ◌≡◌, ◌&&◌, [], Err, arith, inl, inr, refl, sym, subst, ap₂, ◌∙◌}
use Rattle.std.specs.Prelude.{if◌then◌else◌, IsErr}
use Rattle.geos_model.specs.declared.fault.Fault.TheVariants.{Damaged}
use Rattle.file_format.proofs.LooksLemmas.{OnlyReadsStore-trans, held_before}
use Rattle.file_format.specs.Slots.{header_verdict}
use Rattle.file_report.specs.Checked.{IsChecked}
use Rattle.file_report.specs.Findings.{IsSo}
use Rattle.file_report.specs.Reading.{IsSoIn, IsSoOfSlot}
use Rattle.file_report.specs.declared.finding.Named.TheVariants.{Saved}
use Rattle.file_report.proofs.FindingsLemmas.{finds_both, finds_as, finds_length, all_found}
use Rattle.file_report.proofs.SlotLemmas.{err_not_ok, header_pair, pair_stands, none_stands, right_header}
use Rattle.file_report.proofs.checking.check_slot.Goals as goal

pub returns-in-Err-clause-report : goal.returns-in-Err-clause-report
returns-in-Err-clause-report g c so =
    let s = c.args.slot in
    let file = (g.S.Store.facts c.args.store.now).content in
    let is : header_verdict s ≡ Err c.in-Err.fault = search rules in
    let wrong : IsErr (header_verdict s) = subst IsErr (sym is) refl in
    record {
      verdict = sym is ∙ header_pair file s wrong;
      so = all_found (IsSo file s) [] _ (λ k d within. absurd (omega (arith, within))) (finds_as (IsSoOfSlot s) (IsSo file s) _ _ (λ f true_of. true_of file) c.in_ok-findings.ensures.so);
      some = λ err. c.in_ok-findings.ensures.some wrong;
      updated = λ right. absurd (err_not_ok (header_verdict s) wrong right);
      saved = λ right. absurd (err_not_ok (header_verdict s) wrong right);
    }

pub returns-in_err-saved-clause-looks : goal.returns-in_err-saved-clause-looks
returns-in_err-saved-clause-looks g c = OnlyReadsStore-trans _ _ _ (λ so. g.met.S.Store.timely c.args.store.now so) c.check_document.ensures.looks c.check_document-2.ensures.looks

pub returns-clause-looks : goal.returns-clause-looks
returns-clause-looks g c = OnlyReadsStore-trans _ _ _ (λ so. g.met.S.Store.timely c.args.store.now so) c.check_document.ensures.looks c.check_document-2.ensures.looks

pub returns-clause-report : goal.returns-clause-report
returns-clause-report g c so =
    let s = c.args.slot in
    let facts = g.S.Store.facts c.args.store.now in
    let file = facts.content in
    let looks = c.check_document.ensures.looks in
    let right : header_verdict s ≡ right_header = search rules in
    let updated = (c.in_ok-updated.ensures.document so).stands in
    let saved_document = held_before (λ f. IsChecked f s Saved c.in_ok-saved.saved) _ _ looks c.in_ok-saved.ensures.document so in
    let saved = saved_document.stands in
    let later = finds_length _ _ _ c.in_ok-saved.ensures.found in
    record {
      verdict = c.both.ensures ∙ ap₂ (λ a b. if a && b then right_header else Err Damaged) updated saved ∙ sym (pair_stands file s right);
      so = all_found (IsSo file s) [] _ (λ k d within. absurd (omega (arith, within)))
          (finds_both (IsSo file s) _ _ _ (finds_as (IsSoOfSlot s) (IsSo file s) _ _ (λ f true_of. true_of file) c.in_ok-findings.ensures.so)
          (finds_both (IsSo file s) _ _ _ (finds_as (IsSoIn facts s) (IsSo file s) _ _ (λ f true_of. true_of so) c.in_ok-updated.ensures.found)
          (finds_as (IsSoIn (g.S.Store.facts c.check_document.new.store) s) (IsSo file s) _ _ (λ f true_of. held_before (λ bytes. IsSo bytes s f) _ _ looks true_of so) c.in_ok-saved.ensures.found)));
      some = λ err. elim (none_stands c.in_ok-updated.updated.stands c.in_ok-saved.saved.stands (subst IsErr c.both.ensures err)) [
        | inl none ↦ let more = c.in_ok-updated.ensures.some none in omega (arith, more, later)
        | inr none ↦ let more = c.in_ok-saved.ensures.some none in omega (arith, more)
      ];
      updated = λ right. (c.in_ok-updated.ensures.document so).directory;
      saved = λ right. saved_document.directory;
    }

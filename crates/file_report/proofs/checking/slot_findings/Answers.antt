use Rattle.std.proofs.Common.{refl, sym, subst, ◌∙◌}
use Rattle.std.proofs.lemmas.Bool.{eqb-false}
use Rattle.file_report.specs.Findings.{FindsMore}
use Rattle.file_report.specs.Reading.{IsSoOfSlot}
use Rattle.file_report.specs.declared.finding.Finding.TheVariants as finding
use Rattle.file_report.proofs.FindingsLemmas.{finds_both, noted}
use Rattle.file_report.proofs.SlotLemmas.{no_version, no_number}
use Rattle.file_report.proofs.checking.slot_findings.Goals as goal

pub returns-clause-so : goal.returns-clause-so
returns-clause-so c =
    let s = c.args.slot.now in
    let so = IsSoOfSlot s in
    let found : FindsMore so c.new-findings.result.items c.note_unless-4.new.findings.items =
    finds_both _ _ _ _ (noted so _ _ (finding.SlotVersion s.version) _ (λ no file. let none = no_version s.version (sym c.is_version-version.ensures ∙ no) in (refl, none.0, none.1, none.2)) c.in_ok-note_unless.ensures.found)
    (finds_both _ _ _ _ (noted so _ _ finding.SlotZeros _ (λ no file. eqb-false s.reserved 0 no) c.in_ok-note_unless-2.ensures.found)
    (finds_both _ _ _ _ (noted so _ _ finding.SlotSequence _ (λ no file. no_number s.sequence (sym c.is_sequence-numbered.ensures ∙ no)) c.in_ok-note_unless-3.ensures.found)
    (noted so _ _ finding.SlotSum _ (λ no file. sym c.is_sealed-sealed.ensures ∙ no) c.in_ok-note_unless-4.ensures.found))) in
    subst (λ old. FindsMore so old c.note_unless-4.new.findings.items) c.new-findings.ensures.items found

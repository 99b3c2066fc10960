use Rattle.std.proofs.Common.{◌≡◌, false, sym, subst, ◌∙◌}
use Rattle.file_format.specs.File.{is_in_file}
use Rattle.file_report.specs.Reading.{IsSoOf}
use Rattle.file_report.specs.declared.finding.Finding.TheVariants as finding
use Rattle.file_report.proofs.FindingsLemmas.{finds_both, noted}
use Rattle.file_report.proofs.directory.note_place.Goals as goal

pub returns : goal.returns
returns c =
    let so = IsSoOf c.args.file_length c.args.slot.now in
    let e = c.directory_extent-extent.result in
    let at = c.directory_extent-extent.ensures in
    finds_both _ _ _ _
    (noted so _ _ (finding.Outside c.args.name e) _ (λ no file size. (at, subst (λ n. is_in_file c.args.slot.now.version n e ≡ false) size (sym c.is_in_file-inside.ensures ∙ no))) c.in_ok-note_unless.ensures.found)
    (noted so _ _ (finding.NoLength c.args.name e) _ (λ no file size. (at, c.is_directory_length-length.ensures no)) c.in_ok-note_unless-2.ensures.found)

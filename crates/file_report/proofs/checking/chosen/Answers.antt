use Rattle.std.proofs.Common.{Bor, ap, ap₂, ◌∙◌}
use Rattle.file_format.specs.Slots.{chosen_by}
use Rattle.file_report.specs.declared.checking.SlotReport.{SlotReport}
use Rattle.file_report.proofs.StandsLemmas.{chosen_mapped, in_choice}
use Rattle.file_report.proofs.checking.chosen.Goals as goal

pub returns : goal.returns
returns c =
    let seen : Bor SlotReport → SlotReport = λ r. r.now in
    ap (in_choice seen) c.choose.ensures ∙ chosen_mapped seen c.numbered.result c.numbered-2.result ∙ ap₂ chosen_by c.numbered.ensures c.numbered-2.ensures

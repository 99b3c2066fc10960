use Rattle.file_report.proofs.FindingsLemmas.{finds_nothing, finds_both}
use Rattle.file_report.proofs.directory.note_entries.Goals as goal

pub loop-i-init : goal.loop-i-init
loop-i-init c = finds_nothing _ _

pub loop-i-preserved : goal.loop-i-preserved
loop-i-preserved c = finds_both _ _ _ _ c.loop-i.invariant c.in_ok-note_entry.ensures

pub returns : goal.returns
returns c = c.loop-i.invariant

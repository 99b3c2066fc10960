use Rattle.file_report.specs.Findings.{FindsMore, IsSeen}
use Rattle.file_report.proofs.directory.note_entries.Given as goal

abbrev pub invariant-loop-i : goal.invariant-loop-i
invariant-loop-i l = FindsMore (IsSeen l.file_version l.file_length l.bytes l.name) l.fn.findings.items l.findings.items

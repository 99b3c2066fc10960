use Rattle.file_report.proofs.FreeLemmas.{IsPassed}
use Rattle.file_report.proofs.free.free_pages.Given as goal

-- the extents so far are passed
abbrev pub invariant-loop-usage : goal.invariant-loop-usage
invariant-loop-usage l = IsPassed l.usages l.pages l.usage-index l.walk

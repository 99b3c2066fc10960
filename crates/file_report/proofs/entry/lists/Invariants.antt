use Rattle.std.proofs.Common.{ℕ, ◌<◌, ◌≢◌}
use Rattle.file_report.specs.Findings.{handle_at}
use Rattle.file_report.proofs.entry.lists.Given as goal

-- no entry so far has the handle
abbrev pub invariant-loop-i : goal.invariant-loop-i
invariant-loop-i l = (j : ℕ) → j < l.i → handle_at l.bytes j ≢ l.handle

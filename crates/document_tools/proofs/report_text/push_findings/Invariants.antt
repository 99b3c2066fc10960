use Rattle.std.proofs.Common.{◌≡◌, ◌++◌, take, flat_map}
use Rattle.document_tools.specs.Reports.{finding_line}
use Rattle.document_tools.proofs.report_text.push_findings.Given as goal

-- the findings so far are told
abbrev pub invariant-loop-finding : goal.invariant-loop-finding
invariant-loop-finding l = l.out.items ≡ l.fn.out.items ++ flat_map (finding_line l.number) (take l.finding-index l.findings)

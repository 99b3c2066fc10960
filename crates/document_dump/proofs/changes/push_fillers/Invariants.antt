use Rattle.std.proofs.Common.{◌≡◌, ◌++◌, replicate}
use Rattle.document_dump.specs.Lines.{text}
use Rattle.document_dump.specs.Changes.{filler}
use Rattle.document_dump.proofs.changes.push_fillers.Given as goal

abbrev pub invariant-loop : goal.invariant-loop
invariant-loop l = l.out.items ≡ l.fn.out.items ++ text (replicate l.counter filler)

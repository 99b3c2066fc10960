use Rattle.std.proofs.Common.{◌≡◌, take, None}
use Rattle.document_dump.specs.Entries.{entry_with}
use Rattle.document_dump.proofs.entries.entry_with.Given as goal

abbrev pub invariant-loop-entry : goal.invariant-loop-entry
invariant-loop-entry l = entry_with l.block.0 (take l.entry-index l.entries) ≡ None

use Rattle.std.proofs.Common.{◌≡◌, ◌++◌, flat_map}
use Rattle.document_dump.specs.Lines.{text}
use Rattle.document_dump.specs.Changes.{block_freed, blocks_freed}
use Rattle.document_dump.specs.Versions.{new_in, old_in}
use Rattle.document_dump.proofs.Handles.{handles_above}
use Rattle.document_dump.proofs.dumping.push_all_freed.Given as goal

abbrev pub invariant-loop-i : goal.invariant-loop-i
invariant-loop-i g l =
    l.out.items ++ text (flat_map (block_freed (old_in l.stage l.file) (new_in l.stage l.file) l.last) (handles_above l.i))
    ≡ l.fn.out.items ++ text (blocks_freed (old_in l.stage l.file) (new_in l.stage l.file) l.last)

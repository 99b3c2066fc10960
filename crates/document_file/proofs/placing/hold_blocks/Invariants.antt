use Rattle.std.proofs.Common.{take}
use Rattle.document_file.specs.FreeSpace.{MarksTaken}
use Rattle.document_file.specs.Slots.{block_extents}
use Rattle.document_file.proofs.placing.hold_blocks.Given as goal

abbrev pub invariant-loop-place : goal.invariant-loop-place
invariant-loop-place l = MarksTaken (block_extents (take l.place-index l.places)) l.fn.space l.space

use Rattle.std.proofs.Common.{◌≡◌, ◌++◌, drop}
use Rattle.document_file.specs.FreeSpace.{IsSpaceOf}
use Rattle.document_file.specs.Slots.{block_extents, referenced_extents}
use Rattle.document_file.specs.Writing.{without_places}
use Rattle.document_file.proofs.table.remove_places.Given as goal

abbrev pub invariant-loop-block : goal.invariant-loop-block
invariant-loop-block l = record {
  left : without_places (drop l.block-index l.removals) l.places ≡ without_places l.removals l.fn.places;
  known : IsSpaceOf (block_extents l.places ++ referenced_extents l.slots) l.space;
}

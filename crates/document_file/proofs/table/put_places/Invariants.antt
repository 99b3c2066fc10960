use Rattle.std.proofs.Common.{◌≡◌, ◌++◌, drop, length}
use Rattle.document_file.specs.FreeSpace.{IsSpaceOf}
use Rattle.document_file.specs.Slots.{block_extents, referenced_extents}
use Rattle.document_file.specs.Writing.{with_places}
use Rattle.document_file.proofs.table.put_places.Given as goal

abbrev pub invariant-loop-i : goal.invariant-loop-i
invariant-loop-i l = record {
  long : length l.places ≡ length l.fn.places;
  filled : with_places l.slots.next_version (drop l.i l.puts) (drop l.i l.extents) l.places ≡ with_places l.slots.next_version l.puts l.extents l.fn.places;
  known : IsSpaceOf (drop l.i l.extents ++ (block_extents l.places ++ referenced_extents l.slots)) l.space;
}

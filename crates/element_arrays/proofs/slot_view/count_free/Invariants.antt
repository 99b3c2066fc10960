use Rattle.std.proofs.Common.{◌≡◌, true, count_by, take}
use Rattle.std.specs.List.{list_all}
use Rattle.chunk_arrays.specs.Reading.{element_place}
use Rattle.element_arrays.specs.Tested.{is_freed, is_slot_within}
use Rattle.element_arrays.proofs.slot_view.count_free.Given as goal

abbrev pub invariant-loop-i : goal.invariant-loop-i
invariant-loop-i l = record {
  slots : list_all (is_slot_within l.size l.least l.most) (take l.i l.view.array.elements) ≡ true;
  free : l.free ≡ count_by is_freed (take l.i l.view.array.elements);
  place : l.place ≡ element_place l.view.array l.i;
}

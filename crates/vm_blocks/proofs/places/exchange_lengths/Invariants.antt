use Rattle.std.proofs.Common.{◌≡◌, map, take, drop}
use Rattle.geos_model.specs.Places.{inverse}
use Rattle.vm_blocks.proofs.places.exchange_lengths.Given as goal

abbrev pub invariant-loop-place : goal.invariant-loop-place
invariant-loop-place l = record {
  done : take l.place-index l.places ≡ map inverse (take l.place-index l.initial.places);
  left : drop l.place-index l.places ≡ drop l.place-index l.initial.places;
}

use Rattle.std.proofs.Common.{◌≡◌, ◌++◌, take, drop, map}
use Rattle.geos_c.specs.Places.{told_place}
use Rattle.geos_c.proofs.places.put_places.Given as goal

abbrev pub invariant-loop-i : goal.invariant-loop-i
invariant-loop-i l = l.buffer ≡ take l.i (map told_place l.places) ++ drop l.i l.fn.buffer

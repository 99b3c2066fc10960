use Rattle.std.proofs.Common.{◌≡◌, ◌++◌, take, drop}
use Rattle.geos_c.specs.Telling.{numbers_of}
use Rattle.geos_c.proofs.telling.put_handles.Given as goal

abbrev pub invariant-loop-i : goal.invariant-loop-i
invariant-loop-i l = l.buffer ≡ take l.i (numbers_of l.handles) ++ drop l.i l.fn.buffer

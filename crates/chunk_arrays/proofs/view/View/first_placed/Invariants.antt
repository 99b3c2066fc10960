use Rattle.std.proofs.Common.{◌-◌}
use Rattle.chunk_arrays.specs.Reading.{NoneEnds}
use Rattle.chunk_arrays.proofs.view.View.first_placed.Given as goal

abbrev pub invariant-loop-i : goal.invariant-loop-i
invariant-loop-i l = NoneEnds l.self.array l.from (l.i - 1) l.byte

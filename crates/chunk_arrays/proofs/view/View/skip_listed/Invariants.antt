use Rattle.std.proofs.Common.{◌+◌, ◌*◌}
use Rattle.chunk_arrays.specs.Reading.{NoneEnds}
use Rattle.chunk_arrays.proofs.view.View.skip_listed.Given as goal

abbrev pub invariant-loop-k : goal.invariant-loop-k
invariant-loop-k l = NoneEnds l.self.array l.from (l.from + 4 * l.k) l.byte

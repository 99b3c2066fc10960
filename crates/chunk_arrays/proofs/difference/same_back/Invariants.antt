use Rattle.std.proofs.Common.{◌≡◌, ◌-◌, drop, length}
use Rattle.chunk_arrays.proofs.difference.same_back.Given as goal

abbrev pub invariant-loop-i : goal.invariant-loop-i
invariant-loop-i l = drop (length l.a - l.i) l.a ≡ drop (length l.b - l.i) l.b

use Rattle.std.proofs.Common.{◌++◌, length}
use Rattle.large_bodies.proofs.PackingLemmas.{IsPacking}
use Rattle.large_bodies.proofs.packing.Pieces.packed.Given as goal

abbrev pub invariant-loop-left : goal.invariant-loop-left
invariant-loop-left l = IsPacking l.size l.pieces l.piece l.left (l.fn.head.elements ++ l.fn.new.elements)

abbrev pub decreases-loop-left : goal.decreases-loop-left
decreases-loop-left l = length l.left.elements

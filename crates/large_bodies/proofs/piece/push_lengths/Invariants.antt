use Rattle.std.proofs.Common.{◌≡◌, ◌≤◌, ◌+◌, ◌-◌, ◌++◌, length, map, take, drop, vec_len, vec_capacity}
use Rattle.chunk_arrays.specs.Reading.{element_place}
use Rattle.large_bodies.proofs.piece.push_lengths.Given as goal

abbrev pub invariant-loop-i : goal.invariant-loop-i
invariant-loop-i l =
    (l.place ≡ element_place l.fn.view.array l.i)
    × (l.lengths.items ≡ l.initial.lengths.items ++ map length (take (l.i - l.fn.from) (drop l.fn.from l.fn.view.array.elements)))
    × (vec_len l.lengths + (l.fn.to - l.i) ≤ vec_capacity l.lengths)

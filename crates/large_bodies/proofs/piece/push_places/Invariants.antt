use Rattle.std.proofs.Common.{◌≡◌, ◌+◌, ◌*◌, ◌++◌, length, take, sum, flat_map}
use Rattle.geos_model.specs.Words.{word}
use Rattle.large_bodies.specs.ElementLengths.{places_by}
use Rattle.large_bodies.proofs.piece.push_places.Given as goal

abbrev pub invariant-loop-n : goal.invariant-loop-n
invariant-loop-n l =
    (l.place ≡ 8 + 2 * length l.lengths + sum (take l.n-index l.lengths))
    × (l.out.items ≡ l.initial.out.items ++ flat_map word (places_by (8 + 2 * length l.lengths) (take l.n-index l.lengths)))

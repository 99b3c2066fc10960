use Rattle.std.proofs.Common.{◌+◌, ◌*◌, ◌++◌, ◌<◌, ℕ, List, length, take, flat_map, ap, ◌∙◌, arith}
use Rattle.geos_model.specs.Words.{word}
use Rattle.large_bodies.specs.ElementLengths.{places_by}
use Rattle.large_bodies.proofs.BodyLemmas.{more_places, more_sum}
use Rattle.large_bodies.proofs.piece.push_places.Goals as goal

pub loop-n-preserved : goal.loop-n-preserved
loop-n-preserved c =
    let ns : List ℕ = c.args.lengths.now in
    let k : ℕ = c.loop-n.n-index in
    let low : k < length ns = c.loop-n-test.true in
    let next = more_sum k ns low in
    let was = c.loop-n.invariant.0 in
    let here = c.from-place.ensures in (
      omega arith,
      c.in_ok-push_word.ensures ∙ ap (λ (row : List ℕ). row ++ word c.loop-n.place) c.loop-n.invariant.1
          ∙ ap (λ (at : ℕ). (c.args.out.now.items ++ flat_map word (places_by (8 + 2 * length ns) (take k ns))) ++ word at) was
          ∙ more_places c.args.out.now.items (8 + 2 * length ns) k ns low,
    )

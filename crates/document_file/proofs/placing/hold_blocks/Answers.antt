use Rattle.std.proofs.Common.{◌+◌, take, subst, sym, arith}
use Rattle.file_space.specs.Space.{Space}
use Rattle.document_file.specs.FreeSpace.{MarksTaken}
use Rattle.document_file.specs.Ranges.{IsPlaced}
use Rattle.document_file.specs.Slots.{block_extents}
use Rattle.document_file.proofs.PlacingLemmas.{blocks_fewer, takes_some, takes_no_more}
use Rattle.document_file.proofs.FreeSpaceLemmas.{placed_length}
use Rattle.document_file.proofs.TableLemmas.{each_at, places_of}
use Rattle.document_file.proofs.placing.hold_blocks.Goals as goal
use Rattle.document_file.proofs.placing.hold_blocks.Goals.{in-Some+in_ok-hold, in_default}

pub hold-requires-clause-few : goal.hold-requires-clause-few
hold-requires-clause-few c =
    let fewer = blocks_fewer c.args.places.now c.loop-place.place-index c.in-Some.place c.loop-place-test.true c.in-Some.is in
    let few = c.requires.few in
    let count = c.loop-place.invariant.count in
    omega (arith, fewer, few, count)

pub hold-requires-clause-behind_slots : goal.hold-requires-clause-behind_slots
hold-requires-clause-behind_slots c = (each_at (λ p. IsPlaced p.extent) c.args.places.now c.loop-place.place-index c.in-Some.place c.in-Some.is (places_of IsPlaced c.args.places.now c.requires.placed)).behind

pub hold-requires-clause-in_range : goal.hold-requires-clause-in_range
hold-requires-clause-in_range c = placed_length c.in-Some.place.extent (each_at (λ p. IsPlaced p.extent) c.args.places.now c.loop-place.place-index c.in-Some.place c.in-Some.is (places_of IsPlaced c.args.places.now c.requires.placed))

pub loop-place-preserved : goal.loop-place-preserved
loop-place-preserved c =
    elim c.match-place.branch [
      | in-Some+in_ok-hold w ↦
          subst (λ (s : Space). MarksTaken (block_extents (take (c.loop-place.place-index + 1) c.args.places.now)) c.args.space.now s) (sym w.space-is)
          (takes_some c.args.places.now c.loop-place.place-index w.in-Some.place c.args.space.now c.loop-place.space w.hold.new.self c.loop-place-test.true w.in-Some.is c.loop-place.invariant w.in_ok-hold.ensures.count w.in_ok-hold.ensures.held)
      | in_default w ↦
          subst (λ (s : Space). MarksTaken (block_extents (take (c.loop-place.place-index + 1) c.args.places.now)) c.args.space.now s) (sym w.space-is)
          (takes_no_more c.args.places.now c.loop-place.place-index c.args.space.now c.loop-place.space c.loop-place-test.true w.in_default.is c.loop-place.invariant)
    ]

use Rattle.std.proofs.Common.{◌++◌, length-append, arith}
use Rattle.std.proofs.lemmas.Result.{on_ok_weaker}
use Rattle.document_file.specs.Ranges.{IsPlaced}
use Rattle.document_file.specs.Slots.{pair_extents, prepared_extents, marked_extents}
use Rattle.document_file.proofs.SoundLemmas.{kept_pair, kept_prepared, kept_marked}
use Rattle.document_file.proofs.FreeSpaceLemmas.{takes-both}
use Rattle.document_file.proofs.placing.hold_kept.Goals as goal

pub hold_marked-requires-clause-few : goal.hold_marked-requires-clause-few
hold_marked-requires-clause-few c =
    let slots = c.args.slots.now in
    let all = length-append (pair_extents slots.committed) (prepared_extents slots.spare ++ marked_extents slots.marked) in
    let rest = length-append (prepared_extents slots.spare) (marked_extents slots.marked) in
    let few = c.requires.few in
    omega (arith, all, rest, few)

pub hold_marked-requires-clause-placed : goal.hold_marked-requires-clause-placed
hold_marked-requires-clause-placed c = kept_marked IsPlaced c.args.slots.now c.requires.placed

pub hold_spare-requires-clause-few : goal.hold_spare-requires-clause-few
hold_spare-requires-clause-few c =
    let slots = c.args.slots.now in
    let all = length-append (pair_extents slots.committed) (prepared_extents slots.spare ++ marked_extents slots.marked) in
    let rest = length-append (prepared_extents slots.spare) (marked_extents slots.marked) in
    let count = c.in_ok-hold_marked.ensures.count in
    let few = c.requires.few in
    omega (arith, all, rest, count, few)

pub hold_spare-requires-clause-placed : goal.hold_spare-requires-clause-placed
hold_spare-requires-clause-placed c = kept_prepared IsPlaced c.args.slots.now c.requires.placed

pub hold_pair-requires-clause-few : goal.hold_pair-requires-clause-few
hold_pair-requires-clause-few c =
    let slots = c.args.slots.now in
    let all = length-append (pair_extents slots.committed) (prepared_extents slots.spare ++ marked_extents slots.marked) in
    let rest = length-append (prepared_extents slots.spare) (marked_extents slots.marked) in
    let first = c.in_ok-hold_marked.ensures.count in
    let second = c.in_ok-hold_spare.ensures.count in
    let few = c.requires.few in
    omega (arith, all, rest, first, second, few)

pub hold_pair-requires-clause-placed : goal.hold_pair-requires-clause-placed
hold_pair-requires-clause-placed c = kept_pair IsPlaced c.args.slots.now c.requires.placed

pub returns : goal.returns
returns c =
    let slots = c.args.slots.now in
    let rest = takes-both (prepared_extents slots.spare) (marked_extents slots.marked) c.args.space.now c.hold_marked.new.space c.hold_spare.new.space c.in_ok-hold_marked.ensures c.in_ok-hold_spare.ensures in
    on_ok_weaker c.hold_pair.result (λ all. takes-both (pair_extents slots.committed) (prepared_extents slots.spare ++ marked_extents slots.marked) c.args.space.now c.hold_spare.new.space c.hold_pair.new.space rest all) c.hold_pair.ensures

use Rattle.std.proofs.Common.{length-append, arith}
use Rattle.std.proofs.lemmas.Result.{on_ok_weaker}
use Rattle.document_file.specs.Ranges.{IsPlaced}
use Rattle.document_file.specs.Slots.{stored_extents}
use Rattle.document_file.proofs.RangesLemmas.{all_left, all_right}
use Rattle.document_file.proofs.FreeSpaceLemmas.{takes-both}
use Rattle.document_file.proofs.placing.hold_pair.Goals as goal

pub hold_document-requires-clause-few : goal.hold_document-requires-clause-few
hold_document-requires-clause-few c =
    let both = length-append (stored_extents c.args.pair.now.updated) (stored_extents c.args.pair.now.saved) in
    let few = c.requires.few in
    omega (arith, both, few)

pub hold_document-requires-clause-placed : goal.hold_document-requires-clause-placed
hold_document-requires-clause-placed c = all_right IsPlaced (stored_extents c.args.pair.now.updated) (stored_extents c.args.pair.now.saved) c.requires.placed

pub hold_document-requires-2-clause-few : goal.hold_document-requires-2-clause-few
hold_document-requires-2-clause-few c =
    let both = length-append (stored_extents c.args.pair.now.updated) (stored_extents c.args.pair.now.saved) in
    let count = c.in_ok-hold_document.ensures.count in
    let few = c.requires.few in
    omega (arith, both, count, few)

pub hold_document-requires-2-clause-placed : goal.hold_document-requires-2-clause-placed
hold_document-requires-2-clause-placed c = all_left IsPlaced (stored_extents c.args.pair.now.updated) (stored_extents c.args.pair.now.saved) c.requires.placed

pub returns : goal.returns
returns c = on_ok_weaker c.hold_document-2.result (λ second. takes-both (stored_extents c.args.pair.now.updated) (stored_extents c.args.pair.now.saved) c.args.space.now c.hold_document.new.space c.hold_document-2.new.space c.in_ok-hold_document.ensures second) c.hold_document-2.ensures

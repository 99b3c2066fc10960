use Rattle.std.proofs.Common.{◌++◌}
use Rattle.document_file.specs.Ranges.{start_of, end_of, IsOut}
use Rattle.document_file.specs.Slots.{block_extents, referenced_extents}
use Rattle.document_file.proofs.PlacingLemmas.{fit_clear}
use Rattle.document_file.proofs.RangesLemmas.{all_right}
use Rattle.document_file.proofs.WritingLemmas.{one_spared}
use Rattle.document_file.proofs.writing.write_image.Goals as goal

pub write_extent-requires-clause-clear : goal.write_extent-requires-clause-clear
write_extent-requires-clause-clear g c =
    let live = block_extents c.args.live.now in
    let kept = referenced_extents c.args.slots.now in
    let e = c.in_ok-extent.extent in
    all_right (λ x. IsOut (start_of e) e.length (start_of x) (end_of x)) live kept (fit_clear (live ++ kept) _ e (c.in_ok-extent.ensures.placed (live ++ kept) c.in_ok-space.ensures).0)

pub returns-in_err-write_extent-clause-spared : goal.returns-in_err-write_extent-clause-spared
returns-in_err-write_extent-clause-spared g c = λ so.
    let live = block_extents c.args.live.now in
    let all = live ++ referenced_extents c.args.slots.now in
    let e = c.in_ok-extent.extent in
    one_spared c.args.slots.now live e _ _ (fit_clear all _ e (c.in_ok-extent.ensures.placed all c.in_ok-space.ensures).0)
    (c.write_extent.ensures.elsewhere so) (λ file was. c.write_extent.ensures.leaves file so was) (λ file was. c.write_extent.ensures.crash file so was)

pub returns-clause-spared : goal.returns-clause-spared
returns-clause-spared g c = λ so.
    let live = block_extents c.args.live.now in
    let all = live ++ referenced_extents c.args.slots.now in
    let e = c.in_ok-extent.extent in
    one_spared c.args.slots.now live e _ _ (fit_clear all _ e (c.in_ok-extent.ensures.placed all c.in_ok-space.ensures).0)
    (c.write_extent.ensures.elsewhere so) (λ file was. c.write_extent.ensures.leaves file so was) (λ file was. c.write_extent.ensures.crash file so was)

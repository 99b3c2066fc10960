use Rattle.std.proofs.Common.{◌++◌, ap, sym, subst, ◌∙◌}
use Rattle.document_file.specs.FreeSpace.{TakesPlaceOf, AreAmongTaken}
use Rattle.document_file.specs.Slots.{block_extents}
use Rattle.document_file.specs.declared.table.BlockTable.{BlockTable}
use Rattle.document_file.proofs.FollowLemmas.{released_among, followed_taken, followed_few, document_replaced}
use Rattle.document_file.proofs.placing.follow_document.Goals.{After-follow_blocks}
use Rattle.document_file.proofs.placing.follow_document.Goals as goal

-- the blocks of one table in place of those of the other
step : (c : After-follow_blocks) → TakesPlaceOf (block_extents c.args.old.now.table.value.places.items) (block_extents c.args.live.now.places.items) c.release.new.self c.follow_blocks.new.space
step c =
    let gone = c.deref-2.ensures.value ∙ ap (λ (t : BlockTable). t.places.items) c.deref.ensures in
    subst (λ ps. TakesPlaceOf (block_extents ps) (block_extents c.args.live.now.places.items) c.release.new.self c.follow_blocks.new.space) gone
    (subst (λ ps. TakesPlaceOf (block_extents c.deref-2.result.now) (block_extents ps) c.release.new.self c.follow_blocks.new.space) c.deref-3.ensures.value c.follow_blocks.ensures)

pub follow_blocks-requires-clause-taken : goal.follow_blocks-requires-clause-taken
follow_blocks-requires-clause-taken c =
    let old = c.args.old.now in let live = c.args.live.now.places.items in
    let gone = c.deref-2.ensures.value ∙ ap (λ (t : BlockTable). t.places.items) c.deref.ensures in
    subst (λ ps. AreAmongTaken (block_extents ps ++ block_extents c.deref-3.result.now) c.release.new.self) (sym gone)
    (subst (λ ps. AreAmongTaken (block_extents old.table.value.places.items ++ block_extents ps) c.release.new.self) (sym c.deref-3.ensures.value)
    (released_among old.directory (block_extents old.table.value.places.items) c.args.directory (block_extents live) c.args.space.now c.release.new.self c.requires.taken c.release.ensures.left))

pub hold_again-requires-clause-few : goal.hold_again-requires-clause-few
hold_again-requires-clause-few c =
    let old = c.args.old.now in
    followed_few old.directory (block_extents old.table.value.places.items) c.args.directory (block_extents c.args.live.now.places.items) c.args.space.now c.release.new.self c.requires.taken c.release.ensures.left
    c.follow_blocks.new.space (step (goal.at.hold_again-requires-clause-few c).After-follow_blocks) _ c.requires.few

pub hold_again-requires-clause-taken : goal.hold_again-requires-clause-taken
hold_again-requires-clause-taken c =
    let old = c.args.old.now in
    followed_taken old.directory (block_extents old.table.value.places.items) c.args.directory (block_extents c.args.live.now.places.items) c.args.space.now c.release.new.self c.requires.taken c.release.ensures.left
    c.follow_blocks.new.space (step (goal.at.hold_again-requires-clause-taken c).After-follow_blocks)

pub returns : goal.returns
returns c =
    let old = c.args.old.now in
    document_replaced old.directory (block_extents old.table.value.places.items) c.args.directory (block_extents c.args.live.now.places.items) c.args.space.now c.release.new.self c.requires.taken c.release.ensures.left
    c.follow_blocks.new.space (step (goal.at.returns c).After-follow_blocks) c.hold_again.new.space c.hold_again.ensures

use Rattle.std.proofs.Common.{[], length-append, subst, arith}
use Rattle.std.proofs.lemmas.List.{append-nil}
use Rattle.file_space.specs.Space.{AreTaken}
use Rattle.document_file.specs.Slots.{block_extents, referenced_extents}
use Rattle.document_file.proofs.placing.space_around.Goals as goal

pub hold_kept-requires-clause-few : goal.hold_kept-requires-clause-few
hold_kept-requires-clause-few c =
    let both = length-append (block_extents c.args.live.now) (referenced_extents c.args.slots.now) in
    let none = c.in_ok-space.ensures.count in
    let few = c.requires.few in
    omega (arith, both, none, few)

pub hold_blocks-requires-clause-few : goal.hold_blocks-requires-clause-few
hold_blocks-requires-clause-few c =
    let both = length-append (block_extents c.args.live.now) (referenced_extents c.args.slots.now) in
    let none = c.in_ok-space.ensures.count in
    let count = c.in_ok-hold_kept.ensures.count in
    let few = c.requires.few in
    omega (arith, both, none, count, few)

pub returns : goal.returns
returns c =
    let kept = referenced_extents c.args.slots.now in
    c.in_ok-hold_blocks.ensures.taken kept (subst (λ l. AreTaken l c.hold_kept.new.space) (append-nil kept) (c.in_ok-hold_kept.ensures.taken [] c.in_ok-space.ensures))

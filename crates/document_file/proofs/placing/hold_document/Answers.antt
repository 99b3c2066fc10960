use Rattle.std.proofs.Common.{ap, length, All, sym, subst, ◌∙◌, arith}
use Rattle.std.proofs.lemmas.List.Elements.{All-head, All-tail}
use Rattle.document_file.specs.FreeSpace.{MarksTaken}
use Rattle.document_file.specs.Ranges.{IsPlaced}
use Rattle.document_file.specs.Slots.{block_extents}
use Rattle.document_file.specs.declared.table.BlockTable.{BlockTable}
use Rattle.document_file.proofs.ResultLemmas.{on_ok_both}
use Rattle.document_file.proofs.FreeSpaceLemmas.{takes-first, placed_length}
use Rattle.document_file.proofs.placing.hold_document.Goals as goal

pub hold_blocks-requires-clause-few : goal.hold_blocks-requires-clause-few
hold_blocks-requires-clause-few c =
    let same = ap (λ ps. length (block_extents ps)) (c.deref-2.ensures.value ∙ ap (λ (t : BlockTable). t.places.items) c.deref.ensures) in
    let few = c.requires.few in
    omega (arith, same, few)

pub hold_blocks-requires-clause-placed : goal.hold_blocks-requires-clause-placed
hold_blocks-requires-clause-placed c =
    subst (λ ps. All IsPlaced (block_extents ps)) (sym (c.deref-2.ensures.value ∙ ap (λ (t : BlockTable). t.places.items) c.deref.ensures))
    (All-tail IsPlaced c.args.stored.now.directory (block_extents c.args.stored.now.table.value.places.items) c.requires.placed)

pub hold-requires-clause-few : goal.hold-requires-clause-few
hold-requires-clause-few c =
    let same = ap (λ ps. length (block_extents ps)) (c.deref-2.ensures.value ∙ ap (λ (t : BlockTable). t.places.items) c.deref.ensures) in
    let count = c.in_ok-hold_blocks.ensures.count in
    let few = c.requires.few in
    omega (arith, same, count, few)

pub hold-requires-clause-behind_slots : goal.hold-requires-clause-behind_slots
hold-requires-clause-behind_slots c = (All-head IsPlaced c.args.stored.now.directory (block_extents c.args.stored.now.table.value.places.items) c.requires.placed).behind

pub hold-requires-clause-in_range : goal.hold-requires-clause-in_range
hold-requires-clause-in_range c = placed_length c.args.stored.now.directory (All-head IsPlaced c.args.stored.now.directory (block_extents c.args.stored.now.table.value.places.items) c.requires.placed)

pub returns : goal.returns
returns c =
    let blocks = block_extents c.args.stored.now.table.value.places.items in
    let first : MarksTaken blocks c.args.space.now c.hold_blocks.new.space = subst (λ ps. MarksTaken (block_extents ps) c.args.space.now c.hold_blocks.new.space) (c.deref-2.ensures.value ∙ ap (λ (t : BlockTable). t.places.items) c.deref.ensures) c.in_ok-hold_blocks.ensures in
    on_ok_both c.hold.result (λ held count. takes-first blocks c.args.stored.now.directory c.args.space.now c.hold_blocks.new.space c.hold.new.self first count held) c.hold.ensures.held c.hold.ensures.count

use Rattle.std.proofs.Common.{◌++◌, ◌∷◌, ℕ, ap, ◌∙◌}
use Rattle.std.proofs.lemmas.Result.{on_ok_weaker}
use Rattle.geos_model.specs.declared.command.Edit.TheVariants as edits
use Rattle.document_dump.specs.Lines.{text}
use Rattle.document_dump.specs.Changes.{block_made, entries_passed, type_set}
use Rattle.document_dump.specs.declared.bodies.Pass.TheVariants as passes
use Rattle.document_dump.proofs.Texts.{pushed_four}
use Rattle.document_dump.proofs.bodies.push_heap.Goals as goal

pub returns : goal.returns
unfolding block_made
returns c =
    let b = c.args.block in
    let m = c.args.heap.now.chunks in
    let made = edits.NewHeap c.args.attributes.user_id in
    let typed = type_set b 0 c.args.attributes.heap_type in
    on_ok_weaker c.push_entries-2.result (λ freed.
    pushed_four c.args.out.now.items c.push_new_heap.new.out.items c.push_type_set.new.out.items c.push_entries.new.out.items c.push_entries-2.new.out.items made typed (entries_passed passes.Making b m c.args.slots) (entries_passed passes.Freeing b m c.args.slots)
    c.in_ok-push_new_heap.ensures c.in_ok-push_type_set.ensures c.in_ok-push_entries.ensures freed
    ∙ ap (λ (n : ℕ). c.args.out.now.items ++ text (made ∷ (typed ++ (entries_passed passes.Making b m n ++ entries_passed passes.Freeing b m n)))) c.requires.slots) c.push_entries-2.ensures

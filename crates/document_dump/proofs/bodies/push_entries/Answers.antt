use Rattle.std.proofs.Common.{◌≡◌, ◌++◌, ℕ, List, flat_map, ap, ◌∙◌, arith, zero-add}
use Rattle.std.specs.List.{range_with_len}
use Rattle.std.specs.FinMap.{get}
use Rattle.geos_model.specs.Heap.{handle_of}
use Rattle.geos_model.specs.declared.command.Edit.{Edit}
use Rattle.document_dump.specs.Lines.{text}
use Rattle.document_dump.specs.Changes.{chunk_name, entries_passed, entry_edits}
use Rattle.document_dump.proofs.Texts.{text_more}
use Rattle.document_dump.proofs.bodies.push_entries.Goals as goal

pub loop-i-preserved : goal.loop-i-preserved
loop-i-preserved c =
    let f : ℕ → List Edit = λ i. entry_edits c.args.pass c.args.block (chunk_name (handle_of i)) (get c.args.heap.now.chunks (handle_of i)) in
    c.in_ok-push_entry.ensures ∙ text_more f 0 c.loop-i.i c.loop-i.i c.args.out.now.items c.loop-i.out.items (zero-add c.loop-i.i) c.loop-i.invariant

pub returns : goal.returns
unfolding entries_passed
returns c =
    let f : ℕ → List Edit = λ i. entry_edits c.args.pass c.args.block (chunk_name (handle_of i)) (get c.args.heap.now.chunks (handle_of i)) in
    let end : c.loop-i.i ≡ c.args.slots = omega arith in
    c.loop-i.invariant ∙ ap (λ (k : ℕ). c.args.out.now.items ++ text (flat_map f (range_with_len 0 k))) end

use Rattle.std.proofs.Common.{◌≡◌, ◌++◌, ℕ, List, length, refl, sym, ◌∙◌, arith, append-nil, zero-add}
use Rattle.geos_model.specs.declared.command.Edit.{Edit}
use Rattle.document_dump.specs.Lines.{line}
use Rattle.document_dump.specs.Rows.{row_created, slot_made}
use Rattle.document_dump.proofs.Texts.{text_more}
use Rattle.document_dump.proofs.RowsMade.{row_pushed}
use Rattle.document_dump.proofs.rows.push_row.Goals as goal

pub loop-t-init : goal.loop-t-init
loop-t-init c = c.in_ok-push_created.ensures ∙ sym (append-nil (c.args.out.now.items ++ line (row_created c.args.block c.args.row c.args.slots.now.slots)))

pub loop-t-preserved : goal.loop-t-preserved
loop-t-preserved c =
    let f : ℕ → List Edit = slot_made c.args.block c.args.chunk c.args.row c.args.view.now.array c.args.slots.now.slots in
    let start : List ℕ = c.args.out.now.items ++ line (row_created c.args.block c.args.row c.args.slots.now.slots) in
    c.in_ok-push_slot.ensures ∙ text_more f 0 c.loop-t.t c.loop-t.t start c.loop-t.out.items (zero-add c.loop-t.t) c.loop-t.invariant

pub returns : goal.returns
returns c =
    let start : List ℕ = c.args.out.now.items ++ line (row_created c.args.block c.args.row c.args.slots.now.slots) in
    let end : c.loop-t.t ≡ length c.args.view.now.array.elements = omega (arith, c.count-t-end.ensures) in
    row_pushed c.args.block c.args.chunk c.args.row c.args.view.now.array c.args.slots.now.slots c.loop-t.t c.args.out.now.items start c.loop-t.out.items end refl c.loop-t.invariant

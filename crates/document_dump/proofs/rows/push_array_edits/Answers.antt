use Rattle.std.proofs.Common.{◌++◌, List, ap, ◌∙◌}
use Rattle.std.proofs.lemmas.Result.{on_ok_weaker}
use Rattle.geos_model.specs.declared.command.Edit.{Edit}
use Rattle.document_dump.specs.Lines.{text}
use Rattle.document_dump.proofs.RowsMade.{edits_named, edits_unnamed}
use Rattle.document_dump.proofs.rows.push_array_edits.Goals as goal

pub returns-in-Some : goal.returns-in-Some
returns-in-Some c =
    let named = c.in-Some.ensures c.args.view.now.array c.requires in
    on_ok_weaker c.push_row.result (λ pushed.
    pushed ∙ ap (λ (es : List Edit). c.args.out.now.items ++ text es) (edits_named c.args.block c.args.chunk c.args.view.now.array _ named)) c.push_row.ensures

pub returns-in-None : goal.returns-in-None
returns-in-None c =
    let none = c.in-None.ensures c.args.view.now.array c.requires in
    on_ok_weaker c.push_elements_or_array.result (λ pushed.
    pushed ∙ ap (λ (es : List Edit). c.args.out.now.items ++ text es) (edits_unnamed c.args.block c.args.chunk c.args.view.now.array none)) c.push_elements_or_array.ensures

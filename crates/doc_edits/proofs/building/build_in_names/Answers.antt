use Rattle.std.proofs.Common.{List, ℕ, Ok, refl, sym, ap, subst, ◌∙◌}
use Rattle.geos_model.specs.NameEdits.{name_token_added}
use Rattle.geos_model.specs.Targets.{name_array_edit}
use Rattle.geos_model.specs.declared.command.Done.TheVariants as done
use Rattle.geos_model.specs.declared.target.NameArrayEdit.{NameArrayEdit}
use Rattle.geos_model.specs.declared.target.NameArrayEdit.TheVariants as name_array_edits
use Rattle.doc_edits.proofs.NameEdits.{name_added, renamed, part_given, name_unreferenced}
use Rattle.doc_edits.proofs.ChunkParts.{AnswersOf, array_built, patch_built, refuses_built, silent_built}
use Rattle.doc_edits.proofs.Refusals.{carried}
use Rattle.doc_edits.proofs.building.build_in_names.Goals as goal

pub returns-in_ok-built-in-Add : goal.returns-in_ok-built-in-Add
returns-in_ok-built-in-Add c =
    let of = c.in_ok-built-in-Add in let name = c.in-Add.name.now in let part = c.in-Add.part.now in
    subst (λ (edit : NameArrayEdit). AnswersOf c.args.bytes.now (Ok (of.built, done.Token of.token)) (λ b k. name_array_edit b k edit)) (sym c.in-Add.is) (λ d b k at.
    patch_built _ d b k _ _ _ _ (name_added d b k name part c.in-Add.replace of.token (of.ensures.1 ∙ ap (λ (x : List ℕ). name_token_added x name part c.in-Add.replace) at.value)) c.args.bytes.now at of.built of.ensures.0)

pub returns-in_err-built-in-Add : goal.returns-in_err-built-in-Add
returns-in_err-built-in-Add c =
    let of = c.in_err-built-in-Add in
    subst (λ (edit : NameArrayEdit). AnswersOf c.args.bytes.now c.from_residual.result (λ b k. name_array_edit b k edit)) (sym c.in-Add.is) (λ d b k at.
    carried c.from_residual.result _ _ of.field-0.0 c.from_residual.ensures.1
    (refuses_built _ d b k _ _ _ _ (name_added d b k c.in-Add.name.now c.in-Add.part.now c.in-Add.replace (record { 0 = _ }) refl) c.args.bytes.now at of.field-0.0 of.ensures))

pub returns-in-Change : goal.returns-in-Change
returns-in-Change c =
    subst (λ (edit : NameArrayEdit). AnswersOf c.args.bytes.now c.silent.result (λ b k. name_array_edit b k edit)) (sym c.in-Change.is)
    (subst (λ r. AnswersOf c.args.bytes.now r (λ b k. name_array_edit b k (name_array_edits.Change c.in-Change.token c.in-Change.name))) (sym c.silent.ensures)
    (silent_built c.args.bytes.now _ c.change_name.result (array_built c.args.bytes.now _ _ _ _ done.Nothing (λ d b k. renamed d b k c.in-Change.token c.in-Change.name.now) c.change_name.result c.change_name.ensures)))

pub returns-in-SetPart : goal.returns-in-SetPart
returns-in-SetPart c =
    subst (λ (edit : NameArrayEdit). AnswersOf c.args.bytes.now c.silent-in-SetPart.result (λ b k. name_array_edit b k edit)) (sym c.in-SetPart.is)
    (subst (λ r. AnswersOf c.args.bytes.now r (λ b k. name_array_edit b k (name_array_edits.SetPart c.in-SetPart.token c.in-SetPart.part))) (sym c.silent-in-SetPart.ensures)
    (silent_built c.args.bytes.now _ c.set_part.result (array_built c.args.bytes.now _ _ _ _ done.Nothing (λ d b k. part_given d b k c.in-SetPart.token c.in-SetPart.part.now) c.set_part.result c.set_part.ensures)))

pub returns-in-Remove : goal.returns-in-Remove
returns-in-Remove c =
    subst (λ (edit : NameArrayEdit). AnswersOf c.args.bytes.now c.silent-in-Remove.result (λ b k. name_array_edit b k edit)) (sym c.in-Remove.is)
    (subst (λ r. AnswersOf c.args.bytes.now r (λ b k. name_array_edit b k (name_array_edits.Remove c.in-Remove.token))) (sym c.silent-in-Remove.ensures)
    (silent_built c.args.bytes.now _ c.remove_ref.result (array_built c.args.bytes.now _ _ _ _ done.Nothing (λ d b k. name_unreferenced d b k c.in-Remove.token) c.remove_ref.result c.remove_ref.ensures)))

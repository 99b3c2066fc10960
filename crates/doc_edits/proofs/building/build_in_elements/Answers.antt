use Rattle.std.proofs.Common.{List, ℕ, Ok, refl, sym, ap, subst, ◌∙◌}
use Rattle.geos_model.specs.ElementEdits.{token_added}
use Rattle.geos_model.specs.Targets.{element_array_edit}
use Rattle.geos_model.specs.declared.command.Done.TheVariants as done
use Rattle.geos_model.specs.declared.target.ElementArrayEdit.{ElementArrayEdit}
use Rattle.geos_model.specs.declared.target.ElementArrayEdit.TheVariants as element_array_edits
use Rattle.doc_edits.proofs.ElementEdits.{element_added, referenced, unreferenced, freed, element_changed}
use Rattle.doc_edits.proofs.ChunkParts.{AnswersOf, array_built, patch_built, refuses_built, silent_built}
use Rattle.doc_edits.proofs.Refusals.{carried}
use Rattle.doc_edits.proofs.building.build_in_elements.Goals as goal

pub returns-in_ok-built-in-Add : goal.returns-in_ok-built-in-Add
returns-in_ok-built-in-Add c =
    let of = c.in_ok-built-in-Add in let new = c.in-Add.element.now in
    subst (λ (edit : ElementArrayEdit). AnswersOf c.args.bytes.now (Ok (of.built, done.Token of.token)) (λ b k. element_array_edit b k edit)) (sym c.in-Add.is) (λ d b k at.
    patch_built _ d b k _ _ _ _ (element_added d b k new of.token (of.ensures.1 ∙ ap (λ (x : List ℕ). token_added x new) at.value)) c.args.bytes.now at of.built of.ensures.0)

pub returns-in_err-built-in-Add : goal.returns-in_err-built-in-Add
returns-in_err-built-in-Add c =
    let of = c.in_err-built-in-Add in
    subst (λ (edit : ElementArrayEdit). AnswersOf c.args.bytes.now c.from_residual.result (λ b k. element_array_edit b k edit)) (sym c.in-Add.is) (λ d b k at.
    carried c.from_residual.result _ _ of.field-0.0 c.from_residual.ensures.1
    (refuses_built _ d b k _ _ _ _ (element_added d b k c.in-Add.element.now (record { 0 = _ }) refl) c.args.bytes.now at of.field-0.0 of.ensures))

pub returns-in-AddReference : goal.returns-in-AddReference
returns-in-AddReference c =
    subst (λ (edit : ElementArrayEdit). AnswersOf c.args.bytes.now c.silent.result (λ b k. element_array_edit b k edit)) (sym c.in-AddReference.is)
    (subst (λ r. AnswersOf c.args.bytes.now r (λ b k. element_array_edit b k (element_array_edits.AddReference c.in-AddReference.token))) (sym c.silent.ensures)
    (silent_built c.args.bytes.now _ c.add_ref.result (array_built c.args.bytes.now _ _ _ _ done.Nothing (λ d b k. referenced d b k c.in-AddReference.token) c.add_ref.result c.add_ref.ensures)))

pub returns-in-RemoveReference : goal.returns-in-RemoveReference
returns-in-RemoveReference c =
    subst (λ (edit : ElementArrayEdit). AnswersOf c.args.bytes.now c.silent-in-RemoveReference.result (λ b k. element_array_edit b k edit)) (sym c.in-RemoveReference.is)
    (subst (λ r. AnswersOf c.args.bytes.now r (λ b k. element_array_edit b k (element_array_edits.RemoveReference c.in-RemoveReference.token))) (sym c.silent-in-RemoveReference.ensures)
    (silent_built c.args.bytes.now _ c.remove_ref.result (array_built c.args.bytes.now _ _ _ _ done.Nothing (λ d b k. unreferenced d b k c.in-RemoveReference.token) c.remove_ref.result c.remove_ref.ensures)))

pub returns-in-Delete : goal.returns-in-Delete
returns-in-Delete c =
    subst (λ (edit : ElementArrayEdit). AnswersOf c.args.bytes.now c.silent-in-Delete.result (λ b k. element_array_edit b k edit)) (sym c.in-Delete.is)
    (subst (λ r. AnswersOf c.args.bytes.now r (λ b k. element_array_edit b k (element_array_edits.Delete c.in-Delete.token))) (sym c.silent-in-Delete.ensures)
    (silent_built c.args.bytes.now _ c.delete.result (array_built c.args.bytes.now _ _ _ _ done.Nothing (λ d b k. freed d b k c.in-Delete.token) c.delete.result c.delete.ensures)))

pub returns-in-Change : goal.returns-in-Change
returns-in-Change c =
    subst (λ (edit : ElementArrayEdit). AnswersOf c.args.bytes.now c.silent-in-Change.result (λ b k. element_array_edit b k edit)) (sym c.in-Change.is)
    (subst (λ r. AnswersOf c.args.bytes.now r (λ b k. element_array_edit b k (element_array_edits.Change c.in-Change.token c.in-Change.new))) (sym c.silent-in-Change.ensures)
    (silent_built c.args.bytes.now _ c.change.result (array_built c.args.bytes.now _ _ _ _ done.Nothing (λ d b k. element_changed d b k c.in-Change.token c.in-Change.new.now) c.change.result c.change.ensures)))

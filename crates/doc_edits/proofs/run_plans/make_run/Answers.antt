use Rattle.std.proofs.Common.{Err, Ok, Result, sym, ap, subst, ◌∙◌}
use Rattle.std.specs.Prelude.{Bool}
use Rattle.std.proofs.lemmas.Result.{err_from_is_err_and}
use Rattle.geos_model.specs.Targets.{edit_of}
use Rattle.geos_model.specs.declared.fault.Fault.{Fault}
use Rattle.doc_edits.specs.RunPlans.{MakesAsRun}
use Rattle.doc_edits.proofs.RunPlans.{tried_edit}
use Rattle.doc_edits.proofs.run_plans.make_run.Goals as goal

pub returns-in_err-replace_run : goal.returns-in_err-replace_run
returns-in_err-replace_run g c =
    let facts = g.S.Store.facts in let records = g.R.Recorder.records in let keeps = g.R.Recorder.keeps in let edit = edit_of c.args.target in
    let a = c.args.blocks.now in let new = c.replace_run.new.self in let log = c.args.recorder.now in let log' = c.replace_run.new.recorder in
    let fault = c.in_err-replace_run.field-0.0 in let p = err_from_is_err_and c.from_residual.result c.from_residual.ensures.1 in
    subst (λ (r : Result Bool Fault). MakesAsRun facts records keeps edit a new log log' r) (sym (p.1 ∙ ap Err p.2))
    (tried_edit facts records keeps edit c.in-Some.run' a new log log' c.in-Some.ensures.value (Err fault) c.in_err-replace_run.ensures)

pub returns : goal.returns
returns g c =
    let edit = edit_of c.args.target in (
      sym c.in-Some.ensures.some,
      tried_edit g.S.Store.facts g.R.Recorder.records g.R.Recorder.keeps edit c.in-Some.run' c.args.blocks.now c.replace_run.new.self c.args.recorder.now c.replace_run.new.recorder c.in-Some.ensures.value (Ok tt) c.in_ok-replace_run.ensures,
    )

use Rattle.std.proofs.Common.{Err, Ok, sym, ap, subst, ◌∙◌}
use Rattle.std.proofs.lemmas.Result.{err_from_is_err_and}
use Rattle.geos_model.specs.Targets.{edit_of}
use Rattle.vm_blocks.specs.State.{CacheState}
use Rattle.undo_log.specs.Logging.{LogState}
use Rattle.undo_log.specs.Making.{MakesEdit, MakesRecorded}
use Rattle.undo_log.proofs.Planned.{IsRunMade, as_run}
use Rattle.undo_log.proofs.making.make_recorded.Goals as goal

pub returns-in_err-make_run : goal.returns-in_err-make_run
returns-in_err-make_run g c =
    let facts = g.S.Store.facts in let edit = edit_of c.args.target in let a = c.args.blocks.now in let mid = c.make_run.new.blocks in let log = c.args.log.now in let log' = c.make_run.new.recorder in
    let p = err_from_is_err_and c.from_residual.result c.from_residual.ensures.1 in
    subst (MakesRecorded facts edit a mid log.lists log'.lists) (sym (p.1 ∙ ap Err p.2)) (as_run facts a mid edit log log' (Err c.in_err-make_run.field-0.0) c.in_err-make_run.ensures)

-- it replaces a run
pub returns-then-branch : goal.returns-then-branch
returns-then-branch g c =
    let facts = g.S.Store.facts in let edit = edit_of c.args.target in let a = c.args.blocks.now in let mid = c.make_run.new.blocks in let log = c.args.log.now in let log' = c.make_run.new.recorder in
    subst (IsRunMade facts edit a mid log log') c.if-branch.true (as_run facts a mid edit log log' (Ok c.in_ok-make_run.field-0) c.in_ok-make_run.ensures)

pub returns-in_err-change : goal.returns-in_err-change
returns-in_err-change g c =
    let facts = g.S.Store.facts in let edit = edit_of c.args.target in let a = c.args.blocks.now in let mid = c.make_run.new.blocks in let new = c.make.new.blocks in let log = c.args.log.now in let log' = c.make_run.new.recorder in
    let same = subst (IsRunMade facts edit a mid log log') c.if-branch.false (as_run facts a mid edit log log' (Ok c.in_ok-make_run.field-0) c.in_ok-make_run.ensures) in
    let p = err_from_is_err_and c.from_residual-in_err-change.result c.from_residual-in_err-change.ensures.1 in
    subst (MakesRecorded facts edit a new log.lists log'.lists) (sym (p.1 ∙ ap Err p.2))
    (subst (λ (x : CacheState g.row.S.Denot). MakesEdit facts edit x new (Err c.in_err-change.field-0.0)) same.0 c.in_err-change.ensures, ap (λ (l : LogState). l.lists) same.1)

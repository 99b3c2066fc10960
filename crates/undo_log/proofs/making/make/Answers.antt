use Rattle.std.proofs.Common.{Err, Ok, sym, ap, subst, ◌∙◌}
use Rattle.std.proofs.lemmas.Result.{err_from_is_err_and}
use Rattle.geos_model.specs.Targets.{edit_of}
use Rattle.vm_blocks.specs.State.{CacheState}
use Rattle.vm_blocks.proofs.KeepingLaws.{keeps-locks}
use Rattle.undo_log.specs.Making.{MakesEdit}
use Rattle.undo_log.proofs.Edited.{leaves_array, made_of_plan, unlocked_change}
use Rattle.undo_log.proofs.Planned.{made, unmade, unplanned}
use Rattle.undo_log.proofs.making.make.Goals as goal

-- it isn't planned
pub returns-in_err-change : goal.returns-in_err-change
returns-in_err-change g c =
    let facts = g.S.Store.facts in let a = c.args.blocks.now in let edit = edit_of c.args.target in
    let p = err_from_is_err_and c.from_residual.result c.from_residual.ensures.1 in
    subst (MakesEdit facts edit a c.plan.new.blocks) (sym (p.1 ∙ ap Err p.2)) (unplanned facts a c.plan.new.blocks edit c.in_err-change.field-0.0 c.in_err-change.ensures)

-- its change isn't made
pub returns-in_err-carry_out : goal.returns-in_err-carry_out
returns-in_err-carry_out g c =
    let facts = g.S.Store.facts in let a = c.args.blocks.now in let mid = c.plan.new.blocks in let new = c.carry_out.new.self in let edit = edit_of c.args.target in
    let p = err_from_is_err_and c.from_residual-in_err-carry_out.result c.from_residual-in_err-carry_out.ensures.1 in
    subst (MakesEdit facts edit a new) (sym (p.1 ∙ ap Err p.2))
    (unmade facts a mid edit c.in_ok-change.change c.in_ok-change.done c.in_ok-change.ensures new c.carry_out.result c.carry_out.ensures.sure
    c.in_err-carry_out.field-0.0 c.in_err-carry_out.was c.in_err-carry_out.ensures.err c.in_err-carry_out.ensures.refusals)

-- it is made
pub returns : goal.returns
returns g c =
    let facts = g.S.Store.facts in let a = c.args.blocks.now in let mid = c.plan.new.blocks in let new = c.carry_out.new.self in let edit = edit_of c.args.target in
    let change = c.in_ok-change.change in let done = c.in_ok-change.done in
    subst (λ (x : CacheState g.row.S.Denot). MakesEdit facts edit a x (Ok (change, done))) (sym c.mark_edited.ensures)
    (made facts a mid edit change done c.in_ok-change.ensures new c.carry_out.result c.carry_out.ensures.sure c.in_ok-carry_out.ensures.ok)

pub mark_edited-requires : goal.mark_edited-requires
mark_edited-requires g c =
    let facts = g.S.Store.facts in let plan = c.in_ok-change.ensures in let edit = edit_of c.args.target in
    leaves_array facts edit c.args.blocks.now c.carry_out.new.self c.in_ok-change.change c.in_ok-change.done
    (made_of_plan facts c.args.blocks.now c.plan.new.blocks plan.keeps edit c.in_ok-change.change c.in_ok-change.done c.carry_out.new.self c.carry_out.result plan.ready plan.room plan.kind
    plan.planned c.carry_out.ensures.sure c.in_ok-carry_out.ensures.ok)

pub carry_out-requires-clause-unlocked : goal.carry_out-requires-clause-unlocked
carry_out-requires-clause-unlocked g c =
    let plan = c.in_ok-change.ensures in
    unlocked_change (edit_of c.args.target) c.in_ok-change.change c.args.blocks.now.resident c.plan.new.blocks.resident (keeps-locks g.S.Store.facts c.args.blocks.now c.plan.new.blocks plan.keeps) c.requires plan.kind plan.alone

use Rattle.std.proofs.Common.{Err, Ok, refl, ap, sym, subst, ◌∙◌}
use Rattle.std.proofs.lemmas.Result.{err_from_is_err_and}
use Rattle.geos_model.specs.Reply.{Accepted, reply_by}
use Rattle.geos_model.specs.declared.command.Command.TheVariants as commands
use Rattle.undo_log.specs.Committing.{IsSessionCommit}
use Rattle.undo_log.specs.Sessions.{SessionState, IsStep}
use Rattle.undo_log.specs.Turning.{busy_fault}
use Rattle.undo_log.proofs.CommitSteps.{commit_held, committed_invariant, refused_invariant, tries_free, update_held, update_is}
use Rattle.undo_log.proofs.Keeping.{Holds}
use Rattle.undo_log.proofs.LookUps.{session_with}
use Rattle.undo_log.proofs.session.Session.update.Goals as goal

pub returns-in-Some-clause-step : goal.returns-in-Some-clause-step
returns-in-Some-clause-step g c = update_held g.S.Store.facts c.args.self.now c.in-Some.fault (sym c.in-Some.ensures.is)

pub returns-in-Some-clause-commit : goal.returns-in-Some-clause-commit
returns-in-Some-clause-commit g c =
    let facts = g.S.Store.facts in
    let old = session_with c.self.inside.blocks c.self.inside.log.lists in
    subst (λ (s : SessionState g.row.S.Denot). IsSessionCommit facts (s.document, s.disk.saved) s.document s s (Err c.in-Some.fault)) c.self.view_is
    (commit_held facts old c.in-Some.fault (ap busy_fault c.self.view_is ∙ sym c.in-Some.ensures.is) (old.document, old.disk.saved) old.document c.reveal_invariant.ensures.crash_consistent)

pub returns-in_err-update-clause-step : goal.returns-in_err-update-clause-step
returns-in_err-update-clause-step g c =
    let facts = g.S.Store.facts in let e = c.in_err-update.ensures in let log = c.self.inside.log.lists in
    let p = err_from_is_err_and c.from_residual.result c.from_residual.ensures.1 in
    let old = session_with c.self.inside.blocks log in
    let new = session_with c.update.new.self log in
    subst (λ (s : SessionState g.row.S.Denot). IsStep facts s new commands.Update (reply_by (λ _. Accepted) c.from_residual.result)) c.self.view_is
    (subst (λ r. IsStep facts old new commands.Update (reply_by (λ _. Accepted) r)) (sym (p.1 ∙ ap Err p.2))
    (update_is facts old new (ap busy_fault c.self.view_is ∙ sym c.in_default.ensures.is) (Err c.in_err-update.field-0.0) e.commit e.fails refl e.resident.1 e.resident.0))

pub returns-clause-step : goal.returns-clause-step
returns-clause-step g c =
    let facts = g.S.Store.facts in let e = c.in_ok-update.ensures in let log = c.self.inside.log.lists in
    let old = session_with c.self.inside.blocks log in
    let new = session_with c.update.new.self c.mark_updated.new.self.lists in
    subst (λ (s : SessionState g.row.S.Denot). IsStep facts s new commands.Update Accepted) c.self.view_is
    (update_is facts old new (ap busy_fault c.self.view_is ∙ sym c.in_default.ensures.is) (Ok c.in_ok-update.field-0) e.commit e.fails c.mark_updated.ensures e.resident.1 e.resident.0)

pub returns-clause-commit : goal.returns-clause-commit
returns-clause-commit g c =
    let facts = g.S.Store.facts in
    let old = session_with c.self.inside.blocks c.self.inside.log.lists in
    let new = session_with c.update.new.self c.mark_updated.new.self.lists in
    subst (λ (s : SessionState g.row.S.Denot). IsSessionCommit facts (s.document, s.disk.saved) s.document s new (Ok tt)) c.self.view_is
    (tries_free facts (old.document, old.disk.saved) old.document old new (Ok tt) (ap busy_fault c.self.view_is ∙ sym c.in_default.ensures.is) c.in_ok-update.ensures.commit)

pub invariant_of-self : goal.invariant_of-self
invariant_of-self g c = refused_invariant g.S.Store.facts _ _ c.self.inside.blocks c.update.new.self c.self.inside.log.lists _ c.in_err-update.ensures.commit c.self.invariant

pub invariant_of-self-2 : goal.invariant_of-self-2
invariant_of-self-2 g c =
    subst (Holds c.update.new.self) (sym c.mark_updated.ensures) (committed_invariant g.S.Store.facts _ c.self.inside.blocks c.update.new.self c.self.inside.log.lists (Ok tt) c.in_ok-update.ensures.commit c.self.invariant)

use Rattle.std.proofs.Common.{Err, Ok, refl, ap, sym, subst, ◌∙◌}
use Rattle.std.proofs.lemmas.Result.{err_from_is_err_and}
use Rattle.geos_model.specs.Reply.{Accepted, reply_by}
use Rattle.geos_model.specs.declared.command.Command.TheVariants as commands
use Rattle.undo_log.specs.Committing.{IsSessionCommit}
use Rattle.undo_log.specs.Sessions.{SessionState, IsStep}
use Rattle.undo_log.specs.Turning.{busy_fault}
use Rattle.undo_log.proofs.CommitSteps.{commit_held, committed_invariant, refused_invariant, tries_free, save_held, save_is}
use Rattle.undo_log.proofs.Keeping.{Holds}
use Rattle.undo_log.proofs.LookUps.{session_with}
use Rattle.undo_log.proofs.session.Session.save.Goals as goal

pub returns-in-Some-clause-step : goal.returns-in-Some-clause-step
returns-in-Some-clause-step g c = save_held g.S.Store.facts c.args.self.now c.in-Some.fault (sym c.in-Some.ensures.is)

pub returns-in-Some-clause-commit : goal.returns-in-Some-clause-commit
returns-in-Some-clause-commit g c =
    let facts = g.S.Store.facts in
    let old = session_with c.self.inside.blocks c.self.inside.log.lists in
    subst (λ (s : SessionState g.row.S.Denot). IsSessionCommit facts (s.document, s.document) s.document s s (Err c.in-Some.fault)) c.self.view_is
    (commit_held facts old c.in-Some.fault (ap busy_fault c.self.view_is ∙ sym c.in-Some.ensures.is) (old.document, old.document) old.document c.reveal_invariant.ensures.crash_consistent)

pub returns-in_err-save-clause-step : goal.returns-in_err-save-clause-step
returns-in_err-save-clause-step g c =
    let facts = g.S.Store.facts in let e = c.in_err-save.ensures in let log = c.self.inside.log.lists in
    let p = err_from_is_err_and c.from_residual.result c.from_residual.ensures.1 in
    let old = session_with c.self.inside.blocks log in
    let new = session_with c.save.new.self log in
    subst (λ (s : SessionState g.row.S.Denot). IsStep facts s new commands.Save (reply_by (λ _. Accepted) c.from_residual.result)) c.self.view_is
    (subst (λ r. IsStep facts old new commands.Save (reply_by (λ _. Accepted) r)) (sym (p.1 ∙ ap Err p.2))
    (save_is facts old new (ap busy_fault c.self.view_is ∙ sym c.in_default.ensures.is) (Err c.in_err-save.field-0.0) e.commit e.fails refl e.resident.1 e.resident.0))

pub returns-clause-step : goal.returns-clause-step
returns-clause-step g c =
    let facts = g.S.Store.facts in let e = c.in_ok-save.ensures in let log = c.self.inside.log.lists in
    let old = session_with c.self.inside.blocks log in
    let new = session_with c.save.new.self c.mark_saved.new.self.lists in
    subst (λ (s : SessionState g.row.S.Denot). IsStep facts s new commands.Save Accepted) c.self.view_is
    (save_is facts old new (ap busy_fault c.self.view_is ∙ sym c.in_default.ensures.is) (Ok c.in_ok-save.field-0) e.commit e.fails c.mark_saved.ensures e.resident.1 e.resident.0)

pub returns-clause-commit : goal.returns-clause-commit
returns-clause-commit g c =
    let facts = g.S.Store.facts in
    let old = session_with c.self.inside.blocks c.self.inside.log.lists in
    let new = session_with c.save.new.self c.mark_saved.new.self.lists in
    subst (λ (s : SessionState g.row.S.Denot). IsSessionCommit facts (s.document, s.document) s.document s new (Ok tt)) c.self.view_is
    (tries_free facts (old.document, old.document) old.document old new (Ok tt) (ap busy_fault c.self.view_is ∙ sym c.in_default.ensures.is) c.in_ok-save.ensures.commit)

pub invariant_of-self : goal.invariant_of-self
invariant_of-self g c = refused_invariant g.S.Store.facts _ _ c.self.inside.blocks c.save.new.self c.self.inside.log.lists _ c.in_err-save.ensures.commit c.self.invariant

pub invariant_of-self-2 : goal.invariant_of-self-2
invariant_of-self-2 g c =
    subst (Holds c.save.new.self) (sym c.mark_saved.ensures) (committed_invariant g.S.Store.facts _ c.self.inside.blocks c.save.new.self c.self.inside.log.lists (Ok tt) c.in_ok-save.ensures.commit c.self.invariant)

use Rattle.std.proofs.Common.{IsTrue, Err, Ok, refl, sym, ap, subst, ◌∙◌}
use Rattle.std.proofs.lemmas.Result.{err_from_is_err_and}
use Rattle.geos_model.specs.Reply.{Accepted, reply_by}
use Rattle.geos_model.specs.declared.command.Command.TheVariants as commands
use Rattle.undo_log.specs.Committing.{IsSessionCommit}
use Rattle.undo_log.specs.Logging.{Log, to_redo, to_undo}
use Rattle.chunk_edits.specs.declared.direction.Direction.TheVariants.{Backwards}
use Rattle.undo_log.specs.Sessions.{SessionState, CanApplyBothByHandle, IsExact, IsStep}
use Rattle.undo_log.specs.Turning.{busy_fault}
use Rattle.undo_log.proofs.Beginnings.{cleared_exact}
use Rattle.undo_log.proofs.CommitSteps.{commit_held, refused_invariant, revert_held, revert_is, tries_free}
use Rattle.undo_log.proofs.Keeping.{none_marked}
use Rattle.undo_log.proofs.Listing.{none_listed}
use Rattle.undo_log.proofs.LookUps.{session_with}
use Rattle.undo_log.proofs.session.Session.revert.Goals as goal

pub returns-in-Some-clause-step : goal.returns-in-Some-clause-step
returns-in-Some-clause-step g c = revert_held g.S.Store.facts c.args.self.now c.in-Some.fault (sym c.in-Some.ensures.is)

pub returns-in-Some-clause-commit : goal.returns-in-Some-clause-commit
returns-in-Some-clause-commit g c =
    let facts = g.S.Store.facts in
    let old = session_with c.self.inside.blocks c.self.inside.log.lists in
    subst (λ (s : SessionState g.row.S.Denot). IsSessionCommit facts (s.disk.saved, s.disk.saved) s.disk.saved s s (Err c.in-Some.fault)) c.self.view_is
    (commit_held facts old c.in-Some.fault (ap busy_fault c.self.view_is ∙ sym c.in-Some.ensures.is) (old.disk.saved, old.disk.saved) old.disk.saved c.reveal_invariant.ensures.crash_consistent)

pub returns-in_err-revert-clause-step : goal.returns-in_err-revert-clause-step
returns-in_err-revert-clause-step g c =
    let facts = g.S.Store.facts in let e = c.in_err-revert.ensures in let log = c.self.inside.log.lists in
    let p = err_from_is_err_and c.from_residual.result c.from_residual.ensures.1 in
    let new = session_with c.revert.new.self log in
    subst (λ (s : SessionState g.row.S.Denot). IsStep facts s new commands.Revert (reply_by (λ _. Accepted) c.from_residual.result)) c.self.view_is
    (subst (λ r. IsStep facts (session_with c.self.inside.blocks log) new commands.Revert (reply_by (λ _. Accepted) r)) (sym (p.1 ∙ ap Err p.2))
    (revert_is facts (session_with c.self.inside.blocks log) new (ap busy_fault c.self.view_is ∙ sym c.in_default.ensures.is) (Err c.in_err-revert.field-0.0) e.commit e.fails refl e.frames e.err tt))

pub returns-clause-step : goal.returns-clause-step
returns-clause-step g c =
    let facts = g.S.Store.facts in let e = c.in_ok-revert.ensures in let log = c.self.inside.log.lists in
    let new = session_with c.revert.new.self c.clear.new.self.lists in
    subst (λ (s : SessionState g.row.S.Denot). IsStep facts s new commands.Revert Accepted) c.self.view_is
    (revert_is facts (session_with c.self.inside.blocks log) new (ap busy_fault c.self.view_is ∙ sym c.in_default.ensures.is) (Ok c.in_ok-revert.field-0) e.commit e.fails c.clear.ensures e.frames e.ok c.reveal_invariant-2.ensures.document)

pub returns-clause-commit : goal.returns-clause-commit
returns-clause-commit g c =
    let facts = g.S.Store.facts in
    let old = session_with c.self.inside.blocks c.self.inside.log.lists in
    let new = session_with c.revert.new.self c.clear.new.self.lists in
    subst (λ (s : SessionState g.row.S.Denot). IsSessionCommit facts (s.disk.saved, s.disk.saved) s.disk.saved s new (Ok tt)) c.self.view_is
    (tries_free facts (old.disk.saved, old.disk.saved) old.disk.saved old new (Ok tt) (ap busy_fault c.self.view_is ∙ sym c.in_default.ensures.is) c.in_ok-revert.ensures.commit)

pub returns-clause-exact : goal.returns-clause-exact
returns-clause-exact g c =
    let facts = g.S.Store.facts in let honest = c.in_ok-revert.ensures.commit.commits.honest in
    let new = session_with c.revert.new.self c.clear.new.self.lists in
    subst (λ (s : SessionState g.row.S.Denot). IsTrue (facts s.disk.store).honest → IsExact facts new) c.self.view_is
    (λ so. cleared_exact facts new c.self.inside.log.lists c.reveal_invariant-2.ensures.document c.clear.ensures (subst IsTrue (sym honest) so))

pub invariant_of-self : goal.invariant_of-self
invariant_of-self g c = refused_invariant g.S.Store.facts _ _ c.self.inside.blocks c.revert.new.self c.self.inside.log.lists _ c.in_err-revert.ensures.commit c.self.invariant

pub invariant_of-self-2 : goal.invariant_of-self-2
invariant_of-self-2 g c = (
  subst (λ (l : Log). CanApplyBothByHandle Backwards c.revert.new.self.document (to_undo l) (to_redo l)) (sym c.clear.ensures) (none_listed c.revert.new.self.document),
  none_marked _ c.self.inside.blocks.disk.marked c.revert.new.self.disk.marked c.self.invariant.1 c.in_ok-revert.ensures.commit.commits.marked,
)

use Rattle.std.proofs.Common.{◌≡◌, None, Err, sym, ap, subst, ◌∙◌}
use Rattle.std.proofs.lemmas.Result.{err_from_is_err_and}
use Rattle.geos_model.specs.Reply.{Accepted, Refused, reply_by}
use Rattle.geos_model.specs.declared.command.Command.TheVariants as commands
use Rattle.geos_model.specs.declared.fault.Fault.TheVariants.{Memory}
use Rattle.undo_log.specs.Logging.{Log}
use Rattle.undo_log.specs.Sessions.{SessionState, IsStep}
use Rattle.undo_log.specs.Turning.{join_fault}
use Rattle.undo_log.proofs.JoinSteps.{join_held, join_lacks, join_step}
use Rattle.undo_log.proofs.LookUps.{session_with}
use Rattle.undo_log.proofs.session.Session.join.Goals as goal

pub returns-in-Some-clause-step : goal.returns-in-Some-clause-step
returns-in-Some-clause-step g c = join_held c.args.self.now g.S.Store.facts c.in-Some.fault (sym c.in-Some.ensures)

pub returns-in_err-join-clause-step : goal.returns-in_err-join-clause-step
returns-in_err-join-clause-step g c =
    let facts = g.S.Store.facts in let blocks = c.self.inside.blocks in
    let old = session_with blocks c.self.inside.log.lists in
    let free : join_fault old ≡ None = ap join_fault c.self.view_is ∙ sym c.in_default.ensures in
    let p = err_from_is_err_and c.from_residual.result c.from_residual.ensures.1 in
    subst (λ (s : SessionState g.row.S.Denot). IsStep facts s (session_with blocks c.join.new.self.lists) commands.Join (reply_by (λ _. Accepted) c.from_residual.result)) c.self.view_is
    (subst (λ r. IsStep facts old (session_with blocks c.join.new.self.lists) commands.Join (reply_by (λ _. Accepted) r)) (sym (p.1 ∙ ap Err p.2))
    (subst (λ (l : Log). IsStep facts old (session_with blocks l) commands.Join (Refused Memory)) (sym c.in_err-join.ensures) (join_lacks old facts free)))

pub returns-clause-step : goal.returns-clause-step
returns-clause-step g c =
    let facts = g.S.Store.facts in let blocks = c.self.inside.blocks in
    let old = session_with blocks c.self.inside.log.lists in
    let free : join_fault old ≡ None = ap join_fault c.self.view_is ∙ sym c.in_default.ensures in
    subst (λ (s : SessionState g.row.S.Denot). IsStep facts s (session_with blocks c.join.new.self.lists) commands.Join Accepted) c.self.view_is
    (subst (λ (l : Log). IsStep facts old (session_with blocks l) commands.Join Accepted) (sym c.in_ok-join.ensures) (join_step old facts free))

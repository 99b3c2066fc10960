use Rattle.std.proofs.Common.{◌≡◌, ◌≢◌, [], None, Result, Ok, Err, IsOk, length, sym, ap, subst, ◌∙◌}
use Rattle.std.proofs.lemmas.Result.{err_from_is_err_and}
use Rattle.geos_model.specs.Reply.{Accepted, Refused, reply_by}
use Rattle.geos_model.specs.declared.command.Command.TheVariants as commands
use Rattle.geos_model.specs.declared.fault.Fault.TheVariants.{Memory}
use Rattle.undo_log.specs.Logging.{Log}
use Rattle.undo_log.specs.Sessions.{SessionState, IsStep}
use Rattle.undo_log.specs.Turning.{name_fault}
use Rattle.undo_log.proofs.JoinSteps.{name_held, name_lacks, name_taken}
use Rattle.undo_log.proofs.LookUps.{session_with}
use Rattle.undo_log.proofs.session.Session.name_step.Goals as goal

pub returns-in-Some-clause-step : goal.returns-in-Some-clause-step
returns-in-Some-clause-step g c = name_held c.args.self.now g.S.Store.facts c.args.name.now c.in-Some.fault (sym c.in-Some.ensures)

pub returns-clause-step : goal.returns-clause-step
returns-clause-step g c =
    let facts = g.S.Store.facts in let blocks = c.self.inside.blocks in
    let old = session_with blocks c.self.inside.log.lists in
    let free : name_fault (length c.args.name.now) old ≡ None = ap (name_fault (length c.args.name.now)) c.self.view_is ∙ sym c.in_default.ensures in
    subst (λ (s : SessionState g.row.S.Denot). IsStep facts s (session_with blocks c.name_newest.new.self.lists) (commands.Name c.args.name.now) Accepted) c.self.view_is
    (subst (λ (l : Log). IsStep facts old (session_with blocks l) (commands.Name c.args.name.now) Accepted) (sym c.in_ok-name_newest.ensures.done) (name_taken old facts c.args.name.now free))

not_both : {A E : Type 0} (r : Result A E) (e : E) → r ≡ Err e → IsOk r → ⊥
not_both (Ok x) e is accepted = cc is
not_both (Err f) e is accepted = cc accepted

pub returns-in_err-name_newest-clause-step : goal.returns-in_err-name_newest-clause-step
returns-in_err-name_newest-clause-step g c =
    let facts = g.S.Store.facts in let blocks = c.self.inside.blocks in let name = c.args.name.now in
    let old = session_with blocks c.self.inside.log.lists in
    let free : name_fault (length name) old ≡ None = ap (name_fault (length name)) c.self.view_is ∙ sym c.in_default.ensures in
    let p = err_from_is_err_and c.from_residual.result c.from_residual.ensures.1 in
    let some : name ≢ [] = λ none. not_both c.name_newest.result _ c.in_err-name_newest.was (c.name_newest.ensures.none none) in
    subst (λ (s : SessionState g.row.S.Denot). IsStep facts s (session_with blocks c.name_newest.new.self.lists) (commands.Name name) (reply_by (λ _. Accepted) c.from_residual.result)) c.self.view_is
    (subst (λ r. IsStep facts old (session_with blocks c.name_newest.new.self.lists) (commands.Name name) (reply_by (λ _. Accepted) r)) (sym (p.1 ∙ ap Err p.2))
    (subst (λ (l : Log). IsStep facts old (session_with blocks l) (commands.Name name) (Refused Memory)) (sym c.in_err-name_newest.ensures.done) (name_lacks old facts name free some)))

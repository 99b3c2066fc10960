use Rattle.std.proofs.Common.{sym, subst}
use Rattle.geos_model.specs.Reply.{Accepted}
use Rattle.geos_model.specs.declared.command.Command.TheVariants as commands
use Rattle.undo_log.specs.Logging.{Log}
use Rattle.undo_log.specs.Sessions.{SessionState, IsStep}
use Rattle.undo_log.proofs.JoinSteps.{forget_step, forgotten_holds}
use Rattle.undo_log.proofs.Keeping.{Holds}
use Rattle.undo_log.proofs.LookUps.{session_with}
use Rattle.undo_log.proofs.session.Session.forget.Goals as goal

pub invariant_of-self : goal.invariant_of-self
invariant_of-self g c = subst (Holds c.self.inside.blocks) (sym c.forget.ensures) (forgotten_holds c.self.inside.blocks c.args.most c.self.inside.log.lists c.self.invariant)

pub returns-clause-step : goal.returns-clause-step
returns-clause-step g c =
    let facts = g.S.Store.facts in let blocks = c.self.inside.blocks in
    let old = session_with blocks c.self.inside.log.lists in
    subst (λ (s : SessionState g.row.S.Denot). IsStep facts s (session_with blocks c.forget.new.self.lists) (commands.Forget c.args.most) Accepted) c.self.view_is
    (subst (λ (l : Log). IsStep facts old (session_with blocks l) (commands.Forget c.args.most) Accepted) (sym c.forget.ensures) (forget_step old facts c.args.most))

use Rattle.std.proofs.Common.{◌≡◌, true, false, Some, is_some, rules, sym, subst}
use Rattle.geos_model.specs.Machine.{Step}
use Rattle.geos_model.specs.Reply.{Accepted}
use Rattle.geos_model.specs.declared.command.Command.TheVariants as commands
use Rattle.undo_log.specs.Logging.{Log}
use Rattle.undo_log.specs.Sessions.{SessionState, machine_of, IsExact}
use Rattle.undo_log.proofs.Groups.{closed_holds, end_exact, end_open}
use Rattle.undo_log.proofs.Keeping.{Holds}
use Rattle.undo_log.proofs.LookUps.{session_with}
use Rattle.undo_log.proofs.session.Session.end.Goals as goal

pub invariant_of-self : goal.invariant_of-self
invariant_of-self g c = subst (Holds c.self.inside.blocks) (sym c.close_group.ensures) (closed_holds c.self.inside.blocks c.self.inside.log.lists c.self.invariant)

pub returns-clause-step : goal.returns-clause-step
returns-clause-step g c = λ target.
    let blocks = c.self.inside.blocks in
    let old = session_with blocks c.self.inside.log.lists in
    let is_open : is_some c.args.self.now.log.group ≡ true = search rules in
    let is_open_there : is_some old.log.group ≡ true = subst (λ (s : SessionState g.row.S.Denot). is_some s.log.group ≡ true) (sym c.self.view_is) is_open in
    subst (λ (s : SessionState g.row.S.Denot). Step false (machine_of target s) (Some commands.End) Accepted (machine_of target (session_with blocks c.close_group.new.self.lists))) c.self.view_is
    (subst (λ (l : Log). Step false (machine_of target old) (Some commands.End) Accepted (machine_of target (session_with blocks l))) (sym c.close_group.ensures) (end_open old is_open_there target))

pub returns-clause-exact : goal.returns-clause-exact
returns-clause-exact g c =
    let facts = g.S.Store.facts in let blocks = c.self.inside.blocks in
    let old = session_with blocks c.self.inside.log.lists in
    subst (λ (s : SessionState g.row.S.Denot). IsExact facts s → IsExact facts (session_with blocks c.close_group.new.self.lists)) c.self.view_is
    (subst (λ (l : Log). IsExact facts old → IsExact facts (session_with blocks l)) (sym c.close_group.ensures) (end_exact old facts))

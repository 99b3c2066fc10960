use Rattle.std.proofs.Common.{Some, false, sym, subst, ◌∙◌}
use Rattle.geos_model.specs.Machine.{Step}
use Rattle.geos_model.specs.Reply.{NumberIs}
use Rattle.geos_model.specs.declared.command.Command.TheVariants as commands
use Rattle.undo_log.specs.Sessions.{SessionState, machine_of}
use Rattle.undo_log.proofs.Locking.{locks_is}
use Rattle.undo_log.proofs.LookUps.{session_with}
use Rattle.undo_log.proofs.session.Session.locks.Goals as goal

pub returns-then-is_live : goal.returns-then-is_live
returns-then-is_live g c = λ target.
    let old = session_with c.self.inside.blocks c.self.inside.log.lists in
    subst (λ (s : SessionState g.row.S.Denot). Step false (machine_of target s) (Some (commands.Locks c.args.block)) (NumberIs c.locks.result) (machine_of target s)) c.self.view_is
    (rw c.locks.ensures (locks_is old c.args.block target (sym c.is_live.ensures ∙ c.if-is_live.true)))

use Rattle.std.proofs.Common.{Some, false, sym, subst}
use Rattle.geos_model.specs.Machine.{Step}
use Rattle.geos_model.specs.Reply.{Accepted, reply_by}
use Rattle.geos_model.specs.declared.command.Command.TheVariants as commands
use Rattle.vm_blocks.specs.State.{CacheState}
use Rattle.undo_log.specs.Sessions.{SessionState, machine_of}
use Rattle.undo_log.proofs.Locking.{dirty_is}
use Rattle.undo_log.proofs.LookUps.{session_with}
use Rattle.undo_log.proofs.session.Session.dirty.Goals as goal

pub returns-clause-step : goal.returns-clause-step
returns-clause-step g c = λ target.
    let e = c.dirty.ensures in let log = c.self.inside.log.lists in
    let old = session_with c.self.inside.blocks log in
    subst (λ (s : SessionState g.row.S.Denot). Step false (machine_of target s) (Some (commands.Dirty c.args.block)) (reply_by (λ _. Accepted) c.dirty.result) (machine_of target (session_with c.dirty.new.self log))) c.self.view_is
    (subst (λ (b : CacheState g.row.S.Denot). Step false (machine_of target old) (Some (commands.Dirty c.args.block)) (reply_by (λ _. Accepted) c.dirty.result) (machine_of target (session_with b log))) (sym e.same)
    (dirty_is old c.args.block c.dirty.result e.ok e.refusals e.early target))

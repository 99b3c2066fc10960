use Rattle.std.proofs.Common.{Some, false, refl, ap, subst}
use Rattle.std.proofs.lemmas.Result.{on_err_weaker}
use Rattle.geos_model.specs.Machine.{Step}
use Rattle.geos_model.specs.Reply.{Accepted, reply_by}
use Rattle.geos_model.specs.declared.command.Command.TheVariants as commands
use Rattle.vm_blocks.specs.State.{CacheState}
use Rattle.undo_log.specs.Sessions.{SessionState, machine_of}
use Rattle.undo_log.proofs.Locking.{unlock_is}
use Rattle.undo_log.proofs.LookUps.{session_with}
use Rattle.undo_log.proofs.session.Session.unlock.Goals as goal

pub returns-clause-step : goal.returns-clause-step
returns-clause-step g c = λ target.
    let e = c.unlock.ensures in let log = c.self.inside.log.lists in
    let new = session_with c.unlock.new.self log in
    subst (λ (s : SessionState g.row.S.Denot). Step false (machine_of target s) (Some (commands.Unlock c.args.block)) (reply_by (λ _. Accepted) c.unlock.result) (machine_of target new)) c.self.view_is
    (unlock_is (session_with c.self.inside.blocks log) new c.args.block c.unlock.result e.ok (on_err_weaker c.unlock.result (λ is. ap (λ (b : CacheState g.row.S.Denot). session_with b log) is) e.err) e.refusals e.early refl target)

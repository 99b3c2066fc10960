use Rattle.std.proofs.Common.{◌≡◌, Err, refl, ap, subst}
use Rattle.std.proofs.lemmas.Result.{on_err_weaker}
use Rattle.geos_model.specs.Reply.{Accepted, reply_by}
use Rattle.geos_model.specs.declared.command.Command.TheVariants as commands
use Rattle.geos_model.specs.declared.fault.Fault.{Fault}
use Rattle.vm_blocks.specs.State.{CacheState}
use Rattle.vm_blocks.specs.Locking.{CantLock}
use Rattle.undo_log.specs.Sessions.{SessionState, cache_of, IsStep}
use Rattle.undo_log.proofs.Locking.{lock_invariant, lock_is}
use Rattle.undo_log.proofs.LookUps.{session_with}
use Rattle.undo_log.proofs.session.Session.lock.Goals as goal

pub returns-clause-step : goal.returns-clause-step
returns-clause-step g c =
    let facts = g.S.Store.facts in let e = c.lock.ensures in let log = c.self.inside.log.lists in
    let new = session_with c.lock.new.self log in
    subst (λ (s : SessionState g.row.S.Denot). IsStep facts s new (commands.Lock c.args.block) (reply_by (λ _. Accepted) c.lock.result)) c.self.view_is
    (lock_is facts (session_with c.self.inside.blocks log) new c.args.block c.reveal_invariant.ensures.distinct c.lock.result e.ok (on_err_weaker c.lock.result (λ keeps. record { blocks = keeps; log = refl }) e.err) e.refusals
    (λ fault cant. (e.early fault cant).0) refl)

pub returns-clause-early : goal.returns-clause-early
returns-clause-early g c =
    let log = c.self.inside.log.lists in
    let new = session_with c.lock.new.self log in
    subst (λ (s : SessionState g.row.S.Denot). (fault : Fault) → CantLock (cache_of s) c.args.block.0 fault → (c.lock.result ≡ Err fault) × (new ≡ s)) c.self.view_is
    (λ fault cant. let is = c.lock.ensures.early fault cant in (is.0, ap (λ (b : CacheState g.row.S.Denot). session_with b log) is.1))

pub invariant_of-self : goal.invariant_of-self
invariant_of-self g c = lock_invariant g.S.Store.facts c.self.inside.blocks c.lock.new.self c.self.inside.log.lists c.args.block.0 c.lock.result c.lock.ensures.ok c.lock.ensures.err c.self.invariant

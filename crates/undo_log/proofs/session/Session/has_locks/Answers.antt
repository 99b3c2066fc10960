use Rattle.std.proofs.Common.{sym, ◌∙◌, subst}
use Rattle.std.specs.Prelude.{◌≡◌}
use Rattle.geos_model.specs.Machine as machine
use Rattle.undo_log.specs.Sessions.{SessionState, has_locked_blocks, machine_of}
use Rattle.undo_log.proofs.LookUps.{session_with}
use Rattle.undo_log.proofs.Locks.{has_locks-is}
use Rattle.undo_log.proofs.session.Session.has_locks.Goals as goal

pub returns-clause-value : goal.returns-clause-value
returns-clause-value g c =
    let old = session_with c.self.inside.blocks c.self.inside.log.lists in
    subst (λ (s : SessionState g.row.S.Denot). c.has_locks.result ≡ has_locked_blocks s) c.self.view_is (c.has_locks.ensures ∙ sym (has_locks-is old c.reveal_invariant.ensures.distinct))

pub returns-clause-machine : goal.returns-clause-machine
returns-clause-machine g c = λ target.
    let old = session_with c.self.inside.blocks c.self.inside.log.lists in
    subst (λ (s : SessionState g.row.S.Denot). c.has_locks.result ≡ machine.has_locks (machine_of target s)) c.self.view_is (c.has_locks.ensures ∙ sym (has_locks-is old c.reveal_invariant.ensures.distinct))

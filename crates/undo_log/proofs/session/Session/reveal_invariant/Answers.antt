use Rattle.std.proofs.Common.{◌≤◌, Bool, length, subst}
use Rattle.geos_model.specs.Machine.{AreValidLocks, IsValidMachine}
use Rattle.document_file.specs.Disk.{IsFileDocument, IsCrashConsistent}
use Rattle.undo_log.specs.Logging.{AreExclusive, open_changes}
use Rattle.undo_log.specs.Sessions.{SessionState, machine_of, IsExact}
use Rattle.undo_log.proofs.Groups.{group_valid}
use Rattle.undo_log.proofs.Locking.{locks_valid}
use Rattle.undo_log.proofs.LookUps.{session_with}
use Rattle.undo_log.proofs.Steps.{past-valid, future-valid}
use Rattle.undo_log.proofs.session.Session.reveal_invariant.Goals as goal

pub returns-clause-listed : goal.returns-clause-listed
returns-clause-listed g c = subst (λ (s : SessionState g.row.S.Denot). IsFileDocument (g.S.Store.facts s.disk.store).honest s.document) c.self.view_is c.reveal_invariant.ensures.listed

pub returns-clause-crash_consistent : goal.returns-clause-crash_consistent
returns-clause-crash_consistent g c = subst (λ (s : SessionState g.row.S.Denot). IsCrashConsistent g.S.Store.facts s.disk) c.self.view_is c.reveal_invariant.ensures.crash_consistent

pub returns-clause-machine : goal.returns-clause-machine
returns-clause-machine g c =
    let e = c.reveal_invariant.ensures in let old = session_with c.self.inside.blocks c.self.inside.log.lists in
    subst (λ (s : SessionState g.row.S.Denot). IsExact g.S.Store.facts s → (target : Bool) → IsValidMachine (machine_of target s)) c.self.view_is (λ exact target. record {
      document = exact.steps.valid;
      past = past-valid old.document old.log exact.steps;
      future = future-valid old.document old.log exact.steps;
      group = group_valid g.S.Store.facts old target exact c.reveal_invariant-2.ensures;
      updated = (c.reveal_invariant.ensures.valid exact.honest).0;
      saved = (c.reveal_invariant.ensures.valid exact.honest).1;
      locks = locks_valid old target e.distinct e.resident e.counts e.few;
    })

pub returns-clause-locks : goal.returns-clause-locks
returns-clause-locks g c =
    let e = c.reveal_invariant.ensures in let old = session_with c.self.inside.blocks c.self.inside.log.lists in
    subst (λ (s : SessionState g.row.S.Denot). (target : Bool) → AreValidLocks (machine_of target s)) c.self.view_is (λ target. locks_valid old target e.distinct e.resident e.counts e.few)

pub returns-clause-group : goal.returns-clause-group
returns-clause-group g c = subst (λ (s : SessionState g.row.S.Denot). AreExclusive (open_changes s.log.group) s.log.redo) c.self.view_is c.reveal_invariant-2.ensures

pub returns-clause-few : goal.returns-clause-few
returns-clause-few g c = subst (λ (s : SessionState g.row.S.Denot). length s.resident ≤ s.frames) c.self.view_is c.reveal_invariant.ensures.few

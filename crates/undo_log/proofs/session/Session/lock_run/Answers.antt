use Rattle.std.proofs.Common.{Ok, subst}
use Rattle.undo_log.specs.LockedRuns.{LocksRun}
use Rattle.undo_log.specs.Sessions.{SessionState}
use Rattle.undo_log.proofs.Keeping.{kept_invariant}
use Rattle.undo_log.proofs.LockedRuns.{handed_on, run_locked, run_unfound, run_unlocked}
use Rattle.undo_log.proofs.Locking.{lock_invariant}
use Rattle.undo_log.proofs.LookUps.{session_with}
use Rattle.undo_log.proofs.session.Session.lock_run.Goals as goal

-- the block isn't found
pub invariant_of-self : goal.invariant_of-self
invariant_of-self g c = kept_invariant g.S.Store.facts c.self.inside.blocks c.prepare_run.new.blocks c.self.inside.log.lists c.in_err-place.ensures.keeps c.self.invariant

pub returns-in_err-place : goal.returns-in_err-place
returns-in_err-place g c =
    let facts = g.S.Store.facts in let log = c.self.inside.log.lists in let fault = c.in_err-place.field-0.0 in
    handed_on facts c.args.root.0 c.args.i _ _ c.self.view_is fault c.from_residual.result c.from_residual.ensures.1
    (run_unfound facts c.self.inside.blocks c.prepare_run.new.blocks log c.args.root.0 c.args.i fault c.in_err-place.ensures)

-- it isn't locked
pub returns-in_err-lock : goal.returns-in_err-lock
returns-in_err-lock g c =
    let facts = g.S.Store.facts in let log = c.self.inside.log.lists in let fault = c.in_err-lock.field-0.0 in
    handed_on facts c.args.root.0 c.args.i _ _ c.self.view_is fault c.from_residual-in_err-lock.result c.from_residual-in_err-lock.ensures.1
    (run_unlocked facts c.self.inside.blocks c.prepare_run.new.blocks log c.args.root.0 c.args.i c.lock.new.self c.in_ok-place.place c.in_ok-place.ensures fault c.in_err-lock.ensures.err c.in_err-lock.ensures.refusals)

pub invariant_of-self-in_err-lock : goal.invariant_of-self-in_err-lock
invariant_of-self-in_err-lock g c =
    let facts = g.S.Store.facts in let a = c.self.inside.blocks in let m = c.prepare_run.new.blocks in let log = c.self.inside.log.lists in
    kept_invariant facts m c.lock.new.self log c.in_err-lock.ensures.err (kept_invariant facts a m log c.in_ok-place.ensures.keeps c.self.invariant)

-- it is
pub invariant_of-self-2 : goal.invariant_of-self-2
invariant_of-self-2 g c =
    let facts = g.S.Store.facts in let a = c.self.inside.blocks in let m = c.prepare_run.new.blocks in let log = c.self.inside.log.lists in
    lock_invariant facts m c.lock.new.self log c.in_ok-place.place.block.0 (Ok tt) c.in_ok-lock.ensures.ok tt (kept_invariant facts a m log c.in_ok-place.ensures.keeps c.self.invariant)

pub returns : goal.returns
returns g c =
    let facts = g.S.Store.facts in let log = c.self.inside.log.lists in let e = c.lock.new.self in let lock = c.in_ok-lock.ensures in
    subst (λ (s : SessionState g.row.S.Denot). LocksRun facts c.args.root.0 c.args.i s (session_with e log) (Ok c.in_ok-place.place)) c.self.view_is
    (run_locked facts c.self.inside.blocks c.prepare_run.new.blocks log c.args.root.0 c.args.i e c.in_ok-place.place c.in_ok-place.ensures c.reveal_invariant.ensures.distinct c.reveal_invariant-2.ensures.counts lock.ok lock.early
    (λ loaded few. let kept = lock.already loaded few in (kept.1, kept.2)))

use Rattle.undo_log.specs.Sessions.{machine_of}
use Rattle.geos_c.proofs.LendingLemmas.{chunk_of_none, chunk_of_other, chunk_of_unlocked, chunk_or_none, handed_on, has_lock, unlocked_by}
use Rattle.geos_c.proofs.lending.locked_chunk.Goals as goal

pub returns-in_err-heap_type : goal.returns-in_err-heap_type
returns-in_err-heap_type g c = λ target.
    handed_on c.from_residual.result _ _ c.from_residual.ensures.1
    (chunk_of_other (machine_of target c.args.session.now) c.args.block c.args.chunk _ (c.in_err-heap_type.ensures target))

pub returns-in_err-locks : goal.returns-in_err-locks
returns-in_err-locks g c = λ target.
    handed_on c.from_residual-in_err-locks.result _ _ c.from_residual-in_err-locks.ensures.1
    (chunk_of_none (machine_of target c.args.session.now) c.args.block c.args.chunk _ (c.in_err-locks.ensures target))

pub returns-then-branch-eq0 : goal.returns-then-branch-eq0
returns-then-branch-eq0 g c = λ target.
    chunk_of_unlocked (machine_of target c.args.session.now) c.args.block c.args.chunk _ (c.in_ok-heap_type.ensures target)
    (unlocked_by c.args.session.now target c.args.block _ (c.in_ok-locks.ensures target) c.if-branch-eq0.true)

pub returns : goal.returns
returns g c = λ target.
    rw c.ok_or.ensures.value (chunk_or_none (machine_of target c.args.session.now) c.args.block c.args.chunk _ (c.in_ok-heap_type.ensures target)
    (has_lock c.args.session.now target c.args.block _ (c.in_ok-locks.ensures target) c.if-branch-eq0.false) c.locked_chunk.result (c.locked_chunk.ensures target))

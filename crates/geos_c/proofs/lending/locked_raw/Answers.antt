use Rattle.std.proofs.Common.{sym}
use Rattle.undo_log.specs.Sessions.{machine_of}
use Rattle.geos_c.proofs.LendingLemmas.{handed_on, raw_of_heap, raw_of_none, raw_or_none}
use Rattle.geos_c.proofs.lending.locked_raw.Goals as goal

pub returns-in_err-locks : goal.returns-in_err-locks
returns-in_err-locks g c = λ target.
    handed_on c.from_residual.result _ _ c.from_residual.ensures.1
    (raw_of_none (machine_of target c.args.session.now) c.args.block _ (c.in_err-locks.ensures target))

pub returns-then-is_ok : goal.returns-then-is_ok
returns-then-is_ok g c = λ target.
    raw_of_heap (machine_of target c.args.session.now) c.args.block c.heap_type.result (sym c.if-is_ok.ensures.value) (c.heap_type.ensures target)

pub returns : goal.returns
returns g c = λ target.
    rw c.ok_or.ensures.value (raw_or_none (machine_of target c.args.session.now) c.args.block _ (c.in_ok-locks.ensures target)
    c.heap_type.result (sym c.if-is_ok.ensures.value) (c.heap_type.ensures target) c.locked_raw.result (c.locked_raw.ensures target))

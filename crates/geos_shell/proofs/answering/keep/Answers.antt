use Rattle.std.proofs.Common.{◌+◌, ◌<◌, length, arith}
use Rattle.std.proofs.lemmas.Result.{on_ok_weaker}
use Rattle.geos_shell.proofs.Lines.{StandsFor-front}
use Rattle.geos_replies.proofs.Calls.{on_ok_if}
use Rattle.geos_shell.proofs.answering.keep.Goals as goal

-- The front that is kept makes the line too long where it is not the whole.
pub returns-clause-ok : goal.returns-clause-ok
returns-clause-ok c =
    let old = c.args.begun.now in
    let room = c.saturating_sub-room.result in
    let wide : 140000 < length old.items + room = omega (arith, old.ok.0, c.len.ensures, c.saturating_sub-room.ensures) in
    on_ok_weaker c.extend_from_slice.result (λ e. rw e (StandsFor-front old.items c.args.part.now room c.min.result wide c.min.ensures)) (on_ok_if c.extend_from_slice.result _ _ _ c.extend_from_slice.ensures.items)

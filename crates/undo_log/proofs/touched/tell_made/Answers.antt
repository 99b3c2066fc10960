use Rattle.std.proofs.Common.{◌≢◌, [], arith}
use Rattle.undo_log.specs.Telling.{all_places}
use Rattle.undo_log.proofs.Telling.{if_err, places_there}
use Rattle.undo_log.proofs.touched.tell_made.Goals as goal

pub returns-in_err-append_places-clause-err : goal.returns-in_err-append_places-clause-err
returns-in_err-append_places-clause-err c =
    if_err c.from_residual.result (all_places c.args.direction c.args.changes.now ≢ [])
    (places_there c.args.direction c.args.changes.now c.loop-change.change-index c.change-item.result (omega (arith, c.loop-change-test.true)) c.change-item.is c.in_err-append_places.ensures.err)

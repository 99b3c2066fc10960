use Rattle.std.proofs.Common.{refl}
use Rattle.geos_shell.proofs.Causes.{unread_cause}
use Rattle.geos_shell.proofs.program.run_program.Goals as goal

-- The words are served.
pub returns-in-Ok : goal.returns-in-Ok
returns-in-Ok g c =
    let done = c.serve-outcome in
    (done.result, done.new.writer, rw c.in-Ok.is (rw c.as_slice.ensures.value at done.ensures.comes_to), done.ensures.cause, c.tell.ensures)

-- They couldn't be read.
pub returns-in-Err : goal.returns-in-Err
returns-in-Err g c =
    let outcome = c.unread-outcome.result in
    let unread = c.unread-outcome.ensures in
    (outcome, c.args.writer.now, rw c.in-Err.is (unread, refl, refl, refl), unread_cause _ _ outcome unread, c.tell-in-Err.ensures)

use Rattle.std.proofs.lemmas.Result.{IfErr-weaker, err_from_is_err_and, on_ok_weaker}
use Rattle.std.proofs.Common.{inl, inr}
use Rattle.geos_replies.specs.Holdings.{holding}
use Rattle.geos_shell.specs.Progress.{moment}
use Rattle.geos_shell.proofs.Runs.{Unsent-end}
use Rattle.geos_shell.proofs.runner.answer_rest.Goals as goal

-- The writer failed behind the last line.
pub returns-in_err-send-clause-err : goal.returns-in_err-send-clause-err
returns-in_err-send-clause-err g c =
    let old = moment (holding c.args.session.now c.args.target.now c.args.former.now) c.args.answering.now in
    let done = c.end-ended in
    let new = moment (holding done.new.session done.new.target done.new.former) done.new.self in
    let ended = err_from_is_err_and c.from_residual.result c.from_residual.ensures.1 in
    rw (ended.1, ended.2) (inl (c.in_err-send.ensures.err.0, Unsent-end g.S.Store.facts c.args.manner old new done.result done.ensures.ok done.ensures.err))

-- It is answered, and its reply sent.
pub returns-clause-ok : goal.returns-clause-ok
returns-clause-ok g c =
    let done = c.end-ended in
    on_ok_weaker done.result (λ ends. record { written = done.new.self.replies.items; appended = c.in_ok-send.ensures.ok.1; answered = ends }) done.ensures.ok

-- The run stopped in it.
pub returns-clause-err : goal.returns-clause-err
returns-clause-err g c =
    let done = c.end-ended in
    IfErr-weaker done.result _ _ (λ fault stops. inr (record { written = done.new.self.replies.items; appended = c.in_ok-send.ensures.ok.1; stops = stops })) done.ensures.err

use Rattle.std.proofs.Common.{◌≡◌, length, refl, arith}
use Rattle.std.proofs.lemmas.Result.{IfErr-weaker, err_from_is_err_and, on_ok_weaker}
use Rattle.std.proofs.lemmas.Bool.Decides.{nat_tests}
use Rattle.geos_replies.specs.Holdings.{holding}
use Rattle.geos_shell.specs.Progress.{moment}
use Rattle.geos_shell.proofs.Lasting.{line_answered, line_stopped}
use Rattle.geos_shell.proofs.Lines.{StandsFor-whole}
use Rattle.geos_shell.proofs.Steps.{StopsIn-same}
use Rattle.geos_shell.proofs.answering.Answering.end_line.Goals as goal

-- A line that lies in the piece is answered from there.
pub returns-then-is_empty-clause-ok : goal.returns-then-is_empty-clause-ok
returns-then-is_empty-clause-ok g c =
    let old = c.args.self.now in
    let tail = c.args.tail.now in
    let now = holding c.args.session.now c.args.target.now c.args.former.now in
    let new = holding c.answer.new.session c.answer.new.target c.answer.new.former in
    let none : length old.begun.items ≡ 0 = grind (arith, nat_tests, old.begun.ok.0) in
    on_ok_weaker c.answer.result (λ answers free start read sent p.
    line_answered g.S.Store.facts c.args.manner start now new read old.begun.items sent old.replies.items c.answer.new.out.items old.ended tail tail old.begun.items (StandsFor-whole old.begun.items tail none) none free answers p) c.answer.ensures.ok

-- The run stops in it.
pub returns-then-is_empty-clause-err : goal.returns-then-is_empty-clause-err
returns-then-is_empty-clause-err g c =
    let old = c.args.self.now in
    let tail = c.args.tail.now in
    let now = holding c.args.session.now c.args.target.now c.args.former.now in
    let new = holding c.answer.new.session c.answer.new.target c.answer.new.former in
    let none : length old.begun.items ≡ 0 = grind (arith, nat_tests, old.begun.ok.0) in
    IfErr-weaker c.answer.result _ _ (λ fault stops free rest start read sent p.
    line_stopped g.S.Store.facts c.args.manner start now new read old.begun.items sent old.replies.items c.answer.new.out.items old.ended fault tail tail rest (StandsFor-whole old.begun.items tail none) free stops p) c.answer.ensures.err

-- A line that began before is answered from what was kept.
pub returns-clause-ok : goal.returns-clause-ok
returns-clause-ok g c free start read sent p =
    let old = c.args.self.now in
    let now = holding c.args.session.now c.args.target.now c.args.former.now in
    let new = holding c.answer-2.new.session c.answer-2.new.target c.answer-2.new.former in
    let none : length c.clear.new.self.items ≡ 0 = rw c.clear.ensures.items in
    let stands = rw (← c.deref.ensures.value) at c.in_ok-keep.ensures.ok in
    line_answered g.S.Store.facts c.args.manner start now new read old.begun.items sent old.replies.items c.answer-2.new.out.items old.ended c.args.tail.now c.deref.result.now c.clear.new.self.items stands none free c.in_ok-answer.ensures.ok p

-- There was no memory to keep its front.
pub returns-in_err-keep-clause-err : goal.returns-in_err-keep-clause-err
returns-in_err-keep-clause-err g c =
    let held = holding c.args.session.now c.args.target.now c.args.former.now in
    let old = moment held c.args.self.now in
    let new = moment held (record c.args.self.now { begun = c.keep.new.begun }) in
    let ended = err_from_is_err_and c.from_residual.result c.from_residual.ensures.1 in
    rw (ended.1, ended.2) (λ free rest. StopsIn-same g.S.Store.facts c.args.manner old new _ refl refl)

-- The run stops in it.
pub returns-in_err-answer-clause-err : goal.returns-in_err-answer-clause-err
returns-in_err-answer-clause-err g c =
    let old = c.args.self.now in
    let now = holding c.args.session.now c.args.target.now c.args.former.now in
    let new = holding c.answer-2.new.session c.answer-2.new.target c.answer-2.new.former in
    let stands = rw (← c.deref.ensures.value) at c.in_ok-keep.ensures.ok in
    let ended = err_from_is_err_and c.from_residual-in_err-answer.result c.from_residual-in_err-answer.ensures.1 in
    rw (ended.1, ended.2) (λ free rest start read sent p.
    line_stopped g.S.Store.facts c.args.manner start now new read old.begun.items sent old.replies.items c.answer-2.new.out.items old.ended _ c.args.tail.now c.deref.result.now rest stands free c.in_err-answer.ensures.err p)

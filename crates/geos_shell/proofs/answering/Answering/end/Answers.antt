use Rattle.std.proofs.Common.{◌≡◌, ◌<◌, length, arith}
use Rattle.std.proofs.lemmas.Result.{IfErr-weaker, on_ok_weaker}
use Rattle.std.proofs.lemmas.Bool.Decides.{nat_tests}
use Rattle.geos_replies.specs.Holdings.{holding}
use Rattle.geos_shell.proofs.Lasting.{last_answered, last_stopped}
use Rattle.geos_shell.proofs.Steps.{Answered-all}
use Rattle.geos_shell.proofs.answering.Answering.end.Goals as goal

-- Nothing is kept, so the last line feed ended the last line.
pub returns-then-is_empty-clause-ok : goal.returns-then-is_empty-clause-ok
returns-then-is_empty-clause-ok g c start read sent p =
    let old = c.args.self.now in
    let none : length old.begun.items ≡ 0 = grind (arith, nat_tests, old.begun.ok.0) in
    Answered-all p none

-- What is kept is the last line.
pub returns-clause-ok : goal.returns-clause-ok
returns-clause-ok g c =
    let old = c.args.self.now in
    let now = holding c.args.session.now c.args.target.now c.args.former.now in
    let new = holding c.answer.new.session c.answer.new.target c.answer.new.former in
    let some : 0 < length old.begun.items = grind (arith, nat_tests, old.begun.ok.0) in
    on_ok_weaker c.answer.result (λ answers start read sent p.
    last_answered g.S.Store.facts c.args.manner start now new read old.begun.items sent old.replies.items c.answer.new.out.items old.ended c.deref.result.now c.deref.ensures.value some answers p) c.answer.ensures.ok

-- The run stops in it.
pub returns-clause-err : goal.returns-clause-err
returns-clause-err g c =
    let old = c.args.self.now in
    let now = holding c.args.session.now c.args.target.now c.args.former.now in
    let new = holding c.answer.new.session c.answer.new.target c.answer.new.former in
    let some : 0 < length old.begun.items = grind (arith, nat_tests, old.begun.ok.0) in
    IfErr-weaker c.answer.result _ _ (λ fault stops start read sent p.
    last_stopped g.S.Store.facts c.args.manner start now new read old.begun.items sent old.replies.items c.answer.new.out.items old.ended fault c.deref.result.now c.deref.ensures.value some stops p) c.answer.ensures.err

use Rattle.std.proofs.Common.{◌∙◌, ◌++◌, drop, length, refl, sym}
use Rattle.geos_replies.specs.Holdings.{holding}
use Rattle.geos_shell.specs.Manners.{begins_with_no, lead}
use Rattle.geos_shell.proofs.Manners.{answered, both_so, refused}
use Rattle.geos_shell.proofs.answering.answer.Goals as goal

-- The line is refused, and the run bails.
pub returns-in-Ok-true-clause-err : goal.returns-in-Ok-true-clause-err
returns-in-Ok-true-clause-err g c =
    let old = holding c.args.session.now c.args.target.now c.args.former.now in
    let new = holding c.push_lines.new.session c.push_lines.new.target c.push_lines.new.former in
    let is_no = begins_with_no (drop (length (c.args.out.now.items ++ lead c.args.manner.echoes c.args.line.now)) c.push_lines.new.out.items) in
    let both = both_so c.args.manner.bails is_no (sym c.in-Ok-true.ensures.refused ∙ c.in-Ok-true.field-0-test) in
    (refl, both.0, refused g.S.Store.facts c.args.manner old new c.args.line.now c.args.out.now.items c.push_lines.new.out.items c.in-Ok-true.ensures.ok both.1)

-- It isn't, or the run goes on.
pub returns-in-Ok-false-clause-ok : goal.returns-in-Ok-false-clause-ok
returns-in-Ok-false-clause-ok g c =
    let old = holding c.args.session.now c.args.target.now c.args.former.now in
    let new = holding c.push_lines.new.session c.push_lines.new.target c.push_lines.new.former in
    answered g.S.Store.facts c.args.manner old new c.args.line.now c.args.out.now.items c.push_lines.new.out.items c.in-Ok-false.ensures.ok (sym c.in-Ok-false.ensures.refused ∙ c.in-Ok-false.field-0-test)

use Rattle.geos_script.proofs.Spelling.{handle-refused}
use Rattle.geos_script.proofs.operands.handle.Goals as goal

pub returns-then-word-ne4 : goal.returns-then-word-ne4
returns-then-word-ne4 c =
    let none = handle-refused c.args.word.now (λ four all. absurd (c.if-word-ne4.true four)) in
    rw none

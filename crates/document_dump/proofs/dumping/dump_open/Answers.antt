use Rattle.std.proofs.Common.{codes}
use Rattle.document_dump.specs.Lines.{text}
use Rattle.document_dump.specs.Changes.{changes}
use Rattle.document_dump.proofs.Joined.{changed_some, changed_none}
use Rattle.document_dump.proofs.dumping.dump_open.Goals as goal

pub returns-then-some-clause-ok : goal.returns-then-some-clause-ok
returns-then-some-clause-ok g c = λ so.
    let known = c.in_ok-some.ensures.ok so in
    changed_some (text (changes c.args.file.now.saved c.args.file.now.updated)) (codes "update\n") c.in_ok-some.some (g.W.Write.contents c.args.writer.now) (g.W.Write.contents c.write_changes.new.writer) (g.W.Write.contents c.send.new.writer) known.0 c.if-some.true known.1
    c.in_ok-send.ensures.ok.1

pub returns-clause-ok : goal.returns-clause-ok
returns-clause-ok g c = λ so.
    let known = c.in_ok-some.ensures.ok so in
    changed_none (text (changes c.args.file.now.saved c.args.file.now.updated)) (codes "update\n") c.in_ok-some.some (g.W.Write.contents c.args.writer.now) (g.W.Write.contents c.write_changes.new.writer) known.0 c.if-some.false known.1

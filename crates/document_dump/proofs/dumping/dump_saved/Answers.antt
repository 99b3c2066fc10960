use Rattle.std.proofs.KnownBytes.{Appends-trans}
use Rattle.document_dump.proofs.dumping.dump_saved.Goals as goal

pub returns-clause-ok : goal.returns-clause-ok
returns-clause-ok g c = λ so. Appends-trans (g.W.Write.contents c.args.writer.now) (g.W.Write.contents c.write_changes.new.writer) (g.W.Write.contents c.send.new.writer) _ _ (c.in_ok-write_changes.ensures.ok so).1 c.in_ok-send.ensures.ok.1

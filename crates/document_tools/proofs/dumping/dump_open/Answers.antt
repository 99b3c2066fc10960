use Rattle.document_tools.proofs.Looked.{dumped_open}
use Rattle.document_tools.proofs.dumping.dump_open.Goals as goal

pub returns-clause-told : goal.returns-clause-told
returns-clause-told g c =
    let wrote = c.write_dump-left in
    dumped_open g.S.Store.facts g.W.Sink.contents g.W.Sink.writes c.args.name.now c.args.which c.args.file.now wrote.new.file c.args.writer wrote.result.0 wrote.result.1 c.dump_ending.result
    wrote.ensures.ok wrote.ensures.fails wrote.ensures.cause c.dump_ending.ensures

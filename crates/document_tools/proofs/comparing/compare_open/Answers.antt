use Rattle.document_tools.proofs.Compared.{compared_open}
use Rattle.document_tools.proofs.comparing.compare_open.Goals as goal

pub returns-clause-told : goal.returns-clause-told
returns-clause-told g c =
    let wrote = c.write_diff-left in
    compared_open g.S.Store.facts g.W.Sink.contents g.W.Sink.writes c.args.names.first.now c.args.names.second.now c.args.version c.args.first.now wrote.new.first c.args.second.now wrote.new.second c.args.writer wrote.result.0
    wrote.result.1 c.diff_ending.result wrote.ensures.ok wrote.ensures.fails wrote.ensures.cause c.diff_ending.ensures

use Rattle.document_tools.proofs.Looked.{mapped_store}
use Rattle.document_tools.proofs.mapping.map_store.Goals as goal

pub returns-clause-told : goal.returns-clause-told
returns-clause-told g c =
    let drawn = c.draw_to-left in
    mapped_store g.W.Sink.contents g.W.Sink.writes c.args.file.now c.args.picture (g.S.Store.facts c.args.store.now) (g.S.Store.facts drawn.new.store) c.args.writer drawn.result.0 drawn.result.1 c.map_ending.result
    drawn.ensures.text drawn.ensures.file drawn.ensures.refusals drawn.ensures.cause c.map_ending.ensures

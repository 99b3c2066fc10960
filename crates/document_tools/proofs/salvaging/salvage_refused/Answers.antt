use Rattle.document_tools.proofs.SalvageLemmas.{salvaged_told}
use Rattle.document_tools.proofs.salvaging.salvage_refused.Goals as goal

pub returns : goal.returns
returns g c =
    let wrote = c.write_salvage-left in
    let facts = g.S.Store.facts in (
      wrote.new.store,
      wrote.ensures.reads,
      salvaged_told g.W.Sink.contents g.W.Sink.writes c.args.name.now c.args.all (facts c.args.store) (facts wrote.new.store) c.args.writer wrote.result.0 wrote.result.1 c.salvage_ending.result
          wrote.ensures.ok wrote.ensures.fails wrote.ensures.cause c.salvage_ending.ensures,
    )

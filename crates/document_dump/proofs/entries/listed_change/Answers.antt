use Rattle.std.proofs.Common.{sym, ◌∙◌}
use Rattle.file_format.proofs.LooksLemmas.{OnlyReadsStore-refl}
use Rattle.document_dump.proofs.Listed.{block_under, free_change}
use Rattle.document_dump.proofs.Steps.{live-empty}
use Rattle.document_dump.proofs.entries.listed_change.Goals as goal

pub returns-in-None-clause-reads : goal.returns-in-None-clause-reads
returns-in-None-clause-reads g c = OnlyReadsStore-refl (g.S.Store.facts c.args.store.now)

pub returns-in-None-clause-ok : goal.returns-in-None-clause-ok
returns-in-None-clause-ok g c = λ so map_block d is. free_change (g.S.Store.facts c.args.store.now).content map_block c.args.entries.now d is c.args.block.0 (sym c.in-None.ensures)

pub returns-in_ok-image-in-Some-clause-ok : goal.returns-in_ok-image-in-Some-clause-ok
returns-in_ok-image-in-Some-clause-ok g c = λ so map_block d is.
    let h = c.args.block.0 in
    let b = block_under (g.S.Store.facts c.args.store.now).content map_block c.args.entries.now d is h c.in-Some.entry (sym c.in-Some.ensures) in
    (b.0, sym (live-empty h), b.1, b.2, c.in_ok-image-in-Some.ensures.bytes so ∙ b.3)

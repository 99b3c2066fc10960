use Rattle.std.proofs.Common.{IsTrue, sym, subst}
use Rattle.std.proofs.lemmas.Result.{on_ok_weaker}
use Rattle.document_file.proofs.MakingLemmas.{laid_open}
use Rattle.document_file.proofs.making.initialize.Goals as goal

pub returns-clause-laid : goal.returns-clause-laid
returns-clause-laid g c = on_ok_weaker c.open_first.result (λ opened holds.
    let still = subst IsTrue (sym c.write_with_gate_shut.ensures.honest) holds in
    laid_open c.args.slots.now.version c.args.slots.now.committed c.args.text.now _ _ _ c.requires.behind (c.in_ok-write_with_gate_shut.ensures.laid holds) (opened still)) c.open_first.ensures.opened

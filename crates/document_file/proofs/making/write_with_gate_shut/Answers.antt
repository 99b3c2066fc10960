use Rattle.std.proofs.Common.{IsTrue, sym, subst}
use Rattle.std.proofs.lemmas.Result.{on_ok_weaker}
use Rattle.vm_store.specs.Facts.{WritesBytes}
use Rattle.document_file.proofs.MakingLemmas.{slots_laid}
use Rattle.document_file.proofs.making.write_with_gate_shut.Goals as goal

pub returns-clause-laid : goal.returns-clause-laid
returns-clause-laid g c = on_ok_weaker c.write_slots.result (λ first holds.
    let still = subst IsTrue (sym c.write_at.ensures.honest) holds in
    let b = (g.S.Store.facts c.write_at.new.self).content in
    let a = (g.S.Store.facts c.args.store.now).content in
    let puts = first still in
    slots_laid c.args.slots.now.version c.args.slots.now.committed c.args.text.now a b puts.0 _ c.requires.behind (subst (λ n. WritesBytes n c.args.text.now a b) c.start_of.ensures (c.in_ok-write_at.ensures.written holds)) puts.1 puts.2) c.write_slots.ensures.first

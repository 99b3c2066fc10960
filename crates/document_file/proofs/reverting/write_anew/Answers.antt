use Rattle.std.proofs.Common.{sym, subst}
use Rattle.document_file.specs.Documents.{IsStored}
use Rattle.document_file.specs.PendingDirectories.{reverted}
use Rattle.document_file.proofs.DocumentsLemmas.{stored_newer}
use Rattle.document_file.proofs.PassingLemmas.{KeepsCommitted-refl}
use Rattle.document_file.proofs.reverting.write_anew.Goals as goal

pub returns-in-None-clause-passes : goal.returns-in-None-clause-passes
returns-in-None-clause-passes g c = KeepsCommitted-refl g.S.Store.facts _

pub returns-in-None-clause-stored : goal.returns-in-None-clause-stored
returns-in-None-clause-stored g c so =
    let slots = c.args.slots.now in
    let content = (g.S.Store.facts c.args.store.now).content in
    subst (λ o. IsStored slots.next_version content (reverted slots o)) (sym c.in-None.is)
    (stored_newer slots.version slots.next_version content slots.committed.saved c.requires.sound.formed.next_version (c.requires.none c.in-None.is) (c.requires.sound.whole so).committed.saved)

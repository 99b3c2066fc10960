use Rattle.std.proofs.Common.{◌≡◌, IsTrue, [], true, subst, sym, ◌∙◌}
use Rattle.document_file.specs.Documents.{has_one_directory}
use Rattle.document_file.proofs.OneDirectoryLemmas.{counted_directory, same_document, same_extent}
use Rattle.document_file.proofs.file.VmFile.has_one_directory.Goals as goal

pub returns-clause-content : goal.returns-clause-content
returns-clause-content g c =
    let i = c.self.inside in
    subst (λ f. IsTrue (g.S.Store.facts f.disk.store).honest → f.disk.in_doubt ≡ [] → c.eq.result ≡ has_one_directory (g.S.Store.facts f.disk.store).content) c.self.view_is
    (λ so none. c.eq.ensures ∙ sym (counted_directory g.S.Store.facts i.store i.live i.slots (g.met.S.Store.timely i.store) c.self.invariant.sound so none))

pub returns-clause-same : goal.returns-clause-same
returns-clause-same g c =
    let i = c.self.inside in
    let pair = i.slots.committed in
    subst (λ f. IsTrue (g.S.Store.facts f.disk.store).honest → c.eq.result ≡ true → f.disk.saved ≡ f.disk.updated) c.self.view_is
    (λ so yes.
    let stored = (c.self.invariant.sound.whole so).committed in
    let tables = c.self.invariant.sound.formed.committed in
    same_document i.slots.version (g.S.Store.facts i.store).content pair.updated pair.saved tables.updated tables.saved stored.updated stored.saved (same_extent pair.updated.directory pair.saved.directory (sym c.eq.ensures ∙ yes)))

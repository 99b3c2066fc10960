-- The documents of a stage stay while a file is only read.
use Rattle.std.proofs.Common.{◌≡◌, IsTrue, refl, sym, subst}
use Rattle.vm_store.specs.Facts.{StoreFacts}
use Rattle.document_file.specs.StoredDocuments.{OnlyReadsDocuments, StoredState}
use Rattle.document_dump.specs.Versions.{old_in, new_in}
use Rattle.document_dump.specs.declared.versions.Stage.{Stage}
use Rattle.document_dump.specs.declared.versions.Stage.TheVariants as stages

module _ {S : Type 0} (facts : S → StoreFacts) (a b : StoredState S) (reads : OnlyReadsDocuments facts a b) (so : IsTrue (facts a.store).honest) where
  pub still_honest : IsTrue (facts b.store).honest
  still_honest = subst IsTrue (sym reads.store.honest) so

  pub old_same : (stage : Stage) → old_in stage b ≡ old_in stage a
  old_same stages.Saved = refl
  old_same stages.Open = reads.saved.same so

  pub new_same : (stage : Stage) → new_in stage b ≡ new_in stage a
  new_same stages.Saved = reads.saved.same so
  new_same stages.Open = reads.updated.same so

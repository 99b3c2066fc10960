-- Files that are only read.
use Rattle.std.proofs.Common.{◌≡◌, IsTrue, sym, subst}
use Rattle.vm_store.specs.Facts.{StoreFacts}
use Rattle.file_format.proofs.LooksLemmas.{raised_later, still}
use Rattle.file_format.specs.Reading.{OnlyReadsStore}
use Rattle.document_file.specs.Disk.{IsFileDocument}
use Rattle.document_file.specs.StoredDocuments.{AreFileDocuments, OnlyReadsDocuments, StoredState}
use Rattle.document_diff.specs.Diffs.{document_by}
use Rattle.document_diff.specs.Faults.{IsDiffRefusal}
use Rattle.document_diff.specs.declared.fault.DiffFault.{DiffFault}
use Rattle.document_diff.specs.declared.fault.DiffFault.TheVariants as diff_faults
use Rattle.document_diff.specs.declared.fault.Side.TheVariants as sides
use Rattle.document_diff.specs.declared.version.Version.{Version}
use Rattle.document_diff.specs.declared.version.Version.TheVariants as versions
use Rattle.document_diff.proofs.Same.{CanBe}

module _ {S : Type 0} (facts : S → StoreFacts) (a b : StoredState S) (reads : OnlyReadsDocuments facts a b) (so : IsTrue (facts a.store).honest) where
  pub still_honest : IsTrue (facts b.store).honest
  still_honest = subst IsTrue (sym reads.store.honest) so

  pub same_document : (version : Version) → document_by version b ≡ document_by version a
  same_document versions.Updated = reads.updated.same so
  same_document versions.Saved = reads.saved.same so

-- a document of a file, if its store is honest
module _ {S : Type 0} (facts : S → StoreFacts) (a : StoredState S) (are : AreFileDocuments facts a) where
  pub file_document : (version : Version) → IsFileDocument (facts a.store).honest (document_by version a)
  file_document versions.Updated = are.updated
  file_document versions.Saved = are.saved

  pub can_be : (version : Version) → IsTrue (facts a.store).honest → CanBe (document_by version a)
  can_be version so = let is = file_document version in record { handles = is.handles; bodies = is.bodies so }

-- what is so of a part of a call is so of the whole
pub refused_later : (a b c x y z : StoreFacts) (fault : DiffFault) → OnlyReadsStore a b → OnlyReadsStore x y → IsDiffRefusal b c y z fault → IsDiffRefusal a c x z fault
refused_later a b c x y z diff_faults.Memory first second is = tt
refused_later a b c x y z (diff_faults.File sides.Old) first second is = raised_later a b c first is
refused_later a b c x y z (diff_faults.File sides.New) first second is = raised_later x y z second is
refused_later a b c x y z (diff_faults.Damaged sides.Old) first second is = λ so. is (still a b first so)
refused_later a b c x y z (diff_faults.Damaged sides.New) first second is = λ so. is (still x y second so)
refused_later a b c x y z diff_faults.Write first second is = tt

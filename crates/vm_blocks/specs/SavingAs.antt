-- What a save-as does to the old file and to the target, which takes its place.
use Rattle.std.specs.Prelude.{◌≡◌, ◌⊎◌, ◌&&◌, ℕ, IsTrue, Ok, Err}
use Rattle.geos_model.specs.Document.{is_live}
use Rattle.geos_model.specs.declared.fault.Fault.{Fault}
use Rattle.geos_model.specs.declared.fault.Fault.TheVariants.{File, Damaged, Worn}
use Rattle.vm_store.specs.Facts.{StoreFacts, FailedSince}
use Rattle.document_file.specs.Calls.{IsCommitRefusal}
use Rattle.document_file.specs.Disk.{Disk, FileState, MayCommit, SameUnlessCorrupt, KeepsCommitted}
use Rattle.document_file.specs.Effects.{SameStore, IsNewFile}

-- A save-as that was accepted: the old file has committed its saved document, and its store came back; the target is a
-- new file, with the handles of the document, over two honest stores of the document itself, and takes the file's
-- place; it has checksums where the old file has.
pub record IsSavedAs {S : Type 0} (facts : S → StoreFacts) (target store : S) (old new : FileState S) : Type 0 where
  pub reverted : (disk : Disk S) × (disk.store ≡ store)
      × MayCommit facts (old.disk.saved, old.disk.saved) old.disk disk (Ok tt)
  pub new_file : IsNewFile facts new.disk.updated new.disk
  pub made : IsTrue (facts old.disk.store).honest → IsTrue (facts target).honest
      → (new.disk.updated ≡ old.document) × (new.disk.saved ≡ old.document)
  pub live : (h : ℕ) → is_live new.disk.updated h ≡ is_live old.document h
  pub follows : SameStore facts target new.disk.store
  pub document : SameUnlessCorrupt ((facts old.disk.store).honest && (facts target).honest) old.document new.document
  pub checksums : new.disk.checksums ≡ old.disk.checksums

-- A save-as that was refused: the file stays in its place, and the target comes back; unless the file's own store
-- failed nothing was committed in it, and where its number can't rise nothing was done at all.
pub record IsNotSavedAs {S : Type 0} (facts : S → StoreFacts) (target store : S) (old new : FileState S)
    (fault : Fault) : Type 0 where
  pub commits : MayCommit facts (old.disk.saved, old.disk.saved) old.disk new.disk (Err fault)
  pub passes : (fault ≡ File → FailedSince (facts old.disk.store) (facts new.disk.store) → ⊥)
      → KeepsCommitted facts old.disk new.disk
  pub follows : SameStore facts target store
  pub document : SameUnlessCorrupt (facts old.disk.store).honest old.document new.document
  pub early : fault ≡ Worn → (new ≡ old) × (store ≡ target)
  -- a store failed in this very call; bytes that are no image never come from an honest store
  pub file : fault ≡ File
      → FailedSince (facts old.disk.store) (facts new.disk.store) ⊎ FailedSince (facts target) (facts store)
  pub damaged : fault ≡ Damaged → IsTrue (facts old.disk.store).honest → ⊥
  pub faults : IsCommitRefusal fault ⊎ (fault ≡ Damaged)

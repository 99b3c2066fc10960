-- What opening a document file gives, and making a new one.
use Rattle.std.specs.Prelude.{◌≡◌, ◌≢◌, ◌⊎◌, ◌||◌, Bool, IsTrue, [], None, Some, Ok, Err, true, length}
use Rattle.geos_model.specs.Document.{empty_document}
use Rattle.file_format.specs.File.{stands}
use Rattle.geos_model.specs.declared.fault.Fault.{Fault}
use Rattle.geos_model.specs.declared.fault.Fault.TheVariants.{File}
use Rattle.vm_store.specs.Facts.{StoreFacts, FailedSince, IsUnchanged}
use Rattle.document_file.specs.Calls.{IsResourceFault, IsOpenRefusal}
use Rattle.document_file.specs.Disk.{FileState, IsCrashConsistent, HasSequence}
use Rattle.document_file.specs.Documents.{has_checksums, has_one_directory, sequence_in}
use Rattle.document_file.specs.Effects.{SameStore, IsNewFile}
use Rattle.document_file.specs.Making.{first_file}

-- A file that was opened. Over an honest store nothing was written, and it has the documents that the bytes stand for,
-- the updated one as it is now, under the number of the slot that counts, all of which is on the disk from then on;
-- over another nothing is said of them. Its commits write checksums where that is asked for or it has some.
pub record IsOpenedFrom {S : Type 0} (facts : S → StoreFacts) (store : S) (asked : Bool) (file : FileState S)
    : Type 0 where
  pub follows : SameStore facts store file.disk.store
  pub unchanged : IsTrue (facts store).honest → IsUnchanged (facts store) (facts file.disk.store)
  pub documents : IsTrue (facts store).honest → stands (facts store).content ≡ Ok (file.disk.updated, file.disk.saved)
  pub unmarked : file.disk.marked ≡ None
  pub now : IsTrue (facts store).honest → (file.document ≡ file.disk.updated) × (file.disk.in_doubt ≡ [])
  pub sequence : IsTrue (facts store).honest → sequence_in (facts store).content ≡ Some file.disk.sequence
  pub numbered : IsTrue (facts store).honest → HasSequence (facts file.disk.store) file.disk.sequence
  pub checksums : IsTrue (facts store).honest → file.disk.checksums ≡ (asked || has_checksums (facts store).content)
  pub crash_consistent : IsCrashConsistent facts file.disk

-- None was opened, and the store comes back. Over an honest one nothing was written, and the refusal is the one that
-- the bytes stand for, or memory or the store failed.
pub record IsNotOpened {S : Type 0} (facts : S → StoreFacts) (store back : S) (fault : Fault) : Type 0 where
  pub follows : SameStore facts store back
  pub unchanged : IsTrue (facts store).honest → IsUnchanged (facts store) (facts back)
  pub refused : IsTrue (facts store).honest → IsResourceFault fault ⊎ (stands (facts store).content ≡ Err fault)
  pub file : fault ≡ File → FailedSince (facts store) (facts back)
  pub faults : IsOpenRefusal fault

-- A new file of the empty document, in an honest store just the slots and a directory of no block, which serves the
-- updated and the saved document; with checksums or without.
pub record IsMadeIn {S : Type 0} (facts : S → StoreFacts) (store : S) (asked : Bool) (file : FileState S)
    : Type 0 where
  pub follows : SameStore facts store file.disk.store
  pub document : file.document ≡ empty_document
  pub new_file : IsNewFile facts empty_document file.disk
  pub bytes : IsTrue (facts store).honest → (facts file.disk.store).content ≡ first_file asked
  pub size : IsTrue (facts store).honest → length (facts file.disk.store).content ≡ 1040
  pub one_directory : IsTrue (facts store).honest → has_one_directory (facts file.disk.store).content ≡ true
  pub checksums : file.disk.checksums ≡ asked

-- None was made, and the store comes back: as it was where memory ran out.
pub record IsNotMade {S : Type 0} (facts : S → StoreFacts) (store back : S) (fault : Fault) : Type 0 where
  pub follows : SameStore facts store back
  pub early : fault ≢ File → back ≡ store
  pub file : fault ≡ File → FailedSince (facts store) (facts back)
  pub faults : IsResourceFault fault

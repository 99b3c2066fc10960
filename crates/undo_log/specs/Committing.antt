-- What a commit and a save-as leave of a session.
use Rattle.std.specs.Prelude.{◌≡◌, ◌≢◌, Some, None, Result, Err, IfErr}
use Rattle.geos_model.specs.Document.{Document}
use Rattle.geos_model.specs.declared.fault.Fault.{Fault}
use Rattle.geos_model.specs.declared.fault.Fault.TheVariants.{File}
use Rattle.vm_store.specs.Facts.{StoreFacts, FailedSince}
use Rattle.document_file.specs.Disk.{MayCommit, KeepsCommitted}
use Rattle.document_file.specs.Documents.{Documents}
use Rattle.document_file.specs.Effects.{IsCommit, SameStore}
use Rattle.vm_blocks.specs.SavingAs.{IsNotSavedAs}
use Rattle.undo_log.specs.Sessions.{SessionState, file_of}
use Rattle.undo_log.specs.Turning.{busy_fault}

-- What is refused while a group is open or any block is locked is so.
abbrev pub IsBusy : {S : Type 0} → SessionState S → Fault → Type 0
IsBusy s fault = busy_fault s ≡ Some fault

-- A call that tries to commit a pair, with this document behind it where it does: where no group is open and no block
-- is locked a commit of the file, and otherwise refused before all else.
pub record IsSessionCommit {S : Type 0} (facts : S → StoreFacts) (pair : Documents) (d : Document)
    (old new : SessionState S)
    (result : Result (Unit {0}) Fault) : Type 0 where
  pub commits : MayCommit facts pair old.disk new.disk result
  pub passes : IfErr result (λ fault. fault ≢ File → KeepsCommitted facts old.disk new.disk)
  pub free : busy_fault old ≡ None → IsCommit facts pair d (file_of old) (file_of new) result
  pub held : (fault : Fault) → IsBusy old fault → (result ≡ Err fault) × (new ≡ old)

-- A save-as that was refused: where no group is open and no block is locked as one of the file is.
pub record IsSaveAsRefused {S : Type 0} (facts : S → StoreFacts) (target store : S) (old new : SessionState S)
    (fault : Fault) : Type 0 where
  pub commits : MayCommit facts (old.disk.saved, old.disk.saved) old.disk new.disk (Err fault)
  pub passes : (fault ≡ File → FailedSince (facts old.disk.store) (facts new.disk.store) → ⊥)
      → KeepsCommitted facts old.disk new.disk
  pub follows : SameStore facts target store
  pub free : busy_fault old ≡ None → IsNotSavedAs facts target store (file_of old) (file_of new) fault

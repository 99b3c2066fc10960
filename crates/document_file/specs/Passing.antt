-- How the promises of a document file are passed on: calls in turn are as one call.
use Rattle.std.specs.Prelude.{◌≡◌, Bool, IsTrue, Result, Err}
use Rattle.vm_store.specs.Facts.{StoreFacts}
use Rattle.geos_model.specs.Document.{Document}
use Rattle.geos_model.specs.declared.fault.Fault.{Fault}
use Rattle.document_file.specs.Documents.{Documents}
use Rattle.document_file.specs.Disk.{Disk, IsCrashConsistent, SameUnlessCorrupt, KeepsCommitted, MayCommit}

pub record PassingLaw {S : Type 0} (facts : S → StoreFacts) : Type 0 where
  -- where nothing is called, nothing is committed
  pub passes_none : (a : Disk S) → KeepsCommitted facts a a
  -- calls that commit nothing, in turn
  pub passes_both : (a b c : Disk S) → KeepsCommitted facts a b → KeepsCommitted facts b c → KeepsCommitted facts a c
  -- what a crash leaves after them still stands for what may be read
  pub passes_settled : (a b : Disk S) → KeepsCommitted facts a b → IsCrashConsistent facts a → IsCrashConsistent facts b
  -- calls that commit nothing, and then a refusal of what was to be committed
  pub passes_refused : (a b : Disk S) (pair : Documents) (fault : Fault) → IsCrashConsistent facts a
      → KeepsCommitted facts a b → MayCommit facts pair a b (Err fault)
  -- calls that commit nothing, and then one that tries to commit a pair, which over an honest store is the one that was
  -- meant
  pub passes_commits : (a b c : Disk S) (meant pair : Documents) (result : Result (Unit {0}) Fault)
      → (IsTrue (facts a.store).honest → pair ≡ meant)
      → KeepsCommitted facts a b → MayCommit facts pair b c result → MayCommit facts meant a c result
  -- a call that tries to commit a pair, and then calls that commit nothing
  pub commits_passes : (a b c : Disk S) (pair : Documents) (result : Result (Unit {0}) Fault)
      → MayCommit facts pair a b result → KeepsCommitted facts b c → MayCommit facts pair a c result
  -- the document that is open, which such calls leave as it is over an honest store
  pub drifts_none : (honest : Bool) (d : Document) → SameUnlessCorrupt honest d d
  pub drifts_both : (honest : Bool) (d e f : Document) → SameUnlessCorrupt honest d e → SameUnlessCorrupt honest e f
      → SameUnlessCorrupt honest d f

-- What a call leaves of a file, and why it is refused: each layer from the file up to the session says it in these
-- words.
use Rattle.std.specs.Prelude.{◌≡◌, ◌≢◌, ◌⊎◌, ◌↔◌, ◌≤◌, ℕ, Bool, true, false, IsTrue, List, [], None, Some, Result, OnOk, IfErr, IsErrOf, MatchResult}
use Rattle.vm_store.specs.Facts.{StoreFacts, FailedSince, IsUnchanged}
use Rattle.geos_model.specs.Document.{Document, IsValid}
use Rattle.geos_model.specs.declared.fault.Fault.{Fault}
use Rattle.geos_model.specs.declared.fault.Fault.TheVariants.{File, Damaged, Worn}
use Rattle.file_format.specs.Reading.{IsResourceFault}
use Rattle.document_file.specs.Calls.{last_sequence}
use Rattle.document_file.specs.Disk.{Disk, FileState, SameUnlessCorrupt, IsFileDocument, KeepsCommitted, MayCommit, IsCrashConsistent, HasSequence, ContentStands}
use Rattle.document_file.specs.Documents.{Documents, IsOpenTo, version_in}
use Rattle.file_format.specs.File.{open_slot}
use Rattle.file_format.specs.declared.file.Slot.{Slot}
use Rattle.document_file.specs.Sums.{has_sums, version_for}

-- What always holds of a file. Over an honest store a crash now leaves what may be read, the updated and the saved
-- document are valid, and unless a commit failed in its last step the number is on the disk.
pub record IsFile {S : Type 0} (facts : S → StoreFacts) (file : FileState S) : Type 0 where
  pub document : IsFileDocument (facts file.disk.store).honest file.document
  pub updated : IsFileDocument (facts file.disk.store).honest file.disk.updated
  pub saved : IsFileDocument (facts file.disk.store).honest file.disk.saved
  pub valid : IsTrue (facts file.disk.store).honest → IsValid file.disk.updated × IsValid file.disk.saved
  pub crash_consistent : IsCrashConsistent facts file.disk
  pub numbered : IsTrue (facts file.disk.store).honest → file.disk.in_doubt ≡ []
      → HasSequence (facts file.disk.store) file.disk.sequence
  pub sequence : (1 ≤ file.disk.sequence) × (file.disk.sequence ≤ last_sequence)

-- The store is the one that was given: as honest, and no failure is forgotten.
pub record SameStore {S : Type 0} (facts : S → StoreFacts) (given now : S) : Type 0 where
  pub honest : (facts now).honest ≡ (facts given).honest
  pub failures : (facts given).failures ≤ (facts now).failures

-- the content of an honest store is a file of the version that commits write
abbrev pub HasCommitVersion : {S : Type 0} → (S → StoreFacts) → Disk S → Type 0
HasCommitVersion facts disk =
    IsTrue (facts disk.store).honest → version_in (facts disk.store).content ≡ Some (version_for disk.checksums)

-- The slot of the last acknowledged commit, 0 or 1: it counts, but where the pair of a commit that failed is read.
pub record IsCommitSlot {S : Type 0} (facts : S → StoreFacts) (disk : Disk S) (page : ℕ) (slot : Slot) : Type 0 where
  pub is_slot : page ≤ 1
  pub opened : open_slot (facts disk.store).content page ≡ Some slot
  pub numbered : slot.sequence ≡ disk.sequence

-- Where a commit gives a file its sums, the slot of the commit before is shut in whatever a crash now leaves, or the
-- store failed meanwhile: what that slot leads to has none, so nothing would tell once its pages are written over.
abbrev pub IsTurned : {S : Type 0} → (S → StoreFacts) → Disk S → Disk S → Type 0
IsTurned facts old new =
    IsTrue (facts old.store).honest → (page : ℕ) (slot : Slot) → IsCommitSlot facts old page slot
    → has_sums slot.version ≡ false → old.checksums ≡ true
    → FailedSince (facts old.store) (facts new.store)
    ⊎ ((c : List ℕ) → (facts new.store).may_leave c → open_slot c page ≡ None)

-- Where it gives none, that slot stays open in whatever a crash now leaves, and leads to what it led to.
abbrev pub KeepsSlot : {S : Type 0} → (S → StoreFacts) → Disk S → Disk S → Type 0
KeepsSlot facts old new =
    IsTrue (facts old.store).honest → (page : ℕ) (slot : Slot) → IsCommitSlot facts old page slot
    → has_sums slot.version ≡ old.checksums
    → (c : List ℕ) → (facts new.store).may_leave c → IsOpenTo page slot (old.updated, old.saved) c

-- The file was just made of a document, which is the updated and the saved one, under the first number.
pub record IsNewFile {S : Type 0} (facts : S → StoreFacts) (d : Document) (disk : Disk S) : Type 0 where
  pub updated : disk.updated ≡ d
  pub saved : disk.saved ≡ d
  pub in_doubt : disk.in_doubt ≡ []
  pub unmarked : disk.marked ≡ None
  pub sequence : disk.sequence ≡ 1
  pub numbered : IsTrue (facts disk.store).honest → HasSequence (facts disk.store) 1
  pub crash_consistent : IsCrashConsistent facts disk
  pub content : ContentStands facts disk
  pub version : HasCommitVersion facts disk

-- A call that only reads: nothing is written, nothing is committed, and the document stays as far as the store gives
-- back what it has.
pub record OnlyReads {S : Type 0} (facts : S → StoreFacts) (old new : FileState S) : Type 0 where
  pub passes : KeepsCommitted facts old.disk new.disk
  pub unchanged : IsTrue (facts old.disk.store).honest → IsUnchanged (facts old.disk.store) (facts new.disk.store)
  pub document : SameUnlessCorrupt (facts old.disk.store).honest old.document new.document

-- A call that commits nothing, with this document behind it.
pub record LeavesDocument {S : Type 0} (facts : S → StoreFacts) (d : Document) (old new : FileState S) : Type 0 where
  pub passes : KeepsCommitted facts old.disk new.disk
  pub document : SameUnlessCorrupt (facts old.disk.store).honest d new.document

-- A call that tries to commit a pair, with this document behind it where it does; where it is refused the document
-- stays. Unless the store failed nothing is committed then. It is worn exactly where the number can't rise, and then it
-- does nothing.
pub record IsCommit {S : Type 0} (facts : S → StoreFacts) (pair : Documents) (d : Document) (old new : FileState S)
    (result : Result (Unit {0}) Fault) : Type 0 where
  pub commits : MayCommit facts pair old.disk new.disk result
  pub content : OnOk result (ContentStands facts new.disk)
  pub version : OnOk result (HasCommitVersion facts new.disk)
  pub document : MatchResult result (λ _. SameUnlessCorrupt (facts old.disk.store).honest d new.document)
      (λ _. SameUnlessCorrupt (facts old.disk.store).honest old.document new.document)
  pub passes : IfErr result (λ fault. fault ≢ File → KeepsCommitted facts old.disk new.disk)
  pub worn : IsErrOf result Worn ↔ (old.disk.sequence ≡ last_sequence)
  pub early : IsErrOf result Worn → new ≡ old

-- Refusals: lack of memory; a store that failed in this very call; one of these others.
pub record Fails {S A : Type 0} (facts : S → StoreFacts) (IsOther : Fault → Type 0) (old new : S)
    (result : Result A Fault) : Type 0 where
  pub file : IsErrOf result File → FailedSince (facts old) (facts new)
  pub faults : IfErr result (λ fault. IsResourceFault fault ⊎ IsOther fault)

-- no other
abbrev pub NoFault : Fault → Type 0
NoFault fault = ⊥

abbrev pub IsWorn : Fault → Type 0
IsWorn fault = fault ≡ Worn

-- bytes that are no image, which an honest store never gives
abbrev pub IsDamage : Bool → Fault → Type 0
IsDamage honest fault = (fault ≡ Damaged) × (IsTrue honest → ⊥)

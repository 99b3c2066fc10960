-- What callers see of a document file, and the words by which the layers above pass its promises on.
use Rattle.std.specs.Prelude.{◌≡◌, ◌⊎◌, ℕ, ◌+◌, ◌*◌, ◌≤◌, Bool, IsTrue, List, [], ◌∷◌, true, Result, Ok, OnOk, OnErr, MatchResult, refl, Option, None, Some}
use Rattle.std.specs.Coded.{Coded, code_by, coded×, coded_ℕ, coded_bool, coded_list, coded_option}
use Rattle.vm_store.specs.Facts.{StoreFacts}
use Rattle.vm_store.specs.Bytes.{after_write}
use Rattle.geos_model.specs.Document.{Document, block_at, is_heap, is_live, is_valid_body, is_vm_handle, attributes_of, IsTyped}
use Rattle.file_format.specs.File.{stands}
use Rattle.geos_model.specs.declared.fault.Fault.{Fault}
use Rattle.geos_model.proofs.Codes.{document_code}
use Rattle.document_file.specs.Documents.{Documents, sequence_in}

-- The store, the updated and the saved document of the last acknowledged commit, the pairs of a commit that failed
-- since and may be read too, the number of the acknowledged one, and the document that is marked, if one is: it can be
-- brought back. Commits write sums where there are `checksums`: the file is of version 3 from then on.
pub record Disk (S : Type 0) : Type 0 where
  pub store : S
  pub updated : Document
  pub saved : Document
  pub in_doubt : List Documents
  pub sequence : ℕ
  pub marked : Option Document
  pub checksums : Bool

-- a file: the disk, and the document as it is now
pub record FileState (S : Type 0) : Type 0 where
  pub disk : Disk S
  pub document : Document

abbrev pub documents_code : Coded Documents
documents_code = coded× document_code document_code

abbrev pub disk_code : {S : Type 0} → Coded S → Coded (Disk S)
disk_code {S} s =
    code_by (S × (Document × (Document × (List Documents × (ℕ × (Option Document × Bool))))))
    (coded× s (coded× document_code (
    coded× document_code (coded× (coded_list documents_code) (coded× coded_ℕ
    (coded× (coded_option document_code) coded_bool))))))
    (λ d. (d.store, (d.updated, (d.saved, (d.in_doubt, (d.sequence, (d.marked, d.checksums)))))))
    (λ p. record {
      store = p.0;
      updated = p.1.0;
      saved = p.1.1.0;
      in_doubt = p.1.1.1.0;
      sequence = p.1.1.1.1.0;
      marked = p.1.1.1.1.1.0;
      checksums = p.1.1.1.1.1.1;
    })
    (λ _. refl)

abbrev pub file_state_code : {S : Type 0} → Coded S → Coded (FileState S)
file_state_code {S} s =
    code_by (Disk S × Document) (coded× (disk_code s) document_code) (λ f. (f.disk, f.document))
    (λ p. record { disk = p.0; document = p.1 }) (λ _. refl)

-- what a crash may leave, beside what calls to come write
abbrev pub recoverable : {S : Type 0} → Disk S → List Documents
recoverable disk = (disk.updated, disk.saved) ∷ disk.in_doubt

-- the file stands for one of these
abbrev pub StandsForOne : List Documents → List ℕ → Type 0
StandsForOne [] file = ⊥
StandsForOne (documents ∷ more) file = (stands file ≡ Ok documents) ⊎ StandsForOne more file

-- a crash now leaves one of these
abbrev pub CrashLeavesOne : StoreFacts → List Documents → Type 0
CrashLeavesOne store pairs = (c : List ℕ) → store.may_leave c → StandsForOne pairs c

-- in what a crash now leaves, the slot that counts has this number
abbrev pub HasSequence : StoreFacts → ℕ → Type 0
HasSequence store n = (c : List ℕ) → store.may_leave c → sequence_in c ≡ Some n

-- What a crash now leaves of an honest store stands for what may be read.
abbrev pub IsCrashConsistent : {S : Type 0} → (S → StoreFacts) → Disk S → Type 0
IsCrashConsistent facts disk = IsTrue (facts disk.store).honest → CrashLeavesOne (facts disk.store) (recoverable disk)

-- the content of an honest store stands for the acknowledged pair
abbrev pub ContentStands : {S : Type 0} → (S → StoreFacts) → Disk S → Type 0
ContentStands facts disk =
    IsTrue (facts disk.store).honest → stands (facts disk.store).content ≡ Ok (disk.updated, disk.saved)

-- the file with the gate of a slot open
abbrev pub with_gate_open : ℕ → List ℕ → List ℕ
with_gate_open slot file = after_write (512 * slot + 4) (1 ∷ []) file

-- A slot is whole but for its gate: each content that a crash now may leave, with that gate open, stands for the pair
-- under this number.
pub record IsOneGateAway (store : StoreFacts) (sequence : ℕ) (pair : Documents) : Type 0 where
  pub slot : ℕ
  pub is_slot : slot ≤ 1
  pub stands_for : (c : List ℕ) → store.may_leave c → stands (with_gate_open slot c) ≡ Ok pair
  pub numbered : (c : List ℕ) → store.may_leave c → sequence_in (with_gate_open slot c) ≡ Some sequence

-- A commit of the pair has failed in its last step, before which all else of it is on the disk: the pair may be read.
pub record IsInDoubt {S : Type 0} (facts : S → StoreFacts) (pair : Documents) (disk : Disk S) : Type 0 where
  pub in_doubt : disk.in_doubt ≡ pair ∷ []
  pub gate : IsOneGateAway (facts disk.store) (disk.sequence + 1) pair

-- What a crash since some time may leave is what one before these calls might have left, or stands for one of these.
pub record Crash (old new : StoreFacts) (pairs : List Documents) : Type 0 where
  pub later : old.moment ≤ new.moment
  pub each : (t : ℕ) (c : List ℕ) → t ≤ old.moment → new.left_since t c → old.left_since t c ⊎ StandsForOne pairs c

-- Over any store the handles, the user IDs, the types, the kinds and the map block stay; over an honest one the
-- document does.
pub record SameUnlessCorrupt (honest : Bool) (old new : Document) : Type 0 where
  pub live : (h : ℕ) → is_live new h ≡ is_live old h
  pub attributes : (h : ℕ) → attributes_of new h ≡ attributes_of old h
  pub kinds : (h : ℕ) → is_heap new h ≡ is_heap old h
  pub map_block : new.map_block ≡ old.map_block
  pub same : IsTrue honest → new ≡ old

-- As it does, so does a marked one, and none is marked where none was.
abbrev pub MarkSameUnlessCorrupt : Bool → Option Document → Option Document → Type 0
MarkSameUnlessCorrupt honest None new = new ≡ None
MarkSameUnlessCorrupt honest (Some d) new = (e : Document) × (new ≡ Some e) × SameUnlessCorrupt honest d e

-- no document is marked
abbrev pub unmarked : {S : Type 0} → Disk S → Disk S
unmarked disk = record disk { marked = None }

-- What a document of a file is: its handles can be, its map block is none or live, only its heaps have types, and over
-- an honest store its bodies can be.
pub record IsFileDocument (honest : Bool) (d : Document) : Type 0 where
  pub handles : (h : ℕ) → is_live d h ≡ true → is_vm_handle h ≡ true
  pub map_block : (d.map_block ≡ 0) ⊎ (is_live d d.map_block ≡ true)
  pub typed : (h : ℕ) → IsTyped (is_heap d h) (attributes_of d h)
  pub bodies : IsTrue honest → (h : ℕ) → is_live d h ≡ true → is_valid_body (block_at d h).body ≡ true

-- Calls that commit nothing.
pub record KeepsCommitted {S : Type 0} (facts : S → StoreFacts) (old new : Disk S) : Type 0 where
  pub honest : (facts new.store).honest ≡ (facts old.store).honest
  pub failures : (facts old.store).failures ≤ (facts new.store).failures
  pub updated : IsTrue (facts old.store).honest → new.updated ≡ old.updated
  pub saved : IsTrue (facts old.store).honest → new.saved ≡ old.saved
  pub in_doubt : IsTrue (facts old.store).honest → new.in_doubt ≡ old.in_doubt
  pub tried : IsTrue (facts old.store).honest → (pair : Documents) → IsInDoubt facts pair old → IsInDoubt facts pair new
  pub sequence : new.sequence ≡ old.sequence
  pub marked : MarkSameUnlessCorrupt (facts old.store).honest old.marked new.marked
  pub numbered : IsTrue (facts old.store).honest → old.in_doubt ≡ [] → HasSequence (facts old.store) old.sequence
      → HasSequence (facts new.store) new.sequence
  pub crash : IsTrue (facts old.store).honest → Crash (facts old.store) (facts new.store) (recoverable old)
  pub checksums : new.checksums ≡ old.checksums

-- Nothing of a commit that wasn't acknowledged can be read: meanwhile a crash left nothing but what might be read
-- before, and no pair of a commit that failed may be read now but one that might be before.
pub record LeavesNoTrace {S : Type 0} (facts : S → StoreFacts) (old new : Disk S) : Type 0 where
  pub crash : Crash (facts old.store) (facts new.store) (recoverable old)
  pub in_doubt : (new.in_doubt ≡ old.in_doubt) ⊎ (new.in_doubt ≡ [])

-- A call that tries to commit a pair. While it isn't acknowledged, a crash may leave it or what might be read before.
pub record MayCommit {S : Type 0} (facts : S → StoreFacts) (pair : Documents) (old new : Disk S)
    (result : Result (Unit {0}) Fault) : Type 0 where
  pub honest : (facts new.store).honest ≡ (facts old.store).honest
  pub failures : (facts old.store).failures ≤ (facts new.store).failures
  pub crash : IsTrue (facts old.store).honest → Crash (facts old.store) (facts new.store) (pair ∷ recoverable old)
  pub crash_consistent : IsCrashConsistent facts new
  pub ok : OnOk result (IsTrue (facts old.store).honest → ((new.updated, new.saved) ≡ pair) × (new.in_doubt ≡ []))
  pub err : OnErr result (IsTrue (facts old.store).honest → (new.updated ≡ old.updated) × (new.saved ≡ old.saved))
  -- where its last step failed, the pair may be read from then on; where an earlier one did, nothing of it can be, at
  -- any moment
  pub adds : OnErr result (IsTrue (facts old.store).honest → IsInDoubt facts pair new ⊎ LeavesNoTrace facts old new)
  pub numbered : OnOk result (IsTrue (facts old.store).honest → HasSequence (facts new.store) new.sequence)
  -- a refusal keeps the number, where no pair of a commit that failed may be read
  pub still_numbered : OnErr result (
      IsTrue (facts old.store).honest → (old.in_doubt ≡ [] → HasSequence (facts old.store) old.sequence)
      → new.in_doubt ≡ [] → HasSequence (facts new.store) new.sequence)
  pub sequence : MatchResult result (λ _. new.sequence ≡ old.sequence + 1) (λ _. new.sequence ≡ old.sequence)
  pub marked : MarkSameUnlessCorrupt (facts old.store).honest old.marked new.marked
  pub checksums : new.checksums ≡ old.checksums

-- What calls that commit leave of a file, and what always holds of one.
use Rattle.std.proofs.Common.{◌≡◌, ◌≢◌, ◌↔◌, ◌≤◌, ℕ, Bool, IsTrue, List, refl, sym, ap, subst, ◌∙◌, arith, inl, inr}
use Rattle.std.specs.Prelude.{◌⊎◌, Some, Result, Ok, Err, IfErr, IsErrOf, OnOk, MatchResult}
use Rattle.std.proofs.lemmas.Result.{IfErr-weaker}
use Rattle.std.specs.Option.{option_map}
use Rattle.std.specs.Result.{IsErrAnd}
use Rattle.geos_model.specs.Document.{Document, IsValid}
use Rattle.geos_model.specs.declared.fault.Fault.{Fault}
use Rattle.geos_model.specs.declared.fault.Fault.TheVariants.{Memory, File, Damaged, Worn}
use Rattle.file_format.proofs.FileDocuments.{document_at-valid}
use Rattle.vm_store.specs.Facts.{StoreFacts, FailedSince, IsTimely, IsUnchanged}
use Rattle.file_format.specs.Reading.{IsReadRefusal, IsResourceFault, OnlyReadsStore}
use Rattle.document_file.specs.Calls.{last_sequence}
use Rattle.document_file.specs.Documents.{Documents, blocks_in, document_in, IsStored}
use Rattle.document_file.specs.Disk.{Disk, FileState, IsCrashConsistent, HasSequence, SameUnlessCorrupt, KeepsCommitted, MayCommit}
use Rattle.document_file.specs.Effects.{IsFile, HasCommitVersion, IsNewFile, OnlyReads, IsCommit, Fails, NoFault, IsDamage}
use Rattle.document_file.specs.Making.{IsOne}
use Rattle.document_file.specs.Sums.{has_sums, version_for}
use Rattle.document_file.proofs.SumsLemmas.{for_sums}
use Rattle.document_file.specs.Ranges.{KeepsAll}
use Rattle.document_file.specs.Slots.{marked_extents}
use Rattle.document_file.specs.Sound.{IsBlockTable, IsSound, disk_of}
use Rattle.document_file.specs.declared.slot.Slots.{Slots}
use Rattle.document_file.specs.declared.table.DocumentRef.{DocumentRef}
use Rattle.document_file.specs.declared.table.BlockTable.{BlockTable}
use Rattle.document_file.proofs.WritingLemmas.{call_passes}
use Rattle.document_file.proofs.ContentLemmas.{settled_content, committed_content}
use Rattle.document_file.proofs.RangesLemmas.{keeps_itself}
use Rattle.document_file.proofs.TableLemmas.{listed, places_drift}
use Rattle.file_format.proofs.LooksLemmas.{IsUnchanged-refl, IsUnchanged-trans}
use Rattle.document_file.proofs.PassingLemmas.{KeepsCommitted-refl, KeepsCommitted-trans, KeepsCommitted-crash_consistent, KeepsCommitted-fails, KeepsCommitted-MayCommit, SameUnlessCorrupt-refl, SameUnlessCorrupt-trans, MayCommit-refused}
use Rattle.document_file.proofs.StandsLemmas.{sound_versioned, stored_document, sound_settled, sound_numbered}
use Rattle.document_file.proofs.SlotsLemmas.{rests_leaves, rests_outlives}

module _ {S : Type 0} (facts : S → StoreFacts) where
  -- a file as its callers see it
  pub view_settled : (store : S) (live : BlockTable) (slots : Slots) (f : FileState S) → record { disk = disk_of facts store slots; document = document_in (facts store).content live } ≡ f
      → IsSound (facts store) live slots → IsCrashConsistent facts f.disk
  view_settled store live slots f is sound = subst (λ s. IsCrashConsistent facts s.disk) is (sound_settled facts store live slots sound)

  -- a commit that is refused before anything is done
  pub refused : (a : FileState S) (pair : Documents) (d : Document) (fault : Fault) → IsCrashConsistent facts a.disk → (fault ≡ Worn ↔ (a.disk.sequence ≡ last_sequence)) → IsCommit facts pair d a a (Err fault)
  refused a pair d fault crash_consistent worn = record {
    commits = MayCommit-refused facts a.disk pair fault crash_consistent;
    content = tt;
    version = tt;
    document = SameUnlessCorrupt-refl _ _;
    passes = λ _. KeepsCommitted-refl facts a.disk;
    worn = (λ is. worn.0 (cc is), λ last. cc (worn.1 last));
    early = λ _. refl;
  }

  -- for lack of memory
  pub refused_by : (a : FileState S) (pair : Documents) (d : Document) (result : Result (Unit {0}) Fault) → IsErrAnd result (λ fault. fault ≡ Memory) → IsCrashConsistent facts a.disk → a.disk.sequence ≢ last_sequence → IsCommit facts pair d a a result
  refused_by a pair d (Ok x) is crash_consistent fresh = absurd is
  refused_by a pair d (Err fault) is crash_consistent fresh = refused a pair d fault crash_consistent (λ worn. absurd (cc (worn, is)), λ last. absurd (fresh last))

  -- one that only the store can refuse
  pub tried : ((store : S) → IsTrue (facts store).honest → IsTimely (facts store)) → (a b : FileState S) (pair : Documents) (d : Document) (result : Result (Unit {0}) Fault) → MayCommit facts pair a.disk b.disk result
      → OnOk result (HasCommitVersion facts b.disk) → MatchResult result (λ _. SameUnlessCorrupt (facts a.disk.store).honest d b.document) (λ _. SameUnlessCorrupt (facts a.disk.store).honest a.document b.document)
      → IfErr result (λ fault. fault ≡ File) → a.disk.sequence ≢ last_sequence → IsCommit facts pair d a b result
  tried timely a b pair d (Ok x) commits version document by fresh = record {
    commits = commits;
    content = committed_content facts timely pair a.disk b.disk (Ok x) commits;
    version = version;
    document = document;
    passes = tt;
    worn = (λ is. absurd (cc is), λ last. absurd (fresh last));
    early = λ is. absurd (cc is);
  }
  tried timely a b pair d (Err fault) commits version document by fresh = record {
    commits = commits;
    content = tt;
    version = tt;
    document = document;
    passes = λ other. absurd (other by);
    worn = (λ is. absurd (cc (is, by)), λ last. absurd (fresh last));
    early = λ is. absurd (cc (is, by));
  }

  stored_valid : (version : ℕ) (file : List ℕ) (s : DocumentRef) → IsBlockTable s.table.value → IsStored version file s → IsValid (document_in file s.table.value)
  stored_valid version file s table stored = document_at-valid version file s.directory (document_in file s.table.value) (stored_document version file s table stored)

  -- what is sound
  pub sound_file : (store : S) (live : BlockTable) (slots : Slots) → IsSound (facts store) live slots → IsFile facts (record { disk = disk_of facts store slots; document = document_in (facts store).content live })
  sound_file store live slots sound =
      let f = facts store in
      let pair = slots.committed in
      record {
        document = listed f.honest f.content live sound.formed.table (λ so. (sound.whole so).images);
        updated = listed f.honest f.content pair.updated.table.value sound.formed.committed.updated (λ so. (sound.whole so).committed.updated.images);
        saved = listed f.honest f.content pair.saved.table.value sound.formed.committed.saved (λ so. (sound.whole so).committed.saved.images);
        valid = λ so. (
          stored_valid slots.version f.content pair.updated sound.formed.committed.updated (sound.whole so).committed.updated,
          stored_valid slots.version f.content pair.saved sound.formed.committed.saved (sound.whole so).committed.saved,
        );
        crash_consistent = sound_settled facts store live slots sound;
        numbered = λ so none. sound_numbered facts store live slots sound so none;
        sequence = (sound.formed.numbered, omega (arith, sound.formed.in_range));
      }

-- A call that only reads.
module _ {S : Type 0} (facts : S → StoreFacts) (a b : S) (live : BlockTable) (slots : Slots) (sound : IsSound (facts a) live slots) (now : IsTrue (facts b).honest → (facts b).may_leave (facts b).content) where
  rested : (facts b).honest ≡ (facts a).honest → (facts a).failures ≤ (facts b).failures → (IsTrue (facts a).honest → IsUnchanged (facts a) (facts b))
      → OnlyReads facts (record { disk = disk_of facts a slots; document = document_in (facts a).content live }) (record { disk = disk_of facts b slots; document = document_in (facts b).content live })
  rested honest failures unchanged = record {
    passes = call_passes facts a b live slots sound honest now
        (λ so. rests_leaves slots (facts a).content (facts a) (facts b) (unchanged so) (sound.whole so).leaves)
        (λ so. subst (λ c. KeepsAll (marked_extents slots.marked) (facts a).content c) (sym (unchanged so).content) (keeps_itself (marked_extents slots.marked) (facts a).content (sound.whole so).marked_within)) failures
        (λ so. rests_outlives slots (facts a).content (facts a) (facts b) (unchanged so) (sound.whole so).leaves);
    unchanged = unchanged;
    document = places_drift (facts a).honest (facts a).content (facts b).content live.places.items live.map_block (λ so. ap (λ f. blocks_in f live.places.items) (unchanged so).content);
  }

  pub view_reads : (f : FileState S) → record { disk = disk_of facts a slots; document = document_in (facts a).content live } ≡ f → OnlyReadsStore (facts a) (facts b)
      → OnlyReads facts f (record { disk = disk_of facts b slots; document = document_in (facts b).content live })
  view_reads f is looks = subst (λ s. OnlyReads facts s (record { disk = disk_of facts b slots; document = document_in (facts b).content live })) is (rested looks.honest looks.failures looks.unchanged)

-- The floor above shows a document of its own in place of the file's.
module _ {S : Type 0} (facts : S → StoreFacts) (timely : (store : S) → IsTrue (facts store).honest → IsTimely (facts store)) where
  pub settled_after : (a b : Disk S) → KeepsCommitted facts a b → IsCrashConsistent facts a → IsCrashConsistent facts b
  settled_after a b p crash_consistent = λ so. KeepsCommitted-crash_consistent facts a b (timely a.store (subst IsTrue p.honest so)) (timely b.store so) p crash_consistent so

  -- calls that commit nothing, and then no commit
  pub uncommitted : (a b : FileState S) (pair : Documents) (d behind : Document) (fault : Fault) → KeepsCommitted facts a.disk b.disk → IsCrashConsistent facts a.disk → a.disk.sequence ≢ last_sequence → fault ≢ Worn
      → IsCommit facts pair behind (record { disk = a.disk; document = d }) (record { disk = b.disk; document = d }) (Err fault)
  uncommitted a b pair d behind fault passes crash_consistent fresh unworn = record {
    commits = KeepsCommitted-fails facts a.disk b.disk pair fault passes (settled_after a.disk b.disk passes crash_consistent);
    content = tt;
    version = tt;
    document = SameUnlessCorrupt-refl _ d;
    passes = λ _. passes;
    worn = (λ is. absurd (unworn (cc is)), λ last. absurd (fresh last));
    early = λ is. absurd (unworn (cc is));
  }

  -- calls that commit nothing, and then a commit
  pub committed : (a b c : FileState S) (meant pair : Documents) (first now behind d : Document) (result : Result (Unit {0}) Fault) → KeepsCommitted facts a.disk b.disk → (IsTrue (facts a.disk.store).honest → pair ≡ meant)
      → a.disk.sequence ≢ last_sequence
      → MatchResult result (λ _. SameUnlessCorrupt (facts a.disk.store).honest behind now) (λ _. SameUnlessCorrupt (facts a.disk.store).honest first now) → IsCommit facts pair d b c result
      → IsCommit facts meant behind (record { disk = a.disk; document = first }) (record { disk = c.disk; document = now }) result
  committed a b c meant pair first now behind d result passes same fresh document commit =
      let unworn : IsErrOf result Worn → ⊥ = λ is. fresh (sym passes.sequence ∙ commit.worn.0 is) in
      record {
        commits = KeepsCommitted-MayCommit facts a.disk b.disk c.disk meant pair result passes same commit.commits;
        content = commit.content;
        version = commit.version;
        document = document;
        passes = IfErr-weaker result _ _ (λ fault keeps other. KeepsCommitted-trans facts a.disk b.disk c.disk passes (keeps other)) commit.passes;
        worn = (λ is. absurd (unworn is), λ last. absurd (fresh last));
        early = λ is. absurd (unworn is);
      }

-- Refusals.

pub unworn : (fault : Fault) → IsResourceFault fault ⊎ NoFault fault → fault ≢ Worn
unworn fault is worn = elim is [ inl (inl memory) ↦ absurd (cc (memory, worn)) | inl (inr file) ↦ absurd (cc (file, worn)) | inr none ↦ absurd none ]

pub unworn_damage : (honest : Bool) (fault : Fault) → IsResourceFault fault ⊎ IsDamage honest fault → fault ≢ Worn
unworn_damage honest fault is worn = elim is [ inl (inl memory) ↦ absurd (cc (memory, worn)) | inl (inr file) ↦ absurd (cc (file, worn)) | inr damage ↦ absurd (cc (damage.0, worn)) ]

-- of a call that reads images, whose sums an honest store has
pub damage_fails : {S A : Type 0} (facts : S → StoreFacts) (a b : S) (result : Result A Fault) → (IsErrOf result File → FailedSince (facts a) (facts b)) → (IsErrOf result Damaged → IsTrue (facts a).honest → ⊥) → IfErr result IsReadRefusal
    → Fails facts (IsDamage (facts a).honest) a b result
damage_fails facts a b (Ok x) file damaged refusals = record { file = file; faults = tt }
damage_fails facts a b (Err fault) file damaged refusals = record {
  file = file;
  faults = elim refusals as (λ _. IsResourceFault fault ⊎ IsDamage (facts a).honest fault) [ inl supply ↦ inl supply | inr wrong ↦ inr (wrong, damaged (ap Err wrong)) ];
}

-- of calls before which others were made
pub Fails-after : {S A : Type 0} (facts : S → StoreFacts) (IsOther : Fault → Type 0) (a b c : S) (result : Result A Fault) → (facts a).failures ≤ (facts b).failures → Fails facts IsOther b c result → Fails facts IsOther a c result
Fails-after facts IsOther a b c result more fails = record { file = λ is. let raised = fails.file is in omega (arith, more, raised); faults = fails.faults }

-- of a call whose refusal is passed on, of which more may be said
pub Fails-as : {S A B : Type 0} (facts : S → StoreFacts) (P Q : Fault → Type 0) (a b : S) (fault : Fault) (result : Result B Fault) → result ≡ Err fault → ((f : Fault) → P f → Q f) → Fails {A = A} facts P a b (Err fault) → Fails facts Q a b result
Fails-as facts P Q a b fault result is more fails = subst (Fails facts Q a b) (sym is) (record {
  file = λ file. fails.file (ap Err (cc file));
  faults = elim fails.faults as (λ _. IsResourceFault fault ⊎ Q fault) [ inl supply ↦ inl supply | inr other ↦ inr (more fault other) ];
})

-- Calls in turn.
module _ {S : Type 0} (facts : S → StoreFacts) where
  pub OnlyReads-refl : (a : FileState S) → OnlyReads facts a a
  OnlyReads-refl a = record { passes = KeepsCommitted-refl facts a.disk; unchanged = λ so. IsUnchanged-refl (facts a.disk.store); document = SameUnlessCorrupt-refl _ a.document }

  pub OnlyReads-trans : (a b c : FileState S) → (IsTrue (facts a.disk.store).honest → IsTimely (facts a.disk.store)) → OnlyReads facts a b → OnlyReads facts b c → OnlyReads facts a c
  OnlyReads-trans a b c timely p q = record {
    passes = KeepsCommitted-trans facts a.disk b.disk c.disk p.passes q.passes;
    unchanged = λ so. IsUnchanged-trans (facts a.disk.store) (facts b.disk.store) (facts c.disk.store) (timely so) (p.unchanged so) (q.unchanged (subst IsTrue (sym p.passes.honest) so));
    document = SameUnlessCorrupt-trans _ a.document b.document c.document p.document (subst (λ t. SameUnlessCorrupt t b.document c.document) p.passes.honest q.document);
  }

-- A file that was just made.
pub made_file : {S : Type 0} (facts : S → StoreFacts) → ((store : S) → IsTrue (facts store).honest → IsTimely (facts store)) → (checksums : Bool) (store : S) (live : BlockTable) (slots : Slots) → IsSound (facts store) live slots → IsOne checksums (facts store).content live slots
    → IsNewFile facts (document_in (facts store).content live) (disk_of facts store slots)
made_file facts timely checksums store live slots sound one =
    let crash_consistent = sound_settled facts store live slots sound in
    record {
      updated = one.updated;
      saved = one.saved;
      in_doubt = one.in_doubt;
      unmarked = ap (option_map (document_in (facts store).content)) one.unmarked;
      sequence = one.sequence;
      numbered = λ so. subst (HasSequence (facts store)) one.sequence (sound_numbered facts store live slots sound so one.in_doubt);
      crash_consistent = crash_consistent;
      content = settled_content facts timely (disk_of facts store slots) crash_consistent (λ _. one.in_doubt);
      version = λ so. sound_versioned facts store live slots (timely store) sound one.in_doubt so ∙ ap (λ v. Some v) (one.version ∙ sym (ap version_for (ap has_sums one.next_version ∙ for_sums checksums)));
    }

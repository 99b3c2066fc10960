-- Over an honest store a commit is a step of the machine, and over any it is refused for an open group or a locked
-- block before all else.
use Rattle.std.proofs.Common.{◌≡◌, ◌⊎◌, ◌↔◌, ◌+◌, ◌==◌, Bool, true, false, IsTrue, [], ◌∷◌, Some, None, is_some, Result, Ok, Err, refl, sym, ap, subst, ◌∙◌, inl, inr}
use Rattle.std.specs.Prelude.{if◌then◌else◌, IsErrOf, IfOk, MatchResult}
use Rattle.std.specs.Option.{option_map}
use Rattle.std.proofs.lemmas.Bool.{ne_eqb}
use Rattle.geos_model.specs.Document.{Document, IsValid}
use Rattle.geos_model.specs.Refusal.{first_refusal}
use Rattle.geos_model.specs.Reply.{Accepted, Refused, reply_by}
use Rattle.geos_model.specs.Machine as machine
use Rattle.geos_model.specs.Machine.{Machine, Step, on_commit, command_conditions, takes_memory, calls_store}
use Rattle.geos_model.specs.declared.command.Command.{Command}
use Rattle.geos_model.specs.declared.command.Command.TheVariants as commands
use Rattle.geos_model.specs.declared.fault.Fault.{Fault}
use Rattle.geos_model.specs.declared.fault.Fault.TheVariants.{Memory, File, GroupOpen, Locked, Worn}
use Rattle.vm_store.specs.Facts.{StoreFacts}
use Rattle.document_file.specs.Calls.{IsCommitRefusal, IsResourceFault, last_sequence}
use Rattle.document_file.specs.Disk.{MayCommit, SameUnlessCorrupt, IsCrashConsistent}
use Rattle.document_file.proofs.PassingLemmas.{MayCommit-refused, KeepsCommitted-refl}
use Rattle.document_file.specs.Effects.{IsCommit, Fails, IsWorn}
use Rattle.document_file.specs.Documents.{Documents}
use Rattle.vm_blocks.specs.State.{CacheState, as_file}
use Rattle.chunk_edits.specs.declared.direction.Direction.TheVariants.{Backwards}
use Rattle.undo_log.specs.Committing.{IsBusy, IsSessionCommit}
use Rattle.undo_log.specs.Logging.{Log, group_of, reverted_log, saved_log, to_redo, to_undo, updated_log}
use Rattle.undo_log.specs.Sessions.{SessionState, file_of, has_locked_blocks, locks_in, machine_of, failed_since, AreSteps, IsStep}
use Rattle.undo_log.specs.Turning.{busy_fault}
use Rattle.undo_log.proofs.Keeping.{Holds, drifted_listed, failed_true, machine_is, none_marked, same_changes, same_exact}
use Rattle.undo_log.proofs.Locks.{no_locks}
use Rattle.undo_log.proofs.Turns.{at_rest, group_open, none_open}

-- A commit that is refused leaves the machine.
pub refused_commit : (failed : Bool) (m new : Machine) (c : Command) (fault : Fault) → new ≡ m → command_conditions c m ≡ on_commit m → machine.in_group m ≡ false → machine.has_locks m ≡ false → takes_memory c m ≡ true → calls_store c m ≡ true
    → (fault ≡ Worn → m.sequence ≡ last_sequence) → (fault ≡ File → failed ≡ true) → IsCommitRefusal fault → Step failed m (Some c) (Refused fault) new
refused_commit failed m new c fault stays refuses outside unlocked takes calls worn raised refusal = elim refusal [
  | inl supply ↦ elim supply [
    | inl memory ↦ inr (record { fault = Memory; may = takes; says = ap Refused memory; stays = stays })
    | inr file ↦ inr (record { fault = File; may = rw (raised file, calls) refl; says = ap Refused file; stays = stays })
  ]
  | inr is ↦ inl (rw (stays, is, refuses, outside, unlocked, worn is) refl)
]

-- What is known of a commit of an exact session that tries a pair of documents, the document being that of a machine.
module _ {S : Type 0} (facts : S → StoreFacts) (target : Bool) (old new : SessionState S) (so : IsTrue (facts old.disk.store).honest) (free : busy_fault old ≡ None) (locks : locks_in new.resident ≡ locks_in old.resident) where
  none : has_locked_blocks old ≡ false
  none = (at_rest old free).1

  outside : is_some (option_map (group_of old.document) old.log.group) ≡ false
  outside = group_open (group_of old.document) old.log.group ∙ (at_rest old free).0

  same_numbers : (fault : Fault) (pair : Documents) → MayCommit facts pair old.disk new.disk (Err fault) → new.disk.sequence ≡ old.disk.sequence
  same_numbers fault pair commits = commits.sequence

  -- where it is refused
  pub stays : (fault : Fault) (pair : Documents) → MayCommit facts pair old.disk new.disk (Err fault) → new.document ≡ old.document → new.log ≡ old.log → new.frames ≡ old.frames
      → machine_of target new ≡ machine_of target old
  stays fault pair commits d l f =
      let was = commits.err so in
      sym (machine_is target old.document old.disk.updated old.disk.saved old.log (locks_in old.resident) old.frames old.disk.sequence new (sym d) (sym l) (sym was.0) (sym was.1) (sym locks) (sym f) (sym commits.sequence))

  not_worn : (result : Result (Unit {0}) Fault) → (IsErrOf result Worn ↔ old.disk.sequence ≡ last_sequence) → result ≡ Ok tt → (old.disk.sequence == last_sequence) ≡ false
  not_worn result worn is = ne_eqb old.disk.sequence last_sequence (λ last. let refused : Err Worn ≡ Ok tt = sym (worn.1 last) ∙ is in absurd (cc refused))

  -- an update
  pub update_step : (result : Result (Unit {0}) Fault) → IsCommit facts (old.document, old.disk.saved) old.document (file_of old) (file_of new) result → Fails facts IsWorn old.disk.store new.disk.store result
      → MatchResult result (λ _. new.log ≡ updated_log old.log) (λ _. new.log ≡ old.log) → new.frames ≡ old.frames
      → Step (failed_since (facts old.disk.store) (facts new.disk.store)) (machine_of target old) (Some commands.Update) (reply_by (λ _. Accepted) result) (machine_of target new)
  update_step (Ok x) commit fails lists frames =
      let is = commit.commits.ok so in
      let fresh = not_worn (Ok x) commit.worn refl in
      inl (rw (outside, none, fresh, ← machine_is target old.document old.document old.disk.saved (updated_log old.log) (locks_in old.resident) old.frames (old.disk.sequence + 1) new (sym (commit.document.same so)) (sym lists) (sym (ap (λ p. p.0) is.0)) (sym (ap (λ p. p.1) is.0)) (sym locks) (sym frames) (sym commit.commits.sequence)) refl)
  update_step (Err fault) commit fails lists frames =
      refused_commit _ (machine_of target old) (machine_of target new) commands.Update fault (stays fault _ commit.commits (commit.document.same so) lists frames) refl outside none refl refl
      (λ is. commit.worn.0 (ap Err is)) (λ is. failed_true (facts old.disk.store) (facts new.disk.store) (fails.file (ap Err is))) fails.faults

  -- a save
  pub save_step : (result : Result (Unit {0}) Fault) → IsCommit facts (old.document, old.document) old.document (file_of old) (file_of new) result → Fails facts IsWorn old.disk.store new.disk.store result
      → MatchResult result (λ _. new.log ≡ saved_log old.log) (λ _. new.log ≡ old.log) → new.frames ≡ old.frames
      → Step (failed_since (facts old.disk.store) (facts new.disk.store)) (machine_of target old) (Some commands.Save) (reply_by (λ _. Accepted) result) (machine_of target new)
  save_step (Ok x) commit fails lists frames =
      let is = commit.commits.ok so in
      let fresh = not_worn (Ok x) commit.worn refl in
      inl (rw (outside, none, fresh, ← machine_is target old.document old.document old.document (saved_log old.log) (locks_in old.resident) old.frames (old.disk.sequence + 1) new (sym (commit.document.same so)) (sym lists) (sym (ap (λ p. p.0) is.0)) (sym (ap (λ p. p.1) is.0)) (sym locks) (sym frames) (sym commit.commits.sequence)) refl)
  save_step (Err fault) commit fails lists frames =
      refused_commit _ (machine_of target old) (machine_of target new) commands.Save fault (stays fault _ commit.commits (commit.document.same so) lists frames) refl outside none refl refl
      (λ is. commit.worn.0 (ap Err is)) (λ is. failed_true (facts old.disk.store) (facts new.disk.store) (fails.file (ap Err is))) fails.faults

  -- a revert
  pub revert_step : (result : Result (Unit {0}) Fault) → IsCommit facts (old.disk.saved, old.disk.saved) old.disk.saved (file_of old) (file_of new) result
      → Fails facts IsWorn old.disk.store new.disk.store result
      → MatchResult result (λ _. new.log ≡ reverted_log old.log) (λ _. new.log ≡ old.log) → new.frames ≡ old.frames
      → Step (failed_since (facts old.disk.store) (facts new.disk.store)) (machine_of target old) (Some commands.Revert) (reply_by (λ _. Accepted) result) (machine_of target new)
  revert_step (Ok x) commit fails lists frames =
      let is = commit.commits.ok so in
      let fresh = not_worn (Ok x) commit.worn refl in
      inl (rw (ap (option_map (group_of old.document)) (none_open old free), none, fresh, ← machine_is target old.disk.saved old.disk.saved old.disk.saved (reverted_log old.log) (locks_in old.resident) old.frames (old.disk.sequence + 1) new (sym (commit.document.same so)) (sym lists) (sym (ap (λ p. p.0) is.0)) (sym (ap (λ p. p.1) is.0)) (sym locks) (sym frames) (sym commit.commits.sequence)) refl)
  revert_step (Err fault) commit fails lists frames =
      refused_commit _ (machine_of target old) (machine_of target new) commands.Revert fault (stays fault _ commit.commits (commit.document.same so) lists frames) refl outside none refl refl
      (λ is. commit.worn.0 (ap Err is)) (λ is. failed_true (facts old.disk.store) (facts new.disk.store) (fails.file (ap Err is))) fails.faults

-- the document stays, whether it is refused or not
kept_document : (honest : Bool) (a b : Document) (result : Result (Unit {0}) Fault) → MatchResult result (λ _. SameUnlessCorrupt honest a b) (λ _. SameUnlessCorrupt honest a b) → SameUnlessCorrupt honest a b
kept_document honest a b (Ok x) unless_corrupt = unless_corrupt
kept_document honest a b (Err fault) unless_corrupt = unless_corrupt

-- so do the lists of the log
pub same_lists : {A E : Type 0} (moved old new : Log) (result : Result A E) → to_undo moved ≡ to_undo old → to_redo moved ≡ to_redo old → MatchResult result (λ _. new ≡ moved) (λ _. new ≡ old) → (to_undo new ≡ to_undo old) × (to_redo new ≡ to_redo old)
same_lists moved old new (Ok x) undo redo is = (ap to_undo is ∙ undo, ap to_redo is ∙ redo)
same_lists moved old new (Err e) undo redo is = (ap to_undo is, ap to_redo is)

-- So it is of sessions, which stay exact.
module _ {S : Type 0} (facts : S → StoreFacts) (old new : SessionState S) (free : busy_fault old ≡ None) where
  pub update_is : (result : Result (Unit {0}) Fault) → IsCommit facts (old.document, old.disk.saved) old.document (file_of old) (file_of new) result → Fails facts IsWorn old.disk.store new.disk.store result
      → MatchResult result (λ _. new.log ≡ updated_log old.log) (λ _. new.log ≡ old.log) → new.frames ≡ old.frames → new.resident ≡ old.resident → IsStep facts old new commands.Update (reply_by (λ _. Accepted) result)
  update_is result commit fails lists frames resident = λ exact. (
    same_changes facts old new commit.commits.honest ((kept_document (facts old.disk.store).honest old.document new.document result commit.document).same exact.honest) (same_lists (updated_log old.log) old.log new.log result refl refl lists) exact,
    λ target. update_step facts target old new exact.honest free (ap locks_in resident) result commit fails lists frames,
  )

  pub save_is : (result : Result (Unit {0}) Fault) → IsCommit facts (old.document, old.document) old.document (file_of old) (file_of new) result → Fails facts IsWorn old.disk.store new.disk.store result
      → MatchResult result (λ _. new.log ≡ saved_log old.log) (λ _. new.log ≡ old.log) → new.frames ≡ old.frames → new.resident ≡ old.resident → IsStep facts old new commands.Save (reply_by (λ _. Accepted) result)
  save_is result commit fails lists frames resident = λ exact. (
    same_changes facts old new commit.commits.honest ((kept_document (facts old.disk.store).honest old.document new.document result commit.document).same exact.honest) (same_lists (saved_log old.log) old.log new.log result refl refl lists) exact,
    λ target. save_step facts target old new exact.honest free (ap locks_in resident) result commit fails lists frames,
  )

  pub revert_is : (result : Result (Unit {0}) Fault) → IsCommit facts (old.disk.saved, old.disk.saved) old.disk.saved (file_of old) (file_of new) result
      → Fails facts IsWorn old.disk.store new.disk.store result
      → MatchResult result (λ _. new.log ≡ reverted_log old.log) (λ _. new.log ≡ old.log) → new.frames ≡ old.frames
      → MatchResult result (λ _. new.resident ≡ []) (λ _. new.resident ≡ old.resident)
      → IfOk result (λ _. IsTrue (facts new.disk.store).honest → IsValid new.document) → IsStep facts old new commands.Revert (reply_by (λ _. Accepted) result)
  revert_is (Ok x) commit fails lists frames resident valid = λ exact.
      let so : IsTrue (facts new.disk.store).honest = subst IsTrue (sym commit.commits.honest) exact.honest in (
        record {
          honest = so;
          steps = subst (λ (l : Log). AreSteps Backwards new.document (to_undo l) (to_redo l)) (sym lists) (record { valid = valid so; first = tt; second = tt });
        },
        λ target. revert_step facts target old new exact.honest free (ap locks_in resident ∙ sym (no_locks old.resident (at_rest old free).1)) (Ok x) commit fails lists frames,
      )
  revert_is (Err fault) commit fails lists frames resident valid = λ exact.
      (same_exact facts old new commit.commits.honest (commit.document.same exact.honest) lists exact, λ target. revert_step facts target old new exact.honest free (ap locks_in resident) (Err fault) commit fails lists frames)

-- What is known of the log stays, and no document is marked where none was.
pub committed_invariant : {S : Type 0} (facts : S → StoreFacts) (pair : Documents) (old new : CacheState S) (log : Log) (result : Result (Unit {0}) Fault) → IsCommit facts pair old.document (as_file old) (as_file new) result → Holds old log → Holds new log
committed_invariant facts pair old new log result commit holds =
    (drifted_listed _ old.document new.document log (kept_document _ old.document new.document result commit.document) holds.0, none_marked _ old.disk.marked new.disk.marked holds.1 commit.commits.marked)

-- so where it is refused, whatever would have been behind it
pub refused_invariant : {S : Type 0} (facts : S → StoreFacts) (pair : Documents) (d : Document) (old new : CacheState S) (log : Log) (fault : Fault) → IsCommit facts pair d (as_file old) (as_file new) (Err fault) → Holds old log → Holds new log
refused_invariant facts pair d old new log fault commit holds =
    (drifted_listed _ old.document new.document log commit.document holds.0, none_marked _ old.disk.marked new.disk.marked holds.1 commit.commits.marked)

-- What an open group or a locked block refuses before all else.

held_first : (is_open locked : Bool) (fault : Fault) → (if is_open then Some GroupOpen else if locked then Some Locked else None) ≡ Some fault → (worn : Bool)
    → first_refusal ((Worn, worn) ∷ (GroupOpen, is_open) ∷ (Locked, locked) ∷ []) ≡ Some fault
held_first true locked fault is worn = is
held_first false true fault is worn = is
held_first false false fault is worn = absurd (cc is)

module _ {S : Type 0} (facts : S → StoreFacts) (s : SessionState S) (fault : Fault) (held : IsBusy s fault) where
  held_step : (c : Command) → ((target : Bool) → command_conditions c (machine_of target s) ≡ on_commit (machine_of target s)) → IsStep facts s s c (Refused fault)
  held_step c are = λ exact. (
    exact,
    λ target.
        let first : first_refusal (on_commit (machine_of target s)) ≡ Some fault =
        ap (λ (is_open : Bool). first_refusal ((Worn, s.disk.sequence == machine.last_sequence) ∷ (GroupOpen, is_open) ∷ (Locked, has_locked_blocks s) ∷ [])) (group_open (group_of s.document) s.log.group)
        ∙ held_first (is_some s.log.group) (has_locked_blocks s) fault held
        (s.disk.sequence == machine.last_sequence) in
        inl (rw (are target, first) refl),
  )

  pub update_held : IsStep facts s s commands.Update (Refused fault)
  update_held = held_step commands.Update (λ target. refl)

  pub save_held : IsStep facts s s commands.Save (Refused fault)
  save_held = held_step commands.Save (λ target. refl)

  pub revert_held : IsStep facts s s commands.Revert (Refused fault)
  revert_held = held_step commands.Revert (λ target. refl)

  pub commit_held : (pair : Documents) (d : Document) → IsCrashConsistent facts s.disk → IsSessionCommit facts pair d s s (Err fault)
  commit_held pair d crash_consistent = record {
    commits = MayCommit-refused facts s.disk pair fault crash_consistent;
    passes = λ other. KeepsCommitted-refl facts s.disk;
    free = λ free. let no : None ≡ Some fault = sym free ∙ held in absurd (cc no);
    held = λ other is. let same : Some fault ≡ Some other = sym held ∙ is in (ap Err (cc same), refl);
  }

  not_file : (is_open locked : Bool) → (if is_open then Some GroupOpen else if locked then Some Locked else None) ≡ Some fault → ◌≡◌ {A = Result (Unit {0}) Fault} (Err fault) (Err File) → ⊥
  not_file true locked is file = absurd (cc (is, file))
  not_file false true is file = absurd (cc (is, file))
  not_file false false is file = absurd (cc is)

  pub fails_held : (IsOther : Fault → Type 0) → Fails {A = Unit {0}} facts (λ f. IsOther f ⊎ IsBusy s f) s.disk.store s.disk.store (Err fault)
  fails_held IsOther = record { file = λ is. absurd (not_file (is_some s.log.group) (has_locked_blocks s) held is); faults = inr (inr held) }

-- Where neither is it is a commit of the file.
pub tries_free : {S : Type 0} (facts : S → StoreFacts) (pair : Documents) (d : Document) (old new : SessionState S) (result : Result (Unit {0}) Fault) → busy_fault old ≡ None
    → IsCommit facts pair d (file_of old) (file_of new) result → IsSessionCommit facts pair d old new result
tries_free facts pair d old new result none commit = record {
  commits = commit.commits;
  passes = commit.passes;
  free = λ _. commit;
  held = λ fault held. let no : None ≡ Some fault = sym none ∙ held in absurd (cc no);
}

pub fails_more : {S A : Type 0} (facts : S → StoreFacts) (IsOther IsMore : Fault → Type 0) (old new : S) (result : Result A Fault) → Fails facts IsOther old new result
    → Fails facts (λ fault. IsOther fault ⊎ IsMore fault) old new result
fails_more facts IsOther IsMore old new (Ok x) fails = record { file = fails.file; faults = tt }
fails_more facts IsOther IsMore old new (Err fault) fails = record {
  file = fails.file;
  faults = elim fails.faults as (λ _. IsResourceFault fault ⊎ (IsOther fault ⊎ IsMore fault)) [ inl supply ↦ inl supply | inr other ↦ inr (inl other) ];
}

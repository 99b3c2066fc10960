-- A save-as that is refused is a step of the machine.
use Rattle.std.proofs.Common.{◌≡◌, ◌⊎◌, ◌↔◌, ◌==◌, ◌||◌, ◌&&◌, Bool, true, false, IsTrue, IfErr, Some, refl, inl, inr, sym, ap, ◌∙◌, arith}
use Rattle.std.specs.Option.{option_map}
use Rattle.std.specs.Prelude.{◌∷◌, [], None, if◌then◌else◌, is_some, Result, Ok, Err, IfOk, MatchResult}
use Rattle.std.specs.Result.{IsErrAnd}
use Rattle.std.proofs.lemmas.Bool.{ne_eqb, eq-eqb, le-leb, or_left, or_right}
use Rattle.geos_model.specs.Refusal.{first_refusal}
use Rattle.geos_model.specs.Reply.{Accepted, Refused}
use Rattle.geos_model.specs.Machine as machine
use Rattle.geos_model.specs.Machine.{Step}
use Rattle.geos_model.specs.declared.command.Command.TheVariants as commands
use Rattle.geos_model.specs.declared.fault.Fault.{Fault}
use Rattle.geos_model.specs.declared.fault.Fault.TheVariants.{Memory, File, Damaged, GroupOpen, Locked, NoTarget, Worn}
use Rattle.vm_store.specs.Facts.{StoreFacts, FailedSince}
use Rattle.document_file.specs.Calls.{IsCommitRefusal, last_sequence}
use Rattle.document_file.specs.Disk.{MayCommit, IsCrashConsistent}
use Rattle.document_file.proofs.PassingLemmas.{MayCommit-refused, KeepsCommitted-refl}
use Rattle.document_file.specs.Documents.{Documents}
use Rattle.vm_blocks.specs.SavingAs.{IsSavedAs, IsNotSavedAs}
use Rattle.vm_blocks.specs.State.{CacheState, as_file}
use Rattle.undo_log.specs.Committing.{IsBusy, IsSaveAsRefused}
use Rattle.undo_log.specs.Logging.{Log, group_of, saved_log, to_redo, to_undo}
use Rattle.undo_log.specs.Sessions.{SessionState, file_of, has_locked_blocks, locks_in, machine_of, failed_since, IsExact}
use Rattle.undo_log.specs.Turning.{busy_fault}
use Rattle.undo_log.proofs.Keeping.{Holds, drifted_listed, machine_is, none_marked, same_changes, same_exact}
use Rattle.undo_log.proofs.Turns.{at_rest, group_open}

-- one of two stores failed
one_failed : (a b c d : StoreFacts) → FailedSince a b ⊎ FailedSince c d → (failed_since a b || failed_since c d) ≡ true
one_failed a b c d either = elim either as (λ _. (failed_since a b || failed_since c d) ≡ true) [
  | inl first ↦ or_left (failed_since a b) (failed_since c d) (le-leb _ _ first)
  | inr second ↦ or_right (failed_since a b) (failed_since c d) (le-leb _ _ second)
]

-- where a target is left
is_worn : (is_open locked worn : Bool) → is_open ≡ false → locked ≡ false → worn ≡ true → first_refusal ((NoTarget, false) ∷ (Worn, worn) ∷ (GroupOpen, is_open) ∷ (Locked, locked) ∷ []) ≡ Some Worn
is_worn is_open locked worn outside none so = rw (outside, none, so) refl

both_true : (a b : Bool) → a ≡ true → b ≡ true → (a && b) ≡ true
both_true a b p q = rw (p, q) refl

-- the log stays but for where the documents stand, and so do the frames and the blocks in memory
pub record Keeps {S T E : Type 0} (old new : SessionState S) (result : Result T E) : Type 0 where
  pub log : MatchResult result (λ _. new.log ≡ saved_log old.log) (λ _. new.log ≡ old.log)
  pub frames : new.frames ≡ old.frames
  pub resident : new.resident ≡ old.resident

module _ {S : Type 0} (facts : S → StoreFacts) (old new : SessionState S) (free : busy_fault old ≡ None) where
  none : has_locked_blocks old ≡ false
  none = (at_rest old free).1

  outside : is_some (option_map (group_of old.document) old.log.group) ≡ false
  outside = group_open (group_of old.document) old.log.group ∙ (at_rest old free).0

  same_machine : new.log ≡ old.log → new.frames ≡ old.frames → new.resident ≡ old.resident → (pair : Documents) (fault : Fault) → MayCommit facts pair old.disk new.disk (Err fault) → new.document ≡ old.document → IsTrue (facts old.disk.store).honest → machine_of true new ≡ machine_of true old
  same_machine log frames resident pair fault commits document so =
      let was = commits.err so in
      sym (machine_is true old.document old.disk.updated old.disk.saved old.log (locks_in old.resident) old.frames old.disk.sequence new (sym document) (sym log) (sym was.0) (sym was.1) (sym (ap locks_in resident)) (sym frames) (sym commits.sequence))

  refusal : (fault : Fault) (failed : Bool) → machine_of true new ≡ machine_of true old → (fault ≡ Worn → old.disk.sequence ≡ last_sequence) → (fault ≡ File → failed ≡ true) → (fault ≡ Damaged → ⊥)
      → IsCommitRefusal fault ⊎ (fault ≡ Damaged) → Step failed (machine_of true old) (Some commands.SaveAs) (Refused fault) (machine_of true new)
  refusal fault failed same worn file damaged is = elim is as (λ _. Step failed (machine_of true old) (Some commands.SaveAs) (Refused fault) (machine_of true new)) [
    | inl (inl (inl memory)) ↦ inr (record { fault = Memory; may = refl; says = rw memory refl; stays = same })
    | inl (inl (inr failing)) ↦ inr (record { fault = File; may = rw (file failing) refl; says = rw failing refl; stays = same })
    | inl (inr last) ↦ inl (rw (last, same, is_worn (is_some (option_map (group_of old.document) old.log.group)) (has_locked_blocks old) (old.disk.sequence == last_sequence) outside none (eq-eqb old.disk.sequence last_sequence (worn last))) refl)
    | inr other ↦ absurd (damaged other)
  ]

  pub refused : {T E : Type 0} (fault : E → Fault) (store : E → S) (target : S) (P : T → Type 0) (r : Result T E) → Keeps old new r
      → MatchResult r P (λ e. IsNotSavedAs facts target (store e) (file_of old) (file_of new) (fault e))
      → (IsErrAnd r (λ e. fault e ≡ Worn) ↔ (old.disk.sequence ≡ last_sequence))
      → IfErr r (λ e. IsExact facts old → IsExact facts new
      × Step (failed_since (facts old.disk.store) (facts new.disk.store) || failed_since (facts target) (facts (store e))) (machine_of true old) (Some commands.SaveAs) (Refused (fault e)) (machine_of true new))
  refused fault store target P (Ok x) keeps given worn = tt
  refused fault store target P (Err e) keeps given worn = λ exact.
      let so = exact.honest in let document = given.document.same so in (
        same_exact facts old new given.commits.honest document keeps.log exact,
        refusal (fault e) (failed_since (facts old.disk.store) (facts new.disk.store) || failed_since (facts target) (facts (store e))) (same_machine keeps.log keeps.frames keeps.resident (old.disk.saved, old.disk.saved) (fault e) given.commits document so) worn.0
            (λ failing. one_failed (facts old.disk.store) (facts new.disk.store) (facts target) (facts (store e)) (given.file failing)) (λ is_damaged. given.damaged is_damaged so) given.faults,
      )

  -- where it is accepted the session is in the new file
  pub accepted : {E : Type 0} (fault : E → Fault) (target : S) (Q : E → Type 0) (r : Result S E) → Keeps old new r
      → MatchResult r (λ store. IsSavedAs facts target store (file_of old) (file_of new)) Q
      → (IsErrAnd r (λ e. fault e ≡ Worn) ↔ (old.disk.sequence ≡ last_sequence))
      → IfOk r (λ _. IsExact facts old → IsTrue (facts target).honest → IsExact facts new × Step false (machine_of true old) (Some commands.SaveAs) Accepted (machine_of false new))
  accepted fault target Q (Ok x) keeps saved worn = λ exact also.
      let so = exact.honest in
      let documents = saved.made so also in
      let fresh : (old.disk.sequence == last_sequence) ≡ false = ne_eqb old.disk.sequence last_sequence (λ last. absurd (worn.1 last)) in
      let document : new.document ≡ old.document = saved.document.same (both_true (facts old.disk.store).honest (facts target).honest so also) in
      let honest : (facts new.disk.store).honest ≡ (facts old.disk.store).honest = saved.follows.honest ∙ also ∙ sym so in (
        same_changes facts old new honest document (ap to_undo keeps.log, ap to_redo keeps.log) exact,
        inl (rw (outside, none, fresh, ← machine_is false old.document old.document old.document (saved_log old.log) (locks_in old.resident) old.frames 1 new (sym document) (sym keeps.log) (sym documents.0) (sym documents.1) (sym (ap locks_in keeps.resident)) (sym keeps.frames) (sym saved.new_file.sequence)) refl),
      )
  accepted fault target Q (Err e) keeps saved worn = tt

  -- the words of a session for it
  pub saved_or_not : {E : Type 0} (fault : E → Fault) (store : E → S) (target : S) (r : Result S E)
      → MatchResult r (λ back. IsSavedAs facts target back (file_of old) (file_of new)) (λ e. IsNotSavedAs facts target (store e) (file_of old) (file_of new) (fault e))
      → MatchResult r (λ back. IsSavedAs facts target back (file_of old) (file_of new)) (λ e. IsSaveAsRefused facts target (store e) old new (fault e))
  saved_or_not fault store target (Ok x) saved = saved
  saved_or_not fault store target (Err e) given = record { commits = given.commits; passes = given.passes; follows = given.follows; free = λ _. given }

  pub worn_free : (P : Type 0) → (P ↔ (old.disk.sequence ≡ last_sequence)) → P ↔ ((busy_fault old ≡ None) × (old.disk.sequence ≡ last_sequence))
  worn_free P worn = (λ is. (free, worn.0 is), λ both. worn.1 both.1)

-- What is known of the log stays, and no document is marked where none was.
pub saved_invariant : {S E : Type 0} (facts : S → StoreFacts) (old new : CacheState S) (log : Log) (target : S) (store : E → S) (fault : E → Fault) (r : Result S E)
    → MatchResult r (λ back. IsSavedAs facts target back (as_file old) (as_file new)) (λ e. IsNotSavedAs facts target (store e) (as_file old) (as_file new) (fault e))
    → Holds old log → Holds new log
saved_invariant facts old new log target store fault (Ok x) saved holds = (drifted_listed _ old.document new.document log saved.document holds.0, saved.new_file.unmarked)
saved_invariant facts old new log target store fault (Err e) given holds =
    (drifted_listed _ old.document new.document log given.document holds.0, none_marked _ old.disk.marked new.disk.marked holds.1 given.commits.marked)

-- An open group or a locked block refuses it before all else.

held_first : (is_open locked : Bool) (fault : Fault) → (if is_open then Some GroupOpen else if locked then Some Locked else None) ≡ Some fault → (worn : Bool)
    → first_refusal ((NoTarget, false) ∷ (Worn, worn) ∷ (GroupOpen, is_open) ∷ (Locked, locked) ∷ []) ≡ Some fault
held_first true locked fault is worn = is
held_first false true fault is worn = is
held_first false false fault is worn = absurd (cc is)

never_worn : (is_open locked : Bool) (fault : Fault) → (if is_open then Some GroupOpen else if locked then Some Locked else None) ≡ Some fault → fault ≡ Worn → ⊥
never_worn true locked fault is worn = absurd (cc (is, worn))
never_worn false true fault is worn = absurd (cc (is, worn))
never_worn false false fault is worn = absurd (cc is)

module _ {S : Type 0} (facts : S → StoreFacts) (s : SessionState S) (fault : Fault) (held : IsBusy s fault) where
  pub held_step : (failed : Bool) → Step failed (machine_of true s) (Some commands.SaveAs) (Refused fault) (machine_of true s)
  held_step failed =
      let worn = s.disk.sequence == machine.last_sequence in
      let first : first_refusal ((NoTarget, false) ∷ (Worn, worn) ∷ (GroupOpen, is_some (option_map (group_of s.document) s.log.group)) ∷ (Locked, has_locked_blocks s) ∷ []) ≡ Some fault =
      ap (λ (is_open : Bool). first_refusal ((NoTarget, false) ∷ (Worn, worn) ∷ (GroupOpen, is_open) ∷ (Locked, has_locked_blocks s) ∷ [])) (group_open (group_of s.document) s.log.group)
      ∙ held_first (is_some s.log.group) (has_locked_blocks s) fault held worn in
      inl (rw first refl)

  pub not_moved : (target : S) → IsCrashConsistent facts s.disk → IsSaveAsRefused facts target target s s fault
  not_moved target crash_consistent = record {
    commits = MayCommit-refused facts s.disk (s.disk.saved, s.disk.saved) fault crash_consistent;
    passes = λ _. KeepsCommitted-refl facts s.disk;
    follows = record { honest = refl; failures = omega arith };
    free = λ free. let no : None ≡ Some fault = sym free ∙ held in absurd (cc no);
  }

  pub not_worn : (fault ≡ Worn) ↔ ((busy_fault s ≡ None) × (s.disk.sequence ≡ last_sequence))
  not_worn = (λ is. absurd (never_worn (is_some s.log.group) (has_locked_blocks s) fault held is), λ both. let no : None ≡ Some fault = sym both.0 ∙ held in absurd (cc no))

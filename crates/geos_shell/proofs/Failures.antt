-- What a call that is served shows of the stores: how often they failed, and which pairs of a failed commit may be
-- read.
use Rattle.std.proofs.Common.{◌≡◌, ◌⊎◌, ℕ, ◌+◌, ◌≤◌, min, Bool, true, false, cond, nat_le, [], Option, Some, None, IsTrue, Result, Ok, Err, refl, sym, subst, ◌∙◌, inl, inr, arith}
use Rattle.std.proofs.lemmas.Bool.{leb-true}
use Rattle.geos_model.specs.Reply.{Reply, Refused}
use Rattle.geos_model.specs.Machine.{Request}
use Rattle.geos_model.specs.declared.fault.Fault.{Fault}
use Rattle.geos_model.specs.declared.command.Command.TheVariants as commands
use Rattle.vm_store.specs.Facts.{StoreFacts, FailedSince, last_count, raised}
use Rattle.document_file.specs.Disk.{Disk, KeepsCommitted}
use Rattle.document_file.specs.Documents.{Documents}
use Rattle.document_file.proofs.PassingLemmas.{KeepsCommitted-refl}
use Rattle.undo_log.specs.Sessions.{failed_since}
use Rattle.undo_log.proofs.Keeping.{failed_true}
use Rattle.geos_replies.specs.Holdings.{AreExact, CommitsAsReplied, CommitsNothing, Holding, LeavesFiles, SavesAs, ServesRequest, SameFiles, CommitsOrKeeps, failed_with, failed_since_in}
use Rattle.geos_replies.proofs.FileFaults.{failed_so}
use Rattle.geos_shell.specs.Runs.{AfterFailures, CountsFailures}

-- where a count rose, by one at least or to the last value
counts_if : (rose : Bool) (m n : ℕ) → nat_le (raised m) n ≡ rose → m ≤ n → min (m + cond rose 1 0) last_count ≤ n
counts_if false m n is least = omega (arith, least)
counts_if true m n is least =
    let high : raised m ≤ n = leb-true (raised m) n is in
    omega (arith, high)

-- a call that failed is counted
not_failed : (failed : Bool) → ◌≡◌ {A = ℕ} (cond failed 1 0) 0 → failed ≡ true → ⊥
not_failed true none so = omega (arith, none)
not_failed false none so = cc so

module _ {S : Type 0} (facts : S → StoreFacts) where
  counts : (old new : Holding S) → (old.target ≡ None → new.target ≡ None) → (facts old.session.disk.store).failures ≤ (facts new.session.disk.store).failures
      → CountsFailures facts old (cond (failed_since_in facts old new) 1 0) new
  counts old new used least none =
      (used none, rw none (counts_if (failed_since (facts old.session.disk.store) (facts new.session.disk.store)) _ _ refl least))

  after_passes : (old new : Holding S) → CommitsNothing facts old new → IsTrue (facts old.session.disk.store).honest → AfterFailures facts old (cond (failed_since_in facts old new) 1 0) new
  after_passes old new nothing so =
      record { counted = counts old new (λ none. nothing.target ∙ none) nothing.passes.failures; adds = λ _. inl (nothing.passes.in_doubt so) }

  nothing_of : (old new : Holding S) → SameFiles old new → CommitsNothing facts old new
  nothing_of old new stays =
      record { passes = subst (λ (d : Disk S). KeepsCommitted facts old.session.disk d) (sym stays.disk) (KeepsCommitted-refl facts old.session.disk); target = stays.target; former = stays.former }

  -- which pairs may be read after a commit in which the store did not fail
  adds_none : (pair : Documents) (old new : Disk S) (result : Result (Unit {0}) Fault) → CommitsOrKeeps facts pair old new result
      → IsTrue (facts old.store).honest → (FailedSince (facts old.store) (facts new.store) → ⊥) → (new.in_doubt ≡ old.in_doubt) ⊎ (new.in_doubt ≡ [])
  adds_none pair old new (Ok x) tries so quiet = inr (tries.commits.ok so).1
  adds_none pair old new (Err fault) tries so quiet = inl ((tries.passes (λ _ raised. quiet raised)).in_doubt so)

  after_tries : (old new : Holding S) (pair : Documents) (result : Result (Unit {0}) Fault) → CommitsOrKeeps facts pair old.session.disk new.session.disk result
      → (old.target ≡ None → new.target ≡ None) → (new.target ≡ None → old.target ≡ None) → IsTrue (facts old.session.disk.store).honest
      → AfterFailures facts old (cond (failed_since_in facts old new) 1 0) new
  after_tries old new pair result tries used left so =
      record {
        counted = counts old new used tries.commits.failures;
        adds = λ none. adds_none pair old.session.disk new.session.disk result tries so
            (λ raised. not_failed (failed_since_in facts old new) none (failed_so facts _ old.target new.target left (failed_true (facts old.session.disk.store) (facts new.session.disk.store) raised)));
      }

  after_settles : (old new : Holding S) (pair : Documents) (reply : Reply) → CommitsAsReplied facts pair old reply new → IsTrue (facts old.session.disk.store).honest
      → AfterFailures facts old (cond (failed_since_in facts old new) 1 0) new
  after_settles old new pair reply settles so =
      after_tries old new pair _ settles.tries (λ none. settles.target ∙ none) (λ none. sym settles.target ∙ none) so

  not_there : (t : S) (o : Option S) → o ≡ Some t → o ≡ None → ⊥
  not_there t o some none = let both : Some t ≡ None = sym some ∙ none in cc both

  after_accepted : (old new : Holding S) (t : S) → old.target ≡ Some t → new.session.disk.in_doubt ≡ [] → AfterFailures facts old (cond (failed_since_in facts old new) 1 0) new
  after_accepted old new t there none_left =
      record { counted = λ none. absurd (not_there t old.target there none); adds = λ _. inr none_left }

  after_save_as : (old new : Holding S) (target : Option S) (reply : Reply) → old.target ≡ target → SavesAs facts old target reply new → IsTrue (facts old.session.disk.store).honest
      → AfterFailures facts old (cond (failed_since_in facts old new) 1 0) new
  after_save_as old new None reply is stays so = after_passes old new (nothing_of old new stays) so
  after_save_as old new (Some t) (Refused fault) is back so =
      after_tries old new _ (Err fault) back.tries (λ none. absurd (not_there t old.target is none)) (λ none. absurd (not_there back.back new.target back.target none)) so
  after_save_as old new (Some t) reply is on so = after_accepted old new t is on.new_file.0

  after_files : (old new : Holding S) (request : Request) (reply : Reply) → LeavesFiles facts old request reply new → IsTrue (facts old.session.disk.store).honest
      → AfterFailures facts old (cond (failed_since_in facts old new) 1 0) new
  after_files old new (Some commands.Update) reply files so = after_settles old new _ reply files so
  after_files old new (Some commands.Save) reply files so = after_settles old new _ reply files so
  after_files old new (Some commands.Revert) reply files so = after_settles old new _ reply files so
  after_files old new (Some commands.SaveAs) reply files so = after_save_as old new old.target reply refl files so
  after_files old new (Some commands.Begin) reply files so = after_passes old new (nothing_of old new files) so
  after_files old new (Some commands.End) reply files so = after_passes old new (nothing_of old new files) so
  after_files old new (Some commands.Join) reply files so = after_passes old new (nothing_of old new files) so
  after_files old new (Some (commands.Forget most)) reply files so = after_passes old new (nothing_of old new files) so
  after_files old new (Some (commands.Name name)) reply files so = after_passes old new (nothing_of old new files) so
  after_files old new (Some (commands.HeapType b)) reply files so = after_passes old new (nothing_of old new files) so
  after_files old new (Some commands.List) reply files so = after_passes old new (nothing_of old new files) so
  after_files old new (Some (commands.Find uid start)) reply files so = after_passes old new (nothing_of old new files) so
  after_files old new (Some commands.MapBlock) reply files so = after_passes old new (nothing_of old new files) so
  after_files old new (Some (commands.Unlock b)) reply files so = after_passes old new (nothing_of old new files) so
  after_files old new (Some (commands.Dirty b)) reply files so = after_passes old new (nothing_of old new files) so
  after_files old new (Some (commands.Locks b)) reply files so = after_passes old new (nothing_of old new files) so
  after_files old new (Some commands.Undos) reply files so = after_passes old new (nothing_of old new files) so
  after_files old new (Some commands.Redos) reply files so = after_passes old new (nothing_of old new files) so
  after_files old new (Some commands.Modified) reply files so = after_passes old new (nothing_of old new files) so
  after_files old new (Some commands.UndoName) reply files so = after_passes old new (nothing_of old new files) so
  after_files old new (Some commands.RedoName) reply files so = after_passes old new (nothing_of old new files) so
  after_files old new (Some commands.Touched) reply files so = after_passes old new (nothing_of old new files) so
  after_files old new (Some commands.UndoPlaces) reply files so = after_passes old new (nothing_of old new files) so
  after_files old new (Some commands.RedoPlaces) reply files so = after_passes old new (nothing_of old new files) so
  after_files old new (Some commands.AbandonPlaces) reply files so = after_passes old new (nothing_of old new files) so
  after_files old new (Some command) reply files so = after_passes old new files so
  after_files old new None reply files so = after_passes old new (nothing_of old new files) so

  -- of a call that is served
  pub after_serves : (old new : Holding S) (request : Request) (reply : Reply) → AreExact facts old → ServesRequest facts old request reply new
      → AfterFailures facts old (cond (failed_since_in facts old new) 1 0) new
  after_serves old new request reply exact serves = after_files old new request reply serves.files exact.0.honest

-- A session that was just made or opened, and one whose steps are limited.
use Rattle.std.proofs.Common.{◌≡◌, ◌≤◌, ◌∙◌, ◌||◌, ℕ, Bool, [], IsTrue, Ok, Option, Some, None, ap, subst, sym}
use Rattle.geos_model.specs.Document.{Document}
use Rattle.geos_model.specs.Machine.{Machine, empty_machine, opened_machine, with_undo_limit}
use Rattle.file_format.specs.File.{stands}
use Rattle.vm_store.specs.Facts.{StoreFacts, IsUnchanged}
use Rattle.document_file.specs.Disk.{Disk, IsCrashConsistent, HasSequence}
use Rattle.document_file.specs.Documents.{has_checksums, has_one_directory, sequence_in}
use Rattle.undo_log.specs.Sessions.{SessionState, IsExact, machine_of}
use Rattle.geos_shell.specs.Program.{IsCreated, IsOpened}

module _ {S : Type 0} (facts : S → StoreFacts) (frames : ℕ) (checksums : Bool) (store : S) (session : SessionState S) where
  pub is_opened : (facts session.disk.store).honest ≡ (facts store).honest → (facts store).failures ≤ (facts session.disk.store).failures
      → (IsTrue (facts store).honest → IsUnchanged (facts store) (facts session.disk.store))
      → (IsTrue (facts store).honest → stands (facts store).content ≡ Ok (session.disk.updated, session.disk.saved))
      → (IsTrue (facts store).honest → (session.document ≡ session.disk.updated) × (session.disk.in_doubt ≡ []))
      → (IsTrue (facts store).honest → IsExact facts session)
      → (IsTrue (facts store).honest → (updated saved : Document) (sequence : ℕ) (target : Bool)
      → stands (facts store).content ≡ Ok (updated, saved) → sequence_in (facts store).content ≡ Some sequence
      → machine_of target session ≡ opened_machine updated saved (has_one_directory (facts store).content) sequence frames target)
      → session.frames ≡ frames
      → (IsTrue (facts store).honest → sequence_in (facts store).content ≡ Some session.disk.sequence)
      → (IsTrue (facts store).honest → HasSequence (facts session.disk.store) session.disk.sequence)
      → (IsTrue (facts store).honest → session.disk.checksums ≡ (checksums || has_checksums (facts store).content))
      → IsCrashConsistent facts session.disk → IsOpened facts frames None checksums store session
  is_opened honest failures unchanged stands document exact machine same sequence numbered checksums_are crash_consistent = record {
    honest = honest;
    failures = failures;
    unchanged = unchanged;
    stands = stands;
    sequence = sequence;
    exact = exact;
    machine = λ h target. machine h session.disk.updated session.disk.saved session.disk.sequence target (stands h) (sequence h);
    numbered = numbered;
    frames_are = same;
    in_doubt = λ h. (document h).1;
    checksums_are = checksums_are;
    crash_consistent = crash_consistent;
  }

-- a session that differs in its limit alone
module _ {S : Type 0} (facts : S → StoreFacts) (frames : ℕ) (checksums : Bool) (store : S) (old new : SessionState S) (limit : Option ℕ)
    (same : new ≡ record old { log = record old.log { limit = limit } }) (machine : (target : Bool) → machine_of target new ≡ with_undo_limit limit (machine_of target old)) where
  exact_limited : IsExact facts old → IsExact facts new
  exact_limited exact = rw same (record { honest = exact.honest; steps = exact.steps })

  -- of one that was made
  pub created_limited : IsCreated facts frames None checksums store old → IsCreated facts frames limit checksums store new
  created_limited is =
      let machine_is : (target : Bool) → machine_of target new ≡ with_undo_limit limit (empty_machine frames target) = λ target. machine target ∙ ap (with_undo_limit limit) (is.machine target) in
      record {
        honest = rw same is.honest;
        failures = rw same is.failures;
        exact = λ h. exact_limited (is.exact h);
        machine = machine_is;
        frames_are = rw same is.frames_are;
        in_doubt = rw same is.in_doubt;
        numbered = rw same is.numbered;
        checksums_are = rw same is.checksums_are;
        version = rw same is.version;
        crash_consistent = rw same is.crash_consistent;
      }

  -- and of one that was opened
  pub opened_limited : IsOpened facts frames None checksums store old → IsOpened facts frames limit checksums store new
  opened_limited is =
      let disk : old.disk ≡ new.disk = sym (ap (λ (s : SessionState S). s.disk) same) in
      let of_disk : Bool → Disk S → Machine = λ target d. with_undo_limit limit (opened_machine d.updated d.saved (has_one_directory (facts store).content) d.sequence frames target) in
      record {
        honest = rw same is.honest;
        failures = rw same is.failures;
        unchanged = rw same is.unchanged;
        stands = rw same is.stands;
        sequence = rw same is.sequence;
        exact = λ h. exact_limited (is.exact h);
        machine = λ h target. machine target ∙ ap (with_undo_limit limit) (is.machine h target) ∙ ap (of_disk target) disk;
        numbered = rw same is.numbered;
        frames_are = rw same is.frames_are;
        in_doubt = rw same is.in_doubt;
        checksums_are = rw same is.checksums_are;
        crash_consistent = rw same is.crash_consistent;
      }

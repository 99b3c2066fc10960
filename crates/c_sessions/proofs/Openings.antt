-- Which log a session begins with on a file that is opened.
use Rattle.std.proofs.Common.{◌≡◌, ◌∙◌, ℕ, Bool, true, false, IsTrue, IfOk, MatchResult, Some, Ok, Err, ap, refl, sym}
use Rattle.geos_model.specs.Document.{Document}
use Rattle.file_format.specs.File.{stands}
use Rattle.geos_model.specs.Machine.{Machine, opened_machine}
use Rattle.vm_store.specs.Facts.{StoreFacts}
use Rattle.document_file.specs.Documents.{has_one_directory, sequence_in}
use Rattle.vm_blocks.specs.Opening.{IsOpenedFrom, IsNotOpened}
use Rattle.undo_log.specs.Logging.{Log, fresh_log}
use Rattle.undo_log.specs.Sessions.{file_of, machine_of}
use Rattle.c_sessions.specs.Files.{Begun}
use Rattle.c_sessions.specs.Keeping.{IsFreshLog, IsOpening}

-- where the saved document stands tells whether there is one directory
told_by_saved : (one known : Bool) → (fresh_log one).saved_at ≡ (fresh_log known).saved_at → one ≡ known
told_by_saved true true same = refl
told_by_saved false false same = refl
told_by_saved true false same = cc same
told_by_saved false true same = cc same

pub is_opening : {S : Type 0} (facts : S → StoreFacts) (frames : ℕ) (checksums : Bool) (store : S) (begun : Begun S)
    → MatchResult begun (λ session. IsOpenedFrom facts store checksums (file_of session)) (λ refused. IsNotOpened facts store refused.store refused.fault)
    → IfOk begun (λ session. ((one : Bool) × (session.log ≡ fresh_log one)) × (session.frames ≡ frames))
    → IfOk begun (λ session. IsTrue (facts store).honest → (updated saved : Document) (sequence : ℕ) (target : Bool)
    → stands (facts store).content ≡ Ok (updated, saved) → sequence_in (facts store).content ≡ Some sequence
    → machine_of target session ≡ opened_machine updated saved (has_one_directory (facts store).content) sequence frames target)
    → IsOpening facts frames checksums store begun
is_opening facts frames checksums store (Ok session) opened fresh machine =
    let begun : IsFreshLog (facts store) session.log = record {
      one = fresh.0.0;
      log_is = fresh.0.1;
      one_is = λ honest. told_by_saved fresh.0.0 (has_one_directory (facts store).content) (sym (ap (λ (l : Log). l.saved_at) fresh.0.1)
          ∙ ap (λ (m : Machine). m.saved_at) (machine honest _ _ _ true (opened.documents honest) (opened.sequence honest)));
    } in (opened, (begun, fresh.1))
is_opening facts frames checksums store (Err refused) opened fresh machine = (opened, tt)

-- The machine that a session begins with, and what a store stands for that comes back.
use Rattle.std.proofs.Common.{◌≡◌, ℕ, Bool, IsTrue, List, [], Some, sym, ap, subst, ◌∙◌}
use Rattle.std.specs.Prelude.{Result, Ok, Err, IfOk, MatchResult}
use Rattle.std.specs.Option.{option_map}
use Rattle.geos_model.specs.Document.{Document, IsValid}
use Rattle.file_format.specs.File.{stands}
use Rattle.geos_model.specs.Machine.{opened_machine}
use Rattle.vm_store.specs.Facts.{StoreFacts, IsTimely}
use Rattle.chunk_edits.specs.declared.direction.Direction.TheVariants.{Backwards, Forwards}
use Rattle.document_file.specs.Documents.{Documents, sequence_in}
use Rattle.document_file.specs.Disk.{FileState}
use Rattle.vm_blocks.specs.SavingAs.{IsSavedAs}
use Rattle.document_file.proofs.ContentLemmas.{committed_content}
use Rattle.undo_log.specs.Logging.{Log, before, entry_steps, fresh_log, group_of, reverted_log, to_redo, to_undo}
use Rattle.undo_log.specs.Sessions.{SessionState, file_of, locks_in, machine_of, AreSteps, IsExact}

-- with nothing to undo or to redo
pub begun : {S : Type 0} (s : SessionState S) (updated saved : Document) (one : Bool) (sequence frames : ℕ) (target : Bool) → s.document ≡ updated → s.disk.updated ≡ updated → s.disk.saved ≡ saved → s.disk.sequence ≡ sequence
    → s.log ≡ fresh_log one → s.resident ≡ [] → s.frames ≡ frames → machine_of target s ≡ opened_machine updated saved one sequence frames target
begun s updated saved one sequence frames target document is_updated is_saved number log resident allowed = λ i. record {
  document = document i;
  past = entry_steps Backwards (log i).undo (before (log i).group (document i));
  future = entry_steps Forwards (log i).redo (document i);
  past_names = (log i).undo_names;
  future_names = (log i).redo_names;
  group = option_map (group_of (document i)) (log i).group;
  updated = is_updated i;
  saved = is_saved i;
  updated_at = (log i).updated_at;
  saved_at = (log i).saved_at;
  touched = (log i).touched;
  undo_limit = (log i).limit;
  locks = locks_in (resident i);
  frames = allowed i;
  target = target;
  sequence = number i;
}

-- what a file that was opened stands for, and its number, are those of the session
pub opened : {S : Type 0} (file : FileState S) (content : List ℕ) (one : Bool) (frames : ℕ) (s : SessionState S) → file_of s ≡ file → s.log ≡ fresh_log one → s.resident ≡ [] → s.frames ≡ frames
    → stands content ≡ Ok (file.disk.updated, file.disk.saved) → file.document ≡ file.disk.updated → sequence_in content ≡ Some file.disk.sequence
    → (updated saved : Document) (sequence : ℕ) (target : Bool) → stands content ≡ Ok (updated, saved) → sequence_in content ≡ Some sequence → machine_of target s ≡ opened_machine updated saved one sequence frames target
opened {S} file content one frames s begins log resident allowed stand document number updated saved sequence target is is_number =
    let same : (file.disk.updated, file.disk.saved) ≡ (updated, saved) = cc (stand, is) in
    let numbers : file.disk.sequence ≡ sequence = cc (number, is_number) in
    let first : file.disk.updated ≡ updated = ap (λ (d : Documents). d.0) same in
    begun s updated saved one sequence frames target
    (ap (λ (x : FileState S). x.document) begins ∙ document ∙ first)
    (ap (λ (x : FileState S). x.disk.updated) begins ∙ first)
    (ap (λ (x : FileState S). x.disk.saved) begins ∙ ap (λ (d : Documents). d.1) same)
    (ap (λ (x : FileState S). x.disk.sequence) begins ∙ numbers)
    log resident allowed

-- with nothing to undo or to redo a session over an honest store is exact
pub begun_exact : {S : Type 0} (facts : S → StoreFacts) (s : SessionState S) (one : Bool) → (IsTrue (facts s.disk.store).honest → IsValid s.document) → s.log ≡ fresh_log one → IsTrue (facts s.disk.store).honest → IsExact facts s
begun_exact facts s one valid log so = record {
  honest = so;
  steps = subst (λ (l : Log). AreSteps Backwards s.document (to_undo l) (to_redo l)) (sym log) (record { valid = valid so; first = tt; second = tt });
}

-- and so it is with nothing left after a revert
pub cleared_exact : {S : Type 0} (facts : S → StoreFacts) (s : SessionState S) (log : Log) → (IsTrue (facts s.disk.store).honest → IsValid s.document) → s.log ≡ reverted_log log → IsTrue (facts s.disk.store).honest → IsExact facts s
cleared_exact facts s log valid is so = record {
  honest = so;
  steps = subst (λ (l : Log). AreSteps Backwards s.document (to_undo l) (to_redo l)) (sym is) (record { valid = valid so; first = tt; second = tt });
}

-- the store that comes back from a save-as
pub comes_back : {S E : Type 0} (facts : S → StoreFacts) (timely : (store : S) → IsTrue (facts store).honest → IsTimely (facts store)) (target : S) (old new : FileState S) (P : E → Type 0) (r : Result S E)
    → MatchResult r (λ store. IsSavedAs facts target store old new) P → IfOk r (λ store. IsTrue (facts old.disk.store).honest → stands (facts store).content ≡ Ok (old.disk.saved, old.disk.saved))
comes_back facts timely target old new P (Ok store) saved = λ so.
    let pair : Documents = (old.disk.saved, old.disk.saved) in
    let (disk, is, commits) = saved.reverted in
    let now : IsTrue (facts disk.store).honest = subst IsTrue (sym commits.honest) so in
    subst (λ s. stands (facts s).content ≡ Ok pair) is (committed_content facts timely pair old.disk disk (Ok tt) commits now ∙ ap (λ d. Ok d) (commits.ok so).0)
comes_back facts timely target old new P (Err e) given = tt

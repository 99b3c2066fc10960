-- What a refusal leaves, over any store.
use Rattle.std.proofs.Common.{◌≡◌, Option, Some, None, Result, Ok, Err, refl, ap}
use Rattle.std.specs.Prelude.{OnErr, IfErr, MatchResult}
use Rattle.geos_model.specs.Document.{Document}
use Rattle.geos_model.specs.declared.fault.Fault.{Fault}
use Rattle.vm_store.specs.Facts.{StoreFacts}
use Rattle.document_file.specs.Disk.{SameUnlessCorrupt}
use Rattle.document_file.specs.Documents.{Documents}
use Rattle.document_file.proofs.PassingLemmas.{SameUnlessCorrupt-refl}
use Rattle.undo_log.specs.Committing.{IsSaveAsRefused, IsSessionCommit}
use Rattle.undo_log.specs.Sessions.{SessionState, KeepsSession, locks_in}
use Rattle.undo_log.specs.Turning.{busy_fault}
use Rattle.undo_log.proofs.Keeping.{kept_drifts, kept_frames, kept_locked, kept_passes}
use Rattle.undo_log.proofs.Locks.{kept_locks}
use Rattle.geos_replies.specs.Holdings.{Holding, KeepsHolding, holding}

-- what a call that was refused did, of one that always tells
pub on_err_of : {A E : Type 0} (P Q : Type 0) (r : Result A E) → MatchResult r (λ _. P) (λ _. Q) → OnErr r Q
on_err_of P Q (Ok x) tells = tt
on_err_of P Q (Err e) tells = tells

module _ {S : Type 0} (facts : S → StoreFacts) where
  -- what does nothing keeps all
  pub keeps_all : (h : Holding S) → KeepsHolding facts h h
  keeps_all h = record { document = SameUnlessCorrupt-refl _ h.session.document; log = refl; locks = refl; frames = refl; sequence = refl; target = refl; former = refl }

  module _ (target former : Option S) (old new : SessionState S) where
    -- so does what changes nothing of a session
    pub keeps_same : new ≡ old → KeepsHolding facts (holding old target former) (holding new target former)
    keeps_same same = rw same (keeps_all (holding old target former))

    -- and what keeps the session
    pub keeps_with : KeepsSession facts old new → KeepsHolding facts (holding old target former) (holding new target former)
    keeps_with keeps =
        record {
          document = kept_drifts facts old new keeps;
          log = keeps.log;
          locks = kept_locks old.resident new.resident (kept_locked facts old new keeps);
          frames = kept_frames facts old new keeps;
          sequence = (kept_passes facts old new keeps).sequence;
          target = refl;
          former = refl;
        }

    -- what changes nothing where it is refused
    pub keeps_if_same : {A : Type 0} (wrong : Fault) (Q : Type 0) (r : Result A Fault) → IfErr r (λ fault. (fault ≡ wrong) × Q × (new ≡ old))
        → OnErr r (KeepsHolding facts (holding old target former) (holding new target former))
    keeps_if_same wrong Q (Ok x) same = tt
    keeps_if_same wrong Q (Err fault) same = keeps_same same.2

    -- a commit that is refused: for a group or a lock, or by the file
    pub keeps_commit : (pair : Documents) (d : Document) (r : Result (Unit {0}) Fault) → IsSessionCommit facts pair d old new r → OnErr r (new.log ≡ old.log) → new.frames ≡ old.frames
        → OnErr r (new.resident ≡ old.resident) → OnErr r (KeepsHolding facts (holding old target former) (holding new target former))
    keeps_commit pair d (Ok x) commit log frames resident = tt
    keeps_commit pair d (Err fault) commit log frames resident = by (busy_fault old) refl
      where
        by : (busy : Option Fault) → busy_fault old ≡ busy → KeepsHolding facts (holding old target former) (holding new target former)
        by (Some f) is = keeps_same (commit.held f is).1
        by None is =
            record { document = (commit.free is).document; log = log; locks = ap locks_in resident; frames = frames; sequence = commit.commits.sequence; target = refl; former = refl }

  -- a save-as that is refused, after which the target is there again
  pub keeps_target : (old new : SessionState S) (target back : S) (former : Option S) (fault : Fault) → IsSaveAsRefused facts target back old new fault
      → ((f : Fault) → busy_fault old ≡ Some f → new ≡ old) → (new.log ≡ old.log) × (new.frames ≡ old.frames) → new.resident ≡ old.resident
      → KeepsHolding facts (holding old (Some target) former) (holding new (Some back) former)
  keeps_target old new target back former fault refused held lists resident = by (busy_fault old) refl
    where
      drifts : (busy : Option Fault) → busy_fault old ≡ busy → SameUnlessCorrupt (facts old.disk.store).honest old.document new.document
      drifts (Some f) is = rw (held f is) (SameUnlessCorrupt-refl _ old.document)
      drifts None is = (refused.free is).document

      by : (busy : Option Fault) → busy_fault old ≡ busy → KeepsHolding facts (holding old (Some target) former) (holding new (Some back) former)
      by busy is =
          record { document = drifts busy is; log = lists.0; locks = ap locks_in resident; frames = lists.1; sequence = refused.commits.sequence; target = refl; former = refl }

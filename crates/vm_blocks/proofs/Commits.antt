-- Commits of a file under frames.
use Rattle.std.proofs.Common.{◌≡◌, ◌≢◌, ℕ, IsTrue, List, [], sym, ap, subst}
use Rattle.std.specs.Prelude.{Result, Ok, Err}
use Rattle.geos_model.specs.Document.{Document}
use Rattle.geos_model.specs.declared.fault.Fault.{Fault}
use Rattle.geos_model.specs.declared.fault.Fault.TheVariants.{Worn}
use Rattle.vm_store.specs.Facts.{StoreFacts, IsTimely}
use Rattle.document_file.specs.Calls.{last_sequence}
use Rattle.document_file.specs.Documents.{Documents}
use Rattle.document_file.specs.Disk.{FileState, IsCrashConsistent, SameUnlessCorrupt}
use Rattle.document_file.specs.Effects.{IsCommit}
use Rattle.document_file.proofs.EffectsLemmas.{settled_after, committed}
use Rattle.document_file.proofs.PassingLemmas.{KeepsCommitted-fails, SameUnlessCorrupt-trans}
use Rattle.document_file.proofs.ResultLemmas.{either_way, any_way}
use Rattle.vm_blocks.specs.Frames.{overlay, with_frames, AreFramesOf, KeepsOverlay}
use Rattle.vm_blocks.specs.declared.frame.Frame.{Frame}
use Rattle.vm_blocks.proofs.DocumentUnderFrames.{kept_drifts, overlay_drifts}

module _ {S : Type 0} (facts : S → StoreFacts) where
  -- a file that has committed, or not, with the same frames over it
  pub kept_after : (a b : FileState S) (fs : List (ℕ × Frame)) → (facts b.disk.store).honest ≡ (facts a.disk.store).honest → SameUnlessCorrupt (facts a.disk.store).honest a.document b.document → AreFramesOf (facts a.disk.store).honest a.document fs → AreFramesOf (facts b.disk.store).honest b.document fs
  kept_after a b fs same unless_corrupt kept = subst (λ t. AreFramesOf t b.document fs) (sym same) (kept_drifts _ fs a.document b.document unless_corrupt kept)

  -- a commit of the file that was refused leaves the frames over it
  pub refused_under : (a b : FileState S) (pair : Documents) (d : Document) (es : List (ℕ × Frame)) (fault : Fault) → AreFramesOf (facts a.disk.store).honest a.document es → IsCommit facts pair d a b (Err fault) → IsCommit facts pair d (with_frames a es) (with_frames b es) (Err fault)
  refused_under a b pair d es fault kept commit = record {
    commits = commit.commits;
    content = tt;
    version = tt;
    document = overlay_drifts _ es a.document b.document commit.document kept;
    passes = commit.passes;
    worn = commit.worn;
    early = λ is. ap (λ (x : FileState S). with_frames x es) (commit.early is);
  }

  -- one that was accepted, over which no frame is left
  pub accepted_bare : (a b : FileState S) (pair : Documents) (d : Document) (es : List (ℕ × Frame)) → IsCommit facts pair d a b (Ok tt) → IsCommit facts pair d (with_frames a es) (with_frames b []) (Ok tt)
  accepted_bare a b pair d es commit = record {
    commits = commit.commits;
    content = commit.content;
    version = commit.version;
    document = commit.document;
    passes = tt;
    worn = commit.worn;
    early = λ is. absurd (cc is);
  }

  module _ (timely : (store : S) → IsTrue (facts store).honest → IsTimely (facts store)) where
    -- what moves, and then no commit
    pub not_committed : (a b : FileState S) (es fs : List (ℕ × Frame)) (pair : Documents) (behind : Document) (fault : Fault) → KeepsOverlay facts a es b fs → IsCrashConsistent facts a.disk → a.disk.sequence ≢ last_sequence → fault ≢ Worn
        → IsCommit facts pair behind (with_frames a es) (with_frames b fs) (Err fault)
    not_committed a b es fs pair behind fault moves crash_consistent fresh unworn = record {
      commits = KeepsCommitted-fails facts a.disk b.disk pair fault moves.passes (settled_after facts timely a.disk b.disk moves.passes crash_consistent);
      content = tt;
      version = tt;
      document = moves.unless_corrupt;
      passes = λ _. moves.passes;
      worn = (λ is. absurd (unworn (cc is)), λ last. absurd (fresh last));
      early = λ is. absurd (unworn (cc is));
    }

    -- what moves, and then a commit of the file's document
    pub committed_under : (a b c : FileState S) (es fs : List (ℕ × Frame)) (meant pair : Documents) (result : Result (Unit {0}) Fault) → KeepsOverlay facts a es b fs → (IsTrue (facts a.disk.store).honest → pair ≡ meant) → a.disk.sequence ≢ last_sequence
        → IsCommit facts pair b.document b c result → IsCommit facts meant (overlay es a.document) (with_frames a es) (with_frames c fs) result
    committed_under a b c es fs meant pair result moves same fresh commit =
        let on : SameUnlessCorrupt (facts a.disk.store).honest (overlay fs b.document) (overlay fs c.document) =
        subst (λ t. SameUnlessCorrupt t (overlay fs b.document) (overlay fs c.document)) moves.passes.honest (overlay_drifts (facts b.disk.store).honest fs b.document c.document (any_way result _ commit.document) moves.kept) in
        committed facts timely a b c meant pair (overlay es a.document) (overlay fs c.document) (overlay es a.document) b.document result moves.passes same fresh
        (either_way result _ (SameUnlessCorrupt-trans (facts a.disk.store).honest (overlay es a.document) (overlay fs b.document) (overlay fs c.document) moves.unless_corrupt on)) commit

-- A save-as of a file under frames.
use Rattle.std.proofs.Common.{◌≡◌, ◌≢◌, ◌⊎◌, ℕ, ◌&&◌, Bool, false, true, IsTrue, List, refl, sym, ap, subst, ◌∙◌, inl, inr, arith}
use Rattle.std.specs.Prelude.{Ok, Err}
use Rattle.std.proofs.lemmas.Bool.{and_parts}
use Rattle.geos_model.specs.Document.{Document, is_live, is_vm_handle}
use Rattle.geos_model.specs.declared.fault.Fault.{Fault}
use Rattle.geos_model.specs.declared.fault.Fault.TheVariants.{File, Damaged, Worn}
use Rattle.vm_store.specs.Facts.{StoreFacts, FailedSince, IsTimely}
use Rattle.document_file.specs.Calls.{IsResourceFault, IsCommitRefusal, last_sequence}
use Rattle.document_file.specs.Disk.{FileState, IsCrashConsistent, SameUnlessCorrupt, KeepsCommitted, MayCommit}
use Rattle.document_file.specs.Effects.{SameStore, IsNewFile, OnlyReads, IsCommit, Fails, NoFault, IsWorn}
use Rattle.document_file.proofs.EffectsLemmas.{settled_after}
use Rattle.document_file.proofs.PassingLemmas.{KeepsCommitted-refl, KeepsCommitted-trans, KeepsCommitted-fails, KeepsCommitted-MayCommit, MayCommit-refused, SameUnlessCorrupt-refl, SameUnlessCorrupt-trans}
use Rattle.vm_blocks.specs.SavingAs.{IsSavedAs, IsNotSavedAs}
use Rattle.vm_blocks.specs.Frames.{overlay, with_frames, is_changed_in, AreFramesOf, KeepsOverlay}
use Rattle.vm_blocks.specs.declared.frame.Frame.{Frame}
use Rattle.vm_blocks.proofs.CallAfterCall.{moves_live}
use Rattle.vm_blocks.proofs.DocumentUnderFrames.{kept_drifts, overlay_drifts, overlay_live, clean_overlay}

-- what is less honest

kept_less : (honest less : Bool) (d : Document) (es : List (ℕ × Frame)) → (IsTrue less → IsTrue honest) → AreFramesOf honest d es → AreFramesOf less d es
kept_less honest less d es so kept = record { each = λ h f is. record { live = (kept.each h f is).live; few = (kept.each h f is).few; kind = (kept.each h f is).kind; clean = λ is_so. (kept.each h f is).clean (so is_so) } }

drifts_less : (honest less : Bool) (d e : Document) → (IsTrue less → IsTrue honest) → SameUnlessCorrupt honest d e → SameUnlessCorrupt less d e
drifts_less honest less d e so unless_corrupt = record { live = unless_corrupt.live; attributes = unless_corrupt.attributes; kinds = unless_corrupt.kinds; map_block = unless_corrupt.map_block; same = λ is_so. unless_corrupt.same (so is_so) }

pub kept_for_none : (honest : Bool) (d e : Document) (es : List (ℕ × Frame)) → SameUnlessCorrupt false d e → AreFramesOf honest d es → AreFramesOf false e es
kept_for_none honest d e es unless_corrupt kept = kept_drifts false es d e unless_corrupt (kept_less honest false d es (λ wrong. absurd (cc wrong)) kept)

module _ {S : Type 0} (facts : S → StoreFacts) where
  follows_refl : (store : S) → SameStore facts store store
  follows_refl store = record { honest = refl; failures = omega arith }

  -- the copy's handles are those of the file
  pub copied_handles : (a b n : FileState S) (es fs : List (ℕ × Frame)) → KeepsOverlay facts a es b fs → AreFramesOf (facts a.disk.store).honest a.document es → SameUnlessCorrupt false b.document n.document
      → ((h : ℕ) → is_live a.document h ≡ true → is_vm_handle h ≡ true) → (h : ℕ) → is_live n.document h ≡ true → is_vm_handle h ≡ true
  copied_handles a b n es fs moves kept unless_corrupt handles h there = handles h (sym (moves_live facts a es b fs kept moves h) ∙ sym (unless_corrupt.live h) ∙ there)

  -- the number can't rise
  pub refused_early : (a : FileState S) (es : List (ℕ × Frame)) (target : S) → IsCrashConsistent facts a.disk → IsNotSavedAs facts target target (with_frames a es) (with_frames a es) Worn
  refused_early a es target crash_consistent = record {
    commits = MayCommit-refused facts a.disk (a.disk.saved, a.disk.saved) Worn crash_consistent;
    passes = λ _. KeepsCommitted-refl facts a.disk;
    follows = follows_refl target;
    document = SameUnlessCorrupt-refl _ _;
    early = λ _. (refl, refl);
    file = λ wrong. absurd (cc wrong);
    damaged = λ wrong. absurd (cc wrong);
    faults = inl (inr refl);
  }

  module _ (timely : (store : S) → IsTrue (facts store).honest → IsTimely (facts store)) (a b : FileState S) (es fs : List (ℕ × Frame)) (moves : KeepsOverlay facts a es b fs) (crash_consistent : IsCrashConsistent facts a.disk) (target : S) where
    -- what is in memory couldn't be written
    pub not_flushed : (fault : Fault) → Fails {A = Unit {0}} facts NoFault a.disk.store b.disk.store (Err fault) → IsNotSavedAs facts target target (with_frames a es) (with_frames b fs) fault
    not_flushed fault fails = record {
      commits = KeepsCommitted-fails facts a.disk b.disk (a.disk.saved, a.disk.saved) fault moves.passes (settled_after facts timely a.disk b.disk moves.passes crash_consistent);
      passes = λ _. moves.passes;
      follows = follows_refl target;
      document = moves.unless_corrupt;
      early = λ worn. elim fails.faults [ inl (inl memory) ↦ absurd (cc (memory, worn)) | inl (inr file) ↦ absurd (cc (file, worn)) | inr none ↦ absurd none ];
      file = λ file. inl (fails.file (ap Err file));
      damaged = λ damaged. elim fails.faults [ inl (inl memory) ↦ absurd (cc (memory, damaged)) | inl (inr file) ↦ absurd (cc (file, damaged)) | inr none ↦ absurd none ];
      faults = elim fails.faults as (λ _. IsCommitRefusal fault ⊎ (fault ≡ Damaged)) [ inl supply ↦ inl (inl supply) | inr none ↦ absurd none ];
    }

    module _ (d : FileState S) (read : OnlyReads facts b d) where
      passes_read : KeepsCommitted facts a.disk d.disk
      passes_read = KeepsCommitted-trans facts a.disk b.disk d.disk moves.passes read.passes

      drifts_read : SameUnlessCorrupt (facts a.disk.store).honest (overlay es a.document) (overlay fs d.document)
      drifts_read = SameUnlessCorrupt-trans (facts a.disk.store).honest (overlay es a.document) (overlay fs b.document) (overlay fs d.document) moves.unless_corrupt
          (subst (λ t. SameUnlessCorrupt t (overlay fs b.document) (overlay fs d.document)) moves.passes.honest (overlay_drifts (facts b.disk.store).honest fs b.document d.document read.document moves.kept))

      -- it couldn't be copied
      pub not_copied : (back : S) (fault : Fault) → SameStore facts target back → (fault ≡ File → FailedSince (facts b.disk.store) (facts d.disk.store) ⊎ FailedSince (facts target) (facts back))
          → (fault ≡ Damaged → IsTrue (facts b.disk.store).honest → ⊥) → IsResourceFault fault ⊎ (fault ≡ Damaged) → IsNotSavedAs facts target back (with_frames a es) (with_frames d fs) fault
      not_copied back fault follows file damaged faults = record {
        commits = KeepsCommitted-fails facts a.disk d.disk (a.disk.saved, a.disk.saved) fault passes_read (settled_after facts timely a.disk d.disk passes_read crash_consistent);
        passes = λ _. passes_read;
        follows = follows;
        document = drifts_read;
        early = λ worn. elim faults [ inl (inl memory) ↦ absurd (cc (memory, worn)) | inl (inr file) ↦ absurd (cc (file, worn)) | inr damage ↦ absurd (cc (damage, worn)) ];
        file = λ is. elim (file is) as (λ _. FailedSince (facts a.disk.store) (facts d.disk.store) ⊎ FailedSince (facts target) (facts back)) [
          | inl raised ↦ let low = moves.passes.failures in inl (omega (arith, low, raised))
          | inr raised ↦ inr raised
        ];
        damaged = λ is so. damaged is (subst IsTrue (sym moves.passes.honest) so);
        faults = elim faults as (λ _. IsCommitRefusal fault ⊎ (fault ≡ Damaged)) [ inl supply ↦ inl (inl supply) | inr damage ↦ inr damage ];
      }

      -- the old file couldn't be reverted
      module _ (e : FileState S) (back : S) (follows : SameStore facts target back) where
        pub not_reverted : (fault : Fault) → a.disk.sequence ≢ last_sequence → IsCommit facts (d.disk.saved, d.disk.saved) d.disk.saved d e (Err fault) → Fails {A = Unit {0}} facts IsWorn d.disk.store e.disk.store (Err fault)
            → IsNotSavedAs facts target back (with_frames a es) (with_frames e fs) fault
        not_reverted fault fresh commit fails =
            let honest = (facts a.disk.store).honest in
            let low = passes_read.failures in
            let raised : fault ≡ File → FailedSince (facts a.disk.store) (facts e.disk.store) = λ is. let more = fails.file (ap Err is) in omega (arith, low, more) in
            record {
              commits = KeepsCommitted-MayCommit facts a.disk d.disk e.disk (a.disk.saved, a.disk.saved) (d.disk.saved, d.disk.saved) (Err fault) passes_read (λ so i. (passes_read.saved so i, passes_read.saved so i)) commit.commits;
              passes = λ unfailed. KeepsCommitted-trans facts a.disk d.disk e.disk passes_read (commit.passes (λ is. unfailed is (raised is)));
              follows = follows;
              document = SameUnlessCorrupt-trans honest (overlay es a.document) (overlay fs d.document) (overlay fs e.document) drifts_read
                  (subst (λ t. SameUnlessCorrupt t (overlay fs d.document) (overlay fs e.document)) passes_read.honest
                  (overlay_drifts (facts d.disk.store).honest fs d.document e.document commit.document (subst (λ t. AreFramesOf t d.document fs) (sym read.passes.honest) (kept_drifts (facts b.disk.store).honest fs b.document d.document read.document moves.kept))));
              early = λ worn. absurd (fresh (sym passes_read.sequence ∙ commit.worn.0 (ap Err worn)));
              file = λ is. inl (raised is);
              damaged = λ is. elim fails.faults [ inl (inl memory) ↦ absurd (cc (memory, is)) | inl (inr file) ↦ absurd (cc (file, is)) | inr worn ↦ absurd (cc (worn, is)) ];
              faults = inl fails.faults;
            }

      -- it was, and the copy takes its place
      module _ (e n : FileState S) (gs : List (ℕ × Frame)) (store : S) (clean : (h : ℕ) → is_changed_in fs h ≡ false) (handles : SameUnlessCorrupt false b.document n.document)
          (copied : IsTrue (facts b.disk.store).honest → IsTrue (facts target).honest → n.document ≡ b.document) (checksums : n.disk.checksums ≡ b.disk.checksums) (shown : (x : Document) → overlay gs x ≡ overlay fs x) where
        abbrev honest : Bool
        honest = (facts a.disk.store).honest

        abbrev both : Bool
        both = honest && (facts target).honest

        to_b : IsTrue honest → IsTrue (facts b.disk.store).honest
        to_b so = subst IsTrue (sym moves.passes.honest) so

        of_both : IsTrue both → IsTrue honest × IsTrue (facts target).honest
        of_both so = and_parts honest (facts target).honest so

        same : IsTrue honest → b.document ≡ overlay es a.document
        same so = sym (clean_overlay (facts b.disk.store).honest fs b.document (to_b so) moves.kept clean) ∙ moves.unless_corrupt.same so

        copy_drifts : SameUnlessCorrupt both b.document n.document
        copy_drifts = record { live = handles.live; attributes = handles.attributes; kinds = handles.kinds; map_block = handles.map_block; same = λ so. copied (to_b (of_both so).0) (of_both so).1 }

        pub saved : IsNewFile facts n.document n.disk → SameStore facts target n.disk.store → e.disk.store ≡ store → MayCommit facts (d.disk.saved, d.disk.saved) d.disk e.disk (Ok tt)
            → IsSavedAs facts target store (with_frames a es) (with_frames n gs)
        saved made follows back revert = record {
          reverted = (e.disk, back, KeepsCommitted-MayCommit facts a.disk d.disk e.disk (a.disk.saved, a.disk.saved) (d.disk.saved, d.disk.saved) (Ok tt) passes_read (λ so i. (passes_read.saved so i, passes_read.saved so i)) revert);
          new_file = subst (λ x. IsNewFile facts x n.disk) (sym made.updated) made;
          made = λ so there. let is = copied (to_b so) there ∙ same so in (made.updated ∙ is, made.saved ∙ is);
          live = λ h. ap (λ x. is_live x h) made.updated ∙ handles.live h ∙ sym (overlay_live (facts b.disk.store).honest fs b.document h moves.kept) ∙ moves.unless_corrupt.live h;
          follows = follows;
          checksums = checksums ∙ moves.passes.checksums;
          document = subst (SameUnlessCorrupt both (overlay es a.document)) (sym (shown n.document))
              (SameUnlessCorrupt-trans both (overlay es a.document) (overlay fs b.document) (overlay fs n.document) (drifts_less honest both (overlay es a.document) (overlay fs b.document) (λ so. (of_both so).0) moves.unless_corrupt)
              (overlay_drifts both fs b.document n.document copy_drifts (kept_less (facts b.disk.store).honest both b.document fs (λ so. to_b (of_both so).0) moves.kept)));
        }

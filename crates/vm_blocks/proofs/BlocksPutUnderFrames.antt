-- Blocks that are put into a file under frames, or aren't.
use Rattle.std.proofs.Common.{ℕ, List, All, sym, subst}
use Rattle.std.specs.Prelude.{Result, Ok, Err, MatchResult}
use Rattle.vm_store.specs.Facts.{StoreFacts}
use Rattle.geos_model.specs.declared.fault.Fault.{Fault}
use Rattle.document_file.specs.Calls.{put_all}
use Rattle.document_file.specs.Disk.{FileState, SameUnlessCorrupt}
use Rattle.document_file.specs.Effects.{LeavesDocument}
use Rattle.document_file.specs.declared.member.Member.{Member}
use Rattle.vm_blocks.specs.Frames.{overlay, with_frames, AreFramesOf}
use Rattle.vm_blocks.specs.declared.frame.Frame.{Frame}
use Rattle.vm_blocks.proofs.Blocks.{IsAway, overlay_puts, kept_puts}
use Rattle.vm_blocks.proofs.DocumentUnderFrames.{kept_drifts, overlay_drifts}
use Rattle.vm_blocks.proofs.CallAfterCall.{kept_passes}

module _ {S : Type 0} (facts : S → StoreFacts) (a b : FileState S) (es : List (ℕ × Frame)) (puts : List Member) where
  pub puts_kept : (r : Result (Unit {0}) Fault) → All (IsAway es) puts → AreFramesOf (facts a.disk.store).honest a.document es
      → MatchResult r (λ _. LeavesDocument facts (put_all puts a.document) a b) (λ _. LeavesDocument facts a.document a b) → AreFramesOf (facts b.disk.store).honest b.document es
  puts_kept (Ok x) away kept keeps =
      let honest = (facts a.disk.store).honest in
      kept_passes facts a b es keeps.passes (kept_drifts honest es (put_all puts a.document) b.document keeps.document (kept_puts es honest puts a.document away kept))
  puts_kept (Err fault) away kept keeps = kept_passes facts a b es keeps.passes (kept_drifts (facts a.disk.store).honest es a.document b.document keeps.document kept)

  pub puts_under : (r : Result (Unit {0}) Fault) → All (IsAway es) puts → AreFramesOf (facts a.disk.store).honest a.document es
      → MatchResult r (λ _. LeavesDocument facts (put_all puts a.document) a b) (λ _. LeavesDocument facts a.document a b)
      → MatchResult r (λ _. LeavesDocument facts (put_all puts (overlay es a.document)) (with_frames a es) (with_frames b es)) (λ _. LeavesDocument facts (overlay es a.document) (with_frames a es) (with_frames b es))
  puts_under (Ok x) away kept keeps =
      let honest = (facts a.disk.store).honest in
      record {
        passes = keeps.passes;
        document = subst (λ d. SameUnlessCorrupt honest d (overlay es b.document)) (sym (overlay_puts es puts a.document away))
            (overlay_drifts honest es (put_all puts a.document) b.document keeps.document (kept_puts es honest puts a.document away kept));
      }
  puts_under (Err fault) away kept keeps = record { passes = keeps.passes; document = overlay_drifts (facts a.disk.store).honest es a.document b.document keeps.document kept }

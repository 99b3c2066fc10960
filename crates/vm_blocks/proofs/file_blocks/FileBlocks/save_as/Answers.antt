use Rattle.std.proofs.Common.{◌≡◌, ◌≢◌, ◌≤◌, false, IsTrue, refl, sym, ap, subst, ◌∙◌}
use Rattle.std.specs.Prelude.{Err}
use Rattle.std.proofs.lemmas.Result.{err_from_is_err_and}
use Rattle.geos_model.specs.Document.{IsValid}
use Rattle.geos_model.specs.declared.fault.Fault.TheVariants.{Worn}
use Rattle.document_file.specs.Calls.{last_sequence}
use Rattle.document_file.specs.Disk.{FileState}
use Rattle.document_file.specs.Effects.{SameStore}
use Rattle.vm_blocks.specs.SavingAs.{IsSavedAs, IsNotSavedAs}
use Rattle.vm_blocks.specs.Frames.{overlay, shown, with_frames}
use Rattle.vm_blocks.specs.Sound.{AreBlocksOf}
use Rattle.vm_blocks.specs.State.{CacheState, as_file, locked_count}
use Rattle.vm_blocks.proofs.CallAfterCall.{moves_drift}
use Rattle.vm_blocks.proofs.Commits.{kept_after}
use Rattle.vm_blocks.proofs.DocumentUnderFrames.{overlay_drifts}
use Rattle.vm_blocks.proofs.SavedAs.{refused_early, kept_for_none, copied_handles, not_flushed, not_copied, not_reverted, saved}
use Rattle.vm_blocks.proofs.StateValidity.{blocks_drift, sound_drifts}
use Rattle.vm_blocks.proofs.file_blocks.FileBlocks.save_as.Goals as goal

-- the number can't rise

pub returns-then-is_worn-clause-saved_as : goal.returns-then-is_worn-clause-saved_as
returns-then-is_worn-clause-saved_as g c =
    let a = c.self.inside.file in let es = c.self.inside.frames.entries in
    subst (λ (s : CacheState g.row.S.Denot). IsNotSavedAs g.S.Store.facts c.args.target c.args.target (as_file s) (as_file s) Worn) c.self.view_is
    (refused_early g.S.Store.facts a es c.args.target c.reveal_invariant.ensures.crash_consistent)

-- what is in memory couldn't be written

pub invariant_of-self : goal.invariant_of-self
invariant_of-self g c =
    let s = c.self.inside in
    let new = c.flush.new in
    (blocks_drift g.S.Store.facts s.file s.frames.entries s.frames.cap new.file new.frames.entries new.frames.cap c.self.invariant.0 c.flush.ensures.moves c.flush.ensures.cap, c.self.invariant.1 ∙ sym (ap locked_count c.flush.ensures.residents))

pub returns-in-Err-clause-saved_as : goal.returns-in-Err-clause-saved_as
returns-in-Err-clause-saved_as g c =
    let a = c.self.inside.file in let es = c.self.inside.frames.entries in
    let new = c.flush.new in
    subst (λ (s : CacheState g.row.S.Denot). IsNotSavedAs g.S.Store.facts c.args.target c.args.target (as_file s) (with_frames new.file new.frames.entries) c.in-Err.fault) c.self.view_is
    (not_flushed g.S.Store.facts g.met.S.Store.timely a new.file es new.frames.entries c.flush.ensures.moves c.reveal_invariant.ensures.crash_consistent c.args.target c.in-Err.fault c.in-Err.ensures.fails)

-- it couldn't be copied

pub invariant_of-self-in_err-copied : goal.invariant_of-self-in_err-copied
invariant_of-self-in_err-copied g c =
    let facts = g.S.Store.facts in
    let s = c.self.inside in
    let new = c.flush.new in
    let reads = c.copy_to.ensures.reads in (
      blocks_drift facts new.file new.frames.entries new.frames.cap c.copy_to.new.self new.frames.entries new.frames.cap
          (blocks_drift facts s.file s.frames.entries s.frames.cap new.file new.frames.entries new.frames.cap c.self.invariant.0 c.flush.ensures.moves c.flush.ensures.cap)
          (moves_drift facts new.file c.copy_to.new.self new.frames.entries c.flush.ensures.moves.kept reads.passes reads.document) refl,
      c.self.invariant.1 ∙ sym (ap locked_count c.flush.ensures.residents),
    )

pub returns-in_err-copied-clause-saved_as : goal.returns-in_err-copied-clause-saved_as
returns-in_err-copied-clause-saved_as g c =
    let facts = g.S.Store.facts in
    let a = c.self.inside.file in let b = c.flush.new.file in let d = c.copy_to.new.self in
    let es = c.self.inside.frames.entries in let fs = c.flush.new.frames.entries in
    let p = err_from_is_err_and c.from_residual.result c.from_residual.ensures.1 in
    let copy = c.in_err-copied.ensures in let refused = c.in_err-copied.field-0.0 in
    rw (p.1 ∙ ap Err p.2) (subst (λ (s : CacheState g.row.S.Denot). IsNotSavedAs facts c.args.target refused.store (as_file s) (with_frames d fs) refused.fault) c.self.view_is
    (not_copied facts g.met.S.Store.timely a b es fs c.flush.ensures.moves c.reveal_invariant.ensures.crash_consistent c.args.target d c.copy_to.ensures.reads refused.store refused.fault copy.target copy.file copy.damaged copy.refusals))

-- the old file couldn't be reverted

pub invariant_of-self-in-Err-commit_revert : goal.invariant_of-self-in-Err-commit_revert
invariant_of-self-in-Err-commit_revert g c =
    let facts = g.S.Store.facts in
    let s = c.self.inside in
    let b = c.flush.new.file in let d = c.copy_to.new.self in let e = c.commit_revert.new.self in
    let fs = c.flush.new.frames.entries in let cap = c.flush.new.frames.cap in
    let reads = c.copy_to.ensures.reads in
    let revert = c.in-Err-commit_revert.ensures.commit in
    let before = blocks_drift facts b fs cap d fs cap (blocks_drift facts s.file s.frames.entries s.frames.cap b fs cap c.self.invariant.0 c.flush.ensures.moves c.flush.ensures.cap) (moves_drift facts b d fs c.flush.ensures.moves.kept reads.passes reads.document) refl in (
      record {
        kept = kept_after facts d e fs revert.commits.honest revert.document before.kept;
        state = sound_drifts facts (shown d fs cap) (shown e fs cap) before.state revert.commits.honest (overlay_drifts (facts d.disk.store).honest fs d.document e.document revert.document before.kept) refl;
      },
      c.self.invariant.1 ∙ sym (ap locked_count c.flush.ensures.residents),
    )

pub returns-in-Err-commit_revert-clause-saved_as : goal.returns-in-Err-commit_revert-clause-saved_as
returns-in-Err-commit_revert-clause-saved_as g c =
    let facts = g.S.Store.facts in
    let a = c.self.inside.file in let b = c.flush.new.file in let d = c.copy_to.new.self in let e = c.commit_revert.new.self in
    let es = c.self.inside.frames.entries in let fs = c.flush.new.frames.entries in
    let fresh : a.disk.sequence ≢ last_sequence = λ last. absurd (cc (sym c.if-is_worn.false ∙ c.is_worn.ensures.1 last)) in
    let revert = c.in-Err-commit_revert.ensures in
    subst (λ (s : CacheState g.row.S.Denot). IsNotSavedAs facts c.args.target c.close.result (as_file s) (with_frames e fs) c.in-Err-commit_revert.fault) c.self.view_is
    (not_reverted facts g.met.S.Store.timely a b es fs c.flush.ensures.moves c.reveal_invariant.ensures.crash_consistent c.args.target d c.copy_to.ensures.reads e c.close.result (subst (SameStore facts c.args.target) (sym c.close.ensures) c.in_ok-copied.ensures.target)
    c.in-Err-commit_revert.fault fresh revert.commit revert.fails)

-- it was, and the two files change places

pub returns-clause-saved_as : goal.returns-clause-saved_as
returns-clause-saved_as g c =
    let facts = g.S.Store.facts in
    let a = c.self.inside.file in let b = c.flush.new.file in let d = c.copy_to.new.self in let e = c.commit_revert.new.self in let n = c.in_ok-copied.copied in
    let es = c.self.inside.frames.entries in let fs = c.flush.new.frames.entries in let gs = c.mark_all.new.frames.entries in
    let copy = c.in_ok-copied.ensures in
    let back : e.disk.store ≡ c.close-2.result = sym (c.close-2.ensures ∙ ap (λ (f : FileState g.row.S.Denot). f.disk.store) c.replace.ensures.value) in
    subst (λ (f : FileState g.row.S.Denot). IsSavedAs facts c.args.target c.close-2.result (as_file c.args.self.now) (with_frames f gs)) (sym c.replace.ensures.after)
    (subst (λ (s : CacheState g.row.S.Denot). IsSavedAs facts c.args.target c.close-2.result (as_file s) (with_frames n gs)) c.self.view_is
    (saved facts g.met.S.Store.timely a b es fs c.flush.ensures.moves c.reveal_invariant.ensures.crash_consistent c.args.target d c.copy_to.ensures.reads e n gs c.close-2.result c.in_default.ensures.clean.each copy.handles copy.copied copy.checksums
    c.mark_all.ensures.shown copy.made copy.target back c.in_default-commit_revert.ensures.commit.commits))

pub invariant_of-self-2 : goal.invariant_of-self-2
invariant_of-self-2 g c =
    let facts = g.S.Store.facts in
    let s = c.self.inside in
    let a = s.file in let b = c.flush.new.file in let n = c.in_ok-copied.copied in
    let es = s.frames.entries in let fs = c.flush.new.frames.entries in let gs = c.mark_all.new.frames in
    let handles = copied_handles facts a b n es fs c.flush.ensures.moves c.self.invariant.0.kept c.in_ok-copied.ensures.handles c.reveal_invariant.ensures.document.handles in
    let under = kept_for_none (facts b.disk.store).honest b.document n.document fs c.in_ok-copied.ensures.handles c.flush.ensures.moves.kept in
    let valid : IsTrue (facts n.disk.store).honest → IsValid (overlay gs.entries n.document) =
    λ so. c.mark_all.ensures.valid n.document (subst IsValid c.in_ok-copied.ensures.made.updated (c.reveal_invariant-2.ensures.valid so).0) (c.mark_all.ensures.kept false n.document handles under) in (
      subst (λ (f : FileState g.row.S.Denot). AreBlocksOf facts f gs.entries gs.cap) (sym c.replace.ensures.after)
          (record {
            kept = c.mark_all.ensures.kept (facts n.disk.store).honest n.document handles under;
            state = record { valid = valid; room = subst (λ k. 1 ≤ k) (sym (c.mark_all.ensures.cap ∙ c.flush.ensures.cap)) c.self.invariant.0.state.room };
          }),
      c.self.invariant.1 ∙ sym (ap locked_count (c.mark_all.ensures.residents ∙ c.flush.ensures.residents)),
    )

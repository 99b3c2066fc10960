use Rattle.std.proofs.Common.{ℕ, [], refl, sym, ap, subst, ◌∙◌}
use Rattle.std.specs.Prelude.{Ok, Err}
use Rattle.std.proofs.lemmas.Result.{err_from_is_err_and}
use Rattle.lru.specs.LruCache.{LruCache}
use Rattle.document_file.specs.Effects.{IsCommit, Fails, IsWorn}
use Rattle.document_file.proofs.EffectsLemmas.{Fails-as}
use Rattle.vm_blocks.specs.Frames.{with_frames, residents}
use Rattle.vm_blocks.specs.Sound.{AreBlocksOf}
use Rattle.vm_blocks.specs.State.{CacheState, as_file, locked_count}
use Rattle.vm_blocks.specs.declared.frame.Frame.{Frame}
use Rattle.vm_blocks.proofs.Commits.{kept_after, refused_under, accepted_bare}
use Rattle.vm_blocks.proofs.DocumentUnderFrames.{bare_kept}
use Rattle.vm_blocks.proofs.StateValidity.{blocks_commit}
use Rattle.vm_blocks.proofs.file_blocks.FileBlocks.revert.Goals as goal

-- It was refused.

pub invariant_of-self : goal.invariant_of-self
invariant_of-self g c =
    let facts = g.S.Store.facts in
    let a = c.self.inside.file in let b = c.commit_revert.new.self in
    let es = c.self.inside.frames.entries in let cap = c.self.inside.frames.cap in
    let commit = c.in_err-commit_revert.ensures.commit in (
      blocks_commit facts a es cap b es cap (a.disk.saved, a.disk.saved) a.disk.saved (Err c.in_err-commit_revert.field-0.0) c.self.invariant.0 (kept_after facts a b es commit.commits.honest commit.document c.self.invariant.0.kept) (λ so. (c.reveal_invariant.ensures.valid so).1)
          (refused_under facts a b (a.disk.saved, a.disk.saved) a.disk.saved es c.in_err-commit_revert.field-0.0 c.self.invariant.0.kept commit) refl,
      c.self.invariant.1,
    )

pub returns-in_err-commit_revert-clause-commit : goal.returns-in_err-commit_revert-clause-commit
returns-in_err-commit_revert-clause-commit g c =
    let p = err_from_is_err_and c.from_residual.result c.from_residual.ensures.1 in
    let a = c.self.inside.file in let b = c.commit_revert.new.self in let es = c.self.inside.frames.entries in
    subst (λ r. IsCommit g.S.Store.facts (c.args.self.now.disk.saved, c.args.self.now.disk.saved) c.args.self.now.disk.saved (as_file c.args.self.now) (with_frames b es) r) (sym (p.1 ∙ ap Err p.2))
    (subst (λ (s : CacheState g.row.S.Denot). IsCommit g.S.Store.facts (s.disk.saved, s.disk.saved) s.disk.saved (as_file s) (with_frames b es) (Err c.in_err-commit_revert.field-0.0)) c.self.view_is
    (refused_under g.S.Store.facts a b (a.disk.saved, a.disk.saved) a.disk.saved es c.in_err-commit_revert.field-0.0 c.self.invariant.0.kept c.in_err-commit_revert.ensures.commit))

pub returns-in_err-commit_revert-clause-fails : goal.returns-in_err-commit_revert-clause-fails
returns-in_err-commit_revert-clause-fails g c =
    let p = err_from_is_err_and c.from_residual.result c.from_residual.ensures.1 in
    subst (λ (s : CacheState g.row.S.Denot). Fails g.S.Store.facts IsWorn s.disk.store c.commit_revert.new.self.disk.store c.from_residual.result) c.self.view_is
    (Fails-as g.S.Store.facts IsWorn IsWorn _ _ c.in_err-commit_revert.field-0.0 c.from_residual.result (p.1 ∙ ap Err p.2) (λ f worn. worn) c.in_err-commit_revert.ensures.fails)

-- It was done, and no frame is left.

pub invariant_of-self-2 : goal.invariant_of-self-2
invariant_of-self-2 g c =
    let facts = g.S.Store.facts in
    let a = c.self.inside.file in let b = c.commit_revert.new.self in
    let es = c.self.inside.frames.entries in let cap = c.self.inside.frames.cap in (
      subst (λ (x : LruCache ℕ Frame). AreBlocksOf facts b x.entries x.cap) (sym c.clear.ensures)
          (blocks_commit facts a es cap b [] cap (a.disk.saved, a.disk.saved) a.disk.saved (Ok tt) c.self.invariant.0 (bare_kept (facts b.disk.store).honest b.document) (λ so. (c.reveal_invariant.ensures.valid so).1)
          (accepted_bare facts a b (a.disk.saved, a.disk.saved) a.disk.saved es c.in_ok-commit_revert.ensures.commit) refl),
      sym (ap (λ (x : LruCache ℕ Frame). locked_count (residents x.entries)) (c.clear.ensures)),
    )

pub returns-clause-commit : goal.returns-clause-commit
returns-clause-commit g c =
    let a = c.self.inside.file in let b = c.commit_revert.new.self in let es = c.self.inside.frames.entries in
    subst (λ (s : CacheState g.row.S.Denot). IsCommit g.S.Store.facts (s.disk.saved, s.disk.saved) s.disk.saved (as_file s) (with_frames b c.clear.new.self.entries) (Ok tt)) c.self.view_is
    (subst (λ (x : LruCache ℕ Frame). IsCommit g.S.Store.facts (a.disk.saved, a.disk.saved) a.disk.saved (with_frames a es) (with_frames b x.entries) (Ok tt)) (sym c.clear.ensures)
    (accepted_bare g.S.Store.facts a b (a.disk.saved, a.disk.saved) a.disk.saved es c.in_ok-commit_revert.ensures.commit))

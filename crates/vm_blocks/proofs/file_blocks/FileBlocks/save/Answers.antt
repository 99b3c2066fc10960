use Rattle.std.proofs.Common.{◌≡◌, IsTrue, sym, ap, subst, ◌∙◌}
use Rattle.std.specs.Prelude.{Err}
use Rattle.std.proofs.lemmas.Result.{err_from_is_err_and}
use Rattle.document_file.specs.Effects.{IsCommit, Fails, IsWorn}
use Rattle.document_file.proofs.EffectsLemmas.{Fails-after, Fails-as}
use Rattle.document_file.proofs.ResultLemmas.{any_way}
use Rattle.vm_blocks.specs.Frames.{overlay, with_frames}
use Rattle.vm_blocks.specs.State.{CacheState, as_file, locked_count}
use Rattle.vm_blocks.proofs.Commits.{kept_after, committed_under}
use Rattle.vm_blocks.proofs.DocumentUnderFrames.{clean_overlay}
use Rattle.vm_blocks.proofs.StateValidity.{blocks_drift, blocks_commit}
use Rattle.vm_blocks.proofs.file_blocks.FileBlocks.save.Goals as goal

-- It was refused before.

pub invariant_of-self : goal.invariant_of-self
invariant_of-self g c =
    let s = c.self.inside in
    let new = c.begin_commit.new in
    (blocks_drift g.S.Store.facts s.file s.frames.entries s.frames.cap new.file new.frames.entries new.frames.cap c.self.invariant.0 c.begin_commit.ensures.moves c.begin_commit.ensures.cap, c.self.invariant.1 ∙ sym (ap locked_count c.begin_commit.ensures.residents))

pub returns-in_err-begin_commit-clause-commit : goal.returns-in_err-begin_commit-clause-commit
returns-in_err-begin_commit-clause-commit g c =
    let p = err_from_is_err_and c.from_residual.result c.from_residual.ensures.1 in
    let new = c.begin_commit.new in
    subst (λ r. IsCommit g.S.Store.facts (c.args.self.now.document, c.args.self.now.document) c.args.self.now.document (as_file c.args.self.now) (with_frames new.file new.frames.entries) r) (sym (p.1 ∙ ap Err p.2))
    (subst (λ (s : CacheState g.row.S.Denot). IsCommit g.S.Store.facts (s.document, s.document) s.document (as_file s) (with_frames new.file new.frames.entries) (Err c.in_err-begin_commit.field-0.0)) c.self.view_is (c.in_err-begin_commit.ensures.err _ _))

pub returns-in_err-begin_commit-clause-fails : goal.returns-in_err-begin_commit-clause-fails
returns-in_err-begin_commit-clause-fails g c =
    let p = err_from_is_err_and c.from_residual.result c.from_residual.ensures.1 in
    subst (λ (s : CacheState g.row.S.Denot). Fails g.S.Store.facts IsWorn s.disk.store c.begin_commit.new.file.disk.store c.from_residual.result) c.self.view_is
    (Fails-as g.S.Store.facts IsWorn IsWorn _ _ c.in_err-begin_commit.field-0.0 c.from_residual.result (p.1 ∙ ap Err p.2) (λ f worn. worn) c.in_err-begin_commit.ensures.fails)

-- The file tried to commit.

pub returns-clause-commit : goal.returns-clause-commit
returns-clause-commit g c =
    let facts = g.S.Store.facts in
    let a = c.self.inside.file in let b = c.begin_commit.new.file in let d = c.commit_save.new.self in
    let es = c.self.inside.frames.entries in let fs = c.begin_commit.new.frames.entries in
    let moves = c.begin_commit.ensures.moves in
    let document : IsTrue (facts a.disk.store).honest → b.document ≡ overlay es a.document =
    λ so. sym (clean_overlay (facts b.disk.store).honest fs b.document (subst IsTrue (sym moves.passes.honest) so) moves.kept c.in_ok-begin_commit.ensures.ok.1.each) ∙ moves.unless_corrupt.same so in
    subst (λ (s : CacheState g.row.S.Denot). IsCommit facts (s.document, s.document) s.document (as_file s) (with_frames d fs) c.commit_save.result) c.self.view_is
    (committed_under facts g.met.S.Store.timely a b d es fs (overlay es a.document, overlay es a.document) (b.document, b.document) c.commit_save.result moves
    (λ so i. (document so i, document so i)) c.in_ok-begin_commit.ensures.ok.0 c.commit_save.ensures.commit)

pub invariant_of-self-2 : goal.invariant_of-self-2
invariant_of-self-2 g c =
    let facts = g.S.Store.facts in
    let a = c.self.inside.file in let b = c.begin_commit.new.file in let d = c.commit_save.new.self in
    let es = c.self.inside.frames.entries in let fs = c.begin_commit.new.frames.entries in
    let moves = c.begin_commit.ensures.moves in
    let commit = c.commit_save.ensures.commit in
    let document : IsTrue (facts a.disk.store).honest → b.document ≡ overlay es a.document =
    λ so. sym (clean_overlay (facts b.disk.store).honest fs b.document (subst IsTrue (sym moves.passes.honest) so) moves.kept c.in_ok-begin_commit.ensures.ok.1.each) ∙ moves.unless_corrupt.same so in
    let kept = kept_after facts b d fs commit.commits.honest (any_way c.commit_save.result _ commit.document) moves.kept in (
      blocks_commit facts a es c.self.inside.frames.cap d fs c.begin_commit.new.frames.cap (overlay es a.document, overlay es a.document) (overlay es a.document) c.commit_save.result c.self.invariant.0 kept c.self.invariant.0.state.valid
          (committed_under facts g.met.S.Store.timely a b d es fs (overlay es a.document, overlay es a.document) (b.document, b.document) c.commit_save.result moves
          (λ so i. (document so i, document so i)) c.in_ok-begin_commit.ensures.ok.0 commit) c.begin_commit.ensures.cap,
      c.self.invariant.1 ∙ sym (ap locked_count c.begin_commit.ensures.residents),
    )

pub returns-clause-fails : goal.returns-clause-fails
returns-clause-fails g c =
    subst (λ (s : CacheState g.row.S.Denot). Fails g.S.Store.facts IsWorn s.disk.store c.commit_save.new.self.disk.store c.commit_save.result) c.self.view_is
    (Fails-after g.S.Store.facts IsWorn _ _ _ c.commit_save.result c.begin_commit.ensures.moves.passes.failures c.commit_save.ensures.fails)

pub returns-clause-resident : goal.returns-clause-resident
returns-clause-resident g c = (c.begin_commit.ensures.residents ∙ ap (λ s. s.resident) c.self.view_is, c.begin_commit.ensures.cap ∙ ap (λ s. s.frames) c.self.view_is)

pub returns-in_err-begin_commit-clause-resident : goal.returns-in_err-begin_commit-clause-resident
returns-in_err-begin_commit-clause-resident g c = (c.begin_commit.ensures.residents ∙ ap (λ s. s.resident) c.self.view_is, c.begin_commit.ensures.cap ∙ ap (λ s. s.frames) c.self.view_is)

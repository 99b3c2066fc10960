-- Frames and file, call after call.
use Rattle.std.proofs.Common.{◌≡◌, ◌≤◌, ℕ, List, ◌∷◌, None, true, IsTrue, refl, ap, sym, subst, ◌∙◌}
use Rattle.vm_store.specs.Facts.{StoreFacts}
use Rattle.geos_model.specs.Document.{Document, block_at, is_heap, is_heap_body, is_live}
use Rattle.document_file.specs.Disk.{FileState, KeepsCommitted, SameUnlessCorrupt}
use Rattle.document_file.proofs.PassingLemmas.{KeepsCommitted-refl, KeepsCommitted-trans, SameUnlessCorrupt-refl, SameUnlessCorrupt-trans}
use Rattle.vm_blocks.specs.State.{CacheState, KeepsDocument}
use Rattle.vm_blocks.specs.Bodies.{body_value}
use Rattle.vm_blocks.specs.Frames.{frame_of, overlay, shown, AreFramesOf, KeepsOverlay}
use Rattle.vm_blocks.specs.declared.frame.Frame.{Frame}
use Rattle.vm_blocks.proofs.DocumentUnderFrames.{fetched, kept_drifts, kept_more, overlay_drifts, overlay_live}

module _ {S : Type 0} (facts : S → StoreFacts) where
  pub kept_passes : (a b : FileState S) (fs : List (ℕ × Frame)) → KeepsCommitted facts a.disk b.disk → AreFramesOf (facts a.disk.store).honest b.document fs → AreFramesOf (facts b.disk.store).honest b.document fs
  kept_passes a b fs passes kept = subst (λ t. AreFramesOf t b.document fs) (sym passes.honest) kept

  -- the file alone drifts
  pub moves_drift : (a b : FileState S) (es : List (ℕ × Frame)) → AreFramesOf (facts a.disk.store).honest a.document es → KeepsCommitted facts a.disk b.disk → SameUnlessCorrupt (facts a.disk.store).honest a.document b.document → KeepsOverlay facts a es b es
  moves_drift a b es kept passes unless_corrupt = record {
    passes = passes;
    unless_corrupt = overlay_drifts _ es a.document b.document unless_corrupt kept;
    kept = kept_passes a b es passes (kept_drifts _ es a.document b.document unless_corrupt kept);
  }

  -- the frames alone change
  pub moves_frames : (a : FileState S) (es fs : List (ℕ × Frame)) → AreFramesOf (facts a.disk.store).honest a.document fs → SameUnlessCorrupt (facts a.disk.store).honest (overlay es a.document) (overlay fs a.document) → KeepsOverlay facts a es a fs
  moves_frames a es fs kept unless_corrupt = record { passes = KeepsCommitted-refl facts a.disk; unless_corrupt = unless_corrupt; kept = kept }

  -- nothing happens
  pub moves_none : (a : FileState S) (es : List (ℕ × Frame)) → AreFramesOf (facts a.disk.store).honest a.document es → KeepsOverlay facts a es a es
  moves_none a es kept = moves_frames a es es kept (SameUnlessCorrupt-refl _ (overlay es a.document))

  pub moves_both : (a : FileState S) (es : List (ℕ × Frame)) (b : FileState S) (fs : List (ℕ × Frame)) (c : FileState S) (gs : List (ℕ × Frame)) → KeepsOverlay facts a es b fs → KeepsOverlay facts b fs c gs → KeepsOverlay facts a es c gs
  moves_both a es b fs c gs p q = record {
    passes = KeepsCommitted-trans facts a.disk b.disk c.disk p.passes q.passes;
    unless_corrupt = SameUnlessCorrupt-trans _ (overlay es a.document) (overlay fs b.document) (overlay gs c.document) p.unless_corrupt (subst (λ t. SameUnlessCorrupt t (overlay fs b.document) (overlay gs c.document)) p.passes.honest q.unless_corrupt);
    kept = q.kept;
  }

  -- a body is read into a free frame
  pub moves_fetched : (a b : FileState S) (es : List (ℕ × Frame)) (h : ℕ) (f : Frame) → AreFramesOf (facts a.disk.store).honest a.document es → KeepsCommitted facts a.disk b.disk → SameUnlessCorrupt (facts a.disk.store).honest a.document b.document
      → frame_of es h ≡ None → is_live a.document h ≡ true → f.locks ≤ 255 → is_heap_body (body_value f.body) ≡ is_heap a.document h → (IsTrue (facts a.disk.store).honest → (block_at a.document h).body ≡ body_value f.body) → KeepsOverlay facts a es b ((h, f) ∷ es)
  moves_fetched a b es h f kept passes drifts absent live few kind same =
      let moves = moves_drift a b es kept passes drifts in
      let honest = (facts b.disk.store).honest in
      let back : IsTrue honest → IsTrue (facts a.disk.store).honest = λ so. subst IsTrue passes.honest so in
      let live' : is_live b.document h ≡ true = drifts.live h ∙ live in
      let kind' : is_heap_body (body_value f.body) ≡ is_heap b.document h = kind ∙ sym (drifts.kinds h) in
      let same' : IsTrue honest → (block_at b.document h).body ≡ body_value f.body = λ so. ap (λ (x : Document). (block_at x h).body) (drifts.same (back so)) ∙ same (back so) in
      let more = kept_more honest es b.document h f moves.kept (record { live = live'; few = few; kind = kind'; clean = λ so _. same' so }) in
      moves_both a es b es b ((h, f) ∷ es) moves (moves_frames b es ((h, f) ∷ es) more (fetched honest es b.document h f moves.kept absent live' few kind' same'))

  pub moves_live : (a : FileState S) (es : List (ℕ × Frame)) (b : FileState S) (fs : List (ℕ × Frame)) → AreFramesOf (facts a.disk.store).honest a.document es → KeepsOverlay facts a es b fs → (h : ℕ) → is_live b.document h ≡ is_live a.document h
  moves_live a es b fs kept moves h = sym (overlay_live _ fs b.document h moves.kept) ∙ moves.unless_corrupt.live h ∙ overlay_live _ es a.document h kept

  pub stays_by : (a : FileState S) (es : List (ℕ × Frame)) (cap : ℕ) (b : FileState S) (fs : List (ℕ × Frame)) (cap' : ℕ) → KeepsOverlay facts a es b fs → cap' ≡ cap → KeepsDocument facts (shown a es cap) (shown b fs cap')
  stays_by a es cap b fs cap' moves same = record { file = record { passes = moves.passes; document = moves.unless_corrupt }; frames = same }

  -- callers see nothing change
  pub stays_none : (a : CacheState S) → KeepsDocument facts a a
  stays_none a = record { file = record { passes = KeepsCommitted-refl facts a.disk; document = SameUnlessCorrupt-refl _ a.document }; frames = refl }

  pub stays_both : (a b c : CacheState S) → KeepsDocument facts a b → KeepsDocument facts b c → KeepsDocument facts a c
  stays_both a b c p q = record {
    file = record {
      passes = KeepsCommitted-trans facts a.disk b.disk c.disk p.file.passes q.file.passes;
      document = SameUnlessCorrupt-trans _ a.document b.document c.document p.file.document (subst (λ t. SameUnlessCorrupt t b.document c.document) p.file.passes.honest q.file.document);
    };
    frames = q.frames ∙ p.frames;
  }

use Rattle.std.proofs.Common.{◌≡◌, ℕ, true, refl, ap, sym, subst, ◌∙◌}
use Rattle.lru.specs.LruCache.{LruCache}
use Rattle.vm_blocks.specs.Frames.{residents, overlay, with_frame}
use Rattle.vm_blocks.specs.Sound.{AreBlocksOf}
use Rattle.vm_blocks.specs.declared.frame.Frame.{Frame}
use Rattle.vm_blocks.proofs.OrderOfUse.{seats_same}
use Rattle.vm_blocks.proofs.DocumentUnderFrames.{overlay_with_frame, kept_with_frame}
use Rattle.vm_blocks.proofs.StateValidity.{blocks_shown}
use Rattle.vm_blocks.specs.State.{locked_count}
use Rattle.vm_blocks.proofs.file_blocks.FileBlocks.dirty.Goals as goal

pub invariant_of-self : goal.invariant_of-self
invariant_of-self g c =
    let file = c.self.inside.file in
    let es = c.self.inside.frames.entries in
    let h = c.args.handle.0 in
    let g' = λ (f : Frame). record f { changed = true } in
    let kept = kept_with_frame es h g' (λ f. refl) (g.S.Store.facts file.disk.store).honest file.document (λ f is few. few) (λ f wrong. absurd (cc wrong)) c.self.invariant.0.kept in (
      subst (λ (x : LruCache ℕ Frame). AreBlocksOf g.S.Store.facts file x.entries x.cap) (sym c.mark.ensures)
          (blocks_shown g.S.Store.facts file es c.self.inside.frames.cap (with_frame es h g') c.self.inside.frames.cap c.self.invariant.0 kept (overlay_with_frame es h g' (λ f. refl) file.document) refl),
      c.self.invariant.1 ∙ sym (ap (λ (x : LruCache ℕ Frame). locked_count (residents x.entries)) (c.mark.ensures) ∙ ap locked_count (seats_same h es g' (λ f. refl))),
    )

pub returns-clause-same : goal.returns-clause-same
returns-clause-same g c =
    let s = c.self.inside in
    let document : overlay c.mark.new.frames.entries s.file.document ≡ overlay s.frames.entries s.file.document = ap (λ (x : LruCache ℕ Frame). overlay x.entries s.file.document) c.mark.ensures ∙ overlay_with_frame s.frames.entries c.args.handle.0 (λ f. record f { changed = true }) (λ f. refl) s.file.document in
    let resident : residents c.mark.new.frames.entries ≡ residents s.frames.entries = ap (λ (x : LruCache ℕ Frame). residents x.entries) c.mark.ensures ∙ seats_same c.args.handle.0 s.frames.entries (λ f. record f { changed = true }) (λ f. refl) in
    let cap : c.mark.new.frames.cap ≡ s.frames.cap = ap (λ (x : LruCache ℕ Frame). x.cap) c.mark.ensures in
    (λ i. record { disk = s.file.disk; document = document i; resident = resident i; frames = cap i }) ∙ c.self.view_is

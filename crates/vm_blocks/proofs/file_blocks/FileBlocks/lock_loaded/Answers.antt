use Rattle.std.proofs.Common.{◌≡◌, ◌<◌, ◌+◌, ◌==◌, ℕ, ap₂, List, true, nat_eq, unwrap_or, is_some, refl, ap, sym, subst, ◌∙◌, arith}
use Rattle.std.specs.Prelude.{if◌then◌else◌}
use Rattle.std.specs.Option.{option_map}
use Rattle.std.specs.Map.{set_value}
use Rattle.lru.specs.LruCache.{LruCache}
use Rattle.vm_blocks.specs.State.{CacheState, ResidentBlock, locks_of, is_resident, locked_count}
use Rattle.vm_blocks.specs.Frames.{frame_of, residents, overlay, with_frame}
use Rattle.vm_blocks.specs.Sound.{AreBlocksOf}
use Rattle.vm_blocks.specs.declared.frame.Frame.{Frame}
use Rattle.vm_blocks.proofs.KeepingLaws.{loaded-resident}
use Rattle.vm_blocks.proofs.OrderOfUse.{residents-with_frame, lookup-residents, resident_is, frame_by, locks_below, locks_under, fewer_locked, residents-length}
use Rattle.vm_blocks.proofs.DocumentUnderFrames.{overlay_with_frame, kept_with_frame}
use Rattle.vm_blocks.proofs.StateValidity.{blocks_shown}
use Rattle.vm_blocks.proofs.Locks.{lock_counted}
use Rattle.vm_blocks.proofs.file_blocks.FileBlocks.lock_loaded.Goals as goal

locks_is : (h : ℕ) (after_load : List ResidentBlock) (es : List (ℕ × Frame)) → residents es ≡ after_load → locks_of after_load h ≡ unwrap_or (option_map (λ (f : Frame). f.locks) (frame_of es h)) 0
locks_is h after_load es is = ap (λ ss. locks_of ss h) (sym is) ∙ ap (λ o. unwrap_or o 0) (lookup-residents h es)

lock_shown : (h : ℕ) (es fs : List (ℕ × Frame)) → is_some (frame_of es h) ≡ true → fs ≡ with_frame es h (λ f. record f { locks = f.locks + 1 }) → residents fs ≡ set_value (nat_eq h) (residents es) (locks_of (residents es) h + 1)
lock_shown h es fs there is =
    let f = frame_by (frame_of es h) there in
    let locks : locks_of (residents es) h ≡ f.0.locks = ap (λ o. unwrap_or o 0) (lookup-residents h es ∙ ap (option_map (λ (f : Frame). f.locks)) f.1) in
    ap (λ (xs : List (ℕ × Frame)). residents xs) is ∙ residents-with_frame h es (λ f. record f { locks = f.locks + 1 }) f.0 f.1 ∙ ap (λ n. set_value (nat_eq h) (residents es) (n + 1)) (sym locks)

pub lock-requires : goal.lock-requires
lock-requires g c =
    let es = c.self.inside.frames.entries in
    let h = c.args.handle.0 in
    locks_below (frame_of es h) 255 (subst (λ n. n < 255) (locks_is h c.args.self.now.resident es (ap (λ (s : CacheState g.row.S.Denot). s.resident) c.self.view_is)) c.requires.few)

pub count_with_lock-self-inside-requires : goal.count_with_lock-self-inside-requires
count_with_lock-self-inside-requires g c =
    let es = c.self.inside.frames.entries in
    omega (arith, c.self.invariant.1, fewer_locked (residents es), residents-length es, c.len-count.ensures.len, c.len-count.ensures.fits)

pub invariant_of-self : goal.invariant_of-self
invariant_of-self g c =
    let file = c.self.inside.file in
    let es = c.self.inside.frames.entries in
    let h = c.args.handle.0 in
    let low = locks_below (frame_of es h) 255 (subst (λ n. n < 255) (locks_is h c.args.self.now.resident es (ap (λ (s : CacheState g.row.S.Denot). s.resident) c.self.view_is)) c.requires.few) in
    let g' = λ (f : Frame). record f { locks = f.locks + 1 } in
    let there : is_some (frame_of es h) ≡ true = sym (resident_is h es) ∙ ap (λ s. is_resident s.resident h) c.self.view_is ∙ loaded-resident c.args.self.now h c.requires.loaded in
    let resident = lock_shown h es c.lock.new.frames.entries there (ap (λ (x : LruCache ℕ Frame). x.entries) c.lock.ensures) in
    let kept = kept_with_frame es h g' (λ f. refl) (g.S.Store.facts file.disk.store).honest file.document (λ f is few. let below = locks_under (frame_of es h) 255 f is low in omega (arith, below)) (λ f same. same) c.self.invariant.0.kept in (
      subst (λ (x : LruCache ℕ Frame). AreBlocksOf g.S.Store.facts file x.entries x.cap) (sym c.lock.ensures)
          (blocks_shown g.S.Store.facts file es c.self.inside.frames.cap (with_frame es h g') c.self.inside.frames.cap c.self.invariant.0 kept (overlay_with_frame es h g' (λ f. refl) file.document) refl),
      c.count_with_lock-self-inside.ensures ∙ ap₂ (λ n k. if n == 0 then k + 1 else k) c.locks_of.ensures c.self.invariant.1
          ∙ sym (lock_counted h (residents es) (ap (λ s. is_resident s.resident h) c.self.view_is ∙ loaded-resident c.args.self.now h c.requires.loaded)) ∙ sym (ap locked_count resident),
    )

pub returns : goal.returns
returns g c =
    let s = c.self.inside in
    let es = s.frames.entries in
    let h = c.args.handle.0 in
    let there : is_some (frame_of es h) ≡ true = sym (resident_is h es) ∙ ap (λ s. is_resident s.resident h) c.self.view_is ∙ loaded-resident c.args.self.now h c.requires.loaded in
    let document : overlay c.lock.new.frames.entries s.file.document ≡ overlay es s.file.document = ap (λ (x : LruCache ℕ Frame). overlay x.entries s.file.document) c.lock.ensures ∙ overlay_with_frame es h (λ f. record f { locks = f.locks + 1 }) (λ f. refl) s.file.document in
    let resident = lock_shown h es c.lock.new.frames.entries there (ap (λ (x : LruCache ℕ Frame). x.entries) c.lock.ensures) in
    let cap : c.lock.new.frames.cap ≡ s.frames.cap = ap (λ (x : LruCache ℕ Frame). x.cap) c.lock.ensures in
    (λ i. record { disk = s.file.disk; document = document i; resident = resident i; frames = cap i }) ∙ ap (λ (t : CacheState g.row.S.Denot). record t { resident = set_value (nat_eq h) t.resident (locks_of t.resident h + 1) }) c.self.view_is

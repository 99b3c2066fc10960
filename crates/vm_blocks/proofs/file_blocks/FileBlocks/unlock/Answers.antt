use Rattle.std.proofs.Common.{◌≡◌, ◌<◌, ◌-◌, ◌==◌, ℕ, ap₂, List, true, nat_eq, unwrap_or, is_some, refl, ap, sym, subst, ◌∙◌, arith}
use Rattle.std.specs.Prelude.{if◌then◌else◌}
use Rattle.std.specs.Option.{option_map}
use Rattle.std.specs.Map.{set_value}
use Rattle.lru.specs.LruCache.{LruCache}
use Rattle.vm_blocks.specs.State.{CacheState, locks_of, is_resident, locked_count}
use Rattle.vm_blocks.specs.Frames.{frame_of, residents, overlay, shown, with_frame}
use Rattle.vm_blocks.specs.Sound.{AreBlocksOf}
use Rattle.vm_blocks.specs.declared.frame.Frame.{Frame}
use Rattle.vm_blocks.proofs.OrderOfUse.{residents-with_frame, lookup-residents, resident_is, frame_by, locked_there, locks_some}
use Rattle.vm_blocks.proofs.DocumentUnderFrames.{overlay_with_frame, kept_with_frame}
use Rattle.vm_blocks.proofs.Locking.{loses}
use Rattle.vm_blocks.proofs.StateValidity.{blocks_shown}
use Rattle.vm_blocks.proofs.Locks.{unlock_counted, some_locked}
use Rattle.vm_blocks.proofs.file_blocks.FileBlocks.unlock.Goals as goal

unlock_shown : (h : ℕ) (es fs : List (ℕ × Frame)) → is_some (frame_of es h) ≡ true → fs ≡ with_frame es h (λ f. record f { locks = f.locks - 1 }) → residents fs ≡ set_value (nat_eq h) (residents es) (locks_of (residents es) h - 1)
unlock_shown h es fs there is =
    let f = frame_by (frame_of es h) there in
    let locks : locks_of (residents es) h ≡ f.0.locks = ap (λ o. unwrap_or o 0) (lookup-residents h es ∙ ap (option_map (λ (f : Frame). f.locks)) f.1) in
    ap (λ (xs : List (ℕ × Frame)). residents xs) is ∙ residents-with_frame h es (λ f. record f { locks = f.locks - 1 }) f.0 f.1 ∙ ap (λ n. set_value (nat_eq h) (residents es) (n - 1)) (sym locks)

pub unlock-requires : goal.unlock-requires
unlock-requires g c =
    let es = c.self.inside.frames.entries in
    let h = c.args.handle.0 in
    let is : locks_of c.args.self.now.resident h ≡ unwrap_or (option_map (λ (f : Frame). f.locks) (frame_of es h)) 0 = ap (λ s. locks_of s.resident h) (sym c.self.view_is) ∙ ap (λ o. unwrap_or o 0) (lookup-residents h es) in
    locks_some (frame_of es h) (subst (λ n. 0 < n) is c.in_ok-check_lock.ensures.ok)

pub count_without_lock-self-inside-requires : goal.count_without_lock-self-inside-requires
count_without_lock-self-inside-requires g c =
    let es = c.self.inside.frames.entries in
    let h = c.args.handle.0 in
    let some = some_locked h (residents es) (subst (λ (s : CacheState g.row.S.Denot). 0 < locks_of s.resident h) (sym c.self.view_is) c.in_ok-check_lock.ensures.ok) in
    omega (arith, some, c.self.invariant.1)

pub invariant_of-self : goal.invariant_of-self
invariant_of-self g c =
    let file = c.self.inside.file in
    let es = c.self.inside.frames.entries in
    let h = c.args.handle.0 in
    let g' = λ (f : Frame). record f { locks = f.locks - 1 } in
    let locked : 0 < locks_of (residents es) h = subst (λ (s : CacheState g.row.S.Denot). 0 < locks_of s.resident h) (sym c.self.view_is) c.in_ok-check_lock.ensures.ok in
    let there : is_some (frame_of es h) ≡ true = sym (resident_is h es) ∙ locked_there h (residents es) locked in
    let resident = unlock_shown h es c.unlock.new.frames.entries there (ap (λ (x : LruCache ℕ Frame). x.entries) c.unlock.ensures) in
    let kept = kept_with_frame es h g' (λ f. refl) (g.S.Store.facts file.disk.store).honest file.document (λ f is few. omega (arith, few)) (λ f same. same) c.self.invariant.0.kept in (
      subst (λ (x : LruCache ℕ Frame). AreBlocksOf g.S.Store.facts file x.entries x.cap) (sym c.unlock.ensures)
          (blocks_shown g.S.Store.facts file es c.self.inside.frames.cap (with_frame es h g') c.self.inside.frames.cap c.self.invariant.0 kept (overlay_with_frame es h g' (λ f. refl) file.document) refl),
      c.count_without_lock-self-inside.ensures ∙ ap₂ (λ n k. if n == 1 then k - 1 else k) c.locks_of.ensures c.self.invariant.1
          ∙ sym (unlock_counted h (residents es) (resident_is h es ∙ there) locked) ∙ sym (ap locked_count resident),
    )

pub returns-clause-ok : goal.returns-clause-ok
returns-clause-ok g c =
    let s = c.self.inside in
    let es = s.frames.entries in
    let h = c.args.handle.0 in
    let there : is_some (frame_of es h) ≡ true = sym (resident_is h es) ∙ ap (λ s. is_resident s.resident h) c.self.view_is ∙ locked_there h c.args.self.now.resident c.in_ok-check_lock.ensures.ok in
    let document : overlay c.unlock.new.frames.entries s.file.document ≡ overlay es s.file.document = ap (λ (x : LruCache ℕ Frame). overlay x.entries s.file.document) c.unlock.ensures ∙ overlay_with_frame es h (λ f. record f { locks = f.locks - 1 }) (λ f. refl) s.file.document in
    let resident = unlock_shown h es c.unlock.new.frames.entries there (ap (λ (x : LruCache ℕ Frame). x.entries) c.unlock.ensures) in
    let cap : c.unlock.new.frames.cap ≡ s.frames.cap = ap (λ (x : LruCache ℕ Frame). x.cap) c.unlock.ensures in
    loses h c.args.self.now (shown s.file c.unlock.new.frames.entries c.unlock.new.frames.cap) c.in_ok-check_lock.ensures.ok
    ((λ i. record { disk = s.file.disk; document = document i; resident = resident i; frames = cap i }) ∙ ap (λ (t : CacheState g.row.S.Denot). record t { resident = set_value (nat_eq h) t.resident (locks_of t.resident h - 1) }) c.self.view_is)

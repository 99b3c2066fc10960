use Rattle.std.proofs.Common.{◌≡◌, ◌<◌, ℕ, ◌∷◌, None, true, false, refl, length, ap, sym, subst, ◌∙◌, arith, List}
use Rattle.geos_model.specs.Document.{is_live}
use Rattle.lru.specs.LruCache.{LruCache}
use Rattle.vm_blocks.specs.Frames.{frame_of, residents, shown, KeepsOverlay}
use Rattle.vm_blocks.specs.Sound.{AreBlocksOf}
use Rattle.vm_blocks.specs.State.{CacheState, KeepsDocument, is_resident, locked_count}
use Rattle.vm_blocks.specs.declared.frame.Frame.{Frame}
use Rattle.vm_blocks.proofs.OrderOfUse.{none_held, resident_is, residents-length}
use Rattle.vm_blocks.proofs.CallAfterCall.{moves_drift, moves_fetched, stays_by}
use Rattle.vm_blocks.proofs.DocumentUnderFrames.{overlay_live}
use Rattle.vm_blocks.proofs.StateValidity.{blocks_drift}
use Rattle.vm_blocks.proofs.Locks.{free_counted}
use Rattle.vm_blocks.proofs.file_blocks.FileBlocks.fetch.Goals as goal

pub read_body-requires : goal.read_body-requires
read_body-requires g c = record { live = sym (overlay_live _ c.self.inside.frames.entries c.self.inside.file.document c.args.handle.0 c.self.invariant.0.kept) ∙ ap (λ s. is_live s.document c.args.handle.0) c.self.view_is ∙ c.requires.live }

-- it couldn't be read

pub invariant_of-self : goal.invariant_of-self
invariant_of-self g c =
    let facts = g.S.Store.facts in
    let s = c.self.inside in
    let es = s.frames.entries in
    (blocks_drift facts s.file es s.frames.cap c.read_body.new.file es s.frames.cap c.self.invariant.0 (moves_drift facts s.file c.read_body.new.file es c.self.invariant.0.kept c.read_body.ensures.reads.passes c.read_body.ensures.reads.document) refl, c.self.invariant.1)

pub returns-in_err-body-clause-stays : goal.returns-in_err-body-clause-stays
returns-in_err-body-clause-stays g c =
    let facts = g.S.Store.facts in
    let s = c.self.inside in
    let es = s.frames.entries in
    subst (λ (t : CacheState g.row.S.Denot). KeepsDocument facts t (shown c.read_body.new.file es s.frames.cap)) c.self.view_is
    (stays_by facts s.file es s.frames.cap c.read_body.new.file es s.frames.cap (moves_drift facts s.file c.read_body.new.file es c.self.invariant.0.kept c.read_body.ensures.reads.passes c.read_body.ensures.reads.document) refl)

-- there was no memory for its frame

pub invariant_of-self-in_err-insert : goal.invariant_of-self-in_err-insert
invariant_of-self-in_err-insert g c =
    let facts = g.S.Store.facts in
    let s = c.self.inside in
    let es = s.frames.entries in
    let b = c.read_body.new.file in (
      subst (λ (x : LruCache ℕ Frame). AreBlocksOf facts b x.entries x.cap) (sym c.in_err-insert.ensures.err)
          (blocks_drift facts s.file es s.frames.cap b es s.frames.cap c.self.invariant.0 (moves_drift facts s.file b es c.self.invariant.0.kept c.read_body.ensures.reads.passes c.read_body.ensures.reads.document) refl),
      c.self.invariant.1 ∙ sym (ap (λ (x : LruCache ℕ Frame). locked_count (residents x.entries)) (c.in_err-insert.ensures.err)),
    )

pub returns-in_err-insert-clause-stays : goal.returns-in_err-insert-clause-stays
returns-in_err-insert-clause-stays g c =
    let facts = g.S.Store.facts in
    let s = c.self.inside in
    let es = s.frames.entries in
    let b = c.read_body.new.file in
    subst (λ (t : CacheState g.row.S.Denot). KeepsDocument facts t (shown b c.insert.new.self.entries c.insert.new.self.cap)) c.self.view_is
    (subst (λ (x : LruCache ℕ Frame). KeepsDocument facts (shown s.file es s.frames.cap) (shown b x.entries x.cap)) (sym c.in_err-insert.ensures.err)
    (stays_by facts s.file es s.frames.cap b es s.frames.cap (moves_drift facts s.file b es c.self.invariant.0.kept c.read_body.ensures.reads.passes c.read_body.ensures.reads.document) refl))

-- it is there

pub insert-requires : goal.insert-requires
insert-requires g c =
    let es = c.self.inside.frames.entries in
    let h = c.args.handle.0 in
    let free : length (residents es) < c.self.inside.frames.cap = subst (λ (t : CacheState g.row.S.Denot). length t.resident < t.frames) (sym c.self.view_is) c.requires.room in
    record {
      absent = none_held (frame_of es h) (sym (resident_is h es) ∙ ap (λ s. is_resident s.resident h) c.self.view_is ∙ c.requires.absent);
      room = omega (arith, free, residents-length es);
    }

pub invariant_of-self-2 : goal.invariant_of-self-2
invariant_of-self-2 g c =
    let facts = g.S.Store.facts in
    let s = c.self.inside in
    let es = s.frames.entries in
    let b = c.read_body.new.file in
    let h = c.args.handle.0 in
    let f : Frame = record { body = c.in_ok-body.body; changed = false; locks = 0 } in
    let absent : frame_of es h ≡ None = none_held (frame_of es h) (sym (resident_is h es) ∙ ap (λ s. is_resident s.resident h) c.self.view_is ∙ c.requires.absent) in
    let live : is_live s.file.document h ≡ true = sym (overlay_live _ es s.file.document h c.self.invariant.0.kept) ∙ ap (λ s. is_live s.document h) c.self.view_is ∙ c.requires.live in
    let moves = moves_fetched facts s.file b es h f c.self.invariant.0.kept c.read_body.ensures.reads.passes c.read_body.ensures.reads.document absent live (omega arith) c.in_ok-body.ensures.kind c.in_ok-body.ensures.same in
    let entries : c.insert.new.self.entries ≡ (h, f) ∷ es = ap (λ (x : LruCache ℕ Frame). x.entries) c.in_ok-insert.ensures.entries in
    (blocks_drift facts s.file es s.frames.cap b c.insert.new.self.entries c.insert.new.self.cap c.self.invariant.0 (subst (KeepsOverlay facts s.file es b) (sym entries) moves) (ap (λ (x : LruCache ℕ Frame). x.cap) c.in_ok-insert.ensures.entries), c.self.invariant.1 ∙ sym (ap (λ (xs : List (ℕ × Frame)). locked_count (residents xs)) entries ∙ free_counted h (residents es)))

pub returns-clause-stays : goal.returns-clause-stays
returns-clause-stays g c =
    let facts = g.S.Store.facts in
    let s = c.self.inside in
    let es = s.frames.entries in
    let b = c.read_body.new.file in
    let h = c.args.handle.0 in
    let f : Frame = record { body = c.in_ok-body.body; changed = false; locks = 0 } in
    let absent : frame_of es h ≡ None = none_held (frame_of es h) (sym (resident_is h es) ∙ ap (λ s. is_resident s.resident h) c.self.view_is ∙ c.requires.absent) in
    let live : is_live s.file.document h ≡ true = sym (overlay_live _ es s.file.document h c.self.invariant.0.kept) ∙ ap (λ s. is_live s.document h) c.self.view_is ∙ c.requires.live in
    let moves = moves_fetched facts s.file b es h f c.self.invariant.0.kept c.read_body.ensures.reads.passes c.read_body.ensures.reads.document absent live (omega arith) c.in_ok-body.ensures.kind c.in_ok-body.ensures.same in
    let entries : c.insert.new.self.entries ≡ (h, f) ∷ es = ap (λ (x : LruCache ℕ Frame). x.entries) c.in_ok-insert.ensures.entries in
    subst (λ (t : CacheState g.row.S.Denot). KeepsDocument facts t (shown b c.insert.new.self.entries c.insert.new.self.cap)) c.self.view_is
    (stays_by facts s.file es s.frames.cap b c.insert.new.self.entries c.insert.new.self.cap (subst (KeepsOverlay facts s.file es b) (sym entries) moves) (ap (λ (x : LruCache ℕ Frame). x.cap) c.in_ok-insert.ensures.entries))

pub returns-clause-ok : goal.returns-clause-ok
returns-clause-ok g c =
    let h = c.args.handle.0 in
    ap (λ (x : LruCache ℕ Frame). residents x.entries) c.in_ok-insert.ensures.entries
    ∙ ap (λ (t : CacheState g.row.S.Denot). (h, 0) ∷ t.resident) c.self.view_is

use Rattle.std.proofs.Common.{◌≡◌, ℕ, ◌∷◌, true, false, cond, nat_lt, nat_eq, length, refl, ap, sym, subst, ◌∙◌, inl, inr, unwrap_or}
use Rattle.std.specs.Prelude.{◌⊎◌, OnOk, OnErr}
use Rattle.std.specs.List.{IsDistinct}
use Rattle.std.specs.Map.{lookup, keys_of}
use Rattle.geos_model.specs.Document.{is_live}
use Rattle.document_file.specs.Effects.{Fails, IsDamage}
use Rattle.lru.specs.LruCache.{LruCache, promoted}
use Rattle.vm_blocks.specs.Frames.{residents, shown}
use Rattle.vm_blocks.specs.Keeping.{KeepsBlocks, IsEnvironmentFault, IsCacheFull, is_full}
use Rattle.vm_blocks.specs.Sound.{AreBlocksOf}
use Rattle.vm_blocks.specs.State.{CacheState, KeepsDocument, after_load, is_resident, evicted, locked_count}
use Rattle.vm_blocks.specs.declared.frame.Frame.{Frame}
use Rattle.vm_blocks.proofs.ChangeOutcomes.{lacks_of, loaded_there}
use Rattle.vm_blocks.proofs.KeepingLaws.{full-is, full-shut, keeps-by, keeps-is, loaded-by, loaded-live, loaded-resident, open-shut, resident-open}
use Rattle.vm_blocks.proofs.Locking.{one_of}
use Rattle.vm_blocks.proofs.Locks.{keys-residents, keeps_either}
use Rattle.vm_blocks.proofs.OrderOfUse.{none_held, resident_is}
use Rattle.vm_blocks.proofs.Residents.{seated_there, seated_stays}
use Rattle.vm_blocks.proofs.UsedAgain.{used_after, used_blocks, used_document, used_keeps, used_count}
use Rattle.vm_blocks.proofs.file_blocks.FileBlocks.load_live.Goals as goal

-- A block in memory.

pub invariant_of-self : goal.invariant_of-self
invariant_of-self g c =
    let s = c.self.inside in
    (used_blocks g.S.Store.facts s.file s.frames.entries s.frames.cap c.args.handle.0 c.use_again.new.frames c.use_again.ensures.moves c.len-count.ensures.valid.0 c.self.invariant.0, c.self.invariant.1 ∙ sym (used_count g.S.Store.facts s.file s.frames.entries s.frames.cap c.args.handle.0 c.use_again.new.frames c.use_again.ensures.moves c.len-count.ensures.valid.0 c.self.invariant.0))

pub returns-then-use_again-clause-keeps : goal.returns-then-use_again-clause-keeps
returns-then-use_again-clause-keeps g c =
    let s = c.self.inside in
    let fs = c.use_again.new.frames in
    subst (λ (t : CacheState g.row.S.Denot). KeepsBlocks g.S.Store.facts t (shown s.file fs.entries fs.cap)) c.self.view_is
    (used_keeps g.S.Store.facts s.file s.frames.entries s.frames.cap c.args.handle.0 fs c.use_again.ensures.moves c.len-count.ensures.valid.0 c.self.invariant.0)

pub returns-then-use_again-clause-order : goal.returns-then-use_again-clause-order
returns-then-use_again-clause-order g c =
    let s = c.self.inside in
    let es = s.frames.entries in
    let h = c.args.handle.0 in
    let fs = c.use_again.new.frames in
    let there : is_resident (residents es) h ≡ true = resident_is h es ∙ sym c.use_again.ensures.value ∙ c.if-use_again.true in
    subst (λ (t : CacheState g.row.S.Denot). residents fs.entries ≡ after_load t.frames h t.resident) c.self.view_is
    (used_after g.S.Store.facts s.file es s.frames.cap h fs c.use_again.ensures.moves c.len-count.ensures.valid.0 c.self.invariant.0 there)

pub returns-then-use_again-clause-ok : goal.returns-then-use_again-clause-ok
returns-then-use_again-clause-ok g c =
    let facts = g.S.Store.facts in
    let s = c.self.inside in
    let es = s.frames.entries in
    let h = c.args.handle.0 in
    let fs = c.use_again.new.frames in
    let there : is_resident (residents es) h ≡ true = resident_is h es ∙ sym c.use_again.ensures.value ∙ c.if-use_again.true in
    loaded-by (shown s.file fs.entries fs.cap) h
    (ap (λ ss. is_resident ss h) (used_after facts s.file es s.frames.cap h fs c.use_again.ensures.moves c.len-count.ensures.valid.0 c.self.invariant.0 there) ∙ seated_there s.frames.cap h (residents es))
    (ap (λ d. is_live d h) (used_document facts s.file es s.frames.cap h fs c.use_again.ensures.moves c.len-count.ensures.valid.0 c.self.invariant.0) ∙ ap (λ (t : CacheState g.row.S.Denot). is_live t.document h) c.self.view_is ∙ c.requires)

pub returns-then-use_again-clause-already : goal.returns-then-use_again-clause-already
returns-then-use_again-clause-already g c = λ loaded.
    let s = c.self.inside in (
      refl,
      ap (λ (t : CacheState g.row.S.Denot). t.disk) c.self.view_is,
      used_document g.S.Store.facts s.file s.frames.entries s.frames.cap c.args.handle.0 c.use_again.new.frames c.use_again.ensures.moves c.len-count.ensures.valid.0 c.self.invariant.0 ∙ ap (λ (t : CacheState g.row.S.Denot). t.document) c.self.view_is,
    )

pub returns-then-use_again-clause-stay : goal.returns-then-use_again-clause-stay
returns-then-use_again-clause-stay g c = λ loaded k there.
    let facts = g.S.Store.facts in
    let s = c.self.inside in
    let es = s.frames.entries in
    let h = c.args.handle.0 in
    let fs = c.use_again.new.frames in
    let there' : is_resident (residents es) h ≡ true = resident_is h es ∙ sym c.use_again.ensures.value ∙ c.if-use_again.true in
    let was : is_resident (residents es) k ≡ true = ap (λ (t : CacheState g.row.S.Denot). is_resident t.resident k) c.self.view_is ∙ loaded-resident c.args.self.now k there in
    loaded-by (shown s.file fs.entries fs.cap) k
    (ap (λ ss. is_resident ss k) (used_after facts s.file es s.frames.cap h fs c.use_again.ensures.moves c.len-count.ensures.valid.0 c.self.invariant.0 there') ∙ seated_stays s.frames.cap h k (residents es) there' was)
    (ap (λ d. is_live d k) (used_document facts s.file es s.frames.cap h fs c.use_again.ensures.moves c.len-count.ensures.valid.0 c.self.invariant.0) ∙ ap (λ (t : CacheState g.row.S.Denot). is_live t.document k) c.self.view_is ∙ loaded-live c.args.self.now k there)

pub returns-then-use_again-clause-shut : goal.returns-then-use_again-clause-shut
returns-then-use_again-clause-shut g c = λ far.
    let old = c.args.self.now in
    let es = c.self.inside.frames.entries in
    let h = c.args.handle.0 in
    let there : is_resident old.resident h ≡ true = ap (λ (t : CacheState g.row.S.Denot). is_resident t.resident h) (sym c.self.view_is) ∙ resident_is h es ∙ sym c.use_again.ensures.value ∙ c.if-use_again.true in
    let wrong : true ≡ false = sym far ∙ resident-open old h c.reveal_invariant.ensures.few there in
    absurd (cc wrong)

-- One that isn't there, and is shut out: nothing has changed.

pub invariant_of-self-2 : goal.invariant_of-self-2
invariant_of-self-2 g c =
    (subst (λ (x : LruCache ℕ Frame). AreBlocksOf g.S.Store.facts c.self.inside.file x.entries x.cap) (sym (c.use_again.ensures.absent c.if-use_again.false)) c.self.invariant.0, c.self.invariant.1 ∙ sym (ap (λ (x : LruCache ℕ Frame). locked_count (residents x.entries)) (c.use_again.ensures.absent c.if-use_again.false)))

pub returns-then-all_locked-clause-keeps : goal.returns-then-all_locked-clause-keeps
returns-then-all_locked-clause-keeps g c =
    let fs = c.use_again.new.frames in
    let was = ap (λ (x : LruCache ℕ Frame). shown c.self.inside.file x.entries x.cap) (c.use_again.ensures.absent c.if-use_again.false) ∙ c.self.view_is in
    keeps-is g.S.Store.facts c.args.self.now (shown c.self.inside.file fs.entries fs.cap) was

pub returns-then-all_locked-clause-err : goal.returns-then-all_locked-clause-err
returns-then-all_locked-clause-err g c =
    let old = c.args.self.now in
    let es = c.self.inside.frames.entries in
    let h = c.args.handle.0 in
    let was = ap (λ (x : LruCache ℕ Frame). shown c.self.inside.file x.entries x.cap) (c.use_again.ensures.absent c.if-use_again.false) ∙ c.self.view_is in
    let out : is_resident old.resident h ≡ false = ap (λ s. is_resident s.resident h) (sym c.self.view_is) ∙ resident_is h es ∙ sym c.use_again.ensures.value ∙ c.if-use_again.false in
    let full = ap is_full (sym was) ∙ sym c.all_locked.ensures ∙ c.if-all_locked.true in
    inr (refl, full-shut old h full (ap (λ o. unwrap_or o 0) (none_held (lookup (nat_eq h) old.resident) out)))

pub returns-then-all_locked-clause-already : goal.returns-then-all_locked-clause-already
returns-then-all_locked-clause-already g c = λ loaded.
    let es = c.self.inside.frames.entries in
    let h = c.args.handle.0 in
    let out : is_resident c.args.self.now.resident h ≡ false = ap (λ s. is_resident s.resident h) (sym c.self.view_is) ∙ resident_is h es ∙ sym c.use_again.ensures.value ∙ c.if-use_again.false in
    let wrong : true ≡ false = sym (loaded-resident c.args.self.now h loaded) ∙ out in
    absurd (cc wrong)

pub returns-then-all_locked-clause-stay : goal.returns-then-all_locked-clause-stay
returns-then-all_locked-clause-stay g c = λ loaded.
    let es = c.self.inside.frames.entries in
    let h = c.args.handle.0 in
    let out : is_resident c.args.self.now.resident h ≡ false = ap (λ s. is_resident s.resident h) (sym c.self.view_is) ∙ resident_is h es ∙ sym c.use_again.ensures.value ∙ c.if-use_again.false in
    let wrong : true ≡ false = sym (loaded-resident c.args.self.now h loaded) ∙ out in
    absurd (cc wrong)

pub returns-then-all_locked-clause-less : goal.returns-then-all_locked-clause-less
returns-then-all_locked-clause-less g c =
    inl (ap (λ (x : LruCache ℕ Frame). residents x.entries) (c.use_again.ensures.absent c.if-use_again.false) ∙ ap (λ (t : CacheState g.row.S.Denot). t.resident) c.self.view_is)

pub returns-then-all_locked-clause-shut : goal.returns-then-all_locked-clause-shut
returns-then-all_locked-clause-shut g c = λ far. (refl, ap (λ (x : LruCache ℕ Frame). shown c.self.inside.file x.entries x.cap) (c.use_again.ensures.absent c.if-use_again.false) ∙ c.self.view_is)

-- Any other is brought in.

pub bring-requires-clause-live : goal.bring-requires-clause-live
bring-requires-clause-live g c =
    let was = ap (λ (x : LruCache ℕ Frame). shown c.self.inside.file x.entries x.cap) (c.use_again.ensures.absent c.if-use_again.false) ∙ c.self.view_is in
    ap (λ (s : CacheState g.row.S.Denot). is_live s.document c.args.handle.0) was ∙ c.requires

pub bring-requires-clause-absent : goal.bring-requires-clause-absent
bring-requires-clause-absent g c =
    let es = c.self.inside.frames.entries in
    let h = c.args.handle.0 in
    ap (λ (x : LruCache ℕ Frame). is_resident (residents x.entries) h) (c.use_again.ensures.absent c.if-use_again.false) ∙ resident_is h es ∙ sym c.use_again.ensures.value ∙ c.if-use_again.false

pub bring-requires-clause-room : goal.bring-requires-clause-room
bring-requires-clause-room g c =
    let fs = c.use_again.new.frames in
    sym (full-is (shown c.self.inside.file fs.entries fs.cap)) ∙ sym c.all_locked.ensures ∙ c.if-all_locked.false

pub returns-clause-keeps : goal.returns-clause-keeps
returns-clause-keeps g c =
    let facts = g.S.Store.facts in
    let es = c.self.inside.frames.entries in
    let h = c.args.handle.0 in
    let old = c.args.self.now in
    let new = c.bring.new.self in
    let was = ap (λ (x : LruCache ℕ Frame). shown c.self.inside.file x.entries x.cap) (c.use_again.ensures.absent c.if-use_again.false) ∙ c.self.view_is in
    let stays = subst (λ (s : CacheState g.row.S.Denot). KeepsDocument facts s new) was c.bring.ensures.stays in
    let distinct = subst (λ (s : CacheState g.row.S.Denot). IsDistinct nat_eq (keys_of s.resident)) c.self.view_is (subst (IsDistinct nat_eq) (sym (keys-residents es)) c.len-count.ensures.valid.0) in
    let out : is_resident old.resident h ≡ false = ap (λ s. is_resident s.resident h) (sym c.self.view_is) ∙ resident_is h es ∙ sym c.use_again.ensures.value ∙ c.if-use_again.false in
    let ok = subst (λ (s : CacheState g.row.S.Denot). OnOk c.bring.result (new.resident ≡ (h, 0) ∷ cond (nat_lt (length s.resident) s.frames) s.resident (evicted s.resident))) was c.bring.ensures.ok in
    let err = subst (λ (s : CacheState g.row.S.Denot). OnErr c.bring.result ((new.resident ≡ s.resident) ⊎ (new.resident ≡ evicted s.resident))) was c.bring.ensures.err in
    keeps-by facts old new stays (keeps_either c.bring.result h (nat_lt (length old.resident) old.frames) old.resident new.resident distinct (none_held (lookup (nat_eq h) old.resident) out) ok err)

pub returns-clause-order : goal.returns-clause-order
returns-clause-order g c =
    let es = c.self.inside.frames.entries in
    let h = c.args.handle.0 in
    let old = c.args.self.now in
    let new = c.bring.new.self in
    let was = ap (λ (x : LruCache ℕ Frame). shown c.self.inside.file x.entries x.cap) (c.use_again.ensures.absent c.if-use_again.false) ∙ c.self.view_is in
    let out : is_resident old.resident h ≡ false = ap (λ s. is_resident s.resident h) (sym c.self.view_is) ∙ resident_is h es ∙ sym c.use_again.ensures.value ∙ c.if-use_again.false in
    let now = subst (λ (s : CacheState g.row.S.Denot). OnOk c.bring.result (new.resident ≡ (h, 0) ∷ cond (nat_lt (length s.resident) s.frames) s.resident (evicted s.resident))) was c.bring.ensures.ok in
    subst (λ ss. OnOk c.bring.result (new.resident ≡ ss)) (sym (ap (λ b. cond b (promoted (nat_eq h) old.resident) ((h, 0) ∷ cond (nat_lt (length old.resident) old.frames) old.resident (evicted old.resident))) out)) now

pub returns-clause-less : goal.returns-clause-less
returns-clause-less g c =
    let was = ap (λ (x : LruCache ℕ Frame). shown c.self.inside.file x.entries x.cap) (c.use_again.ensures.absent c.if-use_again.false) ∙ c.self.view_is in
    subst (λ (s : CacheState g.row.S.Denot). OnErr c.bring.result ((c.bring.new.self.resident ≡ s.resident) ⊎ (c.bring.new.self.resident ≡ evicted s.resident))) was c.bring.ensures.err

pub returns-clause-ok : goal.returns-clause-ok
returns-clause-ok g c =
    let es = c.self.inside.frames.entries in
    let h = c.args.handle.0 in
    let old = c.args.self.now in
    let new = c.bring.new.self in
    let was = ap (λ (x : LruCache ℕ Frame). shown c.self.inside.file x.entries x.cap) (c.use_again.ensures.absent c.if-use_again.false) ∙ c.self.view_is in
    let out : is_resident old.resident h ≡ false = ap (λ s. is_resident s.resident h) (sym c.self.view_is) ∙ resident_is h es ∙ sym c.use_again.ensures.value ∙ c.if-use_again.false in
    let stays = subst (λ (s : CacheState g.row.S.Denot). KeepsDocument g.S.Store.facts s new) was c.bring.ensures.stays in
    let now = subst (λ (s : CacheState g.row.S.Denot). OnOk c.bring.result (new.resident ≡ (h, 0) ∷ cond (nat_lt (length s.resident) s.frames) s.resident (evicted s.resident))) was c.bring.ensures.ok in
    loaded_there g.S.Store.facts c.bring.result old new h stays c.requires
    (subst (λ ss. OnOk c.bring.result (new.resident ≡ ss)) (sym (ap (λ b. cond b (promoted (nat_eq h) old.resident) ((h, 0) ∷ cond (nat_lt (length old.resident) old.frames) old.resident (evicted old.resident))) out)) now)

pub returns-clause-err : goal.returns-clause-err
returns-clause-err g c =
    let old = c.args.self.now in
    let new = c.bring.new.self in
    let was = ap (λ (x : LruCache ℕ Frame). shown c.self.inside.file x.entries x.cap) (c.use_again.ensures.absent c.if-use_again.false) ∙ c.self.view_is in
    one_of (IsEnvironmentFault g.S.Store.facts old.disk.store new.disk.store) (IsCacheFull old c.args.handle.0) c.bring.result
    (lacks_of g.S.Store.facts c.bring.result old.disk.store new.disk.store (subst (λ (s : CacheState g.row.S.Denot). Fails g.S.Store.facts (IsDamage (g.S.Store.facts s.disk.store).honest) s.disk.store new.disk.store c.bring.result) was c.bring.ensures.fails))

pub returns-clause-already : goal.returns-clause-already
returns-clause-already g c = λ loaded.
    let es = c.self.inside.frames.entries in
    let h = c.args.handle.0 in
    let out : is_resident c.args.self.now.resident h ≡ false = ap (λ s. is_resident s.resident h) (sym c.self.view_is) ∙ resident_is h es ∙ sym c.use_again.ensures.value ∙ c.if-use_again.false in
    let wrong : true ≡ false = sym (loaded-resident c.args.self.now h loaded) ∙ out in
    absurd (cc wrong)

pub returns-clause-stay : goal.returns-clause-stay
returns-clause-stay g c = λ loaded.
    let es = c.self.inside.frames.entries in
    let h = c.args.handle.0 in
    let out : is_resident c.args.self.now.resident h ≡ false = ap (λ s. is_resident s.resident h) (sym c.self.view_is) ∙ resident_is h es ∙ sym c.use_again.ensures.value ∙ c.if-use_again.false in
    let wrong : true ≡ false = sym (loaded-resident c.args.self.now h loaded) ∙ out in
    absurd (cc wrong)

pub returns-clause-shut : goal.returns-clause-shut
returns-clause-shut g c = λ far.
    let old = c.args.self.now in
    let was = ap (λ (x : LruCache ℕ Frame). shown c.self.inside.file x.entries x.cap) (c.use_again.ensures.absent c.if-use_again.false) ∙ c.self.view_is in
    let free : is_full old ≡ false = ap is_full (sym was) ∙ sym c.all_locked.ensures ∙ c.if-all_locked.false in
    let wrong : true ≡ false = sym far ∙ open-shut old c.args.handle.0 free in
    absurd (cc wrong)

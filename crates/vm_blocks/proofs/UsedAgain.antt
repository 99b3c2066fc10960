-- A block in memory that is made the one that was used last.
use Rattle.std.proofs.Common.{◌≡◌, ℕ, List, ◌∷◌, true, cond, is_some, length, nat_eq, nat_lt, unwrap_or, refl, ap, sym, subst, ◌∙◌}
use Rattle.std.specs.List.{IsDistinct}
use Rattle.std.specs.Map.{keys_of}
use Rattle.std.specs.Option.{option_map}
use Rattle.lru.specs.LruCache.{LruCache, lru_cache, promoted}
use Rattle.vm_store.specs.Facts.{StoreFacts}
use Rattle.document_file.specs.Disk.{FileState, SameUnlessCorrupt}
use Rattle.document_file.proofs.PassingLemmas.{SameUnlessCorrupt-refl}
use Rattle.vm_blocks.specs.Frames.{frame_of, residents, overlay, shown}
use Rattle.vm_blocks.specs.InPlace.{used_last}
use Rattle.vm_blocks.specs.Keeping.{KeepsBlocks, is_loaded}
use Rattle.vm_blocks.specs.Sound.{AreBlocksOf}
use Rattle.vm_blocks.specs.State.{CacheState, after_load, evicted, is_resident, locked_count}
use Rattle.vm_blocks.specs.declared.frame.Frame.{Frame}
use Rattle.vm_blocks.proofs.CallAfterCall.{moves_frames, stays_by}
use Rattle.vm_blocks.proofs.DocumentUnderFrames.{overlay_same, kept_same}
use Rattle.vm_blocks.proofs.KeepingLaws.{keeps-by, keeps-refl, keeps-stays, loaded-by, loaded-live, loaded-resident}
use Rattle.vm_blocks.proofs.Locks.{count_promoted}
use Rattle.vm_blocks.proofs.OrderOfUse.{lookup-residents, residents-promoted, held-promoted}
use Rattle.vm_blocks.proofs.Residents.{promoted_held}
use Rattle.vm_blocks.proofs.StateValidity.{blocks_shown}

module _ {S : Type 0} (facts : S → StoreFacts) (a : FileState S) (es : List (ℕ × Frame)) (cap h : ℕ) (fs : LruCache ℕ Frame) (is : fs ≡ lru_cache (promoted (nat_eq h) es) cap) (distinct : IsDistinct nat_eq (keys_of es)) (sound : AreBlocksOf facts a es cap) where
  now : (q : ℕ) → frame_of fs.entries q ≡ frame_of es q
  now q = ap (λ (x : LruCache ℕ Frame). frame_of x.entries q) is ∙ held-promoted h q es distinct

  pub used_document : overlay fs.entries a.document ≡ overlay es a.document
  used_document = overlay_same es fs.entries a.document now

  used_order : residents fs.entries ≡ promoted (nat_eq h) (residents es)
  used_order = ap (λ (x : LruCache ℕ Frame). residents x.entries) is ∙ residents-promoted h es

  pub used_after : is_resident (residents es) h ≡ true → residents fs.entries ≡ after_load cap h (residents es)
  used_after there = used_order ∙ sym (ap (λ b. cond b (promoted (nat_eq h) (residents es)) ((h, 0) ∷ cond (nat_lt (length (residents es)) cap) (residents es) (evicted (residents es)))) there)

  pub used_count : locked_count (residents fs.entries) ≡ locked_count (residents es)
  used_count = ap locked_count used_order ∙ count_promoted h (residents es)

  used_cap : fs.cap ≡ cap
  used_cap = ap (λ (x : LruCache ℕ Frame). x.cap) is

  pub used_blocks : AreBlocksOf facts a fs.entries fs.cap
  used_blocks = blocks_shown facts a es cap fs.entries fs.cap sound (kept_same (facts a.disk.store).honest es fs.entries a.document now sound.kept) used_document used_cap

  pub used_keeps : KeepsBlocks facts (shown a es cap) (shown a fs.entries fs.cap)
  used_keeps =
      let honest = (facts a.disk.store).honest in
      let same : SameUnlessCorrupt honest (overlay es a.document) (overlay fs.entries a.document) = subst (SameUnlessCorrupt honest (overlay es a.document)) (sym used_document) (SameUnlessCorrupt-refl honest (overlay es a.document)) in
      keeps-by facts (shown a es cap) (shown a fs.entries fs.cap) (stays_by facts a es cap a fs.entries fs.cap (moves_frames facts a es fs.entries used_blocks.kept same) used_cap)
      (record {
        each = λ q. ap (λ o. unwrap_or o 0) (lookup-residents q fs.entries ∙ ap (option_map (λ (f : Frame). f.locks)) (now q) ∙ sym (lookup-residents q es));
        count = used_count;
      })

-- So it is in the frames that go first then.
module _ {S : Type 0} (facts : S → StoreFacts) (file : FileState S) (es : List (ℕ × Frame)) (cap : ℕ) (state : CacheState S) (view : shown file es cap ≡ state) (h : ℕ)
    (distinct : IsDistinct nat_eq (keys_of es)) (sound : AreBlocksOf facts file es cap) where
  abbrev first : List (ℕ × Frame)
  first = promoted (nat_eq h) es

  pub first_blocks : AreBlocksOf facts file first cap
  first_blocks = used_blocks facts file es cap h (lru_cache first cap) refl distinct sound

  pub first_count : locked_count (residents first) ≡ locked_count (residents es)
  first_count = used_count facts file es cap h (lru_cache first cap) refl distinct sound

  pub first_frame : frame_of first h ≡ frame_of es h
  first_frame = held-promoted h h es distinct

  pub first_shown : shown file first cap ≡ used_last state h
  first_shown =
      let document = used_document facts file es cap h (lru_cache first cap) refl distinct sound in
      let order = residents-promoted h es in
      (λ i. record { disk = file.disk; document = document i; resident = order i; frames = cap }) ∙ ap (λ (s : CacheState S). used_last s h) view

-- What callers see of it.
module _ {S : Type 0} (state : CacheState S) (h : ℕ) where
  pub last_keeps : (facts : S → StoreFacts) → KeepsBlocks facts state (used_last state h)
  last_keeps facts =
      let same = keeps-stays facts state state (keeps-refl facts state) in
      keeps-by facts state (used_last state h) (record { file = record { passes = same.file.passes; document = same.file.document }; frames = refl })
      (record { each = λ q. ap (λ o. unwrap_or o 0) (promoted_held h q state.resident); count = count_promoted h state.resident })

  pub last_loaded : is_loaded state h ≡ true → is_loaded (used_last state h) h ≡ true
  last_loaded loaded = loaded-by (used_last state h) h (ap is_some (promoted_held h h state.resident) ∙ loaded-resident state h loaded) (loaded-live state h loaded)

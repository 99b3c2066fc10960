-- A part of the body of a block in memory that is changed in place, where the block is the one that was used last then.
use Rattle.std.proofs.Common.{◌≡◌, ◌⊎◌, ℕ, List, Bool, None, Some, true, false, nat_eq, is_some, MatchBool, inl, inr, refl, sym, ap, subst, ◌∙◌}
use Rattle.std.proofs.lemmas.Bool.{true≢false}
use Rattle.std.specs.Prelude.{◌&&◌, ◌≤◌, Err, Ok, length}
use Rattle.std.specs.List.{IsDistinct}
use Rattle.std.specs.Map.{keys_of, set_value}
use Rattle.geos_model.specs.Document.{is_live}
use Rattle.geos_model.specs.declared.fault.Fault.TheVariants.{Damaged}
use Rattle.geos_model.specs.declared.handle.VmHandle.{VmHandle}
use Rattle.lru.specs.LruCache.{promoted}
use Rattle.vm_store.specs.Facts.{StoreFacts}
use Rattle.document_file.specs.Disk.{FileState}
use Rattle.vm_blocks.specs.Bodies.{body_value}
use Rattle.vm_blocks.specs.Frames.{frame_of, overlay, residents, shown}
use Rattle.vm_blocks.specs.InPlace.{TriesPart, used_last}
use Rattle.vm_blocks.specs.Keeping.{has_no_frame_for, is_loaded}
use Rattle.vm_blocks.specs.Parts.{AllowsPart}
use Rattle.vm_blocks.specs.Preparing.{AppliesChange}
use Rattle.vm_blocks.specs.Runs.{PutsPart}
use Rattle.vm_blocks.specs.Sound.{AreBlocksOf}
use Rattle.vm_blocks.specs.State.{CacheState, is_resident, locked_count}
use Rattle.vm_blocks.specs.declared.change.Change.TheVariants as changes
use Rattle.vm_blocks.specs.declared.change.PartChange.{PartChange}
use Rattle.vm_blocks.specs.declared.frame.Frame.{Frame}
use Rattle.vm_blocks.proofs.ChangeOutcomes.{turns_ready, turns_unready}
use Rattle.vm_blocks.proofs.KeepingLaws.{loaded-resident, resident-open}
use Rattle.vm_blocks.proofs.OrderOfUse.{resident_is}
use Rattle.vm_blocks.proofs.ReplacedRuns.{blocks_left, changed, either, seats_left}
use Rattle.vm_blocks.proofs.Residents.{both}
use Rattle.vm_blocks.proofs.StateValidity.{seen_live}
use Rattle.vm_blocks.proofs.UsedAgain.{first_blocks, first_count, first_frame, first_shown, last_keeps, last_loaded}

module _ {S : Type 0} (facts : S → StoreFacts) (file : FileState S) (es : List (ℕ × Frame)) (cap : ℕ) (state : CacheState S) (view : shown file es cap ≡ state) (h : ℕ)
    (sound : AreBlocksOf facts file es cap) where
  -- where there is no frame of it
  pub absent : frame_of es h ≡ None → is_loaded state h ≡ false
  unfolding is_loaded
  absent none =
      ap (λ (s : CacheState S). is_resident s.resident h && is_live s.document h) (sym view)
      ∙ ap (λ b. b && is_live (overlay es file.document) h) (resident_is h es ∙ ap is_some none)

  module _ (f : Frame) (here : frame_of es h ≡ Some f) where
    pub present : is_loaded state h ≡ true
    unfolding is_loaded
    present =
        let there : is_resident (residents es) h ≡ true = resident_is h es ∙ ap is_some here in
        ap (λ (s : CacheState S). is_resident s.resident h && is_live s.document h) (sym view)
        ∙ both (is_resident (residents es) h) (is_live (overlay es file.document) h) there (seen_live _ es file.document sound.kept h there)

    module _ (distinct : IsDistinct nat_eq (keys_of es)) where
      abbrev first : List (ℕ × Frame)
      first = promoted (nat_eq h) es

      pub here_first : frame_of first h ≡ Some f
      here_first = first_frame facts file es cap state view h distinct sound ∙ here

      pub seen_first : shown file first cap ≡ used_last state h
      seen_first = first_shown facts file es cap state view h distinct sound

      pub loaded_first : is_loaded (used_last state h) h ≡ true
      loaded_first = last_loaded state h present

      -- a part is changed
      module _ (part : PartChange) (new : Frame) where
        pub blocks_changed : PutsPart part f new ⊎ (new ≡ f) → AreBlocksOf facts file (set_value (nat_eq h) first new) cap
        blocks_changed left =
            blocks_left facts file first cap (used_last state h) seen_first h f here_first part new left loaded_first (first_blocks facts file es cap state view h distinct sound)

        pub count_changed : PutsPart part f new ⊎ (new ≡ f) → locked_count (residents (set_value (nat_eq h) first new)) ≡ locked_count (residents es)
        count_changed left =
            ap locked_count (seats_left facts file first cap (used_last state h) seen_first h f here_first part new left) ∙ first_count facts file es cap state view h distinct sound

        module _ (made : Bool) (is : MatchBool made (PutsPart part f new) ((AllowsPart part (body_value f.body) → ⊥) × (new ≡ f))) where
          left_so : PutsPart part f new ⊎ (new ≡ f)
          left_so = either facts file first cap (used_last state h) seen_first h f here_first part new _ made is

          pub blocks_tried : AreBlocksOf facts file (set_value (nat_eq h) first new) cap
          blocks_tried = blocks_changed left_so

          pub count_tried : locked_count (residents (set_value (nat_eq h) first new)) ≡ locked_count (residents es)
          count_tried = count_changed left_so

          pub part_tried : TriesPart h part (used_last state h) (shown file (set_value (nat_eq h) first new) cap) made
          part_tried = changed facts file first cap (used_last state h) seen_first h f here_first part new made is

-- What callers see of a change that was tried so.
module _ {S : Type 0} (facts : S → StoreFacts) (b : VmHandle) (part : PartChange) (old new : CacheState S) (few : length old.resident ≤ old.frames) (loaded : is_loaded old b.0 ≡ true) where
  near : has_no_frame_for old b.0 ≡ false
  near = resident-open old b.0 few (loaded-resident old b.0 loaded)

  pub turns_made : TriesPart b.0 part (used_last old b.0) new true → AppliesChange facts (changes.Part b part) old new (Ok tt)
  turns_made made =
      turns_ready facts (changes.Part b part) old (used_last old b.0) (last_keeps old b.0 facts) new (last_loaded old b.0 loaded) (λ far. true≢false (sym far ∙ near)) (λ here takes. (refl, refl)) made.1

  pub turns_refused : TriesPart b.0 part (used_last old b.0) new false → AppliesChange facts (changes.Part b part) old new (Err Damaged)
  turns_refused refused =
      subst (λ (s : CacheState S). AppliesChange facts (changes.Part b part) old s (Err Damaged)) (sym refused.1)
      (turns_unready facts (changes.Part b part) old (used_last old b.0) (last_keeps old b.0 facts) Damaged (inr (inl (refl, λ steady takes. refused.0 takes))) (λ here takes. refused.0 takes) (λ far. absurd (true≢false (sym far ∙ near))))

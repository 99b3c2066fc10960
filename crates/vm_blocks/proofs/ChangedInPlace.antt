-- A part of the body of a block in memory that is changed in place: what it takes, and what callers see then.
use Rattle.std.proofs.Common.{◌≡◌, ℕ, List, Option, Some, true, nat_eq, is_some, refl, sym, ap, subst, ◌∙◌}
use Rattle.std.specs.Borrow.{MutBor}
use Rattle.std.specs.FinMap.{get}
use Rattle.std.specs.Map.{set_value}
use Rattle.std.specs.Option.{IsSome, option_copied_mut, option_map}
use Rattle.geos_model.specs.Document.{Block, Document, block_at, is_heap_body, is_live, with_body}
use Rattle.vm_store.specs.Facts.{StoreFacts}
use Rattle.document_file.specs.Disk.{FileState}
use Rattle.vm_blocks.specs.Bodies.{body_value}
use Rattle.vm_blocks.specs.Changes.{after_part}
use Rattle.vm_blocks.specs.Frames.{frame_of, overlay, residents, shown}
use Rattle.vm_blocks.specs.Keeping.{is_loaded}
use Rattle.vm_blocks.specs.Parts.{AllowsPart, body_after_part}
use Rattle.vm_blocks.specs.Sound.{AreBlocksOf, IsValidState}
use Rattle.vm_blocks.specs.State.{CacheState, is_resident}
use Rattle.vm_blocks.specs.declared.change.PartChange.{PartChange}
use Rattle.vm_blocks.specs.declared.frame.Frame.{Frame}
use Rattle.vm_blocks.proofs.ChangeOutcomes.{part_as_body}
use Rattle.vm_blocks.proofs.ChangedBodies.{is_lent, kept_lent, state_lent}
use Rattle.vm_blocks.proofs.KeepingLaws.{loaded-live, loaded-resident}
use Rattle.vm_blocks.proofs.OrderOfUse.{resident_is, seats_kept}
use Rattle.vm_blocks.proofs.PartLemmas.{part_kind}
use Rattle.vm_blocks.proofs.Preparing.{body_of_option, takes_body}
use Rattle.vm_blocks.proofs.StateValidity.{sound_part}
use Rattle.vm_blocks.proofs.Tables.{body_under}

module _ {S : Type 0} (file : FileState S) (es : List (ℕ × Frame)) (cap : ℕ) (state : CacheState S) (view : shown file es cap ≡ state) (h : ℕ) where
  -- its frame is lent where it is in memory
  pub frame_lent : (o : Option (MutBor Frame)) → option_copied_mut o ≡ frame_of es h → is_loaded state h ≡ true → IsSome o
  frame_lent o value loaded =
      is_lent o (ap is_some value ∙ sym (resident_is h es) ∙ ap (λ (s : CacheState S). is_resident s.resident h) view ∙ loaded-resident state h loaded)

  -- its body is that of the document
  pub body_seen : (f : Frame) → frame_of es h ≡ Some f → (block_at state.document h).body ≡ body_value f.body
  body_seen f here =
      ap (λ (s : CacheState S). (block_at s.document h).body) (sym view)
      ∙ body_of_option (get (overlay es file.document).blocks h) (body_value f.body) (body_under es file.document h f.body (ap (option_map (λ (x : Frame). x.body)) here))

  module _ (f : Frame) (here : frame_of es h ≡ Some f) (p : PartChange) (takes : AllowsPart p (block_at state.document h).body) where
    there : option_map (λ (b : Block). b.body) (get (overlay es file.document).blocks h) ≡ Some (body_value f.body)
    there = body_under es file.document h f.body (ap (option_map (λ (x : Frame). x.body)) here)

    pub frame_takes : AllowsPart p (body_value f.body)
    frame_takes =
        takes_body (overlay es file.document) h p (body_value f.body) there (subst (λ (s : CacheState S). AllowsPart p (block_at s.document h).body) (sym view) takes)

    module _ (new : Frame) (body : body_value new.body ≡ body_after_part p (body_value f.body)) (marks : (new.changed ≡ true) × (new.locks ≡ f.locks)) where
      pub seats_stay : residents (set_value (nat_eq h) es new) ≡ residents es
      seats_stay = seats_kept h es f new here marks.1

      pub blocks_stay : (facts : S → StoreFacts) → is_loaded state h ≡ true → AreBlocksOf facts file es cap → AreBlocksOf facts file (set_value (nat_eq h) es new) cap
      blocks_stay facts loaded sound =
          let live = ap (λ (s : CacheState S). is_live s.document h) view ∙ loaded-live state h loaded in
          let kind : is_heap_body (body_value new.body) ≡ is_heap_body (body_value f.body) = ap is_heap_body body ∙ part_kind p (body_value f.body) frame_takes in
          record {
            kept = kept_lent es h f here file.document new (facts file.disk.store).honest marks.1 marks.0 kind sound.kept;
            state = subst (IsValidState facts) (sym (state_lent es h f here file.document new file.disk cap (shown file es cap) marks.1 refl))
                (sound_part facts (shown file es cap) h p (body_value f.body) (body_value new.body) there (subst (λ (s : CacheState S). AllowsPart p (block_at s.document h).body) (sym view) takes) body live sound.state);
          }

      pub part_shown : shown file (set_value (nat_eq h) es new) cap ≡ record state { document = after_part h p state.document }
      part_shown =
          let seen : option_map (λ (b : Block). b.body) (get state.document.blocks h) ≡ Some (body_value f.body) =
          ap (λ (s : CacheState S). option_map (λ (b : Block). b.body) (get s.document.blocks h)) (sym view) ∙ there in
          state_lent es h f here file.document new file.disk cap state marks.1 view
          ∙ ap (λ (x : Document). record state { document = x }) (ap (with_body state.document h) body ∙ sym (part_as_body h p state.document (body_value f.body) seen))

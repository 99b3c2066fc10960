-- Slots whose next commit gives a file its sums.
use Rattle.std.proofs.Common.{◌≡◌, ◌⊎◌, IsTrue, true, ℕ, List, None, Some, All, refl, sym, subst, inl, inr}
use Rattle.vm_store.specs.Facts.{StoreFacts}
use Rattle.document_file.specs.Ranges.{IsPlaced}
use Rattle.document_file.specs.Slots.{spare_of, IsBeside}
use Rattle.document_file.specs.Documents.{IsPreparedStored}
use Rattle.document_file.specs.Sound.{IsFormed, IsWhole, IsSound}
use Rattle.document_file.specs.Sums.{AreSummed, IsResummed}
use Rattle.document_file.specs.declared.table.BlockTable.{BlockTable}
use Rattle.document_file.specs.declared.slot.SpareSlot.{SpareSlot}
use Rattle.document_file.specs.declared.slot.SpareSlot.TheVariants.{Shut, Stale}
use Rattle.document_file.specs.declared.slot.Slots.{Slots}
use Rattle.document_file.proofs.SoundLemmas.{EndsIn, nothing_marked}
use Rattle.document_file.proofs.TurningLemmas.{resummed_table, resummed_extents, resummed_images}

-- A slot in which nothing is prepared says nothing of the version that commits write.

abbrev pub IsAlone : SpareSlot → Type 0
IsAlone spare = (spare ≡ Shut) ⊎ (spare ≡ Stale)

other_beside : (old new : ℕ) (spare : SpareSlot) (slot sequence : ℕ) (file c : List ℕ) → IsAlone spare → IsBeside old spare slot sequence file c → IsBeside new spare slot sequence file c
other_beside old new spare slot sequence file c (inl shut) is = subst (λ s. IsBeside new s slot sequence file c) (sym shut) (subst (λ s. IsBeside old s slot sequence file c) shut is)
other_beside old new spare slot sequence file c (inr stale) is = subst (λ s. IsBeside new s slot sequence file c) (sym stale) (subst (λ s. IsBeside old s slot sequence file c) stale is)

none_prepared : (version : ℕ) (file : List ℕ) (spare : SpareSlot) → IsAlone spare → IsPreparedStored version file spare
none_prepared version file spare (inl shut) = subst (IsPreparedStored version file) (sym shut) tt
none_prepared version file spare (inr stale) = subst (IsPreparedStored version file) (sym stale) tt

module _ (store : StoreFacts) (live summed saved : BlockTable) (slots : Slots) (alike : IsResummed summed live) (saved_alike : IsResummed saved slots.committed.saved.table.value) where
  abbrev given : Slots
  given = record slots { next_version = 3; saved_sums = Some saved }

  given_formed : IsFormed live slots → IsFormed summed given
  given_formed was = record {
    table = resummed_table summed live alike was.table;
    placed = subst (All IsPlaced) (sym (resummed_extents summed live alike)) was.placed;
    committed = was.committed;
    prepared = was.prepared;
    marked = was.marked;
    kept = was.kept;
    version = was.version;
    next_version = inr refl;
    turning = saved_alike;
    numbered = was.numbered;
    in_range = was.in_range;
  }

  given_whole : IsAlone slots.spare → slots.marked ≡ None → IsWhole store live slots → AreSummed true store.content summed.places.items → AreSummed true store.content saved.places.items → IsWhole store summed given
  given_whole alone unmarked was live_sums saved_sums = record {
    images = resummed_images summed live alike store.content was.images;
    sums = live_sums;
    within = subst (All (EndsIn store.content)) (sym (resummed_extents summed live alike)) was.within;
    committed = was.committed;
    prepared = none_prepared 3 store.content slots.spare alone;
    marked = was.marked;
    marked_sums = nothing_marked (λ t. AreSummed true store.content t.places.items) slots.marked unmarked;
    marked_within = was.marked_within;
    saved_sums = saved_sums;
    leaves = λ c left.
        let is = was.leaves c left in
        record {
          gate = is.gate;
          counts = is.counts;
          beside = other_beside slots.next_version 3 slots.spare (spare_of slots) slots.sequence store.content c alone is.beside;
        };
  }

  -- the file is as sound with them
  pub given_sound : IsAlone slots.spare → slots.marked ≡ None → IsSound store live slots → (IsTrue store.honest → AreSummed true store.content summed.places.items) → (IsTrue store.honest → AreSummed true store.content saved.places.items)
      → IsSound store summed (record slots { next_version = 3; saved_sums = Some saved })
  given_sound alone unmarked sound live_sums saved_sums = record {
    formed = given_formed sound.formed;
    whole = λ so. given_whole alone unmarked (sound.whole so) (live_sums so) (saved_sums so);
  }

-- What a file that was read stands for, and that it is sound once it is synced.
use Rattle.std.proofs.Common.{◌≡◌, ◌⊎◌, ℕ, suc, ◌+◌, ◌-◌, ◌*◌, ◌^◌, ◌<◌, ◌≤◌, Bool, true, false, not, ◌||◌, IsTrue, List, length, get_or, None, is_some, Err, All, refl, sym, ap, ap₂, subst, ◌∙◌, arith, inl, inr, eq-eqb, ne_eqb}
use Rattle.std.specs.Prelude.{if◌then◌else◌}
use Rattle.std.proofs.lemmas.Bool.{cond-false, le-ltb}
use Rattle.std.proofs.lemmas.List.Elements.{All-append}
use Rattle.vm_store.specs.Facts.{StoreFacts, IsDurable}
use Rattle.file_format.specs.File.{pair_of, pair_of_counting, both, is_sealed, is_version, saved_sum, stands, summed_document, working_sum}
use Rattle.geos_model.specs.declared.fault.Fault.{Fault}
use Rattle.geos_model.specs.declared.fault.Fault.TheVariants.{Damaged}
use Rattle.file_format.specs.declared.file.Slot.{Slot}
use Rattle.file_format.proofs.FileStands.{stands-from, is_wrong}
use Rattle.document_file.specs.Ranges.{IsPlaced, end_of}
use Rattle.document_file.specs.Sums.{AreSummed, has_sums, version_for}
use Rattle.file_format.specs.Slots.{IsVersion}
use Rattle.document_file.specs.Slots.{block_extents, stored_extents, pair_extents, prepared_extents, Outcome}
use Rattle.document_file.specs.Documents.{AreImaged, AreStored, IsPreparedStored, document_in, is_of_version_3, sequence_of}
use Rattle.document_file.specs.Sound.{ArePlaces, IsBlockTable, IsNextVersion, IsTurning, IsPreparedFormed, IsSound}
use Rattle.file_format.specs.Reading.{OnlyReadsStore}
use Rattle.document_file.specs.Opened.{AreReadDocuments, IsActiveSlot, IsReadSlots, IsReadWhole}
use Rattle.document_file.specs.declared.slot.ActiveSlot.{ActiveSlot}
use Rattle.document_file.specs.declared.table.BlockTable.{BlockTable}
use Rattle.document_file.specs.declared.table.Pair.{Pair}
use Rattle.document_file.specs.declared.slot.Slots.{Slots}
use Rattle.document_file.specs.declared.slot.SpareSlot.{SpareSlot}
use Rattle.document_file.specs.declared.slot.SpareSlot.TheVariants.{Shut, Stale}
use Rattle.document_file.proofs.StandsLemmas.{summed_stored}
use Rattle.document_file.proofs.SumsLemmas.{for_next, for_sums}
use Rattle.document_file.proofs.RangesLemmas.{all_left}
use Rattle.document_file.proofs.SoundLemmas.{kept_all, nothing_kept, nothing_marked}
use Rattle.file_format.proofs.LooksLemmas.{still_holds}
use Rattle.document_file.proofs.CountingSlotLemmas.{slot_leads}

-- From any store.

pub slots_formed : (n version sequence : ℕ) (second : Bool) (pair : Pair) (spare : SpareSlot) → AreReadDocuments n pair → IsVersion version → 1 ≤ sequence → sequence < 2 ^ 64 → (spare ≡ Shut) ⊎ (spare ≡ Stale)
    → IsReadSlots (record { second = second; version = version; next_version = version_for (has_sums version); sequence = sequence; committed = pair; spare = spare; marked = None; saved_sums = None })
slots_formed n version sequence second pair spare are versioned some range alone = record {
  committed = record { updated = are.updated.table; saved = are.saved.table };
  placed = All-append IsPlaced (stored_extents pair.updated) (stored_extents pair.saved) are.updated.placed are.saved.placed;
  version = versioned;
  numbered = some;
  in_range = range;
  spare = alone;
  unmarked = refl;
  unturned = refl;
  next_version = refl;
}

-- From an honest one.

one_within : (file : List ℕ) (second : Bool) → 1024 ≤ length file → 512 * (if second then 1 else 0) + 44 ≤ length file
one_within file true long = omega (arith, long)
one_within file false long = omega (arith, long)

-- the fields of the slot that counts are those of a document
pub record IsChecked (s : Slot) : Type 0 where
  pub version : IsVersion s.version
  pub reserved : s.reserved ≡ 0
  pub some : 1 ≤ s.sequence
  pub sealed : is_sealed s ≡ true

pub slots_whole : (file : List ℕ) (n : ℕ) (active : ActiveSlot) (pair : Pair) → n ≡ length file → IsActiveSlot file active → IsChecked active.slot → AreReadDocuments n pair → AreStored active.slot.version file pair
    → pair.updated.directory ≡ active.slot.working → pair.saved.directory ≡ active.slot.saved → pair.updated.sum ≡ working_sum active.slot → pair.saved.sum ≡ saved_sum active.slot
    → IsReadWhole file (record { second = active.second; version = active.slot.version; next_version = version_for (has_sums active.slot.version); sequence = active.slot.sequence; committed = pair; spare = active.spare; marked = None; saved_sums = None })
slots_whole file n active pair size is good are stored working saved first second =
    let inside : All (λ e. end_of e ≤ length file) (pair_extents pair) = subst (λ m. All (λ e. end_of e ≤ m) (pair_extents pair)) size
    (All-append (λ e. end_of e ≤ n) (stored_extents pair.updated) (stored_extents pair.saved) are.updated.within are.saved.within) in
    let leads = slot_leads file (if active.second then 1 else 0) active.slot pair (one_within file active.second is.long) is.bytes is.opened (record { reserved = good.reserved; updated = working; saved = saved; updated_sum = first; saved_sum = second; sealed = good.sealed }) inside in
    record {
      stored = stored;
      within = inside;
      outcome = record { gate = leads.0; counts = leads.1; beside = is.beside (version_for (has_sums active.slot.version)) };
      stands = stands-from file active.slot (document_in file pair.updated.table.value) (document_in file pair.saved.table.value) (record {
        long = is.long;
        counts = is.counts;
        version = good.version;
        reserved = good.reserved;
        sequence = good.some;
        sealed = good.sealed;
        working = ap₂ (summed_document active.slot.version file) (sym first) (sym working) ∙ summed_stored active.slot.version file pair.updated are.updated.table stored.updated;
        saved_is = ap₂ (summed_document active.slot.version file) (sym second) (sym saved) ∙ summed_stored active.slot.version file pair.saved are.saved.table stored.saved;
      });
      numbered = ap sequence_of is.counts;
      versioned = ap is_of_version_3 is.counts;
    }

-- Refusals.

pub slot_refused : (file : List ℕ) (active : ActiveSlot) (fault : Fault) → IsActiveSlot file active → pair_of file active.slot ≡ Err fault → stands file ≡ Err fault
slot_refused file active fault is refused = cond-false _ _ _ (le-ltb (length file) 1024 is.long) ∙ ap (pair_of_counting file) is.counts ∙ refused

tested : (s : Slot) → s.reserved ≡ 0 → 1 ≤ s.sequence → is_sealed s ≡ true → is_wrong s ≡ false
tested s none some sealed =
    ap₂ (λ (a b : Bool). not a || b) (eq-eqb s.reserved 0 none) (ap₂ (λ (a b : Bool). a || not b) (ne_eqb s.sequence 0 (λ e. absurd (omega (arith, some, e)))) sealed)

-- the versions of the format
versioned : (v : ℕ) → IsVersion v → not (is_version v) ≡ false
versioned v (inl one) = subst (λ k. not (is_version k) ≡ false) (sym one) refl
versioned v (inr (inl two)) = subst (λ k. not (is_version k) ≡ false) (sym two) refl
versioned v (inr (inr three)) = subst (λ k. not (is_version k) ≡ false) (sym three) refl

-- what a slot leads to whose fields are those of a document
pub pair_stands : (file : List ℕ) (s : Slot) → IsChecked s → pair_of file s ≡ both (summed_document s.version file (working_sum s) s.working) (summed_document s.version file (saved_sum s) s.saved)
pair_stands file s good = cond-false _ _ _ (versioned s.version good.version) ∙ cond-false _ _ _ (tested s good.reserved good.some good.sealed)

pub pair_refused : (file : List ℕ) (s : Slot) → IsChecked s → both (summed_document s.version file (working_sum s) s.working) (summed_document s.version file (saved_sum s) s.saved) ≡ Err Damaged → pair_of file s ≡ Err Damaged
pair_refused file s good wrong = pair_stands file s good ∙ wrong

-- Once it is synced.

no_extents : (spare : SpareSlot) → (spare ≡ Shut) ⊎ (spare ≡ Stale) → All IsPlaced (prepared_extents spare)
no_extents spare (inl shut) = subst (λ o. All IsPlaced (prepared_extents o)) (sym shut) (λ k d within. absurd (omega (arith, within)))
no_extents spare (inr stale) = subst (λ o. All IsPlaced (prepared_extents o)) (sym stale) (λ k d within. absurd (omega (arith, within)))

nothing_formed : (sequence : ℕ) (spare : SpareSlot) → (spare ≡ Shut) ⊎ (spare ≡ Stale) → IsPreparedFormed sequence spare
nothing_formed sequence spare (inl shut) = subst (IsPreparedFormed sequence) (sym shut) tt
nothing_formed sequence spare (inr stale) = subst (IsPreparedFormed sequence) (sym stale) tt

nothing_stored : (version : ℕ) (file : List ℕ) (spare : SpareSlot) → (spare ≡ Shut) ⊎ (spare ≡ Stale) → IsPreparedStored version file spare
nothing_stored version file spare (inl shut) = subst (IsPreparedStored version file) (sym shut) tt
nothing_stored version file spare (inr stale) = subst (IsPreparedStored version file) (sym stale) tt

-- a copy of a table
pub table_copied : (old new : BlockTable) → new.map_block ≡ old.map_block → new.places.items ≡ old.places.items → IsBlockTable old → IsBlockTable new
table_copied old new map items is = record {
  size = (let long = ap length items in let was = is.size in omega (arith, long, was));
  places = subst ArePlaces (sym items) is.places;
  map_block = subst (λ m. (m ≡ 0) ⊎ ((1 ≤ m) × (is_some (get_or new.places.items (m - 1) None) ≡ true))) (sym map)
      (subst (λ ps. (old.map_block ≡ 0) ⊎ ((1 ≤ old.map_block) × (is_some (get_or ps (old.map_block - 1) None) ≡ true))) (sym items) is.map_block);
}

pub opened_sound : (old new : StoreFacts) (live : BlockTable) (slots : Slots) → OnlyReadsStore old new → IsReadSlots slots → (IsTrue old.honest → IsReadWhole old.content slots) → (IsTrue new.honest → IsDurable new)
    → live.map_block ≡ slots.committed.updated.table.value.map_block → live.places.items ≡ slots.committed.updated.table.value.places.items → IsSound new live slots
opened_sound old new live slots looks formed whole durable map items =
    let updated = slots.committed.updated in
    let first = all_left IsPlaced (stored_extents updated) (stored_extents slots.committed.saved) formed.placed in
    record {
      formed = record {
        table = table_copied updated.table.value live map items formed.committed.updated;
        placed = subst (λ ps. All IsPlaced (block_extents ps)) (sym items) (λ k d within. first (suc k) d (omega (arith, within)));
        committed = formed.committed;
        prepared = nothing_formed slots.sequence slots.spare formed.spare;
        marked = nothing_marked IsBlockTable slots.marked formed.unmarked;
        kept = kept_all IsPlaced slots formed.placed (no_extents slots.spare formed.spare) (nothing_kept IsPlaced slots.marked formed.unmarked);
        version = formed.version;
        next_version = subst (IsNextVersion slots.version) (sym formed.next_version) (for_next slots.version);
        turning = subst (IsTurning slots) (sym formed.unturned) (ap has_sums formed.next_version ∙ for_sums (has_sums slots.version));
        numbered = formed.numbered;
        in_range = formed.in_range;
      };
      whole = λ so.
          let is = still_holds (λ f. IsReadWhole f slots) old new looks whole so in
          let inside = all_left (λ e. end_of e ≤ length new.content) (stored_extents updated) (stored_extents slots.committed.saved) is.within in
          record {
            images = subst (AreImaged new.content) (sym items) is.stored.updated.images;
            sums = subst (λ b. AreSummed b new.content live.places.items) (sym (ap has_sums formed.next_version ∙ for_sums (has_sums slots.version))) (subst (AreSummed (has_sums slots.version) new.content) (sym items) is.stored.updated.sums);
            within = subst (λ ps. All (λ e. end_of e ≤ length new.content) (block_extents ps)) (sym items) (λ k d within. inside (suc k) d (omega (arith, within)));
            committed = is.stored;
            prepared = nothing_stored slots.next_version new.content slots.spare formed.spare;
            marked = nothing_marked (λ t. AreImaged new.content t.places.items) slots.marked formed.unmarked;
            marked_sums = nothing_marked (λ t. AreSummed (has_sums slots.next_version) new.content t.places.items) slots.marked formed.unmarked;
            marked_within = nothing_kept (λ e. end_of e ≤ length new.content) slots.marked formed.unmarked;
            saved_sums = nothing_marked (λ t. AreSummed (has_sums slots.next_version) new.content t.places.items) slots.saved_sums formed.unturned;
            leaves = λ c left. subst (Outcome slots new.content) (sym (durable so c left)) is.outcome;
          };
    }

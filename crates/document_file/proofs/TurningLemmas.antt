-- Tables that get sums, in a file that has none.
use Rattle.std.proofs.Common.{◌≡◌, ℕ, ◌-◌, ◌≤◌, ◌⊎◌, suc, zero, Bool, true, false, List, [], ◌∷◌, map, All, length, get_or, is_some, Option, None, Some, refl, sym, ap, subst, ◌∙◌, arith, inl, inr}
use Rattle.std.specs.Prelude.{IfSome}
use Rattle.geos_model.proofs.Table.{table_map}
use Rattle.document_file.specs.Ranges.{end_of, KeepsAll, KeepsExtent}
use Rattle.document_file.specs.Slots.{block_extents, stored_extents, pair_extents}
use Rattle.document_file.specs.Documents.{block_in, blocks_in, document_in, AreImaged, IsImaged, AreStored}
use Rattle.document_file.specs.Sound.{IsTurning, IsPlace, IsBlockTable}
use Rattle.document_file.specs.Sums.{AreSummed, IsResummed, has_sums, unsummed}
use Rattle.document_file.specs.declared.table.Place.{Place}
use Rattle.document_file.specs.declared.table.BlockTable.{BlockTable}
use Rattle.document_file.specs.declared.slot.Slots.{Slots}
use Rattle.document_file.proofs.RangesLemmas.{all_right}
use Rattle.document_file.proofs.DocumentsLemmas.{stored_within}
use Rattle.document_file.proofs.TableLemmas.{sums_same}

-- What places say without their sums.

extents_unsummed : (places : List (Option Place)) → block_extents (map unsummed places) ≡ block_extents places
extents_unsummed [] = refl
extents_unsummed (None ∷ places) = extents_unsummed places
extents_unsummed (Some place ∷ places) = ap (λ es. place.extent ∷ es) (extents_unsummed places)

blocks_unsummed : (file : List ℕ) (places : List (Option Place)) → blocks_in file (map unsummed places) ≡ blocks_in file places
blocks_unsummed file [] = refl
blocks_unsummed file (None ∷ places) = ap (λ bs. None ∷ bs) (blocks_unsummed file places)
blocks_unsummed file (Some place ∷ places) = ap (λ bs. Some (block_in file place) ∷ bs) (blocks_unsummed file places)

length_unsummed : (places : List (Option Place)) → length (map unsummed places) ≡ length places
length_unsummed [] = refl
length_unsummed (o ∷ places) = ap suc (length_unsummed places)

-- a property that doesn't look at sums
module _ (P : Place → Type 0) (bare : (place : Place) → P place → P (record place { sum = None })) (back : (place : Place) → P (record place { sum = None }) → P place) where
  one_bare : (o : Option Place) → IfSome o P → IfSome (unsummed o) P
  one_bare None is = tt
  one_bare (Some place) is = bare place is

  one_back : (o : Option Place) → IfSome (unsummed o) P → IfSome o P
  one_back None is = tt
  one_back (Some place) is = back place is

  all_bare : (places : List (Option Place)) → All (λ o. IfSome o P) places → All (λ o. IfSome o P) (map unsummed places)
  all_bare [] all k d inside = absurd (omega (arith, inside))
  all_bare (o ∷ places) all zero d inside = one_bare o (all 0 None (omega arith))
  all_bare (o ∷ places) all (suc k) d inside = all_bare places (λ i x low. all (suc i) x (omega arith)) k d (omega (arith, inside))

  all_back : (places : List (Option Place)) → All (λ o. IfSome o P) (map unsummed places) → All (λ o. IfSome o P) places
  all_back [] all k d inside = absurd (omega (arith, inside))
  all_back (o ∷ places) all zero d inside = one_back o (all 0 None (omega arith))
  all_back (o ∷ places) all (suc k) d inside = all_back places (λ i x low. all (suc i) x (omega arith)) k d (omega (arith, inside))

  pub all_alike : (xs ys : List (Option Place)) → map unsummed xs ≡ map unsummed ys → All (λ o. IfSome o P) ys → All (λ o. IfSome o P) xs
  all_alike xs ys same all = all_back xs (subst (All (λ o. IfSome o P)) (sym same) (all_bare ys all))

some_unsummed : (k : ℕ) (places : List (Option Place)) → is_some (get_or (map unsummed places) k None) ≡ is_some (get_or places k None)
some_unsummed k [] = refl
some_unsummed zero (None ∷ places) = refl
some_unsummed zero (Some place ∷ places) = refl
some_unsummed (suc k) (o ∷ places) = some_unsummed k places

module _ (table other : BlockTable) (alike : IsResummed table other) where
  pub resummed_extents : block_extents table.places.items ≡ block_extents other.places.items
  resummed_extents = sym (extents_unsummed table.places.items) ∙ ap block_extents alike.places ∙ extents_unsummed other.places.items

  resummed_blocks : (file : List ℕ) → blocks_in file table.places.items ≡ blocks_in file other.places.items
  resummed_blocks file = sym (blocks_unsummed file table.places.items) ∙ ap (blocks_in file) alike.places ∙ blocks_unsummed file other.places.items

  pub resummed_document : (file : List ℕ) → document_in file table ≡ document_in file other
  resummed_document file = let same = resummed_blocks file in λ i. record { blocks = table_map 1 1 (same i); map_block = alike.map_block i }

  pub resummed_images : (file : List ℕ) → AreImaged file other.places.items → AreImaged file table.places.items
  resummed_images file images = all_alike (IsImaged file) (λ place is. record { image = is.image; kind = is.kind }) (λ place is. record { image = is.image; kind = is.kind }) table.places.items other.places.items alike.places images

  pub resummed_table : IsBlockTable other → IsBlockTable table
  resummed_table is =
      let size : length table.places.items ≡ length other.places.items = sym (length_unsummed table.places.items) ∙ ap length alike.places ∙ length_unsummed other.places.items in
      let m = other.map_block in
      let some : (k : ℕ) → is_some (get_or table.places.items k None) ≡ is_some (get_or other.places.items k None) = λ k.
      sym (some_unsummed k table.places.items) ∙ ap (λ ps. is_some (get_or ps k None)) alike.places ∙ some_unsummed k other.places.items in
      let Q : ℕ → Type 0 = λ n. (n ≡ 0) ⊎ ((1 ≤ n) × (is_some (get_or table.places.items (n - 1) None) ≡ true)) in
      record {
        size = (let few = is.size in omega (arith, size, few));
        places = all_alike IsPlace (λ place one. record { short = one.short; typed = one.typed }) (λ place one. record { short = one.short; typed = one.typed }) table.places.items other.places.items alike.places is.places;
        map_block = subst Q (sym alike.map_block) (elim is.map_block as (λ _. Q m) [ inl none ↦ inl none | inr there ↦ inr (there.0, some (m - 1) ∙ there.1) ]);
      }

-- The table of the saved document.

-- where there is none, commits write sums where the file has them
pub unturned : (slots : Slots) → IsTurning slots slots.saved_sums → is_some slots.saved_sums ≡ false → has_sums slots.next_version ≡ has_sums slots.version
unturned slots turning none = elim slots.saved_sums as (λ o. IsTurning slots o → is_some o ≡ false → has_sums slots.next_version ≡ has_sums slots.version) [
  | None ↦ λ same no. same
  | Some table ↦ λ alike no. absurd (cc no)
] turning none

-- it has its sums as long as the bytes of the saved document stay
pub turning_same : (summed : Bool) (file c : List ℕ) (slots : Slots) → IsTurning slots slots.saved_sums → AreStored slots.version file slots.committed → KeepsAll (pair_extents slots.committed) file c
    → IfSome slots.saved_sums (λ t. AreSummed summed file t.places.items) → IfSome slots.saved_sums (λ t. AreSummed summed c t.places.items)
turning_same summed file c slots turning stored keeps = elim slots.saved_sums as (λ o. IsTurning slots o → IfSome o (λ t. AreSummed summed file t.places.items) → IfSome o (λ t. AreSummed summed c t.places.items)) [
  | None ↦ λ same none. tt
  | Some table ↦ λ alike sums.
      let saved = slots.committed.saved in
      let within = (stored_within slots.version file saved stored.saved).1 in
      let both = all_right (KeepsExtent file c) (stored_extents slots.committed.updated) (stored_extents saved) keeps in
      let blocks : KeepsAll (block_extents saved.table.value.places.items) file c = λ k x inside. both (suc k) x (omega (arith, inside)) in
      let same = resummed_extents table saved.table.value alike in
      sums_same summed file c table.places.items (subst (All (λ e. end_of e ≤ length file)) (sym same) within) (subst (λ es. KeepsAll es file c) (sym same) blocks) sums
] turning

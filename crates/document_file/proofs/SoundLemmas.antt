-- What is kept in a file: what the slots lead to, and the marked document.
use Rattle.std.proofs.Common.{◌≡◌, ◌≤◌, ℕ, Bool, IsTrue, List, ◌++◌, length, Option, None, Some, All, refl, sym, subst, ◌⊎◌, ◌-◌, true, set, is_some, ap, ◌∙◌, arith, inl, inr, length-set}
use Rattle.std.specs.Prelude.{IfSome}
use Rattle.std.specs.Option.{option_map}
use Rattle.std.proofs.lemmas.List.Elements.{All-nil, All-append}
use Rattle.file_format.specs.declared.file.Extent.{Extent}
use Rattle.document_file.specs.Ranges.{KeepsAll, end_of, IsPlaced}
use Rattle.document_file.specs.Slots.{pair_extents, prepared_extents, marked_extents, referenced_extents, block_extents, Outcome}
use Rattle.document_file.specs.Documents.{document_in, AreImaged, IsImaged, AreStored, IsPreparedStored}
use Rattle.document_file.specs.Disk.{MarkSameUnlessCorrupt}
use Rattle.document_file.specs.Sums.{AreSummed, IsSummed, has_sums}
use Rattle.document_file.specs.declared.table.BlockTable.{BlockTable}
use Rattle.document_file.specs.declared.slot.Slots.{Slots}
use Rattle.document_file.proofs.RangesLemmas.{all_left, all_right}
use Rattle.document_file.proofs.TableLemmas.{blocks_same, images_same, sums_same, places_drift, Lies, each_at, each_set, extents_of, places_of, full_set}
use Rattle.vm_store.specs.Facts.{StoreFacts, IsUnchanged}
use Rattle.geos_model.specs.Document.{IsTyped}
use Rattle.geos_model.proofs.Tables.{slot_at}
use Rattle.geos_model.specs.declared.block.Attributes.{Attributes}
use Rattle.document_file.specs.Sound.{IsPlace, ArePlaces, IsBlockTable, IsSound, IsSoundFile}
use Rattle.file_format.specs.Reading.{OnlyReadsStore}
use Rattle.document_file.specs.declared.listing.Bounds.{Bounds}
use Rattle.file_space.specs.Space.{Space}
use Rattle.document_file.specs.declared.table.Place.{Place}

-- The parts of it.
module _ (P : Extent → Type 0) (slots : Slots) where
  pub kept_pair : All P (referenced_extents slots) → All P (pair_extents slots.committed)
  kept_pair all = all_left P (pair_extents slots.committed) (prepared_extents slots.spare ++ marked_extents slots.marked) all

  kept_rest : All P (referenced_extents slots) → All P (prepared_extents slots.spare ++ marked_extents slots.marked)
  kept_rest all = all_right P (pair_extents slots.committed) (prepared_extents slots.spare ++ marked_extents slots.marked) all

  pub kept_prepared : All P (referenced_extents slots) → All P (prepared_extents slots.spare)
  kept_prepared all = all_left P (prepared_extents slots.spare) (marked_extents slots.marked) (kept_rest all)

  pub kept_marked : All P (referenced_extents slots) → All P (marked_extents slots.marked)
  kept_marked all = all_right P (prepared_extents slots.spare) (marked_extents slots.marked) (kept_rest all)

  pub kept_all : All P (pair_extents slots.committed) → All P (prepared_extents slots.spare) → All P (marked_extents slots.marked) → All P (referenced_extents slots)
  kept_all pair held marked = All-append P (pair_extents slots.committed) (prepared_extents slots.spare ++ marked_extents slots.marked) pair (All-append P (prepared_extents slots.spare) (marked_extents slots.marked) held marked)

  -- and with the live document
  pub live_and_marked : (live : List Extent) → All P (live ++ referenced_extents slots) → All P (live ++ marked_extents slots.marked)
  live_and_marked live all = All-append P live (marked_extents slots.marked) (all_left P live (referenced_extents slots) all) (kept_marked (all_right P live (referenced_extents slots) all))

-- Where none is marked.

pub nothing_kept : (P : Extent → Type 0) (marked : Option BlockTable) → marked ≡ None → All P (marked_extents marked)
nothing_kept P marked none = subst (λ m. All P (marked_extents m)) (sym none) (All-nil P)

pub nothing_marked : (P : BlockTable → Type 0) (marked : Option BlockTable) → marked ≡ None → IfSome marked P
nothing_marked P marked none = subst (λ m. IfSome m P) (sym none) tt

-- In another file that has its bytes.

pub marked_imaged : (file c : List ℕ) (marked : Option BlockTable) → All (λ e. end_of e ≤ length file) (marked_extents marked) → KeepsAll (marked_extents marked) file c → IfSome marked (λ t. AreImaged file t.places.items)
    → IfSome marked (λ t. AreImaged c t.places.items)
marked_imaged file c None within keeps was = tt
marked_imaged file c (Some t) within keeps was = images_same file c t.places.items within keeps was

pub marked_summed : (summed : Bool) (file c : List ℕ) (marked : Option BlockTable) → All (λ e. end_of e ≤ length file) (marked_extents marked) → KeepsAll (marked_extents marked) file c → IfSome marked (λ t. AreSummed summed file t.places.items)
    → IfSome marked (λ t. AreSummed summed c t.places.items)
marked_summed summed file c None within keeps was = tt
marked_summed summed file c (Some t) within keeps was = sums_same summed file c t.places.items within keeps was

pub marked_drifts : (honest : Bool) (file c : List ℕ) (marked : Option BlockTable) → (IsTrue honest → All (λ e. end_of e ≤ length file) (marked_extents marked)) → (IsTrue honest → KeepsAll (marked_extents marked) file c)
    → MarkSameUnlessCorrupt honest (option_map (document_in file) marked) (option_map (document_in c) marked)
marked_drifts honest file c None within keeps = refl
marked_drifts honest file c (Some t) within keeps = (document_in c t, refl, places_drift honest file c t.places.items t.map_block (λ so. blocks_same file c t.places.items (within so) (keeps so)))

-- A file whose live table, or whose store, is another one.

-- what is known of the extent of a place
abbrev pub EndsIn : List ℕ → Extent → Type 0
EndsIn file e = end_of e ≤ length file

-- calls that only read
pub sound_rested : (a b : StoreFacts) (live : BlockTable) (slots : Slots) → IsSound a live slots → b.honest ≡ a.honest → (IsTrue a.honest → IsUnchanged a b) → IsSound b live slots
sound_rested a b live slots sound honest unchanged = record {
  formed = sound.formed;
  whole = λ so.
      let before : IsTrue a.honest = subst IsTrue honest so in
      let was = sound.whole before in
      let is : a.content ≡ b.content = sym (unchanged before).content in
      record {
        images = subst (λ f. AreImaged f live.places.items) is was.images;
        sums = subst (λ f. AreSummed (has_sums slots.next_version) f live.places.items) is was.sums;
        within = subst (λ f. All (EndsIn f) (block_extents live.places.items)) is was.within;
        committed = subst (λ f. AreStored slots.version f slots.committed) is was.committed;
        prepared = subst (λ f. IsPreparedStored slots.next_version f slots.spare) is was.prepared;
        marked = subst (λ f. IfSome slots.marked (λ t. AreImaged f t.places.items)) is was.marked;
        marked_sums = subst (λ f. IfSome slots.marked (λ t. AreSummed (has_sums slots.next_version) f t.places.items)) is was.marked_sums;
        marked_within = subst (λ f. All (EndsIn f) (marked_extents slots.marked)) is was.marked_within;
        saved_sums = subst (λ f. IfSome slots.saved_sums (λ t. AreSummed (has_sums slots.next_version) f t.places.items)) is was.saved_sums;
        leaves = λ c left. subst (λ f. Outcome slots f c) is (was.leaves c ((unchanged before).crash c left));
      };
}

pub file_rested : (a b : StoreFacts) (live : BlockTable) (slots : Slots) (space : Option Space) (bounds : Bounds) → IsSoundFile a live slots space bounds → OnlyReadsStore a b → IsSoundFile b live slots space bounds
file_rested a b live slots space bounds was looks = record { sound = sound_rested a b live slots was.sound looks.honest looks.unchanged; bounded = was.bounded; known = was.known }

-- images with their sums, where there are sums
abbrev pub AreRight : ℕ → List ℕ → List (Option Place) → Type 0
AreRight version file places = AreImaged file places × AreSummed (has_sums version) file places

-- another live table
pub sound_live : (store : StoreFacts) (live new : BlockTable) (slots : Slots) → IsSound store live slots → IsBlockTable new → All IsPlaced (block_extents new.places.items) → (IsTrue store.honest → AreRight slots.next_version store.content new.places.items)
    → (IsTrue store.honest → All (EndsIn store.content) (block_extents new.places.items)) → IsSound store new slots
sound_live store live new slots sound table placed images within = record {
  formed = record { table = table; placed = placed; committed = sound.formed.committed; prepared = sound.formed.prepared; marked = sound.formed.marked; kept = sound.formed.kept; version = sound.formed.version; next_version = sound.formed.next_version; turning = sound.formed.turning; numbered = sound.formed.numbered; in_range = sound.formed.in_range };
  whole = λ so. let was = sound.whole so in record { images = (images so).0; sums = (images so).1; within = within so; committed = was.committed; prepared = was.prepared; marked = was.marked; marked_sums = was.marked_sums; marked_within = was.marked_within; saved_sums = was.saved_sums; leaves = was.leaves };
}

-- two properties of what may be there
if_both : {A : Type 0} (P Q : A → Type 0) (o : Option A) → IfSome o (λ a. P a × Q a) → IfSome o P × IfSome o Q
if_both P Q None both = (tt, tt)
if_both P Q (Some a) both = both

both_if : {A : Type 0} (P Q : A → Type 0) (o : Option A) → IfSome o P → IfSome o Q → IfSome o (λ a. P a × Q a)
both_if P Q None first second = tt
both_if P Q (Some a) first second = (first, second)

-- another mark, or none
pub sound_marked : (store : StoreFacts) (live : BlockTable) (slots : Slots) (marked : Option BlockTable) → IsSound store live slots → IfSome marked IsBlockTable → All IsPlaced (marked_extents marked)
    → (IsTrue store.honest → IfSome marked (λ t. AreRight slots.next_version store.content t.places.items)) → (IsTrue store.honest → All (EndsIn store.content) (marked_extents marked)) → IsSound store live (record slots { marked = marked })
sound_marked store live slots marked sound tables placed images within =
    let formed = sound.formed in
    record {
      formed = record {
        table = formed.table;
        placed = formed.placed;
        committed = formed.committed;
        prepared = formed.prepared;
        marked = tables;
        kept = kept_all IsPlaced (record slots { marked = marked }) (kept_pair IsPlaced slots formed.kept) (kept_prepared IsPlaced slots formed.kept) placed;
        version = formed.version;
        next_version = formed.next_version;
        turning = formed.turning;
        numbered = formed.numbered;
        in_range = formed.in_range;
      };
      whole = λ so.
          let was = sound.whole so in
          record {
            images = was.images;
            sums = was.sums;
            within = was.within;
            committed = was.committed;
            prepared = was.prepared;
            marked = (if_both (λ t. AreImaged store.content t.places.items) (λ t. AreSummed (has_sums slots.next_version) store.content t.places.items) marked (images so)).0;
            marked_sums = (if_both (λ t. AreImaged store.content t.places.items) (λ t. AreSummed (has_sums slots.next_version) store.content t.places.items) marked (images so)).1;
            marked_within = within so;
            saved_sums = was.saved_sums;
            leaves = λ c left. let is = was.leaves c left in record { gate = is.gate; counts = is.counts; beside = is.beside };
          };
    }

pub sound_unmarked : (store : StoreFacts) (live : BlockTable) (slots : Slots) → IsSound store live slots → IsSound store live (record slots { marked = None })
sound_unmarked store live slots sound = sound_marked store live slots None sound tt (All-nil IsPlaced) (λ so. tt) (λ so. All-nil (EndsIn store.content))

-- the marked document as the live one
pub sound_back : (store : StoreFacts) (live back : BlockTable) (slots : Slots) → slots.marked ≡ Some back → IsSound store live slots → IsSound store back (record slots { marked = None })
sound_back store live back slots is sound =
    let placed = kept_marked IsPlaced slots sound.formed.kept in
    sound_unmarked store back slots (sound_live store live back slots sound (subst (λ m. IfSome m IsBlockTable) is sound.formed.marked) (subst (λ m. All IsPlaced (marked_extents m)) is placed)
    (λ so. subst (λ m. IfSome m (λ t. AreRight slots.next_version store.content t.places.items)) is (both_if (λ t. AreImaged store.content t.places.items) (λ t. AreSummed (has_sums slots.next_version) store.content t.places.items) slots.marked (sound.whole so).marked (sound.whole so).marked_sums)) (λ so. subst (λ m. All (EndsIn store.content) (marked_extents m)) is (sound.whole so).marked_within))

-- one place has another block
pub table_set : (live new : BlockTable) (i : ℕ) (place : Place) → IsBlockTable live → IsPlace place → new.map_block ≡ live.map_block → new.places.items ≡ set live.places.items i (Some place) → IsBlockTable new
table_set live new i place was one map_block is = record {
  size = (let long = ap length is ∙ length-set live.places.items i (Some place) in let few = was.size in omega (arith, long, few));
  places = subst ArePlaces (sym is) (each_set IsPlace live.places.items i (Some place) one was.places);
  map_block = elim was.map_block as (λ _. (new.map_block ≡ 0) ⊎ ((1 ≤ new.map_block) × (is_some (slot_at new.places.items (new.map_block - 1)) ≡ true))) [
    | inl none ↦ inl (map_block ∙ none)
    | inr some ↦ inr (omega (arith, map_block, some.0), ap (λ m. is_some (slot_at new.places.items (m - 1))) map_block ∙ ap (λ ps. is_some (slot_at ps (live.map_block - 1))) is ∙ full_set live.places.items i (live.map_block - 1) place some.1)
  ];
}

-- a block has other attributes, which its kind can have
pub sound_attributes : (store : StoreFacts) (live new : BlockTable) (slots : Slots) (h : ℕ) (attributes : Attributes) (place : Place) → IsSound store live slots → slot_at live.places.items (h - 1) ≡ Some place → IsTyped place.is_heap attributes → new.map_block ≡ live.map_block
    → new.places.items ≡ set live.places.items (h - 1) (Some (record place { attributes = attributes })) → IsSound store new slots
sound_attributes store live new slots h attributes place sound at typed map_block is =
    let i = h - 1 in
    let old = live.places.items in
    let one : Place = record place { attributes = attributes } in
    let kept = λ (Q : Extent → Type 0) (all : All Q (block_extents old)).
    subst (λ ps. All Q (block_extents ps)) (sym is) (extents_of Q (set old i (Some one)) (each_set (λ p. Q p.extent) old i (Some one) (each_at (λ p. Q p.extent) old i place at (places_of Q old all)) (places_of Q old all))) in
    let can : IsPlace one = record { short = (each_at IsPlace old i place at sound.formed.table.places).short; typed = typed } in
    sound_live store live new slots sound (table_set live new i one sound.formed.table can map_block is) (kept IsPlaced sound.formed.placed)
    (λ so.
    let images = (sound.whole so).images in
    let sums = (sound.whole so).sums in
    let was = each_at (IsImaged store.content) old i place at images in (
      subst (AreImaged store.content) (sym is) (each_set (IsImaged store.content) old i (Some one) (record { image = was.image; kind = was.kind }) images),
      subst (AreSummed (has_sums slots.next_version) store.content) (sym is)
          (each_set (IsSummed (has_sums slots.next_version) store.content) old i (Some one) (each_at (IsSummed (has_sums slots.next_version) store.content) old i place at sums) sums),
    ))
    (λ so. kept (EndsIn store.content) (sound.whole so).within)

-- another map block
pub sound_map : (store : StoreFacts) (live new : BlockTable) (slots : Slots) → IsSound store live slots → new.places.items ≡ live.places.items → (new.map_block ≡ 0) ⊎ (Lies live.places.items new.map_block) → IsSound store new slots
sound_map store live new slots sound is map_block =
    let P : BlockTable → Type 0 = λ t. t.places.items ≡ live.places.items in
    sound_live store live new slots sound
    (record {
      size = (let long = ap length is in let few = sound.formed.table.size in omega (arith, long, few));
      places = subst ArePlaces (sym is) sound.formed.table.places;
      map_block = elim map_block as (λ _. (new.map_block ≡ 0) ⊎ ((1 ≤ new.map_block) × (is_some (slot_at new.places.items (new.map_block - 1)) ≡ true))) [
        | inl none ↦ inl none
        | inr one ↦ inr (one.low, ap (λ ps. is_some (slot_at ps (new.map_block - 1))) is ∙ ap is_some one.at)
      ];
    })
    (subst (λ ps. All IsPlaced (block_extents ps)) (sym is) sound.formed.placed)
    (λ so. (subst (AreImaged store.content) (sym is) (sound.whole so).images, subst (AreSummed (has_sums slots.next_version) store.content) (sym is) (sound.whole so).sums))
    (λ so. subst (λ ps. All (EndsIn store.content) (block_extents ps)) (sym is) (sound.whole so).within)

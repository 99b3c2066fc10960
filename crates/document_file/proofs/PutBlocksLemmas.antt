-- A file into which blocks are put, and from which others are taken.
use Rattle.std.proofs.Common.{[], ◌∷◌, refl, Bool, false, count_by, ◌≡◌, ◌≢◌, ◌⊎◌, ℕ, ◌+◌, ◌-◌, ◌*◌, ◌<◌, ◌≤◌, true, IsTrue, List, ◌++◌, All, take, drop, length, get_or, Option, None, Some, is_some, sym, ap, subst, ◌∙◌, arith, inl, inr, length-append}
use Rattle.std.specs.Prelude.{IfSome}
use Rattle.std.proofs.lemmas.List.Elements.{All-append}
use Rattle.vm_store.specs.Facts.{StoreFacts}
use Rattle.geos_model.specs.Document.{Document, most_blocks, is_heap_body}
use Rattle.geos_model.specs.Image.{image, body_of, body_read}
use Rattle.file_format.specs.File.{bytes_in, longest_image}
use Rattle.file_format.specs.declared.file.Extent.{Extent}
use Rattle.geos_model.specs.declared.handle.VmHandle.{VmHandle}
use Rattle.file_format.proofs.Files.{body_of-image}
use Rattle.geos_model.proofs.Images.{body_read-body}
use Rattle.geos_model.proofs.Tables.{slot_at}
use Rattle.document_file.specs.Ranges.{IsPlaced, KeepsExtent, KeepsAll}
use Rattle.document_file.specs.Slots.{block_extents, stored_extents, pair_extents, prepared_extents, marked_extents, referenced_extents, CrashLeavesSlots}
use Rattle.document_file.specs.Documents.{IsImaged, AreImaged}
use Rattle.document_file.specs.Calls.{IsPut, put_all, remove_all}
use Rattle.document_file.specs.Disk.{SameUnlessCorrupt, KeepsCommitted}
use Rattle.document_file.specs.Sound.{IsPlace, IsBlockTable, AreTables, IsPreparedFormed, IsFormed, IsSound, disk_of}
use Rattle.document_file.specs.Writing.{AreFor, AreWritten, SparesExtents, placed_at, with_places, without_places}
use Rattle.document_file.specs.Sums.{AreSummed, IsSummed, has_sums, sum_for}
use Rattle.document_file.specs.declared.member.Member.{Member}
use Rattle.document_file.specs.declared.table.Place.{Place}
use Rattle.document_file.specs.declared.table.BlockTable.{BlockTable}
use Rattle.document_file.specs.declared.table.DocumentRef.{DocumentRef}
use Rattle.document_file.specs.declared.table.Pair.{Pair}
use Rattle.document_file.specs.declared.slot.SpareSlot.{SpareSlot}
use Rattle.document_file.specs.declared.slot.SpareSlot.TheVariants.{Shut, Stale, Prepared}
use Rattle.document_file.specs.declared.slot.Slots.{Slots}
use Rattle.document_file.proofs.WritingLemmas.{call_passes, call_sound}
use Rattle.document_file.proofs.TableChangeLemmas.{drifts_put_all, drifts_remove_all, filled_drifts, length-with_places, length-without_places, each_with, each_without, full_with, full_without, shown_without_all}
use Rattle.document_file.proofs.ImageLemmas.{image_length}
use Rattle.document_file.proofs.PlacingLemmas.{images_short}
use Rattle.file_space.specs.Placing.{is_long, AreFewLong}
use Rattle.file_space.proofs.PlacingLemmas.{as_one, count_cons}
use Rattle.document_file.proofs.RangesLemmas.{all_left, all_right, keeps_within, bytes_held}
use Rattle.document_file.proofs.SoundLemmas.{EndsIn}
use Rattle.document_file.proofs.PassingLemmas.{SameUnlessCorrupt-trans}
use Rattle.document_file.proofs.TableLemmas.{EachPlace, shown, places_drift, blocks_same, images_same, sums_same, extents_of, places_of, length-block_extents, items_kept}

-- There are not too many extents: those of the blocks of six documents, and four directories.

pub stored_few : (s : DocumentRef) → IsBlockTable s.table.value → length (stored_extents s) ≤ most_blocks + 1
stored_few s table = let few = length-block_extents s.table.value.places.items in let size = table.size in omega (arith, few, size)

pub pair_few : (pair : Pair) → AreTables pair → length (pair_extents pair) ≤ 2 * most_blocks + 2
pair_few pair tables =
    let first = stored_few pair.updated tables.updated in
    let second = stored_few pair.saved tables.saved in
    let both = length-append (stored_extents pair.updated) (stored_extents pair.saved) in
    omega (arith, first, second, both)

prepared_few : (sequence : ℕ) (spare : SpareSlot) → IsPreparedFormed sequence spare → length (prepared_extents spare) ≤ 2 * most_blocks + 2
prepared_few sequence Shut formed = omega arith
prepared_few sequence Stale formed = omega arith
prepared_few sequence (Prepared pair) formed = pair_few pair formed.0

pub marked_few : (marked : Option BlockTable) → IfSome marked IsBlockTable → length (marked_extents marked) ≤ most_blocks
marked_few None formed = omega arith
marked_few (Some table) formed = let few = length-block_extents table.places.items in let size = formed.size in omega (arith, few, size)

pub few_extents : (live : BlockTable) (slots : Slots) → IsFormed live slots → length (block_extents live.places.items ++ referenced_extents slots) ≤ 6 * most_blocks + 4
few_extents live slots formed =
    let mine = length-block_extents live.places.items in
    let size = formed.table.size in
    let pair = pair_few slots.committed formed.committed in
    let prepared = prepared_few slots.sequence slots.spare formed.prepared in
    let marked = marked_few slots.marked formed.marked in
    let rest = length-append (prepared_extents slots.spare) (marked_extents slots.marked) in
    let kept = length-append (pair_extents slots.committed) (prepared_extents slots.spare ++ marked_extents slots.marked) in
    let all = length-append (block_extents live.places.items) (referenced_extents slots) in
    omega (arith, mine, size, pair, prepared, marked, rest, kept, all)

-- And few of them are long: the four directories.

joined_long : (xs ys : List Extent) → count_by is_long (xs ++ ys) ≡ count_by is_long xs + count_by is_long ys
joined_long [] ys =
    let same : count_by is_long ([] ++ ys) ≡ count_by is_long ys = refl in
    let none : count_by is_long [] ≡ 0 = refl in
    omega (arith, same, none)
joined_long (e ∷ xs) ys =
    let rest = joined_long xs ys in
    let all = count_cons is_long e (xs ++ ys) in
    let first = count_cons is_long e xs in
    omega (arith, rest, all, first)

short_place : (o : Option Place) → IfSome o IsPlace → IfSome o (λ p. p.extent.length ≤ longest_image)
short_place None is = tt
short_place (Some place) is = is.short

one_at_most : (b : Bool) → as_one b ≤ 1
one_at_most true = omega arith
one_at_most false = omega arith

pub blocks_short : (table : BlockTable) → IsBlockTable table → count_by is_long (block_extents table.places.items) ≡ 0
blocks_short table is =
    let short : EachPlace (λ p. p.extent.length ≤ longest_image) table.places.items = λ k d inside. short_place (get_or table.places.items k d) (is.places k d inside) in
    images_short (block_extents table.places.items) (extents_of (λ e. e.length ≤ longest_image) table.places.items short)

stored_long : (s : DocumentRef) → IsBlockTable s.table.value → count_by is_long (stored_extents s) ≤ 1
stored_long s table =
    let blocks = blocks_short s.table.value table in
    let whole = count_cons is_long s.directory (block_extents s.table.value.places.items) in
    let one = one_at_most (is_long s.directory) in
    omega (arith, blocks, whole, one)

pair_long : (pair : Pair) → AreTables pair → count_by is_long (pair_extents pair) ≤ 2
pair_long pair tables =
    let first = stored_long pair.updated tables.updated in
    let second = stored_long pair.saved tables.saved in
    let both = joined_long (stored_extents pair.updated) (stored_extents pair.saved) in
    omega (arith, first, second, both)

prepared_long : (sequence : ℕ) (spare : SpareSlot) → IsPreparedFormed sequence spare → count_by is_long (prepared_extents spare) ≤ 2
prepared_long sequence Shut formed = omega arith
prepared_long sequence Stale formed = omega arith
prepared_long sequence (Prepared pair) formed = pair_long pair formed.0

marked_long : (marked : Option BlockTable) → IfSome marked IsBlockTable → count_by is_long (marked_extents marked) ≡ 0
marked_long None formed = refl
marked_long (Some table) formed = blocks_short table formed

four_long : (live : BlockTable) (slots : Slots) → IsFormed live slots → count_by is_long (block_extents live.places.items ++ referenced_extents slots) ≤ 4
four_long live slots formed =
    let mine = blocks_short live formed.table in
    let pair = pair_long slots.committed formed.committed in
    let prepared = prepared_long slots.sequence slots.spare formed.prepared in
    let marked = marked_long slots.marked formed.marked in
    let rest = joined_long (prepared_extents slots.spare) (marked_extents slots.marked) in
    let kept = joined_long (pair_extents slots.committed) (prepared_extents slots.spare ++ marked_extents slots.marked) in
    let all = joined_long (block_extents live.places.items) (referenced_extents slots) in
    omega (arith, mine, pair, prepared, marked, rest, kept, all)

pub few_long : (live : BlockTable) (slots : Slots) → IsFormed live slots → AreFewLong (block_extents live.places.items ++ referenced_extents slots)
few_long live slots formed = (let few = four_long live slots formed in omega (arith, few))

-- with one directory more
pub five_long : (live : BlockTable) (slots : Slots) (e : Extent) → IsFormed live slots → AreFewLong (e ∷ (block_extents live.places.items ++ referenced_extents slots))
five_long live slots e formed =
    let few = four_long live slots formed in
    let whole = count_cons is_long e (block_extents live.places.items ++ referenced_extents slots) in
    let one = one_at_most (is_long e) in
    omega (arith, few, whole, one)

-- the place of a block that is put can be
written_place : (version : ℕ) (p : Member) (e : Extent) → e.length ≡ length (image p.block.image) → IsPlace (placed_at version p e)
written_place version p e size = record { short = (let low = (image_length p.block.image p.block.valid).1 in omega (arith, size, low)); typed = p.block.typed }

-- an image that stands in its extent
written_imaged : (version : ℕ) (file : List ℕ) (p : Member) (e : Extent) → bytes_in file e ≡ image p.block.image → IsImaged file (placed_at version p e)
written_imaged version file p e is =
    let read = ap body_read is ∙ body_read-body p.block.image p.block.valid in
    record { image = ap body_of is ∙ body_of-image p.block.image p.block.valid ∙ ap Some (sym read); kind = ap is_heap_body (sym read) }

-- with its sum
written_summed : (version : ℕ) (file : List ℕ) (p : Member) (e : Extent) → bytes_in file e ≡ image p.block.image → IsSummed (has_sums version) file (placed_at version p e)
written_summed version file p e is = ap (sum_for (has_sums version)) (sym is)

module _ {S : Type 0} (facts : S → StoreFacts) (a b : S) (live : BlockTable) (slots : Slots) (sound : IsSound (facts a) live slots) (honest : (facts b).honest ≡ (facts a).honest)
    (now : IsTrue (facts b).honest → (facts b).may_leave (facts b).content)
    (spared : IsTrue (facts a).honest → SparesExtents (block_extents live.places.items ++ marked_extents slots.marked) slots (facts a) (facts b)) where
  leaves : IsTrue (facts a).honest → CrashLeavesSlots (facts b) slots (facts a).content
  leaves so = (spared so).leaves (facts a).content (sound.whole so).leaves

  both : IsTrue (facts a).honest → KeepsAll (block_extents live.places.items ++ marked_extents slots.marked) (facts a).content (facts b).content
  both so = (spared so).keeps (All-append (EndsIn (facts a).content) (block_extents live.places.items) (marked_extents slots.marked) (sound.whole so).within (sound.whole so).marked_within)

  kept : IsTrue (facts a).honest → KeepsAll (block_extents live.places.items) (facts a).content (facts b).content
  kept so = all_left (KeepsExtent (facts a).content (facts b).content) (block_extents live.places.items) (marked_extents slots.marked) (both so)

  marked : IsTrue (facts a).honest → KeepsAll (marked_extents slots.marked) (facts a).content (facts b).content
  marked so = all_right (KeepsExtent (facts a).content (facts b).content) (block_extents live.places.items) (marked_extents slots.marked) (both so)

  images : IsTrue (facts a).honest → AreImaged (facts b).content live.places.items
  images so = images_same (facts a).content (facts b).content live.places.items (sound.whole so).within (kept so) (sound.whole so).images

  sums : IsTrue (facts a).honest → AreSummed (has_sums slots.next_version) (facts b).content live.places.items
  sums so = sums_same (has_sums slots.next_version) (facts a).content (facts b).content live.places.items (sound.whole so).within (kept so) (sound.whole so).sums

  within : IsTrue (facts a).honest → All (EndsIn (facts b).content) (block_extents live.places.items)
  within so = keeps_within (block_extents live.places.items) (facts a).content (facts b).content (kept so)

  pub spared_passes : (facts a).failures ≤ (facts b).failures → KeepsCommitted facts (disk_of facts a slots) (disk_of facts b slots)
  spared_passes failures = call_passes facts a b live slots sound honest now leaves marked failures (λ so. (spared so).crash (facts a).content (sound.whole so).leaves)

  pub spared_drifts : SameUnlessCorrupt (facts a).honest (shown (facts a).content live.places.items live.map_block) (shown (facts b).content live.places.items live.map_block)
  spared_drifts = places_drift (facts a).honest (facts a).content (facts b).content live.places.items live.map_block (λ so. blocks_same (facts a).content (facts b).content live.places.items (sound.whole so).within (kept so))

  -- where the table stays
  pub spared_sound : IsSound (facts b) live slots
  spared_sound = call_sound facts a b live slots sound honest now leaves marked live sound.formed (λ so. ((images so, sums so), within so))

  -- where the images were written, and the table is changed
  module _ (puts : List Member) (extents : List Extent) (removals : List VmHandle) (new : BlockTable) (are : All IsPut puts) (taken : List Extent) (found : AreFor taken puts (length puts) extents)
      (written : IsTrue (facts a).honest → AreWritten (length puts) puts extents (facts b).content) (same : new.map_block ≡ live.map_block)
      (room : All (λ p. p.handle.0 ≤ length live.places.items) puts)
      (is : new.places.items ≡ without_places removals (with_places slots.next_version puts extents live.places.items)) where
    bytes : (so : IsTrue (facts a).honest) (k : ℕ) (p : Member) (e : Extent) → k < length puts → bytes_in (facts b).content (get_or extents k e) ≡ image (get_or puts k p).block.image
    bytes so k p e low = bytes_held (facts b).content (image (get_or puts k p).block.image) (get_or extents k e) (sym (found.sizes k e p low)) (written so k e p low)

    pub put_drifts : SameUnlessCorrupt (facts a).honest (remove_all removals (put_all puts (shown (facts a).content live.places.items live.map_block))) (shown (facts b).content new.places.items new.map_block)
    put_drifts =
        let honestly = (facts a).honest in
        let file = (facts b).content in
        let places = live.places.items in
        let filled = with_places slots.next_version puts extents places in
        let P : Document → Type 0 = SameUnlessCorrupt honestly (remove_all removals (put_all puts (shown (facts a).content places live.map_block))) in
        let made : shown file new.places.items new.map_block ≡ remove_all removals (shown file filled live.map_block) =
        ap (λ m. shown file new.places.items m) same ∙ ap (λ ps. shown file ps live.map_block) is ∙ shown_without_all file removals filled live.map_block in
        subst P (sym made) (drifts_remove_all honestly removals _ _ (SameUnlessCorrupt-trans honestly _ _ _ (drifts_put_all honestly puts _ _ spared_drifts)
        (filled_drifts slots.next_version honestly file puts extents places live.map_block room are found.count (λ k p e low so. bytes so k p e low))))

    module _ (stays : All (λ h. h.0 ≢ live.map_block) removals) where
      each_new : (P : Place → Type 0) → ((k : ℕ) (p : Member) (e : Extent) → k < length puts → P (placed_at slots.next_version (get_or puts k p) (get_or extents k e))) → EachPlace P live.places.items → EachPlace P new.places.items
      each_new P one each = subst (EachPlace P) (sym is) (each_without P removals (with_places slots.next_version puts extents live.places.items) (each_with slots.next_version P puts extents live.places.items one each))

      new_table : IsBlockTable new
      new_table = record {
        size = (let long = ap length is ∙ length-without_places removals (with_places slots.next_version puts extents live.places.items) ∙ length-with_places slots.next_version puts extents live.places.items in let was = sound.formed.table.size in omega (arith, long, was));
        places = each_new IsPlace (λ k p e low. written_place slots.next_version (get_or puts k p) (get_or extents k e) (found.sizes k e p low)) sound.formed.table.places;
        map_block = elim sound.formed.table.map_block as (λ _. (new.map_block ≡ 0) ⊎ ((1 ≤ new.map_block) × (is_some (slot_at new.places.items (new.map_block - 1)) ≡ true))) [
          | inl none ↦ inl (same ∙ none)
          | inr one ↦
              let i = live.map_block - 1 in
              let back : i + 1 ≡ live.map_block = omega (arith, one.0) in
              inr (
                omega (arith, same, one.0),
                ap (λ m. is_some (slot_at new.places.items (m - 1))) same ∙ ap (λ ps. is_some (slot_at ps i)) is
                    ∙ full_without removals (with_places slots.next_version puts extents live.places.items) i (λ k d inside gone. stays k d inside (gone ∙ back)) (full_with slots.next_version puts extents live.places.items i one.1),
              )
        ];
      }

      pub put_sound : IsSound (facts b) new slots
      put_sound = call_sound facts a b live slots sound honest now leaves marked new
          (record {
            table = new_table;
            placed = extents_of IsPlaced new.places.items (each_new (λ p. IsPlaced p.extent) (λ k p e low. found.placed k e (omega (arith, found.count, low))) (places_of IsPlaced live.places.items sound.formed.placed));
            committed = sound.formed.committed;
            prepared = sound.formed.prepared;
            marked = sound.formed.marked;
            kept = sound.formed.kept;
            version = sound.formed.version;
            next_version = sound.formed.next_version;
            turning = sound.formed.turning;
            numbered = sound.formed.numbered;
            in_range = sound.formed.in_range;
          })
          (λ so. (
            (
              each_new (IsImaged (facts b).content) (λ k p e low. written_imaged slots.next_version (facts b).content (get_or puts k p) (get_or extents k e) (bytes so k p e low)) (images so),
              each_new (IsSummed (has_sums slots.next_version) (facts b).content) (λ k p e low. written_summed slots.next_version (facts b).content (get_or puts k p) (get_or extents k e) (bytes so k p e low)) (sums so),
            ),
            extents_of (EndsIn (facts b).content) new.places.items (each_new (λ p. EndsIn (facts b).content p.extent)
                (λ k p e low. let size = found.sizes k e p low in let ends = (written so k e p low).within in omega (arith, size, ends))
                (places_of (EndsIn (facts b).content) live.places.items (within so))),
          ))

-- a table in which blocks were put, and from which others were taken
pub changed_places : (version n : ℕ) (places now : List (Option Place)) (puts : List Member) (extents : List Extent) (removals : List VmHandle) → n ≡ length places
    → now ≡ without_places removals (with_places version puts extents places) → take n (now ++ drop (length now) places) ≡ without_places removals (with_places version puts extents places)
changed_places version n places now puts extents removals size is =
    items_kept n now places size (ap length is ∙ length-without_places removals (with_places version puts extents places) ∙ length-with_places version puts extents places) ∙ is

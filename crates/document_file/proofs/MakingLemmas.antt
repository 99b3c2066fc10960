-- What the making of a file leaves.
use Rattle.std.proofs.Common.{◌≡◌, ◌≢◌, ◌⊎◌, ℕ, ◌+◌, ◌-◌, ◌*◌, ◌<◌, ◌≤◌, true, Bool, IsTrue, List, [], ◌∷◌, ◌++◌, All, length, get_or, is_some, Option, None, Some, refl, sym, ap, ap₂, subst, ◌∙◌, arith, inl, inr}
use Rattle.std.specs.Prelude.{if◌then◌else◌, IfSome}
use Rattle.std.specs.FinMap.{from_entries}
use Rattle.std.proofs.lemmas.List.{append-nil, length-append}
use Rattle.std.proofs.lemmas.List.Elements.{All-nil, All-cons, All-append}
use Rattle.vm_store.specs.Facts.{StoreFacts, byte, Holds, WritesBytes, IsDurable}
use Rattle.vm_store.specs.Laws.{Holds-WritesBytes}
use Rattle.geos_model.specs.Document.{empty_document, FitAttributes}
use Rattle.geos_model.proofs.Table.{table_entries, table_map}
use Rattle.file_format.specs.File.{slot_mark, directory_text, open_slot}
use Rattle.file_format.specs.declared.file.Extent.{Extent}
use Rattle.document_file.specs.Ranges.{IsPlaced, start_of, end_of, KeepsAll, IsOut, IsClear}
use Rattle.document_file.specs.Slots.{behind_gate, slot_value, sums_of, unsummed_slot, block_extents, stored_extents, pair_extents, prepared_extents, IsBeside, LeadsTo, Outcome}
use Rattle.document_file.specs.Documents.{blocks_in, document_in, attempted_in, entries_of, directory_of_table, IsImaged, AreImaged, IsStored, AreStored, IsPreparedStored}
use Rattle.document_file.specs.Sound.{IsPlace, ArePlaces, IsBlockTable, IsNextVersion, IsTurning, IsPreparedFormed, IsFormed, IsWhole, IsSound}
use Rattle.document_file.specs.Making.{first_directory, no_blocks, first_slot, first_sum, first_unsummed, IsLaid, IsLiveStored, IsNewSlots, IsFounding, IsOne, first_open}
use Rattle.document_file.specs.Sums.{AreSummed, IsSummed, has_sums, sum_for, version_for}
use Rattle.file_format.specs.Slots.{IsVersion}
use Rattle.document_file.specs.declared.table.Pair.{Pair}
use Rattle.document_file.proofs.SumsLemmas.{behind_few, for_new, for_sums, for_version}
use Rattle.document_file.specs.declared.table.Place.{Place}
use Rattle.document_file.specs.declared.table.BlockTable.{BlockTable}
use Rattle.document_file.specs.declared.table.DocumentRef.{DocumentRef}
use Rattle.document_file.specs.declared.slot.SpareSlot.{SpareSlot}
use Rattle.document_file.specs.declared.slot.Slots.{Slots}
use Rattle.document_file.proofs.RangesLemmas.{keeps_itself, holds_part}
use Rattle.document_file.proofs.SoundLemmas.{kept_all, nothing_kept, nothing_marked, kept_pair}
use Rattle.document_file.proofs.TableLemmas.{images_same, sums_same}
use Rattle.document_file.proofs.TableDirectoryLemmas.{directory_written, for_written}
use Rattle.file_format.proofs.FileStands.{open_slot-shut}
use Rattle.document_file.proofs.StandsLemmas.{fits_pair, lead_open}

-- Bytes that are put.

put_byte : (at i : ℕ) (bytes a b : List ℕ) → (i < at) ⊎ (at + length bytes ≤ i) → WritesBytes at bytes a b → byte b i ≡ byte a i
put_byte at i bytes a b out puts = elim out as (λ _. byte b i ≡ byte a i) [ inl before ↦ puts.below i before | inr behind ↦ puts.above i behind ]

put_holds : (at from : ℕ) (bytes xs a b : List ℕ) → IsOut at (length bytes) from (from + length xs) → WritesBytes at bytes a b → Holds a from xs → Holds b from xs
put_holds at from bytes xs a b out puts was = record {
  within = omega (arith, puts.size, was.within);
  each = λ i inside.
      put_byte at (from + i) bytes a b (elim out as (λ _. (from + i < at) ⊎ (at + length bytes ≤ from + i)) [ inl before ↦ inl (omega arith) | inr behind ↦ inr (omega arith) ]) puts
      ∙ was.each i inside;
}

first_long : (version : ℕ) (pair : Pair) → length (first_slot version pair) ≡ 5 + length (behind_gate version 1 pair)
first_long version pair = omega (arith, length-append slot_mark (0 ∷ behind_gate version 1 pair))

-- The directory is put, and then the slots.
pub slots_laid : (version : ℕ) (pair : Pair) (text a b c d : List ℕ) → 2 ≤ pair.updated.directory.page → WritesBytes (start_of pair.updated.directory) text a b → WritesBytes 0 (first_slot version pair) b c → WritesBytes 512 slot_mark c d → IsLaid 0 version pair text a d
slots_laid version pair text a b c d behind directory_put first second =
    let directory : Extent = pair.updated.directory in
    let long = first_long version pair in
    let few = behind_few version 1 pair in
    let there = Holds-WritesBytes 0 (first_slot version pair) b c first in
    let text_there = Holds-WritesBytes (start_of directory) text a b directory_put in
    let gate : List ℕ = behind_gate version 1 pair in
    let P : List ℕ → Type 0 = λ xs. Holds c 0 (slot_mark ++ 0 ∷ xs) in
    record {
      gate_is = second.below 4 (omega arith) ∙ first.each 4 (omega (arith, long));
      marked = put_holds 512 0 slot_mark slot_mark c d (inl (omega arith)) second (holds_part c 0 [] slot_mark (0 ∷ gate) there);
      rest = put_holds 512 5 slot_mark gate c d (inl (omega (arith, few))) second (holds_part c 0 (slot_mark ++ 0 ∷ []) gate [] (subst P (sym (append-nil gate)) there));
      second = Holds-WritesBytes 512 slot_mark c d second;
      beside = second.above 516 (omega arith) ∙ first.above 516 (omega (arith, long, few)) ∙ directory_put.below 516 (omega (arith, behind));
      there = put_holds 512 (start_of directory) slot_mark text c d (inr (omega (arith, behind))) second (put_holds 0 (start_of directory) (first_slot version pair) text b c (inr (omega (arith, behind, long, few))) first text_there);
      others = λ i high apart out. put_byte 512 i slot_mark c d apart second ∙ first.above i (omega (arith, long, high)) ∙ put_byte (start_of directory) i text a b out directory_put;
      size = omega (arith, behind, long, few, directory_put.size, first.size, second.size);
    }

-- the gate is opened
pub laid_open : (version : ℕ) (pair : Pair) (text a b c : List ℕ) → 2 ≤ pair.updated.directory.page → IsLaid 0 version pair text a b → WritesBytes 4 (1 ∷ []) b c → IsLaid 1 version pair text a c
laid_open version pair text a b c behind laid opened =
    let one : length {A = ℕ} (1 ∷ []) ≡ 1 = refl in
    record {
      gate_is = opened.each 0 (omega arith);
      marked = put_holds 4 0 (1 ∷ []) slot_mark b c (inl (omega arith)) opened laid.marked;
      rest = put_holds 4 5 (1 ∷ []) (behind_gate version 1 pair) b c (inr (omega (arith, one))) opened laid.rest;
      second = put_holds 4 512 (1 ∷ []) slot_mark b c (inr (omega (arith, one))) opened laid.second;
      beside = opened.above 516 (omega (arith, one)) ∙ laid.beside;
      there = put_holds 4 (start_of pair.updated.directory) (1 ∷ []) text b c (inr (omega (arith, behind, one))) opened laid.there;
      others = λ i high apart out. opened.above i (omega (arith, high, one)) ∙ laid.others i high apart out;
      size = omega (arith, opened.size, laid.size, behind, one);
    }

-- Copies of a table.

copy_table : (directory : Extent) (sum : Option ℕ) (live : BlockTable) (s : DocumentRef) → IsLiveStored directory sum live s → IsBlockTable live → IsBlockTable s.table.value
copy_table directory sum live s copy is =
    let m = live.map_block in
    let P : List (Option Place) → Type 0 = λ ps. (m ≡ 0) ⊎ ((1 ≤ m) × (is_some (get_or ps (m - 1) None) ≡ true)) in
    let Q : ℕ → Type 0 = λ n. (n ≡ 0) ⊎ ((1 ≤ n) × (is_some (get_or s.table.value.places.items (n - 1) None) ≡ true)) in
    record {
      size = (let long = ap length copy.places in let few = is.size in omega (arith, long, few));
      places = subst ArePlaces (sym copy.places) is.places;
      map_block = subst Q (sym copy.map_block) (subst P (sym copy.places) is.map_block);
    }

copy_extents : (directory : Extent) (sum : Option ℕ) (live : BlockTable) (s : DocumentRef) → IsLiveStored directory sum live s → stored_extents s ≡ directory ∷ block_extents live.places.items
copy_extents directory sum live s copy = λ i. copy.directory_is i ∷ block_extents (copy.places i)

copy_listed : (version : ℕ) (directory : Extent) (sum : Option ℕ) (live : BlockTable) (s : DocumentRef) → IsLiveStored directory sum live s → directory_of_table version s.table.value ≡ directory_of_table version live
copy_listed version directory sum live s copy = λ i. record { version = version; map_block = copy.map_block i; entries = entries_of 1 (copy.places i) }

-- The images that a file is made of lie there.
pub record AreLying (checksums : Bool) (live : BlockTable) (file : List ℕ) : Type 0 where
  pub images : AreImaged file live.places.items
  pub sums : AreSummed checksums file live.places.items
  pub within : All (λ e. end_of e ≤ length file) (block_extents live.places.items)
  pub beside : byte file 516 ≢ 1

module _ (checksums : Bool) (directory : Extent) (text : List ℕ) (live : BlockTable) (slots : Slots) (first : IsNewSlots checksums directory text live slots) (founding : IsFounding checksums directory text live) where
  abbrev text_sum : Option ℕ
  text_sum = sum_for checksums text

  abbrev version : ℕ
  version = version_for checksums

  abbrev es : List Extent
  es = block_extents live.places.items

  -- all extents that the slots lead to
  all_pair : (P : Extent → Type 0) → P directory → All P es → All P (pair_extents slots.committed)
  all_pair P one all =
      let here : All P (directory ∷ es) = All-cons P directory es one all in
      All-append P (stored_extents slots.committed.updated) (stored_extents slots.committed.saved)
      (subst (All P) (sym (copy_extents directory text_sum live slots.committed.updated first.updated)) here)
      (subst (All P) (sym (copy_extents directory text_sum live slots.committed.saved first.saved)) here)

  formed : IsFormed live slots
  formed = record {
    table = founding.table;
    placed = founding.placed;
    committed = record { updated = copy_table directory text_sum live slots.committed.updated first.updated founding.table; saved = copy_table directory text_sum live slots.committed.saved first.saved founding.table };
    prepared = subst (IsPreparedFormed slots.sequence) (sym first.spare) tt;
    marked = nothing_marked IsBlockTable slots.marked first.unmarked;
    kept = kept_all IsPlaced slots (all_pair IsPlaced founding.directory_placed founding.placed) (subst (λ o. All IsPlaced (prepared_extents o)) (sym first.spare) (All-nil IsPlaced)) (nothing_kept IsPlaced slots.marked first.unmarked);
    version = subst IsVersion (sym first.version) (for_version checksums);
    next_version = subst (λ v. IsNextVersion v slots.next_version) (sym first.version) (subst (IsNextVersion version) (sym first.next_version) (for_new checksums));
    turning = subst (IsTurning slots) (sym first.unturned) (ap has_sums (first.next_version ∙ sym first.version));
    numbered = omega (arith, first.sequence);
    in_range = omega (arith, first.sequence);
  }

  module _ (store : StoreFacts) (old : List ℕ) (lying : AreLying checksums live old) (laid : IsLaid 1 slots.version slots.committed text old store.content) (durable : IsDurable store) where
    abbrev file : List ℕ
    file = store.content

    starts : start_of slots.committed.updated.directory ≡ start_of directory
    starts = ap start_of first.updated.directory_is

    few : length (behind_gate slots.version 1 slots.committed) ≤ 39
    few = behind_few slots.version 1 slots.committed

    pub keeps : KeepsAll es old file
    unfolding starts few
    keeps k x inside =
        let e = get_or es k x in
        let high = (founding.placed k x inside).behind in
        record {
          within = omega (arith, lying.within k x inside, laid.size, starts);
          bytes = λ i low under. laid.others i (omega (arith, high, low, few)) (inr (omega (arith, high, low))) (elim (founding.clear k x inside) as (λ _. (i < start_of slots.committed.updated.directory) ⊎ (start_of slots.committed.updated.directory + length text ≤ i)) [
            | inl before ↦ inl (omega (arith, starts))
            | inr behind ↦ inr (omega (arith, founding.size, starts))
          ]);
        }

    within : All (λ e. end_of e ≤ length file) es
    within k x inside = (keeps k x inside).within

    images : AreImaged file live.places.items
    images = images_same old file live.places.items lying.within keeps lying.images

    sums : AreSummed checksums file live.places.items
    sums = sums_same checksums old file live.places.items lying.within keeps lying.sums

    one_stored : (s : DocumentRef) → IsLiveStored directory text_sum live s → IsStored version file s
    one_stored s copy =
        let listed = copy_listed version directory text_sum live s copy in
        let text_is = founding.text_is ∙ sym (ap directory_text listed) in
        let same = for_sums checksums in
        directory_written version file s (for_written checksums) (copy_table directory text_sum live s copy founding.table)
        (subst (All IsPlaced) (sym (copy_extents directory text_sum live s copy)) (All-cons IsPlaced directory es founding.directory_placed founding.placed))
        (subst (AreImaged file) (sym copy.places) images)
        (subst (λ b. AreSummed b file s.table.value.places.items) (sym same) (subst (AreSummed checksums file) (sym copy.places) sums))
        (subst (λ ps. All (λ e. end_of e ≤ length file) (block_extents ps)) (sym copy.places) within)
        (subst (λ ps. All (λ e. FitAttributes e.attributes) (entries_of 1 ps)) (sym copy.places) founding.attributes)
        (copy.sum_is ∙ ap₂ sum_for (sym same) text_is)
        (ap (λ (e : Extent). e.length) copy.directory_is ∙ sym founding.size ∙ ap length text_is)
        (subst (λ (e : Extent). Holds file (start_of e) (directory_text (directory_of_table version s.table.value))) (sym copy.directory_is) (subst (λ t. Holds file (start_of directory) t) text_is (subst (λ n. Holds file n text) starts laid.there)))

    leads : LeadsTo 0 slots.version 1 slots.committed file file
    unfolding starts
    leads = record {
      marked = laid.marked;
      rest = laid.rest;
      kept = keeps_itself (pair_extents slots.committed) file (all_pair (λ e. end_of e ≤ length file) (omega (arith, laid.there.within, founding.size, starts)) within);
    }

    shut : byte file 516 ≢ 1
    shut is = lying.beside (sym laid.beside ∙ is)

    outcome : Outcome slots file file
    outcome =
        let P : Bool → Type 0 = λ b. byte file (512 * (if b then 1 else 0) + 4) ≡ 1 in
        let Q : Bool → Type 0 = λ b. LeadsTo (if b then 1 else 0) slots.version slots.sequence slots.committed file file in
        let R : Bool → Type 0 = λ b. IsBeside slots.next_version slots.spare (if b then 0 else 1) slots.sequence file file in
        let T : SpareSlot → Type 0 = λ o. IsBeside slots.next_version o 1 slots.sequence file file in
        record {
          gate = subst P (sym first.second) laid.gate_is;
          counts = subst Q (sym first.second) (subst (λ s. LeadsTo 0 slots.version s slots.committed file file) (sym first.sequence) leads);
          beside = subst R (sym first.second) (subst T (sym first.spare) shut);
        }

    whole : IsWhole store live slots
    whole = record {
      images = images;
      sums = subst (λ b. AreSummed b file live.places.items) (sym (ap has_sums first.next_version ∙ for_sums checksums)) sums;
      within = within;
      committed = subst (λ v. AreStored v file slots.committed) (sym first.version) (record { updated = one_stored slots.committed.updated first.updated; saved = one_stored slots.committed.saved first.saved });
      prepared = subst (IsPreparedStored slots.next_version file) (sym first.spare) tt;
      marked = nothing_marked (λ t. AreImaged file t.places.items) slots.marked first.unmarked;
      marked_sums = nothing_marked (λ t. AreSummed (has_sums slots.next_version) file t.places.items) slots.marked first.unmarked;
      marked_within = nothing_kept (λ e. end_of e ≤ length file) slots.marked first.unmarked;
      saved_sums = nothing_marked (λ t. AreSummed (has_sums slots.next_version) file t.places.items) slots.saved_sums first.unturned;
      leaves = λ c left. subst (Outcome slots file) (sym (durable c left)) outcome;
    }

  -- a file that was made is sound
  pub first_sound : (store : StoreFacts) (old : List ℕ) → (IsTrue store.honest → AreLying checksums live old × IsLaid 1 slots.version slots.committed text old store.content × IsDurable store) → IsSound store live slots
  first_sound store old made = record { formed = formed; whole = λ so. let all = made so in whole store old all.0 all.1 all.2 }

-- A file of no block.

-- a table of no block
pub record IsEmpty (live : BlockTable) : Type 0 where
  pub map_block : live.map_block ≡ 0
  pub places : live.places.items ≡ []

pub empty_shown : (file : List ℕ) (live : BlockTable) → IsEmpty live → document_in file live ≡ empty_document
unfolding table_map
empty_shown file live is =
    let none : table_entries 1 1 (blocks_in file live.places.items) ≡ [] = ap (λ ps. table_entries 1 1 (blocks_in file ps)) is.places in
    λ i. record { blocks = from_entries (none i); map_block = is.map_block i }

pub empty_listed : (checksums : Bool) (live : BlockTable) → IsEmpty live → directory_of_table (version_for checksums) live ≡ no_blocks checksums
empty_listed checksums live is = λ i. record { version = version_for checksums; map_block = is.map_block i; entries = entries_of 1 (is.places i) }

pub empty_founding : (checksums : Bool) (text : List ℕ) (live : BlockTable) → IsEmpty live → text ≡ directory_text (no_blocks checksums) → IsFounding checksums first_directory text live
empty_founding checksums text live is text_is =
    let no_extents : block_extents live.places.items ≡ [] = ap block_extents is.places in
    let no_entries : entries_of 1 live.places.items ≡ [] = ap (entries_of 1) is.places in
    let none : length live.places.items ≡ 0 = ap length is.places in
    record {
      table = record {
        size = omega (arith, none);
        places = subst ArePlaces (sym is.places) (All-nil (λ (o : Option Place). IfSome o IsPlace));
        map_block = inl is.map_block;
      };
      placed = subst (All IsPlaced) (sym no_extents) (All-nil IsPlaced);
      directory_placed = record { behind = omega arith; within = omega arith; some = omega arith; short = omega arith };
      clear = subst (IsClear 1024 16) (sym no_extents) (All-nil (λ e. IsOut 1024 16 (start_of e) (end_of e)));
      attributes = subst (All (λ e. FitAttributes e.attributes)) (sym no_entries) (All-nil (λ e. FitAttributes e.attributes));
      text_is = text_is ∙ sym (ap directory_text (empty_listed checksums live is));
      size = ap length text_is;
    }

pub empty_lying : (checksums : Bool) (live : BlockTable) → IsEmpty live → AreLying checksums live []
empty_lying checksums live is =
    let no_extents : block_extents live.places.items ≡ [] = ap block_extents is.places in
    record {
      images = subst (AreImaged []) (sym is.places) (All-nil (λ (o : Option Place). IfSome o (IsImaged [])));
      sums = subst (AreSummed checksums []) (sym is.places) (All-nil (λ (o : Option Place). IfSome o (IsSummed checksums [])));
      within = subst (All (λ e. end_of e ≤ 0)) (sym no_extents) (All-nil (λ e. end_of e ≤ 0));
      beside = λ is. cc is;
    }

-- the live document is the updated and the saved one
copy_shown : (file : List ℕ) (directory : Extent) (sum : Option ℕ) (live : BlockTable) (s : DocumentRef) → IsLiveStored directory sum live s → document_in file s.table.value ≡ document_in file live
copy_shown file directory sum live s copy = λ i. record { blocks = table_map 1 1 (blocks_in file (copy.places i)); map_block = copy.map_block i }

pub first_shown : (checksums : Bool) (file : List ℕ) (directory : Extent) (text : List ℕ) (live : BlockTable) (slots : Slots) → IsNewSlots checksums directory text live slots → IsOne checksums file live slots
first_shown checksums file directory text live slots first = record {
  updated = copy_shown file directory (sum_for checksums text) live slots.committed.updated first.updated;
  saved = copy_shown file directory (sum_for checksums text) live slots.committed.saved first.saved;
  in_doubt = ap (attempted_in file) first.spare;
  unmarked = first.unmarked;
  version = first.version;
  next_version = first.next_version;
  sequence = first.sequence;
}

-- a list with no length
pub no_bytes : (c : List ℕ) → length c ≡ 0 → c ≡ []
no_bytes [] size = refl
no_bytes (x ∷ c) size = absurd (omega (arith, size))

-- The slots of a file of no block.

module _ (store : StoreFacts) (live : BlockTable) (slots : Slots) (checksums : Bool) (sound : IsSound store live slots) (first : IsNewSlots checksums first_directory (directory_text (no_blocks checksums)) live slots) (so : IsTrue store.honest) (now : store.may_leave store.content) where
  made_outcome : Outcome slots store.content store.content
  made_outcome = (sound.whole so).leaves store.content now

  -- the slot that counts
  pub made_open : open_slot store.content 0 ≡ Some (first_open checksums)
  made_open =
      let c = store.content in
      let pair = slots.committed in
      let fits = fits_pair slots.version slots.sequence c pair sound.formed.version sound.formed.numbered sound.formed.in_range sound.formed.committed (sound.whole so).committed (kept_pair IsPlaced slots sound.formed.kept) in
      let gate = subst (λ b. byte c (512 * (if b then 1 else 0) + 4) ≡ 1) first.second made_outcome.gate in
      let leads = subst (λ b. LeadsTo (if b then 1 else 0) slots.version slots.sequence pair c c) first.second made_outcome.counts in
      let bare : unsummed_slot slots.version slots.sequence pair ≡ first_unsummed checksums = λ i. record { gate = 1; version = first.version i; reserved = 0; sequence = first.sequence i; working = first.updated.directory_is i; saved = first.saved.directory_is i; sums = None } in
      let sums : sums_of (unsummed_slot slots.version slots.sequence pair) pair.updated.sum pair.saved.sum ≡ sums_of (first_unsummed checksums) (first_sum checksums) (first_sum checksums) = λ i. sums_of (bare i) (first.updated.sum_is i) (first.saved.sum_is i) in
      let same : slot_value slots.version slots.sequence pair ≡ first_open checksums = λ i. record { gate = 1; version = first.version i; reserved = 0; sequence = first.sequence i; working = first.updated.directory_is i; saved = first.saved.directory_is i; sums = sums i } in
      lead_open 0 slots.version slots.sequence pair c c fits gate leads ∙ ap (λ s. Some s) same

  -- the other one
  pub made_shut : open_slot store.content 1 ≡ None
  made_shut =
      let c = store.content in
      let beside = subst (λ b. IsBeside slots.next_version slots.spare (if b then 0 else 1) slots.sequence c c) first.second made_outcome.beside in
      let shut : byte c 516 ≢ 1 = subst (λ o. IsBeside slots.next_version o 1 slots.sequence c c) first.spare beside in
      open_slot-shut c 1 shut

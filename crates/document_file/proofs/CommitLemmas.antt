-- What a commit makes of the whole file.
use Rattle.std.proofs.Common.{◌≡◌, ◌⊎◌, ℕ, ◌+◌, ◌^◌, ◌<◌, ◌≤◌, IsTrue, List, [], ◌∷◌, length, Option, All, refl, sym, ap, subst, ◌∙◌, arith, inl, inr}
use Rattle.std.specs.Prelude.{IfSome, MatchResult, Result, Ok, Err}
use Rattle.std.specs.Option.{option_map}
use Rattle.std.proofs.lemmas.List.Elements.{All-append, All-cons}
use Rattle.vm_store.specs.Facts.{StoreFacts, Counts, Torn, raised}
use Rattle.geos_model.specs.Document.{Block}
use Rattle.geos_model.specs.declared.fault.Fault.{Fault}
use Rattle.file_format.specs.declared.file.Extent.{Extent}
use Rattle.geos_model.proofs.Table.{table_map}
use Rattle.document_file.specs.Ranges.{IsPlaced, KeepsAll, end_of}
use Rattle.document_file.specs.Slots.{switched, FailedEarly, Failed, LeftBy, Outcome, CrashLeavesSlots, Outlives, AreExtentsPlaced, block_extents, stored_extents, pair_extents, prepared_extents, marked_extents}
use Rattle.document_file.specs.Documents.{Documents, document_in, documents_in, attempted_in, AreImaged, AreStored, IsPreparedStored}
use Rattle.document_file.specs.Disk.{recoverable, StandsForOne, Crash, MarkSameUnlessCorrupt, IsInDoubt, LeavesNoTrace, MayCommit}
use Rattle.document_file.specs.Sound.{AreTables, IsFormed, IsTurning, IsWhole, IsSound, disk_of}
use Rattle.document_file.specs.Sums.{AreSummed, has_sums}
use Rattle.document_file.proofs.SumsLemmas.{next_is, next_stays}
use Rattle.document_file.specs.declared.table.BlockTable.{BlockTable}
use Rattle.document_file.specs.declared.table.Pair.{Pair}
use Rattle.document_file.specs.declared.slot.SpareSlot.{SpareSlot}
use Rattle.document_file.specs.declared.slot.SpareSlot.TheVariants.{Shut, Prepared}
use Rattle.document_file.specs.declared.slot.Slots.{Slots}
use Rattle.document_file.proofs.GateAwayLemmas.{attempted_away}
use Rattle.document_file.proofs.RangesLemmas.{keeps_itself, keeps_within, slots_keep}
use Rattle.document_file.proofs.DocumentsLemmas.{stored_within, pair_again, prepared_again}
use Rattle.document_file.proofs.SoundLemmas.{kept_marked, marked_imaged, marked_summed, marked_drifts}
use Rattle.document_file.proofs.SlotsLemmas.{outcome_keeps, shut_kept, with_pair_kept, failed_kept, turned_kept, leaves_rebased}
use Rattle.document_file.proofs.StandsLemmas.{outcome_stands, sound_readable, sound_settled, AreReadable, IsPreparedReadable, prepared_readable, sound_numbered}
use Rattle.document_file.proofs.TableLemmas.{blocks_same, images_same, sums_same}
use Rattle.document_file.proofs.TurningLemmas.{turning_same}

-- What a file has, whatever a crash may leave of it.
pub record HasAll (file : List ℕ) (live : BlockTable) (slots : Slots) : Type 0 where
  pub images : AreImaged file live.places.items
  pub sums : AreSummed (has_sums slots.next_version) file live.places.items
  pub within : All (λ e. end_of e ≤ length file) (block_extents live.places.items)
  pub committed : AreStored slots.version file slots.committed
  pub prepared : IsPreparedStored slots.next_version file slots.spare
  pub marked : IfSome slots.marked (λ t. AreImaged file t.places.items)
  pub marked_sums : IfSome slots.marked (λ t. AreSummed (has_sums slots.next_version) file t.places.items)
  pub marked_within : All (λ e. end_of e ≤ length file) (marked_extents slots.marked)
  pub turning : IsTurning slots slots.saved_sums
  pub saved_sums : IfSome slots.saved_sums (λ t. AreSummed (has_sums slots.next_version) file t.places.items)

pub whole_has : (store : StoreFacts) (live : BlockTable) (slots : Slots) → IsFormed live slots → IsWhole store live slots → HasAll store.content live slots
whole_has store live slots formed whole = record { images = whole.images; sums = whole.sums; within = whole.within; committed = whole.committed; prepared = whole.prepared; marked = whole.marked; marked_sums = whole.marked_sums; marked_within = whole.marked_within; turning = formed.turning; saved_sums = whole.saved_sums }

-- The file is whole again, and so are its documents, after calls that keep the bytes.
module _ (file : List ℕ) (b : StoreFacts) (live : BlockTable) (slots : Slots) (now : b.may_leave b.content) (has : HasAll file live slots) (keeps : KeepsAll (block_extents live.places.items) file b.content)
    (keeps_marked : KeepsAll (marked_extents slots.marked) file b.content) (leaves : CrashLeavesSlots b slots file) where
  kept : KeepsAll (pair_extents slots.committed) file b.content × KeepsAll (prepared_extents slots.spare) file b.content
  kept = outcome_keeps slots file b.content (leaves b.content now)

  committed_now : AreStored slots.version b.content slots.committed × (documents_in b.content slots.committed ≡ documents_in file slots.committed)
  unfolding kept
  committed_now = pair_again slots.version file b.content slots.committed has.committed kept.0

  attempted_now : IsPreparedStored slots.next_version b.content slots.spare × (attempted_in b.content slots.spare ≡ attempted_in file slots.spare)
  unfolding kept
  attempted_now = prepared_again slots.next_version file b.content slots.spare has.prepared kept.1

  pub live_again : document_in b.content live ≡ document_in file live
  live_again = ap (λ (bs : List (Option Block)). record { blocks = table_map 1 1 bs; map_block = live.map_block }) (blocks_same file b.content live.places.items has.within keeps)

  pub whole_again : IsWhole b live slots
  whole_again = record {
    images = images_same file b.content live.places.items has.within keeps has.images;
    sums = sums_same (has_sums slots.next_version) file b.content live.places.items has.within keeps has.sums;
    within = keeps_within (block_extents live.places.items) file b.content keeps;
    committed = committed_now.0;
    prepared = attempted_now.0;
    marked = marked_imaged file b.content slots.marked has.marked_within keeps_marked has.marked;
    marked_sums = marked_summed (has_sums slots.next_version) file b.content slots.marked has.marked_within keeps_marked has.marked_sums;
    marked_within = keeps_within (marked_extents slots.marked) file b.content keeps_marked;
    saved_sums = turning_same (has_sums slots.next_version) file b.content slots has.turning has.committed kept.0 has.saved_sums;
    leaves = leaves_rebased slots file b now leaves;
  }

-- A commit of a pair that lies in the file.
module _ (file : List ℕ) (slots : Slots) (pair : Pair) (was_readable : AreReadable slots file) (range : slots.sequence + 1 < 2 ^ 64) (tables : AreTables pair) (placed : All IsPlaced (pair_extents pair)) (stored : AreStored slots.next_version file pair) where
  -- with another slot that doesn't count
  readable_with : (spare : SpareSlot) → AreExtentsPlaced (record slots { spare = spare }) → IsPreparedReadable slots.next_version file slots.sequence spare → AreReadable (record slots { spare = spare }) file
  readable_with spare kept prepared = record {
    versioned = was_readable.versioned;
    next_versioned = was_readable.next_versioned;
    some = was_readable.some;
    in_range = was_readable.in_range;
    placed = kept;
    tables = was_readable.tables;
    committed = was_readable.committed;
    prepared = prepared;
  }

  before : List Documents
  before = documents_in file slots.committed ∷ attempted_in file slots.spare

  -- what a crash leaves before the last step
  early_stands : (s : Slots) (c : List ℕ) → FailedEarly slots s → Outcome s file c → StandsForOne before c
  unfolding before
  early_stands s c early was =
      let P : Slots → Type 0 = λ x. AreReadable x file in
      let Q : Slots → Type 0 = λ x. StandsForOne (documents_in file x.committed ∷ attempted_in file x.spare) c in
      elim early as (λ _. StandsForOne before c) [
        | inl same ↦ subst Q same (outcome_stands s file c (subst P (sym same) was_readable) was)
        | inr shut ↦
            let readable_now : AreReadable s file = subst P (sym shut) (readable_with Shut (shut_kept slots was_readable.placed) tt) in
            elim (subst Q shut (outcome_stands s file c readable_now was)) as (λ _. StandsForOne before c) [ inl here ↦ inl here | inr none ↦ absurd none ]
      ]

  -- and while the commit isn't acknowledged
  failed_stands : (s : Slots) (c : List ℕ) → Failed slots pair s → Outcome s file c → StandsForOne (documents_in file pair ∷ before) c
  unfolding before
  failed_stands s c failed was =
      let P : Slots → Type 0 = λ x. AreReadable x file in
      let Q : Slots → Type 0 = λ x. StandsForOne (documents_in file x.committed ∷ attempted_in file x.spare) c in
      elim failed as (λ _. StandsForOne (documents_in file pair ∷ before) c) [
        | inl early ↦ inr (early_stands s c early was)
        | inr is_prepared ↦
            let readable_now : AreReadable s file = subst P (sym is_prepared) (readable_with (Prepared pair) (with_pair_kept slots pair was_readable.placed placed) (stored, (tables, range))) in
            elim (subst Q is_prepared (outcome_stands s file c readable_now was)) as (λ _. StandsForOne (documents_in file pair ∷ before) c) [
              | inl here ↦ inr (inl here)
              | inr (inl other) ↦ inl other
              | inr (inr none) ↦ absurd none
            ]
      ]

  turned_readable : AreReadable (switched slots pair) file
  turned_readable = record {
    versioned = was_readable.next_versioned;
    next_versioned = was_readable.next_versioned;
    some = omega arith;
    in_range = range;
    placed = turned_kept slots pair was_readable.placed placed;
    tables = tables;
    committed = stored;
    prepared = tt;
  }

  -- and from any moment of a commit on
  left_stands : (s : Slots) (c : List ℕ) → LeftBy slots pair s → Outcome s file c → StandsForOne (documents_in file pair ∷ before) c
  left_stands s c left was =
      let P : Slots → Type 0 = λ x. AreReadable x file in
      let Q : Slots → Type 0 = λ x. StandsForOne (documents_in file x.committed ∷ attempted_in file x.spare) c in
      elim left as (λ _. StandsForOne (documents_in file pair ∷ before) c) [
        | inl failed ↦ failed_stands s c failed was
        | inr turned ↦ elim (subst Q turned (outcome_stands s file c (subst P (sym turned) turned_readable) was)) as (λ _. StandsForOne (documents_in file pair ∷ before) c) [ inl here ↦ inl here | inr none ↦ absurd none ]
      ]

  outlives_crash : (a b : StoreFacts) (Is : Slots → Type 0) (pairs : List Documents) → ((s : Slots) (c : List ℕ) → Is s → Outcome s file c → StandsForOne pairs c) → Outlives a b file Is → Crash a b pairs
  outlives_crash a b Is pairs stands_for outlives = record {
    later = outlives.later;
    each = λ t c le left. elim (outlives.each t c le left) as (λ _. a.left_since t c ⊎ StandsForOne pairs c) [ inl earlier ↦ inl earlier | inr now ↦ inr (stands_for now.0 c now.1 now.2) ];
  }

  pub early_crash : (a b : StoreFacts) → Outlives a b file (λ s. FailedEarly slots s) → Crash a b (documents_in file slots.committed ∷ attempted_in file slots.spare)
  unfolding before
  early_crash a b outlives = outlives_crash a b (λ s. FailedEarly slots s) before early_stands outlives

  pub commit_crash : (a b : StoreFacts) → Outlives a b file (λ s. LeftBy slots pair s) → Crash a b (documents_in file pair ∷ (documents_in file slots.committed ∷ attempted_in file slots.spare))
  unfolding before
  commit_crash a b outlives = outlives_crash a b (λ s. LeftBy slots pair s) (documents_in file pair ∷ before) left_stands outlives

-- The slots after a commit.

failed_has : (file : List ℕ) (live : BlockTable) (slots now : Slots) (pair : Pair) → Failed slots pair now → HasAll file live slots → AreStored slots.next_version file pair → HasAll file live now
failed_has file live slots now pair failed has stored =
    let P : Slots → Type 0 = λ s. HasAll file live s in
    elim failed as (λ _. P now) [
      | inl (inl same) ↦ subst P (sym same) has
      | inl (inr shut) ↦ subst P (sym shut) (record { images = has.images; sums = has.sums; within = has.within; committed = has.committed; prepared = tt; marked = has.marked; marked_sums = has.marked_sums; marked_within = has.marked_within; turning = has.turning; saved_sums = has.saved_sums })
      | inr is_prepared ↦ subst P (sym is_prepared) (record { images = has.images; sums = has.sums; within = has.within; committed = has.committed; prepared = stored; marked = has.marked; marked_sums = has.marked_sums; marked_within = has.marked_within; turning = has.turning; saved_sums = has.saved_sums })
    ]

failed_formed : (live : BlockTable) (slots now : Slots) (pair : Pair) → Failed slots pair now → IsFormed live slots → AreTables pair → All IsPlaced (pair_extents pair) → slots.sequence + 1 < 2 ^ 64 → IsFormed live now
failed_formed live slots now pair failed formed tables placed range =
    let P : Slots → Type 0 = λ s. IsFormed live s in
    let kept = failed_kept slots now pair failed formed.kept placed in
    elim failed as (λ _. P now) [
      | inl (inl same) ↦ subst P (sym same) formed
      | inl (inr shut) ↦ subst P (sym shut) (record { table = formed.table; placed = formed.placed; committed = formed.committed; prepared = tt; marked = formed.marked; kept = subst AreExtentsPlaced shut kept; version = formed.version; next_version = formed.next_version; turning = formed.turning; numbered = formed.numbered; in_range = formed.in_range })
      | inr is_prepared ↦ subst P (sym is_prepared) (record { table = formed.table; placed = formed.placed; committed = formed.committed; prepared = (tables, range); marked = formed.marked; kept = subst AreExtentsPlaced is_prepared kept; version = formed.version; next_version = formed.next_version; turning = formed.turning; numbered = formed.numbered; in_range = formed.in_range })
    ]

turned_formed : (live : BlockTable) (slots : Slots) (pair : Pair) → IsFormed live slots → AreTables pair → All IsPlaced (pair_extents pair) → slots.sequence + 1 < 2 ^ 64 → IsFormed live (switched slots pair)
turned_formed live slots pair formed tables placed range = record {
  table = formed.table;
  placed = formed.placed;
  committed = tables;
  prepared = tt;
  marked = formed.marked;
  kept = turned_kept slots pair formed.kept placed;
  version = next_is slots.version slots.next_version formed.next_version;
  next_version = next_stays slots.version slots.next_version formed.next_version;
  turning = refl;
  numbered = omega arith;
  in_range = range;
}

-- A commit, acknowledged or not: what is known of the file before, and what the steps of the commit leave.
pub record IsCommit {S : Type 0} (facts : S → StoreFacts) (a b : S) (live : BlockTable) (slots now : Slots) (pair : Pair) : Type 1 where
  pub formed : IsFormed live slots
  pub range : slots.sequence + 1 < 2 ^ 64
  pub tables : AreTables pair
  pub placed : All IsPlaced (pair_extents pair)
  pub whole : IsTrue (facts a).honest → IsWhole (facts a) live slots
  pub stored : IsTrue (facts a).honest → AreStored slots.next_version (facts a).content pair
  pub honest : (facts b).honest ≡ (facts a).honest
  pub failures : (facts a).failures ≤ (facts b).failures
  pub now_there : IsTrue (facts b).honest → (facts b).may_leave (facts b).content
  pub elsewhere : IsTrue (facts a).honest → Torn 0 1024 (facts a).content (facts b).content
  pub crash : IsTrue (facts a).honest → CrashLeavesSlots (facts a) slots (facts a).content → KeepsAll (pair_extents pair) (facts a).content (facts a).content → Outlives (facts a) (facts b) (facts a).content (λ s. LeftBy slots pair s)
  pub leaves : IsTrue (facts a).honest → CrashLeavesSlots (facts a) slots (facts a).content → KeepsAll (pair_extents pair) (facts a).content (facts a).content → CrashLeavesSlots (facts b) now (facts a).content

-- The pair is prepared, or a crash left nothing of it.
abbrev pub FailsEarly : Slots → Pair → Slots → StoreFacts → StoreFacts → Type 0
FailsEarly old pair new a b =
    (new ≡ record old { spare = Prepared pair }) ⊎ ((file : List ℕ) → IsTrue a.honest → CrashLeavesSlots a old file → Outlives a b file (λ s. FailedEarly old s))

pub counts_rise : {T E : Type 0} (r : Result T E) (a b : StoreFacts) → Counts r a b → a.failures ≤ b.failures
counts_rise (Ok x) a b same = omega (arith, same)
counts_rise (Err x) a b more = omega (arith, more)

-- of a call that doesn't tell of each failure
pub told_rise : {T E : Type 0} (r : Result T E) (a b : StoreFacts) → MatchResult r (λ _. a.failures ≤ b.failures) (λ _. b.failures ≡ raised a.failures) → a.failures ≤ b.failures
told_rise (Ok x) a b more = more
told_rise (Err x) a b more = omega (arith, more)

module _ {S : Type 0} (facts : S → StoreFacts) (a b : S) (live : BlockTable) (slots now : Slots) (pair : Pair) (call : IsCommit facts a b live slots now pair) where
  pub pair_there : IsTrue (facts a).honest → KeepsAll (pair_extents pair) (facts a).content (facts a).content
  pair_there so =
      let updated = stored_within slots.next_version (facts a).content pair.updated (call.stored so).updated in
      let saved = stored_within slots.next_version (facts a).content pair.saved (call.stored so).saved in
      keeps_itself (pair_extents pair) (facts a).content (All-append (λ e. end_of e ≤ length (facts a).content) (stored_extents pair.updated) (stored_extents pair.saved)
      (All-cons (λ e. end_of e ≤ length (facts a).content) pair.updated.directory (block_extents pair.updated.table.value.places.items) updated.0 updated.1)
      (All-cons (λ e. end_of e ≤ length (facts a).content) pair.saved.directory (block_extents pair.saved.table.value.places.items) saved.0 saved.1))

  -- extents behind the slots
  still_kept : (es : List Extent) → All IsPlaced es → (so : IsTrue (facts a).honest) → All (λ e. end_of e ≤ length (facts a).content) es → KeepsAll es (facts a).content (facts b).content
  still_kept es placed so within = slots_keep es (facts a).content (facts a).content (facts b).content placed (call.elsewhere so) (keeps_itself es (facts a).content within)

  live_kept : IsTrue (facts a).honest → KeepsAll (block_extents live.places.items) (facts a).content (facts b).content
  live_kept so = still_kept (block_extents live.places.items) call.formed.placed so (call.whole so).within

  left : IsTrue (facts a).honest → CrashLeavesSlots (facts b) now (facts a).content
  left so = call.leaves so (call.whole so).leaves (pair_there so)

  then_honest : IsTrue (facts b).honest → IsTrue (facts a).honest
  then_honest so = subst IsTrue call.honest so

  pub call_crash : IsTrue (facts a).honest → Crash (facts a) (facts b) (documents_in (facts a).content pair ∷ recoverable (disk_of facts a slots))
  call_crash so =
      let was = call.whole so in
      commit_crash (facts a).content slots pair (sound_readable (facts a) live slots call.formed was) call.range call.tables call.placed (call.stored so) (facts a) (facts b) (call.crash so was.leaves (pair_there so))

  commit_early : IsTrue (facts a).honest → Outlives (facts a) (facts b) (facts a).content (λ s. FailedEarly slots s) → Crash (facts a) (facts b) (recoverable (disk_of facts a slots))
  commit_early so outlives =
      let was = call.whole so in
      early_crash (facts a).content slots pair (sound_readable (facts a) live slots call.formed was) call.range call.tables call.placed (call.stored so) (facts a) (facts b) outlives

  -- whichever slots are left, the file has all of what they lead to
  module _ (now_formed : IsFormed live now) (has : IsTrue (facts a).honest → HasAll (facts a).content live now) where
    marked_kept : IsTrue (facts a).honest → KeepsAll (marked_extents now.marked) (facts a).content (facts b).content
    marked_kept so = still_kept (marked_extents now.marked) (kept_marked IsPlaced now now_formed.kept) so (has so).marked_within

    pub commit_sound : IsSound (facts b) live now
    commit_sound = record {
      formed = now_formed;
      whole = λ so. let then = then_honest so in whole_again (facts a).content (facts b) live now (call.now_there so) (has then) (live_kept then) (marked_kept then) (left then);
    }

    commit_committed : IsTrue (facts a).honest → documents_in (facts b).content now.committed ≡ documents_in (facts a).content now.committed
    commit_committed so = (committed_now (facts a).content (facts b) live now (call.now_there (subst IsTrue (sym call.honest) so)) (has so) (live_kept so) (marked_kept so) (left so)).1

    commit_attempted : IsTrue (facts a).honest → attempted_in (facts b).content now.spare ≡ attempted_in (facts a).content now.spare
    commit_attempted so = (attempted_now (facts a).content (facts b) live now (call.now_there (subst IsTrue (sym call.honest) so)) (has so) (live_kept so) (marked_kept so) (left so)).1

    commit_marked : now.marked ≡ slots.marked → MarkSameUnlessCorrupt (facts a).honest (option_map (document_in (facts a).content) slots.marked) (option_map (document_in (facts b).content) now.marked)
    commit_marked same =
        let honest = (facts a).honest in
        subst (λ m. MarkSameUnlessCorrupt honest (option_map (document_in (facts a).content) m) (option_map (document_in (facts b).content) now.marked)) same
        (marked_drifts honest (facts a).content (facts b).content now.marked (λ so. (has so).marked_within) marked_kept)

    pub commit_live : IsTrue (facts a).honest → document_in (facts b).content live ≡ document_in (facts a).content live
    commit_live so = live_again (facts a).content (facts b) live now (call.now_there (subst IsTrue (sym call.honest) so)) (has so) (live_kept so) (marked_kept so) (left so)

  -- a commit that wasn't acknowledged
  module _ (failed : Failed slots pair now) where
    now_formed : IsFormed live now
    now_formed = failed_formed live slots now pair failed call.formed call.tables call.placed call.range

    has_all : IsTrue (facts a).honest → HasAll (facts a).content live now
    has_all so = failed_has (facts a).content live slots now pair failed (whole_has (facts a) live slots call.formed (call.whole so)) (call.stored so)

    pub err_sound : IsSound (facts b) live now
    unfolding now_formed has_all
    err_sound = commit_sound now_formed has_all

    pub err_live : IsTrue (facts a).honest → document_in (facts b).content live ≡ document_in (facts a).content live
    unfolding now_formed has_all
    err_live = commit_live now_formed has_all

    -- what holds of the slots as they may be
    as_left : (P : Slots → Type 0) → P slots → P (record slots { spare = Shut }) → P (record slots { spare = Prepared pair }) → P now
    as_left P as_before as_shut as_prepared = elim failed as (λ _. P now) [ inl (inl same) ↦ subst P (sym same) as_before | inl (inr shut) ↦ subst P (sym shut) as_shut | inr is_prepared ↦ subst P (sym is_prepared) as_prepared ]

    same_pair : now.committed ≡ slots.committed
    same_pair = as_left (λ s. s.committed ≡ slots.committed) refl refl refl

    same_number : now.sequence ≡ slots.sequence
    same_number = as_left (λ s. s.sequence ≡ slots.sequence) refl refl refl

    same_sums : has_sums now.next_version ≡ has_sums slots.next_version
    same_sums = as_left (λ s. has_sums s.next_version ≡ has_sums slots.next_version) refl refl refl

    same_mark : now.marked ≡ slots.marked
    same_mark = as_left (λ s. s.marked ≡ slots.marked) refl refl refl

    readable_now : IsTrue (facts a).honest → AreReadable now (facts a).content
    readable_now so =
        let has = has_all so in
        record { versioned = now_formed.version; next_versioned = next_is now.version now.next_version now_formed.next_version; some = now_formed.numbered; in_range = now_formed.in_range; placed = now_formed.kept; tables = now_formed.committed; committed = has.committed; prepared = prepared_readable now.next_version (facts a).content now.sequence now.spare now_formed.prepared has.prepared }

    -- the pair is prepared, and one gate away
    prepared_tried : IsTrue (facts a).honest → now ≡ record slots { spare = Prepared pair } → IsInDoubt facts (documents_in (facts a).content pair) (disk_of facts b now)
    unfolding now_formed has_all
    prepared_tried so is_prepared =
        let attempts : Slots → List Documents = λ s. attempted_in (facts a).content s.spare in
        record {
          in_doubt = commit_attempted now_formed has_all so ∙ ap attempts is_prepared;
          gate = attempted_away (facts b) now (facts a).content (documents_in (facts a).content pair) (ap attempts is_prepared) (readable_now so) (left so);
        }

    -- the pair is prepared, or nothing of it can be read
    added : FailsEarly slots pair now (facts a) (facts b) → IsTrue (facts a).honest → IsInDoubt facts (documents_in (facts a).content pair) (disk_of facts b now) ⊎ LeavesNoTrace facts (disk_of facts a slots) (disk_of facts b now)
    unfolding now_formed has_all
    added early so =
        let attempts : Slots → List Documents = λ s. attempted_in (facts a).content s.spare in
        let same = commit_attempted now_formed has_all so in
        elim failed as (λ _. IsInDoubt facts (documents_in (facts a).content pair) (disk_of facts b now) ⊎ LeavesNoTrace facts (disk_of facts a slots) (disk_of facts b now)) [
          | inr is_prepared ↦ inl (prepared_tried so is_prepared)
          | inl before ↦ elim early as (λ _. IsInDoubt facts (documents_in (facts a).content pair) (disk_of facts b now) ⊎ LeavesNoTrace facts (disk_of facts a slots) (disk_of facts b now)) [
            | inl is_prepared ↦ inl (prepared_tried so is_prepared)
            | inr outlives ↦ inr (record {
              crash = commit_early so (outlives (facts a).content so (call.whole so).leaves);
              in_doubt = elim before as (λ _. (attempted_in (facts b).content now.spare ≡ attempted_in (facts a).content slots.spare) ⊎ (attempted_in (facts b).content now.spare ≡ [])) [
                | inl still ↦ inl (same ∙ ap attempts still)
                | inr shut ↦ inr (same ∙ ap attempts shut)
              ];
            })
          ]
        ]

    pub err_commits : FailsEarly slots pair now (facts a) (facts b) → (fault : Fault) → MayCommit facts (documents_in (facts a).content pair) (disk_of facts a slots) (disk_of facts b now) (Err fault)
    unfolding now_formed has_all same_pair added same_number same_sums same_mark
    err_commits early fault = record {
      honest = call.honest;
      failures = call.failures;
      crash = call_crash;
      crash_consistent = sound_settled facts b live now err_sound;
      ok = tt;
      numbered = tt;
      still_numbered = λ so was none. sound_numbered facts b live now err_sound (subst IsTrue (sym call.honest) so) none;
      err = λ so.
          let documents = commit_committed now_formed has_all so ∙ ap (documents_in (facts a).content) same_pair in
          (ap (λ (d : Documents). d.0) documents, ap (λ (d : Documents). d.1) documents);
      adds = added early;
      sequence = same_number;
      marked = commit_marked now_formed has_all same_mark;
      checksums = same_sums;
    }

  -- one that was
  module _ (is : now ≡ switched slots pair) where
    turned_is : IsFormed live now
    turned_is = subst (λ s. IsFormed live s) (sym is) (turned_formed live slots pair call.formed call.tables call.placed call.range)

    turned_has : IsTrue (facts a).honest → HasAll (facts a).content live now
    turned_has so = subst (λ s. HasAll (facts a).content live s) (sym is) (record { images = (call.whole so).images; sums = (call.whole so).sums; within = (call.whole so).within; committed = call.stored so; prepared = tt; marked = (call.whole so).marked; marked_sums = (call.whole so).marked_sums; marked_within = (call.whole so).marked_within; turning = refl; saved_sums = tt })

    pub ok_sound : IsSound (facts b) live now
    unfolding turned_is turned_has
    ok_sound = commit_sound turned_is turned_has

    pub ok_live : IsTrue (facts a).honest → document_in (facts b).content live ≡ document_in (facts a).content live
    unfolding turned_is turned_has
    ok_live = commit_live turned_is turned_has

    pub ok_commits : MayCommit facts (documents_in (facts a).content pair) (disk_of facts a slots) (disk_of facts b now) (Ok tt)
    unfolding turned_is turned_has
    ok_commits = record {
      honest = call.honest;
      failures = call.failures;
      crash = call_crash;
      crash_consistent = sound_settled facts b live now ok_sound;
      ok = λ so. (commit_committed turned_is turned_has so ∙ ap (λ (s : Slots). documents_in (facts a).content s.committed) is, commit_attempted turned_is turned_has so ∙ ap (λ (s : Slots). attempted_in (facts a).content s.spare) is);
      numbered = λ so. sound_numbered facts b live now ok_sound (subst IsTrue (sym call.honest) so) (ap (λ (s : Slots). attempted_in (facts b).content s.spare) is);
      still_numbered = tt;
      err = tt;
      adds = tt;
      sequence = ap (λ (s : Slots). s.sequence) is;
      marked = commit_marked turned_is turned_has (ap (λ (s : Slots). s.marked) is);
      checksums = ap (λ (s : Slots). has_sums s.next_version) is;
    }

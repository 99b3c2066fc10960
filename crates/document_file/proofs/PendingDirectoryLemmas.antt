-- A directory that is written where nothing lies that stays.
use Rattle.std.specs.Prelude.{IfSome}
use Rattle.std.proofs.Common.{◌≡◌, ◌⊎◌, ℕ, suc, ◌≤◌, IsTrue, List, [], ◌++◌, Option, None, Some, length, get_or, All, sym, ap, subst, ◌∙◌, arith, inl, inr}
use Rattle.std.proofs.lemmas.List.Elements.{All-cons, All-append}
use Rattle.std.specs.List.Sorted.{IsPermutation}
use Rattle.std.proofs.lemmas.List.Sorted.{All-permutation, IsPermutation-refl, IsPermutation-sym}
use Rattle.file_space.specs.Placing.{AreExtents, AreFewLong, IsFirstFit}
use Rattle.file_space.specs.Space.{Space, AreTaken}
use Rattle.document_file.proofs.PlacingLemmas.{apart_out}
use Rattle.vm_store.specs.Facts.{StoreFacts, Torn, Holds}
use Rattle.file_format.specs.declared.file.Extent.{Extent}
use Rattle.geos_model.proofs.Table.{table_map}
use Rattle.file_format.specs.File.{longest_directory}
use Rattle.document_file.specs.Ranges.{IsPlaced, KeepsAll, start_of, end_of, IsOut, IsClear}
use Rattle.document_file.specs.Slots.{CrashLeavesSlots, Outlives, block_extents, stored_extents, pair_extents, marked_extents, referenced_extents}
use Rattle.document_file.specs.Documents.{document_in, documents_in, AreImaged, IsStored, AreStored}
use Rattle.document_file.specs.Disk.{KeepsCommitted}
use Rattle.document_file.specs.Sound.{IsBlockTable, AreTables, IsFormed, IsTurning, IsSound, disk_of}
use Rattle.document_file.specs.Copies.{IsSameStored}
use Rattle.document_file.specs.PendingDirectories.{IsMadeDirectory, IsPendingDirectory, IsSavedAnew, IsSpared}
use Rattle.document_file.specs.Sums.{AreSummed, IsResummed, has_sums, sum_for}
use Rattle.document_file.specs.declared.directory.PendingDirectory.{PendingDirectory}
use Rattle.document_file.specs.declared.table.BlockTable.{BlockTable}
use Rattle.document_file.specs.declared.table.DocumentRef.{DocumentRef}
use Rattle.document_file.specs.declared.slot.Slots.{Slots}
use Rattle.document_file.proofs.WritingLemmas.{call_passes, call_sound}
use Rattle.document_file.proofs.CopiesLemmas.{copy_formed, same_extents, same_stored, copy_document}
use Rattle.document_file.proofs.RangesLemmas.{all_left, all_right, keeps_itself, keeps_within, torn_keeps}
use Rattle.document_file.proofs.DocumentsLemmas.{stored_newer, stored_within}
use Rattle.document_file.proofs.TurningLemmas.{resummed_extents, resummed_images, resummed_table}
use Rattle.document_file.proofs.SoundLemmas.{kept_pair, kept_marked}
use Rattle.document_file.proofs.TableLemmas.{blocks_same, images_same, sums_same}
use Rattle.document_file.proofs.TableDirectoryLemmas.{directory_written, next_written, text_fits}

pub clear_parts : (at n : ℕ) (xs ys : List Extent) → IsClear at n (xs ++ ys) → IsClear at n xs × IsClear at n ys
clear_parts at n xs ys clear = (all_left (λ e. IsOut at n (start_of e) (end_of e)) xs ys clear, all_right (λ e. IsOut at n (start_of e) (end_of e)) xs ys clear)

-- what is known of the file before, and what the write leaves
pub record IsWriting {S : Type 0} (facts : S → StoreFacts) (a b : S) (live : BlockTable) (slots : Slots) (pending : PendingDirectory) : Type 1 where
  pub sound : IsSound (facts a) live slots
  pub clear : IsClear (start_of pending.document.directory) pending.document.directory.length (block_extents live.places.items ++ referenced_extents slots)
  pub honest : (facts b).honest ≡ (facts a).honest
  pub failures : (facts a).failures ≤ (facts b).failures
  pub now : IsTrue (facts b).honest → (facts b).may_leave (facts b).content
  pub elsewhere : IsTrue (facts a).honest → Torn (start_of pending.document.directory) pending.document.directory.length (facts a).content (facts b).content
  pub crash : IsTrue (facts a).honest → CrashLeavesSlots (facts a) slots (facts a).content → Outlives (facts a) (facts b) (facts a).content (λ s. s ≡ slots)
  pub leaves : IsTrue (facts a).honest → CrashLeavesSlots (facts a) slots (facts a).content → CrashLeavesSlots (facts b) slots (facts a).content

module _ {S : Type 0} (facts : S → StoreFacts) (a b : S) (live : BlockTable) (slots : Slots) (pending : PendingDirectory) (call : IsWriting facts a b live slots pending) where
  clear : IsClear (start_of pending.document.directory) pending.document.directory.length (block_extents live.places.items) × IsClear (start_of pending.document.directory) pending.document.directory.length (referenced_extents slots)
  clear = clear_parts (start_of pending.document.directory) pending.document.directory.length (block_extents live.places.items) (referenced_extents slots) call.clear

  -- extents on which it doesn't lie
  keeps : (es : List Extent) → IsClear (start_of pending.document.directory) pending.document.directory.length es → (so : IsTrue (facts a).honest) → All (λ e. end_of e ≤ length (facts a).content) es → KeepsAll es (facts a).content (facts b).content
  keeps es apart so within = torn_keeps (start_of pending.document.directory) pending.document.directory.length es (facts a).content (facts a).content (facts b).content apart (call.elsewhere so) (keeps_itself es (facts a).content within)

  live_keeps : IsTrue (facts a).honest → KeepsAll (block_extents live.places.items) (facts a).content (facts b).content
  live_keeps so = keeps (block_extents live.places.items) clear.0 so (call.sound.whole so).within

  marked_keeps : IsTrue (facts a).honest → KeepsAll (marked_extents slots.marked) (facts a).content (facts b).content
  marked_keeps so = keeps (marked_extents slots.marked) (kept_marked (λ e. IsOut (start_of pending.document.directory) pending.document.directory.length (start_of e) (end_of e)) slots clear.1) so (call.sound.whole so).marked_within

  live_images : IsTrue (facts a).honest → AreImaged (facts b).content live.places.items
  live_images so = images_same (facts a).content (facts b).content live.places.items (call.sound.whole so).within (live_keeps so) (call.sound.whole so).images

  live_sums : IsTrue (facts a).honest → AreSummed (has_sums slots.next_version) (facts b).content live.places.items
  live_sums so = sums_same (has_sums slots.next_version) (facts a).content (facts b).content live.places.items (call.sound.whole so).within (live_keeps so) (call.sound.whole so).sums

  live_within : IsTrue (facts a).honest → All (λ e. end_of e ≤ length (facts b).content) (block_extents live.places.items)
  live_within so = keeps_within (block_extents live.places.items) (facts a).content (facts b).content (live_keeps so)

  pub write_passes : KeepsCommitted facts (disk_of facts a slots) (disk_of facts b slots)
  write_passes = call_passes facts a b live slots call.sound call.honest call.now (λ so. call.leaves so (call.sound.whole so).leaves) marked_keeps call.failures (λ so. call.crash so (call.sound.whole so).leaves)

  pub write_sound : IsSound (facts b) live slots
  write_sound = call_sound facts a b live slots call.sound call.honest call.now (λ so. call.leaves so (call.sound.whole so).leaves) marked_keeps live call.sound.formed (λ so. ((live_images so, live_sums so), live_within so))

  pub write_same : IsTrue (facts a).honest → document_in (facts b).content live ≡ document_in (facts a).content live
  write_same so = ap (λ bs. record { blocks = table_map 1 1 bs; map_block = live.map_block }) (blocks_same (facts a).content (facts b).content live.places.items (call.sound.whole so).within (live_keeps so))

  -- the directory of a table that lies in the file then
  table_stored : (table : BlockTable) → IsMadeDirectory table slots pending → IsPlaced pending.document.directory → pending.document.directory.length ≡ length pending.text.items → IsBlockTable table → All IsPlaced (block_extents table.places.items)
      → AreImaged (facts b).content table.places.items → AreSummed (has_sums slots.next_version) (facts b).content table.places.items → All (λ e. end_of e ≤ length (facts b).content) (block_extents table.places.items)
      → Holds (facts b).content (start_of pending.document.directory) pending.text.items → IsStored slots.next_version (facts b).content pending.document
  table_stored table made placed size is all_placed images sums within holds =
      let copy = made.table_is in
      directory_written slots.next_version (facts b).content pending.document (next_written slots.version slots.next_version call.sound.formed.next_version) (copy_formed pending.document.table.value table copy is)
      (All-cons IsPlaced pending.document.directory (block_extents pending.document.table.value.places.items) placed (subst (λ ps. All IsPlaced (block_extents ps)) (sym copy.places) all_placed))
      (subst (AreImaged (facts b).content) (sym copy.places) images)
      (subst (AreSummed (has_sums slots.next_version) (facts b).content) (sym copy.places) sums)
      (subst (λ ps. All (λ e. end_of e ≤ length (facts b).content) (block_extents ps)) (sym copy.places) within)
      made.attributes (made.sum ∙ ap (sum_for (has_sums slots.next_version)) made.text) (size ∙ ap length made.text) (subst (Holds (facts b).content (start_of pending.document.directory)) made.text holds)

  pub write_stored : IsPendingDirectory live slots pending → IsTrue (facts a).honest → Holds (facts b).content (start_of pending.document.directory) pending.text.items → IsStored slots.next_version (facts b).content pending.document
  unfolding live_images live_sums live_within
  write_stored is so holds =
      table_stored live (record { table_is = is.table; text = is.text; sum = is.sum; attributes = is.attributes }) is.placed is.size call.sound.formed.table call.sound.formed.placed (live_images so) (live_sums so) (live_within so) holds

  -- that of the saved document
  pub saved_stored : IsSavedAnew slots pending → IsSpared live slots pending → IsTrue (facts b).honest → Holds (facts b).content (start_of pending.document.directory) pending.text.items → IsStored slots.next_version (facts b).content pending.document
  saved_stored anew spared so holds =
      let table = anew.table in
      let saved = slots.committed.saved in
      let formed = call.sound.formed in
      let alike : IsResummed table saved.table.value = subst (IsTurning slots) anew.given formed.turning in
      let whole = write_sound.whole so in
      let stored = whole.committed.saved in
      let same = resummed_extents table saved.table.value alike in
      let placed = all_right IsPlaced (stored_extents slots.committed.updated) (stored_extents saved) (kept_pair IsPlaced slots formed.kept) in
      let own : All IsPlaced (block_extents saved.table.value.places.items) = λ k x inside. placed (suc k) x (omega (arith, inside)) in
      table_stored table anew.made spared.placed spared.size (resummed_table table saved.table.value alike formed.committed.saved) (subst (All IsPlaced) (sym same) own) (resummed_images table saved.table.value alike (facts b).content stored.images)
      (subst (λ o. IfSome o (λ (t : BlockTable). AreSummed (has_sums slots.next_version) (facts b).content t.places.items)) anew.given whole.saved_sums)
      (subst (All (λ e. end_of e ≤ length (facts b).content)) (sym same) (stored_within slots.version (facts b).content saved stored).1) holds

-- The pair of the document as it is now, and of a saved one: the one that is committed, or the same.

module _ (live : BlockTable) (slots : Slots) (pending : PendingDirectory) (saved : DocumentRef) (formed : IsFormed live slots) (is_pending : IsPendingDirectory live slots pending) (alike : ((has_sums slots.next_version ≡ has_sums slots.version) × IsSameStored saved slots.committed.saved) ⊎ IsSameStored saved pending.document) where
  pending_placed : All IsPlaced (stored_extents pending.document)
  pending_placed = All-cons IsPlaced pending.document.directory (block_extents pending.document.table.value.places.items) is_pending.placed (subst (λ ps. All IsPlaced (block_extents ps)) (sym is_pending.table.places) formed.placed)

  saved_placed : All IsPlaced (stored_extents slots.committed.saved)
  saved_placed = all_right IsPlaced (stored_extents slots.committed.updated) (stored_extents slots.committed.saved) (kept_pair IsPlaced slots formed.kept)

  pub both_placed : All IsPlaced (pair_extents (record { updated = pending.document; saved = saved }))
  both_placed = All-append IsPlaced (stored_extents pending.document) (stored_extents saved) pending_placed (elim alike as (λ _. All IsPlaced (stored_extents saved)) [
    | inl committed ↦ subst (All IsPlaced) (sym (same_extents saved slots.committed.saved committed.1)) saved_placed
    | inr same ↦ subst (All IsPlaced) (sym (same_extents saved pending.document same)) pending_placed
  ])

  pub both_tables : AreTables (record { updated = pending.document; saved = saved })
  both_tables = record {
    updated = copy_formed pending.document.table.value live is_pending.table formed.table;
    saved = elim alike as (λ _. IsBlockTable saved.table.value) [
      | inl committed ↦ subst IsBlockTable (sym committed.1.table) formed.committed.saved
      | inr same ↦ subst IsBlockTable (sym same.table) (copy_formed pending.document.table.value live is_pending.table formed.table)
    ];
  }

  -- in a file that is of the next version then
  pub both_stored : (file : List ℕ) → IsStored slots.version file slots.committed.saved → IsStored slots.next_version file pending.document → AreStored slots.next_version file (record { updated = pending.document; saved = saved })
  both_stored file committed written =
      let next : ℕ = slots.next_version in
      record {
        updated = written;
        saved = elim alike as (λ _. IsStored next file saved) [
          | inl copy ↦ same_stored next file saved slots.committed.saved copy.1 (stored_newer slots.version slots.next_version file slots.committed.saved formed.next_version copy.0 committed)
          | inr same ↦ same_stored next file saved pending.document same written
        ];
      }

  -- what they are before and after the directory is written
  pub both_documents : (file c : List ℕ) → document_in c live ≡ document_in file live → document_in c slots.committed.saved.table.value ≡ document_in file slots.committed.saved.table.value
      → documents_in c (record { updated = pending.document; saved = saved }) ≡ (document_in file live, document_in file saved.table.value)
  both_documents file c same committed_same =
      let first : document_in c pending.document.table.value ≡ document_in file live = copy_document c pending.document.table.value live is_pending.table ∙ same in
      let there = saved.table.value in
      let second : document_in c there ≡ document_in file there = elim alike as (λ _. document_in c there ≡ document_in file there) [
        | inl was ↦ ap (document_in c) was.1.table ∙ committed_same ∙ sym (ap (document_in file) was.1.table)
        | inr like ↦ ap (document_in c) like.table ∙ first ∙ sym (copy_document file pending.document.table.value live is_pending.table) ∙ sym (ap (document_in file) like.table)
      ] in
      λ i. (first i, second i)

-- A place for a directory.

pub taken_placed : (live : BlockTable) (slots : Slots) (taken : List Extent) → IsFormed live slots → IsPermutation (block_extents live.places.items ++ referenced_extents slots) taken → All IsPlaced taken
taken_placed live slots taken formed all =
    All-permutation IsPlaced (block_extents live.places.items ++ referenced_extents slots) taken all (All-append IsPlaced (block_extents live.places.items) (referenced_extents slots) formed.placed formed.kept)

pub are_extents : (taken : List Extent) → All IsPlaced taken → AreExtents taken
are_extents taken placed k d inside = let one = placed k d inside in let short = one.short in (one.behind, (one.some, omega (arith, short)))

pub room_clear : (all taken : List Extent) (n : ℕ) (e : Extent) → IsPermutation all taken → IsFirstFit taken n e → IsClear (start_of e) e.length all
room_clear all taken n e perm fits =
    All-permutation (λ x. IsOut (start_of e) e.length (start_of x) (end_of x)) taken all (IsPermutation-sym all taken perm)
    (λ k d inside. subst (λ m. IsOut (start_of e) m (start_of (get_or taken k d)) (end_of (get_or taken k d))) (sym fits.length_is) (apart_out e.page n (get_or taken k d) (fits.free k d inside)))

pub room_placed : (taken : List Extent) (n : ℕ) (e : Extent) → 1 ≤ n → n ≤ longest_directory → AreFewLong taken → IsFirstFit taken n e → IsPlaced e
room_placed taken n e some short longs fits = record { behind = fits.behind_slots; within = fits.in_reach longs; some = subst (λ m. 1 ≤ m) (sym fits.length_is) some; short = subst (λ m. m ≤ longest_directory) (sym fits.length_is) short }

-- A directory in the first extent that is free.

module _ (live : BlockTable) (slots : Slots) (pending : PendingDirectory) (formed : IsFormed live slots) where
  abbrev there : List Extent
  there = block_extents live.places.items ++ referenced_extents slots

  abbrev placed_at : Extent
  placed_at = pending.document.directory

  -- also apart from others that are taken
  pub first_spared : (others : List Extent) → (1 ≤ length pending.text.items) × (length pending.text.items ≤ longest_directory) → AreFewLong (others ++ there) → IsFirstFit (others ++ there) (length pending.text.items) placed_at
      → IsSpared live slots pending × IsClear (start_of placed_at) placed_at.length others
  first_spared others fits longs first =
      let clear = room_clear (others ++ there) (others ++ there) (length pending.text.items) placed_at (IsPermutation-refl (others ++ there)) first in
      let parts = clear_parts (start_of placed_at) placed_at.length others there clear in
      (record { size = first.length_is; placed = room_placed (others ++ there) (length pending.text.items) placed_at fits.0 fits.1 longs first; clear = parts.1 }, parts.0)

  -- that of the live table
  pub made_pending : IsMadeDirectory live slots pending → IsSpared live slots pending → IsPendingDirectory live slots pending
  made_pending made spared = record { table = made.table_is; text = made.text; sum = made.sum; size = spared.size; placed = spared.placed; clear = spared.clear; attributes = made.attributes }

-- the text of a table's directory
pub made_fits : (table : BlockTable) (slots : Slots) (pending : PendingDirectory) → IsBlockTable table → IsMadeDirectory table slots pending → (1 ≤ length pending.text.items) × (length pending.text.items ≤ longest_directory)
made_fits table slots pending is made =
    let copy = copy_formed pending.document.table.value table made.table_is is in
    text_fits slots.next_version pending.document.table.value pending.text.items copy.size made.text

-- That of the saved document.

module _ (live : BlockTable) (slots : Slots) (formed : IsFormed live slots) where
  anew_fits : (pending : PendingDirectory) → IsSavedAnew slots pending → (1 ≤ length pending.text.items) × (length pending.text.items ≤ longest_directory)
  anew_fits pending anew =
      let saved = slots.committed.saved.table.value in
      let alike : IsResummed anew.table saved = subst (IsTurning slots) anew.given formed.turning in
      made_fits anew.table slots pending (resummed_table anew.table saved alike formed.committed.saved) anew.made

  pub anew_spared : (others : List Extent) (pending : PendingDirectory) → AreFewLong (others ++ (block_extents live.places.items ++ referenced_extents slots)) → IsSavedAnew slots pending
      → IsFirstFit (others ++ (block_extents live.places.items ++ referenced_extents slots)) (length pending.text.items) pending.document.directory
      → IsSpared live slots pending × IsClear (start_of pending.document.directory) pending.document.directory.length others
  anew_spared others pending longs anew first = first_spared live slots pending formed others (anew_fits pending anew) longs first

  -- where there is one, and nothing else is taken
  pub spared_if : (space : Space) (o : Option PendingDirectory) → AreFewLong (block_extents live.places.items ++ referenced_extents slots) → AreTaken (block_extents live.places.items ++ referenced_extents slots) space → IfSome o (IsSavedAnew slots)
      → IfSome o (λ pending. (taken : List Extent) → AreTaken taken space → IsFirstFit taken (length pending.text.items) pending.document.directory) → IfSome o (IsSpared live slots)
  spared_if space None longs are anew placed = tt
  spared_if space (Some pending) longs are anew placed = (anew_spared [] pending longs anew (placed (block_extents live.places.items ++ referenced_extents slots) are)).0

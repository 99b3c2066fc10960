-- What a commit that was acknowledged leaves: the version that it wrote, and the slot of the commit before, which is
-- shut where it gave sums, and else stays.
use Rattle.std.proofs.Common.{◌≡◌, ◌≢◌, ◌⊎◌, ℕ, ◌+◌, ◌*◌, ◌^◌, ◌<◌, ◌≤◌, ◌==◌, Bool, true, false, IsTrue, List, length, All, None, Some, refl, sym, ap, subst, ◌∙◌, arith, inl, inr, eqb-true}
use Rattle.std.specs.Prelude.{if◌then◌else◌}
use Rattle.std.proofs.lemmas.Bool.{cases_Bool, cases_lt, eqb-false}
use Rattle.vm_store.specs.Facts.{StoreFacts, byte, FailedSince, IsTimely}
use Rattle.file_format.specs.File.{open_slot, pair_of}
use Rattle.file_format.specs.declared.file.Slot.{Slot}
use Rattle.file_format.proofs.FileStands.{open_slot-shut}
use Rattle.document_file.specs.Documents.{attempted_in, documents_in, IsOpenTo}
use Rattle.document_file.specs.Effects.{HasCommitVersion, IsCommitSlot, IsTurned, KeepsSlot}
use Rattle.document_file.specs.Ranges.{IsPlaced}
use Rattle.document_file.specs.Slots.{counting_of, spare_of, switched, pair_extents, prepared_extents, slot_value, IsBeside, Outcome, CrashLeavesSlots, IsKeptBehind, IsShutBehind}
use Rattle.document_file.specs.Sound.{IsFormed, IsWhole, IsSound, disk_of}
use Rattle.document_file.specs.Sums.{has_sums}
use Rattle.document_file.specs.declared.table.BlockTable.{BlockTable}
use Rattle.document_file.specs.declared.table.Pair.{Pair}
use Rattle.document_file.specs.declared.slot.SpareSlot.{SpareSlot}
use Rattle.document_file.specs.declared.slot.SpareSlot.TheVariants.{Shut, Stale, Prepared}
use Rattle.document_file.specs.declared.slot.Slots.{Slots}
use Rattle.document_file.proofs.SoundLemmas.{kept_pair, kept_prepared}
use Rattle.document_file.proofs.StandsLemmas.{FitsPair, AreReadable, IsPreparedReadable, fits_pair, lead_open, long_enough, slot_documents, stale_beaten, sound_readable, sound_versioned}
use Rattle.document_file.proofs.SumsLemmas.{next_for}

-- the version that commits write
pub turned_version : {S : Type 0} (facts : S → StoreFacts) (store : S) (live : BlockTable) (old : Slots) (pair : Pair) (slots : Slots) → (IsTrue (facts store).honest → IsTimely (facts store)) → IsSound (facts store) live slots → slots ≡ switched old pair
    → HasCommitVersion facts (disk_of facts store slots)
turned_version facts store live old pair slots timely sound is so =
    let same : slots.version ≡ slots.next_version = ap (λ (s : Slots). s.version) is ∙ sym (ap (λ (s : Slots). s.next_version) is) in
    sound_versioned facts store live slots timely sound (ap (λ (s : Slots). attempted_in (facts store).content s.spare) is) so
    ∙ ap (λ (v : ℕ). Some v) (same ∙ sym (next_for slots.version slots.next_version sound.formed.next_version))

-- The slot of the commit before.

-- the other one isn't open, or has another number
other_number : (spare : SpareSlot) (second : Bool) (next sequence : ℕ) (file c : List ℕ) (slot : Slot) → sequence < 2 ^ 64 → 1024 ≤ length c → ((pair : Pair) → spare ≡ Prepared pair → FitsPair next (sequence + 1) pair) → IsBeside next spare (if second then 0 else 1) sequence file c
    → open_slot c (if second then 0 else 1) ≡ Some slot → slot.sequence ≢ sequence
other_number Shut second next sequence file c slot range long fits beside opened same =
    let none : None ≡ Some slot = sym (open_slot-shut c (if second then 0 else 1) beside) ∙ opened in
    absurd (cc none)
other_number Stale second next sequence file c slot range long fits beside opened same = elim (stale_beaten second sequence c range long beside) as (λ _. ⊥) [
  | inl shut ↦ (let none : None ≡ Some slot = sym shut ∙ opened in absurd (cc none))
  | inr older ↦
      let both : Some older.0 ≡ Some slot = sym older.1 ∙ opened in
      let is : older.0 ≡ slot = cc both in
      let number = ap (λ (t : Slot). t.sequence) is in
      let lower = older.2 in
      absurd (omega (arith, number, lower, same))
]
other_number (Prepared pair) second next sequence file c slot range long fits beside opened same =
    let o : ℕ = if second then 0 else 1 in
    elim (cases_Bool (byte c (512 * o + 4) == 1)) as (λ _. ⊥) [
      | inl gate ↦
          let both : Some (slot_value next (sequence + 1) pair) ≡ Some slot = sym (lead_open o next (sequence + 1) pair file c (fits pair refl) (eqb-true (byte c (512 * o + 4)) 1 gate) beside) ∙ opened in
          let is : slot_value next (sequence + 1) pair ≡ slot = cc both in
          let number : sequence + 1 ≡ slot.sequence = ap (λ (t : Slot). t.sequence) is in
          absurd (omega (arith, number, same))
      | inr shut ↦ (let none : None ≡ Some slot = sym (open_slot-shut c o (eqb-false (byte c (512 * o + 4)) 1 shut)) ∙ opened in absurd (cc none))
    ]

either_slot : (second : Bool) (page : ℕ) → page ≤ 1 → (page ≡ (if second then 1 else 0)) ⊎ (page ≡ (if second then 0 else 1))
either_slot true page low = elim (cases_lt page 1) as (λ _. (page ≡ 1) ⊎ (page ≡ 0)) [ inl below ↦ inr (omega (arith, below)) | inr above ↦ inl (omega (arith, above, low)) ]
either_slot false page low = elim (cases_lt page 1) as (λ _. (page ≡ 0) ⊎ (page ≡ 1)) [ inl below ↦ inl (omega (arith, below)) | inr above ↦ inr (omega (arith, above, low)) ]

committed_fits : (slots : Slots) (file : List ℕ) → AreReadable slots file → FitsPair slots.version slots.sequence slots.committed
committed_fits slots file are = fits_pair slots.version slots.sequence file slots.committed are.versioned are.some are.in_range are.tables are.committed (kept_pair IsPlaced slots are.placed)

prepared_fits : (slots : Slots) (file : List ℕ) → AreReadable slots file → (pair : Pair) → slots.spare ≡ Prepared pair → FitsPair slots.next_version (slots.sequence + 1) pair
prepared_fits slots file are pair is =
    let held : IsPreparedReadable slots.next_version file slots.sequence (Prepared pair) = subst (IsPreparedReadable slots.next_version file slots.sequence) is are.prepared in
    let placed : All IsPlaced (pair_extents pair) = subst (λ o. All IsPlaced (prepared_extents o)) is (kept_prepared IsPlaced slots are.placed) in
    fits_pair slots.next_version (slots.sequence + 1) file pair are.next_versioned (omega arith) held.1.1 held.1.0 held.0 placed

-- it is the one that is known to count
slot_known : (slots : Slots) (file c : List ℕ) (page : ℕ) (slot : Slot) → AreReadable slots file → Outcome slots file c → page ≤ 1 → open_slot c page ≡ Some slot → slot.sequence ≡ slots.sequence
    → (page ≡ counting_of slots) × (slot ≡ slot_value slots.version slots.sequence slots.committed)
slot_known slots file c page slot are was low opened number =
    let fits = committed_fits slots file are in
    let value : Slot = slot_value slots.version slots.sequence slots.committed in
    let here = lead_open (counting_of slots) slots.version slots.sequence slots.committed file c fits was.gate was.counts in
    elim (either_slot slots.second page low) as (λ _. (page ≡ counting_of slots) × (slot ≡ value)) [
      | inl counts ↦
          let both : Some slot ≡ Some value = sym opened ∙ ap (open_slot c) counts ∙ here in
          let is : slot ≡ value = cc both in
          (counts, is)
      | inr other ↦
          let there : open_slot c (spare_of slots) ≡ Some slot = sym (ap (open_slot c) other) ∙ opened in
          let long = long_enough slots.version slots.sequence slots.committed (counting_of slots) file c fits was.counts in
          absurd (other_number slots.spare slots.second slots.next_version slots.sequence file c slot are.in_range long (prepared_fits slots file are) was.beside there number)
    ]

slot_of_commit : {S : Type 0} (facts : S → StoreFacts) (a : S) (live : BlockTable) (slots : Slots) (page : ℕ) (slot : Slot) → (IsTrue (facts a).honest → IsTimely (facts a)) → IsSound (facts a) live slots → IsTrue (facts a).honest → IsCommitSlot facts (disk_of facts a slots) page slot
    → (page ≡ counting_of slots) × (slot ≡ slot_value slots.version slots.sequence slots.committed)
slot_of_commit facts a live slots page slot timely sound so is =
    let content = (facts a).content in
    let whole = sound.whole so in
    slot_known slots content content page slot (sound_readable (facts a) live slots sound.formed whole) (whole.leaves content (timely so).now) is.is_slot is.opened is.numbered

-- where the commit gives sums
pub turned_shut : {S : Type 0} (facts : S → StoreFacts) (a b : S) (live : BlockTable) (old new : Slots) → (IsTrue (facts a).honest → IsTimely (facts a)) → IsSound (facts a) live old → IsShutBehind (facts a) (facts b) old → IsTurned facts (disk_of facts a old) (disk_of facts b new)
turned_shut facts a b live old new timely sound shut so page slot is unsummed asked =
    let known = slot_of_commit facts a live old page slot timely sound so is in
    let version : slot.version ≡ old.version = ap (λ (t : Slot). t.version) known.1 in
    elim (shut (asked, sym (ap has_sums version) ∙ unsummed) so) as (λ _. FailedSince (facts a) (facts b) ⊎ ((c : List ℕ) → (facts b).may_leave c → open_slot c page ≡ None)) [
      | inl failed ↦ inl failed
      | inr gate ↦ inr (λ c left. ap (open_slot c) known.0 ∙ open_slot-shut c (counting_of old) (λ one. let none = gate c left in absurd (cc (one, none))))
    ]

-- and where it gives none
pub turned_kept_slot : {S : Type 0} (facts : S → StoreFacts) (a b : S) (live : BlockTable) (old new : Slots) → (IsTrue (facts a).honest → IsTimely (facts a)) → IsSound (facts a) live old → IsKeptBehind (facts a) (facts b) old → KeepsSlot facts (disk_of facts a old) (disk_of facts b new)
turned_kept_slot facts a b live old new timely sound kept so page slot is same c left =
    let known = slot_of_commit facts a live old page slot timely sound so is in
    let version : slot.version ≡ old.version = ap (λ (t : Slot). t.version) known.1 in
    let stays = kept (sym same ∙ ap has_sums version) so c left in
    (ap (open_slot c) known.0 ∙ stays.0 ∙ ap (λ (t : Slot). Some t) (sym known.1), ap (pair_of c) known.1 ∙ stays.1)

-- what a crash leaves of it
pub counting_kept : (a b : StoreFacts) (live : BlockTable) (slots : Slots) (pair : Pair) → IsFormed live slots → IsWhole a live slots → CrashLeavesSlots b (record slots { spare = Prepared pair }) a.content → (c : List ℕ) → b.may_leave c
    → IsOpenTo (counting_of slots) (slot_value slots.version slots.sequence slots.committed) (documents_in a.content slots.committed) c
counting_kept a b live slots pair formed whole leaves c left =
    let was = leaves c left in
    let fits = committed_fits slots a.content (sound_readable a live slots formed whole) in (
      lead_open (counting_of slots) slots.version slots.sequence slots.committed a.content c fits was.gate was.counts,
      slot_documents slots.version slots.sequence slots.committed a.content c fits whole.committed was.counts.kept,
    )

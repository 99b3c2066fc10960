-- What torn bytes leave of the slots, and how one state of them becomes the next.
use Rattle.std.proofs.Common.{◌≡◌, ◌≢◌, ◌⊎◌, ℕ, ◌+◌, ◌*◌, ◌<◌, ◌≤◌, true, false, not, List, [], ◌∷◌, ◌++◌, All, length, refl, sym, ap, subst, ◌∙◌, arith, inl, inr}
use Rattle.std.specs.Prelude.{if◌then◌else◌, IsTrue, OnOk, Result, Ok, Err}
use Rattle.std.proofs.lemmas.List.Elements.{All-nil}
use Rattle.byteorder.specs.Endian.{little_bytes}
use Rattle.byteorder.specs.Numbers.{length-bytes_low_first}
use Rattle.vm_store.specs.Facts.{byte, Torn, Holds, Counts, FailedSince, StoreFacts, IsDurable, IsUnchanged}
use Rattle.file_format.specs.File.{slot_mark, extent_text, slot_sums_text}
use Rattle.document_file.specs.Ranges.{start_of, end_of, IsPlaced, KeepsExtent, KeepsAll, IsOut, IsClear}
use Rattle.document_file.specs.Slots.{pair_extents, prepared_extents, referenced_extents, counting_of, spare_of, switched, Failed, LeftBy, gate_text, behind_gate, sums_of, unsummed_slot, LeadsTo, IsUnmarked, IsOlder, IsBeside, Outcome, AreExtentsPlaced, IsBesideOut, Spares, FailedEarly, CrashLeavesSlots, CrashLeavesShut, Outlives, IsKeptBehind, IsShutBehind, slot_value}
use Rattle.document_file.specs.Documents.{Documents, documents_in, IsOpenTo}
use Rattle.document_file.proofs.SumsLemmas.{behind_few}
use Rattle.document_file.specs.declared.table.Pair.{Pair}
use Rattle.document_file.specs.declared.slot.SpareSlot.{SpareSlot}
use Rattle.document_file.specs.declared.slot.SpareSlot.TheVariants.{Shut, Stale, Prepared}
use Rattle.document_file.specs.declared.slot.Slots.{Slots}
use Rattle.file_format.specs.declared.file.Extent.{Extent}
use Rattle.document_file.proofs.RangesLemmas.{torn_byte, torn_holds, torn_keeps, clear_of_slots, holds_part, keeps_of_both}
use Rattle.document_file.proofs.SoundLemmas.{kept_pair, kept_prepared, kept_marked, kept_all}
use Rattle.vm_store.specs.Laws.{Tears}

pub one_each : (slots : Slots) → counting_of slots + spare_of slots ≡ 1
one_each slots = elim slots.second as (λ b. (if b then 1 else 0) + (if b then 0 else 1) ≡ 1) [ true ↦ refl | false ↦ refl ]

-- The extents of the slots.

-- when the other one is shut, or leads to a pair that can be
pub shut_kept : (slots : Slots) → AreExtentsPlaced slots → AreExtentsPlaced (record slots { spare = Shut })
shut_kept slots kept = kept_all IsPlaced (record slots { spare = Shut }) (kept_pair IsPlaced slots kept) (All-nil IsPlaced) (kept_marked IsPlaced slots kept)

pub with_pair_kept : (slots : Slots) (pair : Pair) → AreExtentsPlaced slots → All IsPlaced (pair_extents pair) → AreExtentsPlaced (record slots { spare = Prepared pair })
with_pair_kept slots pair kept placed = kept_all IsPlaced (record slots { spare = Prepared pair }) (kept_pair IsPlaced slots kept) placed (kept_marked IsPlaced slots kept)

-- when it counts
pub turned_kept : (slots : Slots) (pair : Pair) → AreExtentsPlaced slots → All IsPlaced (pair_extents pair) → AreExtentsPlaced (switched slots pair)
turned_kept slots pair kept placed = kept_all IsPlaced (switched slots pair) placed (All-nil IsPlaced) (kept_marked IsPlaced slots kept)

-- and after a commit that failed
pub failed_kept : (old new : Slots) (pair : Pair) → Failed old pair new → AreExtentsPlaced old → All IsPlaced (pair_extents pair) → AreExtentsPlaced new
failed_kept old new pair failed kept placed = elim failed as (λ _. AreExtentsPlaced new) [
  | inl (inl same) ↦ subst AreExtentsPlaced (sym same) kept
  | inl (inr shut) ↦ subst AreExtentsPlaced (sym shut) (shut_kept old kept)
  | inr held ↦ subst AreExtentsPlaced (sym held) (with_pair_kept old pair kept placed)
]

-- a file that keeps what the slots stand on has both slots
pub outcome_long : (slots : Slots) (file c : List ℕ) → AreExtentsPlaced slots → Outcome slots file c → 1024 ≤ length c
outcome_long slots file c kept was =
    let directory = slots.committed.updated.directory in
    let placed = (kept 0 directory (omega arith)).behind in
    let same = (was.counts.kept 0 directory (omega arith)).within in
    omega (arith, placed, same)

-- Torn bytes.

leads_torn : (at n slot version sequence : ℕ) (pair : Pair) (file c d : List ℕ) → IsOut at n (512 * slot) (512 * slot + 4) → IsOut at n (512 * slot + 5) (512 * slot + 44) → IsClear at n (pair_extents pair)
    → Torn at n c d → LeadsTo slot version sequence pair file c → LeadsTo slot version sequence pair file d
leads_torn at n slot version sequence pair file c d front behind clear torn was = record {
  marked = torn_holds at n (512 * slot) (512 * slot + 4) slot_mark c d (omega arith) front torn was.marked;
  rest = torn_holds at n (512 * slot + 5) (512 * slot + 44) (behind_gate version sequence pair) c d (omega (arith, behind_few version sequence pair)) behind torn was.rest;
  kept = torn_keeps at n (pair_extents pair) file c d clear torn was.kept;
}

stale_torn : (at n slot sequence : ℕ) (c d : List ℕ) → IsOut at n (512 * slot) (512 * slot + 4) → IsOut at n (512 * slot + 8) (512 * slot + 16) → Torn at n c d → IsUnmarked slot c ⊎ IsOlder slot sequence c → IsUnmarked slot d ⊎ IsOlder slot sequence d
stale_torn at n slot sequence c d front behind torn was = elim was as (λ _. IsUnmarked slot d ⊎ IsOlder slot sequence d) [
  | inl unmarked ↦ inl (record { bytes = unmarked.bytes; size = unmarked.size; differs = unmarked.differs; there = torn_holds at n (512 * slot) (512 * slot + 4) unmarked.bytes c d (omega (arith, unmarked.size)) front torn unmarked.there })
  | inr older ↦ inr (record { number = older.number; lower = older.lower; there = torn_holds at n (512 * slot + 8) (512 * slot + 16) (little_bytes 8 older.number) c d (omega (arith, length-bytes_low_first 0 8 older.number)) behind torn older.there })
]

beside_torn : (version : ℕ) (spare : SpareSlot) (at n slot sequence : ℕ) (file c d : List ℕ) → 512 * slot + 4 < length c → IsBesideOut spare slot at n → Torn at n c d → IsBeside version spare slot sequence file c → IsBeside version spare slot sequence file d
beside_torn version Shut at n slot sequence file c d long out torn was = λ is. was (sym (torn_byte at n (512 * slot + 4) (512 * slot + 5) (512 * slot + 4) c d out torn (omega arith) (omega arith) long) ∙ is)
beside_torn version Stale at n slot sequence file c d long out torn was = stale_torn at n slot sequence c d out.0 out.1 torn was
beside_torn version (Prepared pair) at n slot sequence file c d long out torn was = leads_torn at n slot version (sequence + 1) pair file c d out.0 out.1 out.2 torn was

-- what is torn apart from all that the slots stand on
pub outcome_torn : (at n : ℕ) (slots : Slots) (file c d : List ℕ) → AreExtentsPlaced slots → Spares at n slots → Torn at n c d → Outcome slots file c → Outcome slots file d
outcome_torn at n slots file c d kept spares torn was =
    let slot = counting_of slots in
    let each = one_each slots in
    let long = outcome_long slots file c kept was in
    let front : IsOut at n (512 * slot) (512 * slot + 4) = elim spares.slot as (λ _. IsOut at n (512 * slot) (512 * slot + 4)) [ inl before ↦ inl (omega arith) | inr behind ↦ inr behind ] in
    let back : IsOut at n (512 * slot + 5) (512 * slot + 44) = elim spares.slot as (λ _. IsOut at n (512 * slot + 5) (512 * slot + 44)) [ inl before ↦ inl before | inr behind ↦ inr (omega arith) ] in
    record {
      gate = torn_byte at n (512 * slot) (512 * slot + 44) (512 * slot + 4) c d spares.slot torn (omega arith) (omega arith) (omega arith) ∙ was.gate;
      counts = leads_torn at n slot slots.version slots.sequence slots.committed file c d front back spares.committed torn was.counts;
      beside = beside_torn slots.next_version slots.spare at n (spare_of slots) slots.sequence file c d (omega arith) spares.beside torn was.beside;
    }

-- Ranges that are.

-- behind the slots, where no extent is
clear_beside : (spare : SpareSlot) (slot at n : ℕ) → slot ≤ 1 → 1024 ≤ at → IsClear at n (prepared_extents spare) → IsBesideOut spare slot at n
clear_beside Shut slot at n low high clear = inl (omega arith)
clear_beside Stale slot at n low high clear = (inl (omega arith), inl (omega arith))
clear_beside (Prepared pair) slot at n low high clear = (inl (omega arith), inl (omega arith), clear)

pub spares_clear : (at n : ℕ) (slots : Slots) → 1024 ≤ at → IsClear at n (referenced_extents slots) → Spares at n slots
spares_clear at n slots high clear =
    let each = one_each slots in
    let P : Extent → Type 0 = λ e. IsOut at n (start_of e) (end_of e) in
    record {
      slot = inl (omega arith);
      committed = kept_pair P slots clear;
      beside = clear_beside slots.spare (spare_of slots) at n (omega arith) high (kept_prepared P slots clear);
    }

-- within the other slot, which spares the one that counts
other_slot_out : (slots : Slots) (i n : ℕ) → i + n ≤ 44 → IsOut (512 * spare_of slots + i) n (512 * counting_of slots) (512 * counting_of slots + 44)
other_slot_out slots i n low = elim slots.second as (λ b. IsOut (512 * (if b then 0 else 1) + i) n (512 * (if b then 1 else 0)) (512 * (if b then 1 else 0) + 44)) [ true ↦ inr (omega arith) | false ↦ inl (omega arith) ]

spares_in_other : (slots : Slots) (i n : ℕ) → i + n ≤ 44 → AreExtentsPlaced slots → IsBesideOut slots.spare (spare_of slots) (512 * spare_of slots + i) n → Spares (512 * spare_of slots + i) n slots
spares_in_other slots i n low kept beside =
    let each = one_each slots in
    record {
      slot = other_slot_out slots i n low;
      committed = clear_of_slots (512 * spare_of slots + i) n (pair_extents slots.committed) (omega arith) (kept_pair IsPlaced slots kept);
      beside = beside;
    }

gate_beside : (spare : SpareSlot) (slot : ℕ) → slot ≤ 1 → spare ≢ Shut → All IsPlaced (prepared_extents spare) → IsBesideOut spare slot (512 * slot + 4) 1
gate_beside Shut slot low isnt placed = absurd (isnt refl)
gate_beside Stale slot low isnt placed = (inl (omega arith), inr (omega arith))
gate_beside (Prepared pair) slot low isnt placed = (inl (omega arith), inr (omega arith), clear_of_slots (512 * slot + 4) 1 (pair_extents pair) (omega arith) placed)

-- the gate of the other slot, where it isn't known to be shut
pub spares_gate : (slots : Slots) → AreExtentsPlaced slots → slots.spare ≢ Shut → Spares (512 * spare_of slots + 4) 1 slots
spares_gate slots kept isnt =
    let each = one_each slots in
    spares_in_other slots 4 1 (omega arith) kept (gate_beside slots.spare (spare_of slots) (omega arith) isnt (kept_prepared IsPlaced slots kept))

-- its mark and what is behind its gate, where it is
pub spares_mark : (slots : Slots) → AreExtentsPlaced slots → slots.spare ≡ Shut → Spares (512 * spare_of slots + 0) 4 slots
spares_mark slots kept shut = spares_in_other slots 0 4 (omega arith) kept (subst (λ o. IsBesideOut o (spare_of slots) (512 * spare_of slots + 0) 4) (sym shut) (inr (omega arith)))

pub spares_behind : (n : ℕ) (slots : Slots) → n ≤ 39 → AreExtentsPlaced slots → slots.spare ≡ Shut → Spares (512 * spare_of slots + 5) n slots
spares_behind n slots few kept shut = spares_in_other slots 5 n (omega (arith, few)) kept (subst (λ o. IsBesideOut o (spare_of slots) (512 * spare_of slots + 5) n) (sym shut) (inl (omega arith)))

-- From one state to the next.

pub outcome_shut : (slots : Slots) (file c : List ℕ) → byte c (512 * spare_of slots + 4) ≡ 0 → Outcome slots file c → Outcome (record slots { spare = Shut }) file c
outcome_shut slots file c shut was = record { gate = was.gate; counts = was.counts; beside = λ is. omega (arith, shut, is) }

pub outcome_held : (slots : Slots) (pair : Pair) (file c : List ℕ) → LeadsTo (spare_of slots) slots.next_version (slots.sequence + 1) pair file c → Outcome slots file c → Outcome (record slots { spare = Prepared pair }) file c
outcome_held slots pair file c leads was = record { gate = was.gate; counts = was.counts; beside = leads }

not_other : (slots : Slots) (pair : Pair) → counting_of (switched slots pair) ≡ spare_of slots
not_other slots pair = elim slots.second as (λ b. (if not b then 1 else 0) ≡ (if b then 0 else 1)) [ true ↦ refl | false ↦ refl ]

not_slot : (slots : Slots) (pair : Pair) → spare_of (switched slots pair) ≡ counting_of slots
not_slot slots pair = elim slots.second as (λ b. (if not b then 0 else 1) ≡ (if b then 1 else 0)) [ true ↦ refl | false ↦ refl ]

-- a slot's number stands behind its gate
numbered : (slot version sequence : ℕ) (updated saved : Extent) (tail : List ℕ) (c : List ℕ) → Holds c (512 * slot + 5) (gate_text version sequence updated saved ++ tail) → Holds c (512 * slot + 8) (little_bytes 8 sequence)
unfolding gate_text
numbered slot version sequence updated saved tail c holds =
    let P : ℕ → Type 0 = λ n. Holds c n (little_bytes 8 sequence) in
    let place : 512 * slot + 5 + 3 ≡ 512 * slot + 8 = omega arith in
    subst P place (holds_part c (512 * slot + 5) (version ∷ 0 ∷ 0 ∷ []) (little_bytes 8 sequence) (extent_text updated ++ extent_text saved ++ tail) holds)

pub outcome_turned : (slots : Slots) (pair : Pair) (file c : List ℕ) → byte c (512 * spare_of slots + 4) ≡ 1 → Outcome (record slots { spare = Prepared pair }) file c → Outcome (switched slots pair) file c
outcome_turned slots pair file c gate was =
    let directories = slots.committed in
    let older : IsOlder (counting_of slots) (slots.sequence + 1) c = record { number = slots.sequence; lower = omega arith; there = numbered (counting_of slots) slots.version slots.sequence directories.updated.directory directories.saved.directory (slot_sums_text (sums_of (unsummed_slot slots.version slots.sequence directories) directories.updated.sum directories.saved.sum)) c was.counts.rest } in
    record {
      gate = ap (λ s. byte c (512 * s + 4)) (not_other slots pair) ∙ gate;
      counts = subst (λ s. LeadsTo s slots.next_version (slots.sequence + 1) pair file c) (sym (not_other slots pair)) was.beside;
      beside = inr (subst (λ s. IsOlder s (slots.sequence + 1) c) (sym (not_slot slots pair)) older);
    }

-- In another file that has the same bytes.

same_leads : (slot version sequence : ℕ) (pair : Pair) (file now c : List ℕ) → (KeepsAll (pair_extents pair) file c → KeepsAll (pair_extents pair) now c) → LeadsTo slot version sequence pair file c → LeadsTo slot version sequence pair now c
same_leads slot version sequence pair file now c same was = record { marked = was.marked; rest = was.rest; kept = same was.kept }

module _ (file now c : List ℕ) (same : (es : List Extent) → KeepsAll es file now → KeepsAll es file c → KeepsAll es now c) where
  beside_rebased : (version : ℕ) (spare : SpareSlot) (slot sequence : ℕ) → IsBeside version spare slot sequence file now → IsBeside version spare slot sequence file c → IsBeside version spare slot sequence now c
  beside_rebased version Shut slot sequence here was = was
  beside_rebased version Stale slot sequence here was = was
  beside_rebased version (Prepared pair) slot sequence here was = same_leads slot version (sequence + 1) pair file now c (same (pair_extents pair) here.kept) was

-- the bytes may be taken from any file that a crash might have left
pub outcome_rebased : (slots : Slots) (file now c : List ℕ) → Outcome slots file now → Outcome slots file c → Outcome slots now c
outcome_rebased slots file now c here was = record {
  gate = was.gate;
  counts = same_leads (counting_of slots) slots.version slots.sequence slots.committed file now c (keeps_of_both (pair_extents slots.committed) file now c here.counts.kept) was.counts;
  beside = beside_rebased file now c (λ es. keeps_of_both es file now c) slots.next_version slots.spare (spare_of slots) slots.sequence here.beside was.beside;
}

beside_keeps : (version : ℕ) (spare : SpareSlot) (slot sequence : ℕ) (file c : List ℕ) → IsBeside version spare slot sequence file c → KeepsAll (prepared_extents spare) file c
beside_keeps version Shut slot sequence file c was = All-nil (KeepsExtent file c)
beside_keeps version Stale slot sequence file c was = All-nil (KeepsExtent file c)
beside_keeps version (Prepared pair) slot sequence file c was = was.kept

-- all that the slots stand on is in what a crash left
pub outcome_keeps : (slots : Slots) (file c : List ℕ) → Outcome slots file c → KeepsAll (pair_extents slots.committed) file c × KeepsAll (prepared_extents slots.spare) file c
outcome_keeps slots file c was = (was.counts.kept, beside_keeps slots.next_version slots.spare (spare_of slots) slots.sequence file c was.beside)

-- What calls leave of the slots, and what a crash since left.

-- Outlives.

pub Outlives-refl : (a : StoreFacts) (file : List ℕ) (Is : Slots → Type 0) → Outlives a a file Is
Outlives-refl a file Is = record { later = omega arith; each = λ t c le left. inl left }

-- the same states all along
pub Outlives-trans : (a b c : StoreFacts) (file : List ℕ) (Is : Slots → Type 0) → Outlives a b file Is → Outlives b c file Is → Outlives a c file Is
Outlives-trans a b c file Is p q = record {
  later = omega (arith, p.later, q.later);
  each = λ t f le left. elim (q.each t f (omega (arith, p.later)) left) as (λ _. a.left_since t f ⊎ ((slots : Slots) × Is slots × Outcome slots file f)) [ inl before ↦ p.each t f le before | inr now ↦ inr now ];
}

-- more states
pub Outlives-more : (a b : StoreFacts) (file : List ℕ) (Is More : Slots → Type 0) → ((slots : Slots) → Is slots → More slots) → Outlives a b file Is → Outlives a b file More
Outlives-more a b file Is More more p = record {
  later = p.later;
  each = λ t f le left. elim (p.each t f le left) as (λ _. a.left_since t f ⊎ ((slots : Slots) × More slots × Outcome slots file f)) [ inl before ↦ inl before | inr now ↦ inr (now.0, more now.0 now.1, now.2) ];
}

-- Calls that write nothing, as reads and syncs.

pub rests_leaves : (slots : Slots) (file : List ℕ) (a b : StoreFacts) → IsUnchanged a b → CrashLeavesSlots a slots file → CrashLeavesSlots b slots file
rests_leaves slots file a b unchanged leaves c left = leaves c (unchanged.crash c left)

pub rests_outlives : (slots : Slots) (file : List ℕ) (a b : StoreFacts) → IsUnchanged a b → CrashLeavesSlots a slots file → Outlives a b file (λ s. s ≡ slots)
rests_outlives slots file a b unchanged leaves = record {
  later = unchanged.time.later;
  each = λ t c le left. elim (unchanged.time.nothing_else t c le left) as (λ _. a.left_since t c ⊎ ((s : Slots) × (s ≡ slots) × Outcome s file c)) [ inl before ↦ inl before | inr now ↦ inr (slots, refl, leaves c (unchanged.crash c now)) ];
}

-- Calls that write one range, on which the slots don't stand.

pub spared_leaves : (at n : ℕ) (slots : Slots) (file : List ℕ) (a b : StoreFacts) → AreExtentsPlaced slots → Spares at n slots → Tears at n a b → CrashLeavesSlots a slots file → CrashLeavesSlots b slots file
spared_leaves at n slots file a b kept spares tears leaves c left =
    let from = tears.crash c left in
    outcome_torn at n slots file from.0 c kept spares from.2 (leaves from.0 from.1)

pub spared_outlives : (at n : ℕ) (slots : Slots) (file : List ℕ) (a b : StoreFacts) → AreExtentsPlaced slots → Spares at n slots → Tears at n a b → CrashLeavesSlots a slots file → Outlives a b file (λ s. s ≡ slots)
spared_outlives at n slots file a b kept spares tears leaves = record {
  later = tears.later;
  each = λ t c le left. elim (tears.since t c le left) as (λ _. a.left_since t c ⊎ ((s : Slots) × (s ≡ slots) × Outcome s file c)) [
    | inl before ↦ inl before
    | inr from ↦ inr (slots, refl, outcome_torn at n slots file from.0 c kept spares from.2 (leaves from.0 from.1))
  ];
}

-- From one state to the next.

-- the byte is on the disk
durable_byte : (a : StoreFacts) (at x : ℕ) → IsDurable a → Holds a.content at (x ∷ []) → (c : List ℕ) → a.may_leave c → byte c at ≡ x
durable_byte a at x durable holds c left =
    let here : at ≡ at + 0 = omega arith in
    ap (λ f. byte f at) (durable c left) ∙ ap (byte a.content) here ∙ holds.each 0 (omega arith)

pub shut_leaves : (slots : Slots) (file : List ℕ) (a : StoreFacts) → IsDurable a → Holds a.content (512 * spare_of slots + 4) (0 ∷ []) → CrashLeavesSlots a slots file → CrashLeavesSlots a (record slots { spare = Shut }) file
shut_leaves slots file a durable holds leaves c left = outcome_shut slots file c (durable_byte a (512 * spare_of slots + 4) 0 durable holds c left) (leaves c left)

pub turned_leaves : (slots : Slots) (pair : Pair) (file : List ℕ) (a : StoreFacts) → IsDurable a → Holds a.content (512 * spare_of slots + 4) (1 ∷ []) → CrashLeavesSlots a (record slots { spare = Prepared pair }) file → CrashLeavesSlots a (switched slots pair) file
turned_leaves slots pair file a durable holds leaves c left = outcome_turned slots pair file c (durable_byte a (512 * spare_of slots + 4) 1 durable holds c left) (leaves c left)

-- the other slot is whole but for its gate
pub prepared_leaves : (slots : Slots) (pair : Pair) (file : List ℕ) (a : StoreFacts) → IsDurable a → Holds a.content (512 * spare_of slots) slot_mark → Holds a.content (512 * spare_of slots + 5) (behind_gate slots.next_version (slots.sequence + 1) pair)
    → KeepsAll (pair_extents pair) file a.content → CrashLeavesSlots a slots file → CrashLeavesSlots a (record slots { spare = Prepared pair }) file
prepared_leaves slots pair file a durable marked rest kept leaves c left =
    let there : LeadsTo (spare_of slots) slots.next_version (slots.sequence + 1) pair file a.content = record { marked = marked; rest = rest; kept = kept } in
    outcome_held slots pair file c (subst (λ f. LeadsTo (spare_of slots) slots.next_version (slots.sequence + 1) pair file f) (sym (durable c left)) there) (leaves c left)

-- the bytes may be taken from the content
pub leaves_rebased : (slots : Slots) (file : List ℕ) (a : StoreFacts) → a.may_leave a.content → CrashLeavesSlots a slots file → CrashLeavesSlots a slots a.content
leaves_rebased slots file a now leaves c left = outcome_rebased slots file a.content c (leaves a.content now) (leaves c left)

-- The steps of a commit, at the places where they write.

module _ (slots : Slots) (file : List ℕ) (a b : StoreFacts) (at : ℕ) (kept : AreExtentsPlaced slots) (leaves : CrashLeavesSlots a slots file) where
  -- the gate of the other slot
  module _ (is : at ≡ 512 * spare_of slots + 4) (isnt : slots.spare ≢ Shut) (tears : Tears at 1 a b) where
    pub gate_leaves : CrashLeavesSlots b slots file
    gate_leaves = spared_leaves at 1 slots file a b kept (subst (λ n. Spares n 1 slots) (sym is) (spares_gate slots kept isnt)) tears leaves

    pub gate_outlives : Outlives a b file (λ s. s ≡ slots)
    gate_outlives = spared_outlives at 1 slots file a b kept (subst (λ n. Spares n 1 slots) (sym is) (spares_gate slots kept isnt)) tears leaves

  -- its mark
  module _ (is : at ≡ 512 * spare_of slots) (shut : slots.spare ≡ Shut) (tears : Tears at 4 a b) where
    mark_spared : Spares at 4 slots
    mark_spared = let place : 512 * spare_of slots + 0 ≡ at = omega (arith, is) in subst (λ n. Spares n 4 slots) place (spares_mark slots kept shut)

    pub mark_leaves : CrashLeavesSlots b slots file
    mark_leaves = spared_leaves at 4 slots file a b kept mark_spared tears leaves

    pub mark_outlives : Outlives a b file (λ s. s ≡ slots)
    mark_outlives = spared_outlives at 4 slots file a b kept mark_spared tears leaves

  -- what is behind its gate
  module _ (n : ℕ) (is : at ≡ 512 * spare_of slots + 5) (few : n ≤ 39) (shut : slots.spare ≡ Shut) (tears : Tears at n a b) where
    behind_spared : Spares at n slots
    behind_spared = subst (λ m. Spares m n slots) (sym is) (spares_behind n slots few kept shut)

    pub behind_leaves : CrashLeavesSlots b slots file
    behind_leaves = spared_leaves at n slots file a b kept behind_spared tears leaves

    pub behind_outlives : Outlives a b file (λ s. s ≡ slots)
    behind_outlives = spared_outlives at n slots file a b kept behind_spared tears leaves

  -- an extent on which nothing stands
  module _ (e : Extent) (n : ℕ) (is : at ≡ start_of e) (long : n ≡ e.length) (behind : 2 ≤ e.page) (clear : IsClear (start_of e) e.length (referenced_extents slots)) (tears : Tears at n a b) where
    extent_spared : Spares at n slots
    extent_spared = subst (λ m. Spares at m slots) (sym long) (subst (λ m. Spares m e.length slots) (sym is) (spares_clear (start_of e) e.length slots (omega arith) clear))

    pub extent_leaves : CrashLeavesSlots b slots file
    extent_leaves = spared_leaves at n slots file a b kept extent_spared tears leaves

    pub extent_outlives : Outlives a b file (λ s. s ≡ slots)
    extent_outlives = spared_outlives at n slots file a b kept extent_spared tears leaves

-- What each of them adds to what a commit may leave.
module _ (slots now : Slots) (pair : Pair) (file : List ℕ) (a b : StoreFacts) where
  pub as_before : Outlives a b file (λ s. s ≡ slots) → Outlives a b file (λ s. FailedEarly slots s)
  as_before p = Outlives-more a b file (λ s. s ≡ slots) (λ s. FailedEarly slots s) (λ s is. inl is) p

  pub as_shut : now ≡ record slots { spare = Shut } → Outlives a b file (λ s. s ≡ now) → Outlives a b file (λ s. FailedEarly slots s)
  as_shut shut p = Outlives-more a b file (λ s. s ≡ now) (λ s. FailedEarly slots s) (λ s is. inr (is ∙ shut)) p

  pub as_early : Outlives a b file (λ s. FailedEarly slots s) → Outlives a b file (λ s. Failed slots pair s)
  as_early p = Outlives-more a b file (λ s. FailedEarly slots s) (λ s. Failed slots pair s) (λ s is. inl is) p

  pub as_prepared : now ≡ record slots { spare = Shut } → Outlives a b file (λ s. s ≡ record now { spare = Prepared pair }) → Outlives a b file (λ s. Failed slots pair s)
  as_prepared shut p = Outlives-more a b file (λ s. s ≡ record now { spare = Prepared pair }) (λ s. Failed slots pair s) (λ s is. inr (is ∙ ap (λ (o : Slots). record o { spare = Prepared pair }) shut)) p

  pub as_turned : now ≡ switched slots pair → Outlives a b file (λ s. s ≡ now) → Outlives a b file (λ s. LeftBy slots pair s)
  as_turned turned p = Outlives-more a b file (λ s. s ≡ now) (λ s. LeftBy slots pair s) (λ s is. inr (is ∙ turned)) p

pub as_left : (slots : Slots) (pair : Pair) (file : List ℕ) (a b : StoreFacts) → Outlives a b file (λ s. Failed slots pair s) → Outlives a b file (λ s. LeftBy slots pair s)
as_left slots pair file a b p = Outlives-more a b file (λ s. Failed slots pair s) (λ s. LeftBy slots pair s) (λ s is. inl is) p

-- What comes before a commit leaves its slot as it is.

pub shut_after : {T E : Type 0} (r : Result T E) (a b c : StoreFacts) (slots : Slots) → b.honest ≡ a.honest → a.failures ≤ b.failures → OnOk r (IsShutBehind b c slots) → OnOk r (IsShutBehind a c slots)
shut_after (Ok x) a b c slots same first shut = λ gives holds. elim (shut gives (subst IsTrue (sym same) holds)) as (λ _. FailedSince a c ⊎ CrashLeavesShut c (counting_of slots)) [ inl failed ↦ inl (omega (arith, first, failed)) | inr is ↦ inr is ]
shut_after (Err x) a b c slots same first shut = tt

pub kept_after : {T E : Type 0} (r : Result T E) (a b c : StoreFacts) (slots : Slots) → b.honest ≡ a.honest → (IsTrue a.honest → documents_in b.content slots.committed ≡ documents_in a.content slots.committed) → OnOk r (IsKeptBehind b c slots) → OnOk r (IsKeptBehind a c slots)
kept_after (Ok x) a b c slots same documents kept = λ none holds f left.
    subst (λ (d : Documents). IsOpenTo (counting_of slots) (slot_value slots.version slots.sequence slots.committed) d f) (documents holds) (kept none (subst IsTrue (sym same) holds) f left)
kept_after (Err x) a b c slots same documents kept = tt

-- the gate of the slot that counted before, where its shutting was tried
pub shut_tried : {T E : Type 0} (r : Result T E) (a b : StoreFacts) (slots : Slots) (at : ℕ) → at ≡ 512 * spare_of slots + 4 → Counts r a b → OnOk r (IsTrue a.honest → Holds b.content at (0 ∷ [])) → OnOk r (IsTrue a.honest → IsDurable b) → IsTrue a.honest
    → FailedSince a b ⊎ CrashLeavesShut b (spare_of slots)
shut_tried (Ok x) a b slots at is counts holds durable so = inr (λ c left. durable_byte b (512 * spare_of slots + 4) 0 (durable so) (subst (λ n. Holds b.content n (0 ∷ [])) is (holds so)) c left)
shut_tried (Err x) a b slots at is counts holds durable so = inl (omega (arith, counts))

-- which is that one
pub shut_before : (a b c : StoreFacts) (slots : Slots) (pair : Pair) (now : Slots) → a.failures ≤ b.failures → now ≡ switched slots pair → FailedSince b c ⊎ CrashLeavesShut c (spare_of now) → FailedSince a c ⊎ CrashLeavesShut c (counting_of slots)
shut_before a b c slots pair now first is shut = elim shut as (λ _. FailedSince a c ⊎ CrashLeavesShut c (counting_of slots)) [
  | inl failed ↦ inl (omega (arith, first, failed))
  | inr gate ↦ inr (subst (CrashLeavesShut c) (ap spare_of is ∙ not_slot slots pair) gate)
]

-- The bytes of a slot that are read, and which slot of a file counts.
use Rattle.std.proofs.Common.{◌≡◌, ℕ, ◌+◌, ◌*◌, ◌<◌, ◌≤◌, Bool, true, false, List, length, take, drop, slice_index, Option, Some, Ok, Err, sym, ap, ap₂, subst, ◌∙◌, arith, inl, inr, length-take, length-drop}
use Rattle.std.specs.Prelude.{if◌then◌else◌, IfSome, is_some, None, ◌==◌}
use Rattle.std.specs.Option.{option_and_then}
use Rattle.std.proofs.lemmas.Bool.{cases_Bool, cond-true, cond-false, le-ltb}
use Rattle.geos_model.specs.Bytes.{same_bytes}
use Rattle.file_format.proofs.Files.{some_if}
use Rattle.file_format.specs.declared.file.SlotSums.{SlotSums}
use Rattle.std.proofs.lemmas.Grind.{same_number_lists}
use Rattle.std.proofs.lemmas.List.{get_or-drop, get_or-take}
use Rattle.vm_store.specs.Facts.{byte, Holds}
use Rattle.file_format.specs.File.{slot_mark, slot_of, if_open, open_slot, counting_slot, pair_of_counting, stands}
use Rattle.geos_model.specs.declared.fault.Fault.{Fault}
use Rattle.file_format.specs.declared.file.Slot.{Slot}
use Rattle.file_format.specs.Slots.{Beaten, HasItsSums, IsFoundSlot, IsRawSlot, pair_of_open, slot_stands}
use Rattle.file_format.specs.declared.stored_slot.RawSlot.{RawSlot}

-- the bytes of a slot that are read are those of the file
pub raw_slot_read : (file bytes : List ℕ) (page at : ℕ) (raw : RawSlot) → at ≡ 512 * page → length bytes ≡ 44 → ((i : ℕ) → slice_index bytes i < 256) → Holds file at bytes → raw.gate ≡ slice_index bytes 4 → raw.slot ≡ slot_of bytes
    → IsRawSlot file page raw
raw_slot_read file bytes page at raw place size small held gate slot =
    let n : ℕ = 512 * page in
    let each : (i : ℕ) → i < 44 → byte file (n + i) ≡ byte bytes i = λ i low. ap (λ m. byte file (m + i)) (sym place) ∙ held.each i (omega (arith, low, size)) in
    let within : n + 44 ≤ length file = omega (arith, held.within, size, place) in
    let long : length (take 44 (drop n file)) ≡ 44 = omega (arith, length-take 44 (drop n file), length-drop n file, within) in
    let is : take 44 (drop n file) ≡ bytes = same_number_lists (take 44 (drop n file)) bytes (long ∙ sym size) (λ k inside.
    let low : k < 44 = omega (arith, inside, long) in
    get_or-take 44 (drop n file) k 0 low ∙ get_or-drop n file k 0 ∙ each k low) in
    record {
      within = within;
      bytes = λ i low. let one = small i in let same = each i low in omega (arith, one, same);
      gate = gate ∙ sym (each 4 (omega arith));
      slot = slot ∙ sym (ap slot_of is);
    }

-- What is found.

pub no_slot : (file : List ℕ) (fault : Fault) → 1024 ≤ length file → counting_slot (open_slot file 0) (open_slot file 1) ≡ Err fault → stands file ≡ Err fault
no_slot file fault long none = cond-false _ _ _ (le-ltb (length file) 1024 long) ∙ ap (pair_of_counting file) none

pub raw_slot_opened : (file : List ℕ) (page : ℕ) (raw : RawSlot) (o : Option Slot) → IsRawSlot file page raw → o ≡ option_and_then if_open raw.slot → o ≡ open_slot file page
raw_slot_opened file page raw o is e = e ∙ ap (option_and_then if_open) is.slot

-- the first counts, or the second
pub found_slot_is : (file : List ℕ) (first last other : RawSlot) (second : Bool) (s : Slot) (a b : Option Slot) → 1024 ≤ length file → IsRawSlot file 0 first → IsRawSlot file 1 last → a ≡ open_slot file 0 → b ≡ open_slot file 1
    → counting_slot a b ≡ Ok s → (if second then b else a) ≡ Some s → Beaten (if second then a else b) s.sequence → other ≡ (if second then first else last)
    → IsFoundSlot file (record { second = second; slot = s; other = other })
found_slot_is file first last other true s a b long zeroth one is_a is_b counts was beaten is = record {
  long = long;
  bytes = one.bytes;
  counts = sym (ap₂ counting_slot is_a is_b) ∙ counts;
  opened = sym is_b ∙ was;
  other = subst (IsRawSlot file 0) (sym is) zeroth;
  beaten = subst (λ o. Beaten o s.sequence) is_a beaten;
}
found_slot_is file first last other false s a b long zeroth one is_a is_b counts was beaten is = record {
  long = long;
  bytes = zeroth.bytes;
  counts = sym (ap₂ counting_slot is_a is_b) ∙ counts;
  opened = sym is_a ∙ was;
  other = subst (IsRawSlot file 1) (sym is) one;
  beaten = subst (λ o. Beaten o s.sequence) is_b beaten;
}

-- what a slot leads to, by what is read of it
pub slot_stands-read : (file : List ℕ) (page : ℕ) (raw : RawSlot) (o : Option Slot) → 1024 ≤ length file → IsRawSlot file page raw → o ≡ option_and_then if_open raw.slot → slot_stands file page ≡ pair_of_open file o
slot_stands-read file page raw o long is e = cond-false _ _ _ (le-ltb (length file) 1024 long) ∙ ap (pair_of_open file) (sym (raw_slot_opened file page raw o is e))

-- The sums of a slot that is read.

sums_there : (version : ℕ) (sums : SlotSums) → is_some (if version == 3 then Some sums else None) ≡ (version == 3)
sums_there version sums = elim (cases_Bool (version == 3)) [
  | inl three ↦ ap (λ (o : Option SlotSums). is_some o) (cond-true _ _ _ three) ∙ sym three
  | inr older ↦ ap (λ (o : Option SlotSums). is_some o) (cond-false _ _ _ older) ∙ sym older
]

pub read_summed : (bytes : List ℕ) → IfSome (slot_of bytes) HasItsSums
read_summed bytes = elim (cases_Bool (same_bytes (take 4 bytes) slot_mark)) [
  | inl marked ↦ subst (λ (o : Option Slot). IfSome o HasItsSums) (sym (cond-true _ _ _ marked)) (sums_there (slice_index bytes 5) _)
  | inr other ↦ subst (λ (o : Option Slot). IfSome o HasItsSums) (sym (cond-false _ _ _ other)) tt
]

opened_summed : (o : Option Slot) (s : Slot) → IfSome o HasItsSums → option_and_then if_open o ≡ Some s → HasItsSums s
opened_summed None s there e = absurd (cc e)
opened_summed (Some t) s there e = subst HasItsSums (some_if (t.gate == 1) t s e).1 there

pub slot_summed : (file : List ℕ) (page : ℕ) (s : Slot) → open_slot file page ≡ Some s → HasItsSums s
slot_summed file page s e = opened_summed (slot_of (take 44 (drop (512 * page) file))) s (read_summed (take 44 (drop (512 * page) file))) e

-- one that is open
pub open_summed : (o : Option Slot) (opened : Option Slot) (s : Slot) → IfSome o HasItsSums → opened ≡ option_and_then if_open o → opened ≡ Some s → HasItsSums s
open_summed o opened s there is e = opened_summed o s there (sym is ∙ e)

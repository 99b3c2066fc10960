-- Sums of what lies in a file of version 3.
use Rattle.std.proofs.Common.{◌≡◌, ℕ, ◌^◌, ◌<◌, ◌≤◌, ◌==◌, Bool, true, false, List, drop, length, length-append, get_or, Option, None, Some, is_some, refl, sym, ap, subst, ◌∙◌, arith, inl, inr, eq-eqb, eqb-true, bit_xor}
use Rattle.std.specs.Prelude.{IfSome}
use Rattle.std.specs.Option.{option_map}
use Rattle.std.proofs.lemmas.Bool.{cases_Bool, cond-true, cond-false, eqb-false}
use Rattle.std.proofs.lemmas.Nat.{xor_lt}
use Rattle.checksum.specs.Crc32c.{crc32c, crc32c_after, register, bits, all_ones}
use Rattle.checksum.proofs.Bursts.{bits_are, register_lt}
use Rattle.file_format.specs.File.{bytes_in, has_sum, is_sealed, slot_sums_text, slot_text, sealed_text}
use Rattle.file_format.specs.FileLaws.{FitsSum, FitSlotSums}
use Rattle.file_format.specs.Slots.{IsVersion}
use Rattle.file_format.specs.declared.file.Extent.{Extent}
use Rattle.file_format.specs.declared.file.Slot.{Slot}
use Rattle.file_format.specs.declared.file.SlotSums.{SlotSums}
use Rattle.document_file.specs.Sums.{has_sums, kept_sum, version_for, sum_for, HasSum, HaveSums, IsSummed, AreSummed}
use Rattle.document_file.specs.Sound.{IsNextVersion}
use Rattle.document_file.specs.Slots.{behind_gate, gate_text, slot_value, sums_of, unsummed_slot}
use Rattle.document_file.specs.declared.table.Place.{Place}
use Rattle.document_file.specs.declared.table.Pair.{Pair}

-- a sum has 32 bits
pub crc32c_lt : (bytes : List ℕ) → crc32c bytes < 2 ^ 32
unfolding crc32c_after
crc32c_lt bytes =
    let start : bit_xor 0 all_ones < 2 ^ 32 = xor_lt 32 0 all_ones (omega arith) (omega arith) in
    xor_lt 32 (register (bit_xor 0 all_ones) (bits bytes)) all_ones (register_lt (bit_xor 0 all_ones) (bits bytes) (bits_are bytes) start) (omega arith)

-- the sum that is written is the one that is asked for
pub sum_for-has : (summed : Bool) (sum : Option ℕ) (bytes : List ℕ) → sum ≡ sum_for summed bytes → has_sum sum bytes ≡ true
sum_for-has true sum bytes is = ap (λ o. has_sum o bytes) is ∙ eq-eqb (crc32c bytes) (crc32c bytes) refl
sum_for-has false sum bytes is = ap (λ o. has_sum o bytes) is

-- and back, where there is one as there should be
pub sum_for-from : (summed : Bool) (sum : Option ℕ) (bytes : List ℕ) → is_some sum ≡ summed → has_sum sum bytes ≡ true → sum ≡ sum_for summed bytes
sum_for-from true None bytes there has = absurd (cc there)
sum_for-from true (Some n) bytes there has = ap Some (eqb-true n (crc32c bytes) has)
sum_for-from false None bytes there has = refl
sum_for-from false (Some n) bytes there has = absurd (cc there)

pub sum_for-there : (summed : Bool) (bytes : List ℕ) → is_some (sum_for summed bytes) ≡ summed
sum_for-there true bytes = refl
sum_for-there false bytes = refl

pub kept_sum-there : (checksums : Bool) (sum : Option ℕ) → is_some (kept_sum checksums sum) ≡ checksums
kept_sum-there true sum = refl
kept_sum-there false sum = refl

-- a sum that is right is kept
pub kept_sum-is : (checksums : Bool) (sum : Option ℕ) (bytes : List ℕ) → sum ≡ sum_for checksums bytes → kept_sum checksums sum ≡ sum_for checksums bytes
kept_sum-is true sum bytes is = ap (λ o. kept_sum true o) is
kept_sum-is false sum bytes is = refl

-- a sum that fits a version's text
pub sum_for-fits : (version : ℕ) (sum : Option ℕ) (bytes : List ℕ) → sum ≡ sum_for (has_sums version) bytes → FitsSum version sum
sum_for-fits version sum bytes is = elim (cases_Bool (version == 3)) as (λ _. FitsSum version sum) [
  | inl three ↦
      let one : sum ≡ Some (crc32c bytes) = is ∙ cond-true _ _ _ three in
      subst (FitsSum version) (sym one) (eqb-true version 3 three, crc32c_lt bytes)
  | inr older ↦
      let none : sum ≡ None = is ∙ cond-false _ _ _ older in
      subst (FitsSum version) (sym none) (λ three. absurd (cc (sym older ∙ eq-eqb version 3 three)))
]

-- those of a table
summed_has : (summed : Bool) (file : List ℕ) (o : Option Place) → IfSome o (IsSummed summed file) → IfSome o (HasSum file)
summed_has summed file None one = tt
summed_has summed file (Some place) one = sum_for-has summed place.sum (bytes_in file place.extent) one

pub summed_have : (summed : Bool) (file : List ℕ) (places : List (Option Place)) → AreSummed summed file places → HaveSums file places
summed_have summed file places are k d inside = summed_has summed file (get_or places k d) (are k d inside)

-- Versions.

pub for_sums : (b : Bool) → has_sums (version_for b) ≡ b
for_sums true = refl
for_sums false = refl

pub for_version : (b : Bool) → IsVersion (version_for b)
for_version true = inr (inr refl)
for_version false = inr (inl refl)

pub for_new : (b : Bool) → IsNextVersion (version_for b) (version_for b)
for_new true = inr refl
for_new false = inl (refl, λ e. absurd (omega (arith, e)))

-- what commits write in a file that was opened
pub for_next : (version : ℕ) → IsNextVersion version (version_for (has_sums version))
for_next version = elim (cases_Bool (version == 3)) as (λ _. IsNextVersion version (version_for (has_sums version))) [
  | inl three ↦ inr (cond-true _ _ _ three)
  | inr older ↦ inl (cond-false _ _ _ older, eqb-false version 3 older)
]

pub next_is : (version next : ℕ) → IsNextVersion version next → IsVersion next
next_is version next (inl two) = inr (inl two.0)
next_is version next (inr three) = inr (inr three)

-- it is the version for its sums
pub next_for : (version next : ℕ) → IsNextVersion version next → version_for (has_sums next) ≡ next
next_for version next (inl two) = ap (λ n. version_for (has_sums n)) two.0 ∙ sym two.0
next_for version next (inr three) = ap (λ n. version_for (has_sums n)) three ∙ sym three

-- and it stays once it is the file's
pub next_stays : (version next : ℕ) → IsNextVersion version next → IsNextVersion next next
next_stays version next (inl two) = inl (two.0, λ e. absurd (omega (arith, two.0, e)))
next_stays version next (inr three) = inr three

-- The sums of a slot.

pub sums_length : (o : Option SlotSums) → length (slot_sums_text o) ≤ 12
sums_length None = omega arith
sums_length (Some t) = omega arith

-- a slot's own sum is right
pub sums_sealed : (s : Slot) (working saved : Option ℕ) → (let t : Slot = record s { sums = sums_of s working saved } in is_sealed t) ≡ true
sums_sealed s None saved = refl
sums_sealed s (Some w) None = refl
sums_sealed s (Some w) (Some v) = (let n : ℕ = crc32c (sealed_text s (record { working = w; saved = v; own = 0 })) in eq-eqb n n refl)

-- and all fit
pub sums_fit : (version : ℕ) (s : Slot) (working saved : Option ℕ) → FitsSum version working → FitsSum version saved → FitSlotSums version (sums_of s working saved)
sums_fit version s None saved first second = first
sums_fit version s (Some w) None first second = second
sums_fit version s (Some w) (Some v) first second = (first.0, first.1, second.1, crc32c_lt (sealed_text s (record { working = w; saved = v; own = 0 })))

-- what stands behind a gate has at most 39 bytes
long_text : (version sequence : ℕ) (updated saved : Extent) → length (gate_text version sequence updated saved) ≡ 27
unfolding gate_text
long_text version sequence updated saved = refl

pub behind_few : (version sequence : ℕ) (pair : Pair) → length (behind_gate version sequence pair) ≤ 39
behind_few version sequence pair =
    let gate = gate_text version sequence pair.updated.directory pair.saved.directory in
    let sums = sums_of (unsummed_slot version sequence pair) pair.updated.sum pair.saved.sum in
    let long = long_text version sequence pair.updated.directory pair.saved.directory in
    let both = length-append gate (slot_sums_text sums) in
    let most = sums_length sums in
    omega (arith, long, both, most)

-- the sums of a slot are those of its directories
pub sums_working : (version : ℕ) (s : Slot) (working saved : Option ℕ) → FitsSum version working → FitsSum version saved → option_map (λ t. t.working) (sums_of s working saved) ≡ working
sums_working version s None saved first second = refl
sums_working version s (Some w) None first second = absurd (second first.0)
sums_working version s (Some w) (Some v) first second = refl

pub sums_saved : (version : ℕ) (s : Slot) (working saved : Option ℕ) → FitsSum version working → FitsSum version saved → option_map (λ t. t.saved) (sums_of s working saved) ≡ saved
sums_saved version s None None first second = refl
sums_saved version s None (Some v) first second = absurd (first second.0)
sums_saved version s (Some w) None first second = absurd (second first.0)
sums_saved version s (Some w) (Some v) first second = refl

-- a slot's text from behind its gate on
pub behind_text : (version sequence : ℕ) (pair : Pair) → drop 5 (slot_text (slot_value version sequence pair)) ≡ behind_gate version sequence pair
unfolding gate_text
behind_text version sequence pair = refl

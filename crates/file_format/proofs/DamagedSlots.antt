-- A slot of version 3 whose own sum is right is the one that was written, but maybe for its mark and its gate.
use Rattle.std.proofs.Common.{◌≡◌, ◌<◌, ◌≤◌, ℕ, ◌+◌, ◌*◌, ◌==◌, true, cond, List, [], ◌∷◌, ◌++◌, length, take, drop, slice_index, Some, None, take_all, drop-drop, drop-cons, length-take, length-drop, refl, sym, ap, ap₂, subst, ◌∙◌, arith, inl, inr, eqb-true, eq-eqb}
use Rattle.std.proofs.lemmas.Bool.{cases_Bool, cond-true, cond-false}
use Rattle.std.proofs.lemmas.List.{drop_all, take-append-drop}
use Rattle.std.proofs.lemmas.List.Elements.{All-take, All-drop, All-same}
use Rattle.std.specs.Option.{option_and_then}
use Rattle.byteorder.specs.Endian.{little_bytes, little_number}
use Rattle.byteorder.specs.Numbers.{little_from-take}
use Rattle.checksum.specs.Crc32c.{crc32c, AgreeOutsideBurst}
use Rattle.checksum.proofs.Bytes as bytes_law
use Rattle.checksum.proofs.Parts.{part_agrees}
use Rattle.checksum.proofs.Seals.{seal_told}
use Rattle.geos_model.specs.Bytes.{same_bytes}
use Rattle.geos_model.specs.Words.{word, double_word, quad_word, word_at, double_word_at, quad_word_at}
use Rattle.geos_model.proofs.Numbers.{number_law}
use Rattle.file_format.specs.File.{extent_at, extent_text, slot_mark, slot_fields, if_open, open_slot, sealed_text, is_sealed, is_sealed_by}
use Rattle.file_format.specs.Damage.{MaybeDamaged, slot_at}
use Rattle.file_format.specs.declared.file.Slot.{Slot}
use Rattle.file_format.specs.declared.file.SlotSums.{SlotSums}
use Rattle.file_format.proofs.Files.{some_if}
use Rattle.file_format.proofs.FileStands.{slot_bytes}
use Rattle.file_format.proofs.DamagedParts.{IsByte, AreBytes}

-- Fields of a slot from its version on.

abbrev pub sums_behind : List ℕ → SlotSums
sums_behind rest = record { working = double_word_at rest 27; saved = double_word_at rest 31; own = double_word_at rest 35 }

abbrev pub fields_behind : ℕ → List ℕ → Slot
fields_behind gate rest = record {
  gate = gate;
  version = slice_index rest 0;
  reserved = word_at rest 1;
  sequence = quad_word_at rest 3;
  working = extent_at rest 11;
  saved = extent_at rest 19;
  sums = cond (slice_index rest 0 == 3) (Some (sums_behind rest)) None;
}

pub fields_are : (bytes : List ℕ) → 5 ≤ length bytes → slot_fields bytes ≡ fields_behind (slice_index bytes 4) (drop 5 bytes)
fields_are [] l = absurd (omega arith)
fields_are (a ∷ []) l = absurd (omega arith)
fields_are (a ∷ b ∷ []) l = absurd (omega arith)
fields_are (a ∷ b ∷ c ∷ []) l = absurd (omega arith)
fields_are (a ∷ b ∷ c ∷ d ∷ []) l = absurd (omega arith)
fields_are (a ∷ b ∷ c ∷ d ∷ e ∷ rest) l = refl

-- Their text.

-- the bytes of a number, and those behind it
written : (k : ℕ) (xs : List ℕ) → k ≤ length xs → AreBytes xs → xs ≡ little_bytes k (little_number k xs) ++ drop k xs
written k xs long all =
    let part : List ℕ = take k xs in
    let size : length part ≡ k = omega (arith, length-take k xs, long) in
    let back : little_bytes k (little_number k part) ≡ part =
    subst (λ n. little_bytes n (little_number n part) ≡ part) size (number_law.written_back part (All-take IsByte k xs all)) in
    let number : little_number k part ≡ little_number k xs = little_from-take 0 k k xs (omega arith) in
    sym (take-append-drop k xs) ∙ ap (λ (t : List ℕ). t ++ drop k xs) (sym back ∙ ap (little_bytes k) number)

written_at : (rest : List ℕ) (j k : ℕ) → j + k ≤ length rest → AreBytes rest → drop j rest ≡ little_bytes k (little_number k (drop j rest)) ++ drop (j + k) rest
written_at rest j k long all =
    written k (drop j rest) (omega (arith, length-drop j rest, long)) (All-drop IsByte j rest all)
    ∙ ap (λ (t : List ℕ). little_bytes k (little_number k (drop j rest)) ++ t) (drop-drop k j rest)

spelled : (rest : List ℕ) → length rest ≡ 39 → AreBytes rest → rest ≡ sealed_text (fields_behind 1 rest) (sums_behind rest) ++ double_word (sums_behind rest).own
spelled rest long all =
    let s : Slot = fields_behind 1 rest in
    let sums : SlotSums = sums_behind rest in
    let at : (j k : ℕ) → j + k ≤ 39 → drop j rest ≡ little_bytes k (little_number k (drop j rest)) ++ drop (j + k) rest =
    λ j k low. written_at rest j k (omega (arith, long, low)) all in
    let none : drop 39 rest ≡ [] = drop_all 39 rest (omega (arith, long)) in
    let own : drop 35 rest ≡ double_word sums.own = at 35 4 (omega arith) ∙ ap (λ (t : List ℕ). double_word sums.own ++ t) none in
    let saved_sum : drop 31 rest ≡ double_word sums.saved ++ double_word sums.own = at 31 4 (omega arith) ∙ ap (λ (t : List ℕ). double_word sums.saved ++ t) own in
    let working_sum : drop 27 rest ≡ double_word sums.working ++ double_word sums.saved ++ double_word sums.own = at 27 4 (omega arith) ∙ ap (λ (t : List ℕ). double_word sums.working ++ t) saved_sum in
    let end : List ℕ = double_word sums.working ++ double_word sums.saved ++ double_word sums.own in
    let saved_length : drop 23 rest ≡ double_word s.saved.length ++ end = at 23 4 (omega arith) ∙ ap (λ (t : List ℕ). double_word s.saved.length ++ t) working_sum in
    let saved : drop 19 rest ≡ extent_text s.saved ++ end = at 19 4 (omega arith) ∙ ap (λ (t : List ℕ). double_word s.saved.page ++ t) saved_length in
    let working_length : drop 15 rest ≡ double_word s.working.length ++ extent_text s.saved ++ end = at 15 4 (omega arith) ∙ ap (λ (t : List ℕ). double_word s.working.length ++ t) saved in
    let working : drop 11 rest ≡ extent_text s.working ++ extent_text s.saved ++ end = at 11 4 (omega arith) ∙ ap (λ (t : List ℕ). double_word s.working.page ++ t) working_length in
    let sequence : drop 3 rest ≡ quad_word s.sequence ++ extent_text s.working ++ extent_text s.saved ++ end = at 3 8 (omega arith) ∙ ap (λ (t : List ℕ). quad_word s.sequence ++ t) working in
    let reserved : drop 1 rest ≡ word s.reserved ++ quad_word s.sequence ++ extent_text s.working ++ extent_text s.saved ++ end = at 1 2 (omega arith) ∙ ap (λ (t : List ℕ). word s.reserved ++ t) sequence in
    drop-cons rest 0 0 (omega (arith, long)) ∙ ap (λ (t : List ℕ). s.version ∷ t) reserved

-- The seal.

abbrev IsSealedText : List ℕ → Type 0
IsSealedText rest = (sums_behind rest).own ≡ crc32c (sealed_text (fields_behind 1 rest) (sums_behind rest))

seal_same : (rest other : List ℕ) → length rest ≡ 39 → length other ≡ 39 → AreBytes rest → AreBytes other → AgreeOutsideBurst rest other → IsSealedText rest → IsSealedText other → rest ≡ other
seal_same rest other long long_other all all_other burst sum sum_other =
    let text : List ℕ = sealed_text (fields_behind 1 rest) (sums_behind rest) in
    let text_other : List ℕ = sealed_text (fields_behind 1 other) (sums_behind other) in
    let own : ℕ = (sums_behind other).own in
    let is : rest ≡ text ++ double_word (sums_behind rest).own = spelled rest long all in
    let is_other : other ≡ text_other ++ double_word own = spelled other long_other all_other in
    let agree : AgreeOutsideBurst (text ++ double_word (crc32c text)) (text_other ++ double_word own) =
    subst (λ xs. AgreeOutsideBurst xs (text_other ++ double_word own)) (is ∙ ap (λ (n : ℕ). text ++ double_word n) sum) (subst (AgreeOutsideBurst rest) is_other burst) in
    let same : text ≡ text_other = bytes_law.same_bytes text text_other
    (All-same IsByte text (take 35 rest) (sym (ap (take 35) is)) (All-take IsByte 35 rest all))
    (All-same IsByte text_other (take 35 other) (sym (ap (take 35) is_other)) (All-take IsByte 35 other all_other))
    (seal_told text text_other own agree sum_other) in
    is ∙ ap₂ (λ (t : List ℕ) (n : ℕ). t ++ double_word n) same (sum ∙ ap crc32c same ∙ sym sum_other) ∙ sym is_other

sealed_text_is : (gate : ℕ) (rest : List ℕ) → slice_index rest 0 ≡ 3 → is_sealed (fields_behind gate rest) ≡ true → IsSealedText rest
sealed_text_is gate rest three sealed =
    let s : Slot = fields_behind gate rest in
    let there : s.sums ≡ Some (sums_behind rest) = cond-true _ _ _ (eq-eqb (slice_index rest 0) 3 three) in
    eqb-true (sums_behind rest).own (crc32c (sealed_text s (sums_behind rest))) (sym (ap (is_sealed_by s) there) ∙ sealed)

-- Slots in a file.

pub slot_size : (file : List ℕ) (page : ℕ) → 1024 ≤ length file → page < 2 → length (slot_bytes file page) ≡ 44
slot_size file page long low = omega (arith, length-take 44 (drop (512 * page) file), length-drop (512 * page) file, long, low)

pub slot_is : (file : List ℕ) (page : ℕ) → 1024 ≤ length file → page < 2 → slot_at file page ≡ fields_behind (slice_index (slot_bytes file page) 4) (drop 5 (slot_bytes file page))
slot_is file page long low = fields_are (slot_bytes file page) (let size = slot_size file page long low in omega (arith, size))

behind_gate : (file : List ℕ) (page : ℕ) → 1024 ≤ length file → page < 2 → length (drop 5 (slot_bytes file page)) ≡ 39
behind_gate file page long low = (let size = slot_size file page long low in omega (arith, length-drop 5 (slot_bytes file page), size))

slot_all : (file : List ℕ) (page : ℕ) → AreBytes file → AreBytes (drop 5 (slot_bytes file page))
slot_all file page all = All-drop IsByte 5 (slot_bytes file page) (All-take IsByte 44 (drop (512 * page) file) (All-drop IsByte (512 * page) file all))

slot_seal : (file : List ℕ) (page : ℕ) → 1024 ≤ length file → page < 2 → (slot_at file page).version ≡ 3 → is_sealed (slot_at file page) ≡ true → IsSealedText (drop 5 (slot_bytes file page))
slot_seal file page long low three sealed =
    let is = slot_is file page long low in
    sealed_text_is (slice_index (slot_bytes file page) 4) (drop 5 (slot_bytes file page)) (ap (λ (s : Slot). s.version) (sym is) ∙ three) (ap is_sealed (sym is) ∙ sealed)

-- from the version on the two are the same
pub slot_same : (file other : List ℕ) (page : ℕ) → MaybeDamaged file other → page < 2 → (slot_at file page).version ≡ 3 → (slot_at other page).version ≡ 3
    → is_sealed (slot_at file page) ≡ true → is_sealed (slot_at other page) ≡ true → drop 5 (slot_bytes file page) ≡ drop 5 (slot_bytes other page)
slot_same file other page d low three three_other sealed sealed_other =
    let bytes : List ℕ = slot_bytes file page in
    let bytes_other : List ℕ = slot_bytes other page in
    let long : 1024 ≤ length other = (let same = d.same_length in let first = d.long in omega (arith, same, first)) in
    let size = behind_gate file page d.long low in
    let size_other = behind_gate other page long low in
    let burst : AgreeOutsideBurst (drop 5 bytes) (drop 5 bytes_other) =
    subst (AgreeOutsideBurst (drop 5 bytes)) (take_all 39 (drop 5 bytes_other) (omega (arith, size_other)))
    (subst (λ xs. AgreeOutsideBurst xs (take 39 (drop 5 bytes_other))) (take_all 39 (drop 5 bytes) (omega (arith, size)))
    (part_agrees 5 39 bytes bytes_other (part_agrees (512 * page) 44 file other d.burst))) in
    seal_same (drop 5 bytes) (drop 5 bytes_other) size size_other (slot_all file page d.file_bytes) (slot_all other page d.other_bytes) burst
    (slot_seal file page d.long low three sealed) (slot_seal other page long low three_other sealed_other)

-- what is known of a slot that is open
pub open_slot-is : (file : List ℕ) (page : ℕ) (s : Slot) → open_slot file page ≡ Some s → (s ≡ slot_at file page) × (slice_index (slot_bytes file page) 4 ≡ 1)
open_slot-is file page s e =
    let bytes : List ℕ = slot_bytes file page in
    elim (cases_Bool (same_bytes (take 4 bytes) slot_mark)) [
      | inl marked ↦
          let here = some_if (slice_index bytes 4 == 1) (slot_fields bytes) s (sym (ap (option_and_then if_open) (cond-true _ _ _ marked)) ∙ e) in
          (sym here.1, eqb-true (slice_index bytes 4) 1 here.0)
      | inr other ↦ (let none : None ≡ Some s = sym (ap (option_and_then if_open) (cond-false _ _ _ other)) ∙ e in absurd (cc none))
    ]

pub open_same : (file other : List ℕ) (page : ℕ) (s t : Slot) → MaybeDamaged file other → page < 2 → open_slot file page ≡ Some s → open_slot other page ≡ Some t
    → s.version ≡ 3 → t.version ≡ 3 → is_sealed s ≡ true → is_sealed t ≡ true → t ≡ s
open_same file other page s t d low here there three three_other sealed sealed_other =
    let long : 1024 ≤ length other = (let same = d.same_length in let first = d.long in omega (arith, same, first)) in
    let first = open_slot-is file page s here in
    let second = open_slot-is other page t there in
    let same = slot_same file other page d low (ap (λ (x : Slot). x.version) (sym first.0) ∙ three) (ap (λ (x : Slot). x.version) (sym second.0) ∙ three_other)
    (ap is_sealed (sym first.0) ∙ sealed) (ap is_sealed (sym second.0) ∙ sealed_other) in
    second.0 ∙ slot_is other page long low ∙ ap₂ fields_behind (second.1 ∙ sym first.1) (sym same) ∙ sym (slot_is file page d.long low) ∙ sym first.0

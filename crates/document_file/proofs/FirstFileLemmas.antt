-- The bytes of a file of no block.
use Rattle.std.proofs.Common.{◌≡◌, ◌⊎◌, ℕ, ◌+◌, ◌-◌, ◌<◌, ◌≤◌, Bool, true, false, None, List, [], ◌∷◌, ◌++◌, length, refl, sym, ap, subst, ◌∙◌, arith, inl, inr}
use Rattle.std.specs.Prelude.{max, replicate}
use Rattle.std.proofs.lemmas.Bool.{cases_lt}
use Rattle.std.proofs.lemmas.Grind.{same_number_lists}
use Rattle.std.proofs.lemmas.List.{length-append, length-replicate, get_or-append-add, get_or_append_left, get_or-replicate, get_or_past}
use Rattle.vm_store.specs.Facts.{byte, Holds}
use Rattle.file_format.specs.File.{slot_mark, directory_text, bytes_in, slot_sums_text}
use Rattle.document_file.specs.Ranges.{start_of}
use Rattle.document_file.specs.Slots.{behind_gate, gate_text, sums_of, unsummed_slot}
use Rattle.document_file.specs.Sums.{version_for}
use Rattle.document_file.specs.Making.{first_directory, first_sum, first_unsummed, no_blocks, first_file, FirstFileLaw, IsLaid, IsNewSlots}
use Rattle.document_file.specs.declared.slot.Slots.{Slots}
use Rattle.document_file.specs.declared.table.BlockTable.{BlockTable}
use Rattle.document_file.specs.declared.table.Pair.{Pair}

-- Two files that were laid out over the same bytes are the same.

held_same : (a b bytes : List ℕ) (at k : ℕ) → at ≤ k → k < at + length bytes → Holds a at bytes → Holds b at bytes → byte a k ≡ byte b k
held_same a b bytes at k low high one other =
    let place : k ≡ at + (k - at) = omega arith in
    ap (byte a) place ∙ one.each (k - at) (omega arith) ∙ sym (other.each (k - at) (omega arith)) ∙ sym (ap (byte b) place)

-- Slot 0 has bytes behind its gate, and a text stands somewhere behind the slots.
record AreLaid (gate : ℕ) (rest : List ℕ) (start : ℕ) (text old new : List ℕ) : Type 0 where
  gate_is : byte new 4 ≡ gate
  marked : Holds new 0 slot_mark
  behind : Holds new 5 rest
  second : Holds new 512 slot_mark
  there : Holds new start text
  others : (i : ℕ) → 5 + length rest ≤ i → (i < 512) ⊎ (516 ≤ i) → (i < start) ⊎ (start + length text ≤ i) → byte new i ≡ byte old i
  size : length new ≡ max (length old) (start + length text)

module _ (gate : ℕ) (rest : List ℕ) (start : ℕ) (text old a b : List ℕ) (one : AreLaid gate rest start text old a) (other : AreLaid gate rest start text old b) where
  in_slot : (k : ℕ) → k < 5 + length rest → byte a k ≡ byte b k
  in_slot k low =
      elim (cases_lt k 4) as (λ _. byte a k ≡ byte b k) [
        | inl before ↦ held_same a b slot_mark 0 k (omega arith) (omega arith) one.marked other.marked
        | inr after ↦ elim (cases_lt 4 k) as (λ _. byte a k ≡ byte b k) [
          | inl behind ↦ held_same a b rest 5 k (omega arith) (omega (arith, low)) one.behind other.behind
          | inr four ↦ let is : k ≡ 4 = omega arith in ap (byte a) is ∙ one.gate_is ∙ sym other.gate_is ∙ sym (ap (byte b) is)
        ]
      ]

  elsewhere : (k : ℕ) → 5 + length rest ≤ k → (k < 512) ⊎ (516 ≤ k) → byte a k ≡ byte b k
  elsewhere k high apart =
      let before : (k < start) ⊎ (start + length text ≤ k) → byte a k ≡ byte b k = λ out. one.others k high apart out ∙ sym (other.others k high apart out) in
      elim (cases_lt k start) as (λ _. byte a k ≡ byte b k) [
        | inl low ↦ before (inl low)
        | inr behind ↦ elim (cases_lt k (start + length text)) as (λ _. byte a k ≡ byte b k) [
          | inl inside ↦ held_same a b text start k behind inside one.there other.there
          | inr past ↦ before (inr past)
        ]
      ]

  same_byte : (k : ℕ) → byte a k ≡ byte b k
  unfolding in_slot elsewhere
  same_byte k = elim (cases_lt k (5 + length rest)) as (λ _. byte a k ≡ byte b k) [
    | inl low ↦ in_slot k low
    | inr high ↦ elim (cases_lt k 512) as (λ _. byte a k ≡ byte b k) [
      | inl before ↦ elsewhere k high (inl before)
      | inr after ↦ elim (cases_lt k 516) as (λ _. byte a k ≡ byte b k) [
        | inl inside ↦ held_same a b slot_mark 512 k after inside one.second other.second
        | inr behind ↦ elsewhere k high (inr behind)
      ]
    ]
  ]

  laid_same : a ≡ b
  unfolding same_byte
  laid_same = same_number_lists a b (one.size ∙ sym other.size) (λ k inside. same_byte k)

-- The parts of the file.

front : (c : List ℕ) (at : ℕ) (xs ys : List ℕ) → Holds c at (xs ++ ys) → Holds c at xs
front c at xs ys all = record { within = omega (arith, length-append xs ys, all.within); each = λ i inside. all.each i (omega (arith, length-append xs ys)) ∙ get_or_append_left xs ys 0 i inside }

back : (c : List ℕ) (at : ℕ) (xs ys : List ℕ) → Holds c at (xs ++ ys) → Holds c (at + length xs) ys
back c at xs ys all = record {
  within = omega (arith, length-append xs ys, all.within);
  each = λ i inside.
      let place : at + length xs + i ≡ at + (length xs + i) = omega arith in
      ap (byte c) place ∙ all.each (length xs + i) (omega (arith, length-append xs ys)) ∙ get_or-append-add xs ys i 0;
}

itself : (c : List ℕ) → Holds c 0 c
itself c = record { within = omega arith; each = λ i inside. let same : 0 + i ≡ i = omega arith in ap (byte c) same }

zeros : (c : List ℕ) (at n k : ℕ) → at ≤ k → k < at + n → Holds c at (replicate n 0) → byte c k ≡ 0
zeros c at n k low high held =
    let place : k ≡ at + (k - at) = omega arith in
    let long = length-replicate {A = ℕ} n 0 in
    ap (byte c) place ∙ held.each (k - at) (omega (arith, long)) ∙ get_or-replicate n (k - at) 0 0 (omega arith)

-- the same file, front to back: slot 0, zeros, the mark of slot 1, zeros, a directory
module _ (slot mark text : List ℕ) (n m : ℕ) where
  abbrev parts : List ℕ
  parts = slot ++ (replicate n 0 ++ (mark ++ (replicate m 0 ++ text)))

  slot_part : Holds parts 0 slot
  slot_part = front parts 0 slot (replicate n 0 ++ (mark ++ (replicate m 0 ++ text))) (itself parts)

  behind_slot : Holds parts (0 + length slot) (replicate n 0 ++ (mark ++ (replicate m 0 ++ text)))
  behind_slot = back parts 0 slot (replicate n 0 ++ (mark ++ (replicate m 0 ++ text))) (itself parts)

  first_zeros : Holds parts (0 + length slot) (replicate n 0)
  unfolding behind_slot
  first_zeros = front parts (0 + length slot) (replicate n 0) (mark ++ (replicate m 0 ++ text)) behind_slot

  behind_zeros : Holds parts (0 + length slot + length {A = ℕ} (replicate n 0)) (mark ++ (replicate m 0 ++ text))
  unfolding behind_slot
  behind_zeros = back parts (0 + length slot) (replicate n 0) (mark ++ (replicate m 0 ++ text)) behind_slot

  mark_part : Holds parts (0 + length slot + length {A = ℕ} (replicate n 0)) mark
  unfolding behind_zeros
  mark_part = front parts (0 + length slot + length {A = ℕ} (replicate n 0)) mark (replicate m 0 ++ text) behind_zeros

  behind_mark : Holds parts (0 + length slot + length {A = ℕ} (replicate n 0) + length mark) (replicate m 0 ++ text)
  unfolding behind_zeros
  behind_mark = back parts (0 + length slot + length {A = ℕ} (replicate n 0)) mark (replicate m 0 ++ text) behind_zeros

  second_zeros : Holds parts (0 + length slot + length {A = ℕ} (replicate n 0) + length mark) (replicate m 0)
  unfolding behind_mark
  second_zeros = front parts (0 + length slot + length {A = ℕ} (replicate n 0) + length mark) (replicate m 0) text behind_mark

  text_part : Holds parts (0 + length slot + length {A = ℕ} (replicate n 0) + length mark + length {A = ℕ} (replicate m 0)) text
  unfolding behind_mark
  text_part = back parts (0 + length slot + length {A = ℕ} (replicate n 0) + length mark) (replicate m 0) text behind_mark

length_parts : (slot mark text : List ℕ) (n m : ℕ) → length (parts slot mark text n m) ≡ length slot + (n + (length mark + (m + length text)))
length_parts slot mark text n m =
    let a = length-append slot (replicate n 0 ++ (mark ++ (replicate m 0 ++ text))) in
    let b = length-append (replicate {A = ℕ} n 0) (mark ++ (replicate m 0 ++ text)) in
    let c = length-append mark (replicate m 0 ++ text) in
    let d = length-append (replicate {A = ℕ} m 0) text in
    omega (arith, a, b, c, d, length-replicate {A = ℕ} n 0, length-replicate {A = ℕ} m 0)

empty_byte : (k : ℕ) → byte [] k ≡ 0
empty_byte k = get_or_past [] k 0 (omega arith)

-- what stands behind the gate of the first file's slot
first_behind : Bool → List ℕ
first_behind checksums =
    gate_text (version_for checksums) 1 first_directory first_directory ++ slot_sums_text (sums_of (first_unsummed checksums) (first_sum checksums) (first_sum checksums))

-- the first file is laid out over no bytes
module _ (checksums : Bool) (n : ℕ) (file : List ℕ) where
  abbrev slot : List ℕ
  slot = slot_mark ++ 1 ∷ first_behind checksums

  abbrev text : List ℕ
  text = directory_text (no_blocks checksums)

  laid_parts : file ≡ parts slot slot_mark text n 508 → 5 + length (first_behind checksums) + n ≡ 512 → length text ≡ 16 → AreLaid 1 (first_behind checksums) 1024 text [] file
  unfolding slot_part first_zeros mark_part second_zeros text_part
  laid_parts is long short =
      let whole : List ℕ = parts slot slot_mark text n 508 in
      let here = slot_part slot slot_mark text n 508 in
      let gate : List ℕ = first_behind checksums in
      let zeros_long = length-replicate {A = ℕ} n 0 in
      let more_long = length-replicate {A = ℕ} 508 0 in
      let mark_at : 0 + length slot + length {A = ℕ} (replicate n 0) ≡ 512 = omega (arith, long, zeros_long) in
      let zeros_at : 0 + length slot + length {A = ℕ} (replicate n 0) + length slot_mark ≡ 516 = omega (arith, long, zeros_long) in
      let text_at : 0 + length slot + length {A = ℕ} (replicate n 0) + length slot_mark + length {A = ℕ} (replicate 508 0) ≡ 1024 = omega (arith, long, zeros_long, more_long) in
      let text_there : Holds whole 1024 text = subst (λ k. Holds whole k text) text_at (text_part slot slot_mark text n 508) in
      let more : Holds whole 516 (replicate 508 0) = subst (λ k. Holds whole k (replicate 508 0)) zeros_at (second_zeros slot slot_mark text n 508) in
      let all : length whole ≡ 1040 = length_parts slot slot_mark text n 508 ∙ omega (arith, long, short) in
      subst (AreLaid 1 gate 1024 text []) (sym is)
      (record {
        gate_is = refl;
        marked = front whole 0 slot_mark (1 ∷ gate) here;
        behind = back whole 0 (slot_mark ++ 1 ∷ []) gate here;
        second = subst (λ k. Holds whole k slot_mark) mark_at (mark_part slot slot_mark text n 508);
        there = text_there;
        others = λ i high apart out. elim apart as (λ _. byte whole i ≡ byte [] i) [
          | inl low ↦ zeros whole (0 + length slot) n i (omega (arith, high)) (omega (arith, long, low)) (first_zeros slot slot_mark text n 508) ∙ sym (empty_byte i)
          | inr behind ↦ elim out as (λ _. byte whole i ≡ byte [] i) [
            | inl before ↦ zeros whole 516 508 i behind (omega arith) more ∙ sym (empty_byte i)
            | inr past ↦ get_or_past whole i 0 (omega (arith, all, short, past)) ∙ sym (empty_byte i)
          ]
        ];
        size = omega (arith, all, short);
      })

first_laid : (checksums : Bool) → AreLaid 1 (first_behind checksums) 1024 (directory_text (no_blocks checksums)) [] (first_file checksums)
unfolding first_file first_behind gate_text
first_laid true = laid_parts true 468 (first_file true) refl refl refl
first_laid false = laid_parts false 480 (first_file false) refl refl refl

-- what is laid out over no bytes is the first file
pub first_bytes : (checksums : Bool) (live : BlockTable) (slots : Slots) (c : List ℕ) → IsNewSlots checksums first_directory (directory_text (no_blocks checksums)) live slots → IsLaid 1 slots.version slots.committed (directory_text (no_blocks checksums)) [] c → c ≡ first_file checksums
unfolding laid_same first_behind
first_bytes checksums live slots c first laid =
    let pair : Pair = slots.committed in
    let text : List ℕ = directory_text (no_blocks checksums) in
    let bare : unsummed_slot slots.version 1 pair ≡ first_unsummed checksums = λ i. record { gate = 1; version = first.version i; reserved = 0; sequence = 1; working = first.updated.directory_is i; saved = first.saved.directory_is i; sums = None } in
    let behind : behind_gate slots.version 1 pair ≡ first_behind checksums = λ i.
    gate_text (first.version i) 1 (first.updated.directory_is i) (first.saved.directory_is i) ++ slot_sums_text (sums_of (bare i) (first.updated.sum_is i) (first.saved.sum_is i)) in
    let start : start_of pair.updated.directory ≡ 1024 = ap start_of first.updated.directory_is in
    let made : AreLaid 1 (behind_gate slots.version 1 pair) (start_of pair.updated.directory) text [] c = record { gate_is = laid.gate_is; marked = laid.marked; behind = laid.rest; second = laid.second; there = laid.there; others = laid.others; size = laid.size } in
    laid_same 1 (first_behind checksums) 1024 text [] c (first_file checksums) (subst (λ k. AreLaid 1 (first_behind checksums) k text [] c) start (subst (λ r. AreLaid 1 r (start_of pair.updated.directory) text [] c) behind made)) (first_laid checksums)

-- its directory
pub first_text : (checksums : Bool) → bytes_in (first_file checksums) first_directory ≡ directory_text (no_blocks checksums)
unfolding first_file gate_text
first_text true = refl
first_text false = refl

pub first_file_law : FirstFileLaw
unfolding first_file
first_file_law = record { size = refl; slot = refl; behind_slot = refl; mark = refl; behind_mark = refl; directory = refl }

-- Which slot of a file counts, and what the other one is.
use Rattle.std.proofs.Common.{◌≡◌, ◌⊎◌, ℕ, ◌+◌, ◌-◌, ◌*◌, ◌^◌, ◌<◌, ◌≤◌, ◌==◌, true, false, List, [], ◌∷◌, ◌++◌, length, take, drop, slice_index, Option, None, Some, All, refl, sym, ap, ap₂, subst, ◌∙◌, arith, inl, inr, length-take, length-drop, length-append, eqb-true, eq-eqb}
use Rattle.std.specs.Prelude.{if◌then◌else◌}
use Rattle.std.specs.Option.{option_and_then, option_map}
use Rattle.std.proofs.lemmas.Bool.{cases_Bool, cases_lt, cond-true, cond-false, eqb-false}
use Rattle.std.proofs.lemmas.List.{get_or-drop, get_or-take, get_or_append_left, get_or-append_right, take-append-drop}
use Rattle.byteorder.specs.Endian.{little_bytes, little_number}
use Rattle.byteorder.specs.Numbers.{little_number-reads_back}
use Rattle.vm_store.specs.Facts.{byte, Holds}
use Rattle.geos_model.specs.Bytes.{same_bytes}
use Rattle.geos_model.specs.Words.{word, double_word, quad_word, word_at, quad_word_at}
use Rattle.file_format.specs.File.{extent_text, is_sealed, is_sealed_by, saved_sum, slot_mark, slot_fields, slot_sums_at, slot_sums_text, if_open, open_slot, working_sum}
use Rattle.checksum.specs.Crc32c.{crc32c}
use Rattle.file_format.specs.declared.file.Extent.{Extent}
use Rattle.file_format.specs.declared.file.Slot.{Slot}
use Rattle.file_format.specs.declared.file.SlotSums.{SlotSums}
use Rattle.geos_model.proofs.Arrays.{same_bytes-is}
use Rattle.file_format.proofs.Files.{some_if, get_or_same}
use Rattle.geos_model.proofs.Numbers.{number_law}
use Rattle.document_file.specs.Ranges.{end_of}
use Rattle.document_file.specs.Slots.{gate_text, sums_of, unsummed_slot, pair_extents, LeadsTo, IsUnmarked, IsOlder, IsBeside}
use Rattle.file_format.specs.Slots.{IsRawSlot, IsFoundSlot, Beaten}
use Rattle.file_format.specs.declared.stored_slot.RawSlot.{RawSlot}
use Rattle.file_format.specs.declared.stored_slot.FoundSlot.{FoundSlot}
use Rattle.document_file.specs.Opened.{IsActiveSlot}
use Rattle.document_file.specs.declared.table.Pair.{Pair}
use Rattle.document_file.specs.declared.slot.SpareSlot.{SpareSlot}
use Rattle.document_file.specs.declared.slot.SpareSlot.TheVariants.{Shut, Stale}

-- The slot that counts.

module _ (file : List ℕ) (page : ℕ) where
  -- what is known of a slot that is open
  pub record IsOpened (s : Slot) : Type 0 where
    pub marked : take 4 (take 44 (drop (512 * page) file)) ≡ slot_mark
    pub read : s ≡ slot_fields (take 44 (drop (512 * page) file))
    pub gate : slice_index (take 44 (drop (512 * page) file)) 4 ≡ 1

pub is_opened : (file : List ℕ) (page : ℕ) (s : Slot) → open_slot file page ≡ Some s → IsOpened file page s
is_opened file page s e =
    let bytes = take 44 (drop (512 * page) file) in
    elim (cases_Bool (same_bytes (take 4 bytes) slot_mark)) as (λ _. IsOpened file page s) [
      | inl marked ↦
          let here = some_if (slice_index bytes 4 == 1) (slot_fields bytes) s (sym (ap (option_and_then if_open) (cond-true _ _ _ marked)) ∙ e) in
          record { marked = same_bytes-is (take 4 bytes) slot_mark marked; read = sym here.1; gate = eqb-true (slice_index bytes 4) 1 here.0 }
      | inr other ↦ (let none : None ≡ Some s = sym (ap (option_and_then if_open) (cond-false _ _ _ other)) ∙ e in absurd (cc none))
    ]

-- the k bytes of a number
written : (k : ℕ) (xs : List ℕ) → k ≤ length xs → ((i : ℕ) → i < k → byte xs i < 256) → little_bytes k (little_number k xs) ≡ take k xs
written k xs long small =
    let part = take k xs in
    let size : length part ≡ k = omega (arith, length-take k xs, long) in
    let all : All (λ b. b < 256) part = λ i d inside.
    let low : i < k = omega (arith, inside, size) in
    let is = get_or_same part i d 0 inside ∙ get_or-take k xs i 0 low in
    let one = small i low in
    omega (arith, is, one) in
    let m = little_number k part in
    let back : little_bytes k m ≡ part = subst (λ n. little_bytes n (little_number n part) ≡ part) size (number_law.written_back part all) in
    let range : m < 256 ^ k = subst (λ n. little_number n part < 256 ^ n) size (number_law.in_range part all) in
    let number : little_number k xs ≡ m = ap (little_number k) (sym (take-append-drop k xs) ∙ ap (λ l. l ++ drop k xs) (sym back)) ∙ little_number-reads_back k m (drop k xs) range in
    ap (little_bytes k) number ∙ back

-- a number of a slot stands in the file
field_held : (file : List ℕ) (n j k : ℕ) → n + 44 ≤ length file → j + k ≤ 44 → ((i : ℕ) → i < 44 → byte file (n + i) < 256) → Holds file (n + j) (little_bytes k (little_number k (drop j (take 44 (drop n file)))))
field_held file n j k within low small =
    let bytes = take 44 (drop n file) in
    let size : length bytes ≡ 44 = omega (arith, length-take 44 (drop n file), length-drop n file, within) in
    let same : (i : ℕ) → i < k → byte (drop j bytes) i ≡ byte file (n + (j + i)) = λ i less.
    get_or-drop j bytes i 0 ∙ get_or-take 44 (drop n file) (j + i) 0 (omega arith) ∙ get_or-drop n file (j + i) 0 in
    let is = written k (drop j bytes) (omega (arith, length-drop j bytes, size, low)) (λ i less.
    let one = small (j + i) (omega arith) in
    let at = same i less in
    omega (arith, one, at)) in
    let part = take k (drop j bytes) in
    let long : length part ≡ k = omega (arith, length-take k (drop j bytes), length-drop j bytes, size, low) in
    let held : Holds file (n + j) part = record {
      within = omega (arith, long, low, within);
      each = λ i inside.
          let less : i < k = omega (arith, inside, long) in
          let at : n + j + i ≡ n + (j + i) = omega arith in
          ap (byte file) at ∙ sym (get_or-take k (drop j bytes) i 0 less ∙ same i less);
    } in
    subst (Holds file (n + j)) (sym is) held

holds_append : (file : List ℕ) (at : ℕ) (xs ys : List ℕ) → Holds file at xs → Holds file (at + length xs) ys → Holds file at (xs ++ ys)
holds_append file at xs ys first second = record {
  within = omega (arith, second.within, length-append xs ys);
  each = λ i inside. elim (cases_lt i (length xs)) as (λ _. byte file (at + i) ≡ byte (xs ++ ys) i) [
    | inl low ↦ first.each i low ∙ sym (get_or_append_left xs ys 0 i low)
    | inr high ↦
        let is : at + i ≡ at + length xs + (i - length xs) = omega arith in
        ap (byte file) is ∙ second.each (i - length xs) (omega (arith, length-append xs ys, inside)) ∙ sym (get_or-append_right xs ys (length xs) i 0 refl high)
  ];
}

-- the same place
held_at : (file : List ℕ) (at to : ℕ) (xs : List ℕ) → at ≡ to → Holds file at xs → Holds file to xs
held_at file at to xs same held = subst (λ m. Holds file m xs) same held

holds_byte : (file : List ℕ) (at x : ℕ) → at < length file → byte file at ≡ x → Holds file at (x ∷ [])
holds_byte file at x within is = record {
  within = omega (arith, within);
  each = λ i inside.
      let none : i ≡ 0 = omega (arith, inside) in
      let here : at + i ≡ at = omega (arith, none) in
      ap (byte file) here ∙ is ∙ sym (ap (byte (x ∷ [])) none);
}

-- the sums of a slot stand in the file
sums_held : (file : List ℕ) (n version : ℕ) (o : Option SlotSums) → n + 44 ≤ length file → ((i : ℕ) → i < 44 → byte file (n + i) < 256) → o ≡ slot_sums_at version (take 44 (drop n file)) → Holds file (n + 32) (slot_sums_text o)
sums_held file n version None within small read = record { within = omega (arith, within); each = λ i inside. absurd (omega (arith, inside)) }
sums_held file n version (Some t) within small read =
    let bytes = take 44 (drop n file) in
    let here = some_if (version == 3) (let made : SlotSums = record { working = little_number 4 (drop 32 bytes); saved = little_number 4 (drop 36 bytes); own = little_number 4 (drop 40 bytes) } in made) t (sym read) in
    let held : (j : ℕ) → j + 4 ≤ 44 → Holds file (n + j) (little_bytes 4 (little_number 4 (drop j bytes))) = λ j low. field_held file n j 4 within low small in
    let working : Holds file (n + 32) (double_word t.working) = subst (λ (x : SlotSums). Holds file (n + 32) (double_word x.working)) here.1 (held 32 (omega arith)) in
    let saved : Holds file (n + 36) (double_word t.saved) = subst (λ (x : SlotSums). Holds file (n + 36) (double_word x.saved)) here.1 (held 36 (omega arith)) in
    let own : Holds file (n + 40) (double_word t.own) = subst (λ (x : SlotSums). Holds file (n + 40) (double_word x.own)) here.1 (held 40 (omega arith)) in
    let two = holds_append file (n + 36) (double_word t.saved) (double_word t.own) saved (held_at file (n + 40) (n + 36 + 4) _ (omega arith) own) in
    holds_append file (n + 32) (double_word t.working) (double_word t.saved ++ double_word t.own) working (held_at file (n + 36) (n + 32 + 4) _ (omega arith) two)

-- the sums of a slot, where they are right
sums_are : (s : Slot) (o : Option SlotSums) (pair : Pair) → s.sums ≡ o → is_sealed_by s o ≡ true → s.reserved ≡ 0 → pair.updated.directory ≡ s.working → pair.saved.directory ≡ s.saved → pair.updated.sum ≡ option_map (λ t. t.working) o → pair.saved.sum ≡ option_map (λ t. t.saved) o
    → sums_of (unsummed_slot s.version s.sequence pair) pair.updated.sum pair.saved.sum ≡ o
sums_are s None pair is sealed zeros working saved first second = ap (λ (o : Option ℕ). sums_of (unsummed_slot s.version s.sequence pair) o pair.saved.sum) first
sums_are s (Some t) pair is sealed zeros working saved first second =
    let base : Slot = unsummed_slot s.version s.sequence pair in
    let made : ℕ → Option SlotSums = λ own. Some (record { working = t.working; saved = t.saved; own = own }) in
    let text : ℕ → Extent → Extent → List ℕ = λ r w v. s.version ∷ word r ++ quad_word s.sequence ++ extent_text w ++ extent_text v ++ double_word t.working ++ double_word t.saved in
    let same : text 0 pair.updated.directory pair.saved.directory ≡ text s.reserved s.working s.saved = ap (λ r. text r pair.updated.directory pair.saved.directory) (sym zeros) ∙ ap₂ (text s.reserved) working saved in
    ap₂ (sums_of base) first second
    ∙ ap made (ap crc32c same ∙ sym (eqb-true t.own (crc32c (text s.reserved s.working s.saved)) sealed))

-- what is known of the slot that counts
pub record IsGood (s : Slot) (pair : Pair) : Type 0 where
  pub reserved : s.reserved ≡ 0
  pub updated : pair.updated.directory ≡ s.working
  pub saved : pair.saved.directory ≡ s.saved
  pub updated_sum : pair.updated.sum ≡ working_sum s
  pub saved_sum : pair.saved.sum ≡ saved_sum s
  pub sealed : is_sealed s ≡ true

pub slot_leads : (file : List ℕ) (page : ℕ) (s : Slot) (pair : Pair) → 512 * page + 44 ≤ length file → ((i : ℕ) → i < 44 → byte file (512 * page + i) < 256) → open_slot file page ≡ Some s → IsGood s pair
    → All (λ e. end_of e ≤ length file) (pair_extents pair) → (byte file (512 * page + 4) ≡ 1) × LeadsTo page s.version s.sequence pair file file
unfolding gate_text
slot_leads file page s pair within small was good inside =
    let n : ℕ = 512 * page in
    let bytes = take 44 (drop n file) in
    let one = is_opened file page s was in
    let at : (i : ℕ) → i < 44 → byte bytes i ≡ byte file (n + i) = λ i low. get_or-take 44 (drop n file) i 0 low ∙ get_or-drop n file i 0 in
    let size : length bytes ≡ 44 = omega (arith, length-take 44 (drop n file), length-drop n file, within) in
    let held : (j k : ℕ) → j + k ≤ 44 → Holds file (n + j) (little_bytes k (little_number k (drop j bytes))) = λ j k low. field_held file n j k within low small in
    let version : byte file (n + 5) ≡ s.version = sym (at 5 (omega arith)) ∙ sym (ap (λ x. x.version) one.read) in
    let number : word_at bytes 6 ≡ 0 = sym (ap (λ x. x.reserved) one.read) ∙ good.reserved in
    let zeros : Holds file (n + 6) (0 ∷ 0 ∷ []) = subst (λ m. Holds file (n + 6) (little_bytes 2 m)) number (held 6 2 (omega arith)) in
    let sequence : Holds file (n + 8) (little_bytes 8 s.sequence) = subst (λ x. Holds file (n + 8) (little_bytes 8 x.sequence)) (sym one.read) (held 8 8 (omega arith)) in
    let working : Holds file (n + 16) (extent_text pair.updated.directory) =
    subst (λ e. Holds file (n + 16) (extent_text e)) (sym (good.updated ∙ ap (λ x. x.working) one.read)) (holds_append file (n + 16) (little_bytes 4 (little_number 4 (drop 16 bytes))) (little_bytes 4 (little_number 4 (drop 20 bytes))) (held 16 4 (omega arith)) (held_at file (n + 20) (n + 16 + 4) _ (omega arith) (held 20 4 (omega arith)))) in
    let saved : Holds file (n + 24) (extent_text pair.saved.directory) =
    subst (λ e. Holds file (n + 24) (extent_text e)) (sym (good.saved ∙ ap (λ x. x.saved) one.read)) (holds_append file (n + 24) (little_bytes 4 (little_number 4 (drop 24 bytes))) (little_bytes 4 (little_number 4 (drop 28 bytes))) (held 24 4 (omega arith)) (held_at file (n + 28) (n + 24 + 4) _ (omega arith) (held 28 4 (omega arith)))) in
    let both = holds_append file (n + 16) (extent_text pair.updated.directory) (extent_text pair.saved.directory) working (held_at file (n + 24) (n + 16 + 8) _ (omega arith) saved) in
    let numbers = holds_append file (n + 8) (little_bytes 8 s.sequence) (extent_text pair.updated.directory ++ extent_text pair.saved.directory) sequence (held_at file (n + 16) (n + 8 + 8) _ (omega arith) both) in
    let behind = holds_append file (n + 6) (0 ∷ 0 ∷ []) (little_bytes 8 s.sequence ++ extent_text pair.updated.directory ++ extent_text pair.saved.directory) zeros (held_at file (n + 8) (n + 6 + 2) _ (omega arith) numbers) in
    let front = holds_append file (n + 5) (s.version ∷ []) (0 ∷ 0 ∷ little_bytes 8 s.sequence ++ extent_text pair.updated.directory ++ extent_text pair.saved.directory) (holds_byte file (n + 5) s.version (omega (arith, within)) version) (held_at file (n + 6) (n + 5 + 1) _ (omega arith) behind) in
    let sums = sums_are s s.sums pair refl good.sealed good.reserved good.updated good.saved good.updated_sum good.saved_sum in
    let read : s.sums ≡ slot_sums_at s.version bytes = ap (λ x. x.sums) one.read ∙ ap (λ v. slot_sums_at v bytes) (sym (ap (λ x. x.version) one.read)) in
    let end : Holds file (n + 32) (slot_sums_text s.sums) = sums_held file n s.version s.sums within small read in (
      sym (at 4 (omega arith)) ∙ one.gate,
      record {
        marked = record {
          within = omega (arith, within);
          each = λ i low.
              let less : i < 4 = omega (arith, low) in
              sym (at i (omega arith)) ∙ sym (get_or-take 4 bytes i 0 less) ∙ ap (λ xs. byte xs i) one.marked;
        };
        rest = subst (λ (o : Option SlotSums). Holds file (n + 5) (gate_text s.version s.sequence pair.updated.directory pair.saved.directory ++ slot_sums_text o)) (sym sums) (holds_append file (n + 5) (gate_text s.version s.sequence pair.updated.directory pair.saved.directory) (slot_sums_text s.sums) front (held_at file (n + 32) (n + 5 + 27) _ (omega arith) end));
        kept = λ k d low. record { within = inside k d low; bytes = λ i from to. refl };
      },
    )

-- The other slot.

lower_than : (o : Option Slot) (s : Slot) (n : ℕ) → o ≡ Some s → Beaten o n → s.sequence < n
lower_than o s n is (inl none) = (let wrong : None ≡ Some s = sym none ∙ is in absurd (cc wrong))
lower_than o s n is (inr older) =
    let both : Some older.0 ≡ Some s = sym older.1 ∙ is in
    let same : older.0 ≡ s = cc both in
    subst (λ t. t.sequence < n) same older.2

stale_beside : (file : List ℕ) (page n : ℕ) (raw : RawSlot) → IsRawSlot file page raw → Beaten (open_slot file page) n → raw.gate ≡ 1 → IsUnmarked page file ⊎ IsOlder page n file
stale_beside file page n raw is beaten gate =
    let at : ℕ = 512 * page in
    let bytes = take 44 (drop at file) in
    let size : length bytes ≡ 44 = omega (arith, length-take 44 (drop at file), length-drop at file, is.within) in
    let same : (i : ℕ) → i < 44 → byte bytes i ≡ byte file (at + i) = λ i low. get_or-take 44 (drop at file) i 0 low ∙ get_or-drop at file i 0 in
    let four : length (take 4 bytes) ≡ 4 = omega (arith, length-take 4 bytes, size) in
    let opened : slice_index bytes 4 ≡ 1 = same 4 (omega arith) ∙ sym is.gate ∙ gate in
    elim (cases_Bool (same_bytes (take 4 bytes) slot_mark)) as (λ _. IsUnmarked page file ⊎ IsOlder page n file) [
      | inl marked ↦
          let there : open_slot file page ≡ Some (slot_fields bytes) = ap (option_and_then if_open) (cond-true _ _ _ marked) ∙ cond-true _ _ _ (eq-eqb (slice_index bytes 4) 1 opened) in
          inr (record { number = quad_word_at bytes 8; lower = lower_than (open_slot file page) (slot_fields bytes) n there beaten; there = field_held file at 8 8 is.within (omega arith) is.bytes })
      | inr other ↦ inl (record {
        bytes = take 4 bytes;
        size = four;
        differs = λ e. (let wrong : true ≡ false = sym (ap (λ xs. same_bytes xs slot_mark) e) ∙ other in absurd (cc wrong));
        there = record {
          within = omega (arith, is.within, four);
          each = λ i low.
              let less : i < 4 = omega (arith, low, four) in
              sym (same i (omega arith)) ∙ sym (get_or-take 4 bytes i 0 less);
        };
      })
    ]

beside_one : (version : ℕ) (file : List ℕ) (page n : ℕ) (raw : RawSlot) → IsRawSlot file page raw → Beaten (open_slot file page) n → IsBeside version (if raw.gate == 1 then Stale else Shut) page n file file
beside_one version file page n raw is beaten = elim (cases_Bool (raw.gate == 1)) as (λ _. IsBeside version (if raw.gate == 1 then Stale else Shut) page n file file) [
  | inl gate ↦ subst (λ o. IsBeside version o page n file file) (sym (cond-true _ _ _ gate)) (stale_beside file page n raw is beaten (eqb-true raw.gate 1 gate))
  | inr shut ↦ subst (λ o. IsBeside version o page n file file) (sym (cond-false _ _ _ shut)) (λ e. absurd (eqb-false raw.gate 1 shut (is.gate ∙ e)))
]

-- What was found.

pub active_slot_is : (file : List ℕ) (found : FoundSlot) (spare : SpareSlot) → IsFoundSlot file found → spare ≡ (if found.other.gate == 1 then Stale else Shut) → IsActiveSlot file (record { second = found.second; slot = found.slot; spare = spare })
active_slot_is file found spare is e =
    let page : ℕ = if found.second then 0 else 1 in
    record {
      long = is.long;
      bytes = is.bytes;
      counts = is.counts;
      opened = is.opened;
      beside = λ next. subst (λ o. IsBeside next o page found.slot.sequence file file) (sym e) (beside_one next file page found.slot.sequence found.other is.other is.beaten);
    }

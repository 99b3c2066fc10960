-- What is written to a file reads back, and what stands in it rests on the bytes of its extents.
use Rattle.std.proofs.Common.{◌≡◌, ◌≢◌, ◌⊎◌, Option, ℕ, zero, suc, ◌+◌, ◌*◌, ◌<◌, ◌≤◌, Bool, true, false, cond, ◌&&◌, ◌||◌, ◌/◌, List, [], ◌∷◌, ◌++◌, map, length, drop, Some, None, is_some, All, ◌==◌, nat_lt, nat_le, flat_map, get_or, refl, sym, ap, ap₂, subst, ◌∙◌, arith, inl, inr, leb-true, ltb-true, eqb-true, eq-eqb, ne_eqb, append_assoc, length-append}
use Rattle.std.proofs.Math.Seq.{drop-cons, drop-append-add}
use native.Mathlib.Nat.{mul-suc, mul-zero}
use Rattle.std.proofs.lemmas.Bool.{cases_Bool, and_parts, and_from, cond-true, cond-false}
use Rattle.std.proofs.lemmas.List.FromFn.{fill_by_all, get_or-map-range_with_len}
use Rattle.std.proofs.lemmas.List.Sums.{AllPass-from_list_all}
use Rattle.std.specs.List.{range_with_len, list_all, list_any}
use Rattle.byteorder.specs.Endian.{little_number}
use Rattle.byteorder.specs.Numbers.{little_number-reads_back}
use Rattle.geos_model.specs.Words.{word, double_word, quad_word, word_at, quad_word_at}
use Rattle.geos_model.specs.Bytes.{same_bytes}
use Rattle.geos_model.specs.Document.{is_valid_body, most_blocks, FitAttributes}
use Rattle.geos_model.specs.Image.{image, body_read, body_of}
use Rattle.file_format.specs.File.{Directory, extent_text, extent_at, slot_sums_text, slot_text, slot_sums_at, slot_fields, slot_of, type_text, number_or_zero, sum_text, entry_length, entry_text, directory_text, type_at, sum_at, entry_read, entry_start, directory_read, is_in_file, is_rising, is_entry, is_map_block, is_version_in, is_directory, directory_in, longest_image, greatest_handle, page_limit, page_limit_of}
use Rattle.file_format.specs.FileLaws.{FitsExtent, FitSlotSums, FitsSlot, FitsEntry, FitTypes, FitsSum, FitSums, FitsDirectory}
use Rattle.geos_model.specs.declared.command.Body.{Body}
use Rattle.file_format.specs.declared.file.Extent.{Extent}
use Rattle.file_format.specs.declared.file.Entry.{Entry}
use Rattle.file_format.specs.declared.file.Slot.{Slot}
use Rattle.file_format.specs.declared.file.SlotSums.{SlotSums}
use Rattle.geos_model.proofs.Images.{body_read-body, word-reads_back}
use Rattle.geos_model.proofs.Arrays.{same_bytes-is, same_bytes-refl}

-- a value that is there where a test holds
pub some_if : {A : Type 0} (test : Bool) (a b : A) → cond test (Some a) None ≡ Some b → (test ≡ true) × (a ≡ b)
some_if test a b e =
    elim (cases_Bool test) [
      | inl so ↦ (let some : Some a ≡ Some b = sym (cond-true _ _ _ so) ∙ e in
          let is : a ≡ b = cc in
          (so, is))
      | inr other ↦ (let none : None ≡ Some b = sym (cond-false _ _ _ other) ∙ e in absurd (cc))
    ]

-- a disjunction whose first part is false
pub or_later : (a b : Bool) → (a || b) ≡ true → a ≡ false → b ≡ true
or_later true b h f = absurd (cc f)
or_later false b h f = h

-- at a place within a list, what stands past its end doesn't matter
pub get_or_same : {A : Type 0} (xs : List A) (k : ℕ) (d e : A) → k < length xs → get_or xs k d ≡ get_or xs k e
get_or_same [] k d e l = absurd (omega arith)
get_or_same (x ∷ xs) zero d e l = refl
get_or_same (x ∷ xs) (suc k) d e l = get_or_same xs k d e (omega arith)

-- Bodies.

pub body_of-some : (bytes : List ℕ) (b : Body) → body_of bytes ≡ Some b → (is_valid_body b ≡ true) × (image b ≡ bytes)
unfolding body_of
body_of-some bytes b e =
    let read : Body = body_read bytes in
    let here = some_if (is_valid_body read && same_bytes (image read) bytes) read b e in
    let parts = and_parts (is_valid_body b) (same_bytes (image b) bytes) (subst (λ r. (is_valid_body r && same_bytes (image r) bytes) ≡ true) here.1 here.0) in
    (parts.0, same_bytes-is (image b) bytes parts.1)

pub body_of-image : (b : Body) → is_valid_body b ≡ true → body_of (image b) ≡ Some b
unfolding body_of
body_of-image b valid =
    let read : body_read (image b) ≡ b = body_read-body b valid in
    let tests : (is_valid_body b && same_bytes (image b) (image b)) ≡ true = and_from (is_valid_body b) (same_bytes (image b) (image b)) valid (same_bytes-refl (image b)) in
    ap (λ (r : Body). cond (is_valid_body r && same_bytes (image r) (image b)) (Some r) None) read ∙ cond-true _ _ _ tests

-- Slots.

extent-reads_back : (e : Extent) (rest : List ℕ) → FitsExtent e → extent_at (extent_text e ++ rest) 0 ≡ e
extent-reads_back e rest fits =
    let page : little_number 4 (double_word e.page ++ double_word e.length ++ rest) ≡ e.page = little_number-reads_back 4 e.page (double_word e.length ++ rest) fits.0 in
    let len : little_number 4 (double_word e.length ++ rest) ≡ e.length = little_number-reads_back 4 e.length rest fits.1 in
    ap₂ (λ (p n : ℕ). let made : Extent = record { page = p; length = n } in made) page len

slot_size_of : (gate version reserved sequence : ℕ) (working saved : Extent) (sums : Option SlotSums) → length (let s : Slot = record { gate = gate; version = version; reserved = reserved; sequence = sequence; working = working; saved = saved; sums = sums } in slot_text s) ≡ cond (is_some sums) 44 32
slot_size_of gate version reserved sequence working saved None = refl
slot_size_of gate version reserved sequence working saved (Some t) = refl

pub slot_size : (s : Slot) → length (slot_text s) ≡ cond (is_some s.sums) 44 32
slot_size s = slot_size_of s.gate s.version s.reserved s.sequence s.working s.saved s.sums

-- the sums that stand at the start of bytes, for a version
sums_read : ℕ → List ℕ → Option SlotSums
sums_read version bytes =
    cond (version == 3) (let made : SlotSums = record { working = little_number 4 bytes; saved = little_number 4 (drop 4 bytes); own = little_number 4 (drop 8 bytes) } in Some made) None

slot_sums-read_back : (version : ℕ) (sums : Option SlotSums) (rest : List ℕ) → FitSlotSums version sums → sums_read version (slot_sums_text sums ++ rest) ≡ sums
unfolding sums_read
slot_sums-read_back version None rest fits = cond-false _ _ _ (ne_eqb version 3 fits)
slot_sums-read_back version (Some t) rest fits =
    let three : (version == 3) ≡ true = eq-eqb version 3 fits.0 in
    let made : ℕ → ℕ → ℕ → Option SlotSums = λ w v o. Some (record { working = w; saved = v; own = o }) in
    let working : little_number 4 (double_word t.working ++ double_word t.saved ++ double_word t.own ++ rest) ≡ t.working = little_number-reads_back 4 t.working (double_word t.saved ++ double_word t.own ++ rest) fits.1 in
    let saved : little_number 4 (double_word t.saved ++ double_word t.own ++ rest) ≡ t.saved = little_number-reads_back 4 t.saved (double_word t.own ++ rest) fits.2 in
    let own : little_number 4 (double_word t.own ++ rest) ≡ t.own = little_number-reads_back 4 t.own rest fits.3 in
    cond-true _ _ _ three
    ∙ ap₂ (λ (w v : ℕ). made w v (little_number 4 (double_word t.own ++ rest))) working saved
    ∙ ap (made t.working t.saved) own

slot_read-text : (s : Slot) (rest : List ℕ) → FitsSlot s → slot_fields (slot_text s ++ rest) ≡ s
unfolding sums_read
slot_read-text s rest fits =
    let text : List ℕ = slot_text s ++ rest in
    let end : List ℕ = slot_sums_text s.sums ++ rest in
    let behind : List ℕ = quad_word s.sequence ++ extent_text s.working ++ extent_text s.saved ++ end in
    let reserved : word_at text 6 ≡ s.reserved = word-reads_back s.reserved behind fits.reserved in
    let sequence : quad_word_at text 8 ≡ s.sequence = little_number-reads_back 8 s.sequence (extent_text s.working ++ extent_text s.saved ++ end) fits.sequence in
    let working : extent_at text 16 ≡ s.working = extent-reads_back s.working (extent_text s.saved ++ end) fits.working in
    let saved : extent_at text 24 ≡ s.saved = extent-reads_back s.saved end fits.saved in
    let sums : slot_sums_at s.version text ≡ s.sums = slot_sums-read_back s.version s.sums rest fits.sums in
    let made : ℕ → ℕ → Extent → Extent → Option SlotSums → Slot = λ r q w v t. record { gate = s.gate; version = s.version; reserved = r; sequence = q; working = w; saved = v; sums = t } in
    ap₂ (λ (r q : ℕ). made r q (extent_at text 16) (extent_at text 24) (slot_sums_at s.version text)) reserved sequence
    ∙ ap₂ (λ (w v : Extent). made s.reserved s.sequence w v (slot_sums_at s.version text)) working saved
    ∙ ap (made s.reserved s.sequence s.working s.saved) sums

pub slot_of-text : (s : Slot) (rest : List ℕ) → FitsSlot s → slot_of (slot_text s ++ rest) ≡ Some s
slot_of-text s rest fits = ap Some (slot_read-text s rest fits)

-- Versions.

-- a choice by a version is below what both are below
chosen-most : (test : Bool) (a b m : ℕ) → a ≤ m → b ≤ m → cond test a b ≤ m
chosen-most true a b m first second = first
chosen-most false a b m first second = second

pub page_limit_of-most : (version : ℕ) → page_limit_of version ≤ page_limit
page_limit_of-most version = chosen-most (version == 1) (page_limit_of 1) page_limit page_limit (omega arith) (omega arith)

pub greatest_handle-most : (version : ℕ) → greatest_handle version ≤ most_blocks
greatest_handle-most version = chosen-most (version == 1) (greatest_handle 1) most_blocks most_blocks (omega arith) (omega arith)

-- Of a directory of a version that can be in a file of one.
abbrev pub VersionsAgree : ℕ → ℕ → Type 0
VersionsAgree file_version version = ((file_version ≢ 3) × ((version ≡ 1) ⊎ ((version ≡ 2) × (file_version ≡ 2)))) ⊎ ((version ≡ 3) × (file_version ≡ 3))

-- in a file of a version a directory has version 1, or both have version 2; or both have version 3
pub is_version_in-parts : (file_version version : ℕ) → is_version_in file_version version ≡ true → VersionsAgree file_version version
is_version_in-parts file_version version h = elim (cases_Bool (file_version == 3)) [
  | inl three ↦ inr (eqb-true version 3 (sym (cond-true _ _ _ three) ∙ h), eqb-true file_version 3 three)
  | inr older ↦
      let rest : (version == 1 || (version == 2 && file_version == 2)) ≡ true = sym (cond-false _ _ _ older) ∙ h in
      let not_three : file_version ≢ 3 = λ is. absurd (cc (sym older ∙ eq-eqb file_version 3 is)) in
      elim (cases_Bool (version == 1)) [
        | inl one ↦ inl (not_three, inl (eqb-true version 1 one))
        | inr other ↦
            let parts = and_parts (version == 2) (file_version == 2) (or_later (version == 1) (version == 2 && file_version == 2) rest other) in
            inl (not_three, inr (eqb-true version 2 parts.0, eqb-true file_version 2 parts.1))
      ]
]

pub is_version_in-two : is_version_in 2 2 ≡ true
is_version_in-two = refl

pub is_version_in-first : (version : ℕ) → is_version_in 1 version ≡ true → version ≡ 1
is_version_in-first version h = elim (is_version_in-parts 1 version h) [
  | inl older ↦ elim older.1 [
    | inl one ↦ one
    | inr two ↦ (let not_two : 1 ≡ 2 = two.1 in absurd (omega (arith, not_two)))
  ]
  | inr three ↦ (let not_three : 1 ≡ 3 = three.1 in absurd (omega (arith, not_three)))
]

pub is_version_in-fits : (file_version version : ℕ) → is_version_in file_version version ≡ true → version < 65536
is_version_in-fits file_version version h = elim (is_version_in-parts file_version version h) [
  | inl older ↦ elim older.1 [
    | inl one ↦ omega (arith, one)
    | inr two ↦ (let is : version ≡ 2 = two.0 in omega (arith, is))
  ]
  | inr three ↦ (let is : version ≡ 3 = three.0 in omega (arith, is))
]

pub is_version_in-newer : (file_version version : ℕ) → file_version ≢ 3 → is_version_in file_version version ≡ true → is_version_in 2 version ≡ true
is_version_in-newer file_version version not_three h = elim (is_version_in-parts file_version version h) [
  | inl older ↦ elim older.1 [
    | inl one ↦ subst (λ v. is_version_in 2 v ≡ true) (sym one) refl
    | inr two ↦ subst (λ v. is_version_in 2 v ≡ true) (sym two.0) refl
  ]
  | inr three ↦ absurd (not_three three.1)
]

-- a directory of an older file has no sums
pub is_version_in-older : (file_version version : ℕ) → file_version ≢ 3 → is_version_in file_version version ≡ true → version ≢ 3
is_version_in-older file_version version not_three h is = elim (is_version_in-parts file_version version h) [
  | inl older ↦ elim older.1 [
    | inl one ↦ absurd (omega (arith, one, is))
    | inr two ↦ (let other : version ≡ 2 = two.0 in absurd (omega (arith, other, is)))
  ]
  | inr three ↦ absurd (not_three three.1)
]

-- Directories.

length-chosen : (test : Bool) (t : ℕ) → length (cond test (0 ∷ 0 ∷ []) (word t)) ≡ 2
length-chosen true t = refl
length-chosen false t = refl

pub length-type : (version t : ℕ) → length (type_text version t) ≡ 2
length-type version t = length-chosen (version == 1) t

-- where a type fits the version its text is its word
pub type_text-word : (version t : ℕ) → (version ≡ 1 → t ≡ 0) → type_text version t ≡ word t
type_text-word version t none = elim (cases_Bool (version == 1)) [
  | inl one ↦ cond-true _ _ _ one ∙ ap word (sym (none (eqb-true version 1 one)))
  | inr other ↦ cond-false _ _ _ other
]

sum_room : (test : Bool) (n : ℕ) → 16 + length (cond test (double_word n) []) ≡ cond test 20 16
sum_room true n = refl
sum_room false n = refl

pub length-sum : (version : ℕ) (sum : Option ℕ) → 16 + length (sum_text version sum) ≡ entry_length version
length-sum version sum = sum_room (version == 3) (number_or_zero sum)

pub length-entry : (version : ℕ) (e : Entry) → length (entry_text version e) ≡ entry_length version
length-entry version e =
    let here = length-type version e.attributes.heap_type in
    let summed = length-sum version e.sum in
    let both : length (type_text version e.attributes.heap_type ++ 0 ∷ 0 ∷ sum_text version e.sum) ≡ length (type_text version e.attributes.heap_type) + length (0 ∷ 0 ∷ sum_text version e.sum) =
    length-append (type_text version e.attributes.heap_type) (0 ∷ 0 ∷ sum_text version e.sum) in
    omega (arith, here, summed, both)

-- the entries of a directory, one more
pub entries-more : (version i : ℕ) → entry_length version * suc i ≡ entry_length version + entry_length version * i
entries-more version i = (let more = mul-suc (entry_length version) i in omega (arith, more))

pub length-entries : (version : ℕ) (es : List Entry) → length (flat_map (entry_text version) es) ≡ entry_length version * length es
length-entries version [] = sym (mul-zero (entry_length version))
length-entries version (e ∷ es) =
    let rest = length-entries version es in
    let here = length-entry version e in
    let more = entries-more version (length es) in
    let both : length (entry_text version e ++ flat_map (entry_text version) es) ≡ length (entry_text version e) + length (flat_map (entry_text version) es) = length-append (entry_text version e) (flat_map (entry_text version) es) in
    omega (arith, rest, here, more, both)

-- an entry has at most 20 bytes
chosen_most : (test : Bool) (n : ℕ) → cond test 20 16 * n ≤ 20 * n
chosen_most true n = omega arith
chosen_most false n = omega arith

pub entry_start-most : (version n : ℕ) → entry_start version n ≤ 16 + 20 * n
entry_start-most version n = let most = chosen_most (version == 3) n in omega (arith, most)

pub length-directory : (d : Directory) → length (directory_text d) ≡ entry_start d.version (length d.entries)
length-directory d = let rest = length-entries d.version d.entries in omega (arith, rest)

-- the type is read back, which in version 1 is none
type-reads_back : (version t : ℕ) (rest : List ℕ) → t < 65536 → (version ≡ 1 → t ≡ 0) → type_at version (type_text version t ++ rest) 0 ≡ t
type-reads_back version t rest fits none = elim (cases_Bool (version == 1)) [
  | inl one ↦ cond-true _ _ _ one ∙ sym (none (eqb-true version 1 one))
  | inr other ↦ cond-false _ _ _ other ∙ ap (λ (text : List ℕ). little_number 2 (text ++ rest)) (cond-false _ _ _ other) ∙ word-reads_back t rest fits
]

-- behind a type and two zeros
past_type_chosen : (test : Bool) (t : ℕ) (rest : List ℕ) → drop 4 (cond test (0 ∷ 0 ∷ []) (word t) ++ 0 ∷ 0 ∷ rest) ≡ rest
past_type_chosen true t rest = refl
past_type_chosen false t rest = refl

past_type : (version t : ℕ) (rest : List ℕ) → drop 4 (type_text version t ++ 0 ∷ 0 ∷ rest) ≡ rest
past_type version t rest = past_type_chosen (version == 1) t rest

-- the sum is read back, where there is one
sum-reads_back : (version : ℕ) (sum : Option ℕ) (rest : List ℕ) → FitsSum version sum → sum_at version (sum_text version sum ++ rest) 0 ≡ sum
sum-reads_back version None rest fits = cond-false _ _ _ (ne_eqb version 3 fits)
sum-reads_back version (Some n) rest fits =
    let three : (version == 3) ≡ true = eq-eqb version 3 fits.0 in
    cond-true _ _ _ three ∙ ap (λ (text : List ℕ). Some (little_number 4 (text ++ rest))) (cond-true _ _ _ three) ∙ ap Some (little_number-reads_back 4 n rest fits.1)

pub entry-reads_back : (version : ℕ) (e : Entry) (rest : List ℕ) → FitsEntry e → (version ≡ 1 → e.attributes.heap_type ≡ 0) → FitsSum version e.sum → entry_read version (entry_text version e ++ rest) ≡ e
entry-reads_back version e rest fits none summed =
    let kind : List ℕ = type_text version e.attributes.heap_type in
    let sums : List ℕ = sum_text version e.sum in
    let behind : List ℕ = (kind ++ 0 ∷ 0 ∷ sums) ++ rest in
    let handle : little_number 2 (word e.handle.0 ++ word e.attributes.user_id ++ extent_text e.extent ++ behind) ≡ e.handle.0 = word-reads_back e.handle.0 (word e.attributes.user_id ++ extent_text e.extent ++ behind) fits.handle in
    let user : little_number 2 (word e.attributes.user_id ++ extent_text e.extent ++ behind) ≡ e.attributes.user_id = word-reads_back e.attributes.user_id (extent_text e.extent ++ behind) fits.attributes.user_id in
    let place : extent_at (extent_text e.extent ++ behind) 0 ≡ e.extent = extent-reads_back e.extent behind fits.extent in
    let seam : behind ≡ kind ++ 0 ∷ 0 ∷ (sums ++ rest) = append_assoc kind (0 ∷ 0 ∷ sums) rest in
    let type_is : type_at version behind 0 ≡ e.attributes.heap_type = ap (λ (text : List ℕ). type_at version text 0) seam ∙ type-reads_back version e.attributes.heap_type (0 ∷ 0 ∷ (sums ++ rest)) fits.attributes.heap_type none in
    let past : drop 4 behind ≡ sums ++ rest = ap (drop 4) seam ∙ past_type version e.attributes.heap_type (sums ++ rest) in
    let sum_is : sum_at version behind 4 ≡ e.sum = ap (λ (text : List ℕ). cond (version == 3) (Some (little_number 4 text)) None) past ∙ sum-reads_back version e.sum rest summed in
    let made : ℕ → ℕ → Extent → ℕ → Option ℕ → Entry = λ h u x t s. record { handle = record { 0 = h }; attributes = record { user_id = u; heap_type = t }; extent = x; sum = s } in
    ap₂ (λ (h u : ℕ). made h u (extent_at (extent_text e.extent ++ behind) 0) (type_at version behind 0) (sum_at version behind 4)) handle user
    ∙ ap₂ (λ (x : Extent) (t : ℕ). made e.handle.0 e.attributes.user_id x t (sum_at version behind 4)) place type_is
    ∙ ap (made e.handle.0 e.attributes.user_id e.extent e.attributes.heap_type) sum_is

-- some entry, where lists are asked past their end
abbrev pub no_entry : Entry
no_entry = record { handle = record { 0 = 0 }; attributes = record { user_id = 0; heap_type = 0 }; extent = record { page = 0; length = 0 }; sum = None }

-- the text of the entries from one on
pub drop-entries : (version : ℕ) (es : List Entry) (i : ℕ) → i ≤ length es → drop (entry_length version * i) (flat_map (entry_text version) es) ≡ flat_map (entry_text version) (drop i es)
drop-entries version es zero l = ap (λ (k : ℕ). drop k (flat_map (entry_text version) es)) (mul-zero (entry_length version))
drop-entries version [] (suc i) l = absurd (omega arith)
drop-entries version (e ∷ es) (suc i) l =
    let next : entry_length version * suc i ≡ length (entry_text version e) + entry_length version * i = (let here = length-entry version e in let more = entries-more version i in omega (arith, here, more)) in
    ap (λ (k : ℕ). drop k (flat_map (entry_text version) (e ∷ es))) next
    ∙ drop-append-add (entry_text version e) (flat_map (entry_text version) es) (entry_length version * i) ∙ drop-entries version es i (omega arith)

sixteen : (n : ℕ) → 16 + n ≡ suc (suc (suc (suc (suc (suc (suc (suc (suc (suc (suc (suc (suc (suc (suc (suc n)))))))))))))))
sixteen n = omega arith

-- in a directory
pub drop-directory : (d : Directory) (i : ℕ) → i ≤ length d.entries → drop (entry_start d.version i) (directory_text d) ≡ flat_map (entry_text d.version) (drop i d.entries)
drop-directory d i l = ap (λ (k : ℕ). drop k (directory_text d)) (sixteen (entry_length d.version * i)) ∙ drop-entries d.version d.entries i l

-- an entry's text and those of the entries behind it
pub drop-directory_at : (d : Directory) (i : ℕ) → i < length d.entries
    → drop (entry_start d.version i) (directory_text d) ≡ entry_text d.version (get_or d.entries i no_entry) ++ flat_map (entry_text d.version) (drop (suc i) d.entries)
drop-directory_at d i l = drop-directory d i (omega (arith, l)) ∙ ap (flat_map (entry_text d.version)) (drop-cons d.entries i no_entry l)

pub directory_read-text : (d : Directory) → FitsDirectory d → directory_read (directory_text d) ≡ d
directory_read-text d fits =
    let text : List ℕ = directory_text d in
    let behind : List ℕ = 0 ∷ 0 ∷ 0 ∷ 0 ∷ 0 ∷ 0 ∷ flat_map (entry_text d.version) d.entries in
    let version : word_at text 4 ≡ d.version = word-reads_back d.version (word (length d.entries) ++ word d.map_block ++ behind) fits.version in
    let count : word_at text 6 ≡ length d.entries = word-reads_back (length d.entries) (word d.map_block ++ behind) fits.count in
    let map_block : word_at text 8 ≡ d.map_block = word-reads_back d.map_block behind fits.map_block in
    let each : (k : ℕ) → k < length d.entries → get_or d.entries k no_entry ≡ entry_read d.version (drop (entry_start d.version k) text) =
    λ k l. sym (ap (entry_read d.version) (drop-directory_at d k l)
    ∙ entry-reads_back d.version (get_or d.entries k no_entry) (flat_map (entry_text d.version) (drop (suc k) d.entries)) (fits.entries k no_entry l) (λ one. fits.types one k no_entry l) (fits.sums k no_entry l)) in
    let entries : map (λ i. entry_read d.version (drop (entry_start d.version i) text)) (range_with_len 0 (length d.entries)) ≡ d.entries =
    sym (fill_by_all (λ i. entry_read d.version (drop (entry_start d.version i) text)) d.entries (length d.entries) no_entry refl each) in
    let made : ℕ → ℕ → List Entry → Directory = λ v m es. record { version = v; map_block = m; entries = es } in
    let read : ℕ → ℕ → List Entry = λ v n. map (λ i. entry_read v (drop (entry_start v i) text)) (range_with_len 0 n) in
    ap (λ (v : ℕ). made v (word_at text 8) (read v (word_at text 6))) version
    ∙ ap₂ (λ (m n : ℕ). made d.version m (read d.version n)) map_block count
    ∙ ap (λ (es : List Entry). made d.version d.map_block es) entries

-- what holds of each entry

pub each_entry : (file_version n version : ℕ) (es : List Entry) → list_all (is_entry file_version n version) es ≡ true → (k : ℕ) → k < length es → is_entry file_version n version (get_or es k no_entry) ≡ true
each_entry file_version n version es all k l = AllPass-from_list_all (is_entry file_version n version) es all k no_entry l

-- Of an entry of a directory of the last version that can stand in a file of the first one and of n bytes.
pub record IsEntry (file_version n version : ℕ) (e : Entry) : Type 0 where
  pub handle : e.handle.0 ≤ greatest_handle version
  pub some : 1 ≤ e.extent.length
  pub short : e.extent.length ≤ longest_image
  pub behind_slots : 2 ≤ e.extent.page
  pub within : 512 * e.extent.page + e.extent.length ≤ n
  pub in_reach : e.extent.page + (e.extent.length + 511) / 512 ≤ page_limit_of file_version

pub is_entry-parts : (file_version n version : ℕ) (e : Entry) → is_entry file_version n version e ≡ true → IsEntry file_version n version e
is_entry-parts file_version n version e h =
    let top : ℕ = greatest_handle version in
    let reach : ℕ = page_limit_of file_version in
    let parts = and_parts (nat_le e.handle.0 top && nat_le 1 e.extent.length && nat_le e.extent.length longest_image) (is_in_file file_version n e.extent) h in
    let sizes = and_parts (nat_le e.handle.0 top && nat_le 1 e.extent.length) (nat_le e.extent.length longest_image) parts.0 in
    let first = and_parts (nat_le e.handle.0 top) (nat_le 1 e.extent.length) sizes.0 in
    let place = and_parts (nat_le 2 e.extent.page && nat_le (512 * e.extent.page + e.extent.length) n) (nat_le (e.extent.page + (e.extent.length + 511) / 512) reach) parts.1 in
    let inside = and_parts (nat_le 2 e.extent.page) (nat_le (512 * e.extent.page + e.extent.length) n) place.0 in
    record {
      handle = leb-true e.handle.0 top first.0;
      some = leb-true 1 e.extent.length first.1;
      short = leb-true e.extent.length longest_image sizes.1;
      behind_slots = leb-true 2 e.extent.page inside.0;
      within = leb-true (512 * e.extent.page + e.extent.length) n inside.1;
      in_reach = leb-true (e.extent.page + (e.extent.length + 511) / 512) reach place.1;
    }

-- whatever the versions

pub entry-low : (file_version n version : ℕ) (e : Entry) → IsEntry file_version n version e → e.handle.0 ≤ most_blocks
entry-low file_version n version e is = let most = greatest_handle-most version in omega (arith, is.handle, most)

pub entry-in_reach : (file_version n version : ℕ) (e : Entry) → IsEntry file_version n version e → e.extent.page + (e.extent.length + 511) / 512 ≤ page_limit
entry-in_reach file_version n version e is = let most = page_limit_of-most file_version in omega (arith, is.in_reach, most)

-- handles that rise up to so many blocks are few
rising_few : (file_version n version last : ℕ) (es : List Entry) → last ≤ most_blocks → is_rising last es ≡ true → list_all (is_entry file_version n version) es ≡ true → last + length es ≤ most_blocks
rising_few file_version n version last [] l rising all = omega (arith, l)
rising_few file_version n version last (e ∷ es) l rising all =
    let here = and_parts (nat_lt last e.handle.0) (is_rising e.handle.0 es) rising in
    let above : last < e.handle.0 = ltb-true last e.handle.0 here.0 in
    let each = and_parts (is_entry file_version n version e) (list_all (is_entry file_version n version) es) all in
    let rest = rising_few file_version n version e.handle.0 es (entry-low file_version n version e (is_entry-parts file_version n version e each.0)) here.1 each.1 in
    omega (arith, above, rest)

-- Of a directory that can stand in a file of a version and of n bytes.
pub record IsDirectory (file_version n : ℕ) (d : Directory) : Type 0 where
  pub version : is_version_in file_version d.version ≡ true
  pub rising : is_rising 0 d.entries ≡ true
  pub entries : list_all (is_entry file_version n d.version) d.entries ≡ true
  pub map_block : is_map_block d.map_block d.entries ≡ true

pub is_directory-parts : (file_version n : ℕ) (d : Directory) → is_directory file_version n d ≡ true → IsDirectory file_version n d
is_directory-parts file_version n d h =
    let fits : Bool = is_version_in file_version d.version in
    let all : Bool = list_all (is_entry file_version n d.version) d.entries in
    let parts = and_parts (fits && is_rising 0 d.entries && all) (is_map_block d.map_block d.entries) h in
    let first = and_parts (fits && is_rising 0 d.entries) all parts.0 in
    let begin = and_parts fits (is_rising 0 d.entries) first.0 in
    record { version = begin.0; rising = begin.1; entries = first.1; map_block = parts.1 }

pub is_directory-from : (file_version n : ℕ) (d : Directory) → IsDirectory file_version n d → is_directory file_version n d ≡ true
is_directory-from file_version n d is =
    let fits : Bool = is_version_in file_version d.version in
    let all : Bool = list_all (is_entry file_version n d.version) d.entries in
    and_from (fits && is_rising 0 d.entries && all) (is_map_block d.map_block d.entries)
    (and_from (fits && is_rising 0 d.entries) all (and_from fits (is_rising 0 d.entries) is.version is.rising) is.entries) is.map_block

-- whatever its version
pub directory-low : (file_version n : ℕ) (d : Directory) → is_directory file_version n d ≡ true → All (λ e. e.handle.0 ≤ most_blocks) d.entries
directory-low file_version n d h k x l =
    let e : Entry = get_or d.entries k no_entry in
    let is = is_entry-parts file_version n d.version e (each_entry file_version n d.version d.entries (is_directory-parts file_version n d h).entries k l) in
    subst (λ (e : Entry). e.handle.0 ≤ most_blocks) (get_or_same d.entries k no_entry x l) (entry-low file_version n d.version e is)

pub directory_few : (file_version n : ℕ) (d : Directory) → is_directory file_version n d ≡ true → length d.entries ≤ most_blocks
directory_few file_version n d h =
    let is = is_directory-parts file_version n d h in
    let few = rising_few file_version n d.version 0 d.entries (omega arith) is.rising is.entries in
    omega (arith, few)

-- the map block is one of them
pub listed : (m : ℕ) (es : List Entry) → list_any (λ e. e.handle.0 == m) es ≡ true → (k : ℕ) × ((k < length es) × ((get_or es k no_entry).handle.0 ≡ m))
listed m [] h = absurd (cc h)
listed m (e ∷ es) h = elim (cases_Bool (e.handle.0 == m)) [
  | inl here ↦ (0, (omega arith, eqb-true e.handle.0 m here))
  | inr other ↦
      let later : list_any (λ x. x.handle.0 == m) es ≡ true = or_later (e.handle.0 == m) (list_any (λ x. x.handle.0 == m) es) h other in
      let found = listed m es later in
      (suc found.0, (omega (arith, found.1.0), found.1.1))
]

map_block_fits : (file_version n : ℕ) (d : Directory) → is_directory file_version n d ≡ true → d.map_block < 65536
map_block_fits file_version n d h =
    let is = is_directory-parts file_version n d h in
    elim (cases_Bool (d.map_block == 0)) [
      | inl none ↦ (let zero_is : d.map_block ≡ 0 = eqb-true d.map_block 0 none in omega (arith, zero_is))
      | inr some ↦
          let found = listed d.map_block d.entries (or_later (d.map_block == 0) (list_any (λ e. e.handle.0 == d.map_block) d.entries) is.map_block some) in
          let e : Entry = get_or d.entries found.0 no_entry in
          let low = entry-low file_version n d.version e (is_entry-parts file_version n d.version e (each_entry file_version n d.version d.entries is.entries found.0 found.1.0)) in
          omega (arith, low, found.1.1)
    ]

extent_fits : (file_version n version : ℕ) (e : Entry) → IsEntry file_version n version e → FitsExtent e.extent
extent_fits file_version n version e is = let reach = entry-in_reach file_version n version e is in (omega (arith, reach), omega (arith, is.short))

-- a directory that can stand in a file fits its text, attributes aside
pub directory_fits : (file_version n : ℕ) (d : Directory) → is_directory file_version n d ≡ true → All (λ e. FitAttributes e.attributes) d.entries → FitTypes d.version d.entries → FitSums d.version d.entries → FitsDirectory d
directory_fits file_version n d h fit types sums = record {
  version = is_version_in-fits file_version d.version (is_directory-parts file_version n d h).version;
  types = types;
  sums = sums;
  map_block = map_block_fits file_version n d h;
  count = (let few = directory_few file_version n d h in omega (arith, few));
  entries = λ k _ l.
      let e : Entry = get_or d.entries k no_entry in
      let is = is_entry-parts file_version n d.version e (each_entry file_version n d.version d.entries (is_directory-parts file_version n d h).entries k l) in
      subst (λ e. FitsEntry e) (get_or_same d.entries k no_entry _ l) (record {
        handle = (let low = entry-low file_version n d.version e is in omega (arith, low));
        attributes = fit k no_entry l;
        extent = extent_fits file_version n d.version e is;
      });
}

pub directory_in-text : (file_version n : ℕ) (d : Directory) → is_directory file_version n d ≡ true → All (λ e. FitAttributes e.attributes) d.entries → FitTypes d.version d.entries → FitSums d.version d.entries
    → directory_in file_version n (directory_text d) ≡ Some d
directory_in-text file_version n d h fit types sums =
    let text : List ℕ = directory_text d in
    let read : directory_read text ≡ d = directory_read-text d (directory_fits file_version n d h fit types sums) in
    let tests : (is_directory file_version n d && same_bytes text text) ≡ true = and_from (is_directory file_version n d) (same_bytes text text) h (same_bytes-refl text) in
    ap (λ (r : Directory). cond (is_directory file_version n r && same_bytes (directory_text r) text) (Some r) None) read ∙ cond-true _ _ _ tests

-- words in a text

user_id_lt : (version : ℕ) (e : Entry) (rest : List ℕ) → (entry_read version (entry_text version e ++ rest)).attributes.user_id < 65536
user_id_lt version e rest = omega arith

type_lt : (version t : ℕ) (rest : List ℕ) → type_at version (type_text version t ++ rest) 0 < 65536
type_lt version t rest = elim (cases_Bool (version == 1)) [
  | inl one ↦ (let none : type_at version (type_text version t ++ rest) 0 ≡ 0 = cond-true _ _ _ one in omega (arith, none))
  | inr other ↦
      let is : type_at version (type_text version t ++ rest) 0 ≡ little_number 2 (word t ++ rest) = cond-false _ _ _ other ∙ ap (λ (text : List ℕ). little_number 2 (text ++ rest)) (cond-false _ _ _ other) in
      omega (arith, is)
]

-- what is read from an entry's text fits
read_fits : (version : ℕ) (e : Entry) (rest : List ℕ) → FitAttributes (entry_read version (entry_text version e ++ rest)).attributes
read_fits version e rest = record {
  user_id = user_id_lt version e rest;
  heap_type =
      subst (λ (text : List ℕ). type_at version text 0 < 65536) (sym (append_assoc (type_text version e.attributes.heap_type) (0 ∷ 0 ∷ sum_text version e.sum) rest)) (type_lt version e.attributes.heap_type (0 ∷ 0 ∷ (sum_text version e.sum ++ rest)));
}

-- and a sum is there in version 3 alone
sum_lt : (version : ℕ) (sum : Option ℕ) (rest : List ℕ) → FitsSum version (sum_at version (sum_text version sum ++ rest) 0)
sum_lt version sum rest = elim (cases_Bool (version == 3)) [
  | inl three ↦
      let n : ℕ = number_or_zero sum in
      let is : sum_at version (sum_text version sum ++ rest) 0 ≡ Some (little_number 4 (double_word n ++ rest)) = cond-true _ _ _ three ∙ ap (λ (text : List ℕ). Some (little_number 4 (text ++ rest))) (cond-true _ _ _ three) in
      let fits : FitsSum version (Some (little_number 4 (double_word n ++ rest))) = (eqb-true version 3 three, omega arith) in
      subst (FitsSum version) (sym is) fits
  | inr older ↦
      let fits : FitsSum version None = λ is. absurd (cc (sym older ∙ eq-eqb version 3 is)) in
      subst (FitsSum version) (sym (cond-false _ _ _ older)) fits
]

sum_fits : (version : ℕ) (e : Entry) (rest : List ℕ) → FitsSum version (entry_read version (entry_text version e ++ rest)).sum
sum_fits version e rest =
    let kind : List ℕ = type_text version e.attributes.heap_type in
    let sums : List ℕ = sum_text version e.sum in
    let past : drop 4 ((kind ++ 0 ∷ 0 ∷ sums) ++ rest) ≡ sums ++ rest = ap (drop 4) (append_assoc kind (0 ∷ 0 ∷ sums) rest) ∙ past_type version e.attributes.heap_type (sums ++ rest) in
    subst (λ (text : List ℕ). FitsSum version (sum_at version text 0)) (sym past) (sum_lt version e.sum rest)

pub directory_in-some : (file_version n : ℕ) (bytes : List ℕ) (d : Directory) → directory_in file_version n bytes ≡ Some d
    → (is_directory file_version n d ≡ true) × (directory_text d ≡ bytes) × FitsDirectory d × (length d.entries ≤ most_blocks)
directory_in-some file_version n bytes d e =
    let r : Directory = directory_read bytes in
    let here = some_if (is_directory file_version n r && same_bytes (directory_text r) bytes) r d e in
    let parts = and_parts (is_directory file_version n d) (same_bytes (directory_text d) bytes) (subst (λ (x : Directory). (is_directory file_version n x && same_bytes (directory_text x) bytes) ≡ true) here.1 here.0) in
    let text : directory_text d ≡ bytes = same_bytes-is (directory_text d) bytes parts.1 in
    let read : directory_read (directory_text d) ≡ d = ap directory_read text ∙ here.1 in
    let version : word_at (directory_text d) 4 ≡ d.version = ap (λ (r : Directory). r.version) read in
    let few = directory_few file_version n d parts.0 in
    let count : word_at (directory_text d) 6 ≡ length d.entries = word-reads_back (length d.entries) (drop 8 (directory_text d)) (omega (arith, few)) in
    let each : (k : ℕ) (x : Entry) → k < length d.entries → get_or d.entries k x ≡ entry_read d.version (drop (entry_start d.version k) (directory_text d)) = λ k x l.
    let at : get_or (directory_read (directory_text d)).entries k x ≡ entry_read (word_at (directory_text d) 4) (drop (entry_start (word_at (directory_text d) 4) k) (directory_text d)) =
    get_or-map-range_with_len (λ i. entry_read (word_at (directory_text d) 4) (drop (entry_start (word_at (directory_text d) 4) i) (directory_text d))) 0 (word_at (directory_text d) 6) k k x (subst (λ m. k < m) (sym count) l) (omega arith) in
    ap (λ (r : Directory). get_or r.entries k x) (sym read) ∙ at ∙ ap (λ (v : ℕ). entry_read v (drop (entry_start v k) (directory_text d))) version in
    let fit : All (λ e. FitAttributes e.attributes) d.entries = λ k x l.
    let is = each k x l ∙ ap (entry_read d.version) (drop-directory_at d k l) in
    subst (λ (e : Entry). FitAttributes e.attributes) (sym is) (read_fits d.version (get_or d.entries k no_entry) (flat_map (entry_text d.version) (drop (suc k) d.entries))) in
    let types : FitTypes d.version d.entries = λ one k x l. ap (λ (e : Entry). e.attributes.heap_type) (each k x l) ∙ cond-true _ _ _ (eq-eqb d.version 1 one) in
    let sums : FitSums d.version d.entries = λ k x l.
    let is = each k x l ∙ ap (entry_read d.version) (drop-directory_at d k l) in
    subst (λ (e : Entry). FitsSum d.version e.sum) (sym is) (sum_fits d.version (get_or d.entries k no_entry) (flat_map (entry_text d.version) (drop (suc k) d.entries))) in
    (parts.0, text, directory_fits file_version n d parts.0 fit types sums, few)

-- a directory that is read gives no types in version 1
pub directory_in-types : (file_version n : ℕ) (bytes : List ℕ) (d : Directory) → directory_in file_version n bytes ≡ Some d → FitTypes d.version d.entries
directory_in-types file_version n bytes d e = (directory_in-some file_version n bytes d e).2.types

-- nor sums before version 3
pub directory_in-sums : (file_version n : ℕ) (bytes : List ℕ) (d : Directory) → directory_in file_version n bytes ≡ Some d → FitSums d.version d.entries
directory_in-sums file_version n bytes d e = (directory_in-some file_version n bytes d e).2.sums

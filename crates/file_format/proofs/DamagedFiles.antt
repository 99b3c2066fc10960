-- What is read in the place of a file of version 3 opens to its documents, or to those of its other slot.
use Rattle.std.proofs.Common.{◌≡◌, ◌≢◌, ◌⊎◌, ◌≤◌, ℕ, zero, suc, ◌+◌, ◌-◌, ◌*◌, ◌<◌, ◌==◌, nat_lt, Bool, cond, not, ◌||◌, List, length, take, drop, slice_index, Option, Some, None, Result, Ok, Err, All, sym, ap, ap₂, subst, ◌∙◌, arith, inl, inr, eqb-true, eq-eqb, get_or, get_or-take, get_or-drop, drop-drop}
use Rattle.std.specs.Option.{option_and_then, option_map}
use Rattle.std.specs.FinMap.{from_entries}
use Rattle.std.proofs.lemmas.Bool.{cases_Bool, cond-true, cond-false, eqb-false}
use Rattle.std.proofs.lemmas.List.{drop-take}
use Rattle.byteorder.specs.Endian.{little_number}
use Rattle.checksum.specs.Crc32c.{crc32c}
use Rattle.geos_model.specs.Document.{Document}
use Rattle.geos_model.specs.declared.fault.Fault.{Fault}
use Rattle.geos_model.specs.declared.fault.Fault.TheVariants.{NotDocument, Damaged}
use Rattle.file_format.specs.File.{Directory, bytes_in, open_slot, sealed_text, is_sealed, is_sealed_by, is_version, directory_read, directory_of, summed_directory, document_of, summed_document, working_sum, saved_sum, counting_slot, both, pair_of, stands}
use Rattle.file_format.specs.FileLaws.{KeepsExtent}
use Rattle.file_format.specs.Damage.{MaybeDamaged, Pair, slot_at, pair_at, SlotCounts, CountsInstead}
use Rattle.file_format.specs.declared.file.Extent.{Extent}
use Rattle.file_format.specs.declared.file.Entry.{Entry}
use Rattle.file_format.specs.declared.file.Slot.{Slot}
use Rattle.file_format.proofs.Files.{no_entry, get_or_same, each_entry, is_entry-parts, is_version_in-older, is_directory-parts, directory_in-some}
use Rattle.file_format.proofs.FileDocuments.{directory_there, directory_of-some, is_in_file-parts, summed_directory-some, summed_directory-kept, blocks_of-kept}
use Rattle.file_format.proofs.FileStands.{slot_bytes, pair_of-from, pair_of-by, stands-slot, open_slot-kept}
use Rattle.file_format.proofs.DamagedParts.{one_side_same, later_same, part_of_first, part_of_rest}
use Rattle.file_format.proofs.DamagedSlots.{sums_behind, fields_behind, slot_is, slot_same, open_slot-is}
use Rattle.file_format.proofs.DamagedDocuments.{directory_in-read, directory_summed, pair_same}

other_long : (file other : List ℕ) → MaybeDamaged file other → 1024 ≤ length other
other_long file other d = (let same = d.same_length in let long = d.long in omega (arith, same, long))

-- A slot of version 3 in both.

-- the gate has no part in what a slot leads to
gate_free : (file : List ℕ) (gate other : ℕ) (rest : List ℕ) → slice_index rest 0 ≡ 3 → pair_of file (fields_behind gate rest) ≡ pair_of file (fields_behind other rest)
gate_free file gate other rest three =
    let sealed : (g : ℕ) → is_sealed (fields_behind g rest) ≡ ((sums_behind rest).own == crc32c (sealed_text (fields_behind 1 rest) (sums_behind rest))) =
    λ g. ap (is_sealed_by (fields_behind g rest)) (cond-true _ _ _ (eq-eqb (slice_index rest 0) 3 three)) in
    let s : Slot = fields_behind 1 rest in
    ap (λ (right : Bool). cond (not (is_version s.version)) (Err NotDocument) (cond (not (s.reserved == 0) || (s.sequence == 0 || not right)) (Err Damaged)
    (both (summed_document s.version file (working_sum s) s.working) (summed_document s.version file (saved_sum s) s.saved))))
    (sealed gate ∙ sym (sealed other))

-- a slot that is the same from the version on leads to the same, in any file
leads_same : (at file other : List ℕ) (page : ℕ) → MaybeDamaged file other → page < 2 → (slot_at file page).version ≡ 3 → drop 5 (slot_bytes file page) ≡ drop 5 (slot_bytes other page)
    → pair_of at (slot_at other page) ≡ pair_of at (slot_at file page)
leads_same at file other page d low three same =
    let rest : List ℕ = drop 5 (slot_bytes file page) in
    let is = slot_is file page d.long low in
    ap (pair_of at) (slot_is other page (other_long file other d) low ∙ ap (fields_behind (slice_index (slot_bytes other page) 4)) (sym same))
    ∙ gate_free at (slice_index (slot_bytes other page) 4) (slice_index (slot_bytes file page) 4) rest (ap (λ (s : Slot). s.version) (sym is) ∙ three)
    ∙ ap (pair_of at) (sym is)

both_newer : (file other : List ℕ) (page : ℕ) (pair found : Pair) → MaybeDamaged file other → page < 2 → (slot_at file page).version ≡ 3 → (slot_at other page).version ≡ 3
    → pair_at file page ≡ Ok pair → pair_at other page ≡ Ok found → found ≡ pair
both_newer file other page pair found d low three three_other here there =
    let first = pair_of-by file (slot_at file page) pair here in
    let second = pair_of-by other (slot_at other page) found there in
    let same = slot_same file other page d low three three_other first.sealed second.sealed in
    pair_same file other (slot_at file page) _ pair found d three (cond-true _ _ _ (eq-eqb (slot_at file page).version 3 three)) here
    (sym (leads_same other file other page d low three same) ∙ there)

-- A slot of version 3 that was made an older one.

version_byte : (file : List ℕ) (page : ℕ) → (slot_at file page).version ≡ slice_index (take 6 (drop (512 * page) file)) 5
version_byte file page = get_or-take 44 (drop (512 * page) file) 5 0 (omega arith) ∙ sym (get_or-take 6 (drop (512 * page) file) 5 0 (omega arith))

behind_number : (file : List ℕ) (page : ℕ) → drop 16 (slot_bytes file page) ≡ take 28 (drop (512 * page + 16) file)
behind_number file page = drop-take 16 28 (drop (512 * page) file) ∙ ap (take 28) (drop-drop 16 (512 * page) file)

working_same : (file other : List ℕ) (page : ℕ) → drop (512 * page + 6 + 4) file ≡ drop (512 * page + 6 + 4) other → (slot_at other page).working ≡ (slot_at file page).working
working_same file other page same =
    let bytes : drop 16 (slot_bytes other page) ≡ drop 16 (slot_bytes file page) =
    behind_number other page ∙ sym (part_of_rest 28 (512 * page + 16) (512 * page + 6 + 4) file other (omega arith) same) ∙ sym (behind_number file page) in
    let more : drop 20 (slot_bytes other page) ≡ drop 20 (slot_bytes file page) = later_same 16 20 (slot_bytes other page) (slot_bytes file page) (omega arith) bytes in
    ap₂ (λ (xs ys : List ℕ). let made : Extent = record { page = little_number 4 xs; length = little_number 4 ys } in made) bytes more

-- its directory would have to be of version 3, and older
no_directory : (file other : List ℕ) (version : ℕ) (e : Extent) (one two : Directory) → drop 1024 file ≡ drop 1024 other → version ≢ 3
    → directory_of 3 file e ≡ Some one → directory_of version other e ≡ Some two → ⊥
no_directory file other version e one two same older here there =
    let mine = directory_of-some 3 file e one here in
    let its = directory_of-some version other e two there in
    let behind = (is_in_file-parts 3 (length file) e mine.0).behind_slots in
    let bytes : bytes_in file e ≡ bytes_in other e = part_of_rest e.length (512 * e.page) 1024 file other (omega (arith, behind)) same in
    let is : two ≡ one = sym (directory_in-read version (length other) (bytes_in other e) two its.1) ∙ ap directory_read (sym bytes) ∙ directory_in-read 3 (length file) (bytes_in file e) one mine.1 in
    let stands = directory_in-some version (length other) (bytes_in other e) two its.1 in
    is_version_in-older version two.version older (is_directory-parts version (length other) two stands.0).version (ap (λ (d : Directory). d.version) is ∙ (directory_summed file e one here).0)

made_older : (file other : List ℕ) (page : ℕ) (pair found : Pair) → MaybeDamaged file other → page < 2 → (slot_at file page).version ≡ 3 → (slot_at other page).version ≢ 3
    → pair_at file page ≡ Ok pair → pair_at other page ≡ Ok found → ⊥
made_older file other page pair found d low three older here there = elim (one_side_same file other (512 * page + 6) d) [
  | inl first ↦ older (version_byte other page ∙ ap (λ (bytes : List ℕ). slice_index bytes 5) (sym (part_of_first (512 * page) 6 (512 * page + 6) file other (omega arith) first)) ∙ sym (version_byte file page) ∙ three)
  | inr rest ↦
      let s : Slot = slot_at file page in
      let t : Slot = slot_at other page in
      let mine = directory_there file (summed_directory s.version file (working_sum s) s.working) pair.0 (pair_of-by file s pair here).working in
      let its = directory_there other (summed_directory t.version other (working_sum t) t.working) found.0 (pair_of-by other t found there).working in
      let one = (summed_directory-some s.version file (working_sum s) s.working mine.0 mine.1.0).1 in
      let two = (summed_directory-some t.version other (working_sum t) t.working its.0 its.1.0).1 in
      no_directory file other t.version s.working mine.0 its.0 (later_same (512 * page + 6 + 4) 1024 file other (omega (arith, low)) rest) older
      (ap (λ (v : ℕ). directory_of v file s.working) (sym three) ∙ one) (ap (directory_of t.version other) (sym (working_same file other page rest)) ∙ two)
]

pub documents_same : (file other : List ℕ) (page : ℕ) (pair found : Pair) → MaybeDamaged file other → page < 2 → (slot_at file page).version ≡ 3
    → pair_at file page ≡ Ok pair → pair_at other page ≡ Ok found → found ≡ pair
documents_same file other page pair found d low three here there = elim (cases_Bool ((slot_at other page).version == 3)) [
  | inl newer ↦ both_newer file other page pair found d low three (eqb-true (slot_at other page).version 3 newer) here there
  | inr older ↦ absurd (made_older file other page pair found d low three (eqb-false (slot_at other page).version 3 older) here there)
]

-- Where the bytes behind the slots are as they were.

keeps : (file other : List ℕ) (e : Extent) → drop 1024 file ≡ drop 1024 other → length other ≡ length file → 2 ≤ e.page → 512 * e.page + e.length ≤ length other → KeepsExtent other file e
keeps file other e same long behind within = record {
  within = omega (arith, within, long);
  bytes = λ i from to.
      let at : 1024 + (i - 1024) ≡ i = omega (arith, from, behind) in
      ap (slice_index file) (sym at) ∙ sym (get_or-drop 1024 file (i - 1024) 0) ∙ ap (λ (bytes : List ℕ). slice_index bytes (i - 1024)) same
      ∙ get_or-drop 1024 other (i - 1024) 0 ∙ ap (slice_index other) at;
}

document_stays : (file other : List ℕ) (version : ℕ) (sum : Option ℕ) (e : Extent) (document : Document) → drop 1024 file ≡ drop 1024 other → length other ≡ length file
    → summed_document version other sum e ≡ Some document → summed_document version file sum e ≡ Some document
document_stays file other version sum e document same long is =
    let found = directory_there other (summed_directory version other sum e) document is in
    let d : Directory = found.0 in
    let there = directory_of-some version other e d (summed_directory-some version other sum e d found.1.0).1 in
    let place = is_in_file-parts version (length other) e there.0 in
    let entries = (is_directory-parts version (length other) d (directory_in-some version (length other) (bytes_in other e) d there.1).0).entries in
    let all : All (λ x. KeepsExtent other file x.extent) d.entries = λ k x l.
    let one = is_entry-parts version (length other) d.version (get_or d.entries k no_entry) (each_entry version (length other) d.version d.entries entries k l) in
    subst (λ (x : Entry). KeepsExtent other file x.extent) (get_or_same d.entries k no_entry x l) (keeps file other (get_or d.entries k no_entry).extent same long one.behind_slots one.within) in
    let kept = summed_directory-kept version other file sum e d found.1.0 (keeps file other e same long place.behind_slots place.within) all in
    ap (option_and_then (document_of file)) kept
    ∙ ap (option_map (λ blocks. let made : Document = record { blocks = from_entries blocks; map_block = d.map_block } in made)) (blocks_of-kept version (length other) d.version other file d.entries (omega arith) entries all)
    ∙ found.1.1

pair_stays : (file other : List ℕ) (s : Slot) (found : Pair) → drop 1024 file ≡ drop 1024 other → length other ≡ length file → pair_of other s ≡ Ok found → pair_of file s ≡ Ok found
pair_stays file other s found same long is =
    let leads = pair_of-by other s found is in
    pair_of-from file s found.0 found.1 (record {
      version = leads.version;
      reserved = leads.reserved;
      sequence = leads.sequence;
      sealed = leads.sealed;
      working = document_stays file other s.version (working_sum s) s.working found.0 same long leads.working;
      saved_is = document_stays file other s.version (saved_sum s) s.saved found.1 same long leads.saved_is;
    })

-- Which slot counts.

abbrev chosen : Slot → Result Slot Fault
chosen s = Ok s

abbrev OneOf : Option Slot → Option Slot → Slot → Type 0
OneOf a b t = ((a ≡ Some t) × (b ≢ Some t)) ⊎ ((b ≡ Some t) × (a ≢ Some t))

counted_later : (s u t : Slot) → s.sequence ≢ u.sequence → cond (nat_lt s.sequence u.sequence) (chosen u) (chosen s) ≡ Ok t → OneOf (Some s) (Some u) t
counted_later s u t differ e = elim (cases_Bool (nat_lt s.sequence u.sequence)) [
  | inl later ↦
      let is : chosen u ≡ Ok t = sym (cond-true _ _ _ later) ∙ e in
      let same : u ≡ t = cc is in
      inr (ap Some same, λ wrong. (let s_is : s ≡ t = cc wrong in differ (ap (λ (x : Slot). x.sequence) (s_is ∙ sym same))))
  | inr first ↦
      let is : chosen s ≡ Ok t = sym (cond-false _ _ _ first) ∙ e in
      let same : s ≡ t = cc is in
      inl (ap Some same, λ wrong. (let u_is : u ≡ t = cc wrong in differ (ap (λ (x : Slot). x.sequence) (same ∙ sym u_is))))
]

counted : (a b : Option Slot) (t : Slot) → counting_slot a b ≡ Ok t → OneOf a b t
counted None None t e = absurd (cc e)
counted (Some s) None t e = inl (let is : s ≡ t = cc e in ap Some is, λ wrong. absurd (cc wrong))
counted None (Some u) t e = inr (let is : u ≡ t = cc e in ap Some is, λ wrong. absurd (cc wrong))
counted (Some s) (Some u) t e = elim (cases_Bool (s.sequence == u.sequence)) [
  | inl same ↦ (let wrong : Err Damaged ≡ Ok t = sym (cond-true _ _ _ same) ∙ e in absurd (cc wrong))
  | inr differ ↦ counted_later s u t (eqb-false s.sequence u.sequence differ) (sym (cond-false _ _ _ differ) ∙ e)
]

abbrev counting : List ℕ → Result Slot Fault
counting file = counting_slot (open_slot file 0) (open_slot file 1)

counts_from : (file : List ℕ) (page : ℕ) (t : Slot) → counting file ≡ Ok t → open_slot file page ≡ Some t → SlotCounts file page
counts_from file page t counts opened =
    let is = (open_slot-is file page t opened).0 in
    record { opened = opened ∙ ap Some is; counts = counts ∙ ap chosen is }

-- the slot that counts is at a page, or at the other one alone
counts_at : (file : List ℕ) (page : ℕ) (t : Slot) → page < 2 → counting file ≡ Ok t → (open_slot file page ≡ Some t) ⊎ ((open_slot file (1 - page) ≡ Some t) × (open_slot file page ≢ Some t))
counts_at file zero t low e = elim (counted (open_slot file 0) (open_slot file 1) t e) [
  | inl first ↦ inl first.0
  | inr second ↦ inr second
]
counts_at file (suc zero) t low e = elim (counted (open_slot file 0) (open_slot file 1) t e) [
  | inl first ↦ inr first
  | inr second ↦ inl second.0
]
counts_at file (suc (suc page)) t low e = absurd (omega (arith, low))

-- The other slot counts.

open_stays : (file other : List ℕ) (page : ℕ) → page < 2 → take 1020 file ≡ take 1020 other → open_slot other page ≡ open_slot file page
open_stays file other page low same = open_slot-kept file other page (sym (part_of_first (512 * page) 44 1020 file other (omega (arith, low)) same))

-- the burst didn't reach behind the slots, or the slot that counted would still
beyond : (file other : List ℕ) (page : ℕ) (t : Slot) → MaybeDamaged file other → page < 2 → SlotCounts file page → counting other ≡ Ok t → open_slot other page ≢ Some t → drop 1024 file ≡ drop 1024 other
beyond file other page t d low was counts differs = elim (one_side_same file other 1020 d) [
  | inl first ↦
      let same : counting other ≡ counting file = ap₂ counting_slot (open_stays file other 0 (omega arith) first) (open_stays file other 1 (omega arith) first) in
      let is : chosen (slot_at file page) ≡ Ok t = sym was.counts ∙ sym same ∙ counts in
      let at : slot_at file page ≡ t = cc is in
      absurd (differs (open_stays file other page low first ∙ was.opened ∙ ap Some at))
  | inr rest ↦ rest
]

instead : (file other : List ℕ) (page : ℕ) (found : Pair) (t : Slot) → MaybeDamaged file other → page < 2 → SlotCounts file page → counting other ≡ Ok t → pair_of other t ≡ Ok found
    → open_slot other (1 - page) ≡ Some t → open_slot other page ≢ Some t → CountsInstead file other (1 - page) found
instead file other page found t d low was counts leads opened differs =
    let q : ℕ = 1 - page in
    let is : t ≡ slot_at other q = (open_slot-is other q t opened).0 in
    let there : pair_of other (slot_at other q) ≡ Ok found = ap (pair_of other) (sym is) ∙ leads in
    let behind : drop 1024 file ≡ drop 1024 other = beyond file other page t d low was counts differs in
    let stays : pair_of file (slot_at other q) ≡ Ok found = pair_stays file other (slot_at other q) found behind d.same_length there in
    let less : q < 2 = omega arith in
    record {
      behind = sym behind;
      counts = counts_from other q t counts opened;
      leads = stays;
      same = λ three three_other sealed.
          let same = slot_same file other q d less three three_other sealed (pair_of-by other (slot_at other q) found there).sealed in
          sym (leads_same file file other q d less three same) ∙ stays;
    }

pub file_told : (file other : List ℕ) (page : ℕ) (pair found : Pair) → MaybeDamaged file other → page < 2 → SlotCounts file page → (slot_at file page).version ≡ 3
    → stands file ≡ Ok pair → stands other ≡ Ok found → (found ≡ pair) ⊎ CountsInstead file other (1 - page) found
file_told file other page pair found d low was three here there =
    let mine = (stands-slot file pair here).1 in
    let its = (stands-slot other found there).1 in
    let s_is : chosen mine.0 ≡ Ok (slot_at file page) = sym mine.1.0 ∙ was.counts in
    let s : mine.0 ≡ slot_at file page = cc s_is in
    elim (counts_at other page its.0 low its.1.0) [
      | inl same ↦
          let t : its.0 ≡ slot_at other page = (open_slot-is other page its.0 same).0 in
          inl (documents_same file other page pair found d low three (ap (pair_of file) (sym s) ∙ mine.1.1) (ap (pair_of other) (sym t) ∙ its.1.1))
      | inr others ↦ inr (instead file other page found its.0 d low was its.1.0 its.1.1 others.0 others.1)
    ]

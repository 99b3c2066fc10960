-- What a file stands for, from its slots and the documents of the one that counts.
use Rattle.std.proofs.Common.{◌≡◌, ◌≢◌, ◌⊎◌, ℕ, ◌+◌, ◌*◌, ◌<◌, ◌≤◌, Bool, true, false, cond, not, ◌||◌, List, ◌++◌, length, take, drop, slice_index, Option, Some, None, Result, Ok, Err, ◌==◌, nat_lt, refl, sym, ap, ap₂, subst, ◌∙◌, arith, inl, inr, length-take, length-drop, eqb-true, eq-eqb, ne_eqb, lt-ltb}
use Rattle.std.proofs.lemmas.Bool.{cases_Bool, cond-true, cond-false, le-ltb, ltb-false, or_parts}
use Rattle.std.proofs.lemmas.Grind.{same_number_lists}
use Rattle.std.proofs.lemmas.List.{get_or-take, get_or-drop}
use Rattle.std.specs.Option.{option_and_then}
use Rattle.geos_model.specs.Bytes.{same_bytes}
use Rattle.geos_model.specs.Document.{Document}
use Rattle.file_format.specs.File.{slot_text, slot_mark, slot_of, if_open, open_slot, is_sealed, is_version, working_sum, saved_sum, summed_document, counting_slot, both, pair_of, pair_of_counting, stands}
use Rattle.file_format.specs.FileLaws.{FitsSlot}
use Rattle.geos_model.specs.declared.fault.Fault.{Fault}
use Rattle.geos_model.specs.declared.fault.Fault.TheVariants.{NotDocument, Damaged}
use Rattle.file_format.specs.declared.file.Slot.{Slot}
use Rattle.file_format.proofs.Files.{or_later, slot_of-text}
use Rattle.geos_model.proofs.Validity.{not_false}

-- the bytes of the slot at a page
abbrev pub slot_bytes : List ℕ → ℕ → List ℕ
slot_bytes file page = take 44 (drop (512 * page) file)

-- a version of the format
abbrev pub IsVersion : ℕ → Type 0
IsVersion v = (v ≡ 1) ⊎ ((v ≡ 2) ⊎ (v ≡ 3))

-- The documents of a slot, whether or not it counts.
pub record LeadsTo (file : List ℕ) (s : Slot) (updated saved : Document) : Type 0 where
  pub version : IsVersion s.version
  pub reserved : s.reserved ≡ 0
  pub sequence : 1 ≤ s.sequence
  pub sealed : is_sealed s ≡ true
  pub working : summed_document s.version file (working_sum s) s.working ≡ Some updated
  pub saved_is : summed_document s.version file (saved_sum s) s.saved ≡ Some saved

-- The slot that counts, and its documents.
pub record StandsBy (file : List ℕ) (s : Slot) (updated saved : Document) : Type 0 where
  pub long : 1024 ≤ length file
  pub counts : counting_slot (open_slot file 0) (open_slot file 1) ≡ Ok s
  pub version : IsVersion s.version
  pub reserved : s.reserved ≡ 0
  pub sequence : 1 ≤ s.sequence
  pub sealed : is_sealed s ≡ true
  pub working : summed_document s.version file (working_sum s) s.working ≡ Some updated
  pub saved_is : summed_document s.version file (saved_sum s) s.saved ≡ Some saved

pub versioned : (v : ℕ) → IsVersion v → not (is_version v) ≡ false
versioned v (inl one) = subst (λ k. not (is_version k) ≡ false) (sym one) refl
versioned v (inr (inl two)) = subst (λ k. not (is_version k) ≡ false) (sym two) refl
versioned v (inr (inr three)) = subst (λ k. not (is_version k) ≡ false) (sym three) refl

version_of : (v : ℕ) → not (is_version v) ≡ false → IsVersion v
version_of v h = elim (cases_Bool (v == 1)) [
  | inl one ↦ inl (eqb-true v 1 one)
  | inr other ↦
      let rest : (v == 2 || v == 3) ≡ true = or_later (v == 1) (v == 2 || v == 3) (not_false (is_version v) h) other in
      elim (cases_Bool (v == 2)) [
        | inl two ↦ inr (inl (eqb-true v 2 two))
        | inr more ↦ inr (inr (eqb-true v 3 (or_later (v == 2) (v == 3) rest more)))
      ]
]

-- what is wrong with a slot's fields
abbrev pub is_wrong : Slot → Bool
is_wrong s = not (s.reserved == 0) || (s.sequence == 0 || not (is_sealed s))

pub tested : (s : Slot) → s.reserved ≡ 0 → 1 ≤ s.sequence → is_sealed s ≡ true → is_wrong s ≡ false
tested s none some sealed =
    ap₂ (λ (a b : Bool). not a || b) (eq-eqb s.reserved 0 none) (ap₂ (λ (a b : Bool). a || not b) (ne_eqb s.sequence 0 (λ e. absurd (omega (arith, some, e)))) sealed)

pub pair_of-from : (file : List ℕ) (s : Slot) (updated saved : Document) → LeadsTo file s updated saved → pair_of file s ≡ Ok (updated, saved)
pair_of-from file s updated saved leads =
    cond-false _ _ _ (versioned s.version leads.version)
    ∙ cond-false _ _ _ (tested s leads.reserved leads.sequence leads.sealed)
    ∙ ap₂ both leads.working leads.saved_is

pub stands-from : (file : List ℕ) (s : Slot) (updated saved : Document) → StandsBy file s updated saved → stands file ≡ Ok (updated, saved)
stands-from file s updated saved by =
    cond-false _ _ _ (le-ltb (length file) 1024 by.long)
    ∙ ap (pair_of_counting file) by.counts
    ∙ pair_of-from file s updated saved (record { version = by.version; reserved = by.reserved; sequence = by.sequence; sealed = by.sealed; working = by.working; saved_is = by.saved_is })

-- which slot counts

pub counts-first : (file : List ℕ) (s : Slot) → open_slot file 0 ≡ Some s → open_slot file 1 ≡ None → counting_slot (open_slot file 0) (open_slot file 1) ≡ Ok s
counts-first file s first second = ap₂ counting_slot first second

pub counts-second : (file : List ℕ) (s : Slot) → open_slot file 0 ≡ None → open_slot file 1 ≡ Some s → counting_slot (open_slot file 0) (open_slot file 1) ≡ Ok s
counts-second file s first second = ap₂ counting_slot first second

pub counts-first_newer : (file : List ℕ) (s t : Slot) → open_slot file 0 ≡ Some s → open_slot file 1 ≡ Some t → t.sequence < s.sequence → counting_slot (open_slot file 0) (open_slot file 1) ≡ Ok s
counts-first_newer file s t first second newer =
    ap₂ counting_slot first second ∙ cond-false _ _ _ (ne_eqb s.sequence t.sequence (λ e. absurd (omega (arith, newer, e)))) ∙ cond-false _ _ _ (le-ltb s.sequence t.sequence (omega (arith, newer)))

pub counts-second_newer : (file : List ℕ) (s t : Slot) → open_slot file 0 ≡ Some s → open_slot file 1 ≡ Some t → s.sequence < t.sequence → counting_slot (open_slot file 0) (open_slot file 1) ≡ Ok t
counts-second_newer file s t first second newer =
    ap₂ counting_slot first second ∙ cond-false _ _ _ (ne_eqb s.sequence t.sequence (λ e. absurd (omega (arith, newer, e)))) ∙ cond-true _ _ _ (lt-ltb s.sequence t.sequence newer)

-- a slot rests on its bytes alone

byte_of_slot : (file : List ℕ) (page k : ℕ) → k < 44 → slice_index (slot_bytes file page) k ≡ slice_index file (512 * page + k)
byte_of_slot file page k l = get_or-take 44 (drop (512 * page) file) k 0 l ∙ get_or-drop (512 * page) file k 0

pub slot_bytes-kept : (old new : List ℕ) (page : ℕ) → 512 * page + 44 ≤ length old → 512 * page + 44 ≤ length new → ((i : ℕ) → i < 44 → slice_index new (512 * page + i) ≡ slice_index old (512 * page + i)) → slot_bytes new page ≡ slot_bytes old page
slot_bytes-kept old new page long_old long_new same =
    let at : ℕ = 512 * page in
    let size_new : length (slot_bytes new page) ≡ 44 = omega (arith, length-take 44 (drop at new), length-drop at new, long_new) in
    let size_old : length (slot_bytes old page) ≡ 44 = omega (arith, length-take 44 (drop at old), length-drop at old, long_old) in
    same_number_lists (slot_bytes new page) (slot_bytes old page) (size_new ∙ sym size_old) (λ k l.
    let below : k < 44 = omega (arith, l, size_new) in
    byte_of_slot new page k below ∙ same k below ∙ sym (byte_of_slot old page k below))

pub open_slot-kept : (old new : List ℕ) (page : ℕ) → slot_bytes new page ≡ slot_bytes old page → open_slot new page ≡ open_slot old page
open_slot-kept old new page same = ap (λ (bytes : List ℕ). option_and_then if_open (slot_of bytes)) same

-- a slot as it is written
pub open_slot-text : (file : List ℕ) (page : ℕ) (s : Slot) (rest : List ℕ) → slot_bytes file page ≡ slot_text s ++ rest → FitsSlot s → open_slot file page ≡ if_open s
open_slot-text file page s rest is fits = ap (λ (bytes : List ℕ). option_and_then if_open (slot_of bytes)) is ∙ ap (option_and_then if_open) (slot_of-text s rest fits)

-- a gate that isn't 1 is closed, whatever else the slot holds
pub open_slot-shut : (file : List ℕ) (page : ℕ) → slice_index file (512 * page + 4) ≢ 1 → open_slot file page ≡ None
open_slot-shut file page shut =
    let bytes : List ℕ = slot_bytes file page in
    let gate : slice_index bytes 4 ≡ slice_index file (512 * page + 4) = byte_of_slot file page 4 (omega arith) in
    elim (cases_Bool (same_bytes (take 4 bytes) slot_mark)) [
      | inl marked ↦ ap (option_and_then if_open) (cond-true _ _ _ marked) ∙ cond-false _ _ _ (ne_eqb (slice_index bytes 4) 1 (λ e. shut (sym gate ∙ e)))
      | inr other ↦ ap (option_and_then if_open) (cond-false _ _ _ other)
    ]

-- What a file that stands has.

abbrev pub Pair : Type 0
Pair = Document × Document

slot_there : (file : List ℕ) (r : Result Slot Fault) (pair : Pair) → pair_of_counting file r ≡ Ok pair → (s : Slot) × ((r ≡ Ok s) × (pair_of file s ≡ Ok pair))
slot_there file (Err fault) pair e = absurd (cc e)
slot_there file (Ok s) pair e = (s, (refl, e))

first_of : Document → Result Pair Fault → Document
first_of d (Ok pair) = pair.0
first_of d (Err fault) = d

second_of : Document → Result Pair Fault → Document
second_of d (Ok pair) = pair.1
second_of d (Err fault) = d

both_there : (first second : Option Document) (pair : Pair) → both first second ≡ Ok pair → (first ≡ Some pair.0) × (second ≡ Some pair.1)
unfolding first_of second_of
both_there None second pair e = absurd (cc e)
both_there (Some u) None pair e = absurd (cc e)
both_there (Some u) (Some v) pair e = (ap (λ r. Some (first_of u r)) e, ap (λ r. Some (second_of v r)) e)

-- where a test holds the answer is a refusal, so it doesn't
passed : (test : Bool) (fault : Fault) (other : Result Pair Fault) (pair : Pair) → cond test (Err fault) other ≡ Ok pair → (test ≡ false) × (other ≡ Ok pair)
passed test fault other pair e = elim (cases_Bool test) [
  | inl so ↦ (let refused : Err fault ≡ Ok pair = sym (cond-true _ _ _ so) ∙ e in absurd (cc refused))
  | inr other_way ↦ (other_way, sym (cond-false _ _ _ other_way) ∙ e)
]

pub pair_of-by : (file : List ℕ) (s : Slot) (pair : Pair) → pair_of file s ≡ Ok pair → LeadsTo file s pair.0 pair.1
pair_of-by file s pair e =
    let working : Option Document = summed_document s.version file (working_sum s) s.working in
    let saved : Option Document = summed_document s.version file (saved_sum s) s.saved in
    let version = passed (not (is_version s.version)) NotDocument (cond (is_wrong s) (Err Damaged) (both working saved)) pair e in
    let fields = passed (is_wrong s) Damaged (both working saved) pair version.1 in
    let zeros = or_parts (not (s.reserved == 0)) (s.sequence == 0 || not (is_sealed s)) fields.0 in
    let more = or_parts (s.sequence == 0) (not (is_sealed s)) zeros.1 in
    let documents = both_there working saved pair fields.1 in
    let some : s.sequence ≢ 0 = λ z. absurd (cc (sym (eq-eqb s.sequence 0 z) ∙ more.0)) in
    record {
      version = version_of s.version version.0;
      reserved = eqb-true s.reserved 0 (not_false (s.reserved == 0) zeros.0);
      sequence = omega (arith, some);
      sealed = not_false (is_sealed s) more.1;
      working = documents.0;
      saved_is = documents.1;
    }

-- the slot that counts, and what it leads to
pub stands-slot : (file : List ℕ) (pair : Pair) → stands file ≡ Ok pair → (1024 ≤ length file) × ((s : Slot) × ((counting_slot (open_slot file 0) (open_slot file 1) ≡ Ok s) × (pair_of file s ≡ Ok pair)))
stands-slot file pair e =
    let counting : Result Slot Fault = counting_slot (open_slot file 0) (open_slot file 1) in
    let long = passed (nat_lt (length file) 1024) NotDocument (pair_of_counting file counting) pair e in
    (ltb-false (length file) 1024 long.0, slot_there file counting pair long.1)

pub stands-by : (file : List ℕ) (pair : Pair) → stands file ≡ Ok pair → (s : Slot) × StandsBy file s pair.0 pair.1
stands-by file pair e =
    let found = stands-slot file pair e in
    let s : Slot = found.1.0 in
    let leads = pair_of-by file s pair found.1.1.1 in (
      s,
      record {
        long = found.0;
        counts = found.1.1.0;
        version = leads.version;
        reserved = leads.reserved;
        sequence = leads.sequence;
        sealed = leads.sealed;
        working = leads.working;
        saved_is = leads.saved_is;
      },
    )

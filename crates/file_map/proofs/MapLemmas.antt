-- What lies in a file, by what was found of it.
use Rattle.std.proofs.Common.{◌≡◌, ℕ, ◌<◌, ◌≤◌, ◌==◌, Bool, true, false, List, length, map, get_or, Option, Some, None, Result, Ok, Err, arith, refl, sym, subst, ap, ap₂, ◌∙◌, inl, inr}
use Rattle.std.specs.Prelude.{if◌then◌else◌, nat_lt, IfErr, IsOk, IsErr, IsTrue, IsPermutation, OnOk}
use Rattle.std.specs.Option.{option_map}
use Rattle.std.specs.Result.{result_ok}
use Rattle.std.specs.List.Sorted.{IsNonDecreasingBy}
use Rattle.std.proofs.lemmas.Bool.{cases_lt, lt-ltb}
use Rattle.std.proofs.lemmas.Result.{on_ok_weaker}
use Rattle.std.proofs.lemmas.List as lists
use Rattle.std.proofs.lemmas.List.{length-map}
use Rattle.geos_model.specs.Document.{Document}
use Rattle.file_format.specs.File.{counting_slot, open_slot, pages_of, pair_of, pair_of_counting, stands}
use Rattle.geos_model.specs.declared.fault.Fault.{Fault}
use Rattle.geos_model.specs.declared.fault.Fault.TheVariants.{Damaged, NotDocument}
use Rattle.file_format.specs.declared.file.Slot.{Slot}
use Rattle.file_report.proofs.SlotLemmas.{pair_wrong}
use Rattle.file_report.proofs.StandsLemmas.{state_opened, file_verdict}
use Rattle.file_format.specs.Slots.{header_verdict}
use Rattle.file_report.specs.Checked.{IsReport, IsSlotReport, IsState, chosen, counting_between, opened, verdict_by, verdict_of}
use Rattle.file_report.specs.Pages.{file_usages, slot_usages, slots_usage, usages_of}
use Rattle.file_report.specs.declared.checking.Report.{Report}
use Rattle.file_report.specs.declared.checking.SlotReport.{SlotReport}
use Rattle.file_report.specs.declared.checking.SlotState.{SlotState}
use Rattle.file_report.specs.declared.checking.SlotState.TheVariants.{Short, NoMark, Closed, Open}
use Rattle.file_report.specs.declared.pages.Usage.{Usage}
use Rattle.vm_store.specs.Facts.{StoreFacts}
use Rattle.file_format.specs.Reading.{OnlyReadsStore}
use Rattle.file_format.proofs.LooksLemmas.{held_before}
use Rattle.std.specs.Io.KnownBytes.{Appends}
use Rattle.file_map.specs.Drawn.{IsDrawn, IsDrawnOf, IsFileMap}
use Rattle.file_map.specs.Faults.{IsLack, IsMapRefusal, IsUncounted}
use Rattle.file_map.specs.declared.fault.MapFault.{MapFault}
use Rattle.file_map.specs.declared.fault.MapFault.TheVariants.{Memory, File, Unopened, Write}
use Rattle.file_map.specs.Parts.{part_of_usage}
use Rattle.file_map.specs.declared.part.Part.{Part}
use Rattle.file_map.specs.declared.reading.FileMap.{FileMap}

-- What a slot leads to.

usages_found : (file : List ℕ) (r : SlotReport) → IsSlotReport file r → IsOk (header_verdict r.slot) → usages_of r ≡ file_usages file r.slot
usages_found file r is right = ap₂ (slot_usages r.slot) (is.updated right) (is.saved right)

right_of : (v : Result (Unit {0}) Fault) (pair : Result (Document × Document) Fault) → ((fault : Fault) → v ≡ Err fault → pair ≡ Err fault) → IsOk (verdict_of pair) → IsOk v
right_of (Ok u) pair wrong ok = refl
right_of (Err fault) pair wrong ok = let none : IsOk (verdict_of (Err fault)) = subst (λ (p : Result (Document × Document) Fault). IsOk (verdict_of p)) (wrong fault refl) ok in absurd (cc none)

-- a slot that leads to documents isn't wrong itself
right_header : (file : List ℕ) (s : Slot) → IsOk (verdict_of (pair_of file s)) → IsOk (header_verdict s)
right_header file s ok = right_of (header_verdict s) (pair_of file s) (pair_wrong file s) ok

-- The slot that counts.

-- it was found so, the definitions have it count, and its verdict is that of the file
pub record IsCounting (file : List ℕ) (a b : Option SlotReport) (r : SlotReport) : Type 0 where
  pub report : IsSlotReport file r
  pub counts : counting_slot (option_map (λ s. s.slot) a) (option_map (λ s. s.slot) b) ≡ Ok r.slot
  pub verdict : verdict_by (chosen a b) ≡ r.verdict

abbrev AreFound : List ℕ → Option SlotReport → Type 0
AreFound file found = (t : SlotReport) → found ≡ Some t → IsSlotReport file t

state_found : (file : List ℕ) (page : ℕ) (state : SlotState) → IsState file page state → AreFound file (opened state)
state_found file page Short is t same = absurd (cc same)
state_found file page NoMark is t same = absurd (cc same)
state_found file page (Closed s) is t same = absurd (cc same)
state_found file page (Open u) is t same = let e : u ≡ t = cc same in subst (IsSlotReport file) e is.2

abbrev found_in : Result (ℕ × SlotReport) Fault → Option SlotReport
found_in choice = option_map (λ p. p.1) (result_ok choice)

abbrev chosen_of : Bool → Bool → SlotReport → SlotReport → Result (ℕ × SlotReport) Fault
chosen_of same less t u = if same then Err Damaged else if less then Ok (1, u) else Ok (0, t)

counting_two : (file : List ℕ) (same less : Bool) (t u r : SlotReport) → IsSlotReport file t → IsSlotReport file u → found_in (chosen_of same less t u) ≡ Some r
    → IsSlotReport file r × ((if same then Err Damaged else if less then Ok u.slot else Ok t.slot) ≡ Ok r.slot) × (verdict_by (chosen_of same less t u) ≡ r.verdict)
counting_two file true less t u r first second is = absurd (cc is)
counting_two file false true t u r first second is = let e : u ≡ r = cc is in (subst (IsSlotReport file) e second, ap (λ x. Ok x.slot) e, ap (λ x. x.verdict) e)
counting_two file false false t u r first second is = let e : t ≡ r = cc is in (subst (IsSlotReport file) e first, ap (λ x. Ok x.slot) e, ap (λ x. x.verdict) e)

found_counting : (file : List ℕ) (a b : Option SlotReport) (r : SlotReport) → AreFound file a → AreFound file b → found_in (chosen a b) ≡ Some r → IsCounting file a b r
found_counting file None None r first second is = absurd (cc is)
found_counting file (Some t) None r first second is = let e : t ≡ r = cc is in record { report = subst (IsSlotReport file) e (first t refl); counts = ap (λ x. Ok x.slot) e; verdict = ap (λ x. x.verdict) e }
found_counting file None (Some u) r first second is = let e : u ≡ r = cc is in record { report = subst (IsSlotReport file) e (second u refl); counts = ap (λ x. Ok x.slot) e; verdict = ap (λ x. x.verdict) e }
found_counting file (Some t) (Some u) r first second is =
    let all = counting_two file (t.slot.sequence == u.slot.sequence) (nat_lt t.slot.sequence u.slot.sequence) t u r (first t refl) (second u refl) is in
    record { report = all.0; counts = all.1; verdict = all.2 }

none_two : (same less : Bool) (t u : SlotReport) → found_in (chosen_of same less t u) ≡ None → IsErr (verdict_by (chosen_of same less t u))
none_two true less t u none = refl
none_two false true t u none = absurd (cc none)
none_two false false t u none = absurd (cc none)

-- where none counts the file doesn't open
none_counts : (a b : Option SlotReport) → found_in (chosen a b) ≡ None → IsErr (verdict_by (chosen a b))
none_counts None None none = refl
none_counts (Some t) None none = absurd (cc none)
none_counts None (Some u) none = absurd (cc none)
none_counts (Some t) (Some u) none = none_two (t.slot.sequence == u.slot.sequence) (nat_lt t.slot.sequence u.slot.sequence) t u none

pub verdict_err : (x : Result (Document × Document) Fault) (fault : Fault) → verdict_of x ≡ Err fault → x ≡ Err fault
verdict_err (Ok d) fault is = absurd (cc is)
verdict_err (Err f) fault is = cc is

verdict_ok : (x : Result (Document × Document) Fault) → IsOk (verdict_of x) → IsOk x
verdict_ok (Ok d) is = refl
verdict_ok (Err f) is = absurd (cc is)

both_ways : (x : Result (Unit {0}) Fault) → IsOk x → IsErr x → ⊥
both_ways (Ok u) ok err = cc err
both_ways (Err f) ok err = cc ok

abbrev rest_of : List ℕ → Result (Document × Document) Fault
rest_of file = pair_of_counting file (counting_slot (open_slot file 0) (open_slot file 1))

short_err : (b : Bool) (rest : Result (Document × Document) Fault) → b ≡ true → IsOk (verdict_of (if b then Err NotDocument else rest)) → ⊥
short_err true rest is ok = cc ok
short_err false rest is ok = cc is

-- a file that opens has both slots' pages
long_file : (file : List ℕ) → IsOk (verdict_of (stands file)) → 1024 ≤ length file
long_file file ok = elim (cases_lt (length file) 1024) [
  | inl short ↦ absurd (short_err (nat_lt (length file) 1024) (rest_of file) (lt-ltb (length file) 1024 short) ok)
  | inr long ↦ long
]

pub some_counts : (file : List ℕ) (r : Report) → IsReport file r → IsOk r.verdict → counting_between r.first r.second ≡ None → ⊥
some_counts file r is ok none =
    let opens : IsOk (verdict_of (stands file)) = subst IsOk is.verdict ok in
    let long = long_file file opens in
    let same = file_verdict file r.first r.second long is.first is.second in
    both_ways (verdict_of (stands file)) opens (subst IsErr same (none_counts (opened r.first) (opened r.second) none))

-- Lists of parts.

pub sorted_parts : (ps : List Part) (us : List Usage) → map (λ p. p.extent) ps ≡ map (λ u. u.extent) us → IsNonDecreasingBy (λ u. u.extent.page) us → IsNonDecreasingBy (λ p. p.extent.page) ps
sorted_parts ps us same sorted = λ i j d rises within.
    let size : length ps ≡ length us = sym (length-map ps (λ p. p.extent)) ∙ ap length same ∙ length-map us (λ u. u.extent) in
    let inside : j < length us = omega (arith, within, size) in
    let before : i < length ps = omega (arith, rises, within) in
    let at : (k : ℕ) → k < length ps → (get_or ps k d).extent ≡ (get_or us k slots_usage).extent =
    λ k below. sym (lists.get_or-map (λ p. p.extent) ps k d d.extent below) ∙ ap (λ es. get_or es k d.extent) same ∙ lists.get_or-map (λ u. u.extent) us k slots_usage d.extent (omega (arith, below, size)) in
    let first = ap (λ e. e.page) (at i before) in
    let second = ap (λ e. e.page) (at j within) in
    let order = sorted i j slots_usage rises inside in
    omega (arith, first, second, order)

-- what was read of a file that opens
pub file_map : (file : List ℕ) (r : Report) (s : SlotReport) (us : List Usage) (m : FileMap) → IsReport file r → IsOk r.verdict → counting_between r.first r.second ≡ Some s
    → IsPermutation (usages_of s) us → IsNonDecreasingBy (λ u. u.extent.page) us → m.parts.items ≡ map (part_of_usage file) us → m.pages ≡ pages_of r.file_length → IsFileMap file m
file_map file r s us m is ok counts lists sorted parts pages =
    let opens : IsOk (verdict_of (stands file)) = subst IsOk is.verdict ok in
    let long = long_file file opens in
    let a = state_opened file 0 r.first long is.first in
    let b = state_opened file 1 r.second long is.second in
    let found = found_counting file (opened r.first) (opened r.second) s (state_found file 0 r.first is.first) (state_found file 1 r.second is.second) counts in
    let same = file_verdict file r.first r.second long is.first is.second in
    let stands_slot : IsOk (verdict_of (pair_of file s.slot)) = subst IsOk (sym same ∙ found.verdict ∙ found.report.verdict) opens in
    record {
      usages = us;
      list = record {
        opens = verdict_ok (stands file) opens;
        slot = s.slot;
        counts = ap₂ counting_slot a.slot b.slot ∙ found.counts;
        lists = subst (λ vs. IsPermutation vs us) (usages_found file s found.report (right_header file s.slot stands_slot)) lists;
        sorted = sorted;
      };
      parts = parts;
      pages = pages ∙ ap pages_of is.length;
    }

-- Refusals.

-- that no slot counts, or a verdict, is told of a file that doesn't open
pub uncounted : (store : StoreFacts) (r : Report) (fault : MapFault) → (IsTrue store.honest → IsReport store.content r) → IsUncounted r fault → IsMapRefusal store fault
uncounted store r (Unopened fault) report is = λ so. elim is [
  | inl wrong ↦ verdict_err (stands store.content) fault (sym (report so).verdict ∙ wrong)
  | inr lost ↦ absurd (some_counts store.content r (report so) lost.0 lost.1)
]
uncounted store r Memory report is = absurd is
uncounted store r File report is = absurd is
uncounted store r Write report is = absurd is

refused_before : (a b : StoreFacts) (fault : MapFault) → OnlyReadsStore a b → IsMapRefusal b fault → IsMapRefusal a fault
refused_before a b (Unopened fault) looks is = held_before (λ file. stands file ≡ Err fault) a b looks is
refused_before a b Memory looks is = tt
refused_before a b File looks is = tt
refused_before a b Write looks is = tt

pub refusals_before : {T : Type 0} (a b : StoreFacts) (r : Result T MapFault) → OnlyReadsStore a b → IfErr r (IsMapRefusal b) → IfErr r (IsMapRefusal a)
refusals_before a b (Ok t) looks is = tt
refusals_before a b (Err fault) looks is = refused_before a b fault looks is

lack_is : (store : StoreFacts) (fault : MapFault) → IsLack fault → IsMapRefusal store fault
lack_is store (Unopened fault) is = absurd (elim is [ inl read ↦ elim read [ inl e ↦ cc e | inr e ↦ cc e ] | inr e ↦ cc e ])
lack_is store Memory is = tt
lack_is store File is = tt
lack_is store Write is = tt

pub lacks_refuse : {T : Type 0} (store : StoreFacts) (r : Result T MapFault) → IfErr r IsLack → IfErr r (IsMapRefusal store)
lacks_refuse store (Ok t) is = tt
lacks_refuse store (Err fault) is = lack_is store fault is

drawn_of : (picture : List ℕ → List Part → List Part → ℕ → List ℕ) (file : List ℕ) (m : FileMap) (from to : Option (List ℕ)) → IsFileMap file m
    → IsDrawnOf picture file m.parts.items m.pages from to → IsDrawn picture file from to
drawn_of picture file m from to is sent = record {
  usages = is.usages;
  list = is.list;
  drawn = subst (λ (ps : List Part). IsDrawnOf picture file ps (pages_of (length file)) from to) is.parts
      (subst (λ (n : ℕ). IsDrawnOf picture file m.parts.items n from to) is.pages sent);
}

-- The whole picture, which was drawn of a file as it was read.
pub picture_drawn : (picture : List ℕ → List Part → List Part → ℕ → List ℕ) (old read : StoreFacts) (m : FileMap) (from to : Option (List ℕ)) (end : Result (Unit {0}) MapFault)
    → OnlyReadsStore old read → (IsTrue old.honest → IsFileMap old.content m) → OnOk end (IsTrue read.honest → IsDrawnOf picture read.content m.parts.items m.pages from to)
    → OnOk end (IsTrue old.honest → IsDrawn picture old.content from to)
picture_drawn picture old read m from to end looks is sent =
    on_ok_weaker end (λ told so. drawn_of picture old.content m from to (is so) (held_before (λ f. IsDrawnOf picture f m.parts.items m.pages from to) old read looks told so)) sent

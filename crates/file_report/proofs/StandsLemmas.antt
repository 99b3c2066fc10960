-- The verdict on a file, by the states of its slots.
use Rattle.std.proofs.Common.{◌≡◌, ◌≤◌, ◌==◌, ℕ, Bool, true, false, List, Option, Some, None, Result, Ok, Err, length, arith, refl, sym, ap, ◌∙◌, eq-eqb, ne_eqb}
use Rattle.std.specs.Prelude.{if◌then◌else◌, nat_lt}
use Rattle.std.specs.Option.{option_map, option_and_then}
use Rattle.std.specs.Result.{result_map_both}
use Rattle.std.proofs.lemmas.Bool.{cond-true, cond-false, le-ltb}
use Rattle.file_format.specs.File.{counting_slot, if_open, open_slot, pair_of, pair_of_counting, stands}
use Rattle.geos_model.specs.declared.fault.Fault.{Fault}
use Rattle.geos_model.specs.declared.fault.Fault.TheVariants.{Damaged}
use Rattle.file_format.specs.Slots.{chosen_by}
use Rattle.file_report.specs.Checked.{IsState, chosen, chosen_between, opened, verdict_by, verdict_of}
use Rattle.file_report.specs.declared.checking.SlotReport.{SlotReport}
use Rattle.file_report.specs.declared.checking.SlotState.{SlotState}
use Rattle.file_report.specs.declared.checking.SlotState.TheVariants.{Short, NoMark, Closed, Open}

-- what the definitions say of an open slot, by what was found of it
pub record IsOpened (file : List ℕ) (page : ℕ) (found : Option SlotReport) : Type 0 where
  pub slot : open_slot file page ≡ option_map (λ r. r.slot) found
  pub verdict : (r : SlotReport) → found ≡ Some r → r.verdict ≡ verdict_of (pair_of file r.slot)

some_same : (r t : SlotReport) → Some r ≡ Some t → r ≡ t
some_same r t same = cc same

pub state_opened : (file : List ℕ) (page : ℕ) (state : SlotState) → 1024 ≤ length file → IsState file page state → IsOpened file page (opened state)
state_opened file page Short long is = absurd (omega (arith, long, is))
state_opened file page NoMark long is = record { slot = ap (option_and_then if_open) is; verdict = λ r same. absurd (cc same) }
state_opened file page (Closed s) long is = record { slot = ap (option_and_then if_open) is.0 ∙ cond-false _ _ _ (ne_eqb s.gate 1 is.1); verdict = λ r same. absurd (cc same) }
state_opened file page (Open t) long is = record {
  slot = ap (option_and_then if_open) is.0 ∙ cond-true _ _ _ (eq-eqb t.slot.gate 1 is.1);
  verdict = λ r same. sym (ap (λ x. x.verdict) (some_same t r same)) ∙ is.2.verdict ∙ ap (λ x. verdict_of (pair_of file x.slot)) (some_same t r same);
}

abbrev pub with_second : {T U : Type 0} → (T → U) → ℕ × T → ℕ × U
with_second f p = (p.0, f p.1)

abbrev pub in_choice : {T U : Type 0} → (T → U) → Result (ℕ × T) Fault → Result (ℕ × U) Fault
in_choice f choice = result_map_both (with_second f) (λ fault. fault) choice

two_mapped : {T U : Type 0} (f : T → U) (same less : Bool) (one other : T)
    → in_choice f (if same then Err Damaged else if less then Ok (1, other) else Ok (0, one)) ≡ (if same then Err Damaged else if less then Ok (1, f other) else Ok (0, f one))
two_mapped {T} {U} f true less one other = refl
two_mapped {T} {U} f false true one other = refl
two_mapped {T} {U} f false false one other = refl

-- the choice doesn't look at what goes with the numbers
pub chosen_mapped : {T U : Type 0} (f : T → U) (a b : Option (ℕ × T)) → in_choice f (chosen_by a b) ≡ chosen_by (option_map (with_second f) a) (option_map (with_second f) b)
chosen_mapped {T} {U} f None None = refl
chosen_mapped {T} {U} f (Some p) None = refl
chosen_mapped {T} {U} f None (Some q) = refl
chosen_mapped {T} {U} f (Some p) (Some q) = two_mapped f (p.0 == q.0) (nat_lt p.0 q.0) p.1 q.1

two_verdicts : (file : List ℕ) (same less : Bool) (r t : SlotReport) → r.verdict ≡ verdict_of (pair_of file r.slot) → t.verdict ≡ verdict_of (pair_of file t.slot)
    → verdict_by (if same then Err Damaged else if less then Ok (1, t) else Ok (0, r)) ≡ verdict_of (pair_of_counting file (if same then Err Damaged else if less then Ok t.slot else Ok r.slot))
two_verdicts file true less r t first second = refl
two_verdicts file false true r t first second = second
two_verdicts file false false r t first second = first

found_verdict : (file : List ℕ) (a b : Option SlotReport) → IsOpened file 0 a → IsOpened file 1 b
    → verdict_by (chosen a b) ≡ verdict_of (pair_of_counting file (counting_slot (option_map (λ r. r.slot) a) (option_map (λ r. r.slot) b)))
found_verdict file None None first second = refl
found_verdict file (Some r) None first second = first.verdict r refl
found_verdict file None (Some t) first second = second.verdict t refl
found_verdict file (Some r) (Some t) first second =
    two_verdicts file (r.slot.sequence == t.slot.sequence) (nat_lt r.slot.sequence t.slot.sequence) r t (first.verdict r refl) (second.verdict t refl)

pub file_verdict : (file : List ℕ) (first second : SlotState) → 1024 ≤ length file → IsState file 0 first → IsState file 1 second → verdict_by (chosen_between first second) ≡ verdict_of (stands file)
file_verdict file first second long one two =
    let a = state_opened file 0 first long one in
    let b = state_opened file 1 second long two in
    found_verdict file (opened first) (opened second) a b
    ∙ ap (λ x. verdict_of (pair_of_counting file (counting_slot x (option_map (λ r. r.slot) (opened second))))) (sym a.slot)
    ∙ ap (λ x. verdict_of (pair_of_counting file (counting_slot (open_slot file 0) x))) (sym b.slot)
    ∙ sym (ap verdict_of (cond-false _ _ _ (le-ltb (length file) 1024 long)))

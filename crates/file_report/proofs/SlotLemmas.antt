-- The verdict on a slot.
use Rattle.std.proofs.Common.{◌≡◌, ◌≢◌, ◌⊎◌, inl, inr, ℕ, ◌==◌, ◌||◌, ◌&&◌, not, Bool, true, false, List, Option, Some, None, Result, Ok, Err, is_some, refl, ap, ◌∙◌, subst, eqb-true}
use Rattle.std.specs.Prelude.{if◌then◌else◌, IsErr, IsOk}
use Rattle.geos_model.specs.Document.{Document}
use Rattle.file_format.specs.File.{both, is_sealed, is_version, pair_of}
use Rattle.geos_model.specs.declared.fault.Fault.{Fault}
use Rattle.geos_model.specs.declared.fault.Fault.TheVariants.{NotDocument, Damaged}
use Rattle.file_format.specs.declared.file.Slot.{Slot}
use Rattle.file_format.specs.Slots.{header_verdict}
use Rattle.file_report.specs.Checked.{named_document, verdict_of}
use Rattle.file_report.specs.declared.finding.Named.TheVariants.{Updated, Saved}

pub no_version : (v : ℕ) → is_version v ≡ false → (v ≢ 1) × (v ≢ 2) × (v ≢ 3)
no_version v none = (
  λ one. let wrong = subst (λ k. is_version k ≡ false) one none in absurd (cc wrong),
  λ two. let wrong = subst (λ k. is_version k ≡ false) two none in absurd (cc wrong),
  λ three. let wrong = subst (λ k. is_version k ≡ false) three none in absurd (cc wrong),
)

-- the documents of its two directories
abbrev pub summed_pair : List ℕ → Slot → Result (Document × Document) Fault
summed_pair file s = both (named_document file s Updated) (named_document file s Saved)

abbrev pub right_header : Result (Unit {0}) Fault
right_header = Ok tt

abbrev headed : {T : Type 0} → Bool → Bool → Bool → Result T Fault → Result T Fault
headed a b c rest = if not a then Err NotDocument else if not b || c then Err Damaged else rest

wrong_part : (a b c : Bool) → IsErr (headed a b c right_header) → (a ≡ false) ⊎ ((b ≡ false) ⊎ (not c ≡ false))
wrong_part false b c wrong = inl refl
wrong_part true false c wrong = inr (inl refl)
wrong_part true true true wrong = inr (inr refl)
wrong_part true true false wrong = absurd (cc wrong)

neither_wrong : (a b : Bool) → not (a || not b) ≡ false → (not a ≡ false) ⊎ (b ≡ false)
neither_wrong true b wrong = inl refl
neither_wrong false true wrong = absurd (cc wrong)
neither_wrong false false wrong = inr refl

-- one of the four is wrong
pub header_wrong : (s : Slot) → IsErr (header_verdict s) → (is_version s.version ≡ false) ⊎ (((s.reserved == 0) ≡ false) ⊎ ((not (s.sequence == 0) ≡ false) ⊎ (is_sealed s ≡ false)))
header_wrong s wrong = elim (wrong_part (is_version s.version) (s.reserved == 0) (s.sequence == 0 || not (is_sealed s)) wrong) [
  | inl version ↦ inl version
  | inr rest ↦ inr (elim rest [
    | inl reserved ↦ inl reserved
    | inr other ↦ inr (neither_wrong (s.sequence == 0) (is_sealed s) other)
  ])
]

wrong_pair : (a b c : Bool) (rest : Result (Document × Document) Fault) → IsErr (headed a b c right_header) → headed a b c right_header ≡ verdict_of (headed a b c rest)
wrong_pair false b c rest wrong = refl
wrong_pair true false c rest wrong = refl
wrong_pair true true true rest wrong = refl
wrong_pair true true false rest wrong = absurd (cc wrong)

-- a slot that is wrong itself leads to no documents
pub header_pair : (file : List ℕ) (s : Slot) → IsErr (header_verdict s) → header_verdict s ≡ verdict_of (pair_of file s)
header_pair file s wrong = wrong_pair (is_version s.version) (s.reserved == 0) (s.sequence == 0 || not (is_sealed s)) (summed_pair file s) wrong

right_rest : {T : Type 0} (a b c : Bool) (rest : Result T Fault) → headed a b c right_header ≡ right_header → headed a b c rest ≡ rest
right_rest false b c rest right = absurd (cc right)
right_rest true false c rest right = absurd (cc right)
right_rest true true true rest right = absurd (cc right)
right_rest true true false rest right = refl

-- one that is right leads to its two documents, if both stand
pub pair_right : (file : List ℕ) (s : Slot) → header_verdict s ≡ right_header → pair_of file s ≡ summed_pair file s
pair_right file s right =
    right_rest (is_version s.version) (s.reserved == 0) (s.sequence == 0 || not (is_sealed s)) (summed_pair file s) right

wrong_rest : {T : Type 0} (a b c : Bool) (rest : Result T Fault) (fault : Fault) → headed a b c right_header ≡ Err fault → headed a b c rest ≡ Err fault
wrong_rest false b c rest fault wrong = let same : NotDocument ≡ fault = cc wrong in ap Err same
wrong_rest true false c rest fault wrong = let same : Damaged ≡ fault = cc wrong in ap Err same
wrong_rest true true true rest fault wrong = let same : Damaged ≡ fault = cc wrong in ap Err same
wrong_rest true true false rest fault wrong = absurd (cc wrong)

-- one that is wrong leads to none, for what is wrong
pub pair_wrong : (file : List ℕ) (s : Slot) (fault : Fault) → header_verdict s ≡ Err fault → pair_of file s ≡ Err fault
pair_wrong file s fault wrong =
    wrong_rest (is_version s.version) (s.reserved == 0) (s.sequence == 0 || not (is_sealed s)) (summed_pair file s) fault wrong

both_stand : (updated saved : Option Document) → verdict_of (both updated saved) ≡ (if is_some updated && is_some saved then right_header else Err Damaged)
both_stand None None = refl
both_stand None (Some d) = refl
both_stand (Some d) None = refl
both_stand (Some d) (Some e) = refl

-- one that is right leads to them where both stand
pub pair_stands : (file : List ℕ) (s : Slot) → header_verdict s ≡ right_header
    → verdict_of (pair_of file s) ≡ (if is_some (named_document file s Updated) && is_some (named_document file s Saved) then right_header else Err Damaged)
pair_stands file s right = ap verdict_of (pair_right file s right) ∙ both_stand (named_document file s Updated) (named_document file s Saved)

not_false : (b : Bool) → not b ≡ false → b ≡ true
not_false true is = refl
not_false false is = absurd (cc is)

pub no_number : (n : ℕ) → not (n == 0) ≡ false → n ≡ 0
no_number n is = eqb-true n 0 (not_false (n == 0) is)

pub none_stands : (a b : Bool) → IsErr (if a && b then right_header else Err Damaged) → (a ≡ false) ⊎ (b ≡ false)
none_stands false b wrong = inl refl
none_stands true false wrong = inr refl
none_stands true true wrong = absurd (cc wrong)

pub err_not_ok : (r : Result (Unit {0}) Fault) → IsErr r → IsOk r → ⊥
err_not_ok (Ok u) err ok = cc err
err_not_ok (Err fault) err ok = cc ok

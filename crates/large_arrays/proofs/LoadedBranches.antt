-- What is read of a branch where it lies.
use Rattle.std.proofs.Common.{◌≡◌, ℕ, ◌+◌, ◌-◌, ◌<◌, ◌≤◌, true, false, List, [], length, take, drop, get_or, Some, None, Result, Ok, Err, IfOk, MatchResult, sym, ap, ap₂, ◌∙◌, inl, inr, arith, length-drop}
use Rattle.std.proofs.lemmas.Bool.{cases_Bool, cond-true, cond-false}
use Rattle.std.proofs.lemmas.List.{drop-drop}
use Rattle.geos_model.specs.Heap.{capacity}
use Rattle.geos_model.specs.Array.{Array, array_bytes}
use Rattle.geos_model.specs.Document.{Document, is_raw, raw_bytes_of}
use Rattle.geos_model.specs.declared.fault.Fault.{Fault}
use Rattle.chunk_arrays.specs.Reading.{element_place}
use Rattle.chunk_arrays.specs.Viewed.{Viewed}
use Rattle.chunk_arrays.proofs.PlaceLemmas.{run-is, one-is, place-within}
use Rattle.geos_model.specs.Pieces.{BranchPiece}
use Rattle.geos_model.specs.LargeLayout.{branch_bytes, branch_of}
use Rattle.large_bodies.specs.BranchReading.{IsPlain}
use Rattle.large_arrays.specs.Loading.{branch_under}
use Rattle.geos_model.proofs.BranchBytes.{array_of_piece, behind, branch_of-is, length-branch_bytes}

-- an array that is a branch stands behind a zero word
pub branch-array : (size count : ℕ) (bytes : List ℕ) (a : Array) → size < 65536 → branch_of size count bytes ≡ Some a.elements → IsPlain a size count
    → (drop 2 bytes ≡ array_bytes a) × (length bytes ≡ 2 + length (array_bytes a))
branch-array size count bytes a small found plain =
    let written : branch_bytes size a.elements ≡ bytes = (branch_of-is size count bytes a.elements small found).1 in
    let same : array_bytes (array_of_piece size a.elements) ≡ array_bytes a =
    ap₂ (λ (e : List ℕ) (n : ℕ). array_bytes (record { extra = e; size = n; elements = a.elements })) (sym plain.2) (sym plain.0) in
    let rest : drop 2 bytes ≡ array_bytes a = ap (drop 2) (sym written) ∙ behind size a.elements ∙ same in
    let long = length-branch_bytes size a.elements in
    let all = ap length written in
    let cut = length-drop 2 bytes in
    let most = ap length rest in
    (rest, omega arith)

pub branch-short : (size count : ℕ) (bytes : List ℕ) (Q : Fault → Type 0) (r : Result Viewed Fault) → size < 65536 → length bytes ≤ capacity
    → MatchResult r (λ v. branch_of size count bytes ≡ Some v.array.elements) Q → IfOk r (λ v. IsPlain v.array size count)
    → IfOk r (λ v. 2 + length (array_bytes v.array) ≤ capacity)
branch-short size count bytes Q (Err fault) small short is plain = tt
branch-short size count bytes Q (Ok v) small short is plain = (let all = (branch-array size count bytes v.array small is plain).1 in omega arith)

-- a branch is a raw block
pub under-raw : (d : Document) (h size count : ℕ) (xs : BranchPiece) → branch_under d h size count ≡ Some xs
    → (is_raw d h ≡ true) × (branch_of size count (raw_bytes_of d h) ≡ Some xs)
under-raw d h size count xs is = elim (cases_Bool (is_raw d h)) [
  | inl raw ↦ (raw, sym (cond-true (is_raw d h) (branch_of size count (raw_bytes_of d h)) None raw) ∙ is)
  | inr other ↦
      (let none : None ≡ Some xs = sym (cond-false (is_raw d h) (branch_of size count (raw_bytes_of d h)) None other) ∙ is in absurd (cc none))
]

pub under-none : (d : Document) (h size count : ℕ) → is_raw d h ≡ false → branch_under d h size count ≡ None
under-none d h size count other = cond-false (is_raw d h) (branch_of size count (raw_bytes_of d h)) None other

-- Elements of a branch, as bytes of its block.
module _ (d : Document) (h size count : ℕ) (a : Array) (small : size < 65536) (found : branch_under d h size count ≡ Some a.elements) (plain : IsPlain a size count) where
  abbrev bytes : List ℕ
  bytes = raw_bytes_of d h

  stands : (drop 2 bytes ≡ array_bytes a) × (length bytes ≡ 2 + length (array_bytes a))
  stands = branch-array size count bytes a small (under-raw d h size count a.elements found).1 plain

  pub placed-within : (i : ℕ) → i ≤ length a.elements → 2 + element_place a i ≤ length bytes
  placed-within i low = let within = place-within a i low in let all = stands.1 in omega arith

  pub placed-element : (i : ℕ) → i < length a.elements → take (2 + element_place a (i + 1) - (2 + element_place a i)) (drop (2 + element_place a i) bytes) ≡ get_or a.elements i []
  placed-element i low =
      let n : 2 + element_place a (i + 1) - (2 + element_place a i) ≡ element_place a (i + 1) - element_place a i = omega arith in
      ap (λ (k : ℕ). take k (drop (2 + element_place a i) bytes)) n
      ∙ ap (take (element_place a (i + 1) - element_place a i)) (sym (drop-drop (element_place a i) 2 bytes) ∙ ap (drop (element_place a i)) stands.0)
      ∙ run-is a i (i + 1) (omega arith) ∙ one-is a.elements i low

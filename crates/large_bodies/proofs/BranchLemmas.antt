-- Bytes with the parts of a branch are a branch, and a branch's bytes have them.
use Rattle.std.proofs.Common.{◌≡◌, ℕ, ◌*◌, ◌<◌, true, ◌&&◌, ◌==◌, if◌then◌else◌, List, [], ◌∷◌, ◌++◌, length, drop, Option, Some, None, refl, sym, ap, ap₂, ◌∙◌, arith, inl, inr, eqb-true}
use Rattle.std.proofs.lemmas.Bool.{cases_Bool, and_parts, and_from, cond-true, cond-false, eq-eqb}
use Rattle.std.specs.Option.{option_and_then}
use Rattle.geos_model.specs.Bytes.{same_bytes}
use Rattle.geos_model.specs.Words.{word, word_at}
use Rattle.geos_model.specs.Array.{Array, array_bytes, array_of}
use Rattle.geos_model.proofs.Images.{word-reads_back}
use Rattle.geos_model.proofs.Arrays.{table_of, same_bytes-is, same_bytes-refl, array_bytes-of, length-array_bytes, length_table-any, table-even, size_lt}
use Rattle.chunk_arrays.specs.Parts.{AreByteValues}
use Rattle.chunk_arrays.proofs.CutLemmas.{word_rejoin}
use Rattle.geos_model.specs.Pieces.{BranchPiece}
use Rattle.geos_model.specs.LargeLayout.{branch_bytes, branch_of}
use Rattle.large_bodies.specs.BranchReading.{BeginsWithZero, IsPlain}
use Rattle.geos_model.proofs.BranchBytes.{array_of_piece, behind, same_size, branch_of-is, length-branch_bytes}

spelled : (size : ℕ) (piece : BranchPiece) → branch_bytes size piece ≡ word 0 ++ array_bytes (array_of_piece size piece)
unfolding branch_bytes
spelled size piece = refl

zero_first : (size : ℕ) (piece : BranchPiece) → word_at (branch_bytes size piece) 0 ≡ 0
unfolding branch_bytes
zero_first size piece = word-reads_back 0 [] (omega arith)

-- a branch begins with a zero word
branch-zero : (size count : ℕ) (bytes : List ℕ) (piece : BranchPiece) → size < 65536 → branch_of size count bytes ≡ Some piece → BeginsWithZero bytes
branch-zero size count bytes piece small found =
    let is = (branch_of-is size count bytes piece small found).1 in
    let long = length-branch_bytes size piece in
    let same = ap length is in
    (omega arith, ap (λ (l : List ℕ). word_at l 0) (sym is) ∙ zero_first size piece)

-- Bytes that don't are none.
pub no_zero : (size count : ℕ) (bytes : List ℕ) → size < 65536 → (BeginsWithZero bytes → ⊥) → branch_of size count bytes ≡ None
no_zero size count bytes small none = by_piece (branch_of size count bytes) refl
  where
    by_piece : (o : Option BranchPiece) → branch_of size count bytes ≡ o → o ≡ None
    by_piece None found = refl
    by_piece (Some piece) found = absurd (none (branch-zero size count bytes piece small found))

abbrev tested : ℕ → ℕ → List ℕ → Array → Option BranchPiece
tested size count bytes a =
    if length a.elements == count && same_bytes (branch_bytes size a.elements) bytes then Some a.elements else None

-- Nor are those with no array behind it.
pub no_array : (size count : ℕ) (bytes : List ℕ) → array_of (drop 2 bytes) ≡ None → branch_of size count bytes ≡ None
unfolding branch_of
no_array size count bytes none = ap (option_and_then (tested size count bytes)) none

-- arrays with the same elements of the same size have tables of the same length
same_tables : (a b : Array) → a.size ≡ b.size → a.elements ≡ b.elements → length (table_of a) ≡ length (table_of b)
same_tables a b size elements = elim (cases_Bool (a.size == 0)) [
  | inl any ↦
      length_table-any a any ∙ ap (λ (xs : BranchPiece). 2 * length xs) elements
      ∙ sym (length_table-any b (ap (λ (n : ℕ). n == 0) (sym size) ∙ any))
  | inr one ↦ ap length (table-even a one) ∙ sym (ap length (table-even b (ap (λ (n : ℕ). n == 0) (sym size) ∙ one)))
]

no_bytes : (xs : List ℕ) → length xs ≡ 0 → xs ≡ []
no_bytes [] none = refl
no_bytes (x ∷ xs) none = absurd (omega arith)

-- The array in a branch has its size and its number of elements, and no extra bytes.
branch-plain : (size count : ℕ) (bytes : List ℕ) (a : Array) → size < 65536 → array_of (drop 2 bytes) ≡ Some a
    → (length a.elements == count && same_bytes (branch_bytes size a.elements) bytes) ≡ true → IsPlain a size count
branch-plain size count bytes a small is test =
    let q : Array = array_of_piece size a.elements in
    let parts = and_parts (length a.elements == count) (same_bytes (branch_bytes size a.elements) bytes) test in
    let written = same_bytes-is (branch_bytes size a.elements) bytes parts.1 in
    let read = array_bytes-of (drop 2 bytes) a is in
    let twice : array_bytes a ≡ array_bytes q = read.1 ∙ ap (drop 2) (sym written) ∙ behind size a.elements in
    let one_size : a.size ≡ size = same_size a q (size_lt a read.0) small twice in
    let tables = same_tables a q one_size refl in
    let left = length-array_bytes a in
    let right = length-array_bytes q in
    let same = ap length twice in
    (one_size, eqb-true (length a.elements) count parts.0, no_bytes a.extra (omega arith))

pub not_plain : (size count : ℕ) (bytes : List ℕ) (a : Array) → size < 65536 → array_of (drop 2 bytes) ≡ Some a → (IsPlain a size count → ⊥) → branch_of size count bytes ≡ None
unfolding branch_of
not_plain size count bytes a small is none =
    let test = length a.elements == count && same_bytes (branch_bytes size a.elements) bytes in
    ap (option_and_then (tested size count bytes)) is ∙ (elim (cases_Bool test) [
      | inl so ↦ absurd (none (branch-plain size count bytes a small is so))
      | inr other ↦ cond-false test (Some a.elements) None other
    ])

-- And where all is so, they are the branch.
pub branch-found : (size count : ℕ) (bytes : List ℕ) (a : Array) → AreByteValues bytes → BeginsWithZero bytes → array_of (drop 2 bytes) ≡ Some a → IsPlain a size count
    → branch_of size count bytes ≡ Some a.elements
unfolding branch_of
branch-found size count bytes a are zero is plain =
    let written : branch_bytes size a.elements ≡ bytes = spelled size a.elements
    ∙ ap₂ (λ (e : List ℕ) (n : ℕ). word 0 ++ array_bytes (record { extra = e; size = n; elements = a.elements })) (sym plain.2) (sym plain.0)
    ∙ ap (λ (l : List ℕ). word 0 ++ l) (array_bytes-of (drop 2 bytes) a is).1
    ∙ ap (λ (w : ℕ). word w ++ drop 2 bytes) (sym zero.1)
    ∙ word_rejoin bytes are 0 zero.0 in
    let test : (length a.elements == count && same_bytes (branch_bytes size a.elements) bytes) ≡ true =
    and_from (length a.elements == count) (same_bytes (branch_bytes size a.elements) bytes) (eq-eqb (length a.elements) count plain.1)
    (ap (λ (l : List ℕ). same_bytes l bytes) written ∙ same_bytes-refl bytes) in
    ap (option_and_then (tested size count bytes)) is ∙ cond-true (length a.elements == count && same_bytes (branch_bytes size a.elements) bytes) (Some a.elements) None test

-- A branch's bytes read back as its elements, and they are those of a block of a chain without a link.
use Rattle.std.proofs.Common.{◌≡◌, ℕ, ◌+◌, ◌*◌, ◌<◌, ◌≤◌, Bool, true, false, ◌&&◌, ◌||◌, ◌==◌, nat_le, nat_lt, if◌then◌else◌, List, [], ◌∷◌, ◌++◌, length, drop, Option, Some, None, sum_by, refl, sym, ap, ap₂, ◌∙◌, arith, inl, inr, length-append, eqb-true, lt-ltb, le-leb, leb-true}
use Rattle.std.proofs.lemmas.Bool.{cases_Bool, and_parts, and_from, cond-true, cond-false, eq-eqb}
use Rattle.std.proofs.lemmas.List.Sums.{sum_by-append}
use Rattle.std.specs.List.{list_all}
use Rattle.std.specs.Option.{option_and_then}
use Rattle.geos_model.specs.Bytes.{same_bytes}
use Rattle.geos_model.specs.Words.{word, word_at}
use Rattle.geos_model.specs.Array.{Array, array_bytes, array_of, is_even}
use Rattle.geos_model.specs.Chain.{is_linked, links}
use Rattle.geos_model.proofs.Arrays.{joined, table_of, same_bytes-is, same_bytes-refl, array_again, array_bytes-of, array_bytes-spelled, length-array_bytes, length-elements, length-joined, length_table-any, table-even, size-read, size_lt}
use Rattle.geos_model.specs.Pieces.{BranchPiece, piece_weight, fits_branch, branch_room}
use Rattle.geos_model.specs.LargeLayout.{branch_bytes, branch_of}

-- each element has the size, where it is one
abbrev pub is_sized : ℕ → BranchPiece → Bool
is_sized size piece = size == 0 || list_all (λ x. length x == size) piece

-- the chunk array in a branch
abbrev pub array_of_piece : ℕ → BranchPiece → Array
array_of_piece size piece = record { extra = []; size = size; elements = piece }

weight-two : (piece : BranchPiece) → sum_by (λ x. length x + 2) piece ≡ 2 * length piece + length (joined piece)
weight-two [] = refl
weight-two (x ∷ xs) =
    let rest = weight-two xs in
    let long = length-append x (joined xs) in
    let step = sum_by-append (λ (y : List ℕ). length y + 2) (x ∷ []) xs in
    omega arith

weight-none : (piece : BranchPiece) → sum_by (λ x. length x + 0) piece ≡ length (joined piece)
weight-none [] = refl
weight-none (x ∷ xs) =
    let rest = weight-none xs in
    let long = length-append x (joined xs) in
    let step = sum_by-append (λ (y : List ℕ). length y + 0) (x ∷ []) xs in
    omega arith

-- What elements weigh is what they take behind the header.
pub weight-is : (size : ℕ) (piece : BranchPiece) → length (table_of (array_of_piece size piece)) + length (joined piece) ≡ piece_weight size piece
weight-is size piece =
    let a : Array = array_of_piece size piece in
    let weigh : ℕ → ℕ = λ e. sum_by (λ x. length x + e) piece in
    elim (cases_Bool (size == 0)) [
      | inl any ↦
          (let table = length_table-any a any in
          let two = weight-two piece in
          let is : piece_weight size piece ≡ weigh 2 = ap weigh (cond-true (size == 0) 2 0 any) in
          omega arith)
      | inr one ↦
          (let table : length (table_of a) ≡ 0 = ap length (table-even a one) in
          let none = weight-none piece in
          let is : piece_weight size piece ≡ weigh 0 = ap weigh (cond-false (size == 0) 2 0 one) in
          omega arith)
    ]

-- where they have one size it is that of all
pub weight-even : (size : ℕ) (piece : BranchPiece) → (size == 0) ≡ false → is_sized size piece ≡ true → piece_weight size piece ≡ length piece * size
weight-even size piece one sized =
    let all : list_all (λ x. length x == size) piece ≡ true = ap (λ (b : Bool). b || list_all (λ x. length x == size) piece) (sym one) ∙ sized in
    let is = weight-is size piece in
    let table : length (table_of (array_of_piece size piece)) ≡ 0 = ap length (table-even (array_of_piece size piece) one) in
    let bytes = length-joined size piece all in
    omega arith

pub length-branch_bytes : (size : ℕ) (piece : BranchPiece) → length (branch_bytes size piece) ≡ 10 + piece_weight size piece
unfolding branch_bytes
length-branch_bytes size piece =
    let whole = length-array_bytes (array_of_piece size piece) in
    let is = weight-is size piece in
    omega arith

-- Elements that can be those of a branch.
pub record FitsBranch (size : ℕ) (piece : BranchPiece) : Type 0 where
  pub small : size < 65536
  pub room : fits_branch size piece ≡ true
  pub sized : is_sized size piece ≡ true

even : (size : ℕ) (piece : BranchPiece) → FitsBranch size piece → is_even (array_of_piece size piece) ≡ true
even size piece fit = and_from (nat_lt size 65536) (is_sized size piece) (lt-ltb size 65536 fit.small) fit.sized

-- they are few enough for a word
pub branch-few : (size : ℕ) (piece : BranchPiece) → FitsBranch size piece → length piece ≤ branch_room
branch-few size piece fit =
    let count = length-elements (array_of_piece size piece) (even size piece fit) in
    let is = weight-is size piece in
    let most = leb-true (piece_weight size piece) branch_room fit.room in
    omega arith

-- they stand behind a zero word
pub behind : (size : ℕ) (piece : BranchPiece) → drop 2 (branch_bytes size piece) ≡ array_bytes (array_of_piece size piece)
unfolding branch_bytes
behind size piece = refl

pub branch-again : (size : ℕ) (piece : BranchPiece) → FitsBranch size piece → branch_of size (length piece) (branch_bytes size piece) ≡ Some piece
unfolding branch_of
branch-again size piece fit =
    let a : Array = array_of_piece size piece in
    let bytes : List ℕ = branch_bytes size piece in
    let whole = length-array_bytes a in
    let is = weight-is size piece in
    let most = leb-true (piece_weight size piece) branch_room fit.room in
    let test : Array → Option BranchPiece = λ b. if length b.elements == length piece && same_bytes (branch_bytes size b.elements) bytes then Some b.elements else None in
    let read : array_of (drop 2 bytes) ≡ Some a = ap array_of (behind size piece) ∙ array_again a (even size piece fit) (omega arith) in
    ap (option_and_then test) read
    ∙ cond-true _ _ _ (and_from (length piece == length piece) (same_bytes bytes bytes) (eq-eqb (length piece) (length piece) refl) (same_bytes-refl bytes))

pub branch_linked : (size : ℕ) (piece : BranchPiece) → is_linked (branch_bytes size piece) ≡ true
unfolding branch_bytes
branch_linked size piece =
    let bytes : List ℕ = word 0 ++ array_bytes (array_of_piece size piece) in
    and_from (nat_le 2 (length bytes)) true (le-leb 2 (length bytes) (omega arith)) refl

pub branch_links : (size : ℕ) (piece : BranchPiece) → links (branch_bytes size piece) ≡ []
unfolding branch_bytes
branch_links size piece = refl

-- the same bytes are of arrays of one size
pub same_size : (a b : Array) → a.size < 65536 → b.size < 65536 → array_bytes a ≡ array_bytes b → a.size ≡ b.size
same_size a b a_small b_small same =
    sym (size-read a a_small) ∙ ap (λ (bytes : List ℕ). word_at bytes 2) (sym (array_bytes-spelled a) ∙ same ∙ array_bytes-spelled b) ∙ size-read b b_small

-- What bytes read as: so many elements, and the bytes are theirs.
pub branch_of-is : (size count : ℕ) (bytes : List ℕ) (piece : BranchPiece) → size < 65536 → branch_of size count bytes ≡ Some piece
    → (length piece ≡ count) × (branch_bytes size piece ≡ bytes) × (is_sized size piece ≡ true)
unfolding branch_of
branch_of-is size count bytes piece small e = by_array (array_of (drop 2 bytes)) refl e
  where
    by_array : (o : Option Array) → array_of (drop 2 bytes) ≡ o
        → option_and_then (λ a. if length a.elements == count && same_bytes (branch_bytes size a.elements) bytes then Some a.elements else None) o ≡ Some piece
        → (length piece ≡ count) × (branch_bytes size piece ≡ bytes) × (is_sized size piece ≡ true)
    by_array None is found = absurd (cc found)
    by_array (Some a) is found = elim (cases_Bool (length a.elements == count && same_bytes (branch_bytes size a.elements) bytes)) [
      | inl so ↦
          (let xs : BranchPiece = a.elements in
          let some : Some xs ≡ Some piece = sym (cond-true _ _ _ so) ∙ found in
          let same : xs ≡ piece = cc in
          let parts = and_parts (length xs == count) (same_bytes (branch_bytes size xs) bytes) so in
          let written : branch_bytes size xs ≡ bytes = same_bytes-is (branch_bytes size xs) bytes parts.1 in
          let read = array_bytes-of (drop 2 bytes) a is in
          let twice : array_bytes a ≡ array_bytes (array_of_piece size xs) = read.1 ∙ ap (drop 2) (sym written) ∙ behind size xs in
          let one_size : a.size ≡ size = same_size a (array_of_piece size xs) (size_lt a read.0) small twice in
          let sized : is_sized a.size xs ≡ true = (and_parts (nat_lt a.size 65536) (is_sized a.size xs) read.0).1 in (
            ap length (sym same) ∙ eqb-true (length xs) count parts.0,
            ap (branch_bytes size) (sym same) ∙ written,
            ap₂ (λ (n : ℕ) (ys : BranchPiece). is_sized n ys) (sym one_size) (sym same) ∙ sized,
          ))
      | inr other ↦ (let none : None ≡ Some piece = sym (cond-false _ _ _ other) ∙ found in absurd (cc))
    ]

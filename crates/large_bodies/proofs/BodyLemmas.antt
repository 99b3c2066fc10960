-- The bytes of a branch, as a piece writes them.
use Rattle.std.proofs.Common.{◌≡◌, ℕ, ◌+◌, ◌*◌, ◌<◌, ◌≤◌, ◌==◌, List, [], ◌∷◌, ◌++◌, length, map, take, get_or, sum, flat_map, refl, sym, ap, ap₂, ◌∙◌, arith, inl, inr, append_assoc, leb-true}
use Rattle.std.proofs.lemmas.Bool.{cases_Bool, cond-true, cond-false}
use Rattle.std.proofs.lemmas.Grind.{flat_map-append}
use Rattle.std.proofs.lemmas.List.{length-map, take_more}
use Rattle.std.proofs.lemmas.List.Concat.{length-flat_map}
use Rattle.std.proofs.lemmas.List.Sums.{sum_by-append, sum-map}
use Rattle.geos_model.specs.Words.{word}
use Rattle.geos_model.specs.Array.{places_from}
use Rattle.geos_model.specs.Heap.{capacity}
use Rattle.geos_model.proofs.Arrays.{joined, table_of, table-any, table-even, array_bytes-spelled}
use Rattle.geos_model.specs.Pieces.{BranchPiece, piece_weight, branch_room}
use Rattle.geos_model.specs.LargeLayout.{branch_bytes}
use Rattle.large_bodies.specs.ElementLengths.{kept_lengths, places_by}
use Rattle.large_bodies.specs.PieceKeeping.{AreHeldElements}
use Rattle.geos_model.proofs.BranchBytes.{FitsBranch, array_of_piece, branch-few, length-branch_bytes}
use Rattle.large_bodies.proofs.PieceLemmas.{weight-kept}

-- Places of elements by how many bytes they have.

places_by-append : (at : ℕ) (ns : List ℕ) (n : ℕ) → places_by at (ns ++ n ∷ []) ≡ places_by at ns ++ (at + sum ns) ∷ []
places_by-append at [] n = (let here : at ≡ at + 0 = omega arith in ap (λ (k : ℕ). k ∷ []) here)
places_by-append at (m ∷ ns) n =
    let whole = sum_by-append (λ (k : ℕ). k) (m ∷ []) ns in
    let next : at + m + sum ns ≡ at + sum (m ∷ ns) = omega arith in
    ap (λ (ps : List ℕ). at ∷ ps) (places_by-append (at + m) ns n) ∙ ap (λ (k : ℕ). at ∷ (places_by (at + m) ns ++ k ∷ [])) next

-- one more in a row of words
pub more_places : (out : List ℕ) (at k : ℕ) (ns : List ℕ) → k < length ns
    → (out ++ flat_map word (places_by at (take k ns))) ++ word (at + sum (take k ns)) ≡ out ++ flat_map word (places_by at (take (k + 1) ns))
more_places out at k ns low =
    let here : ℕ = at + sum (take k ns) in
    append_assoc out (flat_map word (places_by at (take k ns))) (word here)
    ∙ ap (λ (row : List ℕ). out ++ row)
    (sym (flat_map-append word (places_by at (take k ns)) (here ∷ []))
    ∙ ap (λ (ps : List ℕ). flat_map word ps) (sym (places_by-append at (take k ns) (get_or ns k 0)) ∙ ap (places_by at) (sym (take_more ns k 0 low))))

pub more_sum : (k : ℕ) (ns : List ℕ) → k < length ns → sum (take (k + 1) ns) ≡ sum (take k ns) + get_or ns k 0
more_sum k ns low =
    let whole = ap sum (take_more ns k 0 low) in
    let sums = sum_by-append (λ (n : ℕ). n) (take k ns) (get_or ns k 0 ∷ []) in
    omega arith

places-are : (at : ℕ) (xs : BranchPiece) → places_by at (map length xs) ≡ places_from at xs
places-are at [] = refl
places-are at (x ∷ xs) = ap (λ (ps : List ℕ). at ∷ ps) (places-are (at + length x) xs)

sum-lengths : (xs : BranchPiece) → sum (map length xs) ≡ length (joined xs)
sum-lengths xs = sum-map length xs ∙ sym (length-flat_map (λ (x : List ℕ). x) xs)

-- the table of what is kept
table-kept : (size : ℕ) (xs : BranchPiece)
    → flat_map word (places_by (8 + 2 * length (kept_lengths size xs)) (kept_lengths size xs)) ≡ table_of (array_of_piece size xs)
table-kept size xs = elim (cases_Bool (size == 0)) [
  | inl any ↦
      (let kept : kept_lengths size xs ≡ map length xs = cond-true (size == 0) (map length xs) [] any in
      let many = length-map xs length in
      let start : 8 + 2 * length (map length xs) ≡ 8 + 0 + 2 * length xs = omega arith in
      ap (λ (ns : List ℕ). flat_map word (places_by (8 + 2 * length ns) ns)) kept
      ∙ ap (λ (at : ℕ). flat_map word (places_by at (map length xs))) start
      ∙ ap (λ (ps : List ℕ). flat_map word ps) (places-are (8 + 0 + 2 * length xs) xs)
      ∙ sym (table-any (array_of_piece size xs) any))
  | inr one ↦
      ap (λ (ns : List ℕ). flat_map word (places_by (8 + 2 * length ns) ns)) (cond-false (size == 0) (map length xs) [] one)
      ∙ sym (table-even (array_of_piece size xs) one)
]

branch-spelled : (size : ℕ) (xs : BranchPiece)
    → branch_bytes size xs ≡ (word 0 ++ word (length xs) ++ word size ++ word 0 ++ word 8) ++ (table_of (array_of_piece size xs) ++ joined xs)
unfolding branch_bytes
branch-spelled size xs = ap (λ (row : List ℕ). word 0 ++ row) (array_bytes-spelled (array_of_piece size xs))

-- The bytes of a branch are what is written of a piece.
pub body-is : (size count : ℕ) (lengths bytes : List ℕ) (xs : BranchPiece) → AreHeldElements size count lengths bytes xs
    → (word 0 ++ word count ++ word size ++ word 0 ++ word 8) ++ flat_map word (places_by (8 + 2 * length lengths) lengths) ++ bytes ≡ branch_bytes size xs
body-is size count lengths bytes xs kept =
    let head : ℕ → List ℕ = λ n. word 0 ++ word n ++ word size ++ word 0 ++ word 8 in
    let table : flat_map word (places_by (8 + 2 * length lengths) lengths) ≡ table_of (array_of_piece size xs) =
    ap (λ (ns : List ℕ). flat_map word (places_by (8 + 2 * length ns) ns)) kept.kept ∙ table-kept size xs in
    append_assoc (head count) (flat_map word (places_by (8 + 2 * length lengths) lengths)) bytes
    ∙ ap₂ (λ (n : ℕ) (row : List ℕ). head n ++ (row ++ bytes)) kept.counted table
    ∙ ap (λ (row : List ℕ). head (length xs) ++ (table_of (array_of_piece size xs) ++ row)) kept.joined
    ∙ sym (branch-spelled size xs)

-- It has room for all that.
pub record HasRoom (size count : ℕ) (lengths bytes : List ℕ) (xs : BranchPiece) : Type 0 where
  pub few : count ≤ branch_room
  pub near : 8 + 2 * length lengths + sum lengths < 65536
  pub short : length (branch_bytes size xs) ≤ capacity

sum-kept : (size : ℕ) (xs : BranchPiece) → sum (kept_lengths size xs) ≤ length (joined xs)
sum-kept size xs = elim (cases_Bool (size == 0)) [
  | inl any ↦ (let is = ap sum (cond-true (size == 0) (map length xs) [] any) in let all = sum-lengths xs in omega arith)
  | inr one ↦ (let is : sum (kept_lengths size xs) ≡ 0 = ap sum (cond-false (size == 0) (map length xs) [] one) in omega arith)
]

pub room-kept : (size count : ℕ) (lengths bytes : List ℕ) (xs : BranchPiece) → AreHeldElements size count lengths bytes xs → HasRoom size count lengths bytes xs
room-kept size count lengths bytes xs kept =
    let fits : FitsBranch size xs = record { small = kept.holds.small; room = kept.holds.room; sized = kept.holds.sized } in
    let most = leb-true (piece_weight size xs) branch_room kept.holds.room in
    let is = weight-kept size xs in
    let few = branch-few size xs fits in
    let counted = kept.counted in
    let long = ap length kept.kept in
    let sums = ap sum kept.kept in
    let within = sum-kept size xs in
    let whole = length-branch_bytes size xs in
    record { few = omega arith; near = omega arith; short = omega arith }

-- The patch of a branch that an edit stays within.
use Rattle.std.proofs.Common.{◌≡◌, ℕ, ◌+◌, ◌-◌, ◌*◌, ◌≤◌, ◌==◌, ◌||◌, nat_lt, Bool, true, false, List, [], ◌∷◌, ◌++◌, length, take, drop, refl, sym, ap, subst, ◌∙◌, arith, append_assoc, length-append, length-drop, mul-le-mul_right}
use Rattle.std.proofs.lemmas.Bool.{and_parts, and_from, cond-false}
use Rattle.std.proofs.lemmas.Grind.{flat_map-append}
use Rattle.std.proofs.lemmas.List.{length-take-le, take-append-drop, drop-drop}
use Rattle.std.specs.List.{list_all, splice}
use Rattle.geos_model.specs.Array.{Array, array_bytes, is_even}
use Rattle.geos_model.specs.Heap.{capacity}
use Rattle.geos_model.specs.Words.{word}
use Rattle.geos_model.proofs.Arrays.{joined, head_of, table-even, length-array_bytes, length-joined}
use Rattle.chunk_edits.specs.Patching.{PatchPiece, Keep, Put, PatchLeads}
use Rattle.chunk_arrays.specs.Reading.{element_place, elements_start}
use Rattle.chunk_arrays.proofs.PlaceLemmas.{bytes-front}
use Rattle.geos_model.specs.Pieces.{BranchPiece, branch_room}
use Rattle.geos_model.specs.LargeLayout.{branch_bytes}
use Rattle.geos_model.proofs.BranchBytes.{array_of_piece, is_sized, length-branch_bytes, weight-even}
use Rattle.geos_model.proofs.PieceLists.{sized-append, sized_part}
use Rattle.large_bodies.specs.BranchReading.{IsPlain}
use Rattle.large_bodies.specs.SizedElements.{have_size}
use Rattle.large_bodies.proofs.LedPieces.{middle-leads, put-before}
use Rattle.large_arrays.proofs.WrittenBranches.{plain-is}

-- what stands in a branch behind its count, where elements have one size
abbrev behind_count : ℕ → List ℕ
behind_count size = word size ++ (word 0 ++ word 8)

branch-spelled : (size : ℕ) (ys : BranchPiece) → (size == 0) ≡ false → branch_bytes size ys ≡ (word 0 ++ word (length ys)) ++ (behind_count size ++ joined ys)
unfolding branch_bytes
branch-spelled size ys one =
    let a : Array = array_of_piece size ys in
    ap (λ (l : List ℕ). word 0 ++ l) (bytes-front a) ∙ ap (λ (t : List ℕ). word 0 ++ ((head_of a ++ [] ++ t) ++ joined ys)) (table-even a one)

joined-three : (x y z : BranchPiece) → joined (x ++ (y ++ z)) ≡ joined x ++ (joined y ++ joined z)
joined-three x y z = flat_map-append (λ (e : List ℕ). e) x (y ++ z) ∙ ap (λ (l : List ℕ). joined x ++ l) (flat_map-append (λ (e : List ℕ). e) y z)

module _ (size from to : ℕ) (xs new : BranchPiece) (one : (size == 0) ≡ false) (order : from ≤ to) (within : to ≤ length xs) where
  abbrev written : BranchPiece
  written = splice xs from to new

  abbrev front : List ℕ
  front = behind_count size ++ joined (take from xs)

  abbrev gone : List ℕ
  gone = joined (take (to - from) (drop from xs))

  abbrev behind : List ℕ
  behind = joined (drop to xs)

  pub written-many : length written ≡ from + length new + (length xs - to)
  written-many =
      let before = length-take-le from xs (omega arith) in
      let after = length-drop to xs in
      let inner = length-append new (drop to xs) in
      let outer = length-append (take from xs) (new ++ drop to xs) in
      omega arith

  in-three : xs ≡ take from xs ++ (take (to - from) (drop from xs) ++ drop to xs)
  in-three =
      let place : from + (to - from) ≡ to = omega arith in
      sym (ap (λ (zs : BranchPiece). take from xs ++ (take (to - from) (drop from xs) ++ zs)) (ap (λ (k : ℕ). drop k xs) (sym place) ∙ sym (drop-drop (to - from) from xs))
      ∙ ap (λ (zs : BranchPiece). take from xs ++ zs) (take-append-drop (to - from) (drop from xs))
      ∙ take-append-drop from xs)

  old_is : branch_bytes size xs ≡ (word 0 ++ word (length xs)) ++ (front ++ (gone ++ behind))
  old_is =
      branch-spelled size xs one
      ∙ ap (λ (l : List ℕ). (word 0 ++ word (length xs)) ++ (behind_count size ++ l)) (ap joined in-three ∙ joined-three (take from xs) (take (to - from) (drop from xs)) (drop to xs))
      ∙ ap (λ (l : List ℕ). (word 0 ++ word (length xs)) ++ l) (sym (append_assoc (behind_count size) (joined (take from xs)) (gone ++ behind)))

  new_is : branch_bytes size written ≡ (word 0 ++ word (length written)) ++ (front ++ (joined new ++ behind))
  new_is =
      branch-spelled size written one
      ∙ ap (λ (l : List ℕ). (word 0 ++ word (length written)) ++ (behind_count size ++ l)) (joined-three (take from xs) new (drop to xs))
      ∙ ap (λ (l : List ℕ). (word 0 ++ word (length written)) ++ l) (sym (append_assoc (behind_count size) (joined (take from xs)) (joined new ++ behind)))

  leads_within : PatchLeads (Put (word 0 ++ word (length xs)) (word 0 ++ word (length written)) ∷ Keep (length front) ∷ Put gone (joined new) ∷ Keep (length behind) ∷ [])
      (branch_bytes size xs) (branch_bytes size written)
  leads_within =
      let rest : List PatchPiece = Keep (length front) ∷ Put gone (joined new) ∷ Keep (length behind) ∷ [] in
      let ps : List PatchPiece = Put (word 0 ++ word (length xs)) (word 0 ++ word (length written)) ∷ rest in
      subst (λ (bytes : List ℕ). PatchLeads ps bytes (branch_bytes size written)) (sym old_is)
      (subst (λ (bytes : List ℕ). PatchLeads ps ((word 0 ++ word (length xs)) ++ (front ++ (gone ++ behind))) bytes) (sym new_is)
      (put-before (word 0 ++ word (length xs)) (word 0 ++ word (length written)) rest (front ++ (gone ++ behind)) (front ++ (joined new ++ behind)) refl
      (middle-leads front gone behind (joined new))))

  start_is : elements_start (array_of_piece size xs) ≡ 8
  start_is = ap (λ (n : ℕ). 8 + n) (cond-false (size == 0) (2 * length xs) 0 one)

  front-long : length front ≡ element_place (array_of_piece size xs) from - 2
  front-long =
      let all = length-append (behind_count size) (joined (take from xs)) in
      let start = start_is in
      omega arith

  behind-long : length behind ≡ length (array_bytes (array_of_piece size xs)) - element_place (array_of_piece size xs) to
  behind-long =
      let a : Array = array_of_piece size xs in
      let start = start_is in
      let whole = length-array_bytes a in
      let table = ap length (table-even a one) in
      let halves : length (joined xs) ≡ length (joined (take to xs)) + length behind =
      ap length (ap joined (sym (take-append-drop to xs)) ∙ flat_map-append (λ (e : List ℕ). e) (take to xs) (drop to xs)) ∙ length-append (joined (take to xs)) behind in
      omega arith

  -- with the numbers that code has
  leads_by : (start rest : ℕ) (head after old bytes : List ℕ) → head ≡ word 0 ++ word (length xs) → after ≡ word 0 ++ word (length written) → start ≡ element_place (array_of_piece size xs) from - 2
      → rest ≡ length (array_bytes (array_of_piece size xs)) - element_place (array_of_piece size xs) to → old ≡ gone → bytes ≡ joined new
      → PatchLeads (Put head after ∷ Keep start ∷ Put old bytes ∷ Keep rest ∷ []) (branch_bytes size xs) (branch_bytes size written)
  leads_by start rest head after old bytes head_is after_is start_at rest_at old_at bytes_at =
      let first = start_at ∙ sym front-long in
      let last = rest_at ∙ sym behind-long in
      subst (λ (ps : List PatchPiece). PatchLeads ps (branch_bytes size xs) (branch_bytes size written))
      (sym (λ j. Put (head_is j) (after_is j) ∷ Keep (first j) ∷ Put (old_at j) (bytes_at j) ∷ Keep (last j) ∷ [])) leads_within

  -- they have room, where they are few enough
  pub written-short : is_sized size xs ≡ true → have_size size new ≡ true → (from + length new + (length xs - to)) * size ≤ branch_room
      → length (branch_bytes size written) ≤ capacity
  written-short old sized room =
      let all : is_sized size written ≡ true =
      sized-append size (take from xs) (new ++ drop to xs)
      ∙ and_from (is_sized size (take from xs)) (is_sized size (new ++ drop to xs)) (sized_part size from xs old).0
      (sized-append size new (drop to xs) ∙ and_from (is_sized size new) (is_sized size (drop to xs)) sized (sized_part size to xs old).1) in
      let bytes = length-branch_bytes size written in
      let weight = weight-even size written one all in
      let many : length written * size ≡ (from + length new + (length xs - to)) * size = ap (λ (n : ℕ). n * size) written-many in
      omega arith

-- new elements have no more bytes than a branch has room for
pub new-few : (size count : ℕ) (new : BranchPiece) → (size == 0) ≡ false → have_size size new ≡ true → length new ≤ count → count * size ≤ branch_room → length (joined new) ≤ branch_room
new-few size count new one sized few room =
    let each : list_all (λ x. length x == size) new ≡ true = ap (λ (b : Bool). b || list_all (λ x. length x == size) new) (sym one) ∙ sized in
    let bytes = length-joined size new each in
    let most : length new * size ≤ count * size = mul-le-mul_right size few in
    omega arith

-- of an array that was read
pub array-within : (a : Array) (size old_count count from to : ℕ) (new : BranchPiece) (patch : List PatchPiece) (start rest : ℕ) (head after old bytes : List ℕ)
    → IsPlain a size old_count → (size == 0) ≡ false → from ≤ to → to ≤ old_count → count ≡ from + length new + (old_count - to)
    → head ≡ word 0 ++ word old_count → after ≡ word 0 ++ word count → start ≡ element_place a from - 2 → rest ≡ length (array_bytes a) - element_place a to
    → old ≡ joined (take (to - from) (drop from a.elements)) → bytes ≡ joined new → patch ≡ Put head after ∷ Keep start ∷ Put old bytes ∷ Keep rest ∷ []
    → PatchLeads patch (branch_bytes size a.elements) (branch_bytes size (splice a.elements from to new))
array-within a size old_count count from to new patch start rest head after old bytes plain one order within count_is head_is after_is start_is rest_is old_is bytes_is is =
    let xs : BranchPiece = a.elements in
    let many = plain.1 in
    let low : to ≤ length xs = omega arith in
    let same : a ≡ array_of_piece size xs = plain-is a size (plain.0, refl, plain.2) in
    let written : count ≡ length (splice xs from to new) = count_is ∙ ap (λ (n : ℕ). from + length new + (n - to)) (sym many) ∙ sym (written-many size from to xs new one order low) in
    subst (λ (ps : List PatchPiece). PatchLeads ps (branch_bytes size xs) (branch_bytes size (splice xs from to new))) (sym is)
    (leads_by size from to xs new one order low start rest head after old bytes
    (head_is ∙ ap (λ (n : ℕ). word 0 ++ word n) (sym many)) (after_is ∙ ap (λ (n : ℕ). word 0 ++ word n) written)
    (start_is ∙ ap (λ (b : Array). element_place b from - 2) same) (rest_is ∙ ap (λ (b : Array). length (array_bytes b) - element_place b to) same) old_is bytes_is)

pub array-short : (a : Array) (size old_count count from to : ℕ) (new : BranchPiece) → is_even a ≡ true → IsPlain a size old_count → (size == 0) ≡ false → from ≤ to → to ≤ old_count
    → count ≡ from + length new + (old_count - to) → have_size size new ≡ true → count * size ≤ branch_room → length (branch_bytes size (splice a.elements from to new)) ≤ capacity
array-short a size old_count count from to new even plain one order within count_is sized room =
    let xs : BranchPiece = a.elements in
    let many = plain.1 in
    let old : is_sized size xs ≡ true = ap (λ (n : ℕ). is_sized n xs) (sym plain.0) ∙ (and_parts (nat_lt a.size 65536) (is_sized a.size xs) even).1 in
    written-short size from to xs new one order (omega arith) old sized
    (subst (λ (n : ℕ). n * size ≤ branch_room) (count_is ∙ ap (λ (n : ℕ). from + length new + (n - to)) (sym many)) room)

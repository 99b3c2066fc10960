-- A branch of which some elements are written over: its bytes, and the patch that leads to them.
use Rattle.std.proofs.Common.{◌≡◌, ◌≢◌, ℕ, ◌+◌, ◌-◌, ◌*◌, ◌≤◌, ◌==◌, ◌||◌, ◌⊎◌, nat_le, nat_lt, min, Bool, true, false, List, [], ◌∷◌, ◌++◌, length, take, drop, sym, ap, ap₂, subst, ◌∙◌, inl, inr, arith, append_assoc, length-append, length-drop, eqb-true, leb-true, leb-false, mul-le-mul_right}
use Rattle.std.proofs.lemmas.Bool.{cases_Bool, and_parts, and_from}
use Rattle.std.proofs.lemmas.Grind.{flat_map-append}
use Rattle.std.proofs.lemmas.List.{length-take, length-take-le, drop_all, take-append-drop, drop-drop}
use Rattle.std.specs.List.{list_all, splice}
use Rattle.geos_model.specs.Array.{Array, array_bytes, is_even}
use Rattle.geos_model.specs.Words.{word}
use Rattle.geos_model.proofs.Arrays.{joined, table_of, table-even, all_even, length-joined, length-array_bytes}
use Rattle.chunk_edits.specs.Patching.{PatchPiece, Keep, Put, PatchLeads}
use Rattle.chunk_arrays.specs.Reading.{element_place}
use Rattle.chunk_arrays.proofs.PlaceLemmas.{front_of, length-front, bytes-front}
use Rattle.large_bodies.specs.BranchReading.{IsPlain}
use Rattle.large_bodies.proofs.LedPieces.{middle-leads}
use Rattle.geos_model.specs.Pieces.{BranchPiece}
use Rattle.geos_model.specs.LargeLayout.{branch_bytes}
use Rattle.large_bodies.specs.SizedElements.{have_size}
use Rattle.large_arrays.specs.WrittenPieces.{written_piece}
use Rattle.geos_model.proofs.BranchBytes.{array_of_piece, is_sized, length-branch_bytes, weight-even}
use Rattle.geos_model.proofs.PieceLists.{sized-append, sized_part}

-- ---- the bytes of a branch

module _ (size : ℕ) (xs new : BranchPiece) (from : ℕ) (one : (size == 0) ≡ false) (within : from + length new ≤ length xs) where
  abbrev to : ℕ
  to = from + length new

  abbrev written : BranchPiece
  written = splice xs from to new

  abbrev head : BranchPiece → List ℕ
  head ys = word 0 ++ front_of (array_of_piece size ys)

  abbrev before : List ℕ
  before = joined (take from xs)

  abbrev behind : List ℕ
  behind = joined (drop to xs)

  abbrev gone : List ℕ
  gone = joined (take (to - from) (drop from xs))

  as_many : length written ≡ length xs
  as_many =
      let front = length-take-le from xs (omega arith) in
      let back = length-drop to xs in
      let inner = length-append new (drop to xs) in
      let outer = length-append (take from xs) (new ++ drop to xs) in
      omega arith

  same-head : head written ≡ head xs
  same-head = λ j. word 0 ++ (word (as_many j) ++ word size ++ word 0 ++ word 8 ++ [] ++ no_table j)
    where
      no_table : table_of (array_of_piece size written) ≡ table_of (array_of_piece size xs)
      no_table = table-even (array_of_piece size written) one ∙ sym (table-even (array_of_piece size xs) one)

  branch-head : (ys : BranchPiece) → branch_bytes size ys ≡ head ys ++ joined ys
  unfolding branch_bytes
  branch-head ys = ap (λ (l : List ℕ). word 0 ++ l) (bytes-front (array_of_piece size ys)) ∙ sym (append_assoc (word 0) (front_of (array_of_piece size ys)) (joined ys))

  three : (x y z : BranchPiece) → joined (x ++ (y ++ z)) ≡ joined x ++ (joined y ++ joined z)
  three x y z = flat_map-append (λ (e : List ℕ). e) x (y ++ z) ∙ ap (λ (l : List ℕ). joined x ++ l) (flat_map-append (λ (e : List ℕ). e) y z)

  cut : xs ≡ take from xs ++ (take (to - from) (drop from xs) ++ drop to xs)
  cut =
      let place : from + (to - from) ≡ to = omega arith in
      sym (ap (λ (zs : BranchPiece). take from xs ++ (take (to - from) (drop from xs) ++ zs)) (ap (λ (k : ℕ). drop k xs) (sym place) ∙ sym (drop-drop (to - from) from xs))
      ∙ ap (λ (zs : BranchPiece). take from xs ++ zs) (take-append-drop (to - from) (drop from xs))
      ∙ take-append-drop from xs)

  -- in front of the run, the run, and behind it

  old_bytes : branch_bytes size xs ≡ (head xs ++ before) ++ (gone ++ behind)
  old_bytes =
      branch-head xs ∙ ap (λ (l : List ℕ). head xs ++ l) (ap joined cut ∙ three (take from xs) (take (to - from) (drop from xs)) (drop to xs))
      ∙ sym (append_assoc (head xs) before (gone ++ behind))

  new_bytes : branch_bytes size written ≡ (head xs ++ before) ++ (joined new ++ behind)
  new_bytes =
      branch-head written ∙ ap₂ (λ (h l : List ℕ). h ++ l) same-head (three (take from xs) new (drop to xs))
      ∙ sym (append_assoc (head xs) before (joined new ++ behind))

  long-front : length (head xs ++ before) ≡ 2 + element_place (array_of_piece size xs) from
  long-front =
      let front = length-front (array_of_piece size xs) in
      let zeros = length-append (word 0) (front_of (array_of_piece size xs)) in
      let all = length-append (head xs) before in
      omega arith

  long-behind : length behind ≡ length (array_bytes (array_of_piece size xs)) - element_place (array_of_piece size xs) to
  long-behind =
      let a : Array = array_of_piece size xs in
      let front = length-front a in
      let bytes : length (array_bytes a) ≡ length (front_of a) + length (joined xs) = ap length (bytes-front a) ∙ length-append (front_of a) (joined xs) in
      let halves : length (joined xs) ≡ length (joined (take to xs)) + length behind =
      ap length (ap joined (sym (take-append-drop to xs)) ∙ flat_map-append (λ (e : List ℕ). e) (take to xs) (drop to xs)) ∙ length-append (joined (take to xs)) behind in
      omega arith

  run-leads : PatchLeads (Keep (length (head xs ++ before)) ∷ Put gone (joined new) ∷ Keep (length behind) ∷ []) (branch_bytes size xs) (branch_bytes size written)
  run-leads =
      let ps : List PatchPiece = Keep (length (head xs ++ before)) ∷ Put gone (joined new) ∷ Keep (length behind) ∷ [] in
      subst (λ (bytes : List ℕ). PatchLeads ps bytes (branch_bytes size written)) (sym old_bytes)
      (subst (λ (bytes : List ℕ). PatchLeads ps ((head xs ++ before) ++ (gone ++ behind)) bytes) (sym new_bytes)
      (middle-leads (head xs ++ before) gone behind (joined new)))

  pub run-patch : (start rest : ℕ) (old bytes : List ℕ) → start ≡ 2 + element_place (array_of_piece size xs) from
      → rest ≡ length (array_bytes (array_of_piece size xs)) - element_place (array_of_piece size xs) to → old ≡ gone → bytes ≡ joined new
      → PatchLeads (Keep start ∷ Put old bytes ∷ Keep rest ∷ []) (branch_bytes size xs) (branch_bytes size written)
  run-patch start rest old bytes start_is rest_is old_is bytes_is =
      let front = start_is ∙ sym long-front in
      let end = rest_is ∙ sym long-behind in
      subst (λ (ps : List PatchPiece). PatchLeads ps (branch_bytes size xs) (branch_bytes size written))
      (sym (λ j. Keep (front j) ∷ Put (old_is j) (bytes_is j) ∷ Keep (end j) ∷ [])) run-leads

-- A plain array is that of its elements.
pub plain-is : (a : Array) (size : ℕ) → IsPlain a size (length a.elements) → a ≡ array_of_piece size a.elements
plain-is a size plain = λ t. record { extra = plain.2 t; size = plain.0 t; elements = a.elements }

pub some-size : (size : ℕ) → size ≢ 0 → (size == 0) ≡ false
some-size size some = elim (cases_Bool (size == 0)) [
  | inl none ↦ absurd (some (eqb-true size 0 none))
  | inr other ↦ other
]

pub array-patch : (a : Array) (size from : ℕ) (new : BranchPiece) (patch : List PatchPiece) (end start rest : ℕ) (old bytes : List ℕ)
    → IsPlain a size (length a.elements) → size ≢ 0 → from + length new ≤ length a.elements → end ≡ from + length new
    → start ≡ 2 + element_place a from → rest ≡ length (array_bytes a) - element_place a end → old ≡ joined (take (end - from) (drop from a.elements)) → bytes ≡ joined new
    → patch ≡ Keep start ∷ Put old bytes ∷ Keep rest ∷ []
    → PatchLeads patch (branch_bytes size a.elements) (branch_bytes size (splice a.elements from (from + length new) new))
array-patch a size from new patch end start rest old bytes plain some within end_is start_is rest_is old_is bytes_is is =
    let xs : BranchPiece = a.elements in
    let same : a ≡ array_of_piece size xs = plain-is a size plain in
    subst (λ (ps : List PatchPiece). PatchLeads ps (branch_bytes size xs) (branch_bytes size (splice xs from (from + length new) new))) (sym is)
    (run-patch size xs new from (some-size size some) within start rest old bytes
    (start_is ∙ ap (λ (b : Array). 2 + element_place b from) same)
    (rest_is ∙ (λ j. length (array_bytes (same j)) - element_place (same j) (end_is j)))
    (old_is ∙ ap (λ (k : ℕ). joined (take (k - from) (drop from xs))) end_is) bytes_is)

-- ---- a part of a run, written over

-- from one place on or another, where both are past the end or the same
drop-either : (m n : ℕ) (xs : BranchPiece) → ((m ≡ n) ⊎ ((length xs ≤ m) × (length xs ≤ n))) → drop m xs ≡ drop n xs
drop-either m n xs (inl same) = ap (λ (k : ℕ). drop k xs) same
drop-either m n xs (inr past) = drop_all m xs past.0 ∙ sym (drop_all n xs past.1)

-- What falls into a piece of a run is written over there, by how much of the run is before the piece.
pub written-part : (p new part : BranchPiece) (before i from done : ℕ) → from ≡ i - before → done ≡ min (length new) (before - i) → from ≤ length p
    → part ≡ take (length p - from) (drop done new) → splice p from (from + length part) part ≡ written_piece before p i new
written-part p new part before i from done from_is done_is low part_is =
    let n : ℕ = length p in
    let rest = length-drop done new in
    let long : length part ≡ min (n - from) (length new - done) = ap length part_is ∙ length-take (n - from) (drop done new) ∙ ap (min (n - from)) rest in
    let same : drop done new ≡ drop (before - i) new = drop-either done (before - i) new (elim (cases_Bool (nat_le (before - i) (length new))) [
      | inl there ↦ (let few = leb-true (before - i) (length new) there in inl (omega arith))
      | inr past ↦ (let more = leb-false (before - i) (length new) past in inr (omega arith, omega arith))
    ]) in
    let middle : part ≡ take (n - (i - before)) (drop (before - i) new) = part_is ∙ (λ j. take (n - from_is j) (same j)) in
    let end : drop (from + length part) p ≡ drop (i + length new - before) p = drop-either (from + length part) (i + length new - before) p
    (elim (cases_Bool (nat_le (length new - done) (n - from))) [
      | inl there ↦ (let few = leb-true (length new - done) (n - from) there in inl (omega arith))
      | inr past ↦ (let more = leb-false (length new - done) (n - from) past in inr (omega arith, omega arith))
    ]) in
    sym (append_assoc (take from p) part (drop (from + length part) p))
    ∙ (λ j. (take (from_is j) p ++ middle j) ++ end j)

-- pieces that are as far behind a run's first one
pub written-shift : (c before i at : ℕ) (p new : BranchPiece) → at ≡ c + i → written_piece (c + before) p at new ≡ written_piece before p i new
written-shift c before i at p new is =
    let a : at - (c + before) ≡ i - before = omega arith in
    let b : c + before - at ≡ before - i = omega arith in
    let e : at + length new - (c + before) ≡ i + length new - before = omega arith in
    (λ j. (take (a j) p ++ take (length p - a j) (drop (b j) new)) ++ drop (e j) p)

-- New elements are no longer than an array that has as many of their size.
pub new-short : (a : Array) (size : ℕ) (new : BranchPiece) → is_even a ≡ true → a.size ≡ size → size ≢ 0 → have_size size new ≡ true → length new ≤ length a.elements
    → length (joined new) ≤ length (array_bytes a)
new-short a size new even same some sized few =
    let one : (size == 0) ≡ false = some-size size some in
    let each : list_all (λ x. length x == size) new ≡ true = ap (λ (b : Bool). b || list_all (λ x. length x == size) new) (sym one) ∙ sized in
    let bytes : length (joined new) ≡ length new * a.size = length-joined size new each ∙ ap (λ (n : ℕ). length new * n) (sym same) in
    let old : length (joined a.elements) ≡ length a.elements * a.size = length-joined a.size a.elements (all_even a even (ap (λ (n : ℕ). n == 0) same ∙ one)) in
    let most : length new * a.size ≤ length a.elements * a.size = mul-le-mul_right a.size few in
    let all = length-array_bytes a in
    omega (arith, bytes, old, most, all)

-- the bytes of a branch

branch-bytes : (size : ℕ) (piece : BranchPiece) → length (branch_bytes size piece) ≡ 2 + length (array_bytes (array_of_piece size piece))
unfolding branch_bytes
branch-bytes size piece = length-append (word 0) (array_bytes (array_of_piece size piece))

pub branch-long : (size : ℕ) (a : Array) → IsPlain a size (length a.elements) → length (branch_bytes size a.elements) ≡ 2 + length (array_bytes a)
branch-long size a plain = branch-bytes size a.elements ∙ ap (λ (v : Array). 2 + length (array_bytes v)) (sym (plain-is a size plain))

-- they are as many as before
pub written-long : (a : Array) (size from : ℕ) (new : BranchPiece) → is_even a ≡ true → IsPlain a size (length a.elements) → size ≢ 0 → have_size size new ≡ true → from + length new ≤ length a.elements
    → length (branch_bytes size (splice a.elements from (from + length new) new)) ≡ 2 + length (array_bytes a)
written-long a size from new even plain some sized within =
    let xs : BranchPiece = a.elements in
    let to : ℕ = from + length new in
    let one : (size == 0) ≡ false = some-size size some in
    let old : is_sized size xs ≡ true =
    ap (λ (n : ℕ). is_sized n xs) (sym plain.0) ∙ (and_parts (nat_lt a.size 65536) (is_sized a.size xs) even).1 in
    let all : is_sized size (splice xs from to new) ≡ true =
    sized-append size (take from xs) (new ++ drop to xs)
    ∙ and_from (is_sized size (take from xs)) (is_sized size (new ++ drop to xs)) (sized_part size from xs old).0
    (sized-append size new (drop to xs) ∙ and_from (is_sized size new) (is_sized size (drop to xs)) sized (sized_part size to xs old).1) in
    let many = as_many size xs new from one within in
    let bytes = length-branch_bytes size xs in
    let written = length-branch_bytes size (splice xs from to new) in
    let weight = weight-even size xs one old in
    let weight_written = weight-even size (splice xs from to new) one all in
    let same : length (splice xs from to new) * size ≡ length xs * size = ap (λ (n : ℕ). n * size) many in
    let whole = branch-long size a plain in
    omega (arith, bytes, written, weight, weight_written, same, whole)

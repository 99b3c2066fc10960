-- Elements that bytes are.
use Rattle.std.proofs.Common.{◌≡◌, ℕ, zero, suc, ◌+◌, ◌-◌, ◌*◌, ◌/◌, ◌%◌, ◌<◌, ◌≤◌, Bool, true, false, not, ◌&&◌, ◌||◌, ◌==◌, nat_lt, List, [], ◌∷◌, length, take, drop, refl, sym, ap, ◌∙◌, inl, inr, arith, length-drop, ltb-false, le-leb, eqb-true, pos_of_ne-zero}
use Rattle.std.proofs.lemmas.Bool.{cases_Bool, and_from, cond-true, cond-false, eq-eqb, eqb-false}
use Rattle.std.proofs.lemmas.List.{length-take, length-take-le}
use Rattle.std.proofs.Math.Nat.{div-mul-le_self, div-add-mod, div-eq_of_lt, add-mul-div_right, mul_comm}
use Rattle.std.specs.List.{list_all}
use Rattle.geos_model.specs.Array.{cut_evenly}
use Rattle.geos_model.proofs.Validity.{not_false}
use Rattle.geos_model.specs.Pieces.{BranchPiece, piece_weight, branch_room, fits_branch, each_fits}
use Rattle.geos_model.specs.LargeLayout.{greatest_element_size}
use Rattle.geos_model.specs.LargeEdits.{cut_elements, ends_within_element, element_count, is_too_long}
use Rattle.geos_model.proofs.BranchBytes.{is_sized}

-- one element that isn't too long fits where sizes vary
varying-fits : (size : ℕ) (bytes : List ℕ) → (size == 0) ≡ true → is_too_long size bytes ≡ false → each_fits size (bytes ∷ []) ≡ true
varying-fits size bytes any short =
    let few = ltb-false branch_room (length bytes + 2) (sym (ap (λ (b : Bool). b && nat_lt branch_room (length bytes + 2)) any) ∙ short) in
    let two : piece_weight size (bytes ∷ []) ≡ length bytes + 2 = ap (λ (e : ℕ). 0 + (length bytes + e)) (cond-true (size == 0) 2 0 any) ∙ (let none : 0 + (length bytes + 2) ≡ length bytes + 2 = omega arith in none) in
    and_from (fits_branch size (bytes ∷ [])) true (le-leb (piece_weight size (bytes ∷ [])) branch_room (omega arith)) refl

-- what is cut at one size has no element that is longer
pub even-fits : (size count : ℕ) (bytes : List ℕ) → (size == 0) ≡ false → size ≤ greatest_element_size → each_fits size (cut_evenly count size bytes) ≡ true
even-fits size zero bytes one small = refl
even-fits size (suc count) bytes one small =
    let x : List ℕ = take size bytes in
    let long = length-take size bytes in
    let none : piece_weight size (x ∷ []) ≡ length x + 0 = ap (λ (e : ℕ). 0 + (length x + e)) (cond-false (size == 0) 2 0 one) ∙ (let same : 0 + (length x + 0) ≡ length x + 0 = omega arith in same) in
    and_from (fits_branch size (x ∷ [])) (each_fits size (cut_evenly count size (drop size bytes))) (le-leb (piece_weight size (x ∷ [])) branch_room (omega arith))
    (even-fits size count (drop size bytes) one small)

-- and none that is shorter, if there are so many bytes
pub even-sized : (size count : ℕ) (bytes : List ℕ) → count * size ≤ length bytes → list_all (λ x. length x == size) (cut_evenly count size bytes) ≡ true
even-sized size zero bytes enough = refl
even-sized size (suc count) bytes enough =
    let more : suc count * size ≡ count * size + size = omega arith in
    let rest = length-drop size bytes in
    and_from (length (take size bytes) == size) (list_all (λ x. length x == size) (cut_evenly count size (drop size bytes)))
    (eq-eqb (length (take size bytes)) size (length-take-le size bytes (omega arith)))
    (even-sized size count (drop size bytes) (omega arith))

-- Elements that are given fit into a branch, and have the array's size.
pub given-fits : (size : ℕ) (bytes : List ℕ) → size ≤ greatest_element_size → is_too_long size bytes ≡ false → each_fits size (cut_elements size bytes) ≡ true
given-fits size bytes small short = elim (cases_Bool (size == 0)) [
  | inl any ↦ ap (each_fits size) (cond-true (size == 0) (bytes ∷ []) (cut_evenly (length bytes / size) size bytes) any) ∙ varying-fits size bytes any short
  | inr one ↦ ap (each_fits size) (cond-false (size == 0) (bytes ∷ []) (cut_evenly (length bytes / size) size bytes) one) ∙ even-fits size (length bytes / size) bytes one small
]

pub given-sized : (size : ℕ) (bytes : List ℕ) → is_sized size (cut_elements size bytes) ≡ true
given-sized size bytes =
    let all : BranchPiece → Bool = λ xs. list_all (λ x. length x == size) xs in
    elim (cases_Bool (size == 0)) [
      | inl any ↦ ap (λ (b : Bool). b || all (cut_elements size bytes)) any
      | inr one ↦
          ap (λ (b : Bool). b || all (cut_elements size bytes)) one
          ∙ ap all (cond-false (size == 0) (bytes ∷ []) (cut_evenly (length bytes / size) size bytes) one)
          ∙ even-sized size (length bytes / size) bytes (div-mul-le_self (length bytes) size)
    ]

-- one element where sizes vary
pub given-one : (size : ℕ) (bytes : List ℕ) → (size == 0) ≡ true → cut_elements size bytes ≡ bytes ∷ []
given-one size bytes any = cond-true (size == 0) (bytes ∷ []) (cut_evenly (length bytes / size) size bytes) any

length-even : (size count : ℕ) (bytes : List ℕ) → length (cut_evenly count size bytes) ≡ count
length-even size zero bytes = refl
length-even size (suc count) bytes = ap suc (length-even size count (drop size bytes))

-- a number that is so many times another, and less than that more, has it so often
parts_of : (n size : ℕ) → 0 < size → n % size ≡ 0 → (n + (size - 1)) / size ≡ n / size
parts_of n size some whole =
    let q : ℕ = n / size in
    let back = div-add-mod n size in
    let turned : size * q ≡ q * size = mul_comm size q in
    let is : n + (size - 1) ≡ (size - 1) + q * size = omega arith in
    let none : (size - 1) / size ≡ 0 = div-eq_of_lt (omega arith) in
    ap (λ (k : ℕ). k / size) is ∙ add-mul-div_right (size - 1) q some ∙ ap (λ (k : ℕ). k + q) none ∙ (let sum : 0 + q ≡ q = omega arith in sum)

-- How many they are, where they are a whole number of one size.
pub given-count : (size : ℕ) (bytes : List ℕ) → (size == 0) ≡ false → ends_within_element size bytes ≡ false → element_count size bytes ≡ length (cut_elements size bytes)
given-count size bytes one whole =
    let some : 0 < size = pos_of_ne-zero (eqb-false size 0 one) in
    let rest : not (length bytes % size == 0) ≡ false = ap (λ (b : Bool). not b && not (length bytes % size == 0)) (sym one) ∙ whole in
    let none : length bytes % size ≡ 0 = eqb-true (length bytes % size) 0 (not_false (length bytes % size == 0) rest) in
    cond-false (size == 0) 1 ((length bytes + (size - 1)) / size) one
    ∙ parts_of (length bytes) size some none
    ∙ sym (ap length (cond-false (size == 0) (bytes ∷ []) (cut_evenly (length bytes / size) size bytes) one) ∙ length-even size (length bytes / size) bytes)

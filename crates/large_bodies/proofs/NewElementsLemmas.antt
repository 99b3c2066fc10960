-- New elements are those that their bytes are, and so are the first of them and the others.
use Rattle.std.proofs.Common.{◌≡◌, ℕ, ◌+◌, ◌-◌, ◌*◌, ◌/◌, ◌%◌, ◌<◌, ◌≤◌, Bool, true, false, ◌||◌, ◌==◌, min, List, [], ◌∷◌, ◌++◌, length, take, drop, refl, sym, ap, ap₂, subst, ◌∙◌, arith, inl, inr, length-append, length-drop, append-nil, take_at, drop_at, leb-true, pos_of_ne-zero, mul-le-mul_right}
use Rattle.std.proofs.lemmas.Bool.{cases_Bool, and_parts, cond-true, cond-false, eq-eqb, eqb-false}
use Rattle.std.proofs.lemmas.List.{take-append-drop, length-take, length-take-le}
use Rattle.std.proofs.lemmas.List.Folds.{list_all-append}
use Rattle.std.proofs.Math.Nat.{div-mul-le_self, div-add-mod, lt-div-mul-add}
use Rattle.std.specs.List.{list_all}
use Rattle.geos_model.specs.Array.{cut_evenly}
use Rattle.geos_model.proofs.Arrays.{joined, cut_evenly-joined, length-joined}
use Rattle.chunk_arrays.proofs.CutLemmas.{joined-cut_evenly, length-cut_evenly}
use Rattle.geos_model.specs.Pieces.{BranchPiece, piece_weight, branch_room, fits_branch, each_fits}
use Rattle.geos_model.specs.LargeLayout.{greatest_element_size}
use Rattle.large_bodies.specs.SizedElements.{SizedElements, have_size}
use Rattle.large_bodies.specs.ElementLengths.{kept_lengths}
use Rattle.large_bodies.specs.NewElementsViewing.{cut_new, AreNewElements, seen_elements, HasNewElements}
use Rattle.large_bodies.specs.declared.new_elements.NewElements.TheInside.{Inside}
use Rattle.geos_model.proofs.BranchBytes.{weight-even}
use Rattle.geos_model.proofs.GivenElements.{even-fits, even-sized}
use Rattle.large_bodies.proofs.PieceLemmas.{joined-append, sized-one, sized-parts, weight-kept}

-- what callers see of new elements
pub seen-are : (v : Inside) (w : SizedElements) → seen_elements v ≡ w → HasNewElements v → AreNewElements w.size v.count v.bytes.now w.elements
seen-are v w is has = let P : SizedElements → Type 0 = λ u. AreNewElements u.size v.count v.bytes.now u.elements in subst P is has

-- The elements that bytes are.
cut_new-any : (size count : ℕ) (bytes : List ℕ) (xs : BranchPiece) → (size == 0) ≡ true → AreNewElements size count bytes xs → cut_new size count bytes ≡ xs
cut_new-any size count bytes [] any are =
    cond-true (size == 0) _ _ any ∙ cond-true (count == 0) [] (bytes ∷ []) (eq-eqb count 0 are.counted)
cut_new-any size count bytes (x ∷ []) any are =
    let some : (count == 0) ≡ false = ap (λ (n : ℕ). n == 0) are.counted in
    cond-true (size == 0) _ _ any ∙ cond-false (count == 0) [] (bytes ∷ []) some ∙ ap (λ (y : List ℕ). y ∷ []) (are.joined ∙ append-nil x)
cut_new-any size count bytes (x ∷ y ∷ xs) any are = (let most = are.one any in let is = are.counted in absurd (omega arith))

pub cut_new-are : (size count : ℕ) (bytes : List ℕ) (xs : BranchPiece) → AreNewElements size count bytes xs → cut_new size count bytes ≡ xs
cut_new-are size count bytes xs are = elim (cases_Bool (size == 0)) [
  | inl any ↦ cut_new-any size count bytes xs any are
  | inr one ↦
      cond-false (size == 0) _ _ one ∙ ap₂ (λ (n : ℕ) (row : List ℕ). cut_evenly n size row) are.counted are.joined
      ∙ cut_evenly-joined size xs (sized-one size xs one are.sized)
]

-- as the invariant says it
new-again : (size count : ℕ) (bytes : List ℕ) (xs : BranchPiece) → AreNewElements size count bytes xs → AreNewElements size count bytes (cut_new size count bytes)
new-again size count bytes xs are =
    let P : BranchPiece → Type 0 = λ ys. AreNewElements size count bytes ys in subst P (sym (cut_new-are size count bytes xs are)) are

-- parts of them

joined-parts : (k : ℕ) (xs : BranchPiece) → joined (take k xs) ++ joined (drop k xs) ≡ joined xs
joined-parts k xs = sym (joined-append (take k xs) (drop k xs)) ∙ ap joined (take-append-drop k xs)

parts-fit : (size k : ℕ) (xs : BranchPiece) → each_fits size xs ≡ true → (each_fits size (take k xs) ≡ true) × (each_fits size (drop k xs) ≡ true)
parts-fit size k xs fit =
    and_parts (each_fits size (take k xs)) (each_fits size (drop k xs))
    (sym (list_all-append (λ (x : List ℕ). fits_branch size (x ∷ [])) (take k xs) (drop k xs)) ∙ ap (each_fits size) (take-append-drop k xs) ∙ fit)

parts-sized : (size k : ℕ) (xs : BranchPiece) → have_size size xs ≡ true → (have_size size (take k xs) ≡ true) × (have_size size (drop k xs) ≡ true)
parts-sized size k xs sized = sized-parts size (take k xs) (drop k xs) (ap (have_size size) (take-append-drop k xs) ∙ sized)

-- New elements cut in two.
pub record IsSplit (size k count : ℕ) (first rest : List ℕ) (xs : BranchPiece) : Type 0 where
  pub front : AreNewElements size k first (cut_new size k first)
  pub front_is : cut_new size k first ≡ take k xs
  pub back : AreNewElements size (count - k) rest (cut_new size (count - k) rest)
  pub back_is : cut_new size (count - k) rest ≡ drop k xs

pub new-split : (size k count n : ℕ) (bytes : List ℕ) (xs : BranchPiece) → AreNewElements size count bytes xs → k ≤ length xs → n ≡ length (joined (take k xs))
    → IsSplit size k count (take n bytes) (drop n bytes) xs
new-split size k count n bytes xs are few long =
    let whole : bytes ≡ joined (take k xs) ++ joined (drop k xs) = are.joined ∙ sym (joined-parts k xs) in
    let first : take n bytes ≡ joined (take k xs) = ap (take n) whole ∙ take_at (joined (take k xs)) (joined (drop k xs)) n (sym long) in
    let rest : drop n bytes ≡ joined (drop k xs) = ap (drop n) whole ∙ drop_at (joined (take k xs)) (joined (drop k xs)) n (sym long) in
    let counted = are.counted in
    let taken = length-take k xs in
    let left = length-drop k xs in
    let front : AreNewElements size k (take n bytes) (take k xs) = record {
      joined = first;
      counted = sym (length-take-le k xs few);
      one = λ any. (let most = are.one any in omega arith);
      fit = (parts-fit size k xs are.fit).0;
      sized = (parts-sized size k xs are.sized).0;
    } in
    let back : AreNewElements size (count - k) (drop n bytes) (drop k xs) = record {
      joined = rest;
      counted = omega arith;
      one = λ any. (let most = are.one any in omega arith);
      fit = (parts-fit size k xs are.fit).1;
      sized = (parts-sized size k xs are.sized).1;
    } in
    record {
      front = new-again size k (take n bytes) (take k xs) front;
      front_is = cut_new-are size k (take n bytes) (take k xs) front;
      back = new-again size (count - k) (drop n bytes) (drop k xs) back;
      back_is = cut_new-are size (count - k) (drop n bytes) (drop k xs) back;
    }

-- where one size is that of all

pub length-first : (size k : ℕ) (xs : BranchPiece) → (size == 0) ≡ false → have_size size xs ≡ true → k ≤ length xs → length (joined (take k xs)) ≡ k * size
length-first size k xs one sized few =
    length-joined size (take k xs) (sized-one size (take k xs) one (parts-sized size k xs sized).0) ∙ ap (λ (n : ℕ). n * size) (length-take-le k xs few)

pub weight-first : (size k : ℕ) (xs : BranchPiece) → (size == 0) ≡ false → have_size size xs ≡ true → k ≤ length xs → piece_weight size (take k xs) ≡ k * size
weight-first size k xs one sized few =
    weight-even size (take k xs) one (parts-sized size k xs sized).0 ∙ ap (λ (n : ℕ). n * size) (length-take-le k xs few)

-- the bytes of the first elements are no more than those of all
pub first-within : (k : ℕ) (xs : BranchPiece) → length (joined (take k xs)) ≤ length (joined xs)
first-within k xs =
    let whole = ap length (joined-parts k xs) in
    let sum = length-append (joined (take k xs)) (joined (drop k xs)) in
    omega arith

-- How many of one size fit into a room.
pub even-fitting : (size room : ℕ) (xs : BranchPiece) → (size == 0) ≡ false → have_size size xs ≡ true
    → (piece_weight size (take (min (length xs) (room / size)) xs) ≤ room)
    × (min (length xs) (room / size) < length xs → room < piece_weight size (take (min (length xs) (room / size) + 1) xs))
even-fitting size room xs one sized =
    let q : ℕ = room / size in
    let n : ℕ = min (length xs) q in
    let some : 0 < size = pos_of_ne-zero (eqb-false size 0 one) in
    let within : n ≤ q = omega arith in
    let here = weight-first size n xs one sized (omega arith) in
    let most : n * size ≤ q * size = mul-le-mul_right size within in
    let less = div-mul-le_self room size in
    let past = lt-div-mul-add {a = room} {b = size} some in (
      omega arith,
      λ more. (
          let is : n ≡ q = omega arith in
          let next = weight-first size (n + 1) xs one sized (omega arith) in
          let same : (n + 1) * size ≡ q * size + size = ap (λ (k : ℕ). (k + 1) * size) is ∙ (let e : (q + 1) * size ≡ q * size + size = omega arith in e) in
          omega arith
          ),
    )

-- Bytes of a whole number of elements are these.
pub even-new : (size : ℕ) (bytes : List ℕ) → (size == 0) ≡ false → size ≤ greatest_element_size → length bytes % size ≡ 0
    → AreNewElements size (length bytes / size) bytes (cut_new size (length bytes / size) bytes)
even-new size bytes one small whole =
    let n : ℕ = length bytes / size in
    let xs : BranchPiece = cut_evenly n size bytes in
    let turned : size * n ≡ n * size = omega arith in
    let back = div-add-mod (length bytes) size in
    let long : length bytes ≡ n * size = omega arith in
    new-again size n bytes xs (record {
      joined = sym (joined-cut_evenly n size bytes long);
      counted = sym (length-cut_evenly n size bytes);
      one = λ any. (let same : true ≡ false = sym any ∙ one in absurd (cc));
      fit = even-fits size n bytes one small;
      sized = ap (λ (b : Bool). b || list_all (λ x. length x == size) xs) one ∙ even-sized size n bytes (omega arith);
    })

-- One element where sizes vary: it has the bytes of all.
pub single-length : (size : ℕ) (xs : BranchPiece) → size ≡ 0 → length xs ≤ 1 → (length xs ≡ 0 → ⊥) → each_fits size xs ≡ true
    → (kept_lengths size xs ≡ length (joined xs) ∷ []) × (length (joined xs) ≤ branch_room)
single-length size [] any few some fit = absurd (some refl)
single-length size (x ∷ y ∷ xs) any few some fit = absurd (omega arith)
single-length size (x ∷ []) any few some fit =
    let zero_size : (size == 0) ≡ true = eq-eqb size 0 any in
    let row : joined (x ∷ []) ≡ x = append-nil x in
    let one : fits_branch size (x ∷ []) ≡ true = (and_parts (fits_branch size (x ∷ [])) true fit).0 in
    let most = leb-true (piece_weight size (x ∷ [])) branch_room one in
    let is = weight-kept size (x ∷ []) in (
      cond-true (size == 0) (length x ∷ []) [] zero_size ∙ ap (λ (ns : List ℕ). length ns ∷ []) (sym row),
      omega arith,
    )

-- The elements of a piece are those that its bytes and lengths are, also with others behind them.
use Rattle.std.proofs.Common.{◌≡◌, ℕ, zero, suc, ◌+◌, ◌-◌, ◌*◌, ◌<◌, ◌≤◌, Bool, true, false, ◌||◌, ◌==◌, nat_lt, List, [], ◌∷◌, ◌++◌, length, map, take, drop, get_or, replicate, refl, sym, ap, ap₂, subst, ◌∙◌, arith, inl, inr, append_assoc, length-append, length-drop, take_at, drop_at, eqb-true, le-leb}
use Rattle.std.proofs.lemmas.Bool.{cases_Bool, and_parts, and_from, cond-true, cond-false}
use Rattle.std.proofs.lemmas.Grind.{flat_map-append}
use Rattle.std.proofs.lemmas.List.{length-map, length-take, map-append, get_or-drop, get_or-take, take_more, take-append-drop}
use Rattle.std.proofs.lemmas.List.Folds.{list_all-append}
use Rattle.std.specs.List.{list_all}
use Rattle.geos_model.specs.Array.{Array, is_even}
use Rattle.geos_model.proofs.Arrays.{joined, table_of, table-even, length_table-any}
use Rattle.geos_model.specs.Pieces.{BranchPiece, piece_weight, branch_room}
use Rattle.large_bodies.specs.SizedElements.{SizedElements, have_size, with_behind}
use Rattle.large_bodies.specs.ElementLengths.{cut_lengths, all_lengths, kept_lengths}
use Rattle.large_bodies.specs.PieceKeeping.{AreHeldElements, held_elements, KeepsElements}
use Rattle.large_bodies.specs.declared.piece.Piece.TheInside.{Inside}
use Rattle.geos_model.proofs.BranchBytes.{FitsBranch, array_of_piece, weight-is, branch-few}
use Rattle.geos_model.proofs.SpreadFits.{weight-append}

-- elements with their size
abbrev pub sized_elements : ℕ → BranchPiece → SizedElements
sized_elements size xs = record { size = size; elements = xs }

pub joined-append : (xs ys : BranchPiece) → joined (xs ++ ys) ≡ joined xs ++ joined ys
joined-append xs ys = flat_map-append (λ (x : List ℕ). x) xs ys

-- elements cut from their bytes
cut_lengths-joined : (xs : BranchPiece) → cut_lengths (map length xs) (joined xs) ≡ xs
cut_lengths-joined [] = refl
cut_lengths-joined (x ∷ xs) =
    ap₂ (λ (y rest : List ℕ). y ∷ cut_lengths (map length xs) rest) (take_at x (joined xs) (length x) refl) (drop_at x (joined xs) (length x) refl)
    ∙ ap (λ (ys : BranchPiece). x ∷ ys) (cut_lengths-joined xs)

-- which have one size
one_length : (size : ℕ) (xs : BranchPiece) → list_all (λ x. length x == size) xs ≡ true → replicate (length xs) size ≡ map length xs
one_length size [] all = refl
one_length size (x ∷ xs) all =
    let parts = and_parts (length x == size) (list_all (λ y. length y == size) xs) all in
    ap₂ (λ (n : ℕ) (ns : List ℕ). n ∷ ns) (sym (eqb-true (length x) size parts.0)) (one_length size xs parts.1)

-- or any
pub sized-any : (size : ℕ) (xs : BranchPiece) → (size == 0) ≡ true → have_size size xs ≡ true
sized-any size xs any = ap (λ (b : Bool). b || list_all (λ x. length x == size) xs) any

pub sized-one : (size : ℕ) (xs : BranchPiece) → (size == 0) ≡ false → have_size size xs ≡ true → list_all (λ x. length x == size) xs ≡ true
sized-one size xs one sized = ap (λ (b : Bool). b || list_all (λ x. length x == size) xs) (sym one) ∙ sized

pub sized-append : (size : ℕ) (xs ys : BranchPiece) → have_size size xs ≡ true → have_size size ys ≡ true → have_size size (xs ++ ys) ≡ true
sized-append size xs ys left right = elim (cases_Bool (size == 0)) [
  | inl any ↦ sized-any size (xs ++ ys) any
  | inr one ↦
      ap (λ (b : Bool). b || list_all (λ x. length x == size) (xs ++ ys)) one ∙ list_all-append (λ (x : List ℕ). length x == size) xs ys
      ∙ and_from (list_all (λ x. length x == size) xs) (list_all (λ x. length x == size) ys) (sized-one size xs one left) (sized-one size ys one right)
]

pub sized-parts : (size : ℕ) (xs ys : BranchPiece) → have_size size (xs ++ ys) ≡ true → (have_size size xs ≡ true) × (have_size size ys ≡ true)
sized-parts size xs ys all = elim (cases_Bool (size == 0)) [
  | inl any ↦ (sized-any size xs any, sized-any size ys any)
  | inr one ↦
      (let parts = and_parts (list_all (λ x. length x == size) xs) (list_all (λ x. length x == size) ys)
      (sym (list_all-append (λ (x : List ℕ). length x == size) xs ys) ∙ sized-one size (xs ++ ys) one all) in (
        ap (λ (b : Bool). b || list_all (λ x. length x == size) xs) one ∙ parts.0,
        ap (λ (b : Bool). b || list_all (λ x. length x == size) ys) one ∙ parts.1,
      ))
]

-- the lengths that are kept are enough
lengths-all : (size : ℕ) (xs : BranchPiece) → have_size size xs ≡ true → all_lengths size (length xs) (kept_lengths size xs) ≡ map length xs
lengths-all size xs sized = elim (cases_Bool (size == 0)) [
  | inl any ↦ cond-true (size == 0) _ _ any ∙ cond-true (size == 0) _ _ any
  | inr one ↦ cond-false (size == 0) _ _ one ∙ one_length size xs (sized-one size xs one sized)
]

pub kept-append : (size : ℕ) (xs ys : BranchPiece) → kept_lengths size (xs ++ ys) ≡ kept_lengths size xs ++ kept_lengths size ys
kept-append size xs ys = elim (cases_Bool (size == 0)) [
  | inl any ↦
      cond-true (size == 0) _ _ any ∙ map-append length xs ys
      ∙ ap₂ (λ (ns ms : List ℕ). ns ++ ms) (sym (cond-true (size == 0) (map length xs) [] any)) (sym (cond-true (size == 0) (map length ys) [] any))
  | inr one ↦
      cond-false (size == 0) _ _ one
      ∙ ap₂ (λ (ns ms : List ℕ). ns ++ ms) (sym (cond-false (size == 0) (map length xs) [] one)) (sym (cond-false (size == 0) (map length ys) [] one))
]

-- what elements weigh, by what is kept of them
pub weight-kept : (size : ℕ) (xs : BranchPiece) → piece_weight size xs ≡ length (joined xs) + 2 * length (kept_lengths size xs)
weight-kept size xs =
    let is = weight-is size xs in
    elim (cases_Bool (size == 0)) [
      | inl any ↦
          (let table = length_table-any (array_of_piece size xs) any in
          let kept : length (kept_lengths size xs) ≡ length xs = ap length (cond-true (size == 0) (map length xs) [] any) ∙ length-map xs length in
          omega arith)
      | inr one ↦
          (let table : length (table_of (array_of_piece size xs)) ≡ 0 = ap length (table-even (array_of_piece size xs) one) in
          let kept : length (kept_lengths size xs) ≡ 0 = ap length (cond-false (size == 0) (map length xs) [] one) in
          omega arith)
    ]

-- The elements that a piece keeps.
pub kept-are : (size count : ℕ) (lengths bytes : List ℕ) (xs : BranchPiece) → AreHeldElements size count lengths bytes xs
    → cut_lengths (all_lengths size count lengths) bytes ≡ xs
kept-are size count lengths bytes xs kept =
    let all : all_lengths size count lengths ≡ map length xs =
    ap₂ (λ (n : ℕ) (ns : List ℕ). all_lengths size n ns) kept.counted kept.kept ∙ lengths-all size xs kept.holds.sized in
    ap₂ (λ (ns row : List ℕ). cut_lengths ns row) all kept.joined ∙ cut_lengths-joined xs

-- as its invariant says it
pub kept-again : (size count : ℕ) (lengths bytes : List ℕ) (xs : BranchPiece) → AreHeldElements size count lengths bytes xs
    → AreHeldElements size count lengths bytes (cut_lengths (all_lengths size count lengths) bytes)
kept-again size count lengths bytes xs kept =
    let P : BranchPiece → Type 0 = λ ys. AreHeldElements size count lengths bytes ys in subst P (sym (kept-are size count lengths bytes xs kept)) kept

-- With others behind them.
pub kept-behind : (size count : ℕ) (lengths bytes : List ℕ) (xs ys : BranchPiece) → AreHeldElements size count lengths bytes xs → have_size size ys ≡ true
    → piece_weight size xs + piece_weight size ys ≤ branch_room
    → AreHeldElements size (count + length ys) (lengths ++ kept_lengths size ys) (bytes ++ joined ys) (xs ++ ys)
kept-behind size count lengths bytes xs ys kept sized room =
    let sum = weight-append size xs ys in
    let counted = kept.counted in
    let long = length-append xs ys in
    record {
      joined = ap (λ (row : List ℕ). row ++ joined ys) kept.joined ∙ sym (joined-append xs ys);
      kept = ap (λ (ns : List ℕ). ns ++ kept_lengths size ys) kept.kept ∙ sym (kept-append size xs ys);
      counted = omega arith;
      holds = record {
        small = kept.holds.small;
        room = le-leb (piece_weight size (xs ++ ys)) branch_room (omega (arith, sum, room));
        sized = sized-append size xs ys kept.holds.sized sized;
      };
    }

-- What callers see of a piece.
pub held-are : (p : Inside) (w : SizedElements) → held_elements p ≡ w → KeepsElements p → AreHeldElements w.size p.count p.lengths.items p.bytes.items w.elements
held-are p w is kept = let P : SizedElements → Type 0 = λ u. AreHeldElements u.size p.count p.lengths.items p.bytes.items u.elements in subst P is kept

-- A piece with other elements behind, as its fields are then.
pub record Grown (size count : ℕ) (lengths bytes : List ℕ) (w : SizedElements) (ys : BranchPiece) : Type 0 where
  pub keeps : AreHeldElements size count lengths bytes (cut_lengths (all_lengths size count lengths) bytes)
  pub is : sized_elements size (cut_lengths (all_lengths size count lengths) bytes) ≡ with_behind w ys
  pub few : count ≤ branch_room

pub grown : (p : Inside) (w : SizedElements) (count : ℕ) (lengths bytes : List ℕ) (ys : BranchPiece) → held_elements p ≡ w → KeepsElements p → have_size w.size ys ≡ true
    → piece_weight w.size w.elements + piece_weight w.size ys ≤ branch_room → count ≡ p.count + length ys → lengths ≡ p.lengths.items ++ kept_lengths w.size ys → bytes ≡ p.bytes.items ++ joined ys
    → Grown p.size count lengths bytes w ys
grown p w count lengths bytes ys is keeps sized room counted longer row =
    let size : p.size ≡ w.size = ap (λ (u : SizedElements). u.size) is in
    let old = held-are p w is keeps in
    let more = kept-behind w.size p.count p.lengths.items p.bytes.items w.elements ys old sized room in
    let P : ℕ → Type 0 = λ n. AreHeldElements w.size n (p.lengths.items ++ kept_lengths w.size ys) (p.bytes.items ++ joined ys) (w.elements ++ ys) in
    let Q : List ℕ → Type 0 = λ ns. AreHeldElements w.size count ns (p.bytes.items ++ joined ys) (w.elements ++ ys) in
    let R : List ℕ → Type 0 = λ all. AreHeldElements w.size count lengths all (w.elements ++ ys) in
    let new : AreHeldElements w.size count lengths bytes (w.elements ++ ys) = subst R (sym row) (subst Q (sym longer) (subst P (sym counted) more)) in
    let S : ℕ → Type 0 = λ s. Grown s count lengths bytes w ys in
    let fits : FitsBranch w.size (w.elements ++ ys) = record { small = new.holds.small; room = new.holds.room; sized = new.holds.sized } in
    let few = branch-few w.size (w.elements ++ ys) fits in
    let many = new.counted in
    subst S (sym size) (record {
      keeps = kept-again w.size count lengths bytes (w.elements ++ ys) new;
      is = ap (sized_elements w.size) (kept-are w.size count lengths bytes (w.elements ++ ys) new);
      few = omega arith;
    })

-- Runs of elements.

-- an element of a run weighs no more than all of it
pub element-weighs : (size from n i : ℕ) (xs : BranchPiece) → from ≤ i → i < from + n → i < length xs
    → length (get_or xs i []) ≤ piece_weight size (take n (drop from xs))
element-weighs size from n i xs up low within =
    let ys : BranchPiece = drop from xs in
    let k : ℕ = i - from in
    let left = length-drop from xs in
    let place : from + k ≡ i = omega arith in
    let here : get_or ys k [] ≡ get_or xs i [] = get_or-drop from xs k [] ∙ ap (λ (m : ℕ). get_or xs m []) place in
    let first : get_or (take n ys) k [] ≡ get_or ys k [] = get_or-take n ys k [] (omega arith) in
    let long = length-take n ys in
    let most = weighs-one size (take n ys) k (omega arith) in
    let same = ap length (first ∙ here) in
    omega arith
  where
    weighs-one : (size : ℕ) (ys : BranchPiece) (k : ℕ) → k < length ys → length (get_or ys k []) ≤ piece_weight size ys
    weighs-one size [] k low = absurd (omega arith)
    weighs-one size (y ∷ ys) zero low = (let sum = weight-append size (y ∷ []) ys in let one = weight-kept size (y ∷ []) in let row = length-append y (joined []) in omega arith)
    weighs-one size (y ∷ ys) (suc k) low =
        let rest = weighs-one size ys k (omega arith) in
        let sum = weight-append size (y ∷ []) ys in
        omega arith

-- one more element of a run
pub more_lengths : (ns : List ℕ) (from i : ℕ) (xs : BranchPiece) → from ≤ i → i < length xs
    → (ns ++ map length (take (i - from) (drop from xs))) ++ length (get_or xs i []) ∷ [] ≡ ns ++ map length (take (i + 1 - from) (drop from xs))
more_lengths ns from i xs up low =
    let ys : BranchPiece = drop from xs in
    let k : ℕ = i - from in
    let left = length-drop from xs in
    let next : k + 1 ≡ i + 1 - from = omega arith in
    let place : from + k ≡ i = omega arith in
    let here : get_or ys k [] ≡ get_or xs i [] = get_or-drop from xs k [] ∙ ap (λ (m : ℕ). get_or xs m []) place in
    append_assoc ns (map length (take k ys)) (length (get_or xs i []) ∷ [])
    ∙ ap (λ (ms : List ℕ). ns ++ ms)
    (ap (λ (x : List ℕ). map length (take k ys) ++ length x ∷ []) (sym here)
    ∙ sym (map-append length (take k ys) (get_or ys k [] ∷ []))
    ∙ ap (map length) (sym (take_more ys k [] (omega arith)) ∙ ap (λ (m : ℕ). take m ys) next))

-- elements of an array have its size, and so have those of a run
pub run-sized : (a : Array) (from n : ℕ) → is_even a ≡ true → have_size a.size (take n (drop from a.elements)) ≡ true
run-sized a from n even =
    let all : have_size a.size a.elements ≡ true = (and_parts (nat_lt a.size 65536) (have_size a.size a.elements) even).1 in
    let behind : have_size a.size (drop from a.elements) ≡ true =
    (sized-parts a.size (take from a.elements) (drop from a.elements) (ap (have_size a.size) (take-append-drop from a.elements) ∙ all)).1 in
    (sized-parts a.size (take n (drop from a.elements)) (drop n (drop from a.elements)) (ap (have_size a.size) (take-append-drop n (drop from a.elements)) ∙ behind)).0

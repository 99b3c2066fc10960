-- How many pieces there are after an edit.
use Rattle.std.proofs.Common.{◌≡◌, ℕ, true, zero, suc, ◌+◌, ◌-◌, ◌<◌, ◌≤◌, ◌==◌, nat_le, nat_lt, List, [], ◌∷◌, ◌++◌, length, take, drop, map, get_or, refl, sym, ap, subst, ◌∙◌, inl, inr, append_assoc, length-append, length-drop, length-take, ltb-true, ltb-false, ◌⊎◌, arith, leb-true, if◌then◌else◌, le-leb}
use Rattle.std.proofs.lemmas.Bool.{cases_Bool, cond-true, cond-false, cases_eq, eq-eqb}
use Rattle.std.proofs.lemmas.List.{length-take-le, get_or_past, append-nil, length-map, take-append-drop, drop-drop}
use Rattle.geos_model.specs.Pieces.{BranchPiece, branch_room, join_room, piece_weight, are_joined, fits_branch, are_spread, all_fit}
use Rattle.geos_model.specs.Spread.{end_place, first_place, packed_from, with_last, with_first, middle, piece_before, right_piece, with_left, respread, if_none}
use Rattle.geos_model.proofs.SpreadFits.{part-fits, taken-fits, got-fits, room_of, weight-append}
use Rattle.geos_model.proofs.SpreadPlaces.{end-low, first-end, first-end_same}
use Rattle.geos_model.proofs.SpreadStays.{spread_parts, begins}

-- What fits into a piece that was begun goes in there.
packed-begun : (size : ℕ) (y : List ℕ) (ys xs zs : BranchPiece) → fits_branch size ((y ∷ ys) ++ xs) ≡ true
    → packed_from size (y ∷ ys) (xs ++ zs) ≡ packed_from size ((y ∷ ys) ++ xs) zs
packed-begun size y ys [] zs all = ap (λ (ps : BranchPiece). packed_from size ps zs) (sym (append-nil (y ∷ ys)))
packed-begun size y ys (x ∷ xs) zs all =
    let same : (y ∷ ys) ++ x ∷ xs ≡ ((y ∷ ys) ++ x ∷ []) ++ xs = sym (append_assoc (y ∷ ys) (x ∷ []) xs) in
    let whole : fits_branch size (((y ∷ ys) ++ x ∷ []) ++ xs) ≡ true = ap (fits_branch size) (sym same) ∙ all in
    let b = nat_le (piece_weight size ((y ∷ ys) ++ x ∷ [])) branch_room in
    cond-true b _ _ (part-fits size ((y ∷ ys) ++ x ∷ []) xs whole).0
    ∙ packed-begun size y (ys ++ x ∷ []) xs zs whole
    ∙ ap (λ (ps : BranchPiece). packed_from size ps zs) (sym same)

-- So each further element makes one piece more at most.
packed-few : (size : ℕ) (y xs : BranchPiece) → length (packed_from size y xs) ≤ suc (length xs)
packed-few size [] [] = omega arith
packed-few size (y ∷ ys) [] = omega arith
packed-few size [] (x ∷ xs) = (let rest = packed-few size (x ∷ []) xs in omega arith)
packed-few size (y ∷ ys) (x ∷ xs) =
    let b = nat_le (piece_weight size ((y ∷ ys) ++ x ∷ [])) branch_room in
    let few : List BranchPiece → Type 0 = λ ps. length ps ≤ suc (length (x ∷ xs)) in
    elim (cases_Bool b) [
      | inl within ↦
          (let rest = packed-few size ((y ∷ ys) ++ x ∷ []) xs in
          let n : ℕ = length (packed_from size ((y ∷ ys) ++ x ∷ []) xs) in
          let most : n ≤ suc (length (x ∷ xs)) = omega arith in
          subst few (sym (cond-true b _ _ within)) most)
      | inr past ↦
          (let rest = packed-few size (x ∷ []) xs in
          let n : ℕ = length (packed_from size (x ∷ []) xs) in
          let most : suc n ≤ suc (length (x ∷ xs)) = omega arith in
          subst few (sym (cond-false b _ _ past)) most)
    ]

kept-few : (size : ℕ) (head new : BranchPiece) → fits_branch size head ≡ true → length (packed_from size [] (head ++ new)) ≤ suc (length new)
kept-few size [] new all = packed-few size [] new
kept-few size (y ∷ ys) new all =
    subst (λ (ps : List BranchPiece). length ps ≤ suc (length new)) (sym (packed-begun size y [] ys new all)) (packed-few size (y ∷ ys) new)

with_last-few : (size room : ℕ) (ps : List BranchPiece) (y : BranchPiece) → length (with_last size room ps y) ≤ suc (length ps)
with_last-few size room ps [] = omega arith
with_last-few size room [] (y ∷ ys) = omega arith
with_last-few size room (x ∷ []) (y ∷ ys) =
    let b = nat_le (piece_weight size x + piece_weight size (y ∷ ys)) room in
    let few : List BranchPiece → Type 0 = λ ps. length ps ≤ 2 in
    elim (cases_Bool b) [
      | inl within ↦ subst few (sym (cond-true b _ _ within)) (let one : 1 ≤ 2 = omega arith in one)
      | inr past ↦ subst few (sym (cond-false b _ _ past)) (let two : 2 ≤ 2 = omega arith in two)
    ]
with_last-few size room (x ∷ next ∷ ps) (y ∷ ys) = (let rest = with_last-few size room (next ∷ ps) (y ∷ ys) in omega arith)

with_first-few : (size : ℕ) (y : BranchPiece) (ps : List BranchPiece) → length (with_first size y ps) ≤ suc (length ps)
with_first-few size [] ps = omega arith
with_first-few size (y ∷ ys) [] = omega arith
with_first-few size (y ∷ ys) (x ∷ ps) =
    let b = are_joined size (y ∷ ys) x in
    let few : List BranchPiece → Type 0 = λ qs. length qs ≤ suc (suc (length ps)) in
    let n : ℕ = length ps in
    elim (cases_Bool b) [
      | inl joined ↦ subst few (sym (cond-true b _ _ joined)) (let one : suc n ≤ suc (suc n) = omega arith in one)
      | inr apart ↦ subst few (sym (cond-false b _ _ apart)) (let two : suc (suc n) ≤ suc (suc n) = omega arith in two)
    ]

pub middle-few : (size : ℕ) (ps : List BranchPiece) (i j : ℕ) (new : BranchPiece) → all_fit size ps ≡ true → length (middle size ps i j new) ≤ suc (suc (length new))
middle-few size ps i j new all =
    let from = first_place (map length ps) i j in
    let to = end_place (map length ps) j in
    let head : BranchPiece = take from.1 (get_or ps from.0 []) in
    let kept = kept-few size head new (taken-fits size from.1 (get_or ps from.0 []) (got-fits size ps from.0 all)) in
    let last = with_last-few size (room_of (from.0 == to.0)) (packed_from size [] (head ++ new)) (drop to.1 (get_or ps to.0 [])) in
    omega arith

-- With a neighbour there is one more at most, and none more where there is no neighbour.
left-few : (size : ℕ) (ps : List BranchPiece) (k : ℕ) (mid : List BranchPiece) → k < length ps
    → length (take (k - 1) ps) + length (with_first size (piece_before ps k) mid) ≤ k + length mid
left-few size ps zero mid low = omega arith
left-few size ps (suc k) mid low =
    let less : suc k - 1 ≡ k = omega arith in
    let front : length (take (suc k - 1) ps) ≡ suc k - 1 = length-take-le (suc k - 1) ps (omega arith) in
    let more = with_first-few size (get_or ps k []) mid in
    omega arith

right-few : (size : ℕ) (ps : List BranchPiece) (t : ℕ) (qs : List BranchPiece) → t < length ps
    → length (with_last size join_room qs (get_or ps (suc t) [])) + length (drop (suc (suc t)) ps) + suc t ≤ length qs + length ps
right-few size ps t qs low = elim (cases_Bool (nat_lt (suc t) (length ps))) [
  | inl there ↦
      (let more = ltb-true (suc t) (length ps) there in
      let behind = length-drop (suc (suc t)) ps in
      let last = with_last-few size join_room qs (get_or ps (suc t) []) in
      omega arith)
  | inr past ↦
      (let most = ltb-false (suc t) (length ps) past in
      let behind = length-drop (suc (suc t)) ps in
      let none : get_or ps (suc t) [] ≡ [] = get_or_past ps (suc t) [] most in
      let last : length (with_last size join_room qs (get_or ps (suc t) [])) ≡ length qs = ap (λ (y : BranchPiece). length (with_last size join_room qs y)) none in
      omega arith)
]

if_none-few : (ps : List BranchPiece) → (length (if_none ps) ≡ length ps) ⊎ (length (if_none ps) ≡ 1)
if_none-few [] = inr refl
if_none-few (p ∷ ps) = inl refl

-- a run ends in a piece that there is
pub ends : (ps : List BranchPiece) (j : ℕ) → 0 < length ps → (end_place (map length ps) j).0 < length ps
ends [] j some = absurd (omega arith)
ends (p ∷ ps) j some =
    let low = end-low (length p) (map length ps) j in
    let as_many = length-map ps (λ (q : BranchPiece). length q) in
    omega arith

-- An edit makes one piece more at most than there are new elements.
pub respread-few : (size : ℕ) (ps : List BranchPiece) (i j : ℕ) (new : BranchPiece) → i ≤ j → are_spread size ps ≡ true
    → length (respread size ps i j new) ≤ length ps + 1 + length new
unfolding respread
respread-few size ps i j new order spread =
    let some = (spread_parts size ps spread).some in
    let from = first_place (map length ps) i j in
    let to = end_place (map length ps) j in
    let mid : List BranchPiece = middle size ps i j new in
    let lefted : List BranchPiece = with_left size ps i j new in
    let whole : List BranchPiece = with_last size join_room lefted (right_piece ps j) in
    let before : List BranchPiece = take (from.0 - 1) ps in
    let behind : List BranchPiece = drop (suc (suc to.0)) ps in
    let parts = middle-few size ps i j new (spread_parts size ps spread).fit in
    let left = left-few size ps from.0 mid (begins ps i j some) in
    let right = right-few size ps to.0 lefted (ends ps j some) in
    let run = first-end (map length ps) i j order in
    let front = length-append before (if_none whole) in
    let all = length-append (before ++ if_none whole) behind in
    let short = length-take (from.0 - 1) ps in
    let rest = length-drop (suc (suc to.0)) ps in
    elim (if_none-few whole) [
      | inl same ↦ omega arith
      | inr one ↦ omega arith
    ]

-- A deletion makes no piece more.

-- what stays of a piece is one piece at most
kept-one : (size : ℕ) (head tail : BranchPiece) → piece_weight size head + piece_weight size tail ≤ branch_room
    → length (with_last size branch_room (packed_from size [] (head ++ [])) tail) ≤ 1
kept-one size [] [] few = omega arith
kept-one size [] (y ∷ ys) few = omega arith
kept-one size (x ∷ xs) tail few =
    let one : packed_from size [] ((x ∷ xs) ++ []) ≡ (x ∷ xs) ∷ [] =
    packed-begun size x [] xs [] (le-leb (piece_weight size (x ∷ xs)) branch_room (omega arith)) in
    subst (λ (ps : List BranchPiece). length (with_last size branch_room ps tail) ≤ 1) (sym one) (by_tail tail few)
  where
    by_tail : (tail : BranchPiece) → piece_weight size (x ∷ xs) + piece_weight size tail ≤ branch_room → length (with_last size branch_room ((x ∷ xs) ∷ []) tail) ≤ 1
    by_tail [] few = omega arith
    by_tail (y ∷ ys) few =
        let b = nat_le (piece_weight size (x ∷ xs) + piece_weight size (y ∷ ys)) branch_room in
        subst (λ (ps : List BranchPiece). length ps ≤ 1) (sym (cond-true b _ _ (le-leb (piece_weight size (x ∷ xs) + piece_weight size (y ∷ ys)) branch_room few)))
        (let one : 1 ≤ 1 = omega arith in one)

-- two parts of a piece that don't overlap weigh no more than it
parts-weigh : (size a e : ℕ) (p : BranchPiece) → a ≤ e → piece_weight size (take a p) + piece_weight size (drop e p) ≤ piece_weight size p
parts-weigh size a e p order =
    let all = weight-append size (take a p) (drop a p) in
    let whole = ap (piece_weight size) (take-append-drop a p) in
    let rest = weight-append size (take (e - a) (drop a p)) (drop (e - a) (drop a p)) in
    let rest_whole = ap (piece_weight size) (take-append-drop (e - a) (drop a p)) in
    let sum : a + (e - a) ≡ e = omega arith in
    let behind : piece_weight size (drop (e - a) (drop a p)) ≡ piece_weight size (drop e p) = ap (piece_weight size) (drop-drop (e - a) a p ∙ ap (λ (n : ℕ). drop n p) sum) in
    omega arith

middle-one : (size : ℕ) (ps : List BranchPiece) (i j : ℕ) → i ≤ j → all_fit size ps ≡ true → (first_place (map length ps) i j).0 ≡ (end_place (map length ps) j).0
    → length (middle size ps i j []) ≤ 1
middle-one size ps i j order all same =
    let from = first_place (map length ps) i j in
    let to = end_place (map length ps) j in
    let p : BranchPiece = get_or ps from.0 [] in
    let kept : List BranchPiece = packed_from size [] (take from.1 p ++ []) in
    let room : (if from.0 == to.0 then branch_room else join_room) ≡ branch_room = cond-true (from.0 == to.0) branch_room join_room (eq-eqb from.0 to.0 same) in
    let fit = leb-true (piece_weight size p) branch_room (got-fits size ps from.0 all) in
    let parts = parts-weigh size from.1 to.1 p (first-end_same (map length ps) i j order same) in
    subst (λ (m : ℕ). length (with_last size m kept (drop to.1 (get_or ps to.0 []))) ≤ 1) (sym room)
    (subst (λ (k : ℕ). length (with_last size branch_room kept (drop to.1 (get_or ps k []))) ≤ 1) same (kept-one size (take from.1 p) (drop to.1 p) (omega arith)))

pub respread-fewer : (size : ℕ) (ps : List BranchPiece) (i j : ℕ) → i ≤ j → are_spread size ps ≡ true → length (respread size ps i j []) ≤ length ps
unfolding respread
respread-fewer size ps i j order spread =
    let are = spread_parts size ps spread in
    let some = are.some in
    let from = first_place (map length ps) i j in
    let to = end_place (map length ps) j in
    let mid : List BranchPiece = middle size ps i j [] in
    let lefted : List BranchPiece = with_left size ps i j [] in
    let whole : List BranchPiece = with_last size join_room lefted (right_piece ps j) in
    let before : List BranchPiece = take (from.0 - 1) ps in
    let behind : List BranchPiece = drop (suc (suc to.0)) ps in
    let parts : length mid + from.0 ≤ to.0 + 1 = elim (cases_eq from.0 to.0) [
      | inl same ↦ (let one = middle-one size ps i j order are.fit same in omega arith)
      | inr other ↦ (let two = middle-few size ps i j [] are.fit in let run = first-end (map length ps) i j order in omega arith)
    ] in
    let left = left-few size ps from.0 mid (begins ps i j some) in
    let low = ends ps j some in
    let right = right-few size ps to.0 lefted low in
    let run = first-end (map length ps) i j order in
    let front = length-append before (if_none whole) in
    let all = length-append (before ++ if_none whole) behind in
    let short = length-take (from.0 - 1) ps in
    let rest = length-drop (suc (suc to.0)) ps in
    elim (if_none-few whole) [
      | inl same ↦ omega arith
      | inr one ↦ omega arith
    ]

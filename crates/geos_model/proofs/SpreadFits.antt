-- Pieces stay within the room of a branch.
use Rattle.std.proofs.Common.{◌≡◌, ℕ, Bool, true, false, ◌&&◌, zero, suc, ◌+◌, ◌-◌, ◌≤◌, if◌then◌else◌, nat_le, ◌==◌, List, [], ◌∷◌, ◌++◌, length, take, drop, map, get_or, refl, sym, ap, ◌∙◌, inl, inr, leb-true, arith}
use Rattle.std.proofs.lemmas.Bool.{cases_Bool, cond-true, cond-false, and_parts, and_from, le-leb}
use Rattle.std.proofs.lemmas.List.{take-append-drop}
use Rattle.std.proofs.lemmas.List.Folds.{list_all-append}
use Rattle.std.proofs.lemmas.List.Sums.{sum_by-append}
use Rattle.geos_model.specs.Pieces.{BranchPiece, branch_room, join_room, piece_weight, are_joined, fits_branch, all_fit, each_fits}
use Rattle.geos_model.specs.Spread.{end_place, first_place, middle, piece_before, left_piece, right_piece, around, respread, packed_from, with_last, with_first, if_none}

pub weight-append : (size : ℕ) (xs ys : BranchPiece) → piece_weight size (xs ++ ys) ≡ piece_weight size xs + piece_weight size ys
weight-append size xs ys = sum_by-append (λ (x : List ℕ). length x + (if size == 0 then 2 else 0)) xs ys

-- a part of what fits fits
pub part-fits : (size : ℕ) (xs ys : BranchPiece) → fits_branch size (xs ++ ys) ≡ true → (fits_branch size xs ≡ true) × (fits_branch size ys ≡ true)
part-fits size xs ys all =
    let most : piece_weight size (xs ++ ys) ≤ branch_room = leb-true (piece_weight size (xs ++ ys)) branch_room all in
    let sum = weight-append size xs ys in
    (le-leb (piece_weight size xs) branch_room (omega (arith, most, sum)), le-leb (piece_weight size ys) branch_room (omega (arith, most, sum)))

each-of : (size : ℕ) (xs : BranchPiece) → fits_branch size xs ≡ true → each_fits size xs ≡ true
each-of size [] all = refl
each-of size (x ∷ xs) all =
    let parts = part-fits size (x ∷ []) xs all in
    and_from (fits_branch size (x ∷ [])) (each_fits size xs) parts.0 (each-of size xs parts.1)

-- and two that are joined do
pub joined-fits : (size : ℕ) (xs ys : BranchPiece) → are_joined size xs ys ≡ true → fits_branch size (xs ++ ys) ≡ true
joined-fits size xs ys joined =
    let sum = weight-append size xs ys in
    let most = leb-true (piece_weight size xs + piece_weight size ys) join_room joined in
    le-leb (piece_weight size (xs ++ ys)) branch_room (omega (arith, sum, most))

pub packed-fits : (size : ℕ) (y xs : BranchPiece) → fits_branch size y ≡ true → each_fits size xs ≡ true → all_fit size (packed_from size y xs) ≡ true
packed-fits size [] [] first each = refl
packed-fits size (y ∷ ys) [] first each = and_from (fits_branch size (y ∷ ys)) true first refl
packed-fits size [] (x ∷ xs) first each =
    let parts = and_parts (fits_branch size (x ∷ [])) (each_fits size xs) each in packed-fits size (x ∷ []) xs parts.0 parts.1
packed-fits size (y ∷ ys) (x ∷ xs) first each =
    let parts = and_parts (fits_branch size (x ∷ [])) (each_fits size xs) each in
    let b = nat_le (piece_weight size ((y ∷ ys) ++ x ∷ [])) branch_room in
    elim (cases_Bool b) [
      | inl within ↦ ap (all_fit size) (cond-true b _ _ within) ∙ packed-fits size ((y ∷ ys) ++ x ∷ []) xs within parts.1
      | inr past ↦ ap (all_fit size) (cond-false b _ _ past) ∙ and_from (fits_branch size (y ∷ ys)) (all_fit size (packed_from size (x ∷ []) xs)) first (packed-fits size (x ∷ []) xs parts.0 parts.1)
    ]

with_last-fits : (size room : ℕ) (ps : List BranchPiece) (y : BranchPiece) → room ≤ branch_room → all_fit size ps ≡ true → fits_branch size y ≡ true → all_fit size (with_last size room ps y) ≡ true
with_last-fits size room ps [] few all last = all
with_last-fits size room [] (y ∷ ys) few all last = and_from (fits_branch size (y ∷ ys)) true last refl
with_last-fits size room (x ∷ []) (y ∷ ys) few all last =
    let first = (and_parts (fits_branch size x) true all).0 in
    let b = nat_le (piece_weight size x + piece_weight size (y ∷ ys)) room in
    elim (cases_Bool b) [
      | inl within ↦ (let sum = weight-append size x (y ∷ ys) in let most = leb-true (piece_weight size x + piece_weight size (y ∷ ys)) room within in
          ap (all_fit size) (cond-true b _ _ within) ∙ and_from (fits_branch size (x ++ y ∷ ys)) true (le-leb (piece_weight size (x ++ y ∷ ys)) branch_room (omega (arith, few, sum, most))) refl)
      | inr past ↦ ap (all_fit size) (cond-false b _ _ past) ∙ and_from (fits_branch size x) (fits_branch size (y ∷ ys) && true) first (and_from (fits_branch size (y ∷ ys)) true last refl)
    ]
with_last-fits size room (x ∷ next ∷ ps) (y ∷ ys) few all last =
    let parts = and_parts (fits_branch size x) (all_fit size (next ∷ ps)) all in
    and_from (fits_branch size x) (all_fit size (with_last size room (next ∷ ps) (y ∷ ys))) parts.0 (with_last-fits size room (next ∷ ps) (y ∷ ys) few parts.1 last)

with_first-fits : (size : ℕ) (y : BranchPiece) (ps : List BranchPiece) → fits_branch size y ≡ true → all_fit size ps ≡ true → all_fit size (with_first size y ps) ≡ true
with_first-fits size [] ps first all = all
with_first-fits size (y ∷ ys) [] first all = and_from (fits_branch size (y ∷ ys)) true first refl
with_first-fits size (y ∷ ys) (x ∷ ps) first all =
    let parts = and_parts (fits_branch size x) (all_fit size ps) all in
    let b = are_joined size (y ∷ ys) x in
    elim (cases_Bool b) [
      | inl joined ↦ ap (all_fit size) (cond-true b _ _ joined) ∙ and_from (fits_branch size ((y ∷ ys) ++ x)) (all_fit size ps) (joined-fits size (y ∷ ys) x joined) parts.1
      | inr apart ↦ ap (all_fit size) (cond-false b _ _ apart) ∙ and_from (fits_branch size (y ∷ ys)) (all_fit size (x ∷ ps)) first all
    ]

-- an element of a list that is all of something, or the one in its place
pub got-fits : (size : ℕ) (ps : List BranchPiece) (k : ℕ) → all_fit size ps ≡ true → fits_branch size (get_or ps k []) ≡ true
got-fits size [] zero all = refl
got-fits size [] (suc k) all = refl
got-fits size (p ∷ ps) zero all = (and_parts (fits_branch size p) (all_fit size ps) all).0
got-fits size (p ∷ ps) (suc k) all = got-fits size ps k (and_parts (fits_branch size p) (all_fit size ps) all).1

pub taken-fits : (size n : ℕ) (xs : BranchPiece) → fits_branch size xs ≡ true → fits_branch size (take n xs) ≡ true
taken-fits size n xs all =
    let whole : fits_branch size (take n xs ++ drop n xs) ≡ true = ap (fits_branch size) (take-append-drop n xs) ∙ all in
    (part-fits size (take n xs) (drop n xs) whole).0

dropped-fits : (size n : ℕ) (xs : BranchPiece) → fits_branch size xs ≡ true → fits_branch size (drop n xs) ≡ true
dropped-fits size n xs all =
    let whole : fits_branch size (take n xs ++ drop n xs) ≡ true = ap (fits_branch size) (take-append-drop n xs) ∙ all in
    (part-fits size (take n xs) (drop n xs) whole).1

before-fits : (size : ℕ) (ps : List BranchPiece) (k : ℕ) → all_fit size ps ≡ true → fits_branch size (piece_before ps k) ≡ true
before-fits size ps zero all = refl
before-fits size ps (suc k) all = got-fits size ps k all

if_none-fits : (size : ℕ) (ps : List BranchPiece) → all_fit size ps ≡ true → all_fit size (if_none ps) ≡ true
if_none-fits size [] all = refl
if_none-fits size (p ∷ ps) all = all

-- up to how many bytes the last piece of a run may have
abbrev pub room_of : Bool → ℕ
room_of same = if same then branch_room else join_room

pub room-few : (same : Bool) → room_of same ≤ branch_room
room-few true = omega arith
room-few false = omega arith

-- what comes in the place of a run, where its first and its last piece fit
pub middle-fits : (size : ℕ) (ps : List BranchPiece) (i j : ℕ) (new : BranchPiece) → fits_branch size (get_or ps (first_place (map length ps) i j).0 []) ≡ true
    → fits_branch size (get_or ps (end_place (map length ps) j).0 []) ≡ true → each_fits size new ≡ true → all_fit size (middle size ps i j new) ≡ true
middle-fits size ps i j new first last each =
    let from = first_place (map length ps) i j in
    let to = end_place (map length ps) j in
    let head = take from.1 (get_or ps from.0 []) in
    let tail = drop to.1 (get_or ps to.0 []) in
    let kept : each_fits size (head ++ new) ≡ true =
    list_all-append (λ (x : List ℕ). fits_branch size (x ∷ [])) head new
    ∙ and_from (each_fits size head) (each_fits size new) (each-of size head (taken-fits size from.1 (get_or ps from.0 []) first)) each in
    with_last-fits size (room_of (from.0 == to.0)) (packed_from size [] (head ++ new)) tail (room-few (from.0 == to.0))
    (packed-fits size [] (head ++ new) refl kept) (dropped-fits size to.1 (get_or ps to.0 []) last)

taken_all : (size n : ℕ) (ps : List BranchPiece) → all_fit size ps ≡ true → (all_fit size (take n ps) ≡ true) × (all_fit size (drop n ps) ≡ true)
taken_all size n ps all =
    and_parts (all_fit size (take n ps)) (all_fit size (drop n ps))
    (sym (list_all-append (λ (p : BranchPiece). fits_branch size p) (take n ps) (drop n ps)) ∙ ap (all_fit size) (take-append-drop n ps) ∙ all)

-- No piece grows past the room of a branch, where each new element fits alone.
pub respread-fits : (size : ℕ) (ps : List BranchPiece) (i j : ℕ) (new : BranchPiece) → all_fit size ps ≡ true → each_fits size new ≡ true
    → all_fit size (respread size ps i j new) ≡ true
unfolding respread
respread-fits size ps i j new all each =
    let from = first_place (map length ps) i j in
    let to = end_place (map length ps) j in
    let first = take (from.0 - 1) ps in
    let last = drop (suc (suc to.0)) ps in
    let mid = around size ps i j new in
    let within : all_fit size mid ≡ true =
    if_none-fits size (with_last size join_room (with_first size (left_piece ps i j) (middle size ps i j new)) (right_piece ps j))
    (with_last-fits size join_room (with_first size (left_piece ps i j) (middle size ps i j new)) (right_piece ps j) (room-few false)
    (with_first-fits size (left_piece ps i j) (middle size ps i j new) (before-fits size ps from.0 all)
    (middle-fits size ps i j new (got-fits size ps from.0 all) (got-fits size ps to.0 all) each))
    (got-fits size ps (suc to.0) all)) in
    list_all-append (λ (p : BranchPiece). fits_branch size p) (first ++ mid) last
    ∙ and_from (all_fit size (first ++ mid)) (all_fit size last)
    (list_all-append (λ (p : BranchPiece). fits_branch size p) first mid
    ∙ and_from (all_fit size first) (all_fit size mid) (taken_all size (from.0 - 1) ps all).0 within)
    (taken_all size (suc (suc to.0)) ps all).1

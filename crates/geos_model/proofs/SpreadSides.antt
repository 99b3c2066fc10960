-- What stands on both sides of a run, and what is there after an edit of it.
use Rattle.std.proofs.Common.{◌≡◌, ℕ, Bool, true, false, not, ◌&&◌, ◌||◌, zero, suc, ◌+◌, ◌-◌, ◌<◌, ◌≤◌, ◌==◌, nat_le, nat_lt, List, [], ◌∷◌, ◌++◌, length, take, drop, get_or, refl, sym, ap, subst, ◌∙◌, inl, inr, ltb-true, ltb-false, arith}
use Rattle.std.proofs.lemmas.Bool.{cases_Bool, cond-true, cond-false, and_parts, and_from, lt-ltb, eqb-true}
use Rattle.std.proofs.lemmas.List.{append-nil, drop_all}
use Rattle.std.proofs.lemmas.List.Folds.{list_all-append}
use Rattle.geos_model.specs.Pieces.{BranchPiece, branch_room, join_room, piece_weight, are_joined, are_apart, none_empty}
use Rattle.geos_model.specs.Spread.{piece_before, packed_from, with_last, with_first, if_none}
use Rattle.geos_model.proofs.SpreadApart.{HasHead, with_last-heavy, with_last-apart, with_first-heavy, with_first-apart, append-apart}

-- No piece is empty.

abbrev has_element : BranchPiece → Bool
has_element x = nat_lt 0 (length x)

begun : (x : List ℕ) (xs : BranchPiece) → has_element (x ∷ xs) ≡ true
begun x xs = lt-ltb 0 (length (x ∷ xs)) (omega arith)

append-begun : (xs : BranchPiece) (y : List ℕ) (ys : BranchPiece) → has_element (xs ++ y ∷ ys) ≡ true
append-begun [] y ys = begun y ys
append-begun (x ∷ xs) y ys = begun x (xs ++ y ∷ ys)

append-full : (ps qs : List BranchPiece) → none_empty ps ≡ true → none_empty qs ≡ true → none_empty (ps ++ qs) ≡ true
append-full ps qs first last = list_all-append (λ (x : BranchPiece). nat_lt 0 (length x)) ps qs ∙ and_from (none_empty ps) (none_empty qs) first last

pub packed-full : (size : ℕ) (y xs : BranchPiece) → none_empty (packed_from size y xs) ≡ true
packed-full size [] [] = refl
packed-full size (y ∷ ys) [] = and_from (has_element (y ∷ ys)) true (begun y ys) refl
packed-full size [] (x ∷ xs) = packed-full size (x ∷ []) xs
packed-full size (y ∷ ys) (x ∷ xs) =
    let b = nat_le (piece_weight size ((y ∷ ys) ++ x ∷ [])) branch_room in
    elim (cases_Bool b) [
      | inl within ↦ ap none_empty (cond-true b _ _ within) ∙ packed-full size ((y ∷ ys) ++ x ∷ []) xs
      | inr past ↦
          ap none_empty (cond-false b _ _ past)
          ∙ and_from (has_element (y ∷ ys)) (none_empty (packed_from size (x ∷ []) xs)) (begun y ys) (packed-full size (x ∷ []) xs)
    ]

pub with_last-full : (size room : ℕ) (ps : List BranchPiece) (y : BranchPiece) → none_empty ps ≡ true → none_empty (with_last size room ps y) ≡ true
with_last-full size room ps [] full = full
with_last-full size room [] (y ∷ ys) full = and_from (has_element (y ∷ ys)) true (begun y ys) refl
with_last-full size room (x ∷ []) (y ∷ ys) full =
    let b = nat_le (piece_weight size x + piece_weight size (y ∷ ys)) room in
    elim (cases_Bool b) [
      | inl within ↦ ap none_empty (cond-true b _ _ within) ∙ and_from (has_element (x ++ y ∷ ys)) true (append-begun x y ys) refl
      | inr past ↦
          ap none_empty (cond-false b _ _ past)
          ∙ and_from (has_element x) (has_element (y ∷ ys) && true) (and_parts (has_element x) true full).0 (and_from (has_element (y ∷ ys)) true (begun y ys) refl)
    ]
with_last-full size room (x ∷ next ∷ ps) (y ∷ ys) full =
    let parts = and_parts (has_element x) (none_empty (next ∷ ps)) full in
    and_from (has_element x) (none_empty (with_last size room (next ∷ ps) (y ∷ ys))) parts.0 (with_last-full size room (next ∷ ps) (y ∷ ys) parts.1)

with_first-full : (size : ℕ) (y : BranchPiece) (ps : List BranchPiece) → none_empty ps ≡ true → none_empty (with_first size y ps) ≡ true
with_first-full size [] ps full = full
with_first-full size (y ∷ ys) [] full = and_from (has_element (y ∷ ys)) true (begun y ys) refl
with_first-full size (y ∷ ys) (x ∷ ps) full =
    let b = are_joined size (y ∷ ys) x in
    let parts = and_parts (has_element x) (none_empty ps) full in
    elim (cases_Bool b) [
      | inl joined ↦ ap none_empty (cond-true b _ _ joined) ∙ and_from (has_element ((y ∷ ys) ++ x)) (none_empty ps) (begun y (ys ++ x)) parts.1
      | inr apart ↦ ap none_empty (cond-false b _ _ apart) ∙ and_from (has_element (y ∷ ys)) (none_empty (x ∷ ps)) (begun y ys) full
    ]

taken-full : (n : ℕ) (ps : List BranchPiece) → none_empty ps ≡ true → none_empty (take n ps) ≡ true
taken-full zero ps full = refl
taken-full (suc n) [] full = refl
taken-full (suc n) (p ∷ ps) full =
    let parts = and_parts (has_element p) (none_empty ps) full in
    and_from (has_element p) (none_empty (take n ps)) parts.0 (taken-full n ps parts.1)

dropped-full : (n : ℕ) (ps : List BranchPiece) → none_empty ps ≡ true → none_empty (drop n ps) ≡ true
dropped-full zero ps full = full
dropped-full (suc n) [] full = refl
dropped-full (suc n) (p ∷ ps) full = dropped-full n ps (and_parts (has_element p) (none_empty ps) full).1

-- none is empty but a single one
abbrev pub is_full : List BranchPiece → Bool
is_full ps = length ps == 1 || none_empty ps

or_right : (a b : Bool) → b ≡ true → (a || b) ≡ true
or_right true b is = refl
or_right false b is = is

full_all : (ps : List BranchPiece) → none_empty ps ≡ true → is_full ps ≡ true
full_all ps full = or_right (length ps == 1) (none_empty ps) full

-- Where something stands, nothing is added.

if_none-same : (size n : ℕ) (ps : List BranchPiece) → HasHead size n ps → if_none ps ≡ ps
if_none-same size n [] head = absurd head
if_none-same size n (p ∷ ps) head = refl

-- with another piece behind there is a first one
with_last-begun : (size room : ℕ) (ps : List BranchPiece) (y : List ℕ) (ys : BranchPiece) → HasHead size 0 (with_last size room ps (y ∷ ys))
with_last-begun size room [] y ys = omega arith
with_last-begun size room (x ∷ ps) y ys = any_head size (piece_weight size x) (with_last size room (x ∷ ps) (y ∷ ys)) (subst (HasHead size (piece_weight size x)) (append-nil (with_last size room (x ∷ ps) (y ∷ ys))) (with_last-heavy size room x ps (y ∷ ys) []))
  where
    any_head : (size n : ℕ) (ps : List BranchPiece) → HasHead size n ps → HasHead size 0 ps
    any_head size n [] head = head
    any_head size n (p ∷ ps) head = omega arith

-- Left of a run and right of it no piece is empty, and beyond a neighbour that isn't there is nothing.
pub record AreSides (before : List BranchPiece) (l r : BranchPiece) (behind : List BranchPiece) : Type 0 where
  pub left_full : none_empty before ≡ true
  pub right_full : none_empty behind ≡ true
  pub left_end : l ≡ [] → before ≡ []
  pub right_end : r ≡ [] → behind ≡ []

-- And no two are to be joined.
pub record AreApartSides (size : ℕ) (before : List BranchPiece) (l r : BranchPiece) (behind : List BranchPiece) : Type 0 where
  pub left : are_apart size (before ++ l ∷ []) ≡ true
  pub right : are_apart size (r ∷ behind) ≡ true

-- what stands there after an edit
abbrev pub whole : ℕ → BranchPiece → List BranchPiece → BranchPiece → List BranchPiece
whole size l mid r = with_last size join_room (with_first size l mid) r

whole-heavy : (size : ℕ) (y : List ℕ) (ys : BranchPiece) (mid : List BranchPiece) (r : BranchPiece) (behind : List BranchPiece)
    → HasHead size (piece_weight size (y ∷ ys)) (whole size (y ∷ ys) mid r ++ behind)
whole-heavy size y ys mid r behind = led (with_first size (y ∷ ys) mid) (with_first-heavy size y ys mid)
  where
    n : ℕ
    n = piece_weight size (y ∷ ys)

    heavier : (m : ℕ) (ps : List BranchPiece) → n ≤ m → HasHead size m ps → HasHead size n ps
    heavier m [] less head = head
    heavier m (p ∷ ps) less head = omega arith

    led : (ps : List BranchPiece) → HasHead size n ps → HasHead size n (with_last size join_room ps r ++ behind)
    led [] head = absurd head
    led (p ∷ ps) head = heavier (piece_weight size p) (with_last size join_room (p ∷ ps) r ++ behind) head (with_last-heavy size join_room p ps r behind)

-- there is a piece
whole-begun : (size : ℕ) (y : List ℕ) (ys : BranchPiece) (mid : List BranchPiece) (r : BranchPiece) → HasHead size (piece_weight size (y ∷ ys)) (whole size (y ∷ ys) mid r)
whole-begun size y ys mid r =
    subst (HasHead size (piece_weight size (y ∷ ys))) (append-nil (whole size (y ∷ ys) mid r)) (whole-heavy size y ys mid r [])

-- Right of it no two are to be joined.
whole-apart : (size : ℕ) (before : List BranchPiece) (l : BranchPiece) (mid : List BranchPiece) (r : BranchPiece) (behind : List BranchPiece) → AreSides before l r behind → AreApartSides size before l r behind
    → are_apart size mid ≡ true → are_apart size (if_none (whole size l mid r) ++ behind) ≡ true
whole-apart size before l mid [] behind sides apart_sides apart =
    ap (λ (ps : List BranchPiece). are_apart size (if_none (with_first size l mid) ++ ps)) (sides.right_end refl)
    ∙ ap (are_apart size) (append-nil (if_none (with_first size l mid))) ∙ still (with_first size l mid) (with_first-apart size l mid apart)
  where
    still : (ps : List BranchPiece) → are_apart size ps ≡ true → are_apart size (if_none ps) ≡ true
    still [] good = refl
    still (p ∷ ps) good = good
whole-apart size before l mid (y ∷ ys) behind sides apart_sides apart =
    ap (λ (ps : List BranchPiece). are_apart size (ps ++ behind)) (if_none-same size 0 (whole size l mid (y ∷ ys)) (with_last-begun size join_room (with_first size l mid) y ys))
    ∙ with_last-apart size join_room (with_first size l mid) y ys behind (omega arith) (with_first-apart size l mid apart) apart_sides.right

-- With what is left of it too.
pub around-apart : (size : ℕ) (before : List BranchPiece) (l : BranchPiece) (mid : List BranchPiece) (r : BranchPiece) (behind : List BranchPiece) → AreSides before l r behind → AreApartSides size before l r behind
    → are_apart size mid ≡ true → are_apart size (before ++ (if_none (whole size l mid r) ++ behind)) ≡ true
around-apart size before [] mid r behind sides apart_sides apart =
    ap (λ (ps : List BranchPiece). are_apart size (ps ++ (if_none (whole size [] mid r) ++ behind))) (sides.left_end refl)
    ∙ whole-apart size before [] mid r behind sides apart_sides apart
around-apart size before (y ∷ ys) mid r behind sides apart_sides apart =
    append-apart size before (y ∷ ys) (if_none (whole size (y ∷ ys) mid r) ++ behind) apart_sides.left
    (whole-apart size before (y ∷ ys) mid r behind sides apart_sides apart)
    (subst (λ (ps : List BranchPiece). HasHead size (piece_weight size (y ∷ ys)) (ps ++ behind)) (sym (if_none-same size (piece_weight size (y ∷ ys)) (whole size (y ∷ ys) mid r) (whole-begun size y ys mid r)))
    (whole-heavy size y ys mid r behind))

-- And none is empty, but a single one.
begun-full : (size n : ℕ) (before ps behind : List BranchPiece) → HasHead size n ps → none_empty before ≡ true → none_empty ps ≡ true → none_empty behind ≡ true
    → is_full (before ++ (if_none ps ++ behind)) ≡ true
begun-full size n before ps behind head left here right =
    full_all (before ++ (if_none ps ++ behind))
    (append-full before (if_none ps ++ behind) left (append-full (if_none ps) behind (ap none_empty (if_none-same size n ps head) ∙ here) right))

pub around-full : (size : ℕ) (before : List BranchPiece) (l : BranchPiece) (mid : List BranchPiece) (r : BranchPiece) (behind : List BranchPiece) → AreSides before l r behind
    → none_empty mid ≡ true → is_full (before ++ (if_none (whole size l mid r) ++ behind)) ≡ true
around-full size before (y ∷ ys) mid r behind sides full =
    begun-full size (piece_weight size (y ∷ ys)) before (whole size (y ∷ ys) mid r) behind (whole-begun size y ys mid r) sides.left_full
    (with_last-full size join_room (with_first size (y ∷ ys) mid) r (with_first-full size (y ∷ ys) mid full)) sides.right_full
around-full size before [] mid (z ∷ zs) behind sides full =
    begun-full size 0 before (whole size [] mid (z ∷ zs)) behind (with_last-begun size join_room mid z zs) sides.left_full
    (with_last-full size join_room mid (z ∷ zs) full) sides.right_full
around-full size before [] mid [] behind sides full =
    ap (λ (ps : List BranchPiece). is_full (ps ++ (if_none mid ++ behind))) (sides.left_end refl)
    ∙ ap (λ (ps : List BranchPiece). is_full (if_none mid ++ ps)) (sides.right_end refl)
    ∙ ap is_full (append-nil (if_none mid)) ∙ alone mid full
  where
    alone : (ps : List BranchPiece) → none_empty ps ≡ true → is_full (if_none ps) ≡ true
    alone [] good = refl
    alone (p ∷ ps) good = full_all (p ∷ ps) good

-- Sides of pieces that are spread.

tail-apart : (size : ℕ) (p : BranchPiece) (ps : List BranchPiece) → are_apart size (p ∷ ps) ≡ true → are_apart size ps ≡ true
tail-apart size p [] apart = refl
tail-apart size p (q ∷ ps) apart = (and_parts (not (are_joined size p q)) (are_apart size (q ∷ ps)) apart).1

up_to-apart : (size k : ℕ) (ps : List BranchPiece) → are_apart size ps ≡ true → k < length ps → are_apart size (take k ps ++ get_or ps k [] ∷ []) ≡ true
up_to-apart size zero ps apart low = refl
up_to-apart size (suc k) [] apart low = refl
up_to-apart size (suc k) (p ∷ []) apart low = absurd (omega arith)
up_to-apart size (suc zero) (p ∷ q ∷ ps) apart low =
    and_from (not (are_joined size p q)) true (and_parts (not (are_joined size p q)) (are_apart size (q ∷ ps)) apart).0 refl
up_to-apart size (suc (suc k)) (p ∷ q ∷ ps) apart low =
    let parts = and_parts (not (are_joined size p q)) (are_apart size (q ∷ ps)) apart in
    and_from (not (are_joined size p q)) (are_apart size (q ∷ (take k ps ++ get_or ps k [] ∷ []))) parts.0 (up_to-apart size (suc k) (q ∷ ps) parts.1 (omega arith))

from_on-apart : (size k : ℕ) (ps : List BranchPiece) → are_apart size ps ≡ true → are_apart size (get_or ps k [] ∷ drop (suc k) ps) ≡ true
from_on-apart size zero [] apart = refl
from_on-apart size (suc k) [] apart = refl
from_on-apart size zero (p ∷ ps) apart = apart
from_on-apart size (suc k) (p ∷ ps) apart = from_on-apart size k ps (tail-apart size p ps apart)

-- a piece that is there isn't empty
pub got-full : (k : ℕ) (ps : List BranchPiece) → none_empty ps ≡ true → k < length ps → get_or ps k [] ≡ [] → ⊥
got-full k [] full low none = absurd (omega arith)
got-full (suc k) (p ∷ ps) full low none = got-full k ps (and_parts (has_element p) (none_empty ps) full).1 (omega arith) none
got-full zero (p ∷ ps) full low none =
    let some : 0 < length p = ltb-true 0 (length p) (and_parts (has_element p) (none_empty ps) full).0 in
    let long = ap length none in
    absurd (omega arith)

-- The pieces beside a run from one piece to another are apart where all are.
pub apart-sides : (size k t : ℕ) (ps : List BranchPiece) → are_apart size ps ≡ true → k < length ps
    → AreApartSides size (take (k - 1) ps) (piece_before ps k) (get_or ps (suc t) []) (drop (suc (suc t)) ps)
apart-sides size k t ps apart low = record { left = left k low; right = from_on-apart size (suc t) ps apart }
  where
    left : (k : ℕ) → k < length ps → are_apart size (take (k - 1) ps ++ piece_before ps k ∷ []) ≡ true
    left zero low = refl
    left (suc k) low =
        let less : suc k - 1 ≡ k = omega arith in
        ap (λ (n : ℕ). are_apart size (take n ps ++ get_or ps k [] ∷ [])) less ∙ up_to-apart size k ps apart (omega arith)

-- What is there, where none is empty, and where there is one piece.
sides-full : (k t : ℕ) (ps : List BranchPiece) → none_empty ps ≡ true → k < length ps
    → AreSides (take (k - 1) ps) (piece_before ps k) (get_or ps (suc t) []) (drop (suc (suc t)) ps)
sides-full k t ps full low = record {
  left_full = taken-full (k - 1) ps full;
  right_full = dropped-full (suc (suc t)) ps full;
  left_end = left_none k low;
  right_end = λ none. elim (cases_Bool (nat_lt (suc t) (length ps))) [
    | inl there ↦ absurd (got-full (suc t) ps full (ltb-true (suc t) (length ps) there) none)
    | inr past ↦ (let most = ltb-false (suc t) (length ps) past in drop_all (suc (suc t)) ps (omega arith))
  ];
}
  where
    left_none : (k : ℕ) → k < length ps → piece_before ps k ≡ [] → take (k - 1) ps ≡ []
    left_none zero low none = refl
    left_none (suc k) low none = absurd (got-full k ps full (omega arith) none)

sides-single : (k t : ℕ) (p : BranchPiece) → k < 1
    → AreSides (take (k - 1) (p ∷ [])) (piece_before (p ∷ []) k) (get_or (p ∷ []) (suc t) []) (drop (suc (suc t)) (p ∷ []))
sides-single (suc k) t p low = absurd (omega arith)
sides-single zero t p low =
    let none_left : List BranchPiece = [] in
    let nothing : drop (suc t) none_left ≡ none_left = drop_all (suc t) none_left (omega arith) in record {
      left_full = refl;
      right_full = ap none_empty nothing;
      left_end = λ none. refl;
      right_end = λ none. nothing;
    }

-- Where there are several none is empty.
pub many-full : (ps : List BranchPiece) → is_full ps ≡ true → 1 < length ps → none_empty ps ≡ true
many-full ps full several = elim (cases_Bool (length ps == 1)) [
  | inl one ↦ (let is = eqb-true (length ps) 1 one in absurd (omega arith))
  | inr more ↦ ap (λ (b : Bool). b || none_empty ps) (sym more) ∙ full
]

pub sides : (k t : ℕ) (ps : List BranchPiece) → is_full ps ≡ true → k < length ps
    → AreSides (take (k - 1) ps) (piece_before ps k) (get_or ps (suc t) []) (drop (suc (suc t)) ps)
sides k t [] full low = absurd (omega arith)
sides k t (p ∷ []) full low = sides-single k t p low
sides k t (p ∷ q ∷ ps) full low = sides-full k t (p ∷ q ∷ ps) (many-full (p ∷ q ∷ ps) full (omega arith)) low

-- The pieces that an edit replaces, and those that come in their place: all others stay.
use Rattle.std.proofs.Common.{◌≡◌, ℕ, Bool, true, false, not, ◌&&◌, zero, suc, ◌+◌, ◌-◌, ◌<◌, ◌≤◌, ◌==◌, nat_lt, if◌then◌else◌, List, [], ◌∷◌, ◌++◌, length, take, drop, map, get_or, refl, sym, ap, ap₂, ◌∙◌, inl, inr, append_assoc, length-append, length-drop, ltb-true, ltb-false, take_at, drop_at, arith}
use Rattle.std.proofs.lemmas.Bool.{cases_Bool, cond-true, cond-false, and_parts, and_from, lt-ltb, eqb-true, eq-eqb, ne_eqb}
use Rattle.std.proofs.lemmas.List.{append-nil, length-take-le, drop_all, get_or_past}
use Rattle.std.specs.List.{splice}
use Rattle.geos_model.specs.Pieces.{BranchPiece, join_room, are_joined, fits_branch, all_fit}
use Rattle.geos_model.specs.Spread.{end_place, first_place, middle, piece_before, left_piece, right_piece, with_first, with_last, around, respread, if_none}
use Rattle.geos_model.specs.JoinedPieces.{window_of}
use Rattle.geos_model.specs.LargeWindow.{left_joins, right_joins, window_first, window_end, window_pieces}
use Rattle.geos_model.proofs.SpreadFits.{joined-fits}
use Rattle.geos_model.proofs.SpreadSides.{is_full, whole, got-full, many-full, sides}
use Rattle.geos_model.proofs.SpreadPlaces.{first-end}
use Rattle.geos_model.proofs.SpreadStays.{begins}
use Rattle.geos_model.proofs.SpreadCount.{ends}

-- there is such a piece
abbrev pub there : BranchPiece → Bool
there [] = false
there (y ∷ ys) = true

-- a neighbour where it isn't joined
abbrev unjoined : Bool → BranchPiece → List BranchPiece
unjoined joins [] = []
unjoined true (y ∷ ys) = []
unjoined false (y ∷ ys) = (y ∷ ys) ∷ []

abbrev pub last : List BranchPiece → BranchPiece
last ps = get_or ps (length ps - 1) []

abbrev pub joins_right : ℕ → BranchPiece → List BranchPiece → BranchPiece → Bool
joins_right size l mid r =
    there r && nat_lt 0 (length (with_first size l mid)) && are_joined size (last (with_first size l mid)) r

abbrev pub joins_left : ℕ → BranchPiece → List BranchPiece → BranchPiece → Bool
joins_left size l mid r =
    there l && (if length mid == 0 then joins_right size l mid r else are_joined size l (get_or mid 0 []))

-- pieces with one behind them where it is joined
abbrev with_right_piece : ℕ → Bool → List BranchPiece → BranchPiece → List BranchPiece
with_right_piece size joins ps r = if joins then with_last size join_room ps r else ps

-- The last piece, and the one behind it, where they aren't joined.
record CutRight (size : ℕ) (y : BranchPiece) (ys : List BranchPiece) (r : BranchPiece) : Type 0 where
  rest : List BranchPiece
  is : with_last size join_room (y ∷ ys) r ≡ rest ++ unjoined (there r && are_joined size (last (y ∷ ys)) r) r
  few : length rest ≤ suc (length ys)
  fit : all_fit size (y ∷ ys) ≡ true → all_fit size rest ≡ true
  made : rest ≡ with_right_piece size (there r && are_joined size (last (y ∷ ys)) r) (y ∷ ys) r

pub last-next : (y next : BranchPiece) (ys : List BranchPiece) → last (y ∷ next ∷ ys) ≡ last (next ∷ ys)
last-next y next ys =
    let less : length (y ∷ next ∷ ys) - 1 ≡ suc (length (next ∷ ys) - 1) = omega arith in
    ap (λ (k : ℕ). get_or (y ∷ next ∷ ys) k []) less

cut_right : (size : ℕ) (y : BranchPiece) (ys : List BranchPiece) (r : BranchPiece) → CutRight size y ys r
cut_right size y ys [] = record { rest = y ∷ ys; is = sym (append-nil (y ∷ ys)); few = omega arith; fit = λ all. all; made = refl }
cut_right size y [] (x ∷ xs) =
    let b = are_joined size y (x ∷ xs) in
    elim (cases_Bool b) [
      | inl joined ↦ record {
        rest = (y ++ x ∷ xs) ∷ [];
        is = cond-true b _ _ joined ∙ ap (λ (c : Bool). (y ++ x ∷ xs) ∷ unjoined c (x ∷ xs)) (sym joined);
        few = omega arith;
        fit = λ all. and_from (fits_branch size (y ++ x ∷ xs)) true (joined-fits size y (x ∷ xs) joined) refl;
        made = sym (cond-true b (with_last size join_room (y ∷ []) (x ∷ xs)) (y ∷ []) joined ∙ cond-true b _ _ joined);
      }
      | inr apart ↦ record {
        rest = y ∷ [];
        is = cond-false b _ _ apart ∙ ap (λ (c : Bool). y ∷ unjoined c (x ∷ xs)) (sym apart);
        few = omega arith;
        fit = λ all. all;
        made = sym (cond-false b (with_last size join_room (y ∷ []) (x ∷ xs)) (y ∷ []) apart);
      }
    ]
cut_right size y (next ∷ ys) (x ∷ xs) =
    let more = cut_right size next ys (x ∷ xs) in record {
      rest = y ∷ more.rest;
      is =
          ap (λ (ps : List BranchPiece). y ∷ ps) more.is
          ∙ ap (λ (p : BranchPiece). y ∷ (more.rest ++ unjoined (are_joined size p (x ∷ xs)) (x ∷ xs))) (sym (last-next y next ys));
      few = (let rest = more.few in omega arith);
      fit = λ all.
          let parts = and_parts (fits_branch size y) (all_fit size (next ∷ ys)) all in
          and_from (fits_branch size y) (all_fit size more.rest) parts.0 (more.fit parts.1);
      made =
          ap (λ (ps : List BranchPiece). y ∷ ps) more.made
          ∙ onwards size y next ys x xs (are_joined size (last (next ∷ ys)) (x ∷ xs))
          ∙ ap (λ (p : BranchPiece). with_right_piece size (are_joined size p (x ∷ xs)) (y ∷ next ∷ ys) (x ∷ xs)) (sym (last-next y next ys));
    }
  where
    onwards : (size : ℕ) (y next : BranchPiece) (ys : List BranchPiece) (x : List ℕ) (xs : BranchPiece) (joins : Bool)
        → y ∷ with_right_piece size joins (next ∷ ys) (x ∷ xs) ≡ with_right_piece size joins (y ∷ next ∷ ys) (x ∷ xs)
    onwards size y next ys x xs true = refl
    onwards size y next ys x xs false = refl

-- Both neighbours, where they aren't joined.
record Cut (size : ℕ) (l : BranchPiece) (mid : List BranchPiece) (r : BranchPiece) : Type 0 where
  pub rest : List BranchPiece
  pub is : if_none (whole size l mid r) ≡ unjoined (joins_left size l mid r) l ++ (rest ++ unjoined (joins_right size l mid r) r)
  pub few : length rest ≤ suc (length mid)
  pub fit : all_fit size mid ≡ true → all_fit size rest ≡ true
  pub made : rest ≡ window_of size (joins_left size l mid r) l mid (joins_right size l mid r) r (not (there l) && not (there r))

-- what is joined to the right, where there is a piece
pub joins_right-some : (size : ℕ) (l : BranchPiece) (mid : List BranchPiece) (r y : BranchPiece) (ys : List BranchPiece) → with_first size l mid ≡ y ∷ ys
    → joins_right size l mid r ≡ (there r && are_joined size (last (y ∷ ys)) r)
joins_right-some size l mid r y ys is =
    ap (λ (ps : List BranchPiece). there r && nat_lt 0 (length ps) && are_joined size (last ps) r) is
    ∙ short (there r) (nat_lt 0 (length (y ∷ ys))) (are_joined size (last (y ∷ ys)) r) (lt-ltb 0 (length (y ∷ ys)) (omega arith))
  where
    short : (a b c : Bool) → b ≡ true → (a && b && c) ≡ (a && c)
    short true b c is = ap (λ (x : Bool). x && c) is
    short false b c is = refl

-- and to the left, where there is one
pub joins_left-some : (size : ℕ) (z : List ℕ) (zs m : BranchPiece) (ms : List BranchPiece) (r : BranchPiece)
    → joins_left size (z ∷ zs) (m ∷ ms) r ≡ are_joined size (z ∷ zs) m
joins_left-some size z zs m ms r = elim (cases_Bool (length (m ∷ ms) == 0)) [
  | inl none ↦ (let is = eqb-true (length (m ∷ ms)) 0 none in absurd (omega arith))
  | inr some ↦ cond-false (length (m ∷ ms) == 0) _ _ some
]

if_none-begun : (size : ℕ) (y : BranchPiece) (ys : List BranchPiece) (r : BranchPiece) → if_none (with_last size join_room (y ∷ ys) r) ≡ with_last size join_room (y ∷ ys) r
if_none-begun size y ys [] = refl
if_none-begun size y (next ∷ ys) (x ∷ xs) = refl
if_none-begun size y [] (x ∷ xs) =
    let b = are_joined size y (x ∷ xs) in
    elim (cases_Bool b) [
      | inl joined ↦ ap if_none (cond-true b _ _ joined) ∙ sym (cond-true b _ _ joined)
      | inr apart ↦ ap if_none (cond-false b _ _ apart) ∙ sym (cond-false b _ _ apart)
    ]

-- from a first piece on
cut_begun : (size : ℕ) (l : BranchPiece) (mid : List BranchPiece) (r y : BranchPiece) (ys : List BranchPiece) → with_first size l mid ≡ y ∷ ys
    → (rest : List BranchPiece) × (if_none (whole size l mid r) ≡ rest ++ unjoined (joins_right size l mid r) r) × (length rest ≤ suc (length ys))
    × (all_fit size (y ∷ ys) ≡ true → all_fit size rest ≡ true)
    × (rest ≡ with_right_piece size (joins_right size l mid r) (with_first size l mid) r)
cut_begun size l mid r y ys is =
    let right = cut_right size y ys r in (
      right.rest,
      ap (λ (ps : List BranchPiece). if_none (with_last size join_room ps r)) is ∙ if_none-begun size y ys r ∙ right.is
          ∙ ap (λ (b : Bool). right.rest ++ unjoined b r) (sym (joins_right-some size l mid r y ys is)),
      right.few,
      right.fit,
      right.made ∙ ap₂ (λ (b : Bool) (ps : List BranchPiece). with_right_piece size b ps r) (sym (joins_right-some size l mid r y ys is)) (sym is),
    )

-- where there is a piece no other comes
still : (size : ℕ) (m : BranchPiece) (ms : List BranchPiece) (r : BranchPiece) (alone joins : Bool)
    → (if alone then if_none (with_right_piece size joins (m ∷ ms) r) else with_right_piece size joins (m ∷ ms) r) ≡ with_right_piece size joins (m ∷ ms) r
still size m ms r false joins = refl
still size m ms r true true = if_none-begun size m ms r
still size m ms r true false = refl

cut : (size : ℕ) (l : BranchPiece) (mid : List BranchPiece) (r : BranchPiece) → Cut size l mid r
cut size [] [] [] = record { rest = [] ∷ []; is = refl; few = omega arith; fit = λ all. refl; made = refl }
cut size [] [] (x ∷ xs) = record { rest = []; is = refl; few = omega arith; fit = λ all. refl; made = refl }
cut size [] (m ∷ ms) r = (let right = cut_begun size [] (m ∷ ms) r m ms refl in let most = right.2 in record {
  rest = right.0;
  is = right.1;
  few = omega arith;
  fit = right.3;
  made = right.4 ∙ sym (still size m ms r (not (there r)) (joins_right size [] (m ∷ ms) r));
})
cut size (z ∷ zs) [] [] = record { rest = []; is = refl; few = omega arith; fit = λ all. refl; made = refl }
cut size (z ∷ zs) [] (x ∷ xs) =
    let b = are_joined size (z ∷ zs) (x ∷ xs) in
    elim (cases_Bool b) [
      | inl joined ↦ record {
        rest = ((z ∷ zs) ++ x ∷ xs) ∷ [];
        is = ap if_none (cond-true b _ _ joined) ∙ ap (λ (c : Bool). unjoined c (z ∷ zs) ++ (((z ∷ zs) ++ x ∷ xs) ∷ unjoined c (x ∷ xs))) (sym joined);
        few = omega arith;
        fit = λ all. and_from (fits_branch size ((z ∷ zs) ++ x ∷ xs)) true (joined-fits size (z ∷ zs) (x ∷ xs) joined) refl;
        made = sym (cond-true b _ _ joined) ∙ ap (λ (c : Bool). window_of size c (z ∷ zs) [] c (x ∷ xs) false) (sym joined);
      }
      | inr apart ↦ record {
        rest = [];
        is = ap if_none (cond-false b _ _ apart) ∙ ap (λ (c : Bool). unjoined c (z ∷ zs) ++ unjoined c (x ∷ xs)) (sym apart);
        few = omega arith;
        fit = λ all. refl;
        made = ap (λ (c : Bool). window_of size c (z ∷ zs) [] c (x ∷ xs) false) (sym apart);
      }
    ]
cut size (z ∷ zs) (m ∷ ms) r =
    let l : BranchPiece = z ∷ zs in
    let b = are_joined size l m in
    let left : joins_left size l (m ∷ ms) r ≡ b = joins_left-some size z zs m ms r in
    elim (cases_Bool b) [
      | inl joined ↦
          (let right = cut_begun size l (m ∷ ms) r (l ++ m) ms (cond-true b _ _ joined) in record {
            rest = right.0;
            is = right.1 ∙ ap (λ (c : Bool). unjoined c l ++ (right.0 ++ unjoined (joins_right size l (m ∷ ms) r) r)) (sym (left ∙ joined));
            few = (let most = right.2 in omega arith);
            fit = λ all.
                right.3 (and_from (fits_branch size (l ++ m)) (all_fit size ms) (joined-fits size l m joined) (and_parts (fits_branch size m) (all_fit size ms) all).1);
            made = right.4 ∙ ap (λ (c : Bool). window_of size c l (m ∷ ms) (joins_right size l (m ∷ ms) r) r false) (sym (left ∙ joined));
          })
      | inr apart ↦
          (let begun : with_first size l (m ∷ ms) ≡ l ∷ m ∷ ms = cond-false b _ _ apart in
          let right = cut_right size m ms r in
          let test : joins_right size l (m ∷ ms) r ≡ (there r && are_joined size (last (m ∷ ms)) r) =
          joins_right-some size l (m ∷ ms) r l (m ∷ ms) begun ∙ ap (λ (p : BranchPiece). there r && are_joined size p r) (last-next l m ms) in
          record {
            rest = right.rest;
            is =
                ap (λ (ps : List BranchPiece). if_none (with_last size join_room ps r)) begun ∙ if_none-begun size l (m ∷ ms) r
                ∙ under size l m ms r ∙ ap (λ (ps : List BranchPiece). l ∷ ps) right.is
                ∙ ap₂ (λ (c e : Bool). unjoined c l ++ (right.rest ++ unjoined e r)) (sym (left ∙ apart)) (sym test);
            few = (let most = right.few in omega arith);
            fit = right.fit;
            made = right.made ∙ ap₂ (λ (c e : Bool). window_of size c l (m ∷ ms) e r false) (sym (left ∙ apart)) (sym test);
          })
    ]
  where
    under : (size : ℕ) (l m : BranchPiece) (ms : List BranchPiece) (r : BranchPiece) → with_last size join_room (l ∷ m ∷ ms) r ≡ l ∷ with_last size join_room (m ∷ ms) r
    under size l m ms [] = refl
    under size l m ms (x ∷ xs) = refl

-- The pieces of a run and its neighbours, in their places.

up_to : (k : ℕ) (ps : List BranchPiece) → k < length ps → take k ps ++ get_or ps k [] ∷ [] ≡ take (suc k) ps
up_to k [] low = absurd (omega arith)
up_to zero (p ∷ ps) low = refl
up_to (suc k) (p ∷ ps) low = ap (λ (qs : List BranchPiece). p ∷ qs) (up_to k ps (omega arith))

from_on : (k : ℕ) (ps : List BranchPiece) → k < length ps → get_or ps k [] ∷ drop (suc k) ps ≡ drop k ps
from_on k [] low = absurd (omega arith)
from_on zero (p ∷ ps) low = refl
from_on (suc k) (p ∷ ps) low = from_on k ps (omega arith)

abbrev one_or_none : Bool → ℕ
one_or_none b = if b then 1 else 0

abbrev two_or_one : Bool → ℕ
two_or_one b = if b then 2 else 1

-- what stands up to the window
left-part : (k : ℕ) (ps : List BranchPiece) (b : Bool) → k < length ps → (piece_before ps k ≡ [] → take (k - 1) ps ≡ []) → (there (piece_before ps k) ≡ false → k ≡ 0)
    → take (k - 1) ps ++ unjoined b (piece_before ps k) ≡ take (k - one_or_none b) ps
left-part zero ps true low none first = refl
left-part zero ps false low none first = refl
left-part (suc k) ps b low none first = by_piece (get_or ps k []) refl b
  where
    less : suc k - 1 ≡ k
    less = omega arith

    all : suc k ≡ suc k - 0
    all = omega arith

    by_piece : (l : BranchPiece) → get_or ps k [] ≡ l → (b : Bool) → take (suc k - 1) ps ++ unjoined b l ≡ take (suc k - one_or_none b) ps
    by_piece [] is b = absurd (let never : suc k ≡ 0 = first (ap there is) in omega arith)
    by_piece (y ∷ ys) is true = append-nil (take (suc k - 1) ps)
    by_piece (y ∷ ys) is false =
        ap (λ (n : ℕ). take n ps ++ (y ∷ ys) ∷ []) less ∙ ap (λ (l : BranchPiece). take k ps ++ l ∷ []) (sym is) ∙ up_to k ps (omega arith)
        ∙ ap (λ (n : ℕ). take n ps) all

-- and from it on
right-part : (t : ℕ) (ps : List BranchPiece) (b : Bool) → (there (get_or ps (suc t) []) ≡ false → length ps ≤ suc t) → (there (get_or ps (suc t) []) ≡ true → suc t < length ps)
    → unjoined b (get_or ps (suc t) []) ++ drop (suc (suc t)) ps ≡ drop (t + two_or_one b) ps
right-part t ps b past within = by_piece (get_or ps (suc t) []) refl b
  where
    one : t + 1 ≡ suc t
    one = omega arith

    two : t + 2 ≡ suc (suc t)
    two = omega arith

    by_piece : (r : BranchPiece) → get_or ps (suc t) [] ≡ r → (b : Bool) → unjoined b r ++ drop (suc (suc t)) ps ≡ drop (t + two_or_one b) ps
    by_piece [] is true = ap (λ (n : ℕ). drop n ps) (sym two)
    by_piece [] is false =
        let most = past (ap there is) in
        drop_all (suc (suc t)) ps (omega arith) ∙ sym (drop_all (t + 1) ps (omega arith))
    by_piece (y ∷ ys) is true = ap (λ (n : ℕ). drop n ps) (sym two)
    by_piece (y ∷ ys) is false =
        ap (λ (r : BranchPiece). r ∷ drop (suc (suc t)) ps) (sym is) ∙ from_on (suc t) ps (within (ap there is)) ∙ ap (λ (n : ℕ). drop n ps) (sym one)

-- A neighbour is there where its place is one of the pieces.
piece_there : (k : ℕ) (ps : List BranchPiece) → is_full ps ≡ true → 1 < length ps → k < length ps → there (get_or ps k []) ≡ true
piece_there k ps full several low = by_piece (get_or ps k []) (got-full k ps (many-full ps full several) low)
  where
    by_piece : (p : BranchPiece) → (p ≡ [] → ⊥) → there p ≡ true
    by_piece [] some = absurd (some refl)
    by_piece (y ∷ ys) some = refl

pub there-right : (t : ℕ) (ps : List BranchPiece) → is_full ps ≡ true → nat_lt (t + 1) (length ps) ≡ there (get_or ps (suc t) [])
there-right t ps full = elim (cases_Bool (nat_lt (t + 1) (length ps))) [
  | inl within ↦ (let low = ltb-true (t + 1) (length ps) within in within ∙ sym (piece_there (suc t) ps full (omega arith) (omega arith)))
  | inr past ↦ (let most = ltb-false (t + 1) (length ps) past in past ∙ sym (ap there (get_or_past ps (suc t) [] (omega arith))))
]

pub there-left : (k : ℕ) (ps : List BranchPiece) → is_full ps ≡ true → k < length ps → nat_lt 0 k ≡ there (piece_before ps k)
there-left zero ps full low = refl
there-left (suc k) ps full low = lt-ltb 0 (suc k) (omega arith) ∙ sym (piece_there k ps full (omega arith) (omega arith))

-- All pieces after an edit are those before the window, those in its place, and those behind it.
pub record IsWindow (size : ℕ) (ps : List BranchPiece) (i j : ℕ) (new : BranchPiece) : Type 0 where
  pub order : window_first size ps i j new < window_end size ps i j new
  pub within : window_end size ps i j new ≤ length ps
  pub is : respread size ps i j new ≡ splice ps (window_first size ps i j new) (window_end size ps i j new) (window_pieces size ps i j new)
  pub few : length (window_pieces size ps i j new) ≤ suc (length (middle size ps i j new))
  pub fit : all_fit size (middle size ps i j new) ≡ true → all_fit size (window_pieces size ps i j new) ≡ true
  pub made : window_pieces size ps i j new
      ≡ window_of size (left_joins size ps i j new) (left_piece ps i j) (middle size ps i j new) (right_joins size ps i j new) (right_piece ps j)
      (((first_place (map length ps) i j).0 == 0) && ((end_place (map length ps) j).0 + 1 == length ps))

module _ (size : ℕ) (ps : List BranchPiece) (i j : ℕ) (new : BranchPiece) (some : 0 < length ps) (full : is_full ps ≡ true) (order : i ≤ j) where
  abbrev f : ℕ
  f = (first_place (map length ps) i j).0

  abbrev t : ℕ
  t = (end_place (map length ps) j).0

  abbrev l : BranchPiece
  l = left_piece ps i j

  abbrev r : BranchPiece
  r = right_piece ps j

  abbrev mid : List BranchPiece
  mid = middle size ps i j new

  pub right_is : right_joins size ps i j new ≡ joins_right size l mid r
  right_is = ap (λ (b : Bool). b && nat_lt 0 (length (with_first size l mid)) && are_joined size (last (with_first size l mid)) r) (there-right t ps full)

  pub left_is : left_joins size ps i j new ≡ joins_left size l mid r
  left_is =
      ap₂ (λ (b c : Bool). b && (if length mid == 0 then c else are_joined size l (get_or mid 0 []))) (there-left f ps full (begins ps i j some)) right_is

  abbrev lj : Bool
  lj = left_joins size ps i j new

  abbrev rj : Bool
  rj = right_joins size ps i j new

  parts : Cut size l mid r
  parts = cut size l mid r

  -- the three parts
  abbrev fore : List BranchPiece
  fore = take (window_first size ps i j new) ps

  abbrev aft : List BranchPiece
  aft = drop (window_end size ps i j new) ps

  run : f ≤ t
  run = first-end (map length ps) i j order

  low : t < length ps
  low = ends ps j some

  fore_is : take (f - 1) ps ++ unjoined lj l ≡ fore
  fore_is =
      left-part f ps lj (begins ps i j some) (sides f t ps full (begins ps i j some)).left_end
      (λ none. (let zero_is = ltb-false 0 f (there-left f ps full (begins ps i j some) ∙ none) in omega arith))

  aft_is : unjoined rj r ++ drop (suc (suc t)) ps ≡ aft
  aft_is =
      right-part t ps rj (λ none. (let most = ltb-false (t + 1) (length ps) (there-right t ps full ∙ none) in omega arith))
      (λ is. (let less = ltb-true (t + 1) (length ps) (there-right t ps full ∙ is) in omega arith))

  respread_is : respread size ps i j new ≡ fore ++ (parts.rest ++ aft)
  unfolding respread
  respread_is =
      let before : List BranchPiece = take (f - 1) ps in
      let behind : List BranchPiece = drop (suc (suc t)) ps in
      let here : List BranchPiece = around size ps i j new in
      let mid_is : here ≡ unjoined lj l ++ (parts.rest ++ unjoined rj r) =
      parts.is ∙ ap₂ (λ (b c : Bool). unjoined b l ++ (parts.rest ++ unjoined c r)) (sym left_is) (sym right_is) in
      append_assoc before here behind
      ∙ ap (λ (qs : List BranchPiece). before ++ (qs ++ behind)) mid_is
      ∙ ap (λ (qs : List BranchPiece). before ++ qs) (append_assoc (unjoined lj l) (parts.rest ++ unjoined rj r) behind ∙ ap (λ (qs : List BranchPiece). unjoined lj l ++ qs) (append_assoc parts.rest (unjoined rj r) behind))
      ∙ sym (append_assoc before (unjoined lj l) (parts.rest ++ (unjoined rj r ++ behind)))
      ∙ ap₂ (λ (xs zs : List BranchPiece). xs ++ (parts.rest ++ zs)) fore_is aft_is

  alone_is : (not (there l) && not (there r)) ≡ ((f == 0) && (t + 1 == length ps))
  alone_is = ap₂ (λ (a b : Bool). a && b) (ap not (sym (there-left f ps full (begins ps i j some))) ∙ none f) (ap not (sym (there-right t ps full)) ∙ past)
    where
      none : (n : ℕ) → not (nat_lt 0 n) ≡ (n == 0)
      none zero = refl
      none (suc n) = ap not (lt-ltb 0 (suc n) (omega arith)) ∙ sym (ne_eqb (suc n) 0 (λ same. omega arith))

      past : not (nat_lt (t + 1) (length ps)) ≡ (t + 1 == length ps)
      past = elim (cases_Bool (nat_lt (t + 1) (length ps))) [
        | inl less ↦ (let within = ltb-true (t + 1) (length ps) less in ap not less ∙ sym (ne_eqb (t + 1) (length ps) (λ same. omega arith)))
        | inr more ↦ (let most = ltb-false (t + 1) (length ps) more in let within = low in ap not more ∙ sym (eq-eqb (t + 1) (length ps) (omega arith)))
      ]

  one_at_most : (b : Bool) → one_or_none b ≤ 1
  one_at_most true = omega arith
  one_at_most false = omega arith

  behind_run : (b : Bool) → t < t + two_or_one b
  behind_run true = omega arith
  behind_run false = omega arith

  end_within : (b : Bool) → rj ≡ b → t + two_or_one b ≤ length ps
  end_within true is =
      let parts = and_parts (nat_lt (t + 1) (length ps) && nat_lt 0 (length (with_first size l mid))) (are_joined size (last (with_first size l mid)) r) is in
      let less = ltb-true (t + 1) (length ps) (and_parts (nat_lt (t + 1) (length ps)) (nat_lt 0 (length (with_first size l mid))) parts.0).0 in
      omega arith
  end_within false is = (let less = low in omega arith)

  pub window-is : IsWindow size ps i j new
  window-is =
      let first : ℕ = window_first size ps i j new in
      let end : ℕ = window_end size ps i j new in
      let upto = run in
      let behind = behind_run rj in
      let within = end_within rj refl in
      let after : List BranchPiece = respread size ps i j new in
      let front : length fore ≡ first = length-take-le first ps (omega arith) in
      let back : length aft ≡ length ps - end = length-drop end ps in
      let inner = length-append parts.rest aft in
      let outer = length-append fore (parts.rest ++ aft) in
      let long : length after ≡ length fore + (length parts.rest + length aft) = ap length respread_is ∙ outer ∙ ap (λ (n : ℕ). length fore + n) inner in
      let count : length after - (length ps - end + first) ≡ length parts.rest = omega arith in
      let placed : window_pieces size ps i j new ≡ parts.rest =
      ap₂ (λ (n : ℕ) (qs : List BranchPiece). take n qs) count (ap (drop first) respread_is ∙ drop_at fore (parts.rest ++ aft) first front)
      ∙ take_at parts.rest aft (length parts.rest) refl in
      record {
        order = omega arith;
        within = within;
        is = respread_is ∙ ap (λ (qs : List BranchPiece). fore ++ (qs ++ aft)) (sym placed);
        few = (let most = parts.few in let same = ap length placed in omega arith);
        fit = λ all. ap (all_fit size) placed ∙ parts.fit all;
        made =
            placed ∙ parts.made
            ∙ ap₂ (λ (b c : Bool). window_of size b l mid c r (not (there l) && not (there r))) (sym left_is) (sym right_is)
            ∙ ap (λ (alone : Bool). window_of size lj l mid rj r alone) alone_is;
      }

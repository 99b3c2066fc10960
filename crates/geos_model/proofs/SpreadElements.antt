-- The elements of a large array after an edit are those of the list's edit.
use Rattle.std.proofs.Common.{◌≡◌, ℕ, zero, suc, ◌+◌, ◌-◌, ◌<◌, ◌≤◌, if◌then◌else◌, nat_le, nat_lt, ◌==◌, List, [], ◌∷◌, ◌++◌, length, take, drop, map, get_or, refl, sym, ap, ◌∙◌, inl, inr, append_assoc, leb-true, leb-false, ltb-true, ltb-false, arith}
use Rattle.std.proofs.lemmas.Bool.{cases_Bool, cond-true, cond-false}
use Rattle.std.proofs.lemmas.List.{append-nil, take-append-le, drop-append-le}
use Rattle.std.proofs.lemmas.Grind.{flat_map-append}
use Rattle.std.proofs.Math.Seq.{take-append-add, drop-append-add}
use Rattle.std.proofs.Math.Nat.{add-sub_of_le}
use Rattle.std.specs.List.{splice}
use Rattle.geos_model.specs.Pieces.{BranchPiece, branch_room, join_room, piece_weight, are_joined, elements_in_pieces}
use Rattle.geos_model.specs.Spread.{start_place, end_place, first_place, middle, piece_before, left_piece, right_piece, around, respread, packed_from, with_last, with_first, if_none}

-- Packing keeps elements.
packed-elements : (size : ℕ) (y xs : BranchPiece) → elements_in_pieces (packed_from size y xs) ≡ y ++ xs
packed-elements size [] [] = refl
packed-elements size (y ∷ ys) [] = refl
packed-elements size [] (x ∷ xs) = packed-elements size (x ∷ []) xs
packed-elements size (y ∷ ys) (x ∷ xs) =
    let b = nat_le (piece_weight size ((y ∷ ys) ++ x ∷ [])) branch_room in
    elim (cases_Bool b) [
      | inl fits ↦ ap elements_in_pieces (cond-true b _ _ fits) ∙ packed-elements size ((y ∷ ys) ++ x ∷ []) xs ∙ append_assoc (y ∷ ys) (x ∷ []) xs
      | inr not_fits ↦ ap elements_in_pieces (cond-false b _ _ not_fits) ∙ ap (λ (zs : BranchPiece). (y ∷ ys) ++ zs) (packed-elements size (x ∷ []) xs)
    ]

with_last-elements : (size room : ℕ) (ps : List BranchPiece) (y : BranchPiece) → elements_in_pieces (with_last size room ps y) ≡ elements_in_pieces ps ++ y
with_last-elements size room ps [] = sym (append-nil (elements_in_pieces ps))
with_last-elements size room [] (y ∷ ys) = append-nil (y ∷ ys)
with_last-elements size room (x ∷ []) (y ∷ ys) =
    let b = nat_le (piece_weight size x + piece_weight size (y ∷ ys)) room in
    elim (cases_Bool b) [
      | inl fits ↦ ap elements_in_pieces (cond-true b _ _ fits) ∙ append-nil (x ++ y ∷ ys) ∙ ap (λ (zs : BranchPiece). zs ++ y ∷ ys) (sym (append-nil x))
      | inr not_fits ↦ ap elements_in_pieces (cond-false b _ _ not_fits) ∙ ap (λ (zs : BranchPiece). x ++ zs) (append-nil (y ∷ ys)) ∙ ap (λ (zs : BranchPiece). zs ++ y ∷ ys) (sym (append-nil x))
    ]
with_last-elements size room (x ∷ next ∷ ps) (y ∷ ys) =
    ap (λ (zs : BranchPiece). x ++ zs) (with_last-elements size room (next ∷ ps) (y ∷ ys)) ∙ sym (append_assoc x (elements_in_pieces (next ∷ ps)) (y ∷ ys))

with_first-elements : (size : ℕ) (y : BranchPiece) (ps : List BranchPiece) → elements_in_pieces (with_first size y ps) ≡ y ++ elements_in_pieces ps
with_first-elements size [] ps = refl
with_first-elements size (y ∷ ys) [] = refl
with_first-elements size (y ∷ ys) (x ∷ ps) =
    let b = are_joined size (y ∷ ys) x in
    elim (cases_Bool b) [
      | inl joined ↦ ap elements_in_pieces (cond-true b _ _ joined) ∙ append_assoc (y ∷ ys) x (elements_in_pieces ps)
      | inr not_joined ↦ ap elements_in_pieces (cond-false b _ _ not_joined)
    ]

if_none-elements : (ps : List BranchPiece) → elements_in_pieces (if_none ps) ≡ elements_in_pieces ps
if_none-elements [] = refl
if_none-elements (p ∷ ps) = refl

-- Where elements are cut.

pub take_past : (p rest : BranchPiece) (i : ℕ) → length p ≤ i → take i (p ++ rest) ≡ p ++ take (i - length p) rest
take_past p rest i past = ap (λ (n : ℕ). take n (p ++ rest)) (sym (add-sub_of_le past)) ∙ take-append-add p rest (i - length p)

pub drop_past : (p rest : BranchPiece) (i : ℕ) → length p ≤ i → drop i (p ++ rest) ≡ drop (i - length p) rest
drop_past p rest i past = ap (λ (n : ℕ). drop n (p ++ rest)) (sym (add-sub_of_le past)) ∙ drop-append-add p rest (i - length p)

-- the elements before a place, and from it on
abbrev before : ℕ × ℕ → List BranchPiece → BranchPiece
before at ps = elements_in_pieces (take at.0 ps) ++ take at.1 (get_or ps at.0 [])

abbrev behind : ℕ × ℕ → List BranchPiece → BranchPiece
behind at ps = drop at.1 (get_or ps at.0 []) ++ elements_in_pieces (drop (suc at.0) ps)

start-before : (ps : List BranchPiece) (i : ℕ) → take i (elements_in_pieces ps) ≡ before (start_place (map length ps) i) ps
start-before [] i = refl
start-before (p ∷ []) i = ap (take i) (append-nil p)
start-before (p ∷ q ∷ ps) i =
    let b = nat_lt i (length p) in
    let at = start_place (map length (q ∷ ps)) (i - length p) in
    let f : ℕ × ℕ → BranchPiece = λ at. before at (p ∷ q ∷ ps) in
    elim (cases_Bool b) [
      | inl within ↦ take-append-le i p (elements_in_pieces (q ∷ ps)) (let lt : i < length p = ltb-true i (length p) within in omega (arith, lt)) ∙ sym (ap f (cond-true b _ _ within))
      | inr past ↦ take_past p (elements_in_pieces (q ∷ ps)) i (ltb-false i (length p) past) ∙ ap (λ (zs : BranchPiece). p ++ zs) (start-before (q ∷ ps) (i - length p))
          ∙ sym (append_assoc p (elements_in_pieces (take at.0 (q ∷ ps))) (take at.1 (get_or (q ∷ ps) at.0 []))) ∙ sym (ap f (cond-false b _ _ past))
    ]

end-before : (ps : List BranchPiece) (i : ℕ) → take i (elements_in_pieces ps) ≡ before (end_place (map length ps) i) ps
end-before [] i = refl
end-before (p ∷ []) i = ap (take i) (append-nil p)
end-before (p ∷ q ∷ ps) i =
    let b = nat_le i (length p) in
    let at = end_place (map length (q ∷ ps)) (i - length p) in
    let f : ℕ × ℕ → BranchPiece = λ at. before at (p ∷ q ∷ ps) in
    elim (cases_Bool b) [
      | inl within ↦ take-append-le i p (elements_in_pieces (q ∷ ps)) (leb-true i (length p) within) ∙ sym (ap f (cond-true b _ _ within))
      | inr past ↦ take_past p (elements_in_pieces (q ∷ ps)) i (let lt : length p < i = leb-false i (length p) past in omega (arith, lt)) ∙ ap (λ (zs : BranchPiece). p ++ zs) (end-before (q ∷ ps) (i - length p))
          ∙ sym (append_assoc p (elements_in_pieces (take at.0 (q ∷ ps))) (take at.1 (get_or (q ∷ ps) at.0 []))) ∙ sym (ap f (cond-false b _ _ past))
    ]

end-behind : (ps : List BranchPiece) (i : ℕ) → drop i (elements_in_pieces ps) ≡ behind (end_place (map length ps) i) ps
end-behind [] i = sym (append-nil (drop i []))
end-behind (p ∷ []) i = ap (drop i) (append-nil p) ∙ sym (append-nil (drop i p))
end-behind (p ∷ q ∷ ps) i =
    let b = nat_le i (length p) in
    let at = end_place (map length (q ∷ ps)) (i - length p) in
    let f : ℕ × ℕ → BranchPiece = λ at. behind at (p ∷ q ∷ ps) in
    elim (cases_Bool b) [
      | inl within ↦ drop-append-le i p (elements_in_pieces (q ∷ ps)) (leb-true i (length p) within) ∙ sym (ap f (cond-true b _ _ within))
      | inr past ↦ drop_past p (elements_in_pieces (q ∷ ps)) i (let lt : length p < i = leb-false i (length p) past in omega (arith, lt)) ∙ end-behind (q ∷ ps) (i - length p)
          ∙ sym (ap f (cond-false b _ _ past))
    ]

-- A run is cut where its first place is, whichever that is.
first-before : (ps : List BranchPiece) (i j : ℕ) → take i (elements_in_pieces ps) ≡ before (first_place (map length ps) i j) ps
first-before ps i j =
    let b = i == j in
    let f : ℕ × ℕ → BranchPiece = λ at. before at ps in
    elim (cases_Bool b) [
      | inl same ↦ end-before ps i ∙ sym (ap f (cond-true b _ _ same))
      | inr other ↦ start-before ps i ∙ sym (ap f (cond-false b _ _ other))
    ]

-- the pieces up to one, and from one on
up_to : (k : ℕ) (ps : List BranchPiece) → elements_in_pieces (take k ps) ++ get_or ps k [] ≡ elements_in_pieces (take (suc k) ps)
up_to zero [] = refl
up_to (suc k) [] = refl
up_to zero (p ∷ ps) = sym (append-nil p)
up_to (suc k) (p ∷ ps) = append_assoc p (elements_in_pieces (take k ps)) (get_or ps k []) ∙ ap (λ (zs : BranchPiece). p ++ zs) (up_to k ps)

from_on : (k : ℕ) (ps : List BranchPiece) → get_or ps k [] ++ elements_in_pieces (drop (suc k) ps) ≡ elements_in_pieces (drop k ps)
from_on zero [] = refl
from_on (suc k) [] = refl
from_on zero (p ∷ ps) = refl
from_on (suc k) (p ∷ ps) = from_on k ps

with_left-before : (k : ℕ) (ps : List BranchPiece) → elements_in_pieces (take (k - 1) ps) ++ piece_before ps k ≡ elements_in_pieces (take k ps)
with_left-before zero ps = refl
with_left-before (suc k) ps =
    let less : suc k - 1 ≡ k = omega arith in
    ap (λ (n : ℕ). elements_in_pieces (take n ps) ++ get_or ps k []) less ∙ up_to k ps

-- what is left of a run's pieces with the new elements
middle-elements : (size : ℕ) (ps : List BranchPiece) (i j : ℕ) (new : BranchPiece)
    → elements_in_pieces (middle size ps i j new)
    ≡ (take (first_place (map length ps) i j).1 (get_or ps (first_place (map length ps) i j).0 []) ++ new)
    ++ drop (end_place (map length ps) j).1 (get_or ps (end_place (map length ps) j).0 [])
middle-elements size ps i j new =
    let from = first_place (map length ps) i j in
    let to = end_place (map length ps) j in
    let kept = take from.1 (get_or ps from.0 []) ++ new in
    let tail = drop to.1 (get_or ps to.0 []) in
    with_last-elements size (if from.0 == to.0 then branch_room else join_room) (packed_from size [] kept) tail
    ∙ ap (λ (zs : BranchPiece). zs ++ tail) (packed-elements size [] kept)

around-elements : (size : ℕ) (ps : List BranchPiece) (i j : ℕ) (new : BranchPiece)
    → elements_in_pieces (around size ps i j new) ≡ (left_piece ps i j ++ elements_in_pieces (middle size ps i j new)) ++ right_piece ps j
around-elements size ps i j new =
    let mid = middle size ps i j new in
    let lefted = with_first size (left_piece ps i j) mid in
    if_none-elements (with_last size join_room lefted (right_piece ps j))
    ∙ with_last-elements size join_room lefted (right_piece ps j)
    ∙ ap (λ (zs : BranchPiece). zs ++ right_piece ps j) (with_first-elements size (left_piece ps i j) mid)

-- seven lists, in whatever brackets
brackets : (a l h n t r c : BranchPiece) → a ++ (((l ++ ((h ++ n) ++ t)) ++ r) ++ c) ≡ ((a ++ l) ++ h) ++ (n ++ (t ++ (r ++ c)))
brackets a l h n t r c =
    ap (λ (zs : BranchPiece). a ++ zs) (append_assoc (l ++ ((h ++ n) ++ t)) r c ∙ append_assoc l ((h ++ n) ++ t) (r ++ c)
    ∙ ap (λ (zs : BranchPiece). l ++ zs) (append_assoc (h ++ n) t (r ++ c) ∙ append_assoc h n (t ++ (r ++ c))))
    ∙ sym (append_assoc a l (h ++ (n ++ (t ++ (r ++ c))))) ∙ sym (append_assoc (a ++ l) h (n ++ (t ++ (r ++ c))))

-- An edit of the pieces is the edit of the list.
pub respread-elements : (size : ℕ) (ps : List BranchPiece) (i j : ℕ) (new : BranchPiece)
    → elements_in_pieces (respread size ps i j new) ≡ splice (elements_in_pieces ps) i j new
unfolding respread
respread-elements size ps i j new =
    let from = first_place (map length ps) i j in
    let to = end_place (map length ps) j in
    let a = elements_in_pieces (take (from.0 - 1) ps) in
    let l = left_piece ps i j in
    let h = take from.1 (get_or ps from.0 []) in
    let t = drop to.1 (get_or ps to.0 []) in
    let r = right_piece ps j in
    let c = elements_in_pieces (drop (suc (suc to.0)) ps) in
    let mid = around size ps i j new in
    let first = take (from.0 - 1) ps in
    let last = drop (suc (suc to.0)) ps in
    let joined : elements_in_pieces ((first ++ mid) ++ last) ≡ a ++ (elements_in_pieces mid ++ c) =
    flat_map-append (λ (p : BranchPiece). p) (first ++ mid) last
    ∙ ap (λ (zs : BranchPiece). zs ++ c) (flat_map-append (λ (p : BranchPiece). p) first mid)
    ∙ append_assoc a (elements_in_pieces mid) c in
    let inner : elements_in_pieces mid ≡ (l ++ ((h ++ new) ++ t)) ++ r =
    around-elements size ps i j new ∙ ap (λ (zs : BranchPiece). (l ++ zs) ++ r) (middle-elements size ps i j new) in
    let head : (a ++ l) ++ h ≡ take i (elements_in_pieces ps) =
    ap (λ (zs : BranchPiece). zs ++ h) (with_left-before from.0 ps) ∙ sym (first-before ps i j) in
    let tail : t ++ (r ++ c) ≡ drop j (elements_in_pieces ps) =
    ap (λ (zs : BranchPiece). t ++ zs) (from_on (suc to.0) ps) ∙ sym (end-behind ps j) in
    joined ∙ ap (λ (zs : BranchPiece). a ++ (zs ++ c)) inner ∙ brackets a l h new t r c
    ∙ ap (λ (zs : BranchPiece). zs ++ (new ++ (t ++ (r ++ c)))) head
    ∙ ap (λ (zs : BranchPiece). take i (elements_in_pieces ps) ++ (new ++ zs)) tail

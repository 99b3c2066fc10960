-- An edit after which all that is left of its run is one piece, which has room for it and isn't joined to a neighbour.
use Rattle.std.proofs.Common.{◌≡◌, ◌⊎◌, ℕ, suc, ◌+◌, ◌-◌, ◌<◌, ◌≤◌, Bool, true, false, ◌&&◌, ◌==◌, nat_lt, if◌then◌else◌, List, [], ◌∷◌, ◌++◌, length, map, take, drop, get_or, refl, sym, ap, ap₂, ◌∙◌, inl, inr, arith, append-nil, leb-true, le-ltb}
use Rattle.std.proofs.lemmas.Bool.{cond-true, cond-false, eq-eqb}
use Rattle.std.specs.List.{range_with_len}
use Rattle.geos_model.specs.Pieces.{BranchPiece, piece_weight, branch_room, join_room, are_joined, fits_branch}
use Rattle.geos_model.specs.Spread.{first_place, end_place, packed_from, with_last, with_first, middle, piece_before, left_piece, right_piece, if_none}
use Rattle.geos_model.specs.LargeWindow.{left_joins, right_joins, looks_left, looks_right, looked_at, window_first, window_end, window_pieces}
use Rattle.geos_model.specs.JoinedPieces.{window_of}
use Rattle.geos_model.proofs.SpreadFits.{weight-append, part-fits}
use Rattle.geos_model.proofs.SpreadSides.{is_full}
use Rattle.large_bodies.proofs.PackingLemmas.{packed-run, packed-last, with_last-joined}
use Rattle.large_arrays.proofs.WindowPieces.{window-pieces-are}

not_empty : (x : List ℕ) (xs : BranchPiece) → x ∷ xs ≡ [] → ⊥
not_empty x xs none = (let long = ap length none in omega arith)

-- What fits is packed into one piece.
packed_one : (size : ℕ) (x : List ℕ) (xs : BranchPiece) → fits_branch size (x ∷ xs) ≡ true → packed_from size [] (x ∷ xs) ≡ (x ∷ xs) ∷ []
packed_one size x xs fits =
    ap (packed_from size []) (sym (append-nil (x ∷ xs))) ∙ packed-run size [] (x ∷ xs) [] fits ∙ packed-last size (x ∷ xs) (not_empty x xs)

-- and what stands behind it in the same one, where that fits too
one_with : (size : ℕ) (xs ys : BranchPiece) → fits_branch size (xs ++ ys) ≡ true → 0 < length (xs ++ ys)
    → with_last size branch_room (packed_from size [] xs) ys ≡ (xs ++ ys) ∷ []
one_with size [] [] fits some = absurd (omega arith)
one_with size [] (y ∷ ys) fits some = refl
one_with size (x ∷ xs) [] fits some =
    packed_one size x xs (ap (fits_branch size) (sym (append-nil (x ∷ xs))) ∙ fits) ∙ ap (λ (zs : BranchPiece). zs ∷ []) (sym (append-nil (x ∷ xs)))
one_with size (x ∷ xs) (y ∷ ys) fits some =
    let most = leb-true (piece_weight size ((x ∷ xs) ++ y ∷ ys)) branch_room fits in
    let sum = weight-append size (x ∷ xs) (y ∷ ys) in
    ap (λ (ps : List BranchPiece). with_last size branch_room ps (y ∷ ys)) (packed_one size x xs (part-fits size (x ∷ xs) (y ∷ ys) fits).0)
    ∙ with_last-joined size branch_room [] (x ∷ xs) (y ∷ ys) (not_empty y ys) (omega arith)

-- with a piece before it that isn't joined, or none, it is the last one still
last_one : (size : ℕ) (l one : BranchPiece) → (l ≡ []) ⊎ (are_joined size l one ≡ false)
    → get_or (with_first size l (one ∷ [])) (length (with_first size l (one ∷ [])) - 1) [] ≡ one
last_one size [] one apart = refl
last_one size (z ∷ zs) one (inl none) = absurd (not_empty z zs none)
last_one size (z ∷ zs) one (inr apart) =
    ap (λ (ps : List BranchPiece). get_or ps (length ps - 1) [])
    (cond-false (are_joined size (z ∷ zs) one) (((z ∷ zs) ++ one) ∷ []) ((z ∷ zs) ∷ one ∷ []) apart)

and_first : (b c : Bool) → b ≡ false → (b && c) ≡ false
and_first b c is = ap (λ (x : Bool). x && c) is

and_second : (b c : Bool) → c ≡ false → (b && c) ≡ false
and_second true c is = is
and_second false c is = refl

-- what is left of a run that begins and ends in one piece, by where
abbrev pub left_of : List BranchPiece → ℕ × ℕ → ℕ × ℕ → BranchPiece → BranchPiece
left_of ps from to new = (take from.1 (get_or ps from.0 []) ++ new) ++ drop to.1 (get_or ps from.0 [])

-- It does, and that is something, fits, and is apart from its neighbours.
pub record ComesAlone (size : ℕ) (ps : List BranchPiece) (cs : List ℕ) (i j : ℕ) (new : BranchPiece) : Type 0 where
  pub same : (end_place cs j).0 ≡ (first_place cs i j).0
  pub some : 0 < length (left_of ps (first_place cs i j) (end_place cs j) new)
  pub fits : fits_branch size (left_of ps (first_place cs i j) (end_place cs j) new) ≡ true
  pub left : ((first_place cs i j).0 ≡ 0)
      ⊎ (are_joined size (piece_before ps (first_place cs i j).0) (left_of ps (first_place cs i j) (end_place cs j) new) ≡ false)
  pub right : (length ps ≤ suc (first_place cs i j).0)
      ⊎ (are_joined size (left_of ps (first_place cs i j) (end_place cs j) new) (get_or ps (suc (first_place cs i j).0) []) ≡ false)

module _ (size : ℕ) (ps : List BranchPiece) (i j : ℕ) (new : BranchPiece) (alone : ComesAlone size ps (map length ps) i j new) where
  abbrev from : ℕ × ℕ
  from = first_place (map length ps) i j

  abbrev to : ℕ × ℕ
  to = end_place (map length ps) j

  abbrev one : BranchPiece
  one = left_of ps from to new

  pub middle-one : middle size ps i j new ≡ one ∷ []
  middle-one =
      let packed : List BranchPiece = packed_from size [] (take from.1 (get_or ps from.0 []) ++ new) in
      ap (λ (t : ℕ). with_last size (if from.0 == t then branch_room else join_room) packed (drop to.1 (get_or ps t []))) alone.same
      ∙ ap (λ (room : ℕ). with_last size room packed (drop to.1 (get_or ps from.0 []))) (cond-true (from.0 == from.0) branch_room join_room (eq-eqb from.0 from.0 refl))
      ∙ one_with size (take from.1 (get_or ps from.0 []) ++ new) (drop to.1 (get_or ps from.0 [])) alone.fits alone.some

  left_apart : (left_piece ps i j ≡ []) ⊎ (are_joined size (left_piece ps i j) one ≡ false)
  left_apart = elim alone.left [
    | inl first ↦ inl (ap (piece_before ps) first)
    | inr apart ↦ inr apart
  ]

  -- No neighbour is joined.
  pub left-apart : left_joins size ps i j new ≡ false
  left-apart =
      let others : List BranchPiece → Bool = λ mid. if length mid == 0 then right_joins size ps i j new else are_joined size (left_piece ps i j) (get_or mid 0 []) in
      elim alone.left [
        | inl first ↦ and_first (nat_lt 0 from.0) (others (middle size ps i j new)) (ap (λ (k : ℕ). nat_lt 0 k) first)
        | inr apart ↦ and_second (nat_lt 0 from.0) (others (middle size ps i j new)) (ap others middle-one ∙ apart)
      ]

  pub right-apart : right_joins size ps i j new ≡ false
  right-apart =
      let before : List BranchPiece → BranchPiece = λ mid.
      let begun = with_first size (left_piece ps i j) mid in
      get_or begun (length begun - 1) [] in
      let there : Bool = nat_lt (to.0 + 1) (length ps) in
      let some : Bool = nat_lt 0 (length (with_first size (left_piece ps i j) (middle size ps i j new))) in
      let joined : Bool = are_joined size (before (middle size ps i j new)) (right_piece ps j) in
      elim alone.right [
        | inl last ↦
            (let same = alone.same in
            and_first (there && some) joined (and_first there some (le-ltb (to.0 + 1) (length ps) (omega arith))))
        | inr apart ↦
            and_second (there && some) joined
            (ap (λ (p : BranchPiece). are_joined size p (right_piece ps j)) (ap before middle-one ∙ last_one size (left_piece ps i j) one left_apart)
            ∙ ap (λ (t : ℕ). are_joined size one (get_or ps (suc t) [])) alone.same ∙ apart)
      ]

  -- So of elements of one size that piece alone is looked at,
  pub looked-one : (size == 0) ≡ false → looked_at size ps i j new ≡ from.0 ∷ []
  looked-one even =
      let same = alone.same in
      let begin : from.0 - 0 ≡ from.0 = omega arith in
      let many : to.0 + 1 - (from.0 - 0) ≡ 1 = omega arith in
      let left : looks_left size ps i j new ≡ false = cond-false (size == 0) _ (left_joins size ps i j new) even ∙ left-apart in
      let right : looks_right size ps i j new ≡ false = cond-false (size == 0) _ (right_joins size ps i j new) even ∙ right-apart in
      ap₂ (λ (a b : Bool). range_with_len (from.0 - (if a then 1 else 0)) (to.0 + (if b then 2 else 1) - (from.0 - (if a then 1 else 0)))) left right
      ∙ ap₂ range_with_len begin many

  -- and is replaced.
  pub window_first-one : window_first size ps i j new ≡ from.0
  window_first-one =
      let begin : from.0 - 0 ≡ from.0 = omega arith in
      ap (λ (b : Bool). from.0 - (if b then 1 else 0)) left-apart ∙ begin

  pub window_end-one : window_end size ps i j new ≡ suc from.0
  window_end-one =
      let same = alone.same in
      let end : to.0 + 1 ≡ suc from.0 = omega arith in
      ap (λ (b : Bool). to.0 + (if b then 2 else 1)) right-apart ∙ end

  pub window_pieces-one : 0 < length ps → is_full ps ≡ true → i ≤ j → window_pieces size ps i j new ≡ one ∷ []
  window_pieces-one some full order =
      let only : Bool = (from.0 == 0) && (to.0 + 1 == length ps) in
      window-pieces-are size ps i j new some full order
      ∙ ap₂ (λ (a b : Bool). window_of size a (left_piece ps i j) (middle size ps i j new) b (right_piece ps j) only) left-apart right-apart
      ∙ ap (λ (mid : List BranchPiece). window_of size false (left_piece ps i j) mid false (right_piece ps j) only) middle-one
      ∙ either only
    where
      either : (b : Bool) → (if b then if_none (one ∷ []) else one ∷ []) ≡ one ∷ []
      either true = refl
      either false = refl

-- After an edit no two neighbours are so small that they are joined.
use Rattle.std.proofs.Common.{◌≡◌, ℕ, Bool, true, not, ◌+◌, ◌<◌, ◌≤◌, nat_le, List, [], ◌∷◌, ◌++◌, refl, sym, ap, subst, ◌∙◌, inl, inr, leb-true, leb-false, arith}
use Rattle.std.proofs.lemmas.Bool.{cases_Bool, cond-true, cond-false, and_parts, and_from, not-true}
use Rattle.geos_model.specs.Pieces.{BranchPiece, branch_room, join_room, piece_weight, are_joined, are_apart}
use Rattle.geos_model.specs.Spread.{packed_from, with_last, with_first}
use Rattle.geos_model.proofs.SpreadFits.{weight-append}

-- a sum that is more than a room, and the test of it
more_than : (sum room : ℕ) → not (nat_le sum room) ≡ true → room < sum
more_than sum room more = leb-false sum room (not-true (nat_le sum room) more)

not_within : (sum room : ℕ) → room < sum → not (nat_le sum room) ≡ true
not_within sum room more = elim (cases_Bool (nat_le sum room)) [
  | inl within ↦ (let low = leb-true sum room within in absurd (omega arith))
  | inr past ↦ ap not past
]

-- There is a first piece, and it weighs so much at least.
abbrev pub HasHead : ℕ → ℕ → List BranchPiece → Type 0
HasHead size n [] = ⊥
HasHead size n (x ∷ ps) = n ≤ piece_weight size x

-- A piece stands before others, and with the least that the first of them weighs it is too large to be joined.
pub cons-apart : (size : ℕ) (x : BranchPiece) (n : ℕ) (ps : List BranchPiece) → are_apart size ps ≡ true → HasHead size n ps
    → join_room < piece_weight size x + n → are_apart size (x ∷ ps) ≡ true
cons-apart size x n [] apart head more = refl
cons-apart size x n (y ∷ ps) apart head more =
    and_from (not (are_joined size x y)) (are_apart size (y ∷ ps)) (not_within (piece_weight size x + piece_weight size y) join_room (omega arith)) apart

-- the first piece may be heavier
pub head-apart : (size : ℕ) (y z : BranchPiece) (ps : List BranchPiece) → are_apart size (y ∷ ps) ≡ true → piece_weight size y ≤ piece_weight size z
    → are_apart size (z ∷ ps) ≡ true
head-apart size y z [] apart more = refl
head-apart size y z (x ∷ ps) apart more =
    let parts = and_parts (not (are_joined size y x)) (are_apart size (x ∷ ps)) apart in
    let least = more_than (piece_weight size y + piece_weight size x) join_room parts.0 in
    and_from (not (are_joined size z x)) (are_apart size (x ∷ ps)) (not_within (piece_weight size z + piece_weight size x) join_room (omega arith)) parts.1

-- Packing: the first piece has what was begun.
pub packed-heavy : (size : ℕ) (y : List ℕ) (ys xs : BranchPiece) → HasHead size (piece_weight size (y ∷ ys)) (packed_from size (y ∷ ys) xs)
packed-heavy size y ys [] = omega arith
packed-heavy size y ys (x ∷ xs) =
    let whole : BranchPiece = (y ∷ ys) ++ x ∷ [] in
    let b = nat_le (piece_weight size whole) branch_room in
    let n = piece_weight size (y ∷ ys) in
    elim (cases_Bool b) [
      | inl fits ↦
          (let sum = weight-append size (y ∷ ys) (x ∷ []) in
          subst (HasHead size n) (sym (cond-true b _ _ fits)) (heavier size n (piece_weight size whole) (packed_from size whole xs) (omega arith) (packed-heavy size y (ys ++ x ∷ []) xs)))
      | inr past ↦ subst (HasHead size n) (sym (cond-false b _ _ past)) (let least : n ≤ n = omega arith in least)
    ]
  where
    heavier : (size m n : ℕ) (ps : List BranchPiece) → m ≤ n → HasHead size n ps → HasHead size m ps
    heavier size m n [] less head = head
    heavier size m n (p ∷ ps) less head = omega arith

pub packed-apart : (size : ℕ) (y xs : BranchPiece) → are_apart size (packed_from size y xs) ≡ true
packed-apart size [] [] = refl
packed-apart size (y ∷ ys) [] = refl
packed-apart size [] (x ∷ xs) = packed-apart size (x ∷ []) xs
packed-apart size (y ∷ ys) (x ∷ xs) =
    let b = nat_le (piece_weight size ((y ∷ ys) ++ x ∷ [])) branch_room in
    elim (cases_Bool b) [
      | inl fits ↦ ap (are_apart size) (cond-true b _ _ fits) ∙ packed-apart size ((y ∷ ys) ++ x ∷ []) xs
      | inr past ↦
          (let sum = weight-append size (y ∷ ys) (x ∷ []) in
          let more = leb-false (piece_weight size ((y ∷ ys) ++ x ∷ [])) branch_room past in
          ap (are_apart size) (cond-false b _ _ past)
          ∙ cons-apart size (y ∷ ys) (piece_weight size (x ∷ [])) (packed_from size (x ∷ []) xs) (packed-apart size (x ∷ []) xs) (packed-heavy size x [] xs) (omega arith))
    ]

-- A piece behind others, and what stands behind it.
pub with_last-heavy : (size room : ℕ) (x : BranchPiece) (ps : List BranchPiece) (y : BranchPiece) (cs : List BranchPiece)
    → HasHead size (piece_weight size x) (with_last size room (x ∷ ps) y ++ cs)
with_last-heavy size room x ps [] cs = omega arith
with_last-heavy size room x (p ∷ ps) (y ∷ ys) cs = omega arith
with_last-heavy size room x [] (y ∷ ys) cs =
    let b = nat_le (piece_weight size x + piece_weight size (y ∷ ys)) room in
    let head : List BranchPiece → Type 0 = λ ps. HasHead size (piece_weight size x) (ps ++ cs) in
    elim (cases_Bool b) [
      | inl fits ↦
          (let sum = weight-append size x (y ∷ ys) in let least : piece_weight size x ≤ piece_weight size (x ++ y ∷ ys) = omega arith in
          subst head (sym (cond-true b _ _ fits)) least)
      | inr past ↦ (let least : piece_weight size x ≤ piece_weight size x = omega arith in subst head (sym (cond-false b _ _ past)) least)
    ]

pub with_last-apart : (size room : ℕ) (ps : List BranchPiece) (y : List ℕ) (ys : BranchPiece) (cs : List BranchPiece) → join_room ≤ room
    → are_apart size ps ≡ true → are_apart size ((y ∷ ys) ∷ cs) ≡ true
    → are_apart size (with_last size room ps (y ∷ ys) ++ cs) ≡ true
with_last-apart size room [] y ys cs most apart last = last
with_last-apart size room (x ∷ []) y ys cs most apart last =
    let b = nat_le (piece_weight size x + piece_weight size (y ∷ ys)) room in
    let test : List BranchPiece → Bool = λ ps. are_apart size (ps ++ cs) in
    elim (cases_Bool b) [
      | inl fits ↦
          (let sum = weight-append size x (y ∷ ys) in
          ap test (cond-true b _ _ fits) ∙ head-apart size (y ∷ ys) (x ++ y ∷ ys) cs last (omega arith))
      | inr past ↦
          (let more = leb-false (piece_weight size x + piece_weight size (y ∷ ys)) room past in
          ap test (cond-false b _ _ past)
          ∙ and_from (not (are_joined size x (y ∷ ys))) (are_apart size ((y ∷ ys) ∷ cs)) (not_within (piece_weight size x + piece_weight size (y ∷ ys)) join_room (omega arith)) last)
    ]
with_last-apart size room (x ∷ next ∷ ps) y ys cs most apart last =
    let parts = and_parts (not (are_joined size x next)) (are_apart size (next ∷ ps)) apart in
    let behind = with_last size room (next ∷ ps) (y ∷ ys) ++ cs in
    cons-apart size x (piece_weight size next) behind (with_last-apart size room (next ∷ ps) y ys cs most parts.1 last)
    (with_last-heavy size room next ps (y ∷ ys) cs) (more_than (piece_weight size x + piece_weight size next) join_room parts.0)

-- A piece before others.
pub with_first-heavy : (size : ℕ) (y : List ℕ) (ys : BranchPiece) (ps : List BranchPiece) → HasHead size (piece_weight size (y ∷ ys)) (with_first size (y ∷ ys) ps)
with_first-heavy size y ys [] = omega arith
with_first-heavy size y ys (x ∷ ps) =
    let b = are_joined size (y ∷ ys) x in
    let n = piece_weight size (y ∷ ys) in
    elim (cases_Bool b) [
      | inl joined ↦
          (let sum = weight-append size (y ∷ ys) x in let least : n ≤ piece_weight size ((y ∷ ys) ++ x) = omega arith in
          subst (HasHead size n) (sym (cond-true b _ _ joined)) least)
      | inr apart ↦ (let least : n ≤ n = omega arith in subst (HasHead size n) (sym (cond-false b _ _ apart)) least)
    ]

pub with_first-apart : (size : ℕ) (y : BranchPiece) (ps : List BranchPiece) → are_apart size ps ≡ true → are_apart size (with_first size y ps) ≡ true
with_first-apart size [] ps apart = apart
with_first-apart size (y ∷ ys) [] apart = refl
with_first-apart size (y ∷ ys) (x ∷ ps) apart =
    let b = are_joined size (y ∷ ys) x in
    elim (cases_Bool b) [
      | inl joined ↦
          (let sum = weight-append size (y ∷ ys) x in
          ap (are_apart size) (cond-true b _ _ joined) ∙ head-apart size x ((y ∷ ys) ++ x) ps apart (omega arith))
      | inr far ↦
          ap (are_apart size) (cond-false b _ _ far)
          ∙ and_from (not (are_joined size (y ∷ ys) x)) (are_apart size (x ∷ ps)) (ap not far) apart
    ]

-- Pieces before others, of which the first is as heavy as the piece that stood there.
pub append-apart : (size : ℕ) (fore : List BranchPiece) (l : BranchPiece) (ps : List BranchPiece) → are_apart size (fore ++ l ∷ []) ≡ true
    → are_apart size ps ≡ true → HasHead size (piece_weight size l) ps → are_apart size (fore ++ ps) ≡ true
append-apart size [] l ps before apart head = apart
append-apart size (a ∷ []) l ps before apart head =
    let parts = and_parts (not (are_joined size a l)) true before in
    cons-apart size a (piece_weight size l) ps apart head (more_than (piece_weight size a + piece_weight size l) join_room parts.0)
append-apart size (a ∷ b ∷ fore) l ps before apart head =
    let parts = and_parts (not (are_joined size a b)) (are_apart size (b ∷ fore ++ l ∷ [])) before in
    and_from (not (are_joined size a b)) (are_apart size (b ∷ fore ++ ps)) parts.0 (append-apart size (b ∷ fore) l ps parts.1 apart head)

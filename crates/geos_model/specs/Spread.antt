-- By which rule an edit spreads elements over pieces.
use Rattle.std.specs.Prelude.{◌+◌, ◌-◌, ◌++◌, ◌∷◌, ℕ, zero, suc, List, [], ◌==◌, nat_le, nat_lt, length, map, take, drop, get_or, if◌then◌else◌}
use Rattle.std.specs.List.{splice}
use Rattle.geos_model.specs.Pieces.{BranchPiece, piece_weight, branch_room, join_room, are_joined, elements_in_pieces}

-- in which piece an element lies, or where a run begins, and how many of that piece's stand before it
abbrev pub start_place : List ℕ → ℕ → ℕ × ℕ
start_place [] i = (0, i)
start_place (c ∷ []) i = (0, i)
start_place (c ∷ next ∷ counts) i =
    if nat_lt i c then (0, i) else let p = start_place (next ∷ counts) (i - c) in (suc p.0, p.1)

-- where a run ends, or elements are put in: at the end of a piece rather than at the beginning of the next one
abbrev pub end_place : List ℕ → ℕ → ℕ × ℕ
end_place [] i = (0, i)
end_place (c ∷ []) i = (0, i)
end_place (c ∷ next ∷ counts) i =
    if nat_le i c then (0, i) else let p = end_place (next ∷ counts) (i - c) in (suc p.0, p.1)

-- a run of elements, by its first one and the one behind it: its first piece and its last one
abbrev pub first_place : List ℕ → ℕ → ℕ → ℕ × ℕ
first_place counts i j = if i == j then end_place counts i else start_place counts i

-- elements in pieces, each as large as there is room for, the first one begun already
abbrev pub packed_from : ℕ → BranchPiece → BranchPiece → List BranchPiece
packed_from size [] [] = []
packed_from size (y ∷ ys) [] = (y ∷ ys) ∷ []
packed_from size [] (x ∷ xs) = packed_from size (x ∷ []) xs
packed_from size (y ∷ ys) (x ∷ xs) =
    if nat_le (piece_weight size ((y ∷ ys) ++ x ∷ [])) branch_room
    then packed_from size ((y ∷ ys) ++ x ∷ []) xs
    else (y ∷ ys) ∷ packed_from size (x ∷ []) xs

-- with a piece behind them, in the last one if that then has no more than so many bytes; an empty one is none
abbrev pub with_last : ℕ → ℕ → List BranchPiece → BranchPiece → List BranchPiece
with_last size room pieces [] = pieces
with_last size room [] (y ∷ ys) = (y ∷ ys) ∷ []
with_last size room (x ∷ []) (y ∷ ys) =
    if nat_le (piece_weight size x + piece_weight size (y ∷ ys)) room then (x ++ y ∷ ys) ∷ [] else x ∷ (y ∷ ys) ∷ []
with_last size room (x ∷ next ∷ pieces) (y ∷ ys) = x ∷ with_last size room (next ∷ pieces) (y ∷ ys)

-- with a piece before them, in the first one if the two are joined
abbrev pub with_first : ℕ → BranchPiece → List BranchPiece → List BranchPiece
with_first size [] pieces = pieces
with_first size (y ∷ ys) [] = (y ∷ ys) ∷ []
with_first size (y ∷ ys) (x ∷ pieces) =
    if are_joined size (y ∷ ys) x then ((y ∷ ys) ++ x) ∷ pieces else (y ∷ ys) ∷ x ∷ pieces

-- what is left of the pieces of a run, with the new elements
abbrev pub middle : ℕ → List BranchPiece → ℕ → ℕ → BranchPiece → List BranchPiece
middle size pieces i j new =
    let from = first_place (map length pieces) i j in
    let to = end_place (map length pieces) j in
    with_last size (if from.0 == to.0 then branch_room else join_room)
    (packed_from size [] (take from.1 (get_or pieces from.0 []) ++ new)) (drop to.1 (get_or pieces to.0 []))

-- the piece before another, none before the first
abbrev pub piece_before : List BranchPiece → ℕ → BranchPiece
piece_before pieces zero = []
piece_before pieces (suc k) = get_or pieces k []

-- the neighbours of a run, none where there is no such piece
abbrev pub left_piece : List BranchPiece → ℕ → ℕ → BranchPiece
left_piece pieces i j = piece_before pieces (first_place (map length pieces) i j).0

abbrev pub right_piece : List BranchPiece → ℕ → BranchPiece
right_piece pieces j = get_or pieces (suc (end_place (map length pieces) j).0) []

abbrev pub if_none : List BranchPiece → List BranchPiece
if_none [] = [] ∷ []
if_none (x ∷ xs) = x ∷ xs

-- the run's pieces after the edit, with the left neighbour
abbrev pub with_left : ℕ → List BranchPiece → ℕ → ℕ → BranchPiece → List BranchPiece
with_left size pieces i j new = with_first size (left_piece pieces i j) (middle size pieces i j new)

-- and with the right one
abbrev pub around : ℕ → List BranchPiece → ℕ → ℕ → BranchPiece → List BranchPiece
around size pieces i j new =
    if_none (with_last size join_room (with_left size pieces i j new) (right_piece pieces j))

-- All pieces after an edit.
unfoldable pub respread : ℕ → List BranchPiece → ℕ → ℕ → BranchPiece → List BranchPiece
respread size pieces i j new =
    let from = first_place (map length pieces) i j in
    let to = end_place (map length pieces) j in
    take (from.0 - 1) pieces ++ around size pieces i j new ++ drop (suc (suc to.0)) pieces

-- elements again in pieces of so many
abbrev pub cut_by : List ℕ → BranchPiece → List BranchPiece
cut_by [] elements = []
cut_by (c ∷ counts) elements = take c elements ∷ cut_by counts (drop c elements)

-- all pieces with elements written over, of one size: the spread stays
unfoldable pub overwritten : List BranchPiece → ℕ → BranchPiece → List BranchPiece
overwritten pieces i new =
    cut_by (map length pieces) (splice (elements_in_pieces pieces) i (i + length new) new)

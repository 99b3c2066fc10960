-- Elements in pieces, as the branches of a large array have them.
use Rattle.std.specs.Prelude.{◌+◌, ◌∷◌, ℕ, List, [], Bool, true, not, ◌==◌, ◌&&◌, ◌||◌, nat_le, nat_lt, length, sum_by, if◌then◌else◌}
use Rattle.std.specs.List.{flat_map, list_all}

-- The elements of one branch.
abbrev pub BranchPiece : Type 0
BranchPiece = List (List ℕ)

-- How many bytes they take there: where sizes vary each has a place too.
abbrev pub piece_weight : ℕ → BranchPiece → ℕ
piece_weight size piece = sum_by (λ x. length x + (if size == 0 then 2 else 0)) piece

-- how many there is room for: a raw body, without a zero word and the header of a chunk array
abbrev pub branch_room : ℕ
branch_room = 65510

-- Up to how many two neighbours are joined. Less than there is room for, so that what was joined isn't split by the
-- next edit; with `branch_room` in its place all below would hold too.
abbrev pub join_room : ℕ
join_room = 49132

abbrev pub are_joined : ℕ → BranchPiece → BranchPiece → Bool
are_joined size x y = nat_le (piece_weight size x + piece_weight size y) join_room

abbrev pub elements_in_pieces : List BranchPiece → BranchPiece
elements_in_pieces pieces = flat_map (λ p. p) pieces

-- no two neighbours are so small that they are joined
abbrev pub are_apart : ℕ → List BranchPiece → Bool
are_apart size [] = true
are_apart size (x ∷ []) = true
are_apart size (x ∷ y ∷ pieces) = not (are_joined size x y) && are_apart size (y ∷ pieces)

-- each has room in a branch
abbrev pub fits_branch : ℕ → BranchPiece → Bool
fits_branch size piece = nat_le (piece_weight size piece) branch_room

abbrev pub all_fit : ℕ → List BranchPiece → Bool
all_fit size pieces = list_all (λ x. fits_branch size x) pieces

-- each element has, alone
abbrev pub each_fits : ℕ → BranchPiece → Bool
each_fits size elements = list_all (λ x. fits_branch size (x ∷ [])) elements

abbrev pub none_empty : List BranchPiece → Bool
none_empty pieces = list_all (λ x. nat_lt 0 (length x)) pieces

-- a good spread: there is a piece, none is empty but a single one, none too large, and none to be joined
abbrev pub are_spread : ℕ → List BranchPiece → Bool
are_spread size pieces =
    nat_lt 0 (length pieces) && (length pieces == 1 || none_empty pieces) && all_fit size pieces
    && are_apart size pieces

-- Which blocks go on, go and come by an edit of a large array.
use Rattle.std.specs.Prelude.{◌+◌, ◌-◌, ◌++◌, ◌∷◌, ℕ, zero, suc, List, [], Bool, not, ◌==◌, ◌&&◌, ◌||◌, nat_le, nat_lt, length, map, take, drop, filter, get_or, if◌then◌else◌, is_some}
use Rattle.std.specs.List.{list_all, list_any, range_with_len, splice, zip}
use Rattle.geos_model.specs.ElementArray.{all_distinct}
use Rattle.geos_model.specs.Document.{Block, Document, attributes_of, with_blocks, without_blocks}
use Rattle.geos_model.specs.Chain.{new_handles}
use Rattle.geos_model.specs.declared.command.Body.TheVariants.{Raw}
use Rattle.geos_model.specs.Pieces.{BranchPiece, piece_weight, join_room, are_joined}
use Rattle.geos_model.specs.LargeLayout.{Root, root_bytes, branch_bytes}
use Rattle.geos_model.specs.Spread.{start_place, end_place, first_place, middle, left_piece, right_piece, with_left, respread, overwritten}
use Rattle.geos_model.specs.LargeBlocks.{root_at, branch_at, pieces_at}

-- a run's right neighbour is joined to what stands before it
abbrev pub right_joins : ℕ → List BranchPiece → ℕ → ℕ → BranchPiece → Bool
right_joins size pieces i j new =
    let before = with_left size pieces i j new in
    nat_lt ((end_place (map length pieces) j).0 + 1) (length pieces) && nat_lt 0 (length before)
    && are_joined size (get_or before (length before - 1) []) (right_piece pieces j)

-- its left neighbour is joined to what stands behind it
abbrev pub left_joins : ℕ → List BranchPiece → ℕ → ℕ → BranchPiece → Bool
left_joins size pieces i j new =
    let mid = middle size pieces i j new in
    nat_lt 0 (first_place (map length pieces) i j).0
    && (if length mid == 0 then right_joins size pieces i j new
    else are_joined size (left_piece pieces i j) (get_or mid 0 []))

-- Which branches an edit looks at: those of the run; and a neighbour. Where sizes vary that is looked at unless the
-- piece beside it is so large already that the two can't be joined; else only to be joined, since the root tells how
-- large it is.
abbrev pub looks_left : ℕ → List BranchPiece → ℕ → ℕ → BranchPiece → Bool
looks_left size pieces i j new =
    let mid = middle size pieces i j new in
    if size == 0 then nat_lt 0 (first_place (map length pieces) i j).0
    && (if length mid == 0 then nat_lt ((end_place (map length pieces) j).0 + 1) (length pieces)
    else nat_le (piece_weight size (get_or mid 0 [])) join_room)
    else left_joins size pieces i j new

abbrev pub looks_right : ℕ → List BranchPiece → ℕ → ℕ → BranchPiece → Bool
looks_right size pieces i j new =
    let mid = middle size pieces i j new in
    if size == 0 then nat_lt ((end_place (map length pieces) j).0 + 1) (length pieces)
    && (if length mid == 0 then nat_lt 0 (first_place (map length pieces) i j).0
    else nat_le (piece_weight size (get_or mid (length mid - 1) [])) join_room)
    else right_joins size pieces i j new

abbrev pub looked_at : ℕ → List BranchPiece → ℕ → ℕ → BranchPiece → List ℕ
looked_at size pieces i j new =
    let first = (first_place (map length pieces) i j).0 - (if looks_left size pieces i j new then 1 else 0) in
    let behind = (end_place (map length pieces) j).0 + (if looks_right size pieces i j new then 2 else 1) in
    range_with_len first (behind - first)

-- these branches have what the root says, none is there twice, and none is the root
abbrev pub are_branches : Document → ℕ → Root → List ℕ → Bool
are_branches d b r ks =
    list_all (λ k. is_some (branch_at d r k)) ks && all_distinct (b ∷ map (λ k. get_or r.branches k 0) ks)

-- the places of the pieces that an edit replaces: of the first one, and the one behind the last
abbrev pub window_first : ℕ → List BranchPiece → ℕ → ℕ → BranchPiece → ℕ
window_first size pieces i j new =
    (first_place (map length pieces) i j).0 - (if left_joins size pieces i j new then 1 else 0)

abbrev pub window_end : ℕ → List BranchPiece → ℕ → ℕ → BranchPiece → ℕ
window_end size pieces i j new =
    (end_place (map length pieces) j).0 + (if right_joins size pieces i j new then 2 else 1)

-- the pieces in their place
abbrev pub window_pieces : ℕ → List BranchPiece → ℕ → ℕ → BranchPiece → List BranchPiece
window_pieces size pieces i j new =
    let after = respread size pieces i j new in
    let stay = length pieces - window_end size pieces i j new in
    take (length after - (stay + window_first size pieces i j new)) (drop (window_first size pieces i j new) after)

-- what stays in its block of the piece at a place: all of a neighbour, of the first and the last piece what is left
abbrev pub staying : ℕ → List BranchPiece → ℕ → ℕ → ℕ → ℕ
staying size pieces i j k =
    let from = first_place (map length pieces) i j in
    let to = end_place (map length pieces) j in
    let piece = get_or pieces k [] in
    if nat_lt k from.0 || nat_lt to.0 k then piece_weight size piece
    else (if k == from.0 then piece_weight size (take from.1 piece) else 0)
    + (if k == to.0 then piece_weight size (drop to.1 piece) else 0)

-- the handle with the greatest number beside it, the first of these
abbrev pub greatest : ℕ × ℕ → List (ℕ × ℕ) → ℕ
greatest best [] = best.0
greatest best (x ∷ xs) = if nat_lt best.1 x.1 then greatest x xs else greatest best xs

-- The handles of so many pieces that come in the place of these blocks. One piece is in the block of which most stays.
-- Where one block was, it has the first piece or the last, of which more was in it. Else the first and the last block
-- have the first and the last piece, and those between the pieces between.
abbrev pub window_handles : List (ℕ × ℕ) → Bool → ℕ → List ℕ → List ℕ
window_handles olds head zero new = []
window_handles [] head (suc n) new = new
window_handles (h ∷ hs) head (suc zero) new = greatest h hs ∷ []
window_handles (h ∷ []) head (suc (suc n)) new = if head then h.0 ∷ new else new ++ h.0 ∷ []
window_handles (h ∷ next ∷ hs) head (suc (suc n)) new =
    let rest = map (λ p. p.0) (next ∷ hs) in
    h.0 ∷ take n (take (length hs) rest) ++ new ++ drop (length hs) rest

-- An edit of the elements from one to another, on blocks: which handles are replaced by which, and with which pieces.
pub record Window : Type 0 where
  pub first : ℕ
  pub behind : ℕ
  pub olds : List ℕ
  pub news : List ℕ
  pub pieces : List BranchPiece

unfoldable pub window : Document → ℕ → ℕ → ℕ → BranchPiece → Window
window d b i j new =
    let r = root_at d b in
    let pieces = pieces_at d r in
    let first = window_first r.size pieces i j new in
    let behind = window_end r.size pieces i j new in
    let placed = window_pieces r.size pieces i j new in
    let places = range_with_len first (behind - first) in
    let olds = map (λ k. (get_or r.branches k 0, staying r.size pieces i j k)) places in
    let from = first_place r.counts i j in
    let to = end_place r.counts j in
    let head = nat_le (piece_weight r.size (drop to.1 (get_or pieces to.0 [])))
    (piece_weight r.size (take from.1 (get_or pieces from.0 []))) in
    record {
      first = first;
      behind = behind;
      olds = map (λ p. p.0) olds;
      news = window_handles olds head (length placed) (new_handles d (length placed - (behind - first)));
      pieces = placed;
    }

-- the handles of blocks that go
abbrev pub freed_handles : Window → List ℕ
freed_handles w = filter (λ h. not (list_any (λ x. x == h) w.news)) w.olds

-- a raw block with the attributes that it has, or those of none
abbrev pub raw_block : Document → ℕ → List ℕ → ℕ × Block
raw_block d h bytes = (h, record { attributes = attributes_of d h; body = Raw bytes })

abbrev pub replaced_root : Root → Window → Root
replaced_root r w = record {
  size = r.size;
  counts = splice r.counts w.first w.behind (map length w.pieces);
  branches = splice r.branches w.first w.behind w.news;
}

abbrev pub with_window : Document → ℕ → Window → Document
with_window d b w =
    let r = root_at d b in
    with_blocks (without_blocks d (freed_handles w))
    (raw_block d b (root_bytes (replaced_root r w))
    ∷ map (λ p. raw_block d p.0 (branch_bytes r.size p.1)) (zip w.news w.pieces))

-- elements in the place of those from one to another
unfoldable pub elements_replaced : Document → ℕ → ℕ → ℕ → BranchPiece → Document
elements_replaced d b i j new =
    if (i == j) && (length new == 0) then d else with_window d b (window d b i j new)

-- elements written over, of one size: the pieces that have one
unfoldable pub elements_overwritten : Document → ℕ → ℕ → BranchPiece → Document
elements_overwritten d b i new =
    let r = root_at d b in
    let first = (start_place r.counts i).0 in
    let last = suc (end_place r.counts (i + length new)).0 in
    let handles = take (last - first) (drop first r.branches) in
    if length new == 0 then d
    else with_blocks d (map (λ p. raw_block d p.0 (branch_bytes r.size p.1))
    (zip handles (drop first (take last (overwritten (pieces_at d r) i new)))))

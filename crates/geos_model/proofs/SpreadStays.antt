-- Pieces that are spread stay so.
use Rattle.std.proofs.Common.{◌≡◌, ℕ, Bool, true, false, ◌&&◌, suc, ◌-◌, ◌<◌, ◌≤◌, ◌==◌, nat_lt, List, [], ◌∷◌, ◌++◌, length, take, drop, map, get_or, refl, sym, ap, ◌∙◌, append_assoc, ltb-true, length-append, arith}
use Rattle.std.proofs.lemmas.List.{append-nil, length-map}
use Rattle.std.proofs.lemmas.Bool.{and_parts, and_from, lt-ltb}
use Rattle.geos_model.specs.Pieces.{BranchPiece, join_room, all_fit, each_fits, are_apart, are_spread, none_empty}
use Rattle.geos_model.specs.Spread.{end_place, first_place, packed_from, middle, left_piece, right_piece, with_last, with_left, around, respread, if_none}
use Rattle.geos_model.proofs.SpreadFits.{room_of, respread-fits}
use Rattle.geos_model.proofs.SpreadApart.{packed-apart, with_last-apart}
use Rattle.geos_model.proofs.SpreadSides.{is_full, packed-full, with_last-full, sides, apart-sides, around-apart, around-full}
use Rattle.geos_model.proofs.SpreadPlaces.{first-low}

-- The tests of pieces that are spread.
pub record AreSpread (size : ℕ) (ps : List BranchPiece) : Type 0 where
  pub some : 0 < length ps
  pub full : is_full ps ≡ true
  pub fit : all_fit size ps ≡ true
  pub apart : are_apart size ps ≡ true

pub spread_parts : (size : ℕ) (ps : List BranchPiece) → are_spread size ps ≡ true → AreSpread size ps
spread_parts size ps spread =
    let all = and_parts (nat_lt 0 (length ps) && is_full ps && all_fit size ps) (are_apart size ps) spread in
    let three = and_parts (nat_lt 0 (length ps) && is_full ps) (all_fit size ps) all.0 in
    let two = and_parts (nat_lt 0 (length ps)) (is_full ps) three.0 in
    record { some = ltb-true 0 (length ps) two.0; full = two.1; fit = three.1; apart = all.1 }

pub spread_from : (size : ℕ) (ps : List BranchPiece) → AreSpread size ps → are_spread size ps ≡ true
spread_from size ps are =
    and_from (nat_lt 0 (length ps) && is_full ps && all_fit size ps) (are_apart size ps)
    (and_from (nat_lt 0 (length ps) && is_full ps) (all_fit size ps) (and_from (nat_lt 0 (length ps)) (is_full ps) (lt-ltb 0 (length ps) are.some) are.full) are.fit)
    are.apart

-- What is left of a run has no two pieces to be joined, and none that is empty.
tail_apart : (size room : ℕ) (ps : List BranchPiece) (y : BranchPiece) → join_room ≤ room → are_apart size ps ≡ true → are_apart size (with_last size room ps y) ≡ true
tail_apart size room ps [] most apart = apart
tail_apart size room ps (y ∷ ys) most apart =
    ap (are_apart size) (sym (append-nil (with_last size room ps (y ∷ ys)))) ∙ with_last-apart size room ps y ys [] most apart refl

join_few : (same : Bool) → join_room ≤ room_of same
join_few true = omega arith
join_few false = omega arith

middle-apart : (size : ℕ) (ps : List BranchPiece) (i j : ℕ) (new : BranchPiece) → are_apart size (middle size ps i j new) ≡ true
middle-apart size ps i j new =
    let from = first_place (map length ps) i j in
    let to = end_place (map length ps) j in
    let kept : BranchPiece = take from.1 (get_or ps from.0 []) ++ new in
    tail_apart size (room_of (from.0 == to.0)) (packed_from size [] kept) (drop to.1 (get_or ps to.0 [])) (join_few (from.0 == to.0)) (packed-apart size [] kept)

middle-full : (size : ℕ) (ps : List BranchPiece) (i j : ℕ) (new : BranchPiece) → none_empty (middle size ps i j new) ≡ true
middle-full size ps i j new =
    let from = first_place (map length ps) i j in
    let to = end_place (map length ps) j in
    let kept : BranchPiece = take from.1 (get_or ps from.0 []) ++ new in
    with_last-full size (room_of (from.0 == to.0)) (packed_from size [] kept) (drop to.1 (get_or ps to.0 [])) (packed-full size [] kept)

-- a run begins in a piece that there is
pub begins : (ps : List BranchPiece) (i j : ℕ) → 0 < length ps → (first_place (map length ps) i j).0 < length ps
begins [] i j some = absurd (omega arith)
begins (p ∷ ps) i j some =
    let low = first-low (length p) (map length ps) i j in
    let as_many = length-map ps (λ (q : BranchPiece). length q) in
    omega arith

-- a list of some and others isn't empty where the others aren't
some_there : (xs ys zs : List BranchPiece) → 0 < length ys → 0 < length ((xs ++ ys) ++ zs)
some_there xs ys zs some =
    let front = length-append xs ys in
    let all = length-append (xs ++ ys) zs in
    omega arith

if_none-some : (ps : List BranchPiece) → 0 < length (if_none ps)
if_none-some [] = omega arith
if_none-some (p ∷ ps) = omega arith

-- The pieces after an edit: there is one, and none is empty but a single one.
pub respread-full : (size : ℕ) (ps : List BranchPiece) (i j : ℕ) (new : BranchPiece) → 0 < length ps → is_full ps ≡ true
    → (0 < length (respread size ps i j new)) × (is_full (respread size ps i j new) ≡ true)
unfolding respread
respread-full size ps i j new some full =
    let from = first_place (map length ps) i j in
    let to = end_place (map length ps) j in
    let before : List BranchPiece = take (from.0 - 1) ps in
    let behind : List BranchPiece = drop (suc (suc to.0)) ps in
    let l : BranchPiece = left_piece ps i j in
    let r : BranchPiece = right_piece ps j in
    let mid : List BranchPiece = middle size ps i j new in
    let here : List BranchPiece = around size ps i j new in
    let beside = sides from.0 to.0 ps full (begins ps i j some) in (
      some_there before here behind (if_none-some (with_last size join_room (with_left size ps i j new) r)),
      ap is_full (append_assoc before here behind) ∙ around-full size before l mid r behind beside (middle-full size ps i j new),
    )

-- No two are to be joined, where none were.
pub respread-apart : (size : ℕ) (ps : List BranchPiece) (i j : ℕ) (new : BranchPiece) → 0 < length ps → is_full ps ≡ true → are_apart size ps ≡ true
    → are_apart size (respread size ps i j new) ≡ true
unfolding respread
respread-apart size ps i j new some full apart =
    let from = first_place (map length ps) i j in
    let to = end_place (map length ps) j in
    let before : List BranchPiece = take (from.0 - 1) ps in
    let behind : List BranchPiece = drop (suc (suc to.0)) ps in
    let l : BranchPiece = left_piece ps i j in
    let r : BranchPiece = right_piece ps j in
    let mid : List BranchPiece = middle size ps i j new in
    let here : List BranchPiece = around size ps i j new in
    let low = begins ps i j some in
    ap (are_apart size) (append_assoc before here behind)
    ∙ around-apart size before l mid r behind (sides from.0 to.0 ps full low) (apart-sides size from.0 to.0 ps apart low) (middle-apart size ps i j new)

pub respread-spread : (size : ℕ) (ps : List BranchPiece) (i j : ℕ) (new : BranchPiece) → are_spread size ps ≡ true → each_fits size new ≡ true
    → are_spread size (respread size ps i j new) ≡ true
respread-spread size ps i j new spread each =
    let are = spread_parts size ps spread in
    let stays = respread-full size ps i j new are.some are.full in
    spread_from size (respread size ps i j new) (record {
      some = stays.0;
      full = stays.1;
      fit = respread-fits size ps i j new are.fit each;
      apart = respread-apart size ps i j new are.some are.full are.apart;
    })

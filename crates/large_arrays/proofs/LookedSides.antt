-- Which neighbours an edit looks at and joins, by what a spot tells.
use Rattle.std.proofs.Common.{◌≡◌, ℕ, zero, suc, ◌+◌, ◌-◌, ◌*◌, ◌<◌, ◌≤◌, ◌==◌, nat_le, nat_lt, if◌then◌else◌, Bool, true, false, List, [], length, map, get_or, min, Option, Some, None, refl, sym, ap, ap₂, ◌∙◌, arith, ltb-true}
use Rattle.std.proofs.lemmas.Bool.{and_parts, true≢false}
use Rattle.geos_model.specs.Pieces.{BranchPiece, piece_weight, join_room}
use Rattle.geos_model.specs.Spread.{first_place, end_place, middle, piece_before, left_piece, right_piece}
use Rattle.geos_model.specs.LargeWindow.{left_joins, right_joins, looks_left, looks_right}
use Rattle.large_bodies.specs.Neighbours.{ends_of, if_known, are_joined_by, looks_left_by, looks_right_by, left_joins_by, right_joins_by, last_weight}
use Rattle.large_arrays.specs.LookedBranches.{HasLinks, IsPieceSpot, AreThere, AreAmong, AreNeighbours, count_at, first_with, behind_with}
use Rattle.large_arrays.specs.declared.joining.Neighbours.{Neighbours}
use Rattle.large_bodies.specs.declared.neighbours.MiddleEnds.{MiddleEnds}
use Rattle.large_bodies.specs.declared.neighbours.Sides.{Sides}
use Rattle.large_arrays.specs.declared.spot.Spot.{Spot}
use Rattle.large_arrays.proofs.NeighbourLemmas.{left_joins-by, right_joins-by, looks_left-by, looks_right-by, left_joins-seen, right_joins-seen, looks_left-one, looks_right-one}
use Rattle.large_arrays.proofs.SpotPieces.{piece-count}

known_same : (b c : Bool) (x y : ℕ) → b ≡ c → (b ≡ true → x ≡ y) → if_known b x ≡ if_known c y
known_same true true x y is same = ap (λ (n : ℕ). Some n) (same refl)
known_same false false x y is same = refl
known_same true false x y is same = absurd (true≢false is)
known_same false true x y is same = absurd (true≢false (sym is))

-- what is joined is known

pub known_left : (b : Bool) (w : ℕ) (o : Option ℕ) → are_joined_by (if_known b w) o ≡ true → b ≡ true
known_left true w o joined = refl
known_left false w o joined = joined

joined_none : (o : Option ℕ) → are_joined_by o None ≡ false
joined_none None = refl
joined_none (Some w) = refl

pub known_right : (b : Bool) (w : ℕ) (o : Option ℕ) → are_joined_by o (if_known b w) ≡ true → b ≡ true
known_right true w o joined = refl
known_right false w o joined = sym (joined_none o) ∙ joined

-- neighbours that are joined are among those that are known
pub joined-among : (l r : Bool) (x y : ℕ) (ends : MiddleEnds) (joined looked : Sides) → looked.left ≡ l → looked.right ≡ r
    → joined.left ≡ left_joins_by (if_known l x) (if_known r y) ends → joined.right ≡ right_joins_by (if_known l x) (if_known r y) ends → AreAmong joined looked
joined-among l r x y ends joined looked left right is_left is_right =
    let a : Option ℕ = if_known l x in
    let b : Option ℕ = if_known r y in
    record {
      left = λ so. left ∙ known_left l x (if ends.pieces == 0 then b else Some ends.first) (sym is_left ∙ so);
      right = λ so. right ∙ known_right r y (if ends.pieces == 0 then a else Some (last_weight a b ends)) (sym is_right ∙ so);
    }

-- and there where they are known only so
pub joined-there : (s : Spot) (x y : ℕ) (ends : MiddleEnds) (joined : Sides)
    → joined.left ≡ left_joins_by (if_known (nat_lt 0 s.start.0) x) (if_known (nat_lt (s.end.0 + 1) s.branches) y) ends
    → joined.right ≡ right_joins_by (if_known (nat_lt 0 s.start.0) x) (if_known (nat_lt (s.end.0 + 1) s.branches) y) ends → AreThere s joined
joined-there s x y ends joined left right =
    let l = nat_lt 0 s.start.0 in
    let r = nat_lt (s.end.0 + 1) s.branches in
    let among = joined-among l r x y ends joined (record { left = l; right = r }) refl refl left right in
    record {
      left = λ so. ltb-true 0 s.start.0 (among.left so);
      right = λ so. ltb-true (s.end.0 + 1) s.branches (among.right so);
    }

pub looks-there : (s : Spot) (ends : MiddleEnds) (sides : Sides)
    → sides.left ≡ looks_left_by (nat_lt 0 s.start.0) (nat_lt (s.end.0 + 1) s.branches) ends
    → sides.right ≡ looks_right_by (nat_lt 0 s.start.0) (nat_lt (s.end.0 + 1) s.branches) ends → AreThere s sides
looks-there s ends sides left right =
    let l = nat_lt 0 s.start.0 in
    let r = nat_lt (s.end.0 + 1) s.branches in
    record {
      left = λ so. ltb-true 0 s.start.0 (and_parts l (if ends.pieces == 0 then r else nat_le ends.first join_room) (sym left ∙ so)).0;
      right = λ so. ltb-true (s.end.0 + 1) s.branches (and_parts r (if ends.pieces == 0 then l else nat_le ends.last join_room) (sym right ∙ so)).0;
    }

pub there-among : (s : Spot) (some all : Sides) → AreThere s all → AreAmong some all → AreThere s some
there-among s some all there among = record { left = λ so. there.left (among.left so); right = λ so. there.right (among.right so) }

-- Where a run with neighbours lies.
pub record IsAround (s : Spot) (sides : Sides) : Type 0 where
  pub first : s.first ≤ first_with s sides
  pub begin : first_with s sides ≤ s.start.0
  pub end : s.end.0 + 1 ≤ behind_with s sides
  pub behind : behind_with s sides ≤ s.first + length s.links.items
  pub near : behind_with s sides ≤ s.end.0 + 2
  pub within : behind_with s sides ≤ s.branches
  pub left : (k : ℕ) → first_with s sides ≤ k → k < s.start.0 → (sides.left ≡ true) × (k ≡ s.start.0 - 1)
  pub right : (k : ℕ) → s.end.0 < k → k < behind_with s sides → (sides.right ≡ true) × (k ≡ s.end.0 + 1)

pub is-around : (s : Spot) (sides : Sides) → HasLinks s → AreThere s sides → IsAround s sides
is-around s sides run there = record {
  first = first_from sides.left;
  begin = before sides.left;
  end = past sides.right;
  behind = (let most = upto sides.right there.right in let all = run.links in omega arith);
  near = few sides.right;
  within = (let most = upto sides.right there.right in omega arith);
  left = λ k low high. at_left sides.left k low high;
  right = λ k low high. at_right sides.right k low high;
}
  where
    first_from : (b : Bool) → s.first ≤ s.start.0 - (if b then 1 else 0)
    first_from true = (let is = run.first in omega arith)
    first_from false = (let is = run.first in omega arith)

    before : (b : Bool) → s.start.0 - (if b then 1 else 0) ≤ s.start.0
    before true = omega arith
    before false = omega arith

    past : (b : Bool) → s.end.0 + 1 ≤ s.end.0 + (if b then 2 else 1)
    past true = omega arith
    past false = omega arith

    few : (b : Bool) → s.end.0 + (if b then 2 else 1) ≤ s.end.0 + 2
    few true = omega arith
    few false = omega arith

    upto : (b : Bool) → (b ≡ true → s.end.0 + 1 < s.branches) → s.end.0 + (if b then 2 else 1) ≤ min (s.end.0 + 2) s.branches
    upto true so = (let less = so refl in omega arith)
    upto false so = (let last = run.last in omega arith)

    at_left : (b : Bool) (k : ℕ) → s.start.0 - (if b then 1 else 0) ≤ k → k < s.start.0 → (b ≡ true) × (k ≡ s.start.0 - 1)
    at_left true k low high = (refl, omega arith)
    at_left false k low high = absurd (omega arith)

    at_right : (b : Bool) (k : ℕ) → s.end.0 < k → k < s.end.0 + (if b then 2 else 1) → (b ≡ true) × (k ≡ s.end.0 + 1)
    at_right true k low high = (refl, omega arith)
    at_right false k low high = absurd (omega arith)

-- Of pieces.
module _ (s : Spot) (ps : List BranchPiece) (i j : ℕ) (new : BranchPiece) (is : IsPieceSpot s ps i j) where
  abbrev hl : Bool
  hl = nat_lt 0 s.start.0

  abbrev hr : Bool
  hr = nat_lt (s.end.0 + 1) s.branches

  abbrev pub ends : MiddleEnds
  ends = ends_of s.size (middle s.size ps i j new)

  hl_is : hl ≡ nat_lt 0 (first_place (map length ps) i j).0
  hl_is = ap (λ (p : ℕ × ℕ). nat_lt 0 p.0) is.start

  hr_is : hr ≡ nat_lt ((end_place (map length ps) j).0 + 1) (length ps)
  hr_is = ap₂ (λ (p : ℕ × ℕ) (n : ℕ). nat_lt (p.0 + 1) n) is.end is.branches

  pub left-varies : (s.size == 0) ≡ true → looks_left_by hl hr ends ≡ looks_left s.size ps i j new
  left-varies vary = ap₂ (λ (x y : Bool). looks_left_by x y ends) hl_is hr_is ∙ sym (looks_left-by s.size ps i j new is.some is.full is.order vary)

  pub right-varies : (s.size == 0) ≡ true → looks_right_by hl hr ends ≡ looks_right s.size ps i j new
  right-varies vary = ap₂ (λ (x y : Bool). looks_right_by x y ends) hl_is hr_is ∙ sym (looks_right-by s.size ps i j new is.some is.full is.order vary)

  -- the left neighbour is the piece before the first one of the run
  pub left-at : 0 < s.start.0 → left_piece ps i j ≡ get_or ps (s.start.0 - 1) []
  left-at some = ap (λ (p : ℕ × ℕ). piece_before ps p.0) (sym is.start) ∙ before s.start.0 some
    where
      before : (k : ℕ) → 0 < k → piece_before ps k ≡ get_or ps (k - 1) []
      before zero some = absurd (omega arith)
      before (suc k) some = (let one : k ≡ suc k - 1 = omega arith in ap (λ (n : ℕ). get_or ps n []) one)

  pub right-at : right_piece ps j ≡ get_or ps (s.end.0 + 1) []
  right-at =
      let next : suc s.end.0 ≡ s.end.0 + 1 = omega arith in
      ap (λ (p : ℕ × ℕ). get_or ps (suc p.0) []) (sym is.end) ∙ ap (λ (k : ℕ). get_or ps k []) next

  module _ (run : HasLinks s) (one : (s.size == 0) ≡ false) where
    even_at : (k : ℕ) → s.first ≤ k → k < s.end.0 + 2 → count_at s k * s.size ≡ piece_weight s.size (get_or ps k [])
    even_at k low high = ap (λ (n : ℕ). n * s.size) (piece-count s ps i j is k low high) ∙ sym (is.even one k)

    left_weighs : if_known hl (count_at s (s.start.0 - 1) * s.size) ≡ if_known (nat_lt 0 (first_place (map length ps) i j).0) (piece_weight s.size (left_piece ps i j))
    left_weighs =
        known_same hl (nat_lt 0 (first_place (map length ps) i j).0) (count_at s (s.start.0 - 1) * s.size) (piece_weight s.size (left_piece ps i j)) hl_is (λ so.
        let some = ltb-true 0 s.start.0 so in
        let first = run.first in
        let order = run.order in
        even_at (s.start.0 - 1) (omega arith) (omega arith) ∙ ap (piece_weight s.size) (sym (left-at some)))

    right_weighs : if_known hr (count_at s (s.end.0 + 1) * s.size) ≡ if_known (nat_lt ((end_place (map length ps) j).0 + 1) (length ps)) (piece_weight s.size (right_piece ps j))
    right_weighs =
        known_same hr (nat_lt ((end_place (map length ps) j).0 + 1) (length ps)) (count_at s (s.end.0 + 1) * s.size) (piece_weight s.size (right_piece ps j)) hr_is (λ so.
        let first = run.first in
        let order = run.order in
        even_at (s.end.0 + 1) (omega arith) (omega arith) ∙ ap (piece_weight s.size) (sym right-at))

    pub left-even : left_joins_by (if_known hl (count_at s (s.start.0 - 1) * s.size)) (if_known hr (count_at s (s.end.0 + 1) * s.size)) ends ≡ looks_left s.size ps i j new
    left-even =
        ap₂ (λ (x y : Option ℕ). left_joins_by x y ends) left_weighs right_weighs
        ∙ sym (left_joins-by s.size ps i j new is.some is.full is.order) ∙ sym (looks_left-one s.size ps i j new is.some is.full is.order one)

    pub right-even : right_joins_by (if_known hl (count_at s (s.start.0 - 1) * s.size)) (if_known hr (count_at s (s.end.0 + 1) * s.size)) ends ≡ looks_right s.size ps i j new
    right-even =
        ap₂ (λ (x y : Option ℕ). right_joins_by x y ends) left_weighs right_weighs
        ∙ sym (right_joins-by s.size ps i j new is.some is.full is.order) ∙ sym (looks_right-one s.size ps i j new is.some is.full is.order one)

  -- Those that are joined, of those that are looked at.
  module _ (looked : Sides) (neighbours : Neighbours) (are : AreNeighbours s ps i j new looked neighbours) where
    pub left-joined : (s.size == 0) ≡ false → looked.left ≡ left_joins s.size ps i j new
    left-joined one = are.left ∙ looks_left-one s.size ps i j new is.some is.full is.order one

    pub right-joined : (s.size == 0) ≡ false → looked.right ≡ right_joins s.size ps i j new
    right-joined one = are.right ∙ looks_right-one s.size ps i j new is.some is.full is.order one

    module _ (left_size : neighbours.left.size ≡ s.size) (right_size : neighbours.right.size ≡ s.size) (vary : (s.size == 0) ≡ true) where
      abbrev l : Option ℕ
      l = if_known looked.left (piece_weight neighbours.left.size neighbours.left.elements)

      abbrev r : Option ℕ
      r = if_known looked.right (piece_weight neighbours.right.size neighbours.right.elements)

      abbrev fl : Bool
      fl = looks_left_by (nat_lt 0 (first_place (map length ps) i j).0) (nat_lt ((end_place (map length ps) j).0 + 1) (length ps)) ends

      abbrev fr : Bool
      fr = looks_right_by (nat_lt 0 (first_place (map length ps) i j).0) (nat_lt ((end_place (map length ps) j).0 + 1) (length ps)) ends

      l_is : l ≡ if_known fl (piece_weight s.size (left_piece ps i j))
      l_is = known_same looked.left fl (piece_weight neighbours.left.size neighbours.left.elements) (piece_weight s.size (left_piece ps i j))
          (are.left ∙ looks_left-by s.size ps i j new is.some is.full is.order vary) (λ so. ap₂ (λ (n : ℕ) (p : BranchPiece). piece_weight n p) left_size (are.left_is so))

      r_is : r ≡ if_known fr (piece_weight s.size (right_piece ps j))
      r_is = known_same looked.right fr (piece_weight neighbours.right.size neighbours.right.elements) (piece_weight s.size (right_piece ps j))
          (are.right ∙ looks_right-by s.size ps i j new is.some is.full is.order vary) (λ so. ap₂ (λ (n : ℕ) (p : BranchPiece). piece_weight n p) right_size (are.right_is so))

      pub left-joined_by : left_joins_by l r ends ≡ left_joins s.size ps i j new
      left-joined_by = ap₂ (λ (x y : Option ℕ). left_joins_by x y ends) l_is r_is ∙ sym (left_joins-seen s.size ps i j new is.some is.full is.order vary)

      pub right-joined_by : right_joins_by l r ends ≡ right_joins s.size ps i j new
      right-joined_by = ap₂ (λ (x y : Option ℕ). right_joins_by x y ends) l_is r_is ∙ sym (right_joins-seen s.size ps i j new is.some is.full is.order vary)

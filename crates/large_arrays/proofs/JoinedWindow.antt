-- What comes in the place of branches, of what an edit looks at in a document.
use Rattle.std.proofs.Common.{◌≡◌, ℕ, zero, suc, ◌+◌, ◌-◌, ◌<◌, ◌≤◌, ◌&&◌, nat_lt, if◌then◌else◌, Bool, true, false, List, [], ◌∷◌, length, map, get_or, Option, Some, None, is_some, refl, sym, ap, subst, ◌∙◌, inl, inr, arith, ltb-true, ltb-false}
use Rattle.std.proofs.lemmas.Bool.{cases_Bool, and_parts, and_from, cond-true, cond-false, true≢false}
use Rattle.std.proofs.lemmas.List.FromFn.{length-map-range_with_len, get_or-map-range_with_len}
use Rattle.std.specs.List.{list_all, range_with_len}
use Rattle.geos_model.specs.ElementArray.{all_distinct}
use Rattle.geos_model.specs.Document.{Document, is_raw, raw_bytes_of}
use Rattle.geos_model.specs.Pieces.{BranchPiece}
use Rattle.geos_model.specs.LargeLayout.{Root, branch_of}
use Rattle.geos_model.specs.Spread.{first_place, end_place}
use Rattle.geos_model.specs.LargeBlocks.{root_at, branch_at, pieces_at}
use Rattle.geos_model.specs.LargeWindow.{looks_left, looks_right, looked_at, are_branches}
use Rattle.large_arrays.specs.Bodies.{AreBodies, are_raw, bytes_of_bodies}
use Rattle.large_arrays.specs.LookedBranches.{HasLinks, IsPieceSpot, AreThere, AreNeighbours, ReadsNeighbours, MissesNeighbour, first_with, behind_with, links_between, left_links, right_links, count_at, handle_at, left_read, right_read}
use Rattle.large_arrays.specs.Spots.{IsSpot, link_handles}
use Rattle.large_arrays.specs.declared.joining.LookedBodies.{LookedBodies}
use Rattle.large_arrays.specs.declared.joining.Neighbours.{Neighbours}
use Rattle.large_bodies.specs.declared.neighbours.Sides.{Sides}
use Rattle.large_arrays.specs.declared.spot.Spot.{Spot}
use Rattle.large_arrays.proofs.RootPieces.{found-piece}
use Rattle.large_arrays.proofs.SpotLinks.{range-same, range-all, range-each, range-not, handles-are, raw-range, body-at}
use Rattle.large_arrays.proofs.SpotPieces.{spot-some, spot-many, piece-spot, spot-handle, spot-count}
use Rattle.large_arrays.proofs.LookedSides.{IsAround, is-around, left-at, right-at}

abbrev looked_range : ℕ → ℕ → Bool → Bool → List ℕ
looked_range f t left right = range_with_len (f - (if left then 1 else 0)) ((t + (if right then 2 else 1)) - (f - (if left then 1 else 0)))

and_none : (b : Bool) → (b && false) ≡ false
and_none true = refl
and_none false = refl

-- Which neighbours are looked at, in a document.
module _ (d : Document) (b i j : ℕ) (new : BranchPiece) (s : Spot) (looked : Sides) (run : HasLinks s) (there : AreThere s looked) (is : IsSpot (root_at d b) i j s) (order : i ≤ j)
    (left : looked.left ≡ looks_left s.size (pieces_at d (root_at d b)) i j new) (right : looked.right ≡ looks_right s.size (pieces_at d (root_at d b)) i j new) where
  abbrev r : Root
  r = root_at d b

  abbrev ps : List BranchPiece
  ps = pieces_at d r

  abbrev spot : IsPieceSpot s ps i j
  spot = piece-spot d b i j s run is order

  abbrev lf : ℕ
  lf = first_with s looked

  abbrev lb : ℕ
  lb = behind_with s looked

  abbrev around : IsAround s looked
  around = is-around s looked run there

  abbrev are : Bool
  are = are_branches d b r (looked_at r.size ps i j new)

  looked_at_is : looked_at r.size ps i j new ≡ range_with_len lf (lb - lf)
  looked_at_is =
      let from : (first_place (map length ps) i j).0 ≡ s.start.0 = ap (λ (p : ℕ × ℕ). p.0) (sym spot.start) in
      let to : (end_place (map length ps) j).0 ≡ s.end.0 = ap (λ (p : ℕ × ℕ). p.0) (sym spot.end) in
      let before : looks_left r.size ps i j new ≡ looked.left = ap (λ (n : ℕ). looks_left n ps i j new) (sym is.size) ∙ sym left in
      let behind : looks_right r.size ps i j new ≡ looked.right = ap (λ (n : ℕ). looks_right n ps i j new) (sym is.size) ∙ sym right in
      λ k. looked_range (from k) (to k) (before k) (behind k)

  abbrev at : ℕ → ℕ
  at k = get_or r.branches k 0

  handles_is : map (λ k. at k) (range_with_len lf (lb - lf)) ≡ link_handles (links_between s lf lb)
  handles_is =
      let first = around.first in
      let begin = around.begin in
      let mid = run.order in
      let end = around.end in
      let near = around.near in
      range-same (λ k. at k) (λ k. handle_at s k) lf (lb - lf) (λ k low high. sym (spot-handle d b i j s run is k (omega arith) (omega arith)))
      ∙ sym (handles-are s lf lb first (omega arith) around.behind)

  -- one of them isn't there
  pub looked-missing : (k : ℕ) → lf ≤ k → k < lb → branch_at d r k ≡ None → are ≡ false
  looked-missing k low high none =
      ap (are_branches d b r) looked_at_is
      ∙ ap (λ (t : Bool). t && all_distinct (b ∷ map (λ k. at k) (range_with_len lf (lb - lf))))
      (range-not (λ k. is_some (branch_at d r k)) lf (lb - lf) k low (omega arith) (ap (λ (o : Option BranchPiece). is_some o) none))

  -- or a block is there twice, or is the root
  pub looked-twice : all_distinct (b ∷ link_handles (links_between s lf lb)) ≡ false → are ≡ false
  looked-twice twice =
      let all : Bool = list_all (λ k. is_some (branch_at d r k)) (range_with_len lf (lb - lf)) in
      ap (are_branches d b r) looked_at_is ∙ ap (λ (hs : List ℕ). all && all_distinct (b ∷ hs)) handles_is ∙ ap (λ (t : Bool). all && t) twice ∙ and_none all

  pub looked-all : ((k : ℕ) → lf ≤ k → k < lb → is_some (branch_at d r k) ≡ true) → all_distinct (b ∷ link_handles (links_between s lf lb)) ≡ true → are ≡ true
  looked-all each once =
      let all : Bool = list_all (λ k. is_some (branch_at d r k)) (range_with_len lf (lb - lf)) in
      ap (are_branches d b r) looked_at_is
      ∙ and_from all (all_distinct (b ∷ map (λ k. at k) (range_with_len lf (lb - lf))))
      (range-all (λ k. is_some (branch_at d r k)) lf (lb - lf) (λ k low high. each k low (omega arith))) (ap (λ (hs : List ℕ). all_distinct (b ∷ hs)) handles_is ∙ once)

  -- a branch whose block isn't raw isn't there
  pub looked-not_raw : (from to : ℕ) → lf ≤ from → from ≤ to → to ≤ lb → are_raw d (link_handles (links_between s from to)) ≡ false → are ≡ false
  looked-not_raw from to low upto high none = elim (cases_Bool are) [
    | inr other ↦ other
    | inl all ↦
        (let first = around.first in
        let behind = around.behind in
        let near = around.near in
        let hs : List ℕ = link_handles (links_between s from to) in
        let raw : are_raw d hs ≡ true = ap (are_raw d) (handles-are s from to (omega arith) upto (omega arith)) ∙ raw_all from to low upto high (sym (ap (are_branches d b r) looked_at_is) ∙ all) in
        absurd (true≢false (sym raw ∙ none)))
  ]
    where
      seen_raw : (k : ℕ) → is_some (branch_at d r k) ≡ true → is_raw d (at k) ≡ true
      seen_raw k some = elim (cases_Bool (is_raw d (at k))) [
        | inl raw ↦ raw
        | inr other ↦
            absurd (true≢false (sym some ∙ ap (λ (o : Option BranchPiece). is_some o) (cond-false (is_raw d (at k)) (branch_of r.size (get_or r.counts k 0) (raw_bytes_of d (at k))) None other)))
      ]

      raw_all : (from to : ℕ) → lf ≤ from → from ≤ to → to ≤ lb → are_branches d b r (range_with_len lf (lb - lf)) ≡ true → are_raw d (map (λ k. handle_at s k) (range_with_len from (to - from))) ≡ true
      raw_all from to low upto high all =
          let test : ℕ → Bool = λ k. is_some (branch_at d r k) in
          let first = around.first in
          let near = around.near in
          raw_from (λ k. handle_at s k) from (to - from) (λ k least most.
          ap (is_raw d) (spot-handle d b i j s run is k (omega arith) (omega arith))
          ∙ seen_raw k (range-each test lf (lb - lf) k ((and_parts (list_all test (range_with_len lf (lb - lf))) (all_distinct (b ∷ map (λ k. at k) (range_with_len lf (lb - lf)))) all).0) (omega arith) (omega arith)))
        where
          raw_from : (f : ℕ → ℕ) (a n : ℕ) → ((k : ℕ) → a ≤ k → k < a + n → is_raw d (f k) ≡ true) → are_raw d (map f (range_with_len a n)) ≡ true
          raw_from f a zero each = refl
          raw_from f a (suc n) each =
              and_from (is_raw d (f a)) (are_raw d (map f (range_with_len (a + 1) n))) (each a (omega arith) (omega arith)) (raw_from f (a + 1) n (λ k least most. each k (omega arith) (omega arith)))

  -- one of the run isn't there
  pub looked-not_there : list_all (λ k. is_some (branch_at d r k)) (range_with_len s.start.0 (suc s.end.0 - s.start.0)) ≡ false → are ≡ false
  looked-not_there none = elim (cases_Bool are) [
    | inr other ↦ other
    | inl whole ↦
        (let test : ℕ → Bool = λ k. is_some (branch_at d r k) in
        let begin = around.begin in
        let end = around.end in
        let all : list_all test (range_with_len lf (lb - lf)) ≡ true =
        (and_parts (list_all test (range_with_len lf (lb - lf))) (all_distinct (b ∷ map (λ k. at k) (range_with_len lf (lb - lf)))) (sym (ap (are_branches d b r) looked_at_is) ∙ whole)).0 in
        absurd (true≢false
        (sym (range-all test s.start.0 (suc s.end.0 - s.start.0) (λ k low high. range-each test lf (lb - lf) k all (omega arith) (omega arith))) ∙ none)))
  ]

  -- A branch, by the body that is copied of its block.

  pub read-is : (from to : ℕ) (bodies : List (List ℕ)) → lf ≤ from → from ≤ to → to ≤ lb → AreBodies d (link_handles (links_between s from to)) bodies
      → (n : ℕ) → from + n < to → branch_of s.size (count_at s (from + n)) (get_or bodies n []) ≡ branch_at d r (from + n)
  read-is from to bodies low upto high copied n within =
      let first = around.first in
      let behind = around.behind in
      let near = around.near in
      let k : ℕ = from + n in
      let hs : List ℕ = map (λ k. handle_at s k) (range_with_len from (to - from)) in
      let hs_is : link_handles (links_between s from to) ≡ hs = handles-are s from to (omega arith) upto (omega arith) in
      let these : AreBodies d hs bodies = subst (λ (xs : List ℕ). AreBodies d xs bodies) hs_is copied in
      let same : handle_at s k ≡ at k = spot-handle d b i j s run is k (omega arith) (omega arith) in
      let raw : is_raw d (at k) ≡ true = ap (is_raw d) (sym same) ∙ raw-range d (λ k. handle_at s k) from (to - from) k these.raw (omega arith) (omega arith) in
      let long : length hs ≡ to - from = length-map-range_with_len (λ (m : ℕ). handle_at s m) from (to - from) in
      let bytes : get_or bodies n [] ≡ raw_bytes_of d (at k) =
      body-at d hs bodies n (omega arith) these ∙ ap (raw_bytes_of d) (get_or-map-range_with_len (λ (m : ℕ). handle_at s m) from (to - from) n k 0 (omega arith) refl ∙ same) in
      let count : count_at s k ≡ get_or r.counts k 0 = spot-count d b i j s run is k (omega arith) (omega arith) in
      let size : s.size ≡ r.size = is.size in
      (λ e. branch_of (size e) (count e) (bytes e))
      ∙ sym (cond-true (is_raw d (at k)) (branch_of r.size (get_or r.counts k 0) (raw_bytes_of d (at k))) None raw)

  module _ (bodies : LookedBodies) (left_bodies : AreBodies d (link_handles (left_links s looked)) (bytes_of_bodies bodies.left.items))
      (right_bodies : AreBodies d (link_handles (right_links s looked)) (bytes_of_bodies bodies.right.items)) where
    left-read_is : looked.left ≡ true → left_read s looked bodies ≡ branch_at d r (s.start.0 - 1)
    left-read_is so =
        let some = there.left so in
        let from : lf ≡ s.start.0 - 1 = ap (λ (t : Bool). s.start.0 - (if t then 1 else 0)) so in
        let place : lf + 0 ≡ s.start.0 - 1 = omega arith in
        let body : List ℕ = get_or (bytes_of_bodies bodies.left.items) 0 [] in
        let end = around.end in
        let mid = run.order in
        cond-true looked.left (branch_of s.size (count_at s (s.start.0 - 1)) body) (Some []) so
        ∙ ap (λ (k : ℕ). branch_of s.size (count_at s k) body) (sym place)
        ∙ read-is lf s.start.0 (bytes_of_bodies bodies.left.items) (omega arith) (omega arith) (omega arith) left_bodies 0 (omega arith)
        ∙ ap (branch_at d r) place

    right-read_is : looked.right ≡ true → right_read s looked bodies ≡ branch_at d r (s.end.0 + 1)
    right-read_is so =
        let some = there.right so in
        let behind : lb ≡ s.end.0 + 2 = ap (λ (t : Bool). s.end.0 + (if t then 2 else 1)) so in
        let place : (s.end.0 + 1) + 0 ≡ s.end.0 + 1 = omega arith in
        let body : List ℕ = get_or (bytes_of_bodies bodies.right.items) 0 [] in
        let begin = around.begin in
        let mid = run.order in
        cond-true looked.right (branch_of s.size (count_at s (s.end.0 + 1)) body) (Some []) so
        ∙ ap (λ (k : ℕ). branch_of s.size (count_at s k) body) (sym place)
        ∙ read-is (s.end.0 + 1) lb (bytes_of_bodies bodies.right.items) (omega arith) (omega arith) (omega arith) right_bodies 0 (omega arith)
        ∙ ap (branch_at d r) place

    -- a neighbour that isn't what the root says
    pub neighbour-missing : MissesNeighbour s looked bodies → are ≡ false
    neighbour-missing (inl none) = elim (cases_Bool looked.left) [
      | inl so ↦
          (let some = there.left so in
          let from : lf ≡ s.start.0 - 1 = ap (λ (t : Bool). s.start.0 - (if t then 1 else 0)) so in
          let end = around.end in
          let mid = run.order in
          looked-missing (s.start.0 - 1) (omega arith) (omega arith) (sym (left-read_is so) ∙ none))
      | inr other ↦ (let never : Some [] ≡ None = sym (cond-false looked.left (branch_of s.size (count_at s (s.start.0 - 1)) (get_or (bytes_of_bodies bodies.left.items) 0 [])) (Some []) other) ∙ none in absurd (cc never))
    ]
    neighbour-missing (inr none) = elim (cases_Bool looked.right) [
      | inl so ↦
          (let some = there.right so in
          let behind : lb ≡ s.end.0 + 2 = ap (λ (t : Bool). s.end.0 + (if t then 2 else 1)) so in
          let begin = around.begin in
          let mid = run.order in
          looked-missing (s.end.0 + 1) (omega arith) (omega arith) (sym (right-read_is so) ∙ none))
      | inr other ↦ (let never : Some [] ≡ None = sym (cond-false looked.right (branch_of s.size (count_at s (s.end.0 + 1)) (get_or (bytes_of_bodies bodies.right.items) 0 [])) (Some []) other) ∙ none in absurd (cc never))
    ]

    -- or all is there
    module _ (neighbours : Neighbours) (reads : ReadsNeighbours s looked bodies neighbours) where
      left_there : looked.left ≡ true → branch_at d r (s.start.0 - 1) ≡ Some neighbours.left.elements
      left_there so = sym (left-read_is so) ∙ reads.left

      right_there : looked.right ≡ true → branch_at d r (s.end.0 + 1) ≡ Some neighbours.right.elements
      right_there so = sym (right-read_is so) ∙ reads.right

      pub neighbours-are : AreNeighbours s ps i j new looked neighbours
      neighbours-are = record {
        left = left;
        right = right;
        left_is = λ so.
            let some = there.left so in
            let order = run.order in
            let last = run.last in
            let many = is.branches in
            let all = spot-many d b i j s run is in
            sym (found-piece d b (spot-some d b i j s run is) (s.start.0 - 1) neighbours.left.elements (omega arith) (left_there so)) ∙ sym (left-at s ps i j new spot some);
        right_is = λ so.
            let some = there.right so in
            let many = is.branches in
            let all = spot-many d b i j s run is in
            sym (found-piece d b (spot-some d b i j s run is) (s.end.0 + 1) neighbours.right.elements (omega arith) (right_there so)) ∙ sym (right-at s ps i j new spot);
      }

      pub all-there : list_all (λ k. is_some (branch_at d r k)) (range_with_len s.start.0 (suc s.end.0 - s.start.0)) ≡ true
          → (k : ℕ) → lf ≤ k → k < lb → is_some (branch_at d r k) ≡ true
      all-there each k low high = elim (cases_Bool (nat_lt k s.start.0)) [
        | inl before ↦
            (let place = around.left k low (ltb-true k s.start.0 before) in
            ap (λ (n : ℕ). is_some (branch_at d r n)) place.1 ∙ ap (λ (o : Option BranchPiece). is_some o) (left_there place.0))
        | inr from ↦ elim (cases_Bool (nat_lt s.end.0 k)) [
          | inl past ↦
              (let place = around.right k (ltb-true s.end.0 k past) high in
              ap (λ (n : ℕ). is_some (branch_at d r n)) place.1 ∙ ap (λ (o : Option BranchPiece). is_some o) (right_there place.0))
          | inr upto ↦
              (let first = ltb-false k s.start.0 from in
              let last = ltb-false s.end.0 k upto in
              range-each (λ k. is_some (branch_at d r k)) s.start.0 (suc s.end.0 - s.start.0) k each first (omega arith))
        ]
      ]

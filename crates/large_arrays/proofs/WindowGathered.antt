-- That what is gathered is what an edit takes.
use Rattle.std.proofs.Common.{◌≡◌, ℕ, zero, suc, ◌+◌, ◌-◌, ◌<◌, ◌≤◌, ◌&&◌, ◌||◌, ◌==◌, nat_le, nat_lt, if◌then◌else◌, Bool, true, false, List, [], ◌∷◌, ◌++◌, Vec, Global, length, map, take, drop, get_or, refl, sym, ap, ap₂, subst, ◌∙◌, inl, inr, arith, ltb-true, length-append}
use Rattle.std.proofs.lemmas.Bool.{cases_Bool, true≢false, eqb-true}
use Rattle.std.proofs.lemmas.List.{length-map, map-append, get_or-map}
use Rattle.std.proofs.lemmas.List.Elements.{All-append, All-nil}
use Rattle.std.proofs.lemmas.List.FromFn.{length-map-range_with_len, get_or-map-range_with_len}
use Rattle.std.specs.List.{All, range_with_len}
use Rattle.geos_model.specs.ElementArray.{all_distinct}
use Rattle.geos_model.specs.Document.{Document, is_raw}
use Rattle.geos_model.specs.Heap.{capacity}
use Rattle.vm_chains.proofs.WalkLemmas.{raw_live}
use Rattle.geos_model.specs.Pieces.{BranchPiece, piece_weight}
use Rattle.geos_model.specs.LargeLayout.{Root}
use Rattle.geos_model.specs.Spread.{first_place, end_place, middle, left_piece, right_piece}
use Rattle.large_bodies.specs.SizedElements.{SizedPieces}
use Rattle.geos_model.specs.LargeBlocks.{root_at, pieces_at}
use Rattle.geos_model.specs.LargeWindow.{left_joins, right_joins, window_first, window_end, window_pieces, staying}
use Rattle.large_arrays.specs.Bodies.{AreBodies, are_raw, bytes_of_bodies}
use Rattle.large_arrays.specs.Gathering.{IsGatheredWindow, AreGathered, window_olds}
use Rattle.large_arrays.specs.HandleLists.{old_handles, old_pairs}
use Rattle.geos_model.specs.JoinedPieces.{window_of}
use Rattle.large_arrays.specs.LookedBranches.{HasLinks, IsPieceSpot, AreThere, AreAmong, AreLooked, AreNeighbours, ReadsNeighbours, HaveAllBodies, first_with, behind_with, links_between, handle_at}
use Rattle.large_arrays.specs.Spots.{link_handles}
use Rattle.large_arrays.specs.declared.gathered.Gathered.{Gathered}
use Rattle.large_arrays.specs.declared.handles.OldBranch.{OldBranch}
use Rattle.large_arrays.specs.declared.joining.LookedBodies.{LookedBodies}
use Rattle.large_arrays.specs.declared.joining.Neighbours.{Neighbours}
use Rattle.large_arrays.specs.declared.middle.Middle.{Middle}
use Rattle.large_bodies.specs.declared.neighbours.Sides.{Sides}
use Rattle.large_arrays.specs.declared.spot.Spot.{Spot}
use Rattle.large_arrays.specs.declared.staying.StayingBytes.{StayingBytes}
use Rattle.large_arrays.specs.WindowParts.{staying_at, staying_pairs}
use Rattle.large_arrays.proofs.HandlePlaces.{pairs_handles}
use Rattle.large_arrays.proofs.WindowPieces.{window-pieces-are}
use Rattle.large_arrays.proofs.SpotLinks.{range-same, range-append, handles-are, links-long, once-range, raw-range, bodies-append, bodies-zip}
use Rattle.large_arrays.proofs.SpotPieces.{piece-spot, spot-handle}
use Rattle.large_arrays.proofs.LookedSides.{IsAround, is-around, there-among, left-at, right-at}
use Rattle.large_arrays.proofs.JoinedWindow.{looked-all, neighbours-are, all-there}

-- Branches with what stays of each, from a place on.

pairs_first : (hs : List ℕ) (k start end : ℕ) (w : StayingBytes) → map (λ (p : ℕ × ℕ). p.0) (staying_pairs hs k start end w) ≡ hs
pairs_first [] k start end w = refl
pairs_first (h ∷ hs) k start end w = ap (λ (xs : List ℕ). h ∷ xs) (pairs_first hs (suc k) start end w)

pairs_are : (f : ℕ → ℕ) (k n start end : ℕ) (w : StayingBytes)
    → staying_pairs (map f (range_with_len k n)) k start end w ≡ map (λ m. (f m, staying_at start end w m)) (range_with_len k n)
pairs_are f k zero start end w = refl
pairs_are f k (suc n) start end w =
    let next : suc k ≡ k + 1 = omega arith in
    ap (λ (xs : List (ℕ × ℕ)). (f k, staying_at start end w k) ∷ xs)
    (ap (λ (m : ℕ). staying_pairs (map f (range_with_len (k + 1) n)) m start end w) next ∙ pairs_are f (k + 1) n start end w)

-- what is taken where a neighbour is joined
abbrev taken : Bool → List (Vec ℕ Global) → List (Vec ℕ Global)
taken joined bodies = if joined then bodies else []

-- What is known of what is put together, of any bodies.
pub record IsPut (b : ℕ) (s : Spot) (m : Middle) (looked joined : Sides) (bodies : LookedBodies) (neighbours : Neighbours) (g : Gathered) : Type 0 where
  pub run : HasLinks s
  pub there : AreThere s looked
  pub among : AreAmong joined looked
  pub have : HaveAllBodies s looked bodies
  pub once : all_distinct (b ∷ link_handles (links_between s (first_with s looked) (behind_with s looked))) ≡ true
  pub reads : ReadsNeighbours s looked bodies neighbours
  pub first : g.first ≡ first_with s joined
  pub olds : (let w : StayingBytes = record {
    left = piece_weight neighbours.left.size neighbours.left.elements;
    head = m.head;
    tail = m.tail;
    right = piece_weight neighbours.right.size neighbours.right.elements;
  } in old_pairs g.olds.items ≡ staying_pairs (link_handles (links_between s (first_with s joined) (behind_with s joined))) (first_with s joined) s.start.0 s.end.0 w)
  pub copied : g.bodies.items ≡ (if joined.left then bodies.left.items else []) ++ (bodies.run.items ++ (if joined.right then bodies.right.items else []))
  pub pieces : g.pieces ≡ record {
    size = m.pieces.size;
    pieces = window_of m.pieces.size joined.left neighbours.left.elements m.pieces.pieces joined.right neighbours.right.elements ((s.start.0 == 0) && (s.end.0 + 1 == s.branches));
  }
  pub head : g.head ≡ nat_le m.tail m.head

module _ (b : ℕ) (s : Spot) (m : Middle) (looked joined : Sides) (bodies : LookedBodies) (neighbours : Neighbours) (g : Gathered) (put : IsPut b s m looked joined bodies neighbours g) where
  abbrev all : IsAround s looked
  all = is-around s looked put.run put.there

  abbrev some : IsAround s joined
  some = is-around s joined put.run (there-among s joined looked put.there put.among)

  abbrev lf : ℕ
  lf = first_with s looked

  abbrev lb : ℕ
  lb = behind_with s looked

  abbrev wf : ℕ
  wf = first_with s joined

  abbrev wb : ℕ
  wb = behind_with s joined

  abbrev h : ℕ → ℕ
  h k = handle_at s k

  abbrev w : StayingBytes
  w = record {
    left = piece_weight neighbours.left.size neighbours.left.elements;
    head = m.head;
    tail = m.tail;
    right = piece_weight neighbours.right.size neighbours.right.elements;
  }

  less_joined : (x y : Bool) → (x ≡ true → y ≡ true) → s.start.0 - (if y then 1 else 0) ≤ s.start.0 - (if x then 1 else 0)
  less_joined true true so = omega arith
  less_joined true false so = absurd (true≢false (sym (so refl)))
  less_joined false true so = omega arith
  less_joined false false so = omega arith

  more_looked : (x y : Bool) → (x ≡ true → y ≡ true) → s.end.0 + (if x then 2 else 1) ≤ s.end.0 + (if y then 2 else 1)
  more_looked true true so = omega arith
  more_looked true false so = absurd (true≢false (sym (so refl)))
  more_looked false true so = omega arith
  more_looked false false so = omega arith

  first_in : lf ≤ wf
  first_in = less_joined joined.left looked.left put.among.left

  behind_in : wb ≤ lb
  behind_in = more_looked joined.right looked.right put.among.right

  order : wf ≤ wb
  order = (let begin = some.begin in let end = some.end in let mid = put.run.order in omega arith)

  looked_order : lf ≤ lb
  looked_order = (let begin = all.begin in let end = all.end in let mid = put.run.order in omega arith)

  pub put-handles : old_handles g.olds.items ≡ map h (range_with_len wf (wb - wf))
  put-handles =
      sym (pairs_handles g.olds.items) ∙ ap (λ (ps : List (ℕ × ℕ)). map (λ (p : ℕ × ℕ). p.0) ps) put.olds
      ∙ pairs_first (link_handles (links_between s wf wb)) wf s.start.0 s.end.0 w ∙ handles-are s wf wb some.first order some.behind

  olds_many : length g.olds.items ≡ wb - wf
  olds_many =
      sym (length-map g.olds.items (λ (o : OldBranch). o.handle.0)) ∙ ap (λ (hs : List ℕ). length hs) put-handles ∙ length-map-range_with_len h wf (wb - wf)

  -- Over any store.

  taken_many : (joins : Bool) (bodies : List (Vec ℕ Global)) → (joins ≡ true → length bodies ≡ 1) → length (taken joins bodies) ≡ (if joins then 1 else 0)
  taken_many true bodies many = many refl
  taken_many false bodies many = refl

  taken_short : (joins : Bool) (bodies : List (Vec ℕ Global)) → All (λ body. length body.items ≤ capacity) bodies → All (λ body. length body.items ≤ capacity) (taken joins bodies)
  taken_short true bodies short = short
  taken_short false bodies short = All-nil (λ (body : Vec ℕ Global). length body.items ≤ capacity)

  one_left : looked.left ≡ true → s.start.0 - lf ≡ 1
  one_left so =
      let some = put.there.left so in
      let is : lf ≡ s.start.0 - 1 = ap (λ (t : Bool). s.start.0 - (if t then 1 else 0)) so in
      omega arith

  one_right : looked.right ≡ true → lb - (s.end.0 + 1) ≡ 1
  one_right so = (let is : lb ≡ s.end.0 + 2 = ap (λ (t : Bool). s.end.0 + (if t then 2 else 1)) so in omega arith)

  sum_is : (x y : Bool) → (x ≡ true → 0 < s.start.0)
      → (if x then 1 else 0) + ((s.end.0 + 1 - s.start.0) + (if y then 1 else 0)) ≡ (s.end.0 + (if y then 2 else 1)) - (s.start.0 - (if x then 1 else 0))
  sum_is true true so = (let low = so refl in let mid = put.run.order in omega arith)
  sum_is true false so = (let low = so refl in let mid = put.run.order in omega arith)
  sum_is false true so = (let mid = put.run.order in omega arith)
  sum_is false false so = (let mid = put.run.order in omega arith)

  bodies_many : length g.bodies.items ≡ wb - wf
  bodies_many =
      let begin = all.begin in
      let end = all.end in
      let first = all.first in
      let behind = all.behind in
      let mid = put.run.order in
      let left : length (taken joined.left bodies.left.items) ≡ (if joined.left then 1 else 0) = taken_many joined.left bodies.left.items (λ so.
      put.have.left.many ∙ links-long s lf s.start.0 first begin (omega arith) ∙ one_left (put.among.left so)) in
      let right : length (taken joined.right bodies.right.items) ≡ (if joined.right then 1 else 0) = taken_many joined.right bodies.right.items (λ so.
      put.have.right.many ∙ links-long s (s.end.0 + 1) lb (omega arith) end behind ∙ one_right (put.among.right so)) in
      let run : length bodies.run.items ≡ s.end.0 + 1 - s.start.0 = put.have.run.many ∙ links-long s s.start.0 (s.end.0 + 1) (omega arith) (omega arith) (omega arith) in
      let inner = length-append bodies.run.items (taken joined.right bodies.right.items) in
      let outer = length-append (taken joined.left bodies.left.items) (bodies.run.items ++ taken joined.right bodies.right.items) in
      ap (λ (xs : List (Vec ℕ Global)). length xs) put.copied ∙ outer ∙ ap₂ (λ (x y : ℕ). x + y) left (inner ∙ ap₂ (λ (x y : ℕ). x + y) run right)
      ∙ sum_is joined.left joined.right (λ so. put.there.left (put.among.left so))

  pub put-listed : (d : Document) → are_raw d (link_handles (links_between s lf lb)) ≡ true → AreGathered d b g
  put-listed d raw =
      let looked_are = handles-are s lf lb all.first looked_order all.behind in
      let low = first_in in
      let high = behind_in in
      let ranged : are_raw d (map h (range_with_len lf (lb - lf))) ≡ true = ap (are_raw d) (sym looked_are) ∙ raw in
      record {
        live = λ k o within.
            let many = olds_many in
            let here : k < wb - wf = omega arith in
            let handle : h (wf + k) ≡ (get_or g.olds.items k o).handle.0 =
            sym (get_or-map-range_with_len h wf (wb - wf) k (wf + k) 0 here refl) ∙ ap (λ (hs : List ℕ). get_or hs k 0) (sym put-handles) ∙ get_or-map (λ (x : OldBranch). x.handle.0) g.olds.items k o 0 within in
            raw_live d (get_or g.olds.items k o).handle.0 (ap (is_raw d) (sym handle) ∙ raw-range d h lf (lb - lf) (wf + k) ranged (omega arith) (omega arith));
        once =
            (let whole : all_distinct (b ∷ map h (range_with_len lf (lb - lf))) ≡ true = ap (λ (hs : List ℕ). all_distinct (b ∷ hs)) (sym looked_are) ∙ put.once in
            let upto = order in
            ap (λ (hs : List ℕ). all_distinct (b ∷ hs)) put-handles ∙ once-range b h lf (lb - lf) wf (wb - wf) low (omega arith) whole);
        bodies = bodies_many ∙ sym olds_many;
        short =
            subst (All (λ (body : Vec ℕ Global). length body.items ≤ capacity)) (sym put.copied)
            (All-append (λ (body : Vec ℕ Global). length body.items ≤ capacity) (taken joined.left bodies.left.items) (bodies.run.items ++ taken joined.right bodies.right.items)
            (taken_short joined.left bodies.left.items put.have.left.short)
            (All-append (λ (body : Vec ℕ Global). length body.items ≤ capacity) bodies.run.items (taken joined.right bodies.right.items) put.have.run.short (taken_short joined.right bodies.right.items put.have.right.short)));
      }

  -- In a document.
  module _ (d : Document) (i j : ℕ) (new : BranchPiece) (are : AreLooked d b i j new s m looked bodies)
      (left : joined.left ≡ left_joins s.size (pieces_at d (root_at d b)) i j new) (right : joined.right ≡ right_joins s.size (pieces_at d (root_at d b)) i j new) where
    abbrev r : Root
    r = root_at d b

    abbrev ps : List BranchPiece
    ps = pieces_at d r

    abbrev spot : IsPieceSpot s ps i j
    spot = piece-spot d b i j s put.run are.spot are.order

    abbrev beside : AreNeighbours s ps i j new looked neighbours
    beside = neighbours-are d b i j new s looked put.run put.there are.spot are.order are.left are.right bodies are.left_bodies are.right_bodies neighbours put.reads

    -- The places of the window.

    from_is : (first_place (map length ps) i j).0 ≡ s.start.0
    from_is = ap (λ (p : ℕ × ℕ). p.0) (sym spot.start)

    to_is : (end_place (map length ps) j).0 ≡ s.end.0
    to_is = ap (λ (p : ℕ × ℕ). p.0) (sym spot.end)

    left_is : left_joins r.size ps i j new ≡ joined.left
    left_is = ap (λ (n : ℕ). left_joins n ps i j new) (sym are.spot.size) ∙ sym left

    right_is : right_joins r.size ps i j new ≡ joined.right
    right_is = ap (λ (n : ℕ). right_joins n ps i j new) (sym are.spot.size) ∙ sym right

    first_is : window_first r.size ps i j new ≡ wf
    first_is = ap₂ (λ (f : ℕ) (t : Bool). f - (if t then 1 else 0)) from_is left_is

    end_is : window_end r.size ps i j new ≡ wb
    end_is = ap₂ (λ (f : ℕ) (t : Bool). f + (if t then 2 else 1)) to_is right_is

    -- What stays.

    abbrev stays : ℕ × ℕ → ℕ × ℕ → ℕ → ℕ
    stays from to k =
        let piece : BranchPiece = get_or ps k [] in
        if nat_lt k from.0 || nat_lt to.0 k then piece_weight s.size piece
        else (if k == from.0 then piece_weight s.size (take from.1 piece) else 0)
        + (if k == to.0 then piece_weight s.size (drop to.1 piece) else 0)

    if_same : (t : Bool) (x y : ℕ) → (t ≡ true → x ≡ y) → (if t then x else 0) ≡ (if t then y else 0)
    if_same true x y same = same refl
    if_same false x y same = refl

    head_is : m.head ≡ piece_weight s.size (take s.start.1 (get_or ps s.start.0 []))
    head_is = are.middle.head ∙ ap₂ (λ (n : ℕ) (p : ℕ × ℕ). piece_weight n (take p.1 (get_or ps p.0 []))) (sym are.spot.size) (sym are.spot.start)

    tail_is : m.tail ≡ piece_weight s.size (drop s.end.1 (get_or ps s.end.0 []))
    tail_is = are.middle.tail ∙ ap₂ (λ (n : ℕ) (p : ℕ × ℕ). piece_weight n (drop p.1 (get_or ps p.0 []))) (sym are.spot.size) (sym are.spot.end)

    -- of a neighbour all stays
    beside_left : (k : ℕ) → joined.left ≡ true → k ≡ s.start.0 - 1 → w.left ≡ piece_weight s.size (get_or ps k [])
    beside_left k joins place =
        let so = put.among.left joins in
        ap₂ (λ (n : ℕ) (p : BranchPiece). piece_weight n p) put.reads.left_size
        (beside.left_is so ∙ left-at s ps i j new spot (put.there.left so) ∙ ap (λ (n : ℕ). get_or ps n []) (sym place))

    beside_right : (k : ℕ) → joined.right ≡ true → k ≡ s.end.0 + 1 → w.right ≡ piece_weight s.size (get_or ps k [])
    beside_right k joins place =
        let so = put.among.right joins in
        ap₂ (λ (n : ℕ) (p : BranchPiece). piece_weight n p) put.reads.right_size
        (beside.right_is so ∙ right-at s ps i j new spot ∙ ap (λ (n : ℕ). get_or ps n []) (sym place))

    stays_at : (k : ℕ) → wf ≤ k → k < wb → staying_at s.start.0 s.end.0 w k ≡ stays s.start s.end k
    stays_at k low high =
        let piece : BranchPiece = get_or ps k [] in
        let inside : ℕ = (if k == s.start.0 then piece_weight s.size (take s.start.1 piece) else 0) + (if k == s.end.0 then piece_weight s.size (drop s.end.1 piece) else 0) in
        let own : ℕ = (if k == s.start.0 then w.head else 0) + (if k == s.end.0 then w.tail else 0) in
        let before : Bool = nat_lt k s.start.0 in
        let behind : Bool = nat_lt s.end.0 k in
        elim (cases_Bool before) [
          | inl is ↦
              (let place = some.left k low (ltb-true k s.start.0 is) in
              ap (λ (t : Bool). if t then w.left else if behind then w.right else own) is
              ∙ beside_left k place.0 place.1
              ∙ sym (ap (λ (t : Bool). if t || behind then piece_weight s.size piece else inside) is))
          | inr from ↦ elim (cases_Bool behind) [
            | inl is ↦
                (let place = some.right k (ltb-true s.end.0 k is) high in
                ap₂ (λ (t u : Bool). if t then w.left else if u then w.right else own) from is
                ∙ beside_right k place.0 place.1
                ∙ sym (ap₂ (λ (t u : Bool). if t || u then piece_weight s.size piece else inside) from is))
            | inr upto ↦
                ap₂ (λ (t u : Bool). if t then w.left else if u then w.right else own) from upto
                ∙ ap₂ (λ (x y : ℕ). x + y)
                (if_same (k == s.start.0) w.head (piece_weight s.size (take s.start.1 piece)) (λ same. head_is ∙ ap (λ (n : ℕ). piece_weight s.size (take s.start.1 (get_or ps n []))) (sym (eqb-true k s.start.0 same))))
                (if_same (k == s.end.0) w.tail (piece_weight s.size (drop s.end.1 piece)) (λ same. tail_is ∙ ap (λ (n : ℕ). piece_weight s.size (drop s.end.1 (get_or ps n []))) (sym (eqb-true k s.end.0 same))))
                ∙ sym (ap₂ (λ (t u : Bool). if t || u then piece_weight s.size piece else inside) from upto)
          ]
        ]

    staying_is : (k : ℕ) → wf ≤ k → k < wb → staying_at s.start.0 s.end.0 w k ≡ staying r.size ps i j k
    staying_is k low high =
        stays_at k low high ∙ ap₂ (λ (p q : ℕ × ℕ). stays p q k) spot.start spot.end ∙ ap (λ (n : ℕ). staying n ps i j k) are.spot.size

    olds_are : old_pairs g.olds.items ≡ window_olds d b i j new
    olds_are =
        let both : (k : ℕ) → wf ≤ k → k < wf + (wb - wf) → (handle_at s k, staying_at s.start.0 s.end.0 w k) ≡ (get_or r.branches k 0, staying r.size ps i j k) = λ k low high.
        let first = some.first in
        let near = some.near in
        let upto = order in
        ap₂ (λ (x y : ℕ). (x, y)) (spot-handle d b i j s put.run are.spot k (omega arith) (omega arith)) (staying_is k low (omega arith)) in
        put.olds
        ∙ ap (λ (hs : List ℕ). staying_pairs hs wf s.start.0 s.end.0 w) (handles-are s wf wb some.first order some.behind)
        ∙ pairs_are h wf (wb - wf) s.start.0 s.end.0 w
        ∙ range-same (λ k. (handle_at s k, staying_at s.start.0 s.end.0 w k)) (λ k. (get_or r.branches k 0, staying r.size ps i j k)) wf (wb - wf) both
        ∙ sym (ap₂ (λ (x y : ℕ). map (λ k. (get_or r.branches k 0, staying r.size ps i j k)) (range_with_len x (y - x))) first_is end_is)

    -- The pieces.

    window_left : (size : ℕ) (x y : Bool) (p q : BranchPiece) (mid : List BranchPiece) (z : Bool) (u : BranchPiece) (alone : Bool) → x ≡ y → (x ≡ true → p ≡ q)
        → window_of size x p mid z u alone ≡ window_of size y q mid z u alone
    window_left size true true p q mid z u alone is same = ap (λ (l : BranchPiece). window_of size true l mid z u alone) (same refl)
    window_left size false false p q mid z u alone is same = refl
    window_left size true false p q mid z u alone is same = absurd (true≢false is)
    window_left size false true p q mid z u alone is same = absurd (true≢false (sym is))

    window_right : (size : ℕ) (z : Bool) (u : BranchPiece) (mid : List BranchPiece) (x y : Bool) (p q : BranchPiece) (alone : Bool) → x ≡ y → (x ≡ true → p ≡ q)
        → window_of size z u mid x p alone ≡ window_of size z u mid y q alone
    window_right size z u mid true true p q alone is same = ap (λ (l : BranchPiece). window_of size z u mid true l alone) (same refl)
    window_right size z u mid false false p q alone is same = refl
    window_right size z u mid true false p q alone is same = absurd (true≢false is)
    window_right size z u mid false true p q alone is same = absurd (true≢false (sym is))

    pieces_are : g.pieces ≡ record { size = r.size; pieces = window_pieces r.size ps i j new }
    pieces_are =
        let mid : List BranchPiece = middle r.size ps i j new in
        let here : Bool = (s.start.0 == 0) && (s.end.0 + 1 == s.branches) in
        let alone : Bool = ((first_place (map length ps) i j).0 == 0) && ((end_place (map length ps) j).0 + 1 == length ps) in
        let alone_is : here ≡ alone =
        ap₂ (λ (x y : Bool). x && y) (ap (λ (n : ℕ). n == 0) (sym from_is)) (ap₂ (λ (x y : ℕ). x + 1 == y) (sym to_is) spot.branches) in
        let joins : Bool = left_joins r.size ps i j new in
        let made : window_of r.size joined.left neighbours.left.elements mid joined.right neighbours.right.elements here ≡ window_pieces r.size ps i j new =
        window_left r.size joined.left joins neighbours.left.elements (left_piece ps i j) mid joined.right neighbours.right.elements here (sym left_is) (λ so. beside.left_is (put.among.left so))
        ∙ window_right r.size joins (left_piece ps i j) mid joined.right (right_joins r.size ps i j new) neighbours.right.elements (right_piece ps j) here (sym right_is) (λ so. beside.right_is (put.among.right so))
        ∙ ap (λ (t : Bool). window_of r.size joins (left_piece ps i j) mid (right_joins r.size ps i j new) (right_piece ps j) t) alone_is
        ∙ sym (window-pieces-are r.size ps i j new spot.some spot.full spot.order) in
        put.pieces
        ∙ ap (λ (p : SizedPieces). record {
          size = p.size;
          pieces = window_of p.size joined.left neighbours.left.elements p.pieces joined.right neighbours.right.elements here;
        }) are.middle.pieces
        ∙ ap (λ (qs : List BranchPiece). record { size = r.size; pieces = qs }) made

    -- The bodies.

    left_taken : (t : Bool) → joined.left ≡ t → AreBodies d (map h (range_with_len wf (s.start.0 - wf))) (bytes_of_bodies (taken t bodies.left.items))
    left_taken true joins =
        let so = put.among.left joins in
        let same : lf ≡ wf = ap (λ (x : Bool). s.start.0 - (if x then 1 else 0)) so ∙ sym (ap (λ (x : Bool). s.start.0 - (if x then 1 else 0)) joins) in
        let begin = all.begin in
        let end = all.end in
        let behind = all.behind in
        let mid = put.run.order in
        subst (λ (k : ℕ). AreBodies d (map h (range_with_len k (s.start.0 - k))) (bytes_of_bodies bodies.left.items)) same
        (subst (λ (hs : List ℕ). AreBodies d hs (bytes_of_bodies bodies.left.items)) (handles-are s lf s.start.0 all.first begin (omega arith)) are.left_bodies)
    left_taken false joins =
        let is : wf ≡ s.start.0 - 0 = ap (λ (x : Bool). s.start.0 - (if x then 1 else 0)) joins in
        let none : 0 ≡ s.start.0 - wf = omega arith in
        subst (λ (n : ℕ). AreBodies d (map h (range_with_len wf n)) []) none (record { raw = refl; bytes = refl })

    right_taken : (t : Bool) → joined.right ≡ t → AreBodies d (map h (range_with_len (s.end.0 + 1) (wb - (s.end.0 + 1)))) (bytes_of_bodies (taken t bodies.right.items))
    right_taken true joins =
        let so = put.among.right joins in
        let same : lb ≡ wb = ap (λ (x : Bool). s.end.0 + (if x then 2 else 1)) so ∙ sym (ap (λ (x : Bool). s.end.0 + (if x then 2 else 1)) joins) in
        let first = all.first in
        let begin = all.begin in
        let end = all.end in
        let mid = put.run.order in
        subst (λ (k : ℕ). AreBodies d (map h (range_with_len (s.end.0 + 1) (k - (s.end.0 + 1)))) (bytes_of_bodies bodies.right.items)) same
        (subst (λ (hs : List ℕ). AreBodies d hs (bytes_of_bodies bodies.right.items)) (handles-are s (s.end.0 + 1) lb (omega arith) end all.behind) are.right_bodies)
    right_taken false joins =
        let same : wb ≡ s.end.0 + 1 = ap (λ (x : Bool). s.end.0 + (if x then 2 else 1)) joins in
        let none : 0 ≡ wb - (s.end.0 + 1) = omega arith in
        subst (λ (n : ℕ). AreBodies d (map h (range_with_len (s.end.0 + 1) n)) []) none (record { raw = refl; bytes = refl })

    run_taken : AreBodies d (map h (range_with_len s.start.0 (s.end.0 + 1 - s.start.0))) (bytes_of_bodies bodies.run.items)
    run_taken =
        let first = all.first in
        let begin = all.begin in
        let end = all.end in
        let behind = all.behind in
        let mid = put.run.order in
        subst (λ (hs : List ℕ). AreBodies d hs (bytes_of_bodies bodies.run.items)) (handles-are s s.start.0 (s.end.0 + 1) (omega arith) (omega arith) (omega arith)) are.run_bodies

    all_taken : AreBodies d (old_handles g.olds.items) (bytes_of_bodies g.bodies.items)
    all_taken =
        let x : ℕ = s.start.0 - wf in
        let y : ℕ = s.end.0 + 1 - s.start.0 in
        let z : ℕ = wb - (s.end.0 + 1) in
        let begin = some.begin in
        let end = some.end in
        let mid = put.run.order in
        let second : s.start.0 ≡ wf + x = omega arith in
        let third : s.end.0 + 1 ≡ s.start.0 + y = omega arith in
        let sum : x + (y + z) ≡ wb - wf = omega arith in
        let hs : List ℕ = map h (range_with_len wf x) in
        let ys : List ℕ = map h (range_with_len s.start.0 y) in
        let zs : List ℕ = map h (range_with_len (s.end.0 + 1) z) in
        let handles : hs ++ (ys ++ zs) ≡ old_handles g.olds.items =
        ap (λ (ks : List ℕ). hs ++ ks) (ap (λ (n : ℕ). ys ++ map h (range_with_len n z)) third ∙ range-append h s.start.0 y z)
        ∙ ap (λ (n : ℕ). hs ++ map h (range_with_len n (y + z))) second ∙ range-append h wf x (y + z) ∙ ap (λ (n : ℕ). map h (range_with_len wf n)) sum
        ∙ sym put-handles in
        let left_ones : List (Vec ℕ Global) = taken joined.left bodies.left.items in
        let right_ones : List (Vec ℕ Global) = taken joined.right bodies.right.items in
        let bytes : bytes_of_bodies left_ones ++ (bytes_of_bodies bodies.run.items ++ bytes_of_bodies right_ones) ≡ bytes_of_bodies g.bodies.items =
        sym (ap bytes_of_bodies put.copied ∙ map-append (λ (v : Vec ℕ Global). v.items) left_ones (bodies.run.items ++ right_ones)
        ∙ ap (λ (us : List (List ℕ)). bytes_of_bodies left_ones ++ us) (map-append (λ (v : Vec ℕ Global). v.items) bodies.run.items right_ones)) in
        let both = bodies-append d ys zs (bytes_of_bodies bodies.run.items) (bytes_of_bodies right_ones) run_taken (right_taken joined.right refl) in
        subst (λ (us : List (List ℕ)). AreBodies d (old_handles g.olds.items) us) bytes
        (subst (λ (ks : List ℕ). AreBodies d ks (bytes_of_bodies left_ones ++ (bytes_of_bodies bodies.run.items ++ bytes_of_bodies right_ones))) handles
        (bodies-append d hs (ys ++ zs) (bytes_of_bodies left_ones) (bytes_of_bodies bodies.run.items ++ bytes_of_bodies right_ones) (left_taken joined.left refl) both))

    pub put-gathered : IsGatheredWindow d b i j new g
    put-gathered = record {
      looked =
          looked-all d b i j new s looked put.run put.there are.spot are.order are.left are.right
          (all-there d b i j new s looked put.run put.there are.spot are.order are.left are.right bodies are.left_bodies are.right_bodies neighbours put.reads are.there) put.once;
      first = put.first ∙ sym first_is;
      olds = olds_are;
      bodies = bodies-zip d g.olds.items g.bodies.items all_taken;
      pieces = pieces_are;
      head = put.head ∙ ap₂ (λ (x y : ℕ). nat_le x y) are.middle.tail are.middle.head;
    }

-- Pieces that are the same where an edit looks give the same window.
use Rattle.std.proofs.Common.{◌≡◌, ℕ, zero, suc, ◌+◌, ◌-◌, ◌<◌, ◌≤◌, Bool, true, false, ◌&&◌, ◌||◌, ◌==◌, nat_le, nat_lt, if◌then◌else◌, List, [], ◌∷◌, ◌++◌, length, map, take, drop, get_or, Option, refl, sym, ap, ap₂, ◌∙◌, inl, inr, arith}
use Rattle.std.proofs.lemmas.Bool.{cases_Bool, true≢false}
use Rattle.std.proofs.lemmas.List.{length-map}
use Rattle.std.specs.List.{list_all, range_with_len}
use Rattle.geos_model.specs.Pieces.{BranchPiece, piece_weight, branch_room, join_room}
use Rattle.geos_model.specs.LargeLayout.{Root}
use Rattle.geos_model.specs.Spread.{first_place, end_place, packed_from, with_last, middle, piece_before, left_piece, right_piece}
use Rattle.geos_model.specs.LargeWindow.{Window, window_first, window_end, window_pieces, window_handles, staying, left_joins, right_joins, looks_left, looks_right, looked_at}
use Rattle.large_bodies.specs.Neighbours.{ends_of, if_known, looks_left_by, looks_right_by, left_joins_by, right_joins_by}
use Rattle.geos_model.specs.JoinedPieces.{window_of}
use Rattle.large_bodies.specs.declared.neighbours.MiddleEnds.{MiddleEnds}
use Rattle.geos_model.proofs.SpreadSides.{is_full}
use Rattle.geos_model.proofs.SpreadPlaces.{first-end}
use Rattle.geos_model.proofs.SameWeights.{full-lengths}
use Rattle.geos_model.proofs.SeenBranches.{seen_first, seen_end, LooksAround, looks-around, left-looked, right-looked}
use Rattle.large_arrays.proofs.NeighbourLemmas.{left_joins-by, right_joins-by, left_joins-seen, right_joins-seen, looks_left-by, looks_right-by, looks_left-one, looks_right-one}
use Rattle.large_arrays.proofs.WindowPieces.{window-pieces-are}
use Rattle.large_arrays.proofs.WindowParts.{window_in}

-- a piece_weight that is known or not, where it is the same if it is known
known_same : (b : Bool) (m n : ℕ) → (b ≡ true → m ≡ n) → if_known b m ≡ if_known b n
known_same true m n same = ap (if_known true) (same refl)
known_same false m n same = refl

-- pieces that are joined are the same
joined_same : (size : ℕ) (lj rj alone : Bool) (l m r s : BranchPiece) (mid : List BranchPiece) → (lj ≡ true → l ≡ m) → (rj ≡ true → r ≡ s)
    → window_of size lj l mid rj r alone ≡ window_of size lj m mid rj s alone
joined_same size true true alone l m r s mid left right = ap₂ (λ (x y : BranchPiece). window_of size true x mid true y alone) (left refl) (right refl)
joined_same size true false alone l m r s mid left right = ap (λ (x : BranchPiece). window_of size true x mid false r alone) (left refl)
joined_same size false true alone l m r s mid left right = ap (λ (y : BranchPiece). window_of size false l mid true y alone) (right refl)
joined_same size false false alone l m r s mid left right = refl

pub map_same : {X : Type 0} (f g : ℕ → X) (a n : ℕ) → ((k : ℕ) → a ≤ k → k < a + n → f k ≡ g k) → map f (range_with_len a n) ≡ map g (range_with_len a n)
map_same f g a zero same = refl
map_same {X} f g a (suc n) same =
    ap₂ (λ (x : X) (xs : List X). x ∷ xs) (same a (omega arith) (omega arith)) (map_same f g (a + 1) n (λ k low high. same k (omega arith) (omega arith)))

-- a neighbour is among what is looked at
at_left : (looks : Bool) (f k : ℕ) → looks ≡ true → f ≡ suc k → f - (if looks then 1 else 0) ≤ k
at_left true f k looks is = omega arith
at_left false f k looks is = absurd (true≢false (sym looks))

at_right : (looks : Bool) (t : ℕ) → looks ≡ true → suc t < t + (if looks then 2 else 1)
at_right true t looks = omega arith
at_right false t looks = absurd (true≢false (sym looks))

module _ (size : ℕ) (ps qs : List BranchPiece) (i j : ℕ) (new : BranchPiece) (some : 0 < length ps) (full : is_full ps ≡ true) (order : i ≤ j)
    (counts : map length qs ≡ map length ps)
    (weights : (size == 0) ≡ false → (k : ℕ) → piece_weight size (get_or qs k []) ≡ piece_weight size (get_or ps k []))
    (seen : (k : ℕ) → seen_first size ps i j new ≤ k → k < seen_end size ps i j new → get_or qs k [] ≡ get_or ps k []) where
  abbrev cs : List ℕ
  cs = map length ps

  abbrev from : ℕ × ℕ
  from = first_place cs i j

  abbrev to : ℕ × ℕ
  to = end_place cs j

  many : length qs ≡ length ps
  many = sym (length-map qs (λ (p : BranchPiece). length p)) ∙ ap length counts ∙ length-map ps (λ (p : BranchPiece). length p)

  some_also : 0 < length qs
  some_also = (let same = many in omega arith)

  full_also : is_full qs ≡ true
  full_also =
      full-lengths qs ∙ ap (λ (ns : List ℕ). length ns == 1 || list_all (λ c. nat_lt 0 c) ns) counts ∙ sym (full-lengths ps) ∙ full

  around : LooksAround size ps i j new
  around = looks-around size ps i j new some

  run : from.0 ≤ to.0
  run = first-end cs i j order

  start_same : get_or qs from.0 [] ≡ get_or ps from.0 []
  start_same = (let begin = around.begin in let end = around.end in let upto = run in seen from.0 begin (omega arith))

  end_same : get_or qs to.0 [] ≡ get_or ps to.0 []
  end_same = (let begin = around.begin in let upto = run in seen to.0 (omega arith) around.end)

  -- what comes in the run's place
  abbrev middle_of : List ℕ → BranchPiece → BranchPiece → List BranchPiece
  middle_of ns start end =
      with_last size (if (first_place ns i j).0 == (end_place ns j).0 then branch_room else join_room)
      (packed_from size [] (take (first_place ns i j).1 start ++ new)) (drop (end_place ns j).1 end)

  middle_same : middle size qs i j new ≡ middle size ps i j new
  middle_same =
      ap (λ (ns : List ℕ). middle_of ns (get_or qs (first_place ns i j).0 []) (get_or qs (end_place ns j).0 [])) counts
      ∙ ap₂ (middle_of cs) start_same end_same

  -- The neighbours: the same where they are looked at, and as heavy where all elements have one size.

  left_at : left_piece qs i j ≡ piece_before qs from.0
  left_at = ap (λ (ns : List ℕ). piece_before qs (first_place ns i j).0) counts

  right_at : right_piece qs j ≡ get_or qs (suc to.0) []
  right_at = ap (λ (ns : List ℕ). get_or qs (suc (end_place ns j).0) []) counts

  left_seen : looks_left size ps i j new ≡ true → left_piece qs i j ≡ left_piece ps i j
  left_seen looks = left_at ∙ by_place from.0 refl
    where
      by_place : (f : ℕ) → from.0 ≡ f → piece_before qs f ≡ piece_before ps f
      by_place zero is = refl
      by_place (suc k) is =
          let low = at_left (looks_left size ps i j new) from.0 k looks is in
          let upto = run in
          let end = around.end in
          seen k low (omega arith)

  left_heavy : (size == 0) ≡ false → piece_weight size (left_piece qs i j) ≡ piece_weight size (left_piece ps i j)
  left_heavy one = ap (piece_weight size) left_at ∙ by_place from.0
    where
      by_place : (f : ℕ) → piece_weight size (piece_before qs f) ≡ piece_weight size (piece_before ps f)
      by_place zero = refl
      by_place (suc k) = weights one k

  right_seen : looks_right size ps i j new ≡ true → right_piece qs j ≡ right_piece ps j
  right_seen looks =
      let begin = around.begin in
      let upto = run in
      right_at ∙ seen (suc to.0) (omega arith) (at_right (looks_right size ps i j new) to.0 looks)

  right_heavy : (size == 0) ≡ false → piece_weight size (right_piece qs j) ≡ piece_weight size (right_piece ps j)
  right_heavy one = ap (piece_weight size) right_at ∙ weights one (suc to.0)

  -- which there are, and what comes between them
  abbrev left_there : List ℕ → Bool
  left_there ns = nat_lt 0 (first_place ns i j).0

  abbrev right_there : List ℕ → ℕ → Bool
  right_there ns n = nat_lt ((end_place ns j).0 + 1) n

  abbrev hl : Bool
  hl = left_there cs

  abbrev hr : Bool
  hr = right_there cs (length ps)

  abbrev ends : MiddleEnds
  ends = ends_of size (middle size ps i j new)

  left_there_same : left_there (map length qs) ≡ hl
  left_there_same = ap left_there counts

  right_there_same : right_there (map length qs) (length qs) ≡ hr
  right_there_same = ap₂ right_there counts many

  ends_same : ends_of size (middle size qs i j new) ≡ ends
  ends_same = ap (ends_of size) middle_same

  -- a test of these three
  by_three : {X : Type 0} (f : Bool → Bool → MiddleEnds → X) → f (left_there (map length qs)) (right_there (map length qs) (length qs)) (ends_of size (middle size qs i j new)) ≡ f hl hr ends
  by_three f =
      ap₂ (λ (x y : Bool). f x y (ends_of size (middle size qs i j new))) left_there_same right_there_same ∙ ap (f hl hr) ends_same

  -- weights that are looked at where sizes vary
  left_known : (size == 0) ≡ true → if_known (looks_left_by hl hr ends) (piece_weight size (left_piece qs i j)) ≡ if_known (looks_left_by hl hr ends) (piece_weight size (left_piece ps i j))
  left_known vary = known_same (looks_left_by hl hr ends) _ _ (λ looks. ap (piece_weight size) (left_seen (looks_left-by size ps i j new some full order vary ∙ looks)))

  right_known : (size == 0) ≡ true → if_known (looks_right_by hl hr ends) (piece_weight size (right_piece qs j)) ≡ if_known (looks_right_by hl hr ends) (piece_weight size (right_piece ps j))
  right_known vary = known_same (looks_right_by hl hr ends) _ _ (λ looks. ap (piece_weight size) (right_seen (looks_right-by size ps i j new some full order vary ∙ looks)))

  pub left_joins-same : left_joins size qs i j new ≡ left_joins size ps i j new
  left_joins-same =
      let wl : ℕ = piece_weight size (left_piece qs i j) in
      let wr : ℕ = piece_weight size (right_piece qs j) in
      elim (cases_Bool (size == 0)) [
        | inl vary ↦
            left_joins-seen size qs i j new some_also full_also order vary
            ∙ by_three (λ (a b : Bool) (e : MiddleEnds). left_joins_by (if_known (looks_left_by a b e) wl) (if_known (looks_right_by a b e) wr) e)
            ∙ ap₂ (λ (x y : Option ℕ). left_joins_by x y ends) (left_known vary) (right_known vary)
            ∙ sym (left_joins-seen size ps i j new some full order vary)
        | inr one ↦
            left_joins-by size qs i j new some_also full_also order
            ∙ by_three (λ (a b : Bool) (e : MiddleEnds). left_joins_by (if_known a wl) (if_known b wr) e)
            ∙ ap₂ (λ (m n : ℕ). left_joins_by (if_known hl m) (if_known hr n) ends) (left_heavy one) (right_heavy one)
            ∙ sym (left_joins-by size ps i j new some full order)
      ]

  pub right_joins-same : right_joins size qs i j new ≡ right_joins size ps i j new
  right_joins-same =
      let wl : ℕ = piece_weight size (left_piece qs i j) in
      let wr : ℕ = piece_weight size (right_piece qs j) in
      elim (cases_Bool (size == 0)) [
        | inl vary ↦
            right_joins-seen size qs i j new some_also full_also order vary
            ∙ by_three (λ (a b : Bool) (e : MiddleEnds). right_joins_by (if_known (looks_left_by a b e) wl) (if_known (looks_right_by a b e) wr) e)
            ∙ ap₂ (λ (x y : Option ℕ). right_joins_by x y ends) (left_known vary) (right_known vary)
            ∙ sym (right_joins-seen size ps i j new some full order vary)
        | inr one ↦
            right_joins-by size qs i j new some_also full_also order
            ∙ by_three (λ (a b : Bool) (e : MiddleEnds). right_joins_by (if_known a wl) (if_known b wr) e)
            ∙ ap₂ (λ (m n : ℕ). right_joins_by (if_known hl m) (if_known hr n) ends) (left_heavy one) (right_heavy one)
            ∙ sym (right_joins-by size ps i j new some full order)
      ]

  looks_left_same : looks_left size qs i j new ≡ looks_left size ps i j new
  looks_left_same = elim (cases_Bool (size == 0)) [
    | inl vary ↦ looks_left-by size qs i j new some_also full_also order vary ∙ by_three looks_left_by ∙ sym (looks_left-by size ps i j new some full order vary)
    | inr one ↦ looks_left-one size qs i j new some_also full_also order one ∙ left_joins-same ∙ sym (looks_left-one size ps i j new some full order one)
  ]

  looks_right_same : looks_right size qs i j new ≡ looks_right size ps i j new
  looks_right_same = elim (cases_Bool (size == 0)) [
    | inl vary ↦ looks_right-by size qs i j new some_also full_also order vary ∙ by_three looks_right_by ∙ sym (looks_right-by size ps i j new some full order vary)
    | inr one ↦ looks_right-one size qs i j new some_also full_also order one ∙ right_joins-same ∙ sym (looks_right-one size ps i j new some full order one)
  ]

  -- the places that are looked at, and those of the window
  pub looked_at-same : looked_at size qs i j new ≡ looked_at size ps i j new
  looked_at-same =
      let places : ℕ → ℕ → List ℕ = λ first behind. range_with_len first (behind - first) in
      let start : ℕ → Bool → ℕ = λ f b. f - (if b then 1 else 0) in
      let end : ℕ → Bool → ℕ = λ t b. t + (if b then 2 else 1) in
      ap₂ places (ap₂ start (ap (λ (ns : List ℕ). (first_place ns i j).0) counts) looks_left_same) (ap₂ end (ap (λ (ns : List ℕ). (end_place ns j).0) counts) looks_right_same)

  first_same : window_first size qs i j new ≡ window_first size ps i j new
  first_same = ap₂ (λ (f : ℕ) (b : Bool). f - (if b then 1 else 0)) (ap (λ (ns : List ℕ). (first_place ns i j).0) counts) left_joins-same

  behind_same : window_end size qs i j new ≡ window_end size ps i j new
  behind_same = ap₂ (λ (t : ℕ) (b : Bool). t + (if b then 2 else 1)) (ap (λ (ns : List ℕ). (end_place ns j).0) counts) right_joins-same

  -- The pieces that come.
  pieces_same : window_pieces size qs i j new ≡ window_pieces size ps i j new
  pieces_same =
      let l : BranchPiece = left_piece qs i j in
      let r : BranchPiece = right_piece qs j in
      let lj : Bool = left_joins size ps i j new in
      let rj : Bool = right_joins size ps i j new in
      let mid : List BranchPiece = middle size ps i j new in
      let alone : List ℕ → ℕ → Bool = λ ns n. ((first_place ns i j).0 == 0) && ((end_place ns j).0 + 1 == n) in
      window-pieces-are size qs i j new some_also full_also order
      ∙ ap₂ (λ (a b : Bool). window_of size a l (middle size qs i j new) b r (alone (map length qs) (length qs))) left_joins-same right_joins-same
      ∙ ap₂ (λ (m : List BranchPiece) (a : Bool). window_of size lj l m rj r a) middle_same (ap₂ alone counts many)
      ∙ joined_same size lj rj (alone cs (length ps)) l (left_piece ps i j) r (right_piece ps j) mid
      (λ joins. left_seen (left-looked size ps i j new joins)) (λ joins. right_seen (right-looked size ps i j new joins))
      ∙ sym (window-pieces-are size ps i j new some full order)

  -- What stays of the pieces of the window.
  stays_same : (k : ℕ) → window_first size ps i j new ≤ k → k < window_end size ps i j new → staying size qs i j k ≡ staying size ps i j k
  stays_same k low high =
      let stays : List ℕ → BranchPiece → ℕ = λ ns piece.
      if nat_lt k (first_place ns i j).0 || nat_lt (end_place ns j).0 k then piece_weight size piece
      else (if k == (first_place ns i j).0 then piece_weight size (take (first_place ns i j).1 piece) else 0)
      + (if k == (end_place ns j).0 then piece_weight size (drop (end_place ns j).1 piece) else 0) in
      let begin = around.from in
      let end = around.to in
      ap₂ stays counts (seen k (omega arith) (omega arith))

  -- So the window is the same, where the root is, and the new handles are.
  pub window_in-same : (r : Root) → r.counts ≡ cs → (fresh also : ℕ → List ℕ) → ((n : ℕ) → also n ≡ fresh n)
      → window_in qs (record r { size = size }) i j new also ≡ window_in ps (record r { size = size }) i j new fresh
  window_in-same r count fresh also same =
      let first : ℕ = window_first size ps i j new in
      let behind : ℕ = window_end size ps i j new in
      let placed : List BranchPiece = window_pieces size ps i j new in
      let pairs : (ℕ → ℕ) → ℕ → ℕ → List (ℕ × ℕ) = λ stay f b. map (λ k. (get_or r.branches k 0, stay k)) (range_with_len f (b - f)) in
      let heads : BranchPiece → BranchPiece → Bool = λ start end. nat_le (piece_weight size (drop to.1 end)) (piece_weight size (take from.1 start)) in
      let head : List BranchPiece → List ℕ → Bool = λ xs ns.
      nat_le (piece_weight size (drop (end_place ns j).1 (get_or xs (end_place ns j).0 []))) (piece_weight size (take (first_place ns i j).1 (get_or xs (first_place ns i j).0 []))) in
      let made : ℕ → ℕ → List (ℕ × ℕ) → Bool → List BranchPiece → List ℕ → Window = λ f b olds h come fresh_ones. record {
        first = f;
        behind = b;
        olds = map (λ p. p.0) olds;
        news = window_handles olds h (length come) fresh_ones;
        pieces = come;
      } in
      let come : List BranchPiece = window_pieces size qs i j new in
      let pairs_same : pairs (staying size qs i j) first behind ≡ pairs (staying size ps i j) first behind =
      map_same (λ k. (get_or r.branches k 0, staying size qs i j k)) (λ k. (get_or r.branches k 0, staying size ps i j k)) first (behind - first)
      (λ k low high. ap (λ (n : ℕ). (get_or r.branches k 0, n)) (stays_same k low (omega arith))) in
      let head_same : head qs r.counts ≡ head ps r.counts = ap (head qs) count ∙ ap₂ heads start_same end_same ∙ ap (head ps) (sym count) in
      ap₂ (λ (f b : ℕ). made f b (pairs (staying size qs i j) f b) (head qs r.counts) come (also (length come - (b - f)))) first_same behind_same
      ∙ ap₂ (λ (olds : List (ℕ × ℕ)) (h : Bool). made first behind olds h come (also (length come - (behind - first)))) pairs_same head_same
      ∙ ap (λ (xs : List BranchPiece). made first behind (pairs (staying size ps i j) first behind) (head ps r.counts) xs (also (length xs - (behind - first)))) pieces_same
      ∙ ap (made first behind (pairs (staying size ps i j) first behind) (head ps r.counts) placed) (same (length placed - (behind - first)))

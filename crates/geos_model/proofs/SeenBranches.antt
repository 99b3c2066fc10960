-- Which branches an edit looks at: all that it replaces are among them.
use Rattle.std.proofs.Common.{◌≡◌, ℕ, zero, suc, ◌+◌, ◌-◌, ◌<◌, ◌≤◌, Bool, true, false, ◌&&◌, ◌==◌, nat_le, nat_lt, if◌then◌else◌, List, [], ◌∷◌, ◌++◌, length, take, drop, map, get_or, is_some, refl, sym, ap, subst, ◌∙◌, inl, inr, arith, ltb-true, le-leb, leb-true, lt-ltb, eqb-true}
use Rattle.std.proofs.lemmas.Bool.{cases_Bool, and_parts, and_from, cond-true, cond-false, eqb-false, true≢false}
use Rattle.std.proofs.lemmas.List.{take-append-drop, take-take, drop-drop, drop-take}
use Rattle.std.specs.List.{Contains, list_all, range_with_len}
use Rattle.geos_model.specs.ElementArray.{all_distinct}
use Rattle.geos_model.specs.Document.{Document, is_raw}
use Rattle.geos_model.proofs.Chains.{contains_cases}
use Rattle.geos_model.proofs.BlockLists.{distinct-first, distinct-rest}
use Rattle.geos_model.specs.Pieces.{BranchPiece, piece_weight, join_room, are_joined}
use Rattle.geos_model.specs.LargeLayout.{Root}
use Rattle.geos_model.specs.Spread.{first_place, end_place, middle, piece_before, left_piece, right_piece, with_first, with_left}
use Rattle.geos_model.specs.LargeBlocks.{root_at, branch_at, pieces_at}
use Rattle.geos_model.specs.LargeWindow.{left_joins, right_joins, looks_left, looks_right, looked_at, are_branches, window_first, window_end}
use Rattle.geos_model.proofs.SpreadFits.{weight-append}
use Rattle.geos_model.proofs.SpreadCount.{ends}
use Rattle.geos_model.proofs.Windows.{last-next}
use Rattle.geos_model.proofs.WindowHandles.{handles-places}
use Rattle.geos_model.proofs.DistinctHandles.{distinct-cons, distinct-parts, there_before, there_behind}
use Rattle.geos_model.proofs.Layouts.{branch-raw}

-- What is joined is looked at.

-- behind a piece that is put first the last one weighs no less
last_grows : (size : ℕ) (l : BranchPiece) (mid : List BranchPiece) → 0 < length mid
    → piece_weight size (get_or mid (length mid - 1) []) ≤ piece_weight size (get_or (with_first size l mid) (length (with_first size l mid) - 1) [])
last_grows size l [] some = absurd (omega arith)
last_grows size [] (m ∷ ms) some = omega arith
last_grows size (y ∷ ys) (m ∷ ms) some =
    let l : BranchPiece = y ∷ ys in
    let b = are_joined size l m in
    let grown : List BranchPiece → Type 0 = λ ps. piece_weight size (get_or (m ∷ ms) (length (m ∷ ms) - 1) []) ≤ piece_weight size (get_or ps (length ps - 1) []) in
    elim (cases_Bool b) [
      | inl joined ↦ subst grown (sym (cond-true b _ _ joined)) (behind ms)
      | inr apart ↦ subst grown (sym (cond-false b _ _ apart)) (let same = ap (piece_weight size) (last-next l m ms) in omega arith)
    ]
  where
    behind : (rest : List BranchPiece) → piece_weight size (get_or (m ∷ rest) (length (m ∷ rest) - 1) [])
        ≤ piece_weight size (get_or (((y ∷ ys) ++ m) ∷ rest) (length (((y ∷ ys) ++ m) ∷ rest) - 1) [])
    behind [] = (let sum = weight-append size (y ∷ ys) m in omega arith)
    behind (n ∷ rest) =
        let old = ap (piece_weight size) (last-next m n rest) in
        let new = ap (piece_weight size) (last-next ((y ∷ ys) ++ m) n rest) in
        omega arith

module _ (size : ℕ) (ps : List BranchPiece) (i j : ℕ) (new : BranchPiece) where
  abbrev f : ℕ
  f = (first_place (map length ps) i j).0

  abbrev t : ℕ
  t = (end_place (map length ps) j).0

  abbrev mid : List BranchPiece
  mid = middle size ps i j new

  abbrev before : List BranchPiece
  before = with_left size ps i j new

  -- the tests of a right neighbour that is joined
  record JoinsRight : Type 0 where
    there : nat_lt (t + 1) (length ps) ≡ true
    some : 0 < length before
    light : piece_weight size (get_or before (length before - 1) []) + piece_weight size (right_piece ps j) ≤ join_room

  joins_right : right_joins size ps i j new ≡ true → JoinsRight
  joins_right is =
      let test : Bool = are_joined size (get_or before (length before - 1) []) (right_piece ps j) in
      let both = and_parts (nat_lt (t + 1) (length ps) && nat_lt 0 (length before)) test is in
      let parts = and_parts (nat_lt (t + 1) (length ps)) (nat_lt 0 (length before)) both.0 in
      record { there = parts.0; some = ltb-true 0 (length before) parts.1; light = leb-true _ join_room both.1 }

  pub left-looked : left_joins size ps i j new ≡ true → looks_left size ps i j new ≡ true
  left-looked is =
      let any : Bool = if length mid == 0 then nat_lt (t + 1) (length ps) else nat_le (piece_weight size (get_or mid 0 [])) join_room in
      let joins : Bool = if length mid == 0 then right_joins size ps i j new else are_joined size (left_piece ps i j) (get_or mid 0 []) in
      let parts = and_parts (nat_lt 0 f) joins is in
      elim (cases_Bool (size == 0)) [
        | inr one ↦ cond-false (size == 0) _ _ one ∙ is
        | inl vary ↦
            cond-true (size == 0) _ _ vary
            ∙ and_from (nat_lt 0 f) any parts.0 (elim (cases_Bool (length mid == 0)) [
              | inl none ↦ cond-true (length mid == 0) _ _ none ∙ (joins_right (sym (cond-true (length mid == 0) _ _ none) ∙ parts.1)).there
              | inr some ↦
                  (let both : are_joined size (left_piece ps i j) (get_or mid 0 []) ≡ true = sym (cond-false (length mid == 0) _ _ some) ∙ parts.1 in
                  let light = leb-true (piece_weight size (left_piece ps i j) + piece_weight size (get_or mid 0 [])) join_room both in
                  cond-false (length mid == 0) _ _ some ∙ le-leb (piece_weight size (get_or mid 0 [])) join_room (omega arith))
            ])
      ]

  -- where nothing is left of a run, what stands before is the left neighbour
  left_there : (k : ℕ) → 0 < length (with_first size (piece_before ps k) []) → 0 < k
  left_there zero some = absurd (omega arith)
  left_there (suc k) some = omega arith

  nothing_left : (qs : List BranchPiece) → (length qs == 0) ≡ true → 0 < length (with_first size (left_piece ps i j) qs) → 0 < f
  nothing_left [] none some = left_there f some
  nothing_left (q ∷ qs) none some = absurd (let never = eqb-true (length (q ∷ qs)) 0 none in omega arith)

  something_left : (qs : List BranchPiece) → (length qs == 0) ≡ false → 0 < length qs
  something_left [] some = absurd (true≢false some)
  something_left (q ∷ qs) some = omega arith

  pub right-looked : right_joins size ps i j new ≡ true → looks_right size ps i j new ≡ true
  right-looked is =
      let any : Bool = if length mid == 0 then nat_lt 0 f else nat_le (piece_weight size (get_or mid (length mid - 1) [])) join_room in
      let joins = joins_right is in
      elim (cases_Bool (size == 0)) [
        | inr one ↦ cond-false (size == 0) _ _ one ∙ is
        | inl vary ↦
            cond-true (size == 0) _ _ vary
            ∙ and_from (nat_lt (t + 1) (length ps)) any joins.there (elim (cases_Bool (length mid == 0)) [
              | inl none ↦ cond-true (length mid == 0) _ _ none ∙ lt-ltb 0 f (nothing_left mid none joins.some)
              | inr some ↦
                  (let grown = last_grows size (left_piece ps i j) mid (something_left mid some) in
                  let light = joins.light in
                  cond-false (length mid == 0) _ _ some ∙ le-leb (piece_weight size (get_or mid (length mid - 1) [])) join_room (omega arith))
            ])
      ]

  -- where it is looked right there is a piece
  looks_there : looks_right size ps i j new ≡ true → t + 1 < length ps
  looks_there is = elim (cases_Bool (size == 0)) [
    | inl vary ↦ ltb-true (t + 1) (length ps) (and_parts (nat_lt (t + 1) (length ps)) _ (sym (cond-true (size == 0) _ _ vary) ∙ is)).0
    | inr one ↦ ltb-true (t + 1) (length ps) (joins_right (sym (cond-false (size == 0) _ _ one) ∙ is)).there
  ]

  abbrev pub seen_first : ℕ
  seen_first = f - (if looks_left size ps i j new then 1 else 0)

  abbrev pub seen_end : ℕ
  seen_end = t + (if looks_right size ps i j new then 2 else 1)

  -- the run and the window are within what is looked at
  pub record LooksAround : Type 0 where
    pub from : seen_first ≤ window_first size ps i j new
    pub to : window_end size ps i j new ≤ seen_end
    pub begin : seen_first ≤ f
    pub end : t < seen_end
    pub within : seen_end ≤ length ps

  pub looks-around : 0 < length ps → LooksAround
  looks-around some = record {
    from = less (left_joins size ps i j new) (looks_left size ps i j new) left-looked;
    to = more (right_joins size ps i j new) (looks_right size ps i j new) right-looked;
    begin = omega arith;
    end = past (looks_right size ps i j new);
    within = inside (looks_right size ps i j new) refl;
  }
    where
      less : (a b : Bool) → (a ≡ true → b ≡ true) → f - (if b then 1 else 0) ≤ f - (if a then 1 else 0)
      less true true so = omega arith
      less true false so = absurd (true≢false (sym (so refl)))
      less false true so = omega arith
      less false false so = omega arith

      more : (a b : Bool) → (a ≡ true → b ≡ true) → t + (if a then 2 else 1) ≤ t + (if b then 2 else 1)
      more true true so = omega arith
      more true false so = absurd (true≢false (sym (so refl)))
      more false true so = omega arith
      more false false so = omega arith

      past : (b : Bool) → t < t + (if b then 2 else 1)
      past true = omega arith
      past false = omega arith

      inside : (b : Bool) → looks_right size ps i j new ≡ b → t + (if b then 2 else 1) ≤ length ps
      inside true is = (let low = looks_there is in omega arith)
      inside false is = (let low = ends ps j some in omega arith)

-- Branches that are looked at.

-- what holds of each place holds of what stands there
places-hold : (P : ℕ → Type 0) (g : ℕ → ℕ) (a n : ℕ) → ((k : ℕ) → a ≤ k → k < a + n → P (g k)) → (h : ℕ) → Contains (map g (range_with_len a n)) h → P h
places-hold P g a zero each h there = absurd (let low = there.1 in omega arith)
places-hold P g a (suc n) each h there = elim (contains_cases (g a) (map g (range_with_len (a + 1) n)) h there) [
  | inl is ↦ subst P is (each a (omega arith) (omega arith))
  | inr later ↦ places-hold P g (a + 1) n (λ k low more. each k (omega arith) (omega arith)) h later
]

all_places : (p : ℕ → Bool) (a n k : ℕ) → list_all p (range_with_len a n) ≡ true → a ≤ k → k < a + n → p k ≡ true
all_places p a zero k all low more = absurd (omega arith)
all_places p a (suc n) k all low more =
    let parts = and_parts (p a) (list_all p (range_with_len (a + 1) n)) all in
    elim (cases_Bool (k == a)) [
      | inl is ↦ ap p (eqb-true k a is) ∙ parts.0
      | inr other ↦ all_places p (a + 1) n k parts.1 (let apart = eqb-false k a other in omega arith) (omega arith)
    ]

module _ (d : Document) (b : ℕ) where
  abbrev r : Root
  r = root_at d b

  -- the blocks of the branches from one to another
  abbrev pub seen_blocks : ℕ → ℕ → List ℕ
  seen_blocks from to = take (to - from) (drop from r.branches)

  -- these are there, each once, and none is the root
  pub record AreSeen (from to : ℕ) : Type 0 where
    pub order : from ≤ to
    pub within : to ≤ length r.branches
    pub branch : (k : ℕ) → from ≤ k → k < to → is_some (branch_at d r k) ≡ true
    pub once : all_distinct (b ∷ seen_blocks from to) ≡ true

  blocks_are : (from to : ℕ) → from ≤ to → to ≤ length r.branches → map (λ k. get_or r.branches k 0) (range_with_len from (to - from)) ≡ seen_blocks from to
  blocks_are from to order within = handles-places r.branches from (to - from) (omega arith)

  pub seen-blocks_are : (from to : ℕ) → AreSeen from to → map (λ k. get_or r.branches k 0) (range_with_len from (to - from)) ≡ seen_blocks from to
  seen-blocks_are from to seen = blocks_are from to seen.order seen.within

  pub seen-from : (from to : ℕ) → from ≤ to → to ≤ length r.branches → are_branches d b r (range_with_len from (to - from)) ≡ true → AreSeen from to
  seen-from from to order within are =
      let ks : List ℕ = range_with_len from (to - from) in
      let test : ℕ → Bool = λ k. is_some (branch_at d r k) in
      let parts = and_parts (list_all test ks) (all_distinct (b ∷ map (λ k. get_or r.branches k 0) ks)) are in
      record {
        order = order;
        within = within;
        branch = λ k low more. all_places test from (to - from) k parts.0 low (omega arith);
        once = ap (λ (hs : List ℕ). all_distinct (b ∷ hs)) (sym (blocks_are from to order within)) ∙ parts.1;
      }

  -- some of them are among all
  module _ (from to first behind : ℕ) (low : from ≤ first) (order : first ≤ behind) (high : behind ≤ to) where
    abbrev all : List ℕ
    all = seen_blocks from to

    part_is : take (behind - first) (drop (first - from) all) ≡ seen_blocks first behind
    part_is =
        let whole : to - from ≡ (first - from) + (to - first) = omega arith in
        let sum : from + (first - from) ≡ first = omega arith in
        ap (λ (n : ℕ). take (behind - first) (drop (first - from) (take n (drop from r.branches)))) whole
        ∙ ap (take (behind - first)) (drop-take (first - from) (to - first) (drop from r.branches)
        ∙ ap (take (to - first)) (drop-drop (first - from) from r.branches ∙ ap (λ (n : ℕ). drop n r.branches) sum))
        ∙ take-take (behind - first) (to - first) (drop first r.branches) (omega arith)

    pub part-there : (h : ℕ) → Contains (seen_blocks first behind) h → Contains all h
    part-there h there =
        there_behind (first - from) all h (there_before (behind - first) (drop (first - from) all) h (subst (λ xs. Contains xs h) (sym part_is) there))

    pub seen-part : AreSeen from to → AreSeen first behind
    seen-part seen =
        let rest : List ℕ = drop (first - from) all in
        let halves = distinct-parts (take (first - from) all) rest (ap all_distinct (take-append-drop (first - from) all) ∙ distinct-rest b all seen.once) in
        let thirds = distinct-parts (take (behind - first) rest) (drop (behind - first) rest) (ap all_distinct (take-append-drop (behind - first) rest) ∙ halves.1) in
        record {
          order = order;
          within = (let end = seen.within in omega arith);
          branch = λ k least most. seen.branch k (omega arith) (omega arith);
          once = distinct-cons b (seen_blocks first behind) (λ there. distinct-first b all seen.once (part-there b there)) (ap all_distinct (sym part_is) ∙ thirds.0);
        }

  pub seen-raw : (from to : ℕ) → AreSeen from to → (h : ℕ) → Contains (seen_blocks from to) h → is_raw d h ≡ true
  seen-raw from to seen h there =
      let order = seen.order in
      places-hold (λ x. is_raw d x ≡ true) (λ k. get_or r.branches k 0) from (to - from) (λ k low more. branch-raw d b k (seen.branch k low (omega arith))) h
      (subst (λ xs. Contains xs h) (sym (blocks_are from to seen.order seen.within)) there)

  -- What an edit of a window looks at.
  pub window-seen : (i j : ℕ) (new : BranchPiece) → length (pieces_at d r) ≡ length r.branches → 0 < length (pieces_at d r)
      → (first_place (map length (pieces_at d r)) i j).0 ≤ (end_place (map length (pieces_at d r)) j).0
      → are_branches d b r (looked_at r.size (pieces_at d r) i j new) ≡ true
      → AreSeen (seen_first r.size (pieces_at d r) i j new) (seen_end r.size (pieces_at d r) i j new)
  window-seen i j new many some run are =
      let around = looks-around r.size (pieces_at d r) i j new some in
      let begin = around.begin in
      let end = around.end in
      let within = around.within in
      seen-from (seen_first r.size (pieces_at d r) i j new) (seen_end r.size (pieces_at d r) i j new) (omega arith) (omega arith) are

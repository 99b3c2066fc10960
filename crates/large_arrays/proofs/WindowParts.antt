-- A window put together of what is known of it is the window.
use Rattle.std.proofs.Common.{◌≡◌, ℕ, zero, suc, ◌+◌, ◌-◌, ◌<◌, ◌≤◌, Bool, true, false, ◌||◌, ◌==◌, nat_le, nat_lt, if◌then◌else◌, List, [], ◌∷◌, length, map, take, drop, get_or, is_some, refl, sym, ap, ap₂, subst, ◌∙◌, inl, inr, arith, ltb-true}
use Rattle.std.proofs.lemmas.Bool.{cases_Bool, cond-true, cond-false, eqb-true}
use Rattle.std.proofs.lemmas.List.{drop_more}
use Rattle.std.specs.List.{range_with_len, splice}
use Rattle.geos_model.specs.Document.{Document, raw_bytes_of}
use Rattle.geos_model.specs.Chain.{new_handles}
use Rattle.geos_model.specs.Pieces.{BranchPiece, piece_weight}
use Rattle.geos_model.specs.LargeLayout.{Root, is_root, root_of}
use Rattle.geos_model.specs.Spread.{first_place, end_place, piece_before, left_piece, right_piece}
use Rattle.geos_model.specs.LargeBlocks.{root_at, pieces_at}
use Rattle.geos_model.specs.LargeWindow.{Window, window, window_first, window_end, window_pieces, window_handles, staying, left_joins, right_joins, replaced_root}
use Rattle.large_bodies.specs.RootEdits.{run_between}
use Rattle.large_arrays.specs.WindowParts.{staying_at, staying_pairs, window_from}
use Rattle.large_arrays.specs.declared.staying.StayingBytes.{StayingBytes}
use Rattle.geos_model.proofs.Layouts.{root-facts, pieces-many, root-counts}
use Rattle.geos_model.proofs.PieceLists.{root_full, root_from, root_small}
use Rattle.geos_model.proofs.SpreadSides.{is_full}
use Rattle.geos_model.proofs.SpreadStays.{respread-full}
use Rattle.geos_model.proofs.Windows.{IsWindow, window-is}
use Rattle.geos_model.proofs.Replacing.{counts-spliced}

-- What stays of the pieces of a window: of a neighbour where it is joined.
pub record Stays (size : ℕ) (ps : List BranchPiece) (i j : ℕ) (new : BranchPiece) (s : StayingBytes) : Type 0 where
  pub left : left_joins size ps i j new ≡ true → s.left ≡ piece_weight size (left_piece ps i j)
  pub head : s.head ≡ piece_weight size (take (first_place (map length ps) i j).1 (get_or ps (first_place (map length ps) i j).0 []))
  pub tail : s.tail ≡ piece_weight size (drop (end_place (map length ps) j).1 (get_or ps (end_place (map length ps) j).0 []))
  pub right : right_joins size ps i j new ≡ true → s.right ≡ piece_weight size (right_piece ps j)

-- before a run there is the left neighbour alone, where it is joined, and behind it the right one
one_before : (joins : Bool) (f k : ℕ) → f - (if joins then 1 else 0) ≤ k → k < f → (joins ≡ true) × (f ≡ suc k)
one_before true f k from low = (refl, omega arith)
one_before false f k from low = absurd (omega arith)

one_behind : (joins : Bool) (t k : ℕ) → t < k → k < t + (if joins then 2 else 1) → (joins ≡ true) × (k ≡ suc t)
one_behind true t k high to = (refl, omega arith)
one_behind false t k high to = absurd (omega arith)

-- either of two tests
either : (b c : Bool) → b ≡ true → (b || c) ≡ true
either b c is = ap (λ (x : Bool). x || c) is

second : (b c : Bool) → b ≡ false → c ≡ true → (b || c) ≡ true
second b c not_first is = ap₂ (λ (x y : Bool). x || y) not_first is

neither : (b c : Bool) → b ≡ false → c ≡ false → (b || c) ≡ false
neither b c not_first not_second = ap₂ (λ (x y : Bool). x || y) not_first not_second

module _ (size : ℕ) (ps : List BranchPiece) (i j : ℕ) (new : BranchPiece) (s : StayingBytes) (stays : Stays size ps i j new s) where
  abbrev from : ℕ × ℕ
  from = first_place (map length ps) i j

  abbrev to : ℕ × ℕ
  to = end_place (map length ps) j

  -- what is left of the piece at a place, if the run begins or ends there
  abbrev kept_head : ℕ → ℕ
  kept_head k = if k == from.0 then piece_weight size (take from.1 (get_or ps k [])) else 0

  abbrev kept_tail : ℕ → ℕ
  kept_tail k = if k == to.0 then piece_weight size (drop to.1 (get_or ps k [])) else 0

  head_is : (k : ℕ) → kept_head k ≡ (if k == from.0 then s.head else 0)
  head_is k = elim (cases_Bool (k == from.0)) [
    | inl at ↦
        cond-true (k == from.0) (piece_weight size (take from.1 (get_or ps k []))) 0 at
        ∙ ap (λ (n : ℕ). piece_weight size (take from.1 (get_or ps n []))) (eqb-true k from.0 at) ∙ sym stays.head ∙ sym (cond-true (k == from.0) s.head 0 at)
    | inr other ↦ cond-false (k == from.0) (piece_weight size (take from.1 (get_or ps k []))) 0 other ∙ sym (cond-false (k == from.0) s.head 0 other)
  ]

  tail_is : (k : ℕ) → kept_tail k ≡ (if k == to.0 then s.tail else 0)
  tail_is k = elim (cases_Bool (k == to.0)) [
    | inl at ↦
        cond-true (k == to.0) (piece_weight size (drop to.1 (get_or ps k []))) 0 at
        ∙ ap (λ (n : ℕ). piece_weight size (drop to.1 (get_or ps n []))) (eqb-true k to.0 at) ∙ sym stays.tail ∙ sym (cond-true (k == to.0) s.tail 0 at)
    | inr other ↦ cond-false (k == to.0) (piece_weight size (drop to.1 (get_or ps k []))) 0 other ∙ sym (cond-false (k == to.0) s.tail 0 other)
  ]

  -- of each piece of the window
  pub staying-is : (k : ℕ) → window_first size ps i j new ≤ k → k < window_end size ps i j new → staying size ps i j k ≡ staying_at from.0 to.0 s k
  staying-is k first behind =
      let before = nat_lt k from.0 in
      let past = nat_lt to.0 k in
      let whole : ℕ = piece_weight size (get_or ps k []) in
      let left : ℕ = kept_head k + kept_tail k in
      let there : ℕ = (if k == from.0 then s.head else 0) + (if k == to.0 then s.tail else 0) in
      elim (cases_Bool before) [
        | inl low ↦
            (let one = one_before (left_joins size ps i j new) from.0 k first (ltb-true k from.0 low) in
            cond-true (before || past) whole left (either before past low)
            ∙ ap (λ (n : ℕ). piece_weight size (piece_before ps n)) (sym one.1) ∙ sym (stays.left one.0)
            ∙ sym (cond-true before s.left (if past then s.right else there) low))
        | inr high ↦ elim (cases_Bool past) [
          | inl more ↦
              (let one = one_behind (right_joins size ps i j new) to.0 k (ltb-true to.0 k more) behind in
              cond-true (before || past) whole left (second before past high more)
              ∙ ap (λ (n : ℕ). piece_weight size (get_or ps n [])) one.1 ∙ sym (stays.right one.0)
              ∙ sym (cond-false before s.left (if past then s.right else there) high ∙ cond-true past s.right there more))
          | inr less ↦
              cond-false (before || past) whole left (neither before past high less)
              ∙ ap₂ (λ (m n : ℕ). m + n) (head_is k) (tail_is k)
              ∙ sym (cond-false before s.left (if past then s.right else there) high ∙ cond-false past s.right there less)
        ]
      ]

-- The branches at some places, with what stays of each.
pairs-places : (hs : List ℕ) (start end : ℕ) (s : StayingBytes) (g : ℕ → ℕ) (a n : ℕ) → a + n ≤ length hs
    → ((k : ℕ) → a ≤ k → k < a + n → g k ≡ staying_at start end s k)
    → map (λ k. (get_or hs k 0, g k)) (range_with_len a n) ≡ staying_pairs (take n (drop a hs)) a start end s
pairs-places hs start end s g a zero within same = refl
pairs-places hs start end s g a (suc n) within same =
    let next : a + 1 ≡ suc a = omega arith in
    ap₂ (λ (m : ℕ) (rest : List (ℕ × ℕ)). (get_or hs a 0, m) ∷ rest) (same a (omega arith) (omega arith))
    (pairs-places hs start end s g (a + 1) n (omega arith) (λ k low high. same k (omega arith) (omega arith)))
    ∙ ap (λ (k : ℕ). (get_or hs a 0, staying_at start end s a) ∷ staying_pairs (take n (drop (a + 1) hs)) k start end s) next
    ∙ ap (λ (xs : List ℕ). staying_pairs (take (suc n) xs) a start end s) (sym (drop_more hs a 0 (omega arith)))

-- A window by its pieces and its root, and the new handles.
abbrev pub window_in : List BranchPiece → Root → ℕ → ℕ → BranchPiece → (ℕ → List ℕ) → Window
window_in ps r i j new fresh =
    let first = window_first r.size ps i j new in
    let behind = window_end r.size ps i j new in
    let placed = window_pieces r.size ps i j new in
    let olds = map (λ k. (get_or r.branches k 0, staying r.size ps i j k)) (range_with_len first (behind - first)) in
    let from = first_place r.counts i j in
    let to = end_place r.counts j in
    let head = nat_le (piece_weight r.size (drop to.1 (get_or ps to.0 []))) (piece_weight r.size (take from.1 (get_or ps from.0 []))) in
    record {
      first = first;
      behind = behind;
      olds = map (λ p. p.0) olds;
      news = window_handles olds head (length placed) (fresh (length placed - (behind - first)));
      pieces = placed;
    }

pub window-in : (d : Document) (b i j : ℕ) (new : BranchPiece) → window d b i j new ≡ window_in (pieces_at d (root_at d b)) (root_at d b) i j new (new_handles d)
unfolding window
window-in d b i j new = refl

module _ (d : Document) (b i j : ℕ) (new : BranchPiece) (found : is_some (root_of (raw_bytes_of d b)) ≡ true) (order : i ≤ j) where
  abbrev r : Root
  r = root_at d b

  abbrev pieces : List BranchPiece
  pieces = pieces_at d r

  whole : (0 < length pieces) × (is_full pieces ≡ true)
  whole = root_full r pieces (root-facts d b found).0 (root-counts d b found)

  win : IsWindow r.size pieces i j new
  win = window-is r.size pieces i j new whole.0 whole.1 order

  abbrev first : ℕ
  first = window_first r.size pieces i j new

  abbrev behind : ℕ
  behind = window_end r.size pieces i j new

  -- It is what code puts together of which neighbours are joined, what stays, and the pieces that come.
  pub window-from : (s : StayingBytes) (placed : List BranchPiece) → Stays r.size pieces i j new s → window_pieces r.size pieces i j new ≡ placed
      → window d b i j new
      ≡ window_from r (first_place r.counts i j) (end_place r.counts j) (left_joins r.size pieces i j new) (right_joins r.size pieces i j new) s placed (new_handles d)
  window-from s placed stays come =
      let cs : List ℕ = map length pieces in
      let counts : r.counts ≡ cs = root-counts d b found in
      let before = win.order in
      let within = win.within in
      let many = pieces-many d b found in
      let lj = left_joins r.size pieces i j new in
      let rj = right_joins r.size pieces i j new in
      let made : List (ℕ × ℕ) → Bool → List BranchPiece → Window = λ olds head come. record {
        first = first;
        behind = behind;
        olds = map (λ p. p.0) olds;
        news = window_handles olds head (length come) (new_handles d (length come - (behind - first)));
        pieces = come;
      } in
      let pairs : List (ℕ × ℕ) = map (λ k. (get_or r.branches k 0, staying r.size pieces i j k)) (range_with_len first (behind - first)) in
      let known : List (ℕ × ℕ) = staying_pairs (run_between r.branches first behind) first (first_place cs i j).0 (end_place cs j).0 s in
      let pairs_are : pairs ≡ known =
      pairs-places r.branches (first_place cs i j).0 (end_place cs j).0 s (staying r.size pieces i j) first (behind - first) (omega arith)
      (λ k low high. staying-is r.size pieces i j new s stays k low (omega arith)) in
      let head : List ℕ → Bool = λ ns.
      nat_le (piece_weight r.size (drop (end_place ns j).1 (get_or pieces (end_place ns j).0 []))) (piece_weight r.size (take (first_place ns i j).1 (get_or pieces (first_place ns i j).0 []))) in
      let head_is : head r.counts ≡ nat_le s.tail s.head = ap head counts ∙ ap₂ (λ (m n : ℕ). nat_le m n) (sym stays.tail) (sym stays.head) in
      window-in d b i j new
      ∙ ap₂ (λ (olds : List (ℕ × ℕ)) (h : Bool). made olds h (window_pieces r.size pieces i j new)) pairs_are head_is
      ∙ ap (made known (nat_le s.tail s.head)) come
      ∙ ap (λ (ns : List ℕ). window_from r (first_place ns i j) (end_place ns j) lj rj s placed (new_handles d)) (sym counts)

  -- The root after it is a root.
  pub window-root : is_root (replaced_root r (window d b i j new)) ≡ true
  window-root =
      let placed : List BranchPiece = window_pieces r.size pieces i j new in
      let full = respread-full r.size pieces i j new whole.0 whole.1 in
      let after : List BranchPiece = splice pieces first behind placed in
      ap (λ (w : Window). is_root (replaced_root r w)) (window-in d b i j new)
      ∙ root_from (replaced_root r (window_in pieces r i j new (new_handles d))) after (root_small r (root-facts d b found).0)
      (counts-spliced r.counts first behind pieces placed (root-counts d b found))
      (subst (λ (ps : List BranchPiece). 0 < length ps) win.is full.0) (ap is_full (sym win.is) ∙ full.1)

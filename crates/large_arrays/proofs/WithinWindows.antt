-- The window of an edit that stays within one branch: that branch's block has what is left of it with the new elements.
use Rattle.std.proofs.Common.{◌≡◌, ◌⊎◌, ℕ, zero, suc, ◌+◌, ◌-◌, ◌*◌, ◌<◌, ◌≤◌, Bool, true, false, not, ◌==◌, ◌||◌, nat_le, List, [], ◌∷◌, ◌++◌, length, map, take, drop, filter, get_or, is_some, refl, sym, ap, ap₂, subst, ◌∙◌, inl, inr, arith, length-append, length-drop}
use Rattle.std.proofs.Math.Nat.{add-mul}
use Rattle.std.proofs.lemmas.Bool.{and_from, cond-false, eq-eqb, lt-leb, le-leb, le-ltb, ne_eqb}
use Rattle.std.proofs.lemmas.List.{length-take-le, take-append-drop, drop_more}
use Rattle.std.specs.List.{list_any, range_with_len, splice}
use Rattle.geos_model.specs.Chain.{free_handles, new_handles}
use Rattle.geos_model.specs.Document.{Document, raw_bytes_of}
use Rattle.geos_model.specs.Pieces.{BranchPiece, piece_weight, branch_room, join_room, are_joined}
use Rattle.geos_model.specs.LargeLayout.{Root, most_branches, root_of, root_bytes, branch_bytes, total_count}
use Rattle.geos_model.specs.Spread.{first_place, end_place, piece_before}
use Rattle.geos_model.specs.LargeBlocks.{root_at, pieces_at}
use Rattle.geos_model.specs.LargeWindow.{Window, window, freed_handles, replaced_root, looked_at, window_first, window_end, window_pieces, window_handles, staying}
use Rattle.geos_model.proofs.BranchBytes.{is_sized, weight-even}
use Rattle.geos_model.proofs.Layouts.{root-facts, root-counts, pieces-many, piece_is}
use Rattle.geos_model.proofs.PieceLists.{root_full, sized-append, sized_part}
use Rattle.geos_model.proofs.SpreadCount.{ends}
use Rattle.geos_model.proofs.SpreadPlaces.{first-end_same}
use Rattle.geos_model.proofs.SpreadSides.{is_full}
use Rattle.vm_blocks.specs.declared.change.Change.{Change}
use Rattle.large_arrays.specs.ChangePlans.{ArePlanned, window_bodies}
use Rattle.large_bodies.specs.SizedElements.{have_size}
use Rattle.large_arrays.specs.WindowPlans.{IsWindowPlanned}
use Rattle.large_arrays.specs.Within.{StaysWithin, place_within, count_within, piece_within, handle_within, bodies_within}
use Rattle.large_arrays.proofs.PlaceSums.{end-within}
use Rattle.large_arrays.proofs.RootPieces.{found-weight}
use Rattle.large_arrays.proofs.WindowParts.{window-in}
use Rattle.large_arrays.proofs.WithinPieces.{left_of, ComesAlone, looked-one, window_first-one, window_end-one, window_pieces-one}

-- one block that goes on, with one piece
abbrev pub within_window : Document → ℕ → ℕ → ℕ → BranchPiece → Window
within_window d b i j new = record {
  first = place_within (root_at d b) i j;
  behind = suc (place_within (root_at d b) i j);
  olds = handle_within d b i j ∷ [];
  news = handle_within d b i j ∷ [];
  pieces = piece_within d b i j new ∷ [];
}

-- two pieces that weigh too much together
too_much : (size : ℕ) (p q : BranchPiece) (m n : ℕ) → piece_weight size p ≡ m * size → piece_weight size q ≡ n * size → join_room < (m + n) * size → are_joined size p q ≡ false
too_much size p q m n one other past =
    let sum = add-mul m n size in
    lt-leb (piece_weight size p + piece_weight size q) join_room (omega arith)

-- A block that goes on doesn't go.
freed_none : (h : ℕ) → filter (λ x. not (list_any (λ y. y == x) (h ∷ []))) (h ∷ []) ≡ []
freed_none h =
    let goes : Bool = not (list_any (λ y. y == h) (h ∷ [])) in
    cond-false goes (h ∷ []) [] (ap (λ (c : Bool). not (c || false)) (eq-eqb h h refl))

module _ (d : Document) (b i j : ℕ) (new : BranchPiece) (found : is_some (root_of (raw_bytes_of d b)) ≡ true) (order : i ≤ j)
    (within : j ≤ total_count (root_at d b)) (sized : have_size (root_at d b).size new ≡ true) (stays : StaysWithin (root_at d b) i j (length new)) where
  abbrev r : Root
  r = root_at d b

  abbrev ps : List BranchPiece
  ps = pieces_at d r

  -- where the run begins, and ends
  abbrev from : ℕ × ℕ
  from = first_place r.counts i j

  abbrev to : ℕ × ℕ
  to = end_place r.counts j

  -- the branch before it, and after
  abbrev old : BranchPiece
  old = get_or ps from.0 []

  abbrev piece : BranchPiece
  piece = piece_within d b i j new

  abbrev count : ℕ
  count = count_within r i j (length new)

  even : (r.size == 0) ≡ false
  even = ne_eqb r.size 0 stays.sized

  counts : r.counts ≡ map length ps
  counts = root-counts d b found

  whole : (0 < length ps) × (is_full ps ≡ true)
  whole = root_full r ps (root-facts d b found).0 counts

  low : from.0 < length ps
  low =
      let is : (end_place (map length ps) j).0 ≡ from.0 = ap (λ (cs : List ℕ). (end_place cs j).0) (sym counts) ∙ stays.one in
      let last = ends ps j whole.0 in
      omega arith

  -- How many elements it has then, and what they weigh.

  pub piece-count : length piece ≡ count
  piece-count =
      let kept = take from.1 old in
      let left = drop to.1 old in
      let all = length-append (kept ++ new) left in
      let front = length-append kept new in
      let long = (piece_is d b found from.0 low).0 in
      let behind = end-within r.counts j within in
      let here : get_or r.counts to.0 0 ≡ get_or r.counts from.0 0 = ap (λ (k : ℕ). get_or r.counts k 0) stays.one in
      let upto = first-end_same r.counts i j order (sym stays.one) in
      let head = length-take-le from.1 old (omega arith) in
      let tail = length-drop to.1 old in
      omega arith

  piece_sized : is_sized r.size piece ≡ true
  piece_sized =
      let kept = take from.1 old in
      let left = drop to.1 old in
      let was = (piece_is d b found from.0 low).1 in
      sized-append r.size (kept ++ new) left
      ∙ and_from (is_sized r.size (kept ++ new)) (is_sized r.size left)
      (sized-append r.size kept new ∙ and_from (is_sized r.size kept) (is_sized r.size new) (sized_part r.size from.1 old was).0 sized)
      (sized_part r.size to.1 old was).1

  weight : piece_weight r.size piece ≡ count * r.size
  weight = weight-even r.size piece even piece_sized ∙ ap (λ (n : ℕ). n * r.size) piece-count

  before_apart : (from.0 ≡ 0) ⊎ (are_joined r.size (piece_before ps from.0) piece ≡ false)
  before_apart = elim stays.left [
    | inl first ↦ inl first
    | inr past ↦ by_place from.0 refl past
  ]
    where
      by_place : (k : ℕ) → from.0 ≡ k → join_room < (get_or r.counts (k - 1) 0 + count) * r.size → (from.0 ≡ 0) ⊎ (are_joined r.size (piece_before ps k) piece ≡ false)
      by_place zero is past = inl is
      by_place (suc k) is past =
          let less : suc k - 1 ≡ k = omega arith in
          inr (too_much r.size (get_or ps k []) piece (get_or r.counts (suc k - 1) 0) count
          (found-weight d b found k even ∙ ap (λ (m : ℕ). get_or r.counts m 0 * r.size) (sym less)) weight past)

  behind_apart : (length ps ≤ suc from.0) ⊎ (are_joined r.size piece (get_or ps (suc from.0) []) ≡ false)
  behind_apart = elim stays.right [
    | inl last ↦ (let many = pieces-many d b found in let all = (root-facts d b found).2 in inl (omega arith))
    | inr past ↦ inr (too_much r.size piece (get_or ps (suc from.0) []) count (get_or r.counts (suc from.0) 0) weight (found-weight d b found (suc from.0) even) past)
  ]

  alone : ComesAlone r.size ps (map length ps) i j new
  alone =
      let some = piece-count in
      let begun = stays.some in
      let heavy = weight in
      let most = stays.fits in
      subst (λ (cs : List ℕ). ComesAlone r.size ps cs i j new) counts (record {
        same = stays.one;
        some = omega arith;
        fits = le-leb (piece_weight r.size piece) branch_room (omega arith);
        left = before_apart;
        right = behind_apart;
      })

  place_is : (first_place (map length ps) i j).0 ≡ from.0
  place_is = ap (λ (cs : List ℕ). (first_place cs i j).0) (sym counts)

  -- It looks at that branch alone.
  pub within-looked : looked_at r.size ps i j new ≡ place_within r i j ∷ []
  within-looked = looked-one r.size ps i j new alone even ∙ ap (λ (k : ℕ). k ∷ []) place_is

  -- a window by where it begins and ends, how many branches go, and the pieces that come
  abbrev made : ℕ → ℕ → ℕ → List BranchPiece → Window
  made at end many come =
      let olds = map (λ k. (get_or r.branches k 0, staying r.size ps i j k)) (range_with_len at many) in
      let head = nat_le (piece_weight r.size (drop to.1 (get_or ps to.0 []))) (piece_weight r.size (take from.1 (get_or ps from.0 []))) in
      record {
        first = at;
        behind = end;
        olds = map (λ p. p.0) olds;
        news = window_handles olds head (length come) (new_handles d (length come - many));
        pieces = come;
      }

  pub window-within : window d b i j new ≡ within_window d b i j new
  window-within =
      let first : window_first r.size ps i j new ≡ from.0 = window_first-one r.size ps i j new alone ∙ place_is in
      let behind : window_end r.size ps i j new ≡ suc from.0 = window_end-one r.size ps i j new alone ∙ ap suc place_is in
      let placed : window_pieces r.size ps i j new ≡ piece ∷ [] =
      window_pieces-one r.size ps i j new alone whole.0 whole.1 order
      ∙ ap (λ (cs : List ℕ). left_of ps (first_place cs i j) (end_place cs j) new ∷ []) (sym counts) in
      let one : suc from.0 - from.0 ≡ 1 = omega arith in
      window-in d b i j new
      ∙ ap₂ (λ (at end : ℕ). made at end (end - at) (window_pieces r.size ps i j new)) first behind
      ∙ ap₂ (made from.0 (suc from.0)) one placed

  -- The plan of such an edit.

  branches_same : splice r.branches from.0 (suc from.0) (handle_within d b i j ∷ []) ≡ r.branches
  branches_same =
      let many = pieces-many d b found in
      let here = low in
      let next : suc from.0 ≡ from.0 + 1 = omega arith in
      ap (λ (k : ℕ). take from.0 r.branches ++ handle_within d b i j ∷ drop k r.branches) next
      ∙ ap (λ (hs : List ℕ). take from.0 r.branches ++ hs) (sym (drop_more r.branches from.0 0 (omega arith)))
      ∙ take-append-drop from.0 r.branches

  bodies_are : window_bodies d b (within_window d b i j new) ≡ bodies_within d b i j new
  bodies_are =
      ap₂ (λ (n : ℕ) (hs : List ℕ).
      (b, root_bytes (record { size = r.size; counts = splice r.counts from.0 (suc from.0) (n ∷ []); branches = hs })) ∷ (handle_within d b i j, branch_bytes r.size piece) ∷ [])
      piece-count branches_same

  -- No block goes or comes, and what gives the root and that branch these bodies is the plan.
  pub within-planned : (changes : List Change) → ArePlanned changes d [] (bodies_within d b i j new) → IsWindowPlanned d b (window d b i j new) changes
  within-planned changes planned =
      let w : Window = within_window d b i j new in
      let none : freed_handles w ≡ [] = freed_none (handle_within d b i j) in
      let few = stays.few in
      let many = ap length branches_same in
      subst (λ (x : Window). IsWindowPlanned d b x changes) (sym window-within) (record {
        no_map = ap (list_any (λ h. h == d.map_block)) none;
        handles = le-ltb (length (free_handles d)) 0 (omega arith);
        room = le-ltb most_branches (length (replaced_root r w).branches) (omega arith);
        planned = subst (λ (hs : List ℕ). ArePlanned changes d hs (window_bodies d b w)) (sym none) (subst (ArePlanned changes d []) (sym bodies_are) planned);
      })

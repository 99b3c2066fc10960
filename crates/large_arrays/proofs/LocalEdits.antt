-- Documents that are alike where an edit looks have the same window and the same refusals.
use Rattle.std.proofs.Common.{◌≡◌, ℕ, zero, suc, ◌+◌, ◌-◌, ◌*◌, ◌<◌, ◌≤◌, Bool, true, false, not, ◌&&◌, ◌||◌, ◌==◌, nat_lt, if◌then◌else◌, List, [], ◌∷◌, ◌++◌, length, map, get_or, replicate, Option, Some, None, is_some, is_none, unwrap_or, refl, sym, ap, ap₂, subst, ◌∙◌, inl, inr, arith, zero-add, eqb-true, take, drop}
use Rattle.std.proofs.lemmas.Bool.{cases_Bool, cond-true, cond-false, eqb-false, ne_eqb}
use Rattle.std.proofs.lemmas.List.{length-map}
use Rattle.std.proofs.lemmas.List.FromFn.{get_or-map-range_with_len}
use Rattle.std.specs.List.{Contains, list_all, list_any, range_with_len}
use Rattle.geos_model.specs.ElementArray.{all_distinct}
use Rattle.geos_model.specs.Refusal.{Conditions}
use Rattle.geos_model.specs.Document.{Document, vm_handles, is_live, is_raw, raw_bytes_of}
use Rattle.geos_model.specs.Chain.{free_handles, new_handles}
use Rattle.geos_model.specs.declared.fault.Fault.TheVariants.{NoBlock, WrongKind, NotArray, NoElement, BadChain, IsMap, Range, TooBig, NoHandles}
use Rattle.geos_model.proofs.Chains.{contains_cases, contains_first, contains_later}
use Rattle.geos_model.specs.Pieces.{BranchPiece, piece_weight}
use Rattle.geos_model.specs.LargeLayout.{Root, most_branches, total_count, root_of, root_in, branch_of}
use Rattle.geos_model.specs.LargeBlocks.{root_at, branch_at, pieces_at}
use Rattle.geos_model.specs.LargeWindow.{Window, window, looked_at, are_branches, freed_handles, replaced_root}
use Rattle.geos_model.specs.LargeEdits.{cut_elements, ends_within_element, element_count, is_too_long, on_root, on_window, on_run, run_places, insert_large_conditions, set_large_conditions, delete_large_conditions}
use Rattle.geos_model.specs.LargeDocumentLaws.{replacing_looks, set_looks}
use Rattle.large_arrays.specs.LocalLaws.{AreAlike}
use Rattle.geos_model.specs.Spread.{start_place, end_place, overwritten}
use Rattle.large_arrays.specs.WrittenPieces.{written_piece, written_pieces}
use Rattle.large_arrays.proofs.HandlePlaces.{filter_same}
use Rattle.geos_model.proofs.Layouts.{root-facts, pieces-many, root-counts}
use Rattle.geos_model.proofs.PieceLists.{root_full}
use Rattle.large_arrays.proofs.RootPieces.{found-weight}
use Rattle.geos_model.proofs.SeenBranches.{seen_first, seen_end, LooksAround, looks-around}
use Rattle.large_arrays.proofs.SeenPieces.{map_same, looked_at-same, window_in-same}
use Rattle.geos_model.proofs.SpreadPlaces.{start-end}
use Rattle.geos_model.proofs.SpreadCount.{ends}
use Rattle.geos_model.proofs.OverwrittenPieces.{sum, sum-lengths}
use Rattle.large_arrays.proofs.WrittenLemmas.{written-piece, length-overwritten, run-pieces}
use Rattle.large_arrays.proofs.WindowParts.{window_in, window-in}

-- Tests and places of lists.

all_same : (p q : ℕ → Bool) (ks : List ℕ) → ((k : ℕ) → Contains ks k → p k ≡ q k) → list_all p ks ≡ list_all q ks
all_same p q [] same = refl
all_same p q (k ∷ ks) same =
    ap₂ (λ (b c : Bool). b && c) (same k (contains_first k ks)) (all_same p q ks (λ x there. same x (contains_later k ks x there)))

mapped_there : (g : ℕ → ℕ) (ks : List ℕ) (k : ℕ) → Contains ks k → Contains (map g ks) (g k)
mapped_there g [] k there = absurd (let low = there.1 in omega arith)
mapped_there g (x ∷ ks) k there = elim (contains_cases x ks k there) [
  | inl is ↦ subst (λ (y : ℕ). Contains (g x ∷ map g ks) (g y)) is (contains_first (g x) (map g ks))
  | inr later ↦ contains_later (g x) (map g ks) (g k) (mapped_there g ks k later)
]

range_there : (a n k : ℕ) → a ≤ k → k < a + n → Contains (range_with_len a n) k
range_there a zero k low high = absurd (omega arith)
range_there a (suc n) k low high = elim (cases_Bool (k == a)) [
  | inl is ↦ subst (Contains (a ∷ range_with_len (a + 1) n)) (sym (eqb-true k a is)) (contains_first a (range_with_len (a + 1) n))
  | inr other ↦ (let apart = eqb-false k a other in contains_later a (range_with_len (a + 1) n) k (range_there (a + 1) n k (omega arith) (omega arith)))
]

-- What stands at a place of the pieces of a root.

piece-read : (d : Document) (r : Root) (k : ℕ) → k < length r.branches
    → get_or (pieces_at d r) k [] ≡ unwrap_or (branch_at d r k) (let row : List ℕ = replicate r.size 0 in replicate (get_or r.counts k 0) row)
piece-read d r k low =
    let row : List ℕ = replicate r.size 0 in
    get_or-map-range_with_len (λ n. unwrap_or (branch_at d r n) (replicate (get_or r.counts n 0) row)) 0 (length r.branches) k k [] low (zero-add k)

module _ (d e : Document) (b : ℕ) (ks : List ℕ) (alike : AreAlike d e b ks) where
  abbrev r : Root
  r = root_at d b

  pub root_same : root_at e b ≡ r
  root_same = ap root_in alike.root

  free_same : free_handles e ≡ free_handles d
  free_same = filter_same (λ h. not (is_live e h)) (λ h. not (is_live d h)) vm_handles (λ h _. ap not (alike.live h))

  branch_same : (k : ℕ) → Contains ks k → branch_at e r k ≡ branch_at d r k
  branch_same k there =
      let h : ℕ = get_or r.branches k 0 in
      let among = mapped_there (λ n. get_or r.branches n 0) ks k there in
      ap₂ (λ (raw : Bool) (bytes : List ℕ). if raw then branch_of r.size (get_or r.counts k 0) bytes else None) (alike.raw h among) (alike.bytes h among)

  branches_same : are_branches e b r ks ≡ are_branches d b r ks
  branches_same =
      ap (λ (c : Bool). c && all_distinct (b ∷ map (λ k. get_or r.branches k 0) ks))
      (all_same (λ k. is_some (branch_at e r k)) (λ k. is_some (branch_at d r k)) ks (λ k there. ap is_some (branch_same k there)))

  on_root_same : on_root e b ≡ on_root d b
  on_root_same =
      ap₂ (λ (live raw : Bool). (NoBlock, not live) ∷ (WrongKind, not raw) ∷ (NotArray, is_none (root_of (raw_bytes_of e b))) ∷ []) (alike.live b) alike.root_raw
      ∙ ap (λ (bytes : List ℕ). (NoBlock, not (is_live d b)) ∷ (WrongKind, not (is_raw d b)) ∷ (NotArray, is_none (root_of bytes)) ∷ []) alike.root

  on_run_same : (accepted : Bool) (i n : ℕ) → run_places r i n ≡ ks → on_run accepted e b i n ≡ on_run accepted d b i n
  on_run_same accepted i n is =
      let test : Bool → Conditions = λ c. (BadChain, accepted && not c) ∷ [] in
      ap (λ (q : Root). test (are_branches e b q (run_places q i n))) root_same
      ∙ ap (λ (places : List ℕ). test (are_branches e b r places)) is
      ∙ ap test branches_same
      ∙ ap (λ (places : List ℕ). test (are_branches d b r places)) (sym is)

-- What an edit looks at, and its window, of the same root.
record SameWindow (d e : Document) (r : Root) (i j : ℕ) (new : BranchPiece) : Type 0 where
  looked : looked_at r.size (pieces_at e r) i j new ≡ looked_at r.size (pieces_at d r) i j new
  same : window_in (pieces_at e r) r i j new (new_handles e) ≡ window_in (pieces_at d r) r i j new (new_handles d)

module _ (d e : Document) (b i j : ℕ) (new : BranchPiece) (order : i ≤ j) (alike : AreAlike d e b (replacing_looks d b i j new)) where
  abbrev ks : List ℕ
  ks = replacing_looks d b i j new

  abbrev ps : List BranchPiece
  ps = pieces_at d (root_at d b)

  abbrev qs : List BranchPiece
  qs = pieces_at e (root_at d b)

  new_same : (n : ℕ) → new_handles e n ≡ new_handles d n
  new_same n = ap (take n) (free_same d e b ks alike)

  -- where there is a root
  of_root : is_some (root_of (raw_bytes_of d b)) ≡ true → SameWindow d e (root_at d b) i j new
  of_root found =
      let q : Root = root_at d b in
      let found_also : is_some (root_of (raw_bytes_of e b)) ≡ true = ap (λ (bytes : List ℕ). is_some (root_of bytes)) alike.root ∙ found in
      let same : root_at e b ≡ q = root_same d e b ks alike in
      let counts_also : q.counts ≡ map length qs = subst (λ (x : Root). x.counts ≡ map length (pieces_at e x)) same (root-counts e b found_also) in
      let count : q.counts ≡ map length ps = root-counts d b found in
      let whole = root_full q ps (root-facts d b found).0 count in
      let around : LooksAround q.size ps i j new = looks-around q.size ps i j new whole.0 in
      let weights : (q.size == 0) ≡ false → (k : ℕ) → piece_weight q.size (get_or qs k []) ≡ piece_weight q.size (get_or ps k []) =
      λ one k. subst (λ (x : Root). (x.size == 0) ≡ false → piece_weight x.size (get_or (pieces_at e x) k []) ≡ get_or x.counts k 0 * x.size) same (found-weight e b found_also k) one
      ∙ sym (found-weight d b found k one) in
      let many = pieces-many d b found in
      let within = around.within in
      let first : ℕ = seen_first q.size ps i j new in
      let behind : ℕ = seen_end q.size ps i j new in
      let seen : (k : ℕ) → first ≤ k → k < behind → get_or qs k [] ≡ get_or ps k [] =
      λ k low high.
      (let row : List ℕ = replicate q.size 0 in
      piece-read e q k (omega arith)
      ∙ ap (λ (o : Option BranchPiece). unwrap_or o (replicate (get_or q.counts k 0) row)) (branch_same d e b ks alike k (range_there first (behind - first) k low (omega arith)))
      ∙ sym (piece-read d q k (omega arith))) in
      record {
        looked = looked_at-same q.size ps qs i j new whole.0 whole.1 order (sym counts_also ∙ count) weights seen;
        same = window_in-same q.size ps qs i j new whole.0 whole.1 order (sym counts_also ∙ count) weights seen q count (new_handles d) (new_handles e) new_same;
      }

  -- where there is none there are no pieces
  of_none : root_of (raw_bytes_of d b) ≡ None → SameWindow d e (root_at d b) i j new
  of_none none =
      let empty : Root = record { size = 0; counts = []; branches = [] } in
      let is : root_at d b ≡ empty = ap (λ (o : Option Root). unwrap_or o empty) none in
      let pieces_same : qs ≡ ps = ap (λ (x : Root). pieces_at e x) is ∙ ap (λ (x : Root). pieces_at d x) (sym is) in
      let q : Root = root_at d b in
      record {
        looked = ap (λ (xs : List BranchPiece). looked_at q.size xs i j new) pieces_same;
        same = ap (λ (xs : List BranchPiece). window_in xs q i j new (new_handles e)) pieces_same ∙ fresh_same q ps;
      }
    where
      fresh_same : (q : Root) (xs : List BranchPiece) → window_in xs q i j new (new_handles e) ≡ window_in xs q i j new (new_handles d)
      fresh_same q xs =
          let w : Window = window_in xs q i j new (new_handles d) in
          let made : List ℕ → Window = λ fresh. window_in xs q i j new (λ _. fresh) in
          ap made (new_same (length w.pieces - (w.behind - w.first)))

  window_same : SameWindow d e (root_at d b) i j new
  window_same = by_root (root_of (raw_bytes_of d b)) refl
    where
      by_root : (o : Option Root) → root_of (raw_bytes_of d b) ≡ o → SameWindow d e (root_at d b) i j new
      by_root None is = of_none is
      by_root (Some q) is = of_root (ap is_some is)

  pub window-same : window e b i j new ≡ window d b i j new
  window-same =
      window-in e b i j new
      ∙ ap (λ (q : Root). window_in (pieces_at e q) q i j new (new_handles e)) (root_same d e b ks alike)
      ∙ window_same.same
      ∙ sym (window-in d b i j new)

  pub on_window-same : (accepted : Bool) → on_window accepted e b i j new ≡ on_window accepted d b i j new
  on_window-same accepted =
      let there : Bool = accepted && not ((i == j) && (length new == 0)) in
      let tests : Root → Bool → ℕ → ℕ → Window → Conditions = λ q seen map_block free w.
      (BadChain, there && not seen) ∷ (IsMap, there && list_any (λ h. h == map_block) (freed_handles w))
      ∷ (NoHandles, there && nat_lt free (length w.pieces - length w.olds)) ∷ (NoHandles, there && nat_lt most_branches (length (replaced_root q w).branches)) ∷ [] in
      let q : Root = root_at d b in
      let seen : Bool = are_branches d b q ks in
      let w : Window = window e b i j new in
      ap (λ (x : Root). tests x (are_branches e b x (looked_at x.size (pieces_at e x) i j new)) e.map_block (length (free_handles e)) w) (root_same d e b ks alike)
      ∙ ap (λ (places : List ℕ). tests q (are_branches e b q places) e.map_block (length (free_handles e)) w) window_same.looked
      ∙ ap (λ (c : Bool). tests q c e.map_block (length (free_handles e)) w) (branches_same d e b ks alike)
      ∙ ap₂ (λ (m : ℕ) (hs : List ℕ). tests q seen m (length hs) w) alike.map_block (free_same d e b ks alike)
      ∙ ap (tests q seen d.map_block (length (free_handles d))) window-same

-- The edits.

pub inserted-same : (d e : Document) (b i : ℕ) (bytes : List ℕ) → AreAlike d e b (replacing_looks d b i i (cut_elements (root_at d b).size bytes))
    → insert_large_conditions e b i bytes ≡ insert_large_conditions d b i bytes
inserted-same d e b i bytes alike =
    let ks : List ℕ = replacing_looks d b i i (cut_elements (root_at d b).size bytes) in
    let range : Root → Bool = λ q. nat_lt (total_count q) i || ends_within_element q.size bytes in
    let long : Root → Bool = λ q. is_too_long q.size bytes in
    let tests : Root → Conditions → Conditions → Conditions = λ q first last. first ++ (Range, range q) ∷ (TooBig, long q) ∷ last in
    let r : Root = root_at d b in
    let new : BranchPiece = cut_elements r.size bytes in
    ap (λ (q : Root). tests q (on_root e b) (on_window (not (range q || long q)) e b i i (cut_elements q.size bytes))) (root_same d e b ks alike)
    ∙ ap₂ (tests r) (on_root_same d e b ks alike) (on_window-same d e b i i new (omega arith) alike (not (range r || long r)))

pub deleted-same : (d e : Document) (b i n : ℕ) → AreAlike d e b (replacing_looks d b i (i + n) []) → delete_large_conditions e b i n ≡ delete_large_conditions d b i n
deleted-same d e b i n alike =
    let ks : List ℕ = replacing_looks d b i (i + n) [] in
    let past : Root → Bool = λ q. nat_lt (total_count q) (i + n) in
    let tests : Root → Conditions → Conditions → Conditions = λ q first last. first ++ (NoElement, past q) ∷ last in
    let r : Root = root_at d b in
    ap (λ (q : Root). tests q (on_root e b) (on_window (not (past q)) e b i (i + n) [])) (root_same d e b ks alike)
    ∙ ap₂ (tests r) (on_root_same d e b ks alike) (on_window-same d e b i (i + n) [] (omega arith) alike (not (past r)))

pub set-same : (d e : Document) (b i : ℕ) (bytes : List ℕ) → AreAlike d e b (set_looks d b i bytes) → set_large_conditions e b i bytes ≡ set_large_conditions d b i bytes
set-same d e b i bytes alike =
    let ks : List ℕ = set_looks d b i bytes in
    let past : Root → Bool = λ q. nat_lt (total_count q) (i + element_count q.size bytes) in
    let uneven : Root → Bool = λ q. ends_within_element q.size bytes in
    let long : Root → Bool = λ q. is_too_long q.size bytes in
    let tests : Root → Conditions → Conditions → Conditions = λ q first last. first ++ (NoElement, past q) ∷ (Range, uneven q) ∷ (TooBig, long q) ∷ last in
    let replaced : Document → Root → Conditions = λ x q. on_window (not (past q || long q)) x b i (i + 1) (bytes ∷ []) in
    let written : Document → Root → Conditions = λ x q. on_run (not (past q || uneven q)) x b i (element_count q.size bytes) in
    let last : Document → Root → Conditions = λ x q. if q.size == 0 then replaced x q else written x q in
    let r : Root = root_at d b in
    let looks : List ℕ = replacing_looks d b i (i + 1) (bytes ∷ []) in
    let places : List ℕ = run_places r i (element_count r.size bytes) in
    let last_same : last e r ≡ last d r = elim (cases_Bool (r.size == 0)) [
      | inl vary ↦
          cond-true (r.size == 0) (replaced e r) (written e r) vary
          ∙ on_window-same d e b i (i + 1) (bytes ∷ []) (omega arith) (subst (AreAlike d e b) (cond-true (r.size == 0) looks places vary) alike) (not (past r || long r))
          ∙ sym (cond-true (r.size == 0) (replaced d r) (written d r) vary)
      | inr one ↦
          cond-false (r.size == 0) (replaced e r) (written e r) one
          ∙ on_run_same d e b ks alike (not (past r || uneven r)) i (element_count r.size bytes) (sym (cond-false (r.size == 0) looks places one))
          ∙ sym (cond-false (r.size == 0) (replaced d r) (written d r) one)
    ] in
    ap (λ (q : Root). tests q (on_root e b) (last e q)) (root_same d e b ks alike)
    ∙ ap₂ (tests r) (on_root_same d e b ks alike) last_same

-- Elements that are written over: the pieces of their run are the same, and so is what becomes of them.
module _ (d e : Document) (b i : ℕ) (new : BranchPiece) (some : 0 < length new) (within : i + length new ≤ total_count (root_at d b))
    (alike : AreAlike d e b (run_places (root_at d b) i (length new))) where
  abbrev q : Root
  q = root_at d b

  abbrev before : List BranchPiece
  before = pieces_at d q

  abbrev after : List BranchPiece
  after = pieces_at e q

  abbrev start : ℕ
  start = (start_place q.counts i).0

  abbrev end : ℕ
  end = suc (end_place q.counts (i + length new)).0

  abbrev written : List BranchPiece → List BranchPiece
  written xs = drop start (take end (overwritten xs i new))

  written_also : is_some (root_of (raw_bytes_of d b)) ≡ true → written after ≡ written before
  written_also found =
      let found_also : is_some (root_of (raw_bytes_of e b)) ≡ true = ap (λ (bytes : List ℕ). is_some (root_of bytes)) alike.root ∙ found in
      let same : root_at e b ≡ q = root_same d e b (run_places q i (length new)) alike in
      let counts_also : q.counts ≡ map length after = subst (λ (x : Root). x.counts ≡ map length (pieces_at e x)) same (root-counts e b found_also) in
      let count : q.counts ≡ map length before = root-counts d b found in
      let whole = root_full q before (root-facts d b found).0 count in
      let many = pieces-many d b found in
      let few = (root-facts d b found).2 in
      let mapped = length-map before (λ (p : BranchPiece). length p) in
      let mapped_also = length-map after (λ (p : BranchPiece). length p) in
      let counted = ap (λ (ns : List ℕ). length ns) count in
      let counted_also = ap (λ (ns : List ℕ). length ns) counts_also in
      let all = sum-lengths before ∙ refl in
      let all_also = sum-lengths after ∙ refl in
      let total = ap (λ (ns : List ℕ). sum ns) count in
      let total_also = ap (λ (ns : List ℕ). sum ns) counts_also in
      let order = start-end q.counts i (i + length new) (omega arith) in
      let low = ends before (i + length new) whole.0 in
      let last = ap (λ (ns : List ℕ). (end_place ns (i + length new)).0) count in
      let long = length-overwritten before i new in
      let long_also = length-overwritten after i new in
      let none : (length new == 0) ≡ false = ne_eqb (length new) 0 (λ is. omega arith) in
      let places : run_places q i (length new) ≡ range_with_len start (end - start) = cond-false (length new == 0) [] (range_with_len start (end - start)) none in
      let row : List ℕ = replicate q.size 0 in
      let piece_same : (k : ℕ) → start ≤ k → k < start + (end - start) → get_or after k [] ≡ get_or before k [] =
      λ k from to.
      piece-read e q k (omega arith)
      ∙ ap (λ (o : Option BranchPiece). unwrap_or o (replicate (get_or q.counts k 0) row))
      (branch_same d e b (run_places q i (length new)) alike k (subst (λ (ks : List ℕ). Contains ks k) (sym places) (range_there start (end - start) k from to)))
      ∙ sym (piece-read d q k (omega arith)) in
      run-pieces (overwritten after i new) start end (omega arith) (omega arith)
      ∙ map_same (λ k. get_or (overwritten after i new) k []) (λ k. get_or (overwritten before i new) k []) start (end - start)
      (λ k from to.
      written-piece after i new k (omega arith) (omega arith)
      ∙ ap₂ (λ (ns : List ℕ) (p : BranchPiece). written_piece (sum (take k ns)) p i new) (sym counts_also ∙ count) (piece_same k from to)
      ∙ sym (written-piece before i new k (omega arith) (omega arith)))
      ∙ sym (run-pieces (overwritten before i new) start end (omega arith) (omega arith))

  pub written-same : written_pieces e b i new ≡ written_pieces d b i new
  written-same =
      ap (λ (x : Root). drop (start_place x.counts i).0 (take (suc (end_place x.counts (i + length new)).0) (overwritten (pieces_at e x) i new)))
      (root_same d e b (run_places q i (length new)) alike)
      ∙ by_root (root_of (raw_bytes_of d b)) refl
    where
      by_root : (o : Option Root) → root_of (raw_bytes_of d b) ≡ o → written after ≡ written before
      by_root None none =
          let empty : Root = record { size = 0; counts = []; branches = [] } in
          let nothing = ap (λ (o : Option Root). total_count (unwrap_or o empty)) none in
          absurd (omega arith)
      by_root (Some x) found = written_also (ap is_some found)

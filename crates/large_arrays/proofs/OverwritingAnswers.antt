-- What is answered of a run that is written over, by what its branches are.
use Rattle.std.proofs.Common.{◌≡◌, ℕ, suc, ◌+◌, ◌-◌, ◌<◌, ◌≤◌, ◌==◌, ◌&&◌, Bool, true, false, List, [], ◌∷◌, length, take, drop, map, get_or, Some, Result, Ok, Err, MatchResult, refl, sym, subst, ap, ap₂, ◌∙◌, inl, inr, arith, length-drop, eqb-true}
use Rattle.std.proofs.lemmas.Bool.{cases_Bool, cond-false}
use Rattle.std.proofs.lemmas.List.{ext_get_or, length-map, length-take, take_more, take-take, take-map, drop-map, drop-take, get_or-take, get_or-drop}
use Rattle.std.proofs.lemmas.List.Sums.{sum_by-append, sum_by-cons, sum_by-take-drop}
use Rattle.std.specs.List.{range_with_len, zip}
use Rattle.geos_model.specs.ElementArray.{all_distinct}
use Rattle.geos_model.specs.Document.{Block, Document, raw_bytes_of, with_blocks}
use Rattle.geos_model.specs.declared.fault.Fault.{Fault}
use Rattle.vm_blocks.specs.declared.change.Change.{Change}
use Rattle.vm_chains.specs.Walking.{Stops}
use Rattle.vm_chains.proofs.WalkLemmas.{and_false}
use Rattle.geos_model.specs.Pieces.{BranchPiece, elements_in_pieces}
use Rattle.geos_model.specs.LargeLayout.{Root, branch_bytes, root_of}
use Rattle.geos_model.specs.Spread.{start_place, end_place, overwritten}
use Rattle.geos_model.specs.LargeBlocks.{root_at, pieces_at}
use Rattle.large_arrays.specs.ChangePlans.{piece_bodies, with_bodies}
use Rattle.geos_model.specs.LargeBlocks.{handles_at}
use Rattle.large_arrays.specs.EditPlans.{IsOverwritingPlanned, PlansLargeEdit}
use Rattle.geos_model.specs.LargeEdits.{run_places}
use Rattle.geos_model.specs.ChangedBlocks.{overwritten_blocks}
use Rattle.large_arrays.specs.LargeRuns.{are_branches_under, pieces_under}
use Rattle.large_arrays.specs.LookedBranches.{HasLinks}
use Rattle.large_arrays.specs.Middle.{IsRunSpot, run_links}
use Rattle.large_arrays.specs.OverwritingPlans.{AreBranchesWritten}
use Rattle.large_bodies.specs.SizedElements.{SizedElements}
use Rattle.large_arrays.specs.Spots.{AreBranchLinks, IsSpot, counts_of, link_handles}
use Rattle.geos_model.specs.LargeWindow.{are_branches, elements_overwritten, raw_block}
use Rattle.large_arrays.specs.WrittenPieces.{written_piece}
use Rattle.large_arrays.specs.declared.spot.BranchLink.{BranchLink}
use Rattle.large_arrays.specs.declared.spot.Spot.{Spot}
use Rattle.large_arrays.proofs.OverwritingSteps.{lengths-under, bodies-first, run_bodies}
use Rattle.geos_model.proofs.OverwrittenPieces.{sum, sum-lengths}
use Rattle.large_arrays.proofs.PlannedEdits.{planned-edit}
use Rattle.large_arrays.proofs.PlaceSums.{start-sum, end-sum}
use Rattle.geos_model.proofs.BlockLists.{distinct-rest}
use Rattle.large_arrays.proofs.RootFacts.{piece_under, counts-at, root-as_many, length-pieces}
use Rattle.large_arrays.proofs.RunAnswers.{links-tested, links-pieces}
use Rattle.large_arrays.proofs.RunSpots.{has-links}
use Rattle.large_arrays.proofs.SpotPieces.{spot-root}
use Rattle.large_arrays.proofs.SpotRuns.{HasRun, run-is, run-count, run-handle}
use Rattle.geos_model.proofs.WindowHandles.{handles-places}
use Rattle.large_arrays.proofs.WrittenBranches.{written-shift}
use Rattle.large_arrays.proofs.WrittenLemmas.{written-piece, length-overwritten}

module _ (d : Document) (b i : ℕ) (new : SizedElements) (s : Spot) (run : IsRunSpot s) (is : IsSpot (root_at d b) i (i + length new.elements) s)
    (some : 0 < length new.elements) where
  abbrev r : Root
  r = root_at d b

  abbrev n : ℕ
  n = length new.elements

  abbrev j : ℕ
  j = i + n

  abbrev a : ℕ
  a = (start_place r.counts i).0

  abbrev e : ℕ
  e = (end_place r.counts j).0

  abbrev m : ℕ
  m = e + 1 - a

  abbrev links : List BranchLink
  links = run_links s

  abbrev ps : List BranchPiece
  ps = pieces_at d r

  abbrev start : ℕ
  start = s.start.1

  has : HasRun s
  has = run-is s run

  linked : HasLinks s
  linked = has-links s run

  root : root_of (raw_bytes_of d b) ≡ Some r
  root = spot-root d b i j s linked is

  start-is : s.start ≡ start_place r.counts i
  start-is = is.start ∙ cond-false (i == j) (end_place r.counts i) (start_place r.counts i) (elim (cases_Bool (i == j)) [
    | inl same ↦ (let never = eqb-true i j same in absurd (omega arith))
    | inr other ↦ other
  ])

  first-is : s.start.0 ≡ a
  first-is = ap (λ (p : ℕ × ℕ). p.0) start-is

  before-is : s.start.1 ≡ (start_place r.counts i).1
  before-is = ap (λ (p : ℕ × ℕ). p.1) start-is

  last-is : s.end.0 ≡ e
  last-is = ap (λ (p : ℕ × ℕ). p.0) is.end

  behind-is : s.end.1 ≡ (end_place r.counts j).1
  behind-is = ap (λ (p : ℕ × ℕ). p.1) is.end

  order : a ≤ e
  order = (let up = has.order in let x = first-is in let y = last-is in omega arith)

  as_many : length r.branches ≡ length r.counts
  as_many = root-as_many d b root

  there : e + 1 ≤ length r.counts
  there = (let low = linked.last in let x = last-is in let all = is.branches in let many = as_many in omega arith)

  links-many : length links ≡ m
  links-many = (let many = has.many in let up = has.order in let x = first-is in let y = last-is in omega arith)

  -- they are the branches from one place to another
  are : AreBranchLinks r a (e + 1) links
  are =
      let many = links-many in
      let all = as_many in
      let high = there in
      let x = first-is in
      let counted = length-map links (λ (l : BranchLink). l.count) in
      let named = length-map links (λ (l : BranchLink). l.handle.0) in
      let cut = length-drop a r.counts in
      let cut_named = length-drop a r.branches in
      let part = length-take m (drop a r.counts) in
      let part_named = length-take m (drop a r.branches) in
      record {
        counts = ext_get_or 0 (counts_of links) (take m (drop a r.counts)) (omega arith) (λ k low.
            let place : s.start.0 + k ≡ a + k = omega arith in
            run-count r i j s is k has.first (omega arith) ∙ ap (λ (q : ℕ). get_or r.counts q 0) place
            ∙ sym (get_or-take m (drop a r.counts) k 0 (omega arith) ∙ get_or-drop a r.counts k 0));
        handles = ext_get_or 0 (link_handles links) (take m (drop a r.branches)) (omega arith) (λ k low.
            let place : s.start.0 + k ≡ a + k = omega arith in
            run-handle r i j s is k has.first (omega arith) ∙ ap (λ (q : ℕ). get_or r.branches q 0) place
            ∙ sym (get_or-take m (drop a r.branches) k 0 (omega arith) ∙ get_or-drop a r.branches k 0));
      }

  some-left : (n == 0) ≡ false
  some-left = elim (cases_Bool (n == 0)) [
    | inl none ↦ (let never = eqb-true n 0 none in absurd (omega arith))
    | inr other ↦ other
  ]

  -- tested, they are the branches of the run
  pub run-tested : are_branches d b r (run_places r i n) ≡ (are_branches_under d s.size links && all_distinct (b ∷ link_handles links))
  run-tested =
      let same : suc e - a ≡ m = omega arith in
      let many = as_many in
      let high = there in
      let up = order in
      ap (are_branches d b r) (cond-false (n == 0) [] (range_with_len a (suc e - a)) some-left)
      ∙ ap (λ (k : ℕ). are_branches d b r (range_with_len a k)) same
      ∙ ap₂ (λ (t : Bool) (hs : List ℕ). t && all_distinct (b ∷ hs))
      (sym (links-tested d b root a (e + 1) links are there) ∙ ap (λ (z : ℕ). are_branches_under d z links) (sym is.size))
      (handles-places r.branches a m (omega arith) ∙ sym are.handles)

  -- how many elements are before them, and how many they have
  begins : sum (take a r.counts) + start ≡ i
  begins = (let all = start-sum r.counts i in let x = before-is in omega arith)

  last-count : get_or (counts_of links) (s.end.0 - s.start.0) 0 ≡ get_or r.counts e 0
  last-count =
      let up = has.order in
      let many = has.many in
      let y = last-is in
      let place : s.start.0 + (s.end.0 - s.start.0) ≡ e = omega arith in
      run-count r i j s is (s.end.0 - s.start.0) has.first (omega arith) ∙ ap (λ (q : ℕ). get_or r.counts q 0) place

  upto : j ≤ sum (take (e + 1) r.counts)
  upto =
      let cs = r.counts in
      let high = there in
      let all : sum (take (e + 1) cs) ≡ sum (take e cs) + (get_or cs e 0 + 0) =
      ap sum (take_more cs e 0 (omega arith)) ∙ sum_by-append (λ (c : ℕ). c) (take e cs) (get_or cs e 0 ∷ []) ∙ ap (λ (x : ℕ). sum (take e cs) + x) (sum_by-cons (λ (c : ℕ). c) (get_or cs e 0) []) in
      let within = has.tail in
      let count = last-count in
      let to = end-sum cs j in
      let z = behind-is in
      omega arith

  parts : sum (take a r.counts) + sum (counts_of links) ≡ sum (take (e + 1) r.counts)
  parts =
      let cs = r.counts in
      let up = order in
      let behind : e + 1 ≡ a + m = omega arith in
      let cut = sum_by-take-drop (λ (c : ℕ). c) (take (e + 1) cs) a in
      let front : sum (take a (take (e + 1) cs)) ≡ sum (take a cs) = ap sum (take-take a (e + 1) cs (omega arith)) in
      let rest : sum (drop a (take (e + 1) cs)) ≡ sum (counts_of links) =
      ap (λ (k : ℕ). sum (drop a (take k cs))) behind ∙ ap sum (drop-take a m cs ∙ sym are.counts) in
      omega arith

  pub run-enough : start + n ≤ sum (counts_of links)
  run-enough = (let most = upto in let all = parts in let from = begins in omega arith)

  total : j ≤ length (elements_in_pieces ps)
  total =
      let most = upto in
      let halves = sum_by-take-drop (λ (c : ℕ). c) r.counts (e + 1) in
      let all : sum r.counts ≡ length (elements_in_pieces ps) = ap sum (sym (counts-at d b root)) ∙ sum-lengths ps in
      omega arith

  -- the pieces that are written
  abbrev qs : List BranchPiece
  qs = pieces_under d s.size links

  are-pieces : qs ≡ take m (drop a ps)
  are-pieces = ap (λ (z : ℕ). pieces_under d z links) is.size ∙ links-pieces d b root a (e + 1) links are there

  qs-many : length qs ≡ m
  qs-many = length-map links (λ (l : BranchLink). piece_under d l.handle.0 s.size l.count) ∙ links-many

  abbrev over : List BranchPiece
  over = overwritten ps i new.elements

  -- how many elements are before one of them
  sums : (k : ℕ) → k < m → sum (take (a + k) (map length ps)) ≡ sum (take a r.counts) + sum (take k (map length qs))
  sums k low =
      let cs = r.counts in
      let cut = sum_by-take-drop (λ (c : ℕ). c) (take (a + k) cs) a in
      let front : sum (take a (take (a + k) cs)) ≡ sum (take a cs) = ap sum (take-take a (a + k) cs (omega arith)) in
      let counts : map length qs ≡ take m (drop a cs) =
      ap (map length) are-pieces ∙ sym (take-map length m (drop a ps)) ∙ ap (take m) (sym (drop-map length a ps) ∙ ap (drop a) (counts-at d b root)) in
      let rest : sum (drop a (take (a + k) cs)) ≡ sum (take k (map length qs)) =
      ap sum (drop-take a k cs ∙ sym (take-take k m (drop a cs) (omega arith)) ∙ ap (take k) (sym counts)) in
      ap (λ (xs : List ℕ). sum (take (a + k) xs)) (counts-at d b root) ∙ omega arith

  enough-pieces : start + n ≤ length (elements_in_pieces qs)
  enough-pieces =
      let small = has.small in
      let all : sum (counts_of links) ≡ length (elements_in_pieces qs) = ap sum (sym (lengths-under d s.size links small)) ∙ sum-lengths qs in
      let enough = run-enough in
      omega arith

  run-over : overwritten qs start new.elements ≡ drop a (take (suc e) over)
  run-over =
      let many = length-pieces d b root in
      let all = as_many in
      let high = there in
      let up = order in
      let left : length (overwritten qs start new.elements) ≡ m = length-overwritten qs start new.elements ∙ length-map qs length ∙ qs-many in
      let whole : length over ≡ length r.branches = length-overwritten ps i new.elements ∙ length-map ps length ∙ many in
      let cut = length-drop a (take (suc e) over) in
      let taken = length-take (suc e) over in
      let here = qs-many in
      let within = total in
      let enough = enough-pieces in
      let from = begins in
      ext_get_or [] (overwritten qs start new.elements) (drop a (take (suc e) over)) (omega arith) (λ k low.
      let below : k < m = omega arith in
      let piece : get_or qs k [] ≡ get_or ps (a + k) [] = ap (λ (xs : List BranchPiece). get_or xs k []) are-pieces ∙ get_or-take m (drop a ps) k [] below ∙ get_or-drop a ps k [] in
      written-piece qs start new.elements k (omega arith) (omega arith)
      ∙ sym (get_or-drop a (take (suc e) over) k [] ∙ get_or-take (suc e) over (a + k) [] (omega arith)
      ∙ written-piece ps i new.elements (a + k) (omega arith) (omega arith)
      ∙ ap₂ (λ (x : ℕ) (p : BranchPiece). written_piece x p i new.elements) (sums k below) (sym piece)
      ∙ written-shift (sum (take a r.counts)) (sum (take k (map length qs))) start i (get_or qs k []) new.elements (sym from)))

  -- what the blocks come to
  made : with_bodies d [] (piece_bodies s.size (zip (link_handles links) (overwritten qs start new.elements))) ≡ elements_overwritten d b i new.elements
  unfolding elements_overwritten
  made =
      let same : m ≡ suc e - a = omega arith in
      let blocks : List (ℕ × BranchPiece) → List (ℕ × Block) = λ xs. map (λ p. raw_block d p.0 (branch_bytes r.size p.1)) xs in
      ap (with_blocks d) (mapped s.size (zip (link_handles links) (overwritten qs start new.elements)))
      ∙ (λ t. with_blocks d (map (λ p. raw_block d p.0 (branch_bytes (is.size t) p.1)) (zip (are.handles t) (run-over t))))
      ∙ ap (λ (k : ℕ). with_blocks d (blocks (zip (take k (drop a r.branches)) (drop a (take (suc e) over))))) same
      ∙ sym (cond-false (n == 0) d (with_blocks d (blocks (zip (take (suc e - a) (drop a r.branches)) (drop a (take (suc e) over))))) some-left)
    where
      mapped : (size : ℕ) (xs : List (ℕ × BranchPiece)) → map (λ p. raw_block d p.0 p.1) (piece_bodies size xs) ≡ map (λ p. raw_block d p.0 (branch_bytes size p.1)) xs
      mapped size [] = refl
      mapped size (x ∷ xs) = ap (λ (ys : List (ℕ × Block)). raw_block d x.0 (branch_bytes size x.1) ∷ ys) (mapped size xs)

  -- the blocks that are changed
  handles-are : overwritten_blocks d b i n ≡ link_handles links
  handles-are =
      let same : suc e - a ≡ m = omega arith in
      let many = as_many in
      let high = there in
      let up = order in
      cond-false (n == 0) (b ∷ []) (handles_at r (run_places r i n)) some-left
      ∙ ap (handles_at r) (cond-false (n == 0) [] (range_with_len a (suc e - a)) some-left)
      ∙ ap (λ (k : ℕ). handles_at r (range_with_len a k)) same
      ∙ (handles-places r.branches a m (omega arith) ∙ sym are.handles)

  links-some : 0 < length (link_handles links)
  links-some = (let named = length-map links (λ (l : BranchLink). l.handle.0) in let many = links-many in let up = order in omega arith)

  pub run-planned : (changes : List Change) → new.size ≡ s.size → all_distinct (b ∷ link_handles links) ≡ true → AreBranchesWritten d links start new changes
      → IsOverwritingPlanned d b i new.elements changes
  run-planned changes size once written = record {
    there = run-tested ∙ (λ t. (ap (λ (z : ℕ). are_branches_under d z links) (sym size) ∙ written.there) t && once t);
    plans =
        (let blocks : map (λ (p : ℕ × List ℕ). p.0) (run_bodies d links start new) ≡ link_handles links = bodies-first d links start new in
        subst (λ (hs : List ℕ). PlansLargeEdit d (elements_overwritten d b i new.elements) hs changes) (blocks ∙ sym handles-are)
        (planned-edit d [] (run_bodies d links start new) (ap all_distinct blocks ∙ distinct-rest b (link_handles links) once) (subst (λ (hs : List ℕ). 0 < length hs) (sym blocks) links-some) changes (elements_overwritten d b i new.elements)
        (ap (λ (z : ℕ). with_bodies d [] (piece_bodies z (zip (link_handles links) (overwritten (pieces_under d z links) start new.elements)))) size ∙ made) written.planned));
  }

  -- it is refused

  pub run-unseen : new.size ≡ s.size → are_branches_under d new.size links ≡ false → are_branches d b r (run_places r i n) ≡ false
  run-unseen size none = run-tested ∙ ap (λ (t : Bool). t && all_distinct (b ∷ link_handles links)) (ap (λ (z : ℕ). are_branches_under d z links) (sym size) ∙ none)

  pub run-twice : all_distinct (b ∷ link_handles links) ≡ false → are_branches d b r (run_places r i n) ≡ false
  run-twice twice = run-tested ∙ ap (λ (t : Bool). are_branches_under d s.size links && t) twice ∙ and_false (are_branches_under d s.size links)

pub run-answered : {A : Type 0} (items : A → List Change) (first lacks : Fault → Type 0) (d : Document) (b i : ℕ) (new : SizedElements) (s : Spot) (r : Result A Fault) → IsRunSpot s
    → IsSpot (root_at d b) i (i + length new.elements) s → 0 < length new.elements → new.size ≡ s.size → all_distinct (b ∷ link_handles (run_links s)) ≡ true
    → ((fault : Fault) → first fault → lacks fault)
    → MatchResult r (λ x. AreBranchesWritten d (run_links s) s.start.1 new (items x)) (Stops first (are_branches_under d new.size (run_links s) ≡ false))
    → MatchResult r (λ x. IsOverwritingPlanned d b i new.elements (items x))
    (Stops lacks (are_branches d b (root_at d b) (run_places (root_at d b) i (length new.elements)) ≡ false))
run-answered items first lacks d b i new s (Ok x) run is some size once turn written = run-planned d b i new s run is some (items x) size once written
run-answered items first lacks d b i new s (Err fault) run is some size once turn (inl lack) = inl (turn fault lack)
run-answered items first lacks d b i new s (Err fault) run is some size once turn (inr bad) = inr (bad.0, run-unseen d b i new s run is some size bad.1)

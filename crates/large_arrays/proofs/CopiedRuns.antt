-- Elements of a run that are copied from one branch after another.
use Rattle.std.proofs.Common.{◌≡◌, ℕ, ◌+◌, ◌-◌, ◌<◌, ◌≤◌, nat_le, min, true, false, ◌&&◌, List, [], ◌++◌, length, take, drop, flat_map, get_or, replicate, Option, Some, None, is_some, unwrap_or, sym, ap, subst, ◌∙◌, inl, inr, arith, append_assoc, append-nil, length-drop, leb-true, leb-false}
use Rattle.std.proofs.lemmas.Bool.{cases_Bool}
use Rattle.std.proofs.lemmas.Grind.{flat_map-append}
use Rattle.std.proofs.lemmas.List.{drop_more, drop_all, take_all, take-append-le, drop-append-le, get_or-map, length-map}
use Rattle.std.proofs.lemmas.List.Folds.{list_all_more, list_all_at}
use Rattle.std.proofs.lemmas.List.Sums.{sum_by-cons}
use Rattle.geos_model.specs.Document.{Document, raw_bytes_of}
use Rattle.geos_model.specs.Pieces.{BranchPiece, elements_in_pieces}
use Rattle.large_arrays.specs.Loading.{branch_under}
use Rattle.large_arrays.specs.Spots.{counts_of}
use Rattle.large_arrays.specs.LargeRuns.{AppendsRun, are_branches_under, pieces_under}
use Rattle.large_arrays.specs.declared.spot.BranchLink.{BranchLink}
use Rattle.geos_model.proofs.BranchBytes.{branch_of-is}
use Rattle.large_arrays.proofs.LoadedBranches.{under-raw}
use Rattle.large_arrays.proofs.Marking.{no_link}
use Rattle.geos_model.proofs.OverwrittenPieces.{sum}
use Rattle.large_arrays.proofs.RootFacts.{piece_under}
use Rattle.geos_model.proofs.SpreadElements.{take_past}

abbrev pub joined_bytes : BranchPiece → List ℕ
joined_bytes xs = flat_map (λ x. x) xs

-- what is taken of a piece, and of those behind it
run-step : (p rest : BranchPiece) (from left to : ℕ) → from ≤ length p → to ≡ min (length p) (from + left)
    → take left (drop from (p ++ rest)) ≡ take (to - from) (drop from p) ++ take (left - (to - from)) rest
run-step p rest from left to within is =
    let long = length-drop from p in
    ap (take left) (drop-append-le from p rest within) ∙ (elim (cases_Bool (nat_le left (length (drop from p)))) [
      | inl few ↦
          (let low = leb-true left (length (drop from p)) few in
          let all : to - from ≡ left = omega arith in
          let none : left - (to - from) ≡ 0 = omega arith in
          take-append-le left (drop from p) rest low ∙ ap (λ (n : ℕ). take n (drop from p)) (sym all)
          ∙ sym (append-nil (take (to - from) (drop from p))) ∙ ap (λ (n : ℕ). take (to - from) (drop from p) ++ take n rest) (sym none))
      | inr many ↦
          (let more = leb-false left (length (drop from p)) many in
          let all : length (drop from p) ≡ to - from = omega arith in
          take_past (drop from p) rest left (omega arith) ∙ ap (λ (n : ℕ). drop from p ++ take (left - n) rest) all
          ∙ ap (λ (xs : BranchPiece). xs ++ take (left - (to - from)) rest) (sym (take_all (to - from) (drop from p) (omega arith))))
    ])

-- How many elements the branches from one on have.

pub counts-rest : (links : List BranchLink) (k : ℕ) → k < length links → sum (drop k (counts_of links)) ≡ (get_or links k no_link).count + sum (drop (k + 1) (counts_of links))
counts-rest links k low =
    let long = length-map links (λ l. l.count) in
    ap sum (drop_more (counts_of links) k 0 (omega arith))
    ∙ sum_by-cons (λ (c : ℕ). c) (get_or (counts_of links) k 0) (drop (k + 1) (counts_of links))
    ∙ ap (λ (c : ℕ). c + sum (drop (k + 1) (counts_of links))) (get_or-map (λ (l : BranchLink). l.count) links k no_link 0 low)

pub counts-done : (links : List BranchLink) (k : ℕ) → length links ≤ k → sum (drop k (counts_of links)) ≡ 0
counts-done links k past = (let long = length-map links (λ l. l.count) in ap sum (drop_all k (counts_of links) (omega arith)))

pub count-first : (links : List BranchLink) (k : ℕ) → k < length links → get_or (counts_of links) k 0 ≡ (get_or links k no_link).count
count-first links k low = get_or-map (λ (l : BranchLink). l.count) links k no_link 0 low

module _ (d : Document) (size : ℕ) (links : List BranchLink) (small : size < 65536) where
  abbrev ps : List BranchPiece
  ps = pieces_under d size links

  pub pieces-done : (k left from : ℕ) → length links ≤ k → left ≡ 0 → take left (drop from (elements_in_pieces (drop k ps))) ≡ []
  pieces-done k left from past none = ap (λ (n : ℕ). take n (drop from (elements_in_pieces (drop k ps)))) none

  -- one branch more
  pub copy-step : (k from left to : ℕ) (elements : BranchPiece) → k < length links
      → branch_under d (get_or links k no_link).handle.0 size (get_or links k no_link).count ≡ Some elements
      → from ≤ (get_or links k no_link).count → to ≡ min (get_or links k no_link).count (from + left)
      → joined_bytes (take (to - from) (drop from elements)) ++ joined_bytes (take (left - (to - from)) (drop 0 (elements_in_pieces (drop (k + 1) ps))))
      ≡ joined_bytes (take left (drop from (elements_in_pieces (drop k ps))))
  copy-step k from left to elements low found order is =
      let l : BranchLink = get_or links k no_link in
      let many : length elements ≡ l.count = (branch_of-is size l.count (raw_bytes_of d l.handle.0) elements small (under-raw d l.handle.0 size l.count elements found).1).0 in
      let long = length-map links (λ (x : BranchLink). piece_under d x.handle.0 size x.count) in
      let piece : get_or ps k [] ≡ elements =
      get_or-map (λ (x : BranchLink). piece_under d x.handle.0 size x.count) links k no_link [] low
      ∙ ap (λ (o : Option BranchPiece). unwrap_or o (replicate l.count (replicate size 0))) found in
      let rest : BranchPiece = elements_in_pieces (drop (k + 1) ps) in
      let here : elements_in_pieces (drop k ps) ≡ elements ++ rest = ap elements_in_pieces (drop_more ps k [] (omega arith)) ∙ ap (λ (p : BranchPiece). p ++ rest) piece in
      let end : to ≡ min (length elements) (from + left) = is ∙ ap (λ (n : ℕ). min n (from + left)) (sym many) in
      sym (ap (λ (xs : BranchPiece). joined_bytes (take left (drop from xs))) here
      ∙ ap joined_bytes (run-step elements rest from left to (omega arith) end)
      ∙ flat_map-append (λ (x : List ℕ). x) (take (to - from) (drop from elements)) (take (left - (to - from)) rest))

  -- and what was copied before
  pub copied-step : (k from left to : ℕ) (old new whole : List ℕ) (elements : BranchPiece) → k < length links
      → branch_under d (get_or links k no_link).handle.0 size (get_or links k no_link).count ≡ Some elements
      → from ≤ (get_or links k no_link).count → to ≡ min (get_or links k no_link).count (from + left)
      → new ≡ old ++ joined_bytes (take (to - from) (drop from elements))
      → old ++ joined_bytes (take left (drop from (elements_in_pieces (drop k ps)))) ≡ whole
      → new ++ joined_bytes (take (left - (to - from)) (drop 0 (elements_in_pieces (drop (k + 1) ps)))) ≡ whole
  copied-step k from left to old new whole elements low found order is appended before =
      let run : List ℕ = joined_bytes (take (to - from) (drop from elements)) in
      let rest : List ℕ = joined_bytes (take (left - (to - from)) (drop 0 (elements_in_pieces (drop (k + 1) ps)))) in
      ap (λ (xs : List ℕ). xs ++ rest) appended ∙ append_assoc old run rest ∙ ap (λ (xs : List ℕ). old ++ xs) (copy-step k from left to elements low found order is) ∙ before

-- An appended run, of a document and a branch that are the same.
pub appended-same : (d e : Document) (size from to : ℕ) (link other : BranchLink) (old new : List ℕ) → e ≡ d → link ≡ other → AppendsRun e size link from to old new → AppendsRun d size other from to old new
appended-same d e size from to link other old new same is run =
    subst (λ (x : Document). AppendsRun x size other from to old new) same (subst (λ (l : BranchLink). AppendsRun e size l from to old new) is run)

-- The branches up to one more are those of the array.
pub tested-step : (d : Document) (size : ℕ) (links : List BranchLink) (k : ℕ) (elements : BranchPiece) → k < length links → are_branches_under d size (take k links) ≡ true
    → branch_under d (get_or links k no_link).handle.0 size (get_or links k no_link).count ≡ Some elements → are_branches_under d size (take (k + 1) links) ≡ true
tested-step d size links k elements low before found =
    list_all_more (λ (l : BranchLink). is_some (branch_under d l.handle.0 size l.count)) links k no_link low ∙ (λ j. before j && is_some (found j))

-- one of them isn't
pub tested-none : (d : Document) (size : ℕ) (links : List BranchLink) (k : ℕ) (link : BranchLink) → k < length links → link ≡ get_or links k no_link
    → branch_under d link.handle.0 size link.count ≡ None → are_branches_under d size links ≡ false
tested-none d size links k link low is none =
    list_all_at (λ (l : BranchLink). is_some (branch_under d l.handle.0 size l.count)) links k no_link low
    (ap (λ (l : BranchLink). is_some (branch_under d l.handle.0 size l.count)) (sym is) ∙ ap (λ (o : Option BranchPiece). is_some o) none)

pub tested-done : (d : Document) (size : ℕ) (links : List BranchLink) (k : ℕ) → length links ≤ k → are_branches_under d size (take k links) ≡ true → are_branches_under d size links ≡ true
tested-done d size links k past before = ap (are_branches_under d size) (sym (take_all k links past)) ∙ before

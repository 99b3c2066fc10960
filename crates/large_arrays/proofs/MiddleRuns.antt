-- What is read of a run's bodies is what the document has there.
use Rattle.std.proofs.Common.{◌≡◌, ℕ, ◌+◌, ◌-◌, ◌<◌, ◌==◌, true, false, if◌then◌else◌, List, [], ◌++◌, length, take, drop, map, get_or, Option, None, Some, is_some, unwrap_or, replicate, refl, sym, ap, subst, ◌∙◌, inl, inr, arith, zero-add}
use Rattle.std.proofs.lemmas.Bool.{cases_Bool, cond-true}
use Rattle.std.proofs.lemmas.List.{get_or-map, length-map}
use Rattle.std.proofs.lemmas.List.FromFn.{get_or-map-range_with_len, get_or-range_with_len, length-range_with_len}
use Rattle.std.proofs.lemmas.List.Folds.{list_all_at}
use Rattle.std.proofs.lemmas.List.Sums.{AllPass-from_list_all}
use Rattle.geos_model.specs.Document.{Document, is_raw, raw_bytes_of}
use Rattle.geos_model.specs.LargeBlocks.{branch_at, pieces_at, root_at}
use Rattle.large_arrays.specs.Bodies.{AreBodies}
use Rattle.geos_model.specs.LargeLayout.{Root, branch_of, root_of}
use Rattle.large_arrays.specs.Middle.{IsMiddle, are_there, run_branches, run_length, run_links}
use Rattle.geos_model.specs.Pieces.{BranchPiece, branch_room, join_room, piece_weight}
use Rattle.large_arrays.specs.RunReading.{IsHead, IsTail, OneUnread, run_count, run_read, tail_room}
use Rattle.large_bodies.specs.SizedElements.{SizedElements}
use Rattle.large_arrays.specs.Spots.{IsSpot, link_handles}
use Rattle.geos_model.specs.Spread.{end_place, first_place, middle, packed_from, with_last}
use Rattle.large_arrays.specs.declared.middle.Middle.{Middle}
use Rattle.large_arrays.specs.declared.spot.Spot.{Spot}
use Rattle.geos_model.proofs.Layouts.{list_all-from_at, root-counts, root-facts}
use Rattle.large_arrays.proofs.SpotRuns.{HasRun, links-many, run-count, run-handle}

none_is : {X : Type 0} (o : Option X) (x : X) → is_some o ≡ false → unwrap_or o x ≡ x
none_is None x none = refl
none_is (Some y) x none = absurd (cc none)

-- the middle by what its first and its last branch have
abbrev middle_by : ℕ → ℕ × ℕ → ℕ × ℕ → BranchPiece → BranchPiece → BranchPiece → List BranchPiece
middle_by size from to first last new =
    with_last size (if from.0 == to.0 then branch_room else join_room) (packed_from size [] (take from.1 first ++ new)) (drop to.1 last)

module _ (s : Spot) (has : HasRun s) (bodies : List (List ℕ)) (d : Document) (b i j : ℕ) (is : IsSpot (root_at d b) i j s)
    (are : AreBodies d (link_handles (run_links s)) bodies) where
  abbrev r : Root
  r = root_at d b

  abbrev pieces : List BranchPiece
  pieces = pieces_at d r

  many : length bodies ≡ run_length s
  many =
      let mapped = ap length are.bytes ∙ length-map (link_handles (run_links s)) (λ h. raw_bytes_of d h) ∙ length-map (run_links s) (λ l. l.handle.0) in
      mapped ∙ has.many

  -- the root has the branches of the run
  low : s.end.0 < length r.counts
  low =
      let all = links-many (λ l. l.count) s.links.items r.counts s.first (s.end.0 + 2 - s.first) is.links.counts in
      let long = has.long in let first = has.first in let order = has.order in
      omega arith

  found : is_some (root_of (raw_bytes_of d b)) ≡ true
  found = elim (cases_Bool (is_some (root_of (raw_bytes_of d b)))) [
    | inl there ↦ there
    | inr none ↦
        (let empty : length r.counts ≡ 0 = ap (λ (x : Root). length x.counts) (none_is (root_of (raw_bytes_of d b)) (record { size = 0; counts = []; branches = [] }) none) in
        let some = low in
        absurd (omega arith))
  ]

  pub read-is : (n : ℕ) → n < length bodies → run_read s bodies n ≡ branch_at d r (s.start.0 + n)
  read-is n within =
      let k : ℕ = s.start.0 + n in
      let all = many in let also = has.many in
      let here : n < length (run_links s) = omega arith in
      let mapped = length-map (run_links s) (λ l. l.handle.0) in
      let there : n < length (link_handles (run_links s)) = omega arith in
      let h : ℕ = get_or r.branches k 0 in
      let handle : get_or (link_handles (run_links s)) n 0 ≡ h = run-handle r i j s is n has.first here in
      let bytes : get_or bodies n [] ≡ raw_bytes_of d h =
      ap (λ (xs : List (List ℕ)). get_or xs n []) are.bytes ∙ get_or-map (λ (x : ℕ). raw_bytes_of d x) (link_handles (run_links s)) n 0 [] there ∙ ap (raw_bytes_of d) handle in
      let raw : is_raw d h ≡ true = ap (is_raw d) (sym handle) ∙ AllPass-from_list_all (λ x. is_raw d x) (link_handles (run_links s)) are.raw n 0 there in
      let count : run_count s n ≡ get_or r.counts k 0 = run-count r i j s is n has.first here in
      (λ t. branch_of (is.size t) (count t) (bytes t)) ∙ sym (cond-true (is_raw d h) _ _ raw)

  place_at : (n : ℕ) → n < length bodies → get_or (run_branches s) n 0 ≡ s.start.0 + n
  place_at n within = let all = many in get_or-range_with_len s.start.0 (run_length s) n 0 (omega arith)

  as_many : length (run_branches s) ≡ length bodies
  as_many = length-range_with_len s.start.0 (run_length s) ∙ sym many

  pub all-there : ((n : ℕ) → n < length bodies → is_some (run_read s bodies n) ≡ true) → are_there d r (run_branches s) ≡ true
  all-there each =
      list_all-from_at (λ k. is_some (branch_at d r k)) (run_branches s) 0 (λ n within.
      let all = as_many in
      let low_n : n < length bodies = omega arith in
      ap (λ (k : ℕ). is_some (branch_at d r k)) (place_at n low_n) ∙ ap is_some (sym (read-is n low_n)) ∙ each n low_n)

  pub one-missing : OneUnread s bodies → are_there d r (run_branches s) ≡ false
  one-missing bad =
      let n : ℕ = bad.0 in
      let within : n < length bodies = bad.1 in
      let all = as_many in
      list_all_at (λ k. is_some (branch_at d r k)) (run_branches s) n 0 (omega arith)
      (ap (λ (k : ℕ). is_some (branch_at d r k)) (place_at n within) ∙ ap is_some (sym (read-is n within)) ∙ ap is_some bad.2)

  -- the piece that was read
  piece-read : (n : ℕ) (xs : BranchPiece) → n < length bodies → run_read s bodies n ≡ Some xs → get_or pieces (s.start.0 + n) [] ≡ xs
  piece-read n xs within read =
      let k : ℕ = s.start.0 + n in
      let all = many in let order = has.order in let last = low in
      let as_branches = (root-facts d b found).2 in
      get_or-map-range_with_len (λ m. unwrap_or (branch_at d r m) (replicate (get_or r.counts m 0) (replicate r.size 0))) 0 (length r.branches) k k [] (omega arith) (zero-add k)
      ∙ ap (λ (o : Option BranchPiece). unwrap_or o (replicate (get_or r.counts k 0) (replicate r.size 0))) (sym (read-is n within) ∙ read)

  module _ (head tail : SizedElements) (first : IsHead s bodies head) (last : IsTail s bodies tail) where
    head_piece : get_or pieces s.start.0 [] ≡ first.elements
    head_piece =
        let all = many in let order = has.order in
        ap (λ (k : ℕ). get_or pieces k []) (let same : s.start.0 ≡ s.start.0 + 0 = omega arith in same) ∙ piece-read 0 first.elements (omega arith) first.read

    tail_piece : get_or pieces s.end.0 [] ≡ last.elements
    tail_piece =
        let all = many in let order = has.order in
        ap (λ (k : ℕ). get_or pieces k []) (let same : s.end.0 ≡ s.start.0 + (s.end.0 - s.start.0) = omega arith in same)
        ∙ piece-read (s.end.0 - s.start.0) last.elements (omega arith) last.read

    from_is : first_place (map length pieces) i j ≡ s.start
    from_is = ap (λ (cs : List ℕ). first_place cs i j) (sym (root-counts d b found)) ∙ sym is.start

    to_is : end_place (map length pieces) j ≡ s.end
    to_is = ap (λ (cs : List ℕ). end_place cs j) (sym (root-counts d b found)) ∙ sym is.end

    middle-is : (new : BranchPiece) → with_last head.size (tail_room s) (packed_from head.size [] (head.elements ++ new)) tail.elements ≡ middle r.size pieces i j new
    middle-is new =
        (λ t. with_last (first.is t).size (tail_room s) (packed_from (first.is t).size [] ((first.is t).elements ++ new)) (last.is t).elements)
        ∙ (λ t. middle_by (is.size t) s.start s.end (sym head_piece t) (sym tail_piece t) new)
        ∙ (λ t. middle_by r.size (sym from_is t) (sym to_is t) (get_or pieces (sym from_is t).0 []) (get_or pieces (sym to_is t).0 []) new)

    pub is-middle : (new : BranchPiece) (m : Middle)
        → m.pieces ≡ record { size = head.size; pieces = with_last head.size (tail_room s) (packed_from head.size [] (head.elements ++ new)) tail.elements }
        → m.head ≡ piece_weight head.size head.elements → m.tail ≡ piece_weight tail.size tail.elements → IsMiddle d r i j new m
    is-middle new m pieces_are head_is tail_is = record {
      pieces = pieces_are ∙ (λ t. record { size = (ap (λ (p : SizedElements). p.size) first.is ∙ is.size) t; pieces = middle-is new t });
      head =
          subst (λ (at : ℕ × ℕ). m.head ≡ piece_weight r.size (take at.1 (get_or pieces at.0 []))) is.start
          (head_is ∙ (λ t. piece_weight (first.is t).size (first.is t).elements) ∙ (λ t. piece_weight (is.size t) (take s.start.1 (sym head_piece t))));
      tail =
          subst (λ (at : ℕ × ℕ). m.tail ≡ piece_weight r.size (drop at.1 (get_or pieces at.0 []))) is.end
          (tail_is ∙ (λ t. piece_weight (last.is t).size (last.is t).elements) ∙ (λ t. piece_weight (is.size t) (drop s.end.1 (sym tail_piece t))));
    }

-- What is answered of a run of elements, by what is found of its branches.
use Rattle.std.proofs.Common.{◌≡◌, ◌⊎◌, ℕ, suc, ◌+◌, ◌-◌, ◌*◌, ◌<◌, ◌≤◌, nat_lt, Bool, true, false, not, cond, ◌==◌, ◌&&◌, ◌||◌, List, [], ◌∷◌, ◌++◌, length, take, drop, map, get_or, Some, None, is_some, is_none, Result, Ok, Err, MatchResult, IfErr, refl, sym, ap, ap₂, ◌∙◌, inl, inr, arith, length-drop, ltb-true, eqb-true}
use Rattle.std.proofs.lemmas.Bool.{cases_Bool, cond-false, lt-ltb, eq-eqb}
use Rattle.std.proofs.lemmas.List.{length-map, length-take, take_more, take-take, take-map, take-append-le, take-append-drop, drop-append-le, drop-map, drop-take, get_or-map, get_or-take, get_or-drop, ext_get_or}
use Rattle.std.proofs.lemmas.List.FromFn.{length-map-range_with_len, get_or-map-range_with_len}
use Rattle.std.proofs.lemmas.List.Folds.{list_all-map}
use Rattle.std.proofs.lemmas.List.Sums.{sum_by-append, sum_by-cons, sum_by-take-drop}
use Rattle.std.proofs.lemmas.Grind.{flat_map-append}
use Rattle.std.specs.List.{list_all, range_with_len}
use Rattle.geos_model.specs.ElementArray.{all_distinct}
use Rattle.geos_model.specs.Heap.{capacity}
use Rattle.geos_model.specs.Document.{Document, is_live, is_raw, raw_bytes_of}
use Rattle.geos_model.specs.Refusal.{first_refusal}
use Rattle.geos_model.specs.declared.fault.Fault.{Fault}
use Rattle.geos_model.specs.declared.fault.Fault.TheVariants.{NoBlock, WrongKind, NotArray, NoElement, Range, BadChain}
use Rattle.vm_chains.specs.Answers.{AnswersChain}
use Rattle.vm_chains.specs.Walking.{Stops}
use Rattle.vm_chains.proofs.WalkLemmas.{raw_live, and_false}
use Rattle.geos_model.specs.Pieces.{BranchPiece, elements_in_pieces}
use Rattle.geos_model.specs.LargeLayout.{Root, root_of, total_count}
use Rattle.geos_model.specs.Spread.{start_place, end_place}
use Rattle.geos_model.specs.LargeBlocks.{root_at, branch_at, pieces_at}
use Rattle.geos_model.specs.LargeWindow.{are_branches}
use Rattle.geos_model.specs.LargeEdits.{read_large_conditions, large_run, on_root, run_places}
use Rattle.large_arrays.specs.Loading.{branch_under}
use Rattle.large_arrays.specs.Spots.{AreBranchLinks, counts_of, link_handles}
use Rattle.large_arrays.specs.LargeRuns.{IsReadable, IsRunRefused, IsReadSpot, IsWithin, IsRunRefusal, are_branches_under, pieces_under, run_under}
use Rattle.large_arrays.specs.declared.runs.RunSpot.{RunSpot}
use Rattle.large_arrays.specs.declared.spot.BranchLink.{BranchLink}
use Rattle.large_arrays.proofs.CopiedRuns.{joined_bytes}
use Rattle.large_arrays.proofs.Marking.{no_link, handle_at}
use Rattle.geos_model.proofs.OverwrittenPieces.{sum, sum-lengths}
use Rattle.large_arrays.proofs.PlaceSums.{start-sum, end-sum, start-within, end-within, start-drop}
use Rattle.large_arrays.proofs.RefusalOrder.{of_read, root_first-read}
use Rattle.large_arrays.proofs.RootFacts.{piece_under, counts-at, piece-at, length-pieces, root-as_many, root-size}
use Rattle.geos_model.proofs.SpreadPlaces.{start-end, end-low}
use Rattle.geos_model.proofs.WindowHandles.{handles-places}

-- what refuses a root refuses each look-up
pub root-before-run : (d : Document) (b i n : ℕ) (fault : Fault) → first_refusal (on_root d b) ≡ Some fault → first_refusal (read_large_conditions d b i n) ≡ Some fault
root-before-run d b i n fault is =
    let r : Root = root_at d b in
    let past : Bool = nat_lt (total_count r) (i + n) in
    let long : Bool = (r.size == 0) || nat_lt capacity (n * r.size) in
    root_first-read (is_live d b) (is_raw d b) (is_none (root_of (raw_bytes_of d b))) past long (not (past || long) && not (are_branches d b r (run_places r i n))) fault is

not_less : (a b : ℕ) → b ≤ a → nat_lt a b ≡ false
not_less a b most = elim (cases_Bool (nat_lt a b)) [
  | inl less ↦ (let low = ltb-true a b less in absurd (omega arith))
  | inr other ↦ other
]

or_right : (a b : Bool) → b ≡ true → (a || b) ≡ true
or_right true b is = refl
or_right false b is = is

module _ (d : Document) (b : ℕ) (is : root_of (raw_bytes_of d b) ≡ Some (root_at d b)) where
  abbrev r : Root
  r = root_at d b

  abbrev ps : List BranchPiece
  ps = pieces_at d r

  -- Branches from one on, up to another that there is.
  module _ (a behind : ℕ) (links : List BranchLink) (are : AreBranchLinks r a behind links) (there : behind ≤ length r.counts) where
    pub length-links : length links ≡ behind - a
    length-links =
        let long = length-map links (λ l. l.count) in
        let same = ap length are.counts in
        let taken = length-take (behind - a) (drop a r.counts) in
        let cut = length-drop a r.counts in
        omega arith

    link-handle : (k : ℕ) → k < length links → (get_or links k no_link).handle.0 ≡ get_or r.branches (a + k) 0
    link-handle k low =
        let long = length-links in
        sym (handle_at links k no_link low) ∙ ap (λ (hs : List ℕ). get_or hs k 0) are.handles
        ∙ get_or-take (behind - a) (drop a r.branches) k 0 (omega arith) ∙ get_or-drop a r.branches k 0

    link-count : (k : ℕ) → k < length links → (get_or links k no_link).count ≡ get_or r.counts (a + k) 0
    link-count k low =
        let long = length-links in
        sym (get_or-map (λ (l : BranchLink). l.count) links k no_link 0 low) ∙ ap (λ (cs : List ℕ). get_or cs k 0) are.counts
        ∙ get_or-take (behind - a) (drop a r.counts) k 0 (omega arith) ∙ get_or-drop a r.counts k 0

    -- tested, they are the branches at these places
    pub links-tested : are_branches_under d r.size links ≡ list_all (λ k. is_some (branch_at d r k)) (range_with_len a (behind - a))
    links-tested =
        let long = length-links in
        let at_link : BranchLink → Bool = λ l. is_some (branch_under d l.handle.0 r.size l.count) in
        let at_place : ℕ → Bool = λ k. is_some (branch_at d r k) in
        let left = length-map links at_link in
        let right = length-map-range_with_len at_place a (behind - a) in
        let same : map at_link links ≡ map at_place (range_with_len a (behind - a)) =
        ext_get_or false (map at_link links) (map at_place (range_with_len a (behind - a))) (omega arith) (λ k low.
        let within : k < length links = omega arith in
        get_or-map at_link links k no_link false within
        ∙ (λ j. is_some (branch_under d (link-handle k within j) r.size (link-count k within j)))
        ∙ sym (get_or-map-range_with_len at_place a (behind - a) k (a + k) false (omega arith) refl)) in
        sym (list_all-map (λ (t : Bool). t) at_link links) ∙ ap (list_all (λ (t : Bool). t)) same ∙ list_all-map (λ (t : Bool). t) at_place (range_with_len a (behind - a))

    -- and their pieces those there
    pub links-pieces : pieces_under d r.size links ≡ take (behind - a) (drop a ps)
    links-pieces =
        let piece : BranchLink → BranchPiece = λ l. piece_under d l.handle.0 r.size l.count in
        let long = length-links in
        let left = length-map links piece in
        let many = length-pieces d b is in
        let all = root-as_many d b is in
        let taken = length-take (behind - a) (drop a ps) in
        let cut = length-drop a ps in
        ext_get_or [] (map piece links) (take (behind - a) (drop a ps)) (omega arith) (λ k low.
        let within : k < length links = omega arith in
        get_or-map piece links k no_link [] within
        ∙ (λ j. piece_under d (link-handle k within j) r.size (link-count k within j))
        ∙ sym (get_or-take (behind - a) (drop a ps) k [] (omega arith) ∙ get_or-drop a ps k [] ∙ piece-at d b is (a + k) (omega arith)))

  -- A run that can be read.
  module _ (raw : is_raw d b ≡ true) (i n : ℕ) where
    abbrev past : Bool
    past = nat_lt (total_count r) (i + n)

    abbrev long : Bool
    long = (r.size == 0) || nat_lt capacity (n * r.size)

    abbrev are : Bool
    are = are_branches d b r (run_places r i n)

    by-root : first_refusal (read_large_conditions d b i n) ≡ cond past (Some NoElement) (cond (not (past || long) && not are) (Some BadChain) (cond long (Some Range) None))
    by-root =
        of_read (is_live d b) (is_raw d b) (is_none (root_of (raw_bytes_of d b))) past long (not (past || long) && not are)
        ∙ (λ j. cond (raw_live d b raw j) (cond (raw j) (cond (is_none (is j)) (Some NotArray) (cond past (Some NoElement) (cond (not (past || long) && not are) (Some BadChain) (cond long (Some Range) None)))) (Some WrongKind)) (Some NoBlock))

    pub read-refused : (fault : Fault) → IsRunRefused r i n fault → first_refusal (read_large_conditions d b i n) ≡ Some fault
    read-refused fault (inl refused) =
        by-root
        ∙ ap (λ (p : Bool). cond p (Some NoElement) (cond (not (p || long) && not are) (Some BadChain) (cond long (Some Range) None))) (lt-ltb (total_count r) (i + n) refused.1)
        ∙ ap (λ (f : Fault). Some f) (sym refused.0)
    read-refused fault (inr refused) =
        by-root
        ∙ (λ j. cond (not_less (total_count r) (i + n) refused.1 j) (Some NoElement) (cond (not (not_less (total_count r) (i + n) refused.1 j || too_long refused.2 j) && not are) (Some BadChain) (cond (too_long refused.2 j) (Some Range) None)))
        ∙ ap (λ (f : Fault). Some f) (sym refused.0)
      where
        too_long : (r.size ≡ 0) ⊎ (capacity < n * r.size) → long ≡ true
        too_long (inl none) = ap (λ (t : Bool). t || nat_lt capacity (n * r.size)) (eq-eqb r.size 0 none)
        too_long (inr more) = or_right (r.size == 0) (nat_lt capacity (n * r.size)) (lt-ltb capacity (n * r.size) more)

    module _ (readable : IsReadable r i n) where
      fits : long ≡ false
      fits = (λ j. sized j || not_less capacity (n * r.size) readable.short j)
        where
          sized : (r.size == 0) ≡ false
          sized = elim (cases_Bool (r.size == 0)) [
            | inl none ↦ (let is_none = eqb-true r.size 0 none in let some = readable.sized in absurd (omega arith))
            | inr other ↦ other
          ]

      by-branch : (t : Bool) → are ≡ t → first_refusal (read_large_conditions d b i n) ≡ cond (not t) (Some BadChain) None
      by-branch t tested =
          by-root ∙ (λ j. let p = not_less (total_count r) (i + n) readable.there in
          cond (p j) (Some NoElement) (cond (not (p j || fits j) && not (tested j)) (Some BadChain) (cond (fits j) (Some Range) None)))

      -- of no elements
      pub read-nothing : n ≡ 0 → (first_refusal (read_large_conditions d b i n) ≡ None) × ([] ≡ large_run d b i n)
      read-nothing none = (
        by-branch true (ap (λ (m : ℕ). are_branches d b r (run_places r i m)) none),
        sym (ap (λ (m : ℕ). joined_bytes (take m (drop i (elements_in_pieces ps)))) none),
      )

      module _ (some : 0 < n) (s : RunSpot) (spot : IsReadSpot r i n s) where
        abbrev a : ℕ
        a = (start_place r.counts i).0

        abbrev e : ℕ
        e = (end_place r.counts (i + n)).0

        last : e < length r.counts
        last = (let there = readable.there in end_there r.counts (i + n) (omega arith))
          where
            end_there : (cs : List ℕ) (j : ℕ) → (0 < j) × (j ≤ sum cs) → (end_place cs j).0 < length cs
            end_there [] j low = (let up = low.0 in let few : j ≤ 0 = low.1 in absurd (omega arith))
            end_there (c ∷ cs) j low = (let at = end-low c cs j in omega arith)

        there : e + 1 ≤ length r.counts
        there = (let low = last in omega arith)

        order : a ≤ e
        order = start-end r.counts i (i + n) (omega arith)

        tested : are ≡ (are_branches_under d s.size s.links.items && all_distinct (b ∷ link_handles s.links.items))
        tested =
            let links = s.links.items in
            let some_left : (n == 0) ≡ false = elim (cases_Bool (n == 0)) [
              | inl none ↦ (let is_none = eqb-true n 0 none in absurd (omega arith))
              | inr other ↦ other
            ] in
            let m : suc e - a ≡ e + 1 - a = omega arith in
            let many = root-as_many d b is in
            let within : a + (e + 1 - a) ≤ length r.branches = (let low = there in let up = order in omega arith) in
            ap (are_branches d b r) (cond-false (n == 0) [] (range_with_len a (suc e - a)) some_left)
            ∙ ap (λ (k : ℕ). are_branches d b r (range_with_len a k)) m
            ∙ ap₂ (λ (t : Bool) (hs : List ℕ). t && all_distinct (b ∷ hs))
            (sym (links-tested a (e + 1) links spot.links there) ∙ ap (λ (z : ℕ). are_branches_under d z links) (sym spot.size))
            (handles-places r.branches a (e + 1 - a) within ∙ sym spot.links.handles)

        -- how many elements these branches have
        enough : s.before + s.count ≤ sum (counts_of s.links.items)
        enough =
            let cs = r.counts in
            let m : ℕ = e + 1 - a in
            let up = order in
            let behind : e + 1 ≡ a + m = omega arith in
            let all : sum (take (e + 1) cs) ≡ sum (take e cs) + (get_or cs e 0 + 0) =
            ap sum (take_more cs e 0 last) ∙ sum_by-append (λ (c : ℕ). c) (take e cs) (get_or cs e 0 ∷ []) ∙ ap (λ (x : ℕ). sum (take e cs) + x) (sum_by-cons (λ (c : ℕ). c) (get_or cs e 0) []) in
            let cut = sum_by-take-drop (λ (c : ℕ). c) (take (e + 1) cs) a in
            let front : sum (take a (take (e + 1) cs)) ≡ sum (take a cs) = ap sum (take-take a (e + 1) cs (omega arith)) in
            let rest : sum (drop a (take (e + 1) cs)) ≡ sum (take m (drop a cs)) = ap (λ (k : ℕ). sum (drop a (take k cs))) behind ∙ ap sum (drop-take a m cs) in
            let here : sum (counts_of s.links.items) ≡ sum (take m (drop a cs)) = ap sum spot.links.counts in
            let from = start-sum cs i in
            let to = end-sum cs (i + n) in
            let most = end-within cs (i + n) readable.there in
            let before = spot.before in
            let count = spot.count in
            omega arith

        run-first : s.before ≤ get_or (counts_of s.links.items) 0 0
        run-first =
            let up = order in
            let most = readable.there in
            let at = start-within r.counts i (omega arith) in
            let before = spot.before in
            let same : a + 0 ≡ a = omega arith in
            let count : get_or (counts_of s.links.items) 0 0 ≡ get_or r.counts a 0 =
            ap (λ (cs : List ℕ). get_or cs 0 0) spot.links.counts ∙ get_or-take (e + 1 - a) (drop a r.counts) 0 0 (omega arith)
            ∙ get_or-drop a r.counts 0 0 ∙ ap (λ (k : ℕ). get_or r.counts k 0) same in
            omega arith

        pub run-within : IsWithin s
        run-within = record {
          small = (let size = spot.size in let low = root-size d b is in omega arith);
          few = (let from = start-sum r.counts i in let before = spot.before in let count = spot.count in let most = readable.there in let bound = readable.few in omega arith);
          first = λ _. run-first;
          all = enough;
        }

        pub read-same : all_distinct (b ∷ link_handles s.links.items) ≡ false → first_refusal (read_large_conditions d b i n) ≡ Some BadChain
        read-same twice = by-branch false (tested ∙ ap (λ (t : Bool). are_branches_under d s.size s.links.items && t) twice ∙ and_false (are_branches_under d s.size s.links.items))

        pub read-none : are_branches_under d s.size s.links.items ≡ false → first_refusal (read_large_conditions d b i n) ≡ Some BadChain
        read-none none = by-branch false (tested ∙ ap (λ (t : Bool). t && all_distinct (b ∷ link_handles s.links.items)) none)

        pub read-all : all_distinct (b ∷ link_handles s.links.items) ≡ true → are_branches_under d s.size s.links.items ≡ true → first_refusal (read_large_conditions d b i n) ≡ None
        read-all once all = by-branch true (tested ∙ (λ j. all j && once j))

        pub read-run : run_under d s ≡ large_run d b i n
        read-run =
            let links = s.links.items in
            let m : ℕ = e + 1 - a in
            let p : ℕ = (start_place r.counts i).1 in
            let pieces : List BranchPiece = take m (drop a ps) in
            let front : BranchPiece = elements_in_pieces pieces in
            let rest : BranchPiece = elements_in_pieces (drop m (drop a ps)) in
            let are_pieces : pieces_under d s.size links ≡ pieces = ap (λ (z : ℕ). pieces_under d z links) spot.size ∙ links-pieces a (e + 1) links spot.links there in
            let long : length front ≡ sum (counts_of links) =
            sym (sum-lengths pieces)
            ∙ ap sum (sym (take-map length m (drop a ps)) ∙ ap (take m) (sym (drop-map length a ps) ∙ ap (drop a) (counts-at d b is)) ∙ sym spot.links.counts) in
            let all = enough in
            let before = spot.before in
            let count = spot.count in
            let cut = length-drop p front in
            let whole : drop i (elements_in_pieces ps) ≡ drop p (front ++ rest) =
            start-drop ps i
            ∙ ap (λ (cs : List ℕ). drop (start_place cs i).1 (elements_in_pieces (drop (start_place cs i).0 ps))) (counts-at d b is)
            ∙ ap (drop p) (ap elements_in_pieces (sym (take-append-drop m (drop a ps))) ∙ flat_map-append (λ (x : BranchPiece). x) pieces (drop m (drop a ps))) in
            (λ j. joined_bytes (take (count j) (drop (before j) (elements_in_pieces (are_pieces j)))))
            ∙ sym (ap (λ (xs : BranchPiece). joined_bytes (take n xs)) (whole ∙ drop-append-le p front rest (omega arith))
            ∙ ap joined_bytes (take-append-le n (drop p front) rest (omega arith)))

-- What is known once the root was looked at.
pub record IsFoundRun (d : Document) (b i n : ℕ) (s : RunSpot) : Type 0 where
  pub raw : is_raw d b ≡ true
  pub is : root_of (raw_bytes_of d b) ≡ Some (root_at d b)
  pub readable : IsReadable (root_at d b) i n
  pub some : 0 < n
  pub spot : IsReadSpot (root_at d b) i n s

pub found-within : (d : Document) (b i n : ℕ) (s : RunSpot) → IsFoundRun d b i n s → IsWithin s
found-within d b i n s has = run-within d b has.is has.raw i n has.readable has.some s has.spot

pub found-same : (d : Document) (b i n : ℕ) (s : RunSpot) → IsFoundRun d b i n s → all_distinct (b ∷ link_handles s.links.items) ≡ false
    → first_refusal (read_large_conditions d b i n) ≡ Some BadChain
found-same d b i n s has twice = read-same d b has.is has.raw i n has.readable has.some s has.spot twice

pub answered-run : {A : Type 0} (items : A → List ℕ) (lacks : Fault → Type 0) (d : Document) (b i n : ℕ) (s : RunSpot) (r : Result A Fault) → IsFoundRun d b i n s
    → all_distinct (b ∷ link_handles s.links.items) ≡ true
    → MatchResult r (λ bytes. (are_branches_under d s.size s.links.items ≡ true) × (items bytes ≡ run_under d s)) (Stops lacks (are_branches_under d s.size s.links.items ≡ false))
    → AnswersChain lacks (read_large_conditions d b i n) (λ bytes. items bytes ≡ large_run d b i n) r
answered-run items lacks d b i n s (Ok bytes) has once is =
    (read-all d b has.is has.raw i n has.readable has.some s has.spot once is.0, is.1 ∙ read-run d b has.is has.raw i n has.readable has.some s has.spot)
answered-run items lacks d b i n s (Err fault) has once (inl lack) = inl lack
answered-run items lacks d b i n s (Err fault) has once (inr bad) =
    inr (read-none d b has.is has.raw i n has.readable has.some s has.spot bad.1 ∙ ap (λ (f : Fault). Some f) (sym bad.0))

-- a run isn't read, for what its root has, or its branches
pub run-refusal : (lacks : Fault → Type 0) (r : Root) (d : Document) (b i n : ℕ) (fault : Fault) → IsRunRefused r i n fault → IsRunRefusal lacks d b fault
run-refusal lacks r d b i n fault (inl refused) = inl (inr (inl refused.0))
run-refusal lacks r d b i n fault (inr refused) = inr refused.0

pub copy-refusal : {A : Type 0} (lacks first : Fault → Type 0) (d : Document) (b : ℕ) (r : Result A Fault) → ((fault : Fault) → first fault → lacks fault)
    → IfErr r (λ fault. first fault ⊎ (fault ≡ BadChain)) → IfErr r (IsRunRefusal lacks d b)
copy-refusal lacks first d b (Ok bytes) turn err = tt
copy-refusal lacks first d b (Err fault) turn (inl lack) = inl (inl (inl (turn fault lack)))
copy-refusal lacks first d b (Err fault) turn (inr bad) = inl (inr (inr bad))

-- what stops a later call stops all of them
pub stopped-later : {A : Type 0} (first lacks : Fault → Type 0) (P : A → Type 0) (cause : Type 0) (r : Result A Fault) → ((fault : Fault) → first fault → lacks fault)
    → MatchResult r P (Stops first cause) → MatchResult r P (Stops lacks cause)
stopped-later first lacks P cause (Ok x) turn is = is
stopped-later first lacks P cause (Err fault) turn (inl lack) = inl (turn fault lack)
stopped-later first lacks P cause (Err fault) turn (inr bad) = inr bad

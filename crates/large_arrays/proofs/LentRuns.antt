-- Elements that are to be lent, by what is found of their root and of their branch.
use Rattle.std.proofs.Common.{◌≡◌, ◌≢◌, ◌⊎◌, ℕ, suc, ◌+◌, ◌-◌, ◌*◌, ◌<◌, ◌≤◌, nat_le, nat_lt, Bool, true, false, not, cond, ◌==◌, ◌&&◌, ◌||◌, List, [], ◌∷◌, ◌++◌, length, take, drop, get_or, replicate, Option, Some, None, unwrap_or, is_none, Result, Ok, Err, IfOk, IfErr, MatchResult, refl, sym, ap, ◌∙◌, inl, inr, arith, length-drop, lt-ltb, ltb-true, ltb-false, leb-true, leb-false}
use Rattle.std.proofs.Math.Seq.{drop-cons}
use Rattle.std.proofs.lemmas.Bool.{and_parts, cases_Bool, ne_eqb, true≢false}
use Rattle.std.proofs.lemmas.List.{drop-append-le, drop-drop, get_or-map, get_or_past, take_all, take_at}
use Rattle.std.proofs.lemmas.Result.{IfErr-weaker, MatchResult-weaker}
use Rattle.std.specs.List.{list_all}
use Rattle.geos_model.specs.Array.{Array, array_bytes}
use Rattle.geos_model.specs.Document.{Document, is_live, is_raw, raw_bytes_of}
use Rattle.geos_model.specs.Heap.{capacity}
use Rattle.geos_model.specs.LargeBlocks.{root_at, branch_at, pieces_at}
use Rattle.geos_model.specs.LargeEdits.{get_large_conditions, large_run, read_large_conditions, run_places}
use Rattle.geos_model.specs.LargeLayout.{Root, greatest_element_size, is_root, root_of, total_count}
use Rattle.geos_model.specs.LargeWindow.{are_branches}
use Rattle.geos_model.specs.Pieces.{BranchPiece, elements_in_pieces}
use Rattle.geos_model.specs.Refusal.{Conditions, first_refusal}
use Rattle.geos_model.specs.Spread.{start_place}
use Rattle.geos_model.specs.declared.fault.Fault.{Fault}
use Rattle.geos_model.specs.declared.fault.Fault.TheVariants.{CacheFull, NoBlock, WrongKind, NotArray, NoElement, Range, BadChain}
use Rattle.geos_model.proofs.Arrays.{joined}
use Rattle.geos_model.proofs.RootBytes.{root_of-read}
use Rattle.vm_chains.specs.Walking.{Stops}
use Rattle.chunk_arrays.specs.Reading.{element_place}
use Rattle.chunk_arrays.proofs.PlaceLemmas.{place-end, run-is}
use Rattle.large_bodies.specs.BranchReading.{IsPlain}
use Rattle.large_arrays.specs.LargeRuns.{IsRunRefusal}
use Rattle.large_arrays.specs.Loading.{branch_under}
use Rattle.large_arrays.proofs.ElementAnswers.{get-dead, get-found, get-none, get-same}
use Rattle.large_arrays.proofs.LoadedBranches.{branch-array, under-raw}
use Rattle.large_arrays.proofs.PlaceSums.{start-drop, start-within}
use Rattle.large_arrays.proofs.RefusalOrder.{of_get, of_read}
use Rattle.large_arrays.proofs.RootFacts.{counts-at, length-pieces, piece-at, root-as_many}
use Rattle.large_arrays.specs.LentRuns.{IsLentFrom, IsLentSpot, IsRunPlace, count_from}
use Rattle.large_arrays.specs.declared.lent_runs.LentSpot.{LentSpot}
use Rattle.large_arrays.specs.declared.lent_runs.RunPlace.{RunPlace}

-- The bytes from an element on: of an array, and of a branch.

from_place : (a : Array) (i : ℕ) → i ≤ length a.elements → drop (element_place a i) (array_bytes a) ≡ joined (drop i a.elements)
from_place a i low =
    let n : ℕ = element_place a (length a.elements) - element_place a i in
    let end = place-end a in
    let cut = length-drop (element_place a i) (array_bytes a) in
    let left = length-drop i a.elements in
    sym (take_all n (drop (element_place a i) (array_bytes a)) (omega (arith, end, cut)))
    ∙ run-is a i (length a.elements) low
    ∙ ap joined (take_all (length a.elements - i) (drop i a.elements) (omega (arith, left)))

pub lent_bytes : (d : Document) (h size count : ℕ) (a : Array) → size < 65536 → branch_under d h size count ≡ Some a.elements → IsPlain a size count → (i : ℕ) → i ≤ length a.elements
    → drop (2 + element_place a i) (raw_bytes_of d h) ≡ joined (drop i a.elements)
lent_bytes d h size count a small found plain i low =
    sym (drop-drop (element_place a i) 2 (raw_bytes_of d h))
    ∙ ap (drop (element_place a i)) (branch-array size count (raw_bytes_of d h) a small (under-raw d h size count a.elements found).1 plain).0
    ∙ from_place a i low

not_or : (p : Bool) → not (p || false) ≡ not p
not_or true = refl
not_or false = refl

not_less : (a b : ℕ) → b ≤ a → nat_lt a b ≡ false
not_less a b most = elim (cases_Bool (nat_lt a b)) [
  | inl less ↦ (let low = ltb-true a b less in absurd (omega arith))
  | inr other ↦ other
]

-- the size of a root's elements
size_few : (r : Root) → is_root r ≡ true → r.size ≤ greatest_element_size
size_few r is =
    let parts = and_parts (nat_lt 0 (length r.counts) && nat_le r.size greatest_element_size) (length r.counts == 1 || list_all (λ c. nat_lt 0 c) r.counts) is in
    leb-true r.size greatest_element_size (and_parts (nat_lt 0 (length r.counts)) (nat_le r.size greatest_element_size) parts.0).1

module _ (d : Document) (b i : ℕ) (raw : is_raw d b ≡ true) (is : root_of (raw_bytes_of d b) ≡ Some (root_at d b)) (s : LentSpot) (spot : IsLentSpot (root_at d b) i s) where
  abbrev r : Root
  r = root_at d b

  abbrev ps : List BranchPiece
  ps = pieces_at d r

  abbrev k : ℕ
  k = (start_place r.counts i).0

  abbrev p : ℕ
  p = (start_place r.counts i).1

  abbrev over : Bool
  over = nat_le (total_count r) i

  abbrev none : Bool
  none = is_none (root_of (raw_bytes_of d b))

  abbrev are : Bool
  are = are_branches d b r (run_places r i 1)

  same_past : nat_lt (total_count r) (i + 1) ≡ over
  same_past = elim (cases_Bool over) [
    | inl past ↦ (let most = leb-true (total_count r) i past in lt-ltb (total_count r) (i + 1) (omega arith) ∙ sym past)
    | inr other ↦ (let less = leb-false (total_count r) i other in not_less (total_count r) (i + 1) (omega arith) ∙ sym other)
  ]

  any : (r.size == 0) ≡ false
  any = ne_eqb r.size 0 (λ vary. (let sized = spot.sized in absurd (omega (arith, vary, sized))))

  short : nat_lt capacity (1 * r.size) ≡ false
  short = (let small = size_few r (root_of-read (raw_bytes_of d b) r is).1 in not_less capacity (1 * r.size) (omega arith))

  -- one element of one size is read where it can be got
  read_is_get : first_refusal (read_large_conditions d b i 1) ≡ first_refusal (get_large_conditions d b i)
  read_is_get =
      of_read (is_live d b) (is_raw d b) none (nat_lt (total_count r) (i + 1)) ((r.size == 0) || nat_lt capacity (1 * r.size)) (not (nat_lt (total_count r) (i + 1) || ((r.size == 0) || nat_lt capacity (1 * r.size))) && not are)
      ∙ (λ j. cond (is_live d b) (cond (is_raw d b) (cond none (Some NotArray) (cond (same_past j) (Some NoElement) (cond (not (same_past j || (any j || short j)) && not are) (Some BadChain) (cond (any j || short j) (Some Range) None)))) (Some WrongKind)) (Some NoBlock))
      ∙ (λ j. cond (is_live d b) (cond (is_raw d b) (cond none (Some NotArray) (cond over (Some NoElement) (cond (not_or over j && not are) (Some BadChain) None))) (Some WrongKind)) (Some NoBlock))
      ∙ sym (of_get (is_live d b) (is_raw d b) none over (not over && not are))

  pub lent-same : s.link.handle.0 ≡ b → first_refusal (read_large_conditions d b i 1) ≡ Some BadChain
  lent-same same = read_is_get ∙ get-same d b i raw is (record { size = s.size; link = s.link; before = s.before }) (record { there = spot.there; size = spot.size; handle = spot.handle; count = spot.count; before = spot.before }) same

  pub lent-none : branch_under d s.link.handle.0 s.size s.link.count ≡ None → first_refusal (read_large_conditions d b i 1) ≡ Some BadChain
  lent-none missing = read_is_get ∙ get-none d b i raw is (record { size = s.size; link = s.link; before = s.before }) (record { there = spot.there; size = spot.size; handle = spot.handle; count = spot.count; before = spot.before }) missing

  pub lent-dead : is_raw d s.link.handle.0 ≡ false → first_refusal (read_large_conditions d b i 1) ≡ Some BadChain
  lent-dead dead = read_is_get ∙ get-dead d b i raw is (record { size = s.size; link = s.link; before = s.before }) (record { there = spot.there; size = spot.size; handle = spot.handle; count = spot.count; before = spot.before }) dead

  -- its branch is one
  module _ (elements : BranchPiece) (found : branch_under d s.link.handle.0 s.size s.link.count ≡ Some elements) where
    pub lent-found : s.link.handle.0 ≢ b → first_refusal (read_large_conditions d b i 1) ≡ None
    lent-found other = read_is_get ∙ get-found d b i raw is (record { size = s.size; link = s.link; before = s.before }) (record { there = spot.there; size = spot.size; handle = spot.handle; count = spot.count; before = spot.before }) other elements found

    -- there is a branch at the place
    lies : k < length r.counts
    lies = by_counts r.counts (start-within r.counts i spot.there)
      where
        by_counts : (cs : List ℕ) → p < get_or cs k 0 → k < length cs
        by_counts cs some = elim (cases_Bool (nat_lt k (length cs))) [
          | inl low ↦ ltb-true k (length cs) low
          | inr past ↦ absurd (let none = get_or_past cs k 0 (ltb-false k (length cs) past) in omega arith)
        ]

    piece : get_or ps k [] ≡ elements
    piece =
        let many = root-as_many d b is in
        let low = lies in
        let there : k < length r.branches = omega arith in
        let under : branch_at d r k ≡ Some elements = (λ j. branch_under d (sym spot.handle j) (sym spot.size j) (sym spot.count j)) ∙ found in
        piece-at d b is k there ∙ ap (λ (o : Option BranchPiece). unwrap_or o (replicate (get_or r.counts k 0) (replicate r.size 0))) under

    pub lent-run : joined (drop s.before elements) ≡ large_run d b i (count_from r i)
    lent-run =
        let counts = counts-at d b is in
        let many = root-as_many d b is in
        let all = length-pieces d b is in
        let lie = lies in
        let low : k < length ps = omega arith in
        let long : get_or r.counts k 0 ≡ length elements = ap (λ (cs : List ℕ). get_or cs k 0) (sym counts) ∙ get_or-map length ps k [] 0 low ∙ ap length piece in
        let within = start-within r.counts i spot.there in
        let rest : BranchPiece = elements_in_pieces (drop (suc k) ps) in
        let cut = length-drop p elements in
        let whole : drop i (elements_in_pieces ps) ≡ drop p (elements ++ rest) =
        start-drop ps i ∙ ap (λ (cs : List ℕ). drop (start_place cs i).1 (elements_in_pieces (drop (start_place cs i).0 ps))) counts
        ∙ ap (λ (xs : List BranchPiece). drop p (elements_in_pieces xs)) (drop-cons ps k [] low)
        ∙ ap (λ (x : BranchPiece). drop p (x ++ rest)) piece in
        let taken : take (count_from r i) (drop i (elements_in_pieces ps)) ≡ drop p elements =
        ap (take (count_from r i)) (whole ∙ drop-append-le p elements rest (omega arith)) ∙ take_at (drop p elements) rest (count_from r i) (omega arith) in
        ap (λ (n : ℕ). joined (drop n elements)) spot.before ∙ sym (ap joined taken)

-- What is known once the root was looked at.
pub record IsFoundLent (d : Document) (b i : ℕ) (s : LentSpot) : Type 0 where
  pub raw : is_raw d b ≡ true
  pub is : root_of (raw_bytes_of d b) ≡ Some (root_at d b)
  pub spot : IsLentSpot (root_at d b) i s

-- how many elements of the branch are before it
pub lent-before : (r : Root) (i : ℕ) (s : LentSpot) → IsLentSpot r i s → s.before < s.link.count
lent-before r i s spot =
    let at = start-within r.counts i spot.there in let before = spot.before in let count = spot.count in omega (arith, at, before, count)

-- what refuses it, or what the call lacked
abbrev pub RefusesRun : (Fault → Type 0) → Document → ℕ → ℕ → Fault → Type 0
RefusesRun lacks d b i fault = lacks fault ⊎ (first_refusal (read_large_conditions d b i 1) ≡ Some fault)

-- its branch was looked at
pub lent_answered : (lacks : Fault → Type 0) (d : Document) (b i : ℕ) (s : LentSpot) (r : Result RunPlace Fault) → IsFoundLent d b i s → s.link.handle.0 ≢ b
    → MatchResult r (IsLentFrom d s) (λ fault. (fault ≡ BadChain) × (branch_under d s.link.handle.0 s.size s.link.count ≡ None)) → MatchResult r (IsRunPlace d b i) (RefusesRun lacks d b i)
lent_answered lacks d b i s (Ok place) has other from = record {
  accepted = lent-found d b i has.raw has.is s has.spot from.elements from.branch other;
  block = ap (λ h. h.0) from.block ∙ has.spot.handle;
  bytes = from.bytes ∙ lent-run d b i has.raw has.is s has.spot from.elements from.branch;
}
lent_answered lacks d b i s (Err fault) has other bad = inr (lent-none d b i has.raw has.is s has.spot bad.1 ∙ ap (λ (f : Fault). Some f) (sym bad.0))

-- or wasn't brought in
pub lent_missed : (lacks : Fault → Type 0) (d : Document) (b i : ℕ) (s : LentSpot) (fault : Fault) → IsFoundLent d b i s → Stops lacks (is_raw d s.link.handle.0 ≡ false) fault → RefusesRun lacks d b i fault
lent_missed lacks d b i s fault has (inl lack) = inl lack
lent_missed lacks d b i s fault has (inr bad) = inr (lent-dead d b i has.raw has.is s has.spot bad.1 ∙ ap (λ (f : Fault). Some f) (sym bad.0))

pub lent_refusals : (lacks : Fault → Type 0) (d e : Document) (b : ℕ) (s : LentSpot) (r : Result RunPlace Fault)
    → MatchResult r (IsLentFrom d s) (λ fault. (fault ≡ BadChain) × (branch_under d s.link.handle.0 s.size s.link.count ≡ None)) → IfErr r (IsRunRefusal lacks e b)
lent_refusals lacks d e b s (Ok place) is = tt
lent_refusals lacks d e b s (Err fault) is = inl (inr (inr is.0))

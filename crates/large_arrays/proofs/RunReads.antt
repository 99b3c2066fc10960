-- Branches of a run that are read from their bodies.
use Rattle.std.proofs.Common.{◌≡◌, ℕ, suc, ◌+◌, ◌-◌, ◌<◌, ◌≤◌, List, [], length, take, drop, get_or, Vec, Global, Result, Ok, Err, IfOk, MatchResult, None, Some, is_some, if◌then◌else◌, ◌==◌, sym, ap, subst, ◌∙◌, inl, inr, arith, true, nat_lt, ltb-true, ltb-false, length-drop}
use Rattle.std.proofs.lemmas.Bool.{cases_Bool}
use Rattle.std.proofs.lemmas.List.{get_or-map, length-map, take_all}
use Rattle.std.proofs.lemmas.List.Sums.{sum_by-take-drop}
use Rattle.std.specs.List.{All}
use Rattle.geos_model.specs.declared.fault.Fault.{Fault}
use Rattle.geos_model.specs.Array.{Array}
use Rattle.geos_model.specs.Heap.{capacity}
use Rattle.large_arrays.specs.Bodies.{bytes_of_bodies}
use Rattle.large_bodies.specs.BranchReading.{IsPlain}
use Rattle.geos_model.specs.Pieces.{BranchPiece, branch_room, piece_weight}
use Rattle.geos_model.specs.LargeLayout.{branch_of}
use Rattle.large_arrays.specs.Middle.{run_links}
use Rattle.large_arrays.specs.RunReading.{IsHead, IsRunBranch, IsTail, run_count, run_read}
use Rattle.large_bodies.specs.SizedElements.{SizedElements}
use Rattle.large_arrays.specs.declared.spot.Spot.{Spot}
use Rattle.geos_model.proofs.BranchBytes.{branch_of-is, length-branch_bytes}
use Rattle.large_arrays.proofs.SpotRuns.{HasRun}

-- what is known of a call by two clauses
pub with_ok : {A : Type 0} (result : Result A Fault) (P R : A → Type 0) (Q : Fault → Type 0) → MatchResult result P Q → IfOk result R → MatchResult result (λ x. P x × R x) Q
with_ok (Ok x) P R Q is also = (is, also)
with_ok (Err fault) P R Q is also = is

-- A branch that a raw body has isn't too heavy for one, nor is a part of it.

pub read-fits : (size count : ℕ) (bytes : List ℕ) (xs : BranchPiece) → size < 65536 → branch_of size count bytes ≡ Some xs → length bytes ≤ capacity → piece_weight size xs ≤ branch_room
read-fits size count bytes xs small is short =
    let long = ap length (branch_of-is size count bytes xs small is).1 in
    let all = length-branch_bytes size xs in
    omega arith

pub part-fits : (size from to : ℕ) (xs : BranchPiece) → piece_weight size (take (to - from) (drop from xs)) ≤ piece_weight size xs
part-fits size from to xs =
    let one = sum_by-take-drop (λ (x : List ℕ). length x + (if size == 0 then 2 else 0)) xs from in
    let two = sum_by-take-drop (λ (x : List ℕ). length x + (if size == 0 then 2 else 0)) (drop from xs) (to - from) in
    omega arith

-- As many bodies as branches of the run.
module _ (s : Spot) (has : HasRun s) (bodies : List (Vec ℕ Global)) (many : length bodies ≡ length (run_links s)) where
  pub bodies-many : length bodies ≡ suc (s.end.0 - s.start.0)
  bodies-many = let all = has.many in let order = has.order in omega arith

  pub bytes-many : length (bytes_of_bodies bodies) ≡ length bodies
  bytes-many = length-map bodies (λ v. v.items)

  -- what is read of one
  pub run-read : (n count : ℕ) (body : Vec ℕ Global) (a : Array) → All (λ x. length x ≤ capacity) (bytes_of_bodies bodies) → n < length bodies → count ≡ run_count s n → body ≡ get_or bodies n body
      → branch_of s.size count body.items ≡ Some a.elements → IsPlain a s.size count → IsRunBranch s (bytes_of_bodies bodies) n a
  run-read n count body a short low counted at read plain =
      let long = bytes-many in
      let here : get_or (bytes_of_bodies bodies) n [] ≡ body.items = get_or-map (λ (v : Vec ℕ Global). v.items) bodies n body [] low ∙ ap (λ (v : Vec ℕ Global). v.items) (sym at) in
      let each : length (get_or (bytes_of_bodies bodies) n []) ≤ capacity = short n [] (omega arith) in
      let is : run_read s (bytes_of_bodies bodies) n ≡ Some a.elements = (λ i. branch_of s.size (sym counted i) (here i)) ∙ read in
      record {
        read = is;
        plain = subst (IsPlain a s.size) counted plain;
        room = subst (λ (size : ℕ). piece_weight size a.elements ≤ branch_room) (sym plain.0) (read-fits s.size (run_count s n) (get_or (bytes_of_bodies bodies) n []) a.elements has.small is each);
      }

  pub run-unread : (n count : ℕ) (body : Vec ℕ Global) → n < length bodies → count ≡ run_count s n → body ≡ get_or bodies n body
      → branch_of s.size count body.items ≡ None → run_read s (bytes_of_bodies bodies) n ≡ None
  run-unread n count body low counted at none =
      let here : get_or (bytes_of_bodies bodies) n [] ≡ body.items = get_or-map (λ (v : Vec ℕ Global). v.items) bodies n body [] low ∙ ap (λ (v : Vec ℕ Global). v.items) (sym at) in
      (λ i. branch_of s.size (sym counted i) (here i)) ∙ none

  -- so much of it is there

  pub head-in : (a : Array) → IsRunBranch s (bytes_of_bodies bodies) 0 a → s.start.1 ≤ length a.elements
  head-in a is = let all = has.head in let count = is.plain.1 in omega arith

  last-count : (n : ℕ) → n + 1 ≡ length bodies → run_count s n ≡ run_count s (s.end.0 - s.start.0)
  last-count n last = let all = bodies-many in ap (run_count s) (let same : n ≡ s.end.0 - s.start.0 = omega arith in same)

  pub tail-in : (n : ℕ) (a : Array) → n + 1 ≡ length bodies → IsRunBranch s (bytes_of_bodies bodies) n a → s.end.1 ≤ length a.elements
  tail-in n a last is = let all = has.tail in let count = is.plain.1 in let same = last-count n last in omega arith

  -- which is what is left

  pub head-is : (a : Array) (part : SizedElements) → IsRunBranch s (bytes_of_bodies bodies) 0 a → part ≡ record { size = a.size; elements = take (s.start.1 - 0) (drop 0 a.elements) } → IsHead s (bytes_of_bodies bodies) part
  head-is a part is cut = record {
    elements = a.elements;
    read = is.read;
    is = cut ∙ (λ t. record { size = is.plain.0 t; elements = take ((let whole : s.start.1 - 0 ≡ s.start.1 = omega arith in whole) t) a.elements });
  }

  pub tail-is : (n : ℕ) (a : Array) (part : SizedElements) (count : ℕ) → n + 1 ≡ length bodies → IsRunBranch s (bytes_of_bodies bodies) n a → count ≡ length a.elements
      → part ≡ record { size = a.size; elements = take (count - s.end.1) (drop s.end.1 a.elements) } → IsTail s (bytes_of_bodies bodies) part
  tail-is n a part count last is counted cut =
      let all = bodies-many in
      let rest = length-drop s.end.1 a.elements in
      record {
        elements = a.elements;
        read = ap (run_read s (bytes_of_bodies bodies)) (let same : s.end.0 - s.start.0 ≡ n = omega arith in same) ∙ is.read;
        is = cut ∙ (λ t. record { size = is.plain.0 t; elements = take_all (count - s.end.1) (drop s.end.1 a.elements) (omega arith) t });
      }

  -- All are read: the first one, the last one, and those between.
  pub all-read : (first : BranchPiece) → run_read s (bytes_of_bodies bodies) 0 ≡ Some first
      → ((n : ℕ) → 0 < n → n + 1 < length bodies → is_some (run_read s (bytes_of_bodies bodies) n) ≡ true)
      → (tail : SizedElements) → IsTail s (bytes_of_bodies bodies) tail → (n : ℕ) → n < length (bytes_of_bodies bodies) → is_some (run_read s (bytes_of_bodies bodies) n) ≡ true
  all-read first begin between tail end n low = elim (cases_Bool (nat_lt 0 n)) [
    | inl later ↦ elim (cases_Bool (nat_lt (n + 1) (length bodies))) [
      | inl inner ↦ between n (ltb-true 0 n later) (ltb-true (n + 1) (length bodies) inner)
      | inr last ↦
          (let past = ltb-false (n + 1) (length bodies) last in
          let all = bodies-many in let long = bytes-many in
          ap (λ (k : ℕ). is_some (run_read s (bytes_of_bodies bodies) k)) (let same : n ≡ s.end.0 - s.start.0 = omega arith in same) ∙ ap is_some end.read)
    ]
    | inr none ↦
        (let least = ltb-false 0 n none in
        ap (λ (k : ℕ). is_some (run_read s (bytes_of_bodies bodies) k)) (let same : n ≡ 0 = omega arith in same) ∙ ap is_some begin)
  ]

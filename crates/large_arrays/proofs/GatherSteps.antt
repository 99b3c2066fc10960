-- What an edit looks at, as it is copied step by step.
use Rattle.std.proofs.Common.{◌≡◌, ◌⊎◌, ℕ, ◌+◌, ◌-◌, ◌≤◌, Bool, true, false, List, [], ◌++◌, Vec, Global, Result, Ok, Err, MatchResult, length, map, refl, sym, ap, subst, ◌∙◌, inl, inr, arith}
use Rattle.std.proofs.lemmas.Bool.{and_from}
use Rattle.std.proofs.lemmas.List.{length-map, get_or-map}
use Rattle.std.proofs.lemmas.List.Folds.{list_all-append}
use Rattle.std.specs.List.{All, range_with_len}
use Rattle.geos_model.specs.Document.{Document, is_raw}
use Rattle.geos_model.specs.Heap.{capacity}
use Rattle.geos_model.specs.declared.fault.Fault.{Fault}
use Rattle.geos_model.specs.declared.fault.Fault.TheVariants.{Memory}
use Rattle.vm_chains.specs.Walking.{Stops}
use Rattle.geos_model.specs.Pieces.{BranchPiece}
use Rattle.geos_model.specs.LargeLayout.{Root}
use Rattle.geos_model.specs.Spread.{middle}
use Rattle.large_bodies.specs.SizedElements.{SizedPieces}
use Rattle.geos_model.specs.LargeBlocks.{root_at, pieces_at}
use Rattle.geos_model.specs.LargeWindow.{looks_left, looks_right, looked_at, are_branches}
use Rattle.large_arrays.specs.Bodies.{AreBodies, are_raw, bytes_of_bodies}
use Rattle.large_arrays.specs.LookedBranches.{HasLinks, IsPieceSpot, AreThere, AreLooked, first_with, behind_with, links_between, left_links, right_links, handle_at}
use Rattle.large_arrays.specs.Middle.{IsMiddle, are_there, run_branches}
use Rattle.large_bodies.specs.Neighbours.{ends_of}
use Rattle.large_arrays.specs.Spots.{IsSpot, link_handles}
use Rattle.large_arrays.specs.declared.joining.LookedBodies.{LookedBodies}
use Rattle.large_arrays.specs.declared.middle.Middle.{Middle}
use Rattle.large_bodies.specs.declared.neighbours.MiddleEnds.{MiddleEnds}
use Rattle.large_bodies.specs.declared.neighbours.Sides.{Sides}
use Rattle.large_arrays.specs.declared.spot.Spot.{Spot}
use Rattle.large_arrays.proofs.SpotLinks.{range-append, handles-are}
use Rattle.large_arrays.proofs.SpotPieces.{piece-spot}
use Rattle.large_arrays.proofs.LookedSides.{is-around}
use Rattle.large_arrays.proofs.JoinedWindow.{looked-not_raw, looked-not_there}
use Rattle.large_arrays.proofs.RunSpots.{looked-there}

-- what isn't known of memory alone
pub stops-lacking : {A : Type 0} (lacks : Fault → Type 0) (P : A → Type 0) (cause : Type 0) (r : Result A Fault) → lacks Memory → MatchResult r P (Stops (λ fault. fault ≡ Memory) cause) → MatchResult r P (Stops lacks cause)
stops-lacking lacks P cause (Ok x) memory is = is
stops-lacking lacks P cause (Err fault) memory (inl is) = inl (subst lacks (sym is) memory)
stops-lacking lacks P cause (Err fault) memory (inr is) = inr is

-- each body is short
pub short-bodies : (bodies : List (Vec ℕ Global)) → All (λ body. length body ≤ capacity) (bytes_of_bodies bodies) → All (λ body. length body.items ≤ capacity) bodies
short-bodies bodies short = λ k d low.
    let long = length-map bodies (λ (v : Vec ℕ Global). v.items) in
    subst (λ (bytes : List ℕ). length bytes ≤ capacity) (get_or-map (λ (v : Vec ℕ Global). v.items) bodies k d [] low) (short k [] (omega arith))

-- those of branches one after another are raw
pub looked-raw : (d : Document) (s : Spot) (looked : Sides) → HasLinks s → AreThere s looked → are_raw d (link_handles (left_links s looked)) ≡ true
    → are_raw d (link_handles (links_between s s.start.0 (s.end.0 + 1))) ≡ true → are_raw d (link_handles (right_links s looked)) ≡ true
    → are_raw d (link_handles (links_between s (first_with s looked) (behind_with s looked))) ≡ true
looked-raw d s looked run there left mid right =
    let around = is-around s looked run there in
    let first = around.first in
    let begin = around.begin in
    let end = around.end in
    let behind = around.behind in
    let order = run.order in
    let lf : ℕ = first_with s looked in
    let lb : ℕ = behind_with s looked in
    let x : ℕ = s.start.0 - lf in
    let y : ℕ = s.end.0 + 1 - s.start.0 in
    let z : ℕ = lb - (s.end.0 + 1) in
    let h : ℕ → ℕ = λ k. handle_at s k in
    let hs : List ℕ = map h (range_with_len lf x) in
    let ys : List ℕ = map h (range_with_len s.start.0 y) in
    let zs : List ℕ = map h (range_with_len (s.end.0 + 1) z) in
    let second : s.start.0 ≡ lf + x = omega arith in
    let third : s.end.0 + 1 ≡ s.start.0 + y = omega arith in
    let sum : x + (y + z) ≡ lb - lf = omega arith in
    let raw_hs : are_raw d hs ≡ true = ap (are_raw d) (sym (handles-are s lf s.start.0 first begin (omega arith))) ∙ left in
    let raw_ys : are_raw d ys ≡ true = ap (are_raw d) (sym (handles-are s s.start.0 (s.end.0 + 1) (omega arith) (omega arith) (omega arith))) ∙ mid in
    let raw_zs : are_raw d zs ≡ true = ap (are_raw d) (sym (handles-are s (s.end.0 + 1) lb (omega arith) end behind)) ∙ right in
    let all : hs ++ (ys ++ zs) ≡ map h (range_with_len lf (lb - lf)) =
    ap (λ (ks : List ℕ). hs ++ ks) (ap (λ (n : ℕ). ys ++ map h (range_with_len n z)) third ∙ range-append h s.start.0 y z)
    ∙ ap (λ (n : ℕ). hs ++ map h (range_with_len n (y + z))) second ∙ range-append h lf x (y + z) ∙ ap (λ (n : ℕ). map h (range_with_len lf n)) sum in
    ap (are_raw d) (handles-are s lf lb first (omega arith) behind ∙ sym all)
    ∙ list_all-append (λ k. is_raw d k) hs (ys ++ zs)
    ∙ and_from (are_raw d hs) (are_raw d (ys ++ zs)) raw_hs (list_all-append (λ k. is_raw d k) ys zs ∙ and_from (are_raw d ys) (are_raw d zs) raw_ys raw_zs)

module _ (d : Document) (b i j : ℕ) (new : BranchPiece) (s : Spot) (run : HasLinks s) (is : IsSpot (root_at d b) i j s) (order : i ≤ j) where
  abbrev r : Root
  r = root_at d b

  abbrev ps : List BranchPiece
  ps = pieces_at d r

  abbrev are : Bool
  are = are_branches d b r (looked_at r.size ps i j new)

  abbrev sides : Sides
  sides = record { left = looks_left s.size ps i j new; right = looks_right s.size ps i j new }

  abbrev sides_there : AreThere s sides
  sides_there = looked-there s ps i j new (piece-spot d b i j s run is order) run

  -- A branch of the run isn't raw, or isn't what the root says.

  pub run-not_raw : are_raw d (link_handles (links_between s s.start.0 (s.end.0 + 1))) ≡ false → are ≡ false
  run-not_raw none =
      let around = is-around s sides run sides_there in
      let begin = around.begin in
      let end = around.end in
      let mid = run.order in
      looked-not_raw d b i j new s sides run sides_there is order refl refl s.start.0 (s.end.0 + 1) begin (omega arith) end none

  pub run-not_there : are_there d r (run_branches s) ≡ false → are ≡ false
  run-not_there none = looked-not_there d b i j new s sides run sides_there is order refl refl none

  module _ (looked : Sides) (there : AreThere s looked) (m : Middle) (ends : MiddleEnds) (made : IsMiddle d r i j new m) (told : ends ≡ ends_of m.pieces.size m.pieces.pieces)
      (looks : (ps : List BranchPiece) (i j : ℕ) (new : BranchPiece) → IsPieceSpot s ps i j → ends ≡ ends_of s.size (middle s.size ps i j new)
      → (looked.left ≡ looks_left s.size ps i j new) × (looked.right ≡ looks_right s.size ps i j new)) where
    looks_are : (looked.left ≡ looks_left s.size ps i j new) × (looked.right ≡ looks_right s.size ps i j new)
    looks_are =
        looks ps i j new (piece-spot d b i j s run is order)
        (told ∙ ap (λ (p : SizedPieces). ends_of p.size p.pieces) made.pieces ∙ ap (λ (n : ℕ). ends_of n (middle n ps i j new)) (sym is.size))

    pub neighbour-not_raw : (are_raw d (link_handles (left_links s looked)) ≡ false) ⊎ (are_raw d (link_handles (right_links s looked)) ≡ false) → are ≡ false
    neighbour-not_raw (inl none) =
        let around = is-around s looked run there in
        let begin = around.begin in
        let end = around.end in
        let mid = run.order in
        looked-not_raw d b i j new s looked run there is order looks_are.0 looks_are.1 (first_with s looked) s.start.0 (omega arith) begin (omega arith) none
    neighbour-not_raw (inr none) =
        let around = is-around s looked run there in
        let begin = around.begin in
        let end = around.end in
        let mid = run.order in
        looked-not_raw d b i j new s looked run there is order looks_are.0 looks_are.1 (s.end.0 + 1) (behind_with s looked) (omega arith) end (omega arith) none

    -- all is looked at
    pub all-looked : are_there d r (run_branches s) ≡ true → (bodies : LookedBodies) (copied : Vec (Vec ℕ Global) Global) → bodies.run ≡ copied
        → AreBodies d (link_handles (left_links s looked)) (bytes_of_bodies bodies.left.items) → AreBodies d (link_handles (links_between s s.start.0 (s.end.0 + 1))) (bytes_of_bodies copied.items)
        → AreBodies d (link_handles (right_links s looked)) (bytes_of_bodies bodies.right.items) → AreLooked d b i j new s m looked bodies
    all-looked here bodies copied same left mid right = record {
      spot = is;
      order = order;
      there = here;
      middle = made;
      left = looks_are.0;
      right = looks_are.1;
      left_bodies = left;
      run_bodies = subst (λ (v : Vec (Vec ℕ Global) Global). AreBodies d (link_handles (links_between s s.start.0 (s.end.0 + 1))) (bytes_of_bodies v.items)) (sym same) mid;
      right_bodies = right;
    }

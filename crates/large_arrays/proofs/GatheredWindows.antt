-- A window by what an edit gathers of it: its blocks, its root, and what refuses it.
use Rattle.std.proofs.Common.{◌≡◌, ℕ, ◌+◌, ◌-◌, ◌≤◌, Bool, true, nat_lt, ◌||◌, ◌==◌, List, ◌∷◌, length, map, get_or, is_some, refl, sym, ap, ap₂, subst, ◌∙◌, inl, inr, arith, ltb-false}
use Rattle.std.proofs.lemmas.Bool.{cases_Bool, true≢false}
use Rattle.std.proofs.lemmas.List.{length-map}
use Rattle.std.proofs.lemmas.List.FromFn.{length-map-range_with_len}
use Rattle.std.specs.List.{Contains, list_any, splice, zip}
use Rattle.geos_model.specs.Document.{Document, is_live, is_raw, raw_bytes_of}
use Rattle.geos_model.specs.Chain.{free_handles, new_handles}
use Rattle.geos_model.proofs.ChainCopies.{new-new}
use Rattle.geos_model.specs.Pieces.{BranchPiece}
use Rattle.geos_model.specs.LargeLayout.{Root, most_branches, root_bytes, root_of}
use Rattle.large_bodies.specs.SizedElements.{SizedPieces}
use Rattle.geos_model.specs.LargeBlocks.{root_at, pieces_at}
use Rattle.geos_model.specs.LargeWindow.{Window, window, window_first, window_end, window_pieces, window_handles, staying, freed_handles, replaced_root}
use Rattle.large_arrays.specs.HandleLists.{ShareNoHandle, AreFreed, handles_outside, old_handles, old_pairs}
use Rattle.large_arrays.specs.ChangePlans.{piece_bodies, window_bodies}
use Rattle.large_arrays.specs.Gathering.{IsGatheredWindow}
use Rattle.large_arrays.specs.WindowPlans.{HasGatheredRoot, frees_map, lacks_handles, has_too_many, lacks_places, gathered_root}
use Rattle.large_arrays.specs.declared.gathered.Gathered.{Gathered}
use Rattle.large_arrays.specs.declared.handles.OldBranch.{OldBranch}
use Rattle.large_arrays.proofs.HandlePlaces.{pairs_handles, pairs_many}
use Rattle.large_arrays.proofs.PlannedWindows.{new-free, planned-places}
use Rattle.large_bodies.proofs.RootRuns.{length_spliced}
use Rattle.geos_model.proofs.WindowHandles.{window_handles-many}

module _ (d : Document) (b i j : ℕ) (new : BranchPiece) (g : Gathered) (is : IsGatheredWindow d b i j new g) where
  abbrev r : Root
  r = root_at d b

  abbrev w : Window
  w = window d b i j new

  abbrev pairs : List (ℕ × ℕ)
  pairs = old_pairs g.olds.items

  abbrev olds : ℕ
  olds = length g.olds.items

  abbrev placed : List BranchPiece
  placed = g.pieces.pieces

  abbrev first : ℕ
  first = window_first r.size (pieces_at d r) i j new

  abbrev behind : ℕ
  behind = window_end r.size (pieces_at d r) i j new

  placed_are : window_pieces r.size (pieces_at d r) i j new ≡ placed
  placed_are = sym (ap (λ (p : SizedPieces). p.pieces) is.pieces)

  olds_many : olds ≡ behind - first
  olds_many =
      sym (pairs_many g.olds.items) ∙ ap (λ (ps : List (ℕ × ℕ)). length ps) is.olds
      ∙ length-map-range_with_len (λ (k : ℕ). (get_or r.branches k 0, staying r.size (pieces_at d r) i j k)) first (behind - first)

  -- The fields of the window.

  first_is : w.first ≡ g.first
  unfolding window
  first_is = sym is.first

  pieces_are : w.pieces ≡ placed
  unfolding window
  pieces_are = placed_are

  olds_are : w.olds ≡ old_handles g.olds.items
  unfolding window
  olds_are = ap (map (λ (p : ℕ × ℕ). p.0)) (sym is.olds) ∙ pairs_handles g.olds.items

  pub gathered-news : w.news ≡ window_handles pairs g.head (length placed) (new_handles d (length placed - olds))
  unfolding window
  gathered-news =
      let old : ℕ = behind - first in
      ap₂ (λ (ps : List (ℕ × ℕ)) (head : Bool). window_handles ps head (length (window_pieces r.size (pieces_at d r) i j new)) (new_handles d (length (window_pieces r.size (pieces_at d r) i j new) - old))) (sym is.olds) (sym is.head)
      ∙ ap₂ (λ (ps : List BranchPiece) (n : ℕ). window_handles pairs g.head (length ps) (new_handles d (length ps - n))) placed_are (sym olds_many)

  -- The blocks that go.
  module _ (freed : List ℕ) (go : AreFreed pairs (length placed) freed) (live : (h : ℕ) → Contains (old_handles g.olds.items) h → is_live d h ≡ true) where
    apart : ShareNoHandle (map (λ (p : ℕ × ℕ). p.0) pairs) (new_handles d (length placed - olds))
    apart h old free =
        true≢false (sym (live h (subst (λ (hs : List ℕ). Contains hs h) (pairs_handles g.olds.items) old)) ∙ new-free d (length placed - olds) h free)

    pub gathered-freed : freed_handles w ≡ freed
    gathered-freed =
        ap₂ handles_outside gathered-news (olds_are ∙ sym (pairs_handles g.olds.items)) ∙ go g.head (new_handles d (length placed - olds)) apart

    pub gathered-map : frees_map d w ≡ list_any (λ h. h == d.map_block) freed
    gathered-map = ap (list_any (λ h. h == d.map_block)) gathered-freed

  pub gathered-lacks : lacks_handles d w ≡ nat_lt (length (free_handles d)) (length placed - olds)
  gathered-lacks =
      let many : length w.olds ≡ olds = ap (λ (hs : List ℕ). length hs) olds_are ∙ length-map g.olds.items (λ (o : OldBranch). o.handle.0) in
      ap₂ (λ (ps : List BranchPiece) (n : ℕ). nat_lt (length (free_handles d)) (length ps - n)) pieces_are many

  -- The root.
  module _ (found : is_some (root_of (raw_bytes_of d b)) ≡ true) (order : i ≤ j) where
    behind_is : behind ≡ g.first + olds
    behind_is =
        let low = (planned-places d b i j new found order).0 in
        let start = is.first in
        let many = olds_many in
        omega arith

    window_behind : w.behind ≡ g.first + olds
    unfolding window
    window_behind = behind_is

    within : g.first + olds ≤ length r.branches
    within = let most = (planned-places d b i j new found order).1 in let end = behind_is in omega arith

    pub gathered-root : is_raw d b ≡ true → HasGatheredRoot d b (length r.branches) g
    gathered-root raw = record { raw = raw; found = found; many = refl; within = within }

    replaced : (hs : List ℕ) → w.news ≡ hs → replaced_root r w ≡ gathered_root r g hs
    replaced hs news =
        ap₂ (λ (m n : ℕ). record { size = r.size; counts = splice r.counts m n (map length w.pieces); branches = splice r.branches m n w.news }) first_is window_behind
        ∙ ap₂ (λ (ps : List BranchPiece) (xs : List ℕ). gathered_root r (record g { pieces = record { size = g.pieces.size; pieces = ps } }) xs) pieces_are news

    pub gathered-bodies : (hs : List ℕ) → w.news ≡ hs
        → window_bodies d b w ≡ (b, root_bytes (gathered_root r g hs)) ∷ piece_bodies g.pieces.size (zip hs placed)
    gathered-bodies hs news =
        let size : r.size ≡ g.pieces.size = sym (ap (λ (p : SizedPieces). p.size) is.pieces) in
        ap (λ (q : Root). (b, root_bytes q) ∷ piece_bodies r.size (zip w.news w.pieces)) (replaced hs news)
        ∙ ap₂ (λ (xs : List ℕ) (ps : List BranchPiece). (b, root_bytes (gathered_root r g hs)) ∷ piece_bodies r.size (zip xs ps)) news pieces_are
        ∙ ap (λ (s : ℕ). (b, root_bytes (gathered_root r g hs)) ∷ piece_bodies s (zip hs placed)) size

    module _ (branches : ℕ) (many : length r.branches ≡ branches) where
      after_many : length placed - olds ≤ length (free_handles d) → length (replaced_root r w).branches ≡ branches - olds + length placed
      after_many enough =
          let named : length w.news ≡ length placed =
          ap (λ (hs : List ℕ). length hs) gathered-news
          ∙ window_handles-many pairs g.head (length placed) (new_handles d (length placed - olds))
          ((new-new d (length placed - olds) enough).as_many ∙ ap (λ (n : ℕ). length placed - n) (sym (pairs_many g.olds.items))) in
          let start = first_is in
          let end = window_behind in
          let most = within in
          let long = length_spliced r.branches w.news w.first w.behind (omega arith) (omega arith) in
          omega arith

      gathered_many : length placed - olds ≤ length (free_handles d) → has_too_many d b w ≡ nat_lt most_branches (branches - olds + length placed)
      gathered_many enough = ap (nat_lt most_branches) (after_many enough)

      pub gathered-places : lacks_places d branches g ≡ (lacks_handles d w || has_too_many d b w)
      gathered-places =
          let lacks : Bool = nat_lt (length (free_handles d)) (length placed - olds) in
          let many : Bool = nat_lt most_branches (branches - olds + length placed) in
          ap (λ (t : Bool). t || many) (sym gathered-lacks)
          ∙ elim (cases_Bool (lacks_handles d w)) as (λ _. (lacks_handles d w || many) ≡ (lacks_handles d w || has_too_many d b w)) [
            | inl lack ↦ ap (λ (t : Bool). t || many) lack ∙ sym (ap (λ (t : Bool). t || has_too_many d b w) lack)
            | inr enough ↦
                ap (λ (t : Bool). lacks_handles d w || t)
                (sym (gathered_many (ltb-false (length (free_handles d)) (length placed - olds) (sym gathered-lacks ∙ enough))))
          ]

-- The blocks that go and those that the pieces have, over any store.
use Rattle.std.proofs.Common.{◌≡◌, ℕ, ◌+◌, ◌-◌, ◌<◌, ◌≤◌, Bool, true, false, nat_lt, ◌==◌, is_some, List, [], ◌∷◌, length, map, get_or, sym, ap, ap₂, subst, ◌∙◌, ◌⊎◌, inl, inr, arith, ltb-false}
use Rattle.std.proofs.lemmas.Bool.{true≢false, eq-eqb, or_parts}
use Rattle.std.proofs.lemmas.List.{get_or-map, get_or_default, length-map}
use Rattle.std.proofs.lemmas.List.Elements.{Contains-get_or}
use Rattle.std.specs.List.{All, Contains, list_any}
use Rattle.geos_model.specs.ElementArray.{all_distinct}
use Rattle.geos_model.specs.Document.{Document, is_live}
use Rattle.geos_model.specs.Chain.{free_handles, new_handles}
use Rattle.geos_model.specs.ChainLaws.{AreNew}
use Rattle.geos_model.proofs.Chains.{contains_cases}
use Rattle.geos_model.proofs.BlockLists.{distinct-first, distinct-rest, none_passes}
use Rattle.geos_model.proofs.ChainCopies.{new-new}
use Rattle.document_file.specs.Disk.{SameUnlessCorrupt}
use Rattle.vm_blocks.specs.Preparing.{CanRemoveByHandle}
use Rattle.geos_model.specs.LargeLayout.{most_branches}
use Rattle.large_arrays.specs.HandleLists.{ShareNoHandle, AreFreed, handles_outside, old_handles, old_pairs}
use Rattle.large_arrays.specs.ChangePlans.{IsUntouched}
use Rattle.large_arrays.specs.Gathering.{AreGathered}
use Rattle.large_arrays.specs.WindowPlans.{AreGone, AreHomes, ArePieceHandles, IsHome}
use Rattle.large_arrays.specs.declared.gathered.Gathered.{Gathered}
use Rattle.large_arrays.specs.declared.handles.OldBranch.{OldBranch}
use Rattle.geos_model.proofs.DistinctHandles.{distinct-filter}
use Rattle.large_arrays.proofs.HandlePlaces.{pairs_handles, pairs_many}
use Rattle.geos_model.proofs.PieceLists.{freed-old, freed-not}
use Rattle.large_arrays.proofs.PlannedChanges.{none_there}
use Rattle.geos_model.proofs.WindowHandles.{window_handles-many, window_handles-from, window_handles-once}

abbrev no_branch : OldBranch
no_branch = record { handle = record { 0 = 0 }; staying = 0 }

-- each branch that is replaced is there, by its handle
pub old-live : (d : Document) (olds : List OldBranch) → All (λ old. is_live d old.handle.0 ≡ true) olds → (h : ℕ) → Contains (old_handles olds) h → is_live d h ≡ true
old-live d olds all h there =
    let many = length-map olds (λ (o : OldBranch). o.handle.0) in
    let within = there.1 in
    let low : there.0 < length olds = omega arith in
    let handle : (get_or olds there.0 no_branch).handle.0 ≡ h =
    sym (get_or-map (λ (o : OldBranch). o.handle.0) olds there.0 no_branch 0 low) ∙ get_or_default (old_handles olds) there.0 0 h within ∙ there.2 in
    subst (λ (x : ℕ). is_live d x ≡ true) handle (all there.0 no_branch low)

module _ (d : Document) (b branches : ℕ) (g : Gathered) (gathered : AreGathered d b g) (freed : List ℕ)
    (go : AreFreed (old_pairs g.olds.items) (length g.pieces.pieces) freed) (hs : List ℕ) (are : ArePieceHandles d branches g hs) where
  abbrev pairs : List (ℕ × ℕ)
  pairs = old_pairs g.olds.items

  abbrev olds : List ℕ
  olds = old_handles g.olds.items

  abbrev n : ℕ
  n = length g.pieces.pieces - length g.olds.items

  abbrev fresh : List ℕ
  fresh = new_handles d n

  olds_once : all_distinct olds ≡ true
  olds_once = distinct-rest b olds gathered.once

  old_live : (h : ℕ) → Contains olds h → is_live d h ≡ true
  old_live h there = old-live d g.olds.items gathered.live h there

  enough : (n ≤ length (free_handles d)) × (length g.pieces.pieces + (branches - length g.olds.items) ≤ most_branches)
  enough =
      let parts = or_parts (nat_lt (length (free_handles d)) n) (nat_lt most_branches (branches - length g.olds.items + length g.pieces.pieces)) are.room in
      let few = ltb-false most_branches (branches - length g.olds.items + length g.pieces.pieces) parts.1 in (
        ltb-false (length (free_handles d)) n parts.0,
        omega arith,
      )

  are_new : AreNew d n fresh
  are_new = new-new d n enough.0

  in_olds : (h : ℕ) → Contains (map (λ (p : ℕ × ℕ). p.0) pairs) h → Contains olds h
  in_olds h there = subst (λ (xs : List ℕ). Contains xs h) (pairs_handles g.olds.items) there

  apart : ShareNoHandle (map (λ (p : ℕ × ℕ). p.0) pairs) fresh
  apart h old free = true≢false (sym (old_live h (in_olds h old)) ∙ are_new.not_live h free)

  pub handles-many : length hs ≡ length g.pieces.pieces
  handles-many =
      ap (λ (xs : List ℕ). length xs) are.are
      ∙ window_handles-many pairs g.head (length g.pieces.pieces) fresh (are_new.as_many ∙ ap (λ (k : ℕ). length g.pieces.pieces - k) (sym (pairs_many g.olds.items)))

  pub handles-few : branches - length g.olds.items + length hs ≤ most_branches
  handles-few = let few = enough.1 in let many = handles-many in omega arith

  from : (h : ℕ) → Contains hs h → Contains olds h ⊎ Contains fresh h
  from h there = elim (window_handles-from pairs g.head (length g.pieces.pieces) fresh h (subst (λ (xs : List ℕ). Contains xs h) are.are there)) [
    | inl old ↦ inl (in_olds h old)
    | inr new ↦ inr new
  ]

  pub piece-homes : AreHomes d olds hs
  piece-homes = record {
    each = λ h there. elim (from h there) as (λ _. IsHome d olds h) [
      | inl old ↦ inl old
      | inr new ↦ inr (record { handle = are_new.handle h new; free = none_there d h (are_new.not_live h new) })
    ];
    once =
        ap all_distinct are.are
        ∙ window_handles-once pairs g.head (length g.pieces.pieces) fresh (ap all_distinct (pairs_handles g.olds.items) ∙ olds_once) are_new.once apart;
  }

  freed_is : handles_outside hs olds ≡ freed
  freed_is = ap₂ handles_outside are.are (sym (pairs_handles g.olds.items)) ∙ go g.head fresh apart

  was_freed : (h : ℕ) → Contains freed h → Contains (handles_outside hs olds) h
  was_freed h there = subst (λ (xs : List ℕ). Contains xs h) (sym freed_is) there

  gone_old : (h : ℕ) → Contains freed h → Contains olds h
  gone_old h there = freed-old olds hs h (was_freed h there)

  pub freed-apart : ShareNoHandle freed hs
  freed-apart h gone there = freed-not olds hs h (was_freed h gone) there

  pub freed-gone : list_any (λ h. h == d.map_block) freed ≡ false → AreGone d g freed
  freed-gone no_map = record {
    olds = gone_old;
    can = record {
      live = λ k x low. old_live (get_or freed k x) (gone_old (get_or freed k x) (Contains-get_or freed k x low));
      others = λ k x low is.
          none_passes (λ h. h == d.map_block) freed (get_or freed k x) no_map (eq-eqb (get_or freed k x) d.map_block (sym is)) (Contains-get_or freed k x low);
      distinct = ap all_distinct (sym freed_is) ∙ distinct-filter _ olds olds_once;
    };
  }

  -- the root is none of them
  pub root-untouched : IsUntouched freed [] b
  root-untouched = record {
    stays = λ gone. distinct-first b olds gathered.once (gone_old b gone);
    other = λ there. let low = there.1 in omega arith;
  }

  pub root-apart : is_live d b ≡ true → ShareNoHandle (b ∷ []) hs
  root-apart live h one there =
      let here : Contains hs b = subst (Contains hs) (sym (only h one)) there in
      elim (from b here) [
        | inl old ↦ distinct-first b olds gathered.once old
        | inr new ↦ true≢false (sym live ∙ are_new.not_live b new)
      ]
    where
      only : (h : ℕ) → Contains (b ∷ []) h → b ≡ h
      only h there = elim (contains_cases b [] h there) [
        | inl is ↦ is
        | inr later ↦ absurd (let low = later.1 in omega arith)
      ]

-- What is known by handles stays in a document that drifts from the first.
module _ (honest : Bool) (d e : Document) (drift : SameUnlessCorrupt honest d e) where
  pub homes-drift : (olds hs : List ℕ) → AreHomes d olds hs → AreHomes e olds hs
  homes-drift olds hs homes = record {
    each = λ h there. elim (homes.each h there) as (λ _. IsHome e olds h) [
      | inl old ↦ inl old
      | inr free ↦ inr (record { handle = free.handle; free = none_there e h (drift.live h ∙ ap is_some free.free) })
    ];
    once = homes.once;
  }

  pub gone-drift : (hs : List ℕ) → CanRemoveByHandle d hs → CanRemoveByHandle e hs
  gone-drift hs can = record {
    live = λ k x low. drift.live (get_or hs k x) ∙ can.live k x low;
    others = λ k x low is. can.others k x low (sym drift.map_block ∙ is);
    distinct = can.distinct;
  }

  pub olds-drift : (olds : List OldBranch) → All (λ old. is_live d old.handle.0 ≡ true) olds → All (λ old. is_live e old.handle.0 ≡ true) olds
  olds-drift olds live = λ k x low. drift.live (get_or olds k x).handle.0 ∙ live k x low

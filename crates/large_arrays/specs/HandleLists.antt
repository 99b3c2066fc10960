-- The handles of blocks that branches of a large array have before and after an edit.
use Rattle.std.specs.Prelude.{◌≡◌, ◌<◌, ◌≤◌, ◌-◌, ◌++◌, ◌==◌, ℕ, List, Bool, not, length, map, take, drop, filter, get_or}
use Rattle.std.specs.List.{Contains, list_any}
use Rattle.geos_model.specs.LargeWindow.{greatest, window_handles}
use Rattle.large_arrays.specs.declared.handles.OldBranch.{OldBranch}
use Rattle.large_arrays.specs.declared.handles.KeptPlaces.{KeptPlaces}

-- those of branches that are replaced, and with what stays of each
abbrev pub old_handles : List OldBranch → List ℕ
old_handles olds = map (λ o. o.handle.0) olds

abbrev pub old_pairs : List OldBranch → List (ℕ × ℕ)
old_pairs olds = map (λ o. (o.handle.0, o.staying)) olds

-- of handles those that none of others is
abbrev pub handles_outside : List ℕ → List ℕ → List ℕ
handles_outside news olds = filter (λ h. not (list_any (λ x. x == h) news)) olds

-- no handle is among both
abbrev pub ShareNoHandle : List ℕ → List ℕ → Type 0
ShareNoHandle xs ys = (h : ℕ) → Contains xs h → Contains ys h → ⊥

-- These are the blocks that go where so many pieces come in the place of branches, whichever block has the first of
-- several pieces, and whichever blocks are new.
abbrev pub AreFreed : List (ℕ × ℕ) → ℕ → List ℕ → Type 0
AreFreed olds pieces freed =
    (head : Bool) (new : List ℕ) → ShareNoHandle (map (λ p. p.0) olds) new
    → handles_outside (window_handles olds head pieces new) (map (λ p. p.0) olds) ≡ freed

-- the place of the first block in which most stays
pub record IsMost (olds : List (ℕ × ℕ)) (place : ℕ) : Type 0 where
  pub low : place < length olds
  pub is : greatest (get_or olds 0 (0, 0)) (drop 1 olds) ≡ (get_or olds place (0, 0)).0

-- The blocks that stay lie side by side up to the new ones, and from a place on behind these.
pub record AreKeptPlaces (olds : List (ℕ × ℕ)) (head : Bool) (pieces : ℕ) (places : KeptPlaces) : Type 0 where
  pub first : places.start ≤ places.end
  pub second : places.end ≤ places.last
  pub third : places.last ≤ length olds
  pub is : (new : List ℕ) → length new ≤ pieces - length olds
      → window_handles olds head pieces new
      ≡ map (λ p. p.0) (take (places.end - places.start) (drop places.start olds)) ++ new
      ++ map (λ p. p.0) (drop places.last olds)

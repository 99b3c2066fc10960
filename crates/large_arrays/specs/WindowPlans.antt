-- What a plan of an edit comes to that puts elements in the place of others.
use Rattle.std.specs.Prelude.{◌≡◌, ◌⊎◌, ◌+◌, ◌-◌, ◌≤◌, ◌==◌, ℕ, List, Bool, true, false, nat_lt, length, map, ◌||◌, is_some}
use Rattle.std.specs.List.{Contains, list_any}
use Rattle.geos_model.specs.Document.{Document, is_raw, raw_bytes_of}
use Rattle.geos_model.specs.ElementArray.{all_distinct}
use Rattle.geos_model.specs.Chain.{free_handles, new_handles}
use Rattle.geos_model.specs.declared.fault.Fault.{Fault}
use Rattle.geos_model.specs.declared.fault.Fault.TheVariants.{IsMap, NoHandles}
use Rattle.vm_blocks.specs.Changes.{IsFreeHandle}
use Rattle.vm_blocks.specs.Preparing.{CanRemoveByHandle}
use Rattle.vm_blocks.specs.declared.change.Change.{Change}
use Rattle.geos_model.specs.LargeLayout.{Root, most_branches, root_of}
use Rattle.geos_model.specs.LargeBlocks.{root_at}
use Rattle.geos_model.specs.LargeWindow.{Window, freed_handles, replaced_root, window_handles}
use Rattle.large_arrays.specs.HandleLists.{old_handles, old_pairs}
use Rattle.large_bodies.specs.RootEdits.{with_branches}
use Rattle.large_arrays.specs.ChangePlans.{ArePlanned, window_bodies}
use Rattle.large_arrays.specs.declared.gathered.Gathered.{Gathered}

-- the map block would go
abbrev pub frees_map : Document → Window → Bool
frees_map d w = list_any (λ h. h == d.map_block) (freed_handles w)

-- there are too few free handles
abbrev pub lacks_handles : Document → Window → Bool
lacks_handles d w = nat_lt (length (free_handles d)) (length w.pieces - length w.olds)

-- or the root would have too many branches
abbrev pub has_too_many : Document → ℕ → Window → Bool
has_too_many d b w = nat_lt most_branches (length (replaced_root (root_at d b) w).branches)

-- Nothing refuses it, and the changes make it of the document.
pub record IsWindowPlanned (d : Document) (b : ℕ) (w : Window) (changes : List Change) : Type 0 where
  pub no_map : frees_map d w ≡ false
  pub handles : lacks_handles d w ≡ false
  pub room : has_too_many d b w ≡ false
  pub planned : ArePlanned changes d (freed_handles w) (window_bodies d b w)

-- what refuses it
abbrev pub RefusesWindow : Document → ℕ → Window → Fault → Type 0
RefusesWindow d b w fault =
    ((fault ≡ IsMap) × (frees_map d w ≡ true))
    ⊎ ((fault ≡ NoHandles) × (frees_map d w ≡ false) × ((lacks_handles d w || has_too_many d b w) ≡ true))

-- a block that is one of these, or free
abbrev pub IsHome : Document → List ℕ → ℕ → Type 0
IsHome d olds h = Contains olds h ⊎ IsFreeHandle d h

-- so of each, no two of them the same
pub record AreHomes (d : Document) (olds hs : List ℕ) : Type 0 where
  pub each : (h : ℕ) → Contains hs h → IsHome d olds h
  pub once : all_distinct hs ≡ true

-- The same by what is gathered.

-- A root is there with so many branches, among them those that are gathered.
pub record HasGatheredRoot (d : Document) (b branches : ℕ) (g : Gathered) : Type 0 where
  pub raw : is_raw d b ≡ true
  pub found : is_some (root_of (raw_bytes_of d b)) ≡ true
  pub many : length (root_at d b).branches ≡ branches
  pub within : g.first + length g.olds.items ≤ branches

-- the root where the pieces have these blocks
abbrev pub gathered_root : Root → Gathered → List ℕ → Root
gathered_root r g hs = with_branches r g.first (g.first + length g.olds.items) (map length g.pieces.pieces) hs

-- there are too few free handles for the pieces, or a root of so many branches would have too many
abbrev pub lacks_places : Document → ℕ → Gathered → Bool
lacks_places d branches g =
    nat_lt (length (free_handles d)) (length g.pieces.pieces - length g.olds.items)
    || nat_lt most_branches (branches - length g.olds.items + length g.pieces.pieces)

-- There are enough, and these are the blocks that the pieces have.
pub record ArePieceHandles (d : Document) (branches : ℕ) (g : Gathered) (hs : List ℕ) : Type 0 where
  pub room : lacks_places d branches g ≡ false
  pub are : hs
      ≡ window_handles (old_pairs g.olds.items) g.head (length g.pieces.pieces)
      (new_handles d (length g.pieces.pieces - length g.olds.items))

-- blocks that were gathered, and can go
pub record AreGone (d : Document) (g : Gathered) (hs : List ℕ) : Type 0 where
  pub olds : (h : ℕ) → Contains hs h → Contains (old_handles g.olds.items) h
  pub can : CanRemoveByHandle d hs

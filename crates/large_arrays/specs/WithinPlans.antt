-- What is told of an edit that stays within one branch before that branch is looked at, and what its plan comes to.
use Rattle.std.specs.Prelude.{◌≡◌, ◌≢◌, ◌⊎◌, ◌<◌, ◌≤◌, ◌+◌, ◌-◌, ◌*◌, ◌∷◌, ℕ, List, [], true, Some, length, get_or}
use Rattle.std.specs.List.{splice}
use Rattle.geos_model.specs.Document.{Document}
use Rattle.geos_model.specs.Heap.{capacity}
use Rattle.geos_model.specs.Pieces.{BranchPiece, branch_room, join_room}
use Rattle.geos_model.specs.LargeBlocks.{root_at}
use Rattle.geos_model.specs.LargeLayout.{Root, total_count, branch_bytes}
use Rattle.geos_model.specs.LargeWindow.{are_branches}
use Rattle.geos_model.specs.Spread.{first_place, end_place}
use Rattle.chunk_edits.specs.Patching.{PatchPiece, PatchLeads, peak}
use Rattle.vm_blocks.specs.declared.change.Change.{Change}
use Rattle.large_arrays.specs.ChangePlans.{ArePlanned}
use Rattle.large_arrays.specs.Loading.{branch_under}
use Rattle.large_bodies.specs.SizedElements.{SizedElements}
use Rattle.large_arrays.specs.Spots.{IsSpot, counts_of}
use Rattle.large_arrays.specs.Within.{StaysWithin, place_within, count_within, root_within, bodies_within}
use Rattle.large_arrays.specs.declared.spot.Spot.{Spot}
use Rattle.large_arrays.specs.declared.within.BranchEdit.{BranchEdit}

-- A branch of so many elements, at a place among a spot's links, isn't joined to the one before it, nor to the one
-- behind it; and it is neither empty nor too large.

abbrev pub IsLeftApart : Spot → ℕ → ℕ → Type 0
IsLeftApart s at count =
    (at ≡ 0) ⊎ (join_room < (get_or (counts_of s.links.items) (at - 1) 0 + count) * s.size)

abbrev pub IsRightApart : Spot → ℕ → ℕ → Type 0
IsRightApart s at count =
    (length s.links.items ≤ at + 1) ⊎ (join_room < (count + get_or (counts_of s.links.items) (at + 1) 0) * s.size)

pub record StandsAlone (s : Spot) (at count : ℕ) : Type 0 where
  pub some : 0 < count
  pub fits : count * s.size ≤ branch_room
  pub left : IsLeftApart s at count
  pub right : IsRightApart s at count

-- It is the edit that puts so many elements in the place of those from one to another of a root.
pub record IsBranchEdit (r : Root) (i j new : ℕ) (e : BranchEdit) : Type 0 where
  pub stays : StaysWithin r i j new
  pub handle : e.link.handle.0 ≡ get_or r.branches (place_within r i j) 0
  pub old : e.link.count ≡ get_or r.counts (place_within r i j) 0
  pub from : e.from ≡ (first_place r.counts i j).1
  pub to : e.to ≡ (end_place r.counts j).1
  pub count : e.count ≡ count_within r i j new
  pub total : e.total ≡ total_count (root_within r i j new)

-- so of each root that has a spot
abbrev pub IsEditAt : Spot → ℕ → BranchEdit → Type 0
IsEditAt s new e = (r : Root) (i j : ℕ) → IsSpot r i j s → IsBranchEdit r i j new e

-- Its numbers fit, where so many elements of a size come.
pub record FitsEdit (e : BranchEdit) (new size : ℕ) : Type 0 where
  pub small : size < 65536
  pub sized : size ≢ 0
  pub order : e.from ≤ e.to
  pub within : e.to ≤ e.link.count
  pub count : e.count ≡ e.from + new + (e.link.count - e.to)
  pub fits : e.count * size ≤ branch_room

-- The branch is what its link says, and a patch leads to its bytes with new elements in the place of others.
pub record PatchesBranch (d : Document) (e : BranchEdit) (new : SizedElements) (patch : List PatchPiece) : Type 0 where
  pub elements : BranchPiece
  pub branch : branch_under d e.link.handle.0 new.size e.link.count ≡ Some elements
  pub leads : PatchLeads patch (branch_bytes new.size elements)
      (branch_bytes new.size (splice elements e.from e.to new.elements))
  pub short : peak patch ≤ capacity

-- The branch is there, and the changes give it and the root what such an edit gives them.
pub record IsPlannedWithin (d : Document) (b i j : ℕ) (new : BranchPiece) (changes : List Change) : Type 0 where
  pub there : are_branches d b (root_at d b) (place_within (root_at d b) i j ∷ []) ≡ true
  pub planned : ArePlanned changes d [] (bodies_within d b i j new)

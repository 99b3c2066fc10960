-- What a plan comes to that writes elements over in one branch after another.
use Rattle.std.specs.Prelude.{◌≡◌, ◌+◌, ◌++◌, ◌∷◌, ℕ, List, [], true, Some, length}
use Rattle.std.specs.List.{splice, zip}
use Rattle.geos_model.specs.Document.{Document, is_live}
use Rattle.vm_blocks.specs.declared.change.Change.{Change}
use Rattle.geos_model.specs.Pieces.{BranchPiece}
use Rattle.geos_model.specs.LargeLayout.{branch_bytes}
use Rattle.geos_model.specs.Spread.{overwritten}
use Rattle.large_arrays.specs.ChangePlans.{piece_bodies, ArePlanned, ArePlannedByHandle, IsUntouched}
use Rattle.large_arrays.specs.LargeRuns.{are_branches_under, pieces_under}
use Rattle.large_arrays.specs.Loading.{branch_under}
use Rattle.large_bodies.specs.SizedElements.{SizedElements}
use Rattle.large_arrays.specs.Spots.{link_handles}
use Rattle.large_arrays.specs.declared.spot.BranchLink.{BranchLink}

-- Changes do what others do, and give a block this body, which none of those touches.
abbrev pub AddsBody : Document → List Change → List Change → ℕ → List ℕ → Type 0
AddsBody d old new h body =
    (freed : List ℕ) (bodies : List (ℕ × List ℕ)) → ArePlanned old d freed bodies → IsUntouched freed bodies h
    → ArePlanned new d freed (bodies ++ (h, body) ∷ [])

-- so much of it is known by its handle alone
abbrev pub AddsByHandle : List Change → List Change → ℕ → Type 0
AddsByHandle old new h =
    (d : Document) (freed : List ℕ) (bodies : List (ℕ × List ℕ)) (body : List ℕ) → ArePlannedByHandle old d freed bodies
    → IsUntouched freed bodies h → is_live d h ≡ true → ArePlannedByHandle new d freed (bodies ++ (h, body) ∷ [])

-- The branch is what its link says, and from one element on others are written over.
pub record WritesBranch (d : Document) (link : BranchLink) (from : ℕ) (part : SizedElements) (old new : List Change)
    : Type 0 where
  pub elements : BranchPiece
  pub branch : branch_under d link.handle.0 part.size link.count ≡ Some elements
  pub adds : AddsBody d old new link.handle.0
      (branch_bytes part.size (splice elements from (from + length part.elements) part.elements))
  pub listed : AddsByHandle old new link.handle.0

-- All are, and the elements that begin with one of the first branch are written over by as many.
pub record AreBranchesWritten (d : Document) (links : List BranchLink) (start : ℕ) (new : SizedElements)
    (changes : List Change) : Type 0 where
  pub there : are_branches_under d new.size links ≡ true
  pub planned : ArePlanned changes d []
      (piece_bodies new.size (zip (link_handles links) (overwritten (pieces_under d new.size links) start new.elements)))

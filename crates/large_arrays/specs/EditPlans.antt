-- What a plan of an edit of a large array comes to.
use Rattle.std.specs.Prelude.{◌≡◌, ◌⊎◌, ◌<◌, ℕ, List, true, length, sum_by}
use Rattle.std.specs.List.{flat_map}
use Rattle.geos_model.specs.Document.{Document}
use Rattle.geos_model.specs.declared.fault.Fault.{Fault}
use Rattle.geos_model.specs.declared.fault.Fault.TheVariants.{NoElement, BadChain, IsMap, Range, TooBig, NoHandles}
use Rattle.vm_blocks.specs.ChangeCosts.{change_cost}
use Rattle.vm_blocks.specs.ChangePlaces.{change_places}
use Rattle.vm_blocks.specs.Preparing.{after_changes, CanApplyAll}
use Rattle.vm_blocks.specs.declared.change.Change.{Change}
use Rattle.geos_model.specs.Pieces.{BranchPiece}
use Rattle.geos_model.specs.LargeBlocks.{root_at}
use Rattle.geos_model.specs.LargeEdits.{run_places}
use Rattle.geos_model.specs.Cost.{large_cost}
use Rattle.geos_model.specs.Places.{large_places}
use Rattle.geos_model.specs.ChangedBlocks.{overwritten_blocks}
use Rattle.large_arrays.specs.Loading.{IsRootRefusal}
use Rattle.geos_model.specs.LargeWindow.{are_branches, elements_overwritten}

-- There are changes, which can be made of the document, one after another, and make this of it. They change these
-- blocks, and cost what that costs.
pub record PlansLargeEdit (d after : Document) (changed : List ℕ) (changes : List Change) : Type 0 where
  pub applies : CanApplyAll changes d
  pub makes : after_changes changes d ≡ after
  pub some : 0 < length changes
  pub places : flat_map change_places changes ≡ large_places changed
  pub cost : sum_by change_cost changes ≡ large_cost d after changed

-- Elements of one size are written over from one on: the branches that have them are there.
pub record IsOverwritingPlanned (d : Document) (b i : ℕ) (new : BranchPiece) (changes : List Change) : Type 0 where
  pub there : are_branches d b (root_at d b) (run_places (root_at d b) i (length new)) ≡ true
  pub plans : PlansLargeEdit d (elements_overwritten d b i new) (overwritten_blocks d b i (length new)) changes

-- What an edit is refused for by what is given: bytes; a run of elements that there aren't; and either.

abbrev pub IsGivenFault : Fault → Type 0
IsGivenFault fault = (fault ≡ Range) ⊎ (fault ≡ TooBig)

abbrev pub IsPastFault : Fault → Type 0
IsPastFault fault = fault ≡ NoElement

abbrev pub IsSettingFault : Fault → Type 0
IsSettingFault fault = IsPastFault fault ⊎ IsGivenFault fault

-- what it is refused for over any store: its root, these of its own, its branches
abbrev pub IsLargeEditRefusal : (Fault → Type 0) → (Fault → Type 0) → Document → ℕ → Fault → Type 0
IsLargeEditRefusal own lacks d b fault =
    (IsRootRefusal lacks d b fault ⊎ own fault) ⊎ ((fault ≡ BadChain) ⊎ ((fault ≡ IsMap) ⊎ (fault ≡ NoHandles)))

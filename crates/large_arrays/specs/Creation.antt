-- The change that makes an array.
use Rattle.std.specs.Prelude.{◌≡◌, ◌⊎◌, ◌∷◌, ℕ, [], None, Some, get_or}
use Rattle.geos_model.specs.Refusal.{first_refusal}
use Rattle.geos_model.specs.Document.{Document}
use Rattle.geos_model.specs.Chain.{new_handles}
use Rattle.geos_model.specs.declared.fault.Fault.{Fault}
use Rattle.geos_model.specs.declared.fault.Fault.TheVariants.{Memory}
use Rattle.geos_model.specs.declared.handle.VmHandle.{VmHandle}
use Rattle.vm_blocks.specs.ChangeCosts.{change_cost}
use Rattle.vm_blocks.specs.ChangePlaces.{change_places}
use Rattle.vm_blocks.specs.Changes.{after_change, CanApply}
use Rattle.vm_blocks.specs.declared.change.Change.{Change}
use Rattle.geos_model.specs.LargeLayout.{Root}
use Rattle.geos_model.specs.Cost.{images_length}
use Rattle.geos_model.specs.Places.{large_places}
use Rattle.geos_model.specs.ChangedBlocks.{created_blocks}
use Rattle.geos_model.specs.LargeEdits.{new_array_blocks, large_created, create_large_conditions}

-- the root of an array without elements
abbrev pub empty_root : ℕ → ℕ → Root
empty_root size branch = record { size = size; counts = 0 ∷ []; branches = branch ∷ [] }

-- Nothing refuses to make the array; the change can be made in the document, and makes it under this handle. It changes
-- the two blocks, and costs what they are.
pub record PlansCreation (user_id size : ℕ) (d : Document) (change : Change) (root : VmHandle) : Type 0 where
  pub accepted : first_refusal (create_large_conditions d size) ≡ None
  pub applies : CanApply change d
  pub document : after_change change d ≡ large_created d user_id size
  pub places : change_places change ≡ large_places (created_blocks d)
  pub cost : change_cost change ≡ images_length (new_array_blocks d user_id size)
  pub answer : root.0 ≡ get_or (new_handles d 2) 0 0

-- lack of memory, or the first refusal
abbrev pub RefusesCreation : ℕ → Document → Fault → Type 0
RefusesCreation size d fault = (fault ≡ Memory) ⊎ (first_refusal (create_large_conditions d size) ≡ Some fault)

-- Edits of a large array that put elements in the place of others.
use Rattle.std.specs.Prelude.{◌≡◌, ◌≤◌, ◌+◌, ◌∷◌, ◌||◌, ℕ, List, [], nat_lt, None}
use Rattle.geos_model.specs.Refusal.{Conditions, first_refusal}
use Rattle.geos_model.specs.declared.fault.Fault.TheVariants.{NoElement, Range, TooBig}
use Rattle.geos_model.specs.Pieces.{BranchPiece}
use Rattle.geos_model.specs.LargeLayout.{Root, total_count}
use Rattle.geos_model.specs.LargeEdits.{cut_elements, ends_within_element, element_count, is_too_long}
use Rattle.large_arrays.specs.declared.edit_plans.Replacement.{Replacement}

-- that of the elements from one up to another of a root
abbrev pub replacement : Root → ℕ → ℕ → BranchPiece → Replacement
replacement r i j new = record { start = i; end = j; new_elements = record { size = r.size; elements = new } }

-- The root has these elements, and those that come are of its size.
pub record CanReplace (r : Root) (e : Replacement) : Type 0 where
  pub order : e.start ≤ e.end
  pub within : e.end ≤ total_count r
  pub size : e.new_elements.size ≡ r.size

-- what refuses an insertion, and a setting, before branches are looked at

abbrev pub insertion_conditions : Root → ℕ → List ℕ → Conditions
insertion_conditions r i bytes =
    (Range, nat_lt (total_count r) i || ends_within_element r.size bytes) ∷ (TooBig, is_too_long r.size bytes) ∷ []

abbrev pub setting_conditions : Root → ℕ → List ℕ → Conditions
setting_conditions r i bytes =
    (NoElement, nat_lt (total_count r) (i + element_count r.size bytes))
    ∷ (Range, ends_within_element r.size bytes) ∷ (TooBig, is_too_long r.size bytes) ∷ []

-- Nothing refuses it so, and it is this.

pub record IsInsertion (r : Root) (i : ℕ) (bytes : List ℕ) (e : Replacement) : Type 0 where
  pub accepted : first_refusal (insertion_conditions r i bytes) ≡ None
  pub is : e ≡ replacement r i i (cut_elements r.size bytes)

pub record IsSetting (r : Root) (i : ℕ) (bytes : List ℕ) (e : Replacement) : Type 0 where
  pub accepted : first_refusal (setting_conditions r i bytes) ≡ None
  pub is : e ≡ replacement r i (i + element_count r.size bytes) (cut_elements r.size bytes)

pub record IsDeletion (r : Root) (i n : ℕ) (e : Replacement) : Type 0 where
  pub within : i + n ≤ total_count r
  pub is : e ≡ replacement r i (i + n) []

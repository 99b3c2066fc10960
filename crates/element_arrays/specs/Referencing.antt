-- One more reference of an element.
use Rattle.std.specs.Prelude.{ℕ, [], ◌∷◌, ◌+◌, is_none, Some}
use Rattle.geos_model.specs.Refusal.{Conditions}
use Rattle.geos_model.specs.ElementArray.{Slots, element_at}
use Rattle.geos_model.specs.ElementEdits.{with_element, count_at, bytes_at, is_count_full}
use Rattle.geos_model.specs.declared.fault.Fault.TheVariants.{NoElement, CountFull}

abbrev pub element_with_reference : Slots → ℕ → Slots
element_with_reference s t = with_element s t (count_at s t + 1) (bytes_at s t)

abbrev pub element_reference_conditions : Slots → ℕ → Conditions
element_reference_conditions s t = (NoElement, is_none (element_at s t)) ∷ (CountFull, is_count_full s (Some t)) ∷ []

-- One more reference of a name that is there.
use Rattle.std.specs.Prelude.{ℕ, List, [], ◌∷◌, Bool, not, ◌==◌, length, Some}
use Rattle.geos_model.specs.Refusal.{Conditions}
use Rattle.geos_model.specs.ElementEdits.{is_count_full}
use Rattle.geos_model.specs.NameArray.{NameArray, name_bytes}
use Rattle.geos_model.specs.NameEdits.{name_with_reference}
use Rattle.geos_model.specs.declared.fault.Fault.TheVariants.{Range, CountFull}

abbrev pub name_bytes_with_reference : NameArray → List ℕ → Bool → ℕ → List ℕ
name_bytes_with_reference a part replace t = name_bytes (record a { names = name_with_reference a part replace t })

abbrev pub name_reference_conditions : NameArray → List ℕ → ℕ → Conditions
name_reference_conditions a part t =
    (CountFull, is_count_full a.names (Some t)) ∷ (Range, not (length part == a.part)) ∷ []

-- What a look-up of a chunk's bytes answers.
use Rattle.std.specs.Prelude.{◌≡◌, None, Some}
use Rattle.geos_model.specs.Refusal.{Conditions, first_refusal}
use Rattle.geos_model.specs.declared.fault.Fault.{Fault}

-- nothing refuses it, and the answer is this
pub record IsAnswered {T : Type 0} (conditions : Conditions) (answer is : T) : Type 0 where
  pub accepted : first_refusal conditions ≡ None
  pub same : is ≡ answer

-- the first refusal
abbrev pub IsRefused : Conditions → Fault → Type 0
IsRefused conditions fault = first_refusal conditions ≡ Some fault

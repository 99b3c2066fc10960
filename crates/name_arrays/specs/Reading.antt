-- The name array that is read of bytes.
use Rattle.std.specs.Prelude.{◌≡◌, ℕ, List, Some}
use Rattle.geos_model.specs.NameArray.{NameArray, name_array_of}
use Rattle.element_arrays.specs.Slotted.{Slotted, slotted_bytes}

-- these slots, with parts of this size
abbrev pub named_array : Slotted → ℕ → NameArray
named_array s part = record { part = part; names = s.slots }

-- bytes are this name array
pub record IsNameArrayRead (bytes : List ℕ) (s : Slotted) (part : ℕ) : Type 0 where
  pub is : name_array_of bytes ≡ Some (named_array s part)
  pub same : slotted_bytes s.more s.slots ≡ bytes

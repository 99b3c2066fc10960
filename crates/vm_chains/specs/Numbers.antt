-- Handles as numbers.
use Rattle.std.specs.Prelude.{ℕ, List, map}
use Rattle.geos_model.specs.declared.handle.VmHandle.{VmHandle}

abbrev pub numbers : List VmHandle → List ℕ
numbers handles = map (λ h. h.0) handles

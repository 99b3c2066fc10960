-- Bytes that are the root of a large array, of which it is kept in mind.
use Rattle.std.specs.Prelude.{ℕ, List, Bool, is_some}
use Rattle.geos_model.specs.LargeLayout.{root_of}

abbrev pub is_large_root : List ℕ → Bool
is_large_root bytes = is_some (root_of bytes)

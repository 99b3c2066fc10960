-- The name of a used token.
use Rattle.std.specs.Prelude.{◌≡◌, ◌≤◌, ◌++◌, ℕ, true, is_some}
use Rattle.geos_model.specs.ElementArray.{element_at, greatest_count}
use Rattle.geos_model.specs.ElementEdits.{count_at, bytes_at}
use Rattle.geos_model.specs.NameArray.{NameArray}
use Rattle.geos_model.specs.NameEdits.{part_at, text_at}
use Rattle.name_arrays.specs.declared.names.Name.{Name}

pub record IsNameAt (a : NameArray) (t : ℕ) (name : Name) : Type 0 where
  pub used : is_some (element_at a.names t) ≡ true
  pub count : count_at a.names t ≡ name.count
  pub least : 1 ≤ name.count
  pub most : name.count ≤ greatest_count
  pub part : part_at a t ≡ name.part.now
  pub text : text_at a t ≡ name.text.now
  pub bytes : bytes_at a.names t ≡ name.part.now ++ name.text.now

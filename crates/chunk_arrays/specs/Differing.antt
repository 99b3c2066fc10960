-- Bytes that go, and those that come in their place, without what both have at their ends.
use Rattle.std.specs.Prelude.{◌≡◌, ◌++◌, ℕ, List, length}
use Rattle.chunk_arrays.specs.declared.difference.Difference.{Difference}

pub record IsDifference (old new : List ℕ) (d : Difference) : Type 0 where
  pub first : List ℕ
  pub last : List ℕ
  pub old_is : old ≡ first ++ (d.old.now ++ last)
  pub new_is : new ≡ first ++ (d.new.now ++ last)
  pub front : length first ≡ d.front
  pub back : length last ≡ d.back

-- Elements of one size that come into an array.
use Rattle.std.specs.Prelude.{◌≡◌, ◌≤◌, ◌⊎◌, ℕ, ◌+◌, List, [], true, length}
use Rattle.std.specs.List.{flat_map}
use Rattle.geos_model.specs.Array.{Array, is_even}
use Rattle.geos_model.specs.ArrayEdits.{with_elements}

-- These bytes are those of so many elements, one at most, which can come in the place of those from one to another; in
-- the place of one at most, where one comes.
pub record AreElements (a : Array) (from to : ℕ) (bytes : List ℕ) (others : ℕ) (ys : List (List ℕ)) : Type 0 where
  pub joined : bytes ≡ flat_map (λ x. x) ys
  pub many : others ≡ length ys
  pub even : is_even (with_elements a from to ys) ≡ true
  pub few : (ys ≡ []) ⊎ ((to ≤ from + 1) × (length ys ≡ 1))

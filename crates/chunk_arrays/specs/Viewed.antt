-- What callers see of an array that is read where it lies.
use Rattle.std.specs.Prelude.{◌≡◌, ◌^◌, ◌<◌, true, length}
use Rattle.geos_model.specs.Array.{Array, array_bytes, is_even}
use Rattle.chunk_arrays.specs.Parts.{AreByteValues}

-- an array that some bytes are, and what holds of each such array
pub record Viewed : Type 0 where
  pub array : Array
  pub even : is_even array ≡ true
  pub few : length array.elements < 2 ^ 16
  pub are_bytes : AreByteValues (array_bytes array)

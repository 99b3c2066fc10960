-- Two chains whose blocks are compared pair by pair.
use Rattle.std.specs.Prelude.{◌≡◌, ℕ, List, Bool, true, Some}
use lib.Pointwise.{pointwise}
use Rattle.geos_model.specs.Chain.{chain, chain_blocks, relinked, same_shape}
use Rattle.geos_model.specs.Document.{Document, raw_bytes_of}
use Rattle.vm_chains.specs.Alike.{are_alike, mark_of}
use Rattle.vm_chains.specs.Stepping.{IsAlong, IsWalkStep}
use Rattle.vm_chains.specs.declared.stepping.Walk.{Walk}

-- A step is made, and the block that it meets has these bytes, with a mark for each of its links.
pub record IsMarkedStep (d : Document) (bytes : List ℕ) (old new : Walk) : Type 0 where
  pub block : ℕ
  pub step : IsWalkStep d block old new
  pub marked : bytes ≡ relinked mark_of (raw_bytes_of d block)

-- Two walks have met as many blocks, and those at the same place are alike.
pub record AreInStep (d : Document) (f s : ℕ) (first second : Walk) : Type 0 where
  pub first_along : IsAlong d f first
  pub second_along : IsAlong d s second
  pub alike : pointwise (are_alike d) first.met second.met ≡ true

-- It's known whether the blocks of the chains are alike, if there are these chains.
pub record AreCompared (d : Document) (f s : ℕ) (same : Bool) (first second : Walk) : Type 0 where
  pub first_along : IsAlong d f first
  pub second_along : IsAlong d s second
  pub known : (xs ys : List ℕ) → chain d f ≡ Some xs → chain d s ≡ Some ys → same ≡ pointwise (are_alike d) xs ys

-- There are both chains, and it's known whether they are equal.
pub record AreEqualIf (d : Document) (f s : ℕ) (same : Bool) : Type 0 where
  pub first : chain d f ≡ Some (chain_blocks d f)
  pub second : chain d s ≡ Some (chain_blocks d s)
  pub is : same ≡ same_shape d (chain_blocks d f) (chain_blocks d s)

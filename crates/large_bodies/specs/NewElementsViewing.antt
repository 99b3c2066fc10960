-- How new elements lie in the bytes that are given for them.
use Rattle.std.specs.Prelude.{◌≡◌, ◌≤◌, ◌==◌, ◌∷◌, ℕ, List, [], true, length, if◌then◌else◌}
use Rattle.std.specs.List.{flat_map}
use Rattle.geos_model.specs.Array.{cut_evenly}
use Rattle.geos_model.specs.Pieces.{BranchPiece, each_fits}
use Rattle.large_bodies.specs.SizedElements.{SizedElements, have_size}
use Rattle.large_bodies.specs.declared.new_elements.NewElements.TheInside.{Inside}

-- so many elements that bytes are: one or none where sizes vary
abbrev pub cut_new : ℕ → ℕ → List ℕ → BranchPiece
cut_new size count bytes =
    if size == 0 then (if count == 0 then [] else bytes ∷ []) else cut_evenly count size bytes

-- Bytes are so many elements, each of which fits into a branch.
pub record AreNewElements (size count : ℕ) (bytes : List ℕ) (elements : BranchPiece) : Type 0 where
  pub joined : bytes ≡ flat_map (λ x. x) elements
  pub counted : count ≡ length elements
  pub one : (size == 0) ≡ true → count ≤ 1
  pub fit : each_fits size elements ≡ true
  pub sized : have_size size elements ≡ true

abbrev pub seen_elements : Inside → SizedElements
seen_elements v = record { size = v.size; elements = cut_new v.size v.count v.bytes.now }

abbrev pub HasNewElements : Inside → Type 0
HasNewElements v = AreNewElements v.size v.count v.bytes.now (seen_elements v).elements

-- How a piece keeps its elements: their bytes one after another, and how many each has where sizes vary.
use Rattle.std.specs.Prelude.{◌≡◌, ℕ, List, length}
use Rattle.std.specs.List.{flat_map}
use Rattle.geos_model.specs.Pieces.{BranchPiece}
use Rattle.large_bodies.specs.SizedElements.{SizedElements, IsPiece}
use Rattle.large_bodies.specs.ElementLengths.{cut_lengths, all_lengths, kept_lengths}
use Rattle.large_bodies.specs.declared.piece.Piece.TheInside.{Inside}

-- These bytes and lengths are those of elements that a branch can have.
pub record AreHeldElements (size count : ℕ) (lengths bytes : List ℕ) (elements : BranchPiece) : Type 0 where
  pub joined : bytes ≡ flat_map (λ x. x) elements
  pub kept : lengths ≡ kept_lengths size elements
  pub counted : count ≡ length elements
  pub holds : IsPiece (record { size = size; elements = elements })

abbrev pub held_elements : Inside → SizedElements
held_elements p = record {
  size = p.size;
  elements = cut_lengths (all_lengths p.size p.count p.lengths.items) p.bytes.items;
}

abbrev pub KeepsElements : Inside → Type 0
KeepsElements p = AreHeldElements p.size p.count p.lengths.items p.bytes.items (held_elements p).elements

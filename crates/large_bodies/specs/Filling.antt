-- How far elements go into a piece.
use Rattle.std.specs.Prelude.{◌≡◌, ◌<◌, ◌++◌, ◌∷◌, ℕ, [], Bool, true, not}
use Rattle.geos_model.specs.Pieces.{BranchPiece, fits_branch}
use Rattle.large_bodies.specs.SizedElements.{SizedElements, with_behind}

-- the first of the elements that are left has no room behind these
abbrev pub lacks_piece_room : ℕ → BranchPiece → BranchPiece → Bool
lacks_piece_room size elements [] = true
lacks_piece_room size elements (x ∷ left) = not (fits_branch size (elements ++ x ∷ []))

-- As many of the new elements as there is room for are put behind those of a piece, and the others are left.
pub record FillsPiece (before after new left : SizedElements) : Type 0 where
  pub some : BranchPiece
  pub piece : after ≡ with_behind before some
  pub all : new.elements ≡ some ++ left.elements
  pub same : left.size ≡ new.size
  pub small : new.size < 65536
  pub fits : fits_branch new.size after.elements ≡ true
  pub full : lacks_piece_room new.size after.elements left.elements ≡ true

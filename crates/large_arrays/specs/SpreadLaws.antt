-- Laws of the spread.
use Rattle.std.specs.Prelude.{◌≡◌, ◌≤◌, ◌+◌, ℕ, List, true, length, []}
use Rattle.std.specs.List.{splice}
use Rattle.geos_model.specs.Pieces.{BranchPiece, elements_in_pieces, each_fits, are_spread}
use Rattle.geos_model.specs.Spread.{respread}

pub record SpreadLaw : Type 0 where
  -- The elements are those of the list's edit.
  pub elements : (size : ℕ) (pieces : List BranchPiece) (i j : ℕ) (new : BranchPiece)
      → elements_in_pieces (respread size pieces i j new) ≡ splice (elements_in_pieces pieces) i j new
  -- They stay spread.
  pub spread : (size : ℕ) (pieces : List BranchPiece) (i j : ℕ) (new : BranchPiece) → are_spread size pieces ≡ true
      → each_fits size new ≡ true → are_spread size (respread size pieces i j new) ≡ true
  -- There is one piece more at most than there are new elements: of one element two pieces more.
  pub few : (size : ℕ) (pieces : List BranchPiece) (i j : ℕ) (new : BranchPiece) → i ≤ j → are_spread size pieces ≡ true
      → length (respread size pieces i j new) ≤ length pieces + 1 + length new
  -- A deletion makes no piece more.
  pub fewer : (size : ℕ) (pieces : List BranchPiece) (i j : ℕ) → i ≤ j → are_spread size pieces ≡ true
      → length (respread size pieces i j []) ≤ length pieces

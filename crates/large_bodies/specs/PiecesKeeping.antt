-- Pieces of one size, as they are kept.
use Rattle.std.specs.Prelude.{◌≡◌, ◌++◌, ◌∷◌, ℕ, List, [], true, ◌==◌, map}
use Rattle.std.specs.List.{list_all}
use Rattle.geos_model.specs.Pieces.{BranchPiece, all_fit}
use Rattle.large_bodies.specs.SizedElements.{SizedElements, SizedPieces}
use Rattle.large_bodies.specs.declared.packing.Pieces.TheInside.{Inside}

abbrev pub elements_each : List SizedElements → List BranchPiece
elements_each held = map (λ q. q.elements) held

-- Each has the size, and fits.
pub record HavePieceSize (size : ℕ) (held : List SizedElements) : Type 0 where
  pub sized : list_all (λ q. q.size == size) held ≡ true
  pub fit : all_fit size (elements_each held) ≡ true

abbrev pub held_pieces : Inside → SizedPieces
held_pieces p = record { size = p.size; pieces = elements_each p.pieces.items }

abbrev pub KeepsPieces : Inside → Type 0
KeepsPieces p = HavePieceSize p.size p.pieces.items

-- with a piece behind them
abbrev pub with_piece_behind : SizedPieces → BranchPiece → SizedPieces
with_piece_behind p new = record p { pieces = p.pieces ++ new ∷ [] }

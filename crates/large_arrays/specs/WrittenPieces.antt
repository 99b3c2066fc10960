-- Pieces with elements written over, one by one.
use Rattle.std.specs.Prelude.{◌+◌, ◌-◌, ◌++◌, ℕ, suc, List, length, take, drop}
use Rattle.geos_model.specs.Document.{Document}
use Rattle.geos_model.specs.Pieces.{BranchPiece}
use Rattle.geos_model.specs.Spread.{start_place, end_place, overwritten}
use Rattle.geos_model.specs.LargeBlocks.{root_at, pieces_at}

-- A piece with the elements from the i-th of all on written over, where so many stand before the piece: what stands
-- before these, those of them that fall into the piece, and what stands behind.
abbrev pub written_piece : ℕ → BranchPiece → ℕ → BranchPiece → BranchPiece
written_piece before piece i new =
    take (i - before) piece ++ take (length piece - (i - before)) (drop (before - i) new)
    ++ drop (i + length new - before) piece

-- the pieces of the branches that have some elements, with others written over these
abbrev pub written_pieces : Document → ℕ → ℕ → BranchPiece → List BranchPiece
written_pieces d b i new =
    let r = root_at d b in
    let first = (start_place r.counts i).0 in
    let last = suc (end_place r.counts (i + length new)).0 in
    drop first (take last (overwritten (pieces_at d r) i new))

-- Patches that make roots of large arrays of roots.
use Rattle.std.specs.Prelude.{◌≡◌, ℕ, List, true}
use Rattle.raw_region.specs.Roots.{is_large_root}
use Rattle.chunk_edits.specs.Patching.{PatchPiece, ArePiecesOf, directed_pieces, patched}
use Rattle.chunk_edits.specs.declared.direction.Direction.{Direction}

-- Of each root that they are of, the pieces make another one, forwards and backwards.
pub record KeepsRoots (ps : List PatchPiece) : Type 0 where
  pub each : (direction : Direction) (bytes : List ℕ) → ArePiecesOf (directed_pieces direction ps) bytes
      → is_large_root bytes ≡ true → is_large_root (patched (directed_pieces direction ps) bytes) ≡ true

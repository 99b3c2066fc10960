-- What a draft of a patch is of, and what becomes of it.
use Rattle.std.specs.Prelude.{◌≡◌, ◌≤◌, ◌+◌, ◌++◌, ◌==◌, ℕ, List, [], ◌∷◌, length, max, if◌then◌else◌}
use Rattle.chunk_edits.specs.Patching.{PatchPiece, Keep, ArePiecesOf, patched, peak}
use Rattle.chunk_arrays.specs.declared.draft.Draft.{Draft}

-- the pieces of a draft, with the bytes that stay behind the others as one
abbrev pub drawn : Draft → List PatchPiece
drawn d = d.patch ++ Keep d.kept ∷ []

-- the same without a piece of no bytes
abbrev pub settled : Draft → List PatchPiece
settled d = if d.kept == 0 then d.patch else drawn d

-- the draft is of these bytes, and leads to those
pub record Draws (d : Draft) (from to : List ℕ) : Type 0 where
  pub stands : ArePiecesOf (drawn d) from
  pub gives : patched (drawn d) from ≡ to

-- A draft is of some bytes more, in whose place others come.
pub record Adds (before after : Draft) (from to : List ℕ) : Type 0 where
  pub draws : (x y : List ℕ) → Draws before x y → Draws after (x ++ from) (y ++ to)
  pub peak : peak (drawn after) ≡ peak (drawn before) + max (length from) (length to)
  pub kept : after.kept ≤ before.kept + length to

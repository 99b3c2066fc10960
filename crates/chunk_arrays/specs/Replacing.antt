-- A patch of all bytes of a chunk.
use Rattle.std.specs.Prelude.{ℕ, List, ◌++◌, ◌<◌, ◌^◌, length}
use Rattle.geos_model.specs.Refusal.{Conditions}
use Rattle.geos_model.specs.ArrayEdits.{too_long}
use Rattle.geos_model.specs.declared.fault.Fault.{Fault}
use Rattle.chunk_edits.specs.Patching.{PatchPiece, BuildsPatch}
use Rattle.chunk_edits.specs.Runs.{AreRuns}
use Rattle.chunk_edits.specs.Splicing.{RefusesToBuild}
use Rattle.chunk_edits.specs.declared.runs.ArrayPatch.{ArrayPatch}

-- The patch leads from a chunk's bytes to others. Nothing refuses it, and the new bytes aren't longer than any chunk.
abbrev pub Replaces : Conditions → List ℕ → List ℕ → List PatchPiece → Type 0
Replaces own from to p = BuildsPatch (own ++ too_long to) p from to

-- So it does, by putting others, so many, in the place of the elements from one to another; and where so many bytes as
-- the old ones are can be a chunk's, it changes them there.
pub record ReplacesAt (own : Conditions) (old new : List ℕ) (from to others : ℕ) (p : ArrayPatch) : Type 0 where
  pub replaces : Replaces own old new p.patch
  pub runs : length old < 2 ^ 16 → AreRuns old new from to others p.runs

-- lack of memory, or the first refusal
abbrev pub RefusesToReplace : Conditions → List ℕ → Fault → Type 0
RefusesToReplace own to fault = RefusesToBuild (own ++ too_long to) fault

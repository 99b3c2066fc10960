-- Which blocks edits of large arrays change.
use Rattle.std.specs.Prelude.{◌+◌, ◌++◌, ◌==◌, ◌&&◌, ◌∷◌, ℕ, List, [], length, if◌then◌else◌}
use Rattle.geos_model.specs.Document.{Document}
use Rattle.geos_model.specs.Chain.{new_handles}
use Rattle.geos_model.specs.Pieces.{BranchPiece}
use Rattle.geos_model.specs.LargeBlocks.{root_at, handles_at}
use Rattle.geos_model.specs.LargeWindow.{window, freed_handles}
use Rattle.geos_model.specs.LargeEdits.{cut_elements, element_count, run_places}

-- Others in the place of elements: the blocks that go, the root, and those of the new pieces in order. Where no element
-- goes or comes the root is told alone, which becomes what it is.
abbrev pub replaced_blocks : Document → ℕ → ℕ → ℕ → BranchPiece → List ℕ
replaced_blocks d b i j new =
    let w = window d b i j new in
    if (i == j) && (length new == 0) then b ∷ [] else freed_handles w ++ b ∷ w.news

-- So many elements of one size written over: the branches that have them, or the root where they are none.
abbrev pub overwritten_blocks : Document → ℕ → ℕ → ℕ → List ℕ
overwritten_blocks d b i n = if n == 0 then b ∷ [] else handles_at (root_at d b) (run_places (root_at d b) i n)

-- an array that is made: its root, and its branch
abbrev pub created_blocks : Document → List ℕ
created_blocks d = new_handles d 2

abbrev pub inserted_blocks : Document → ℕ → ℕ → List ℕ → List ℕ
inserted_blocks d b i bytes = replaced_blocks d b i i (cut_elements (root_at d b).size bytes)

abbrev pub set_blocks : Document → ℕ → ℕ → List ℕ → List ℕ
set_blocks d b i bytes =
    let r = root_at d b in
    if r.size == 0 then replaced_blocks d b i (i + 1) (bytes ∷ [])
    else overwritten_blocks d b i (element_count r.size bytes)

abbrev pub deleted_blocks : Document → ℕ → ℕ → ℕ → List ℕ
deleted_blocks d b i n = replaced_blocks d b i (i + n) []

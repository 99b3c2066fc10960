-- A root of which one branch gets other elements: what becomes of its bytes.
use Rattle.std.specs.Prelude.{◌≡◌, ◌<◌, ◌+◌, ◌-◌, ◌*◌, ◌∷◌, ℕ, List, []}
use Rattle.geos_model.specs.Words.{word, double_word}
use Rattle.chunk_edits.specs.Patching.{PatchPiece, Keep, Put}
use Rattle.large_bodies.specs.declared.counts.Counts.{Counts}

-- The number of elements changes, and how many of them the branch at a place has, of so many branches; all else stays.
abbrev pub counts_pieces : ℕ → ℕ → Counts → Counts → List PatchPiece
counts_pieces branches place old new =
    Keep 12 ∷ Put (double_word old.total) (double_word new.total)
    ∷ Keep (2 * place) ∷ Put (word old.count) (word new.count)
    ∷ Keep (2 * (branches - 1 - place) + 4 * branches) ∷ []

-- The branch is empty neither before nor after, and the number of all elements changes by as much as its own.
pub record ChangeTogether (old new : Counts) : Type 0 where
  pub some : 0 < old.count
  pub still_some : 0 < new.count
  pub level : old.total + new.count ≡ new.total + old.count

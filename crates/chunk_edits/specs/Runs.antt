-- Where an edit changes the bytes of a chunk.
use Rattle.std.specs.Prelude.{◌≡◌, ℕ, List, [], ◌∷◌, ◌++◌, length, Option, Some, None}
use Rattle.geos_model.specs.Places.{array_places}
use Rattle.geos_model.specs.declared.handle.VmHandle.{VmHandle}
use Rattle.geos_model.specs.declared.handle.ChunkHandle.{ChunkHandle}
use Rattle.geos_model.specs.declared.place.Place.{Place}
use Rattle.geos_model.specs.declared.place.Place.TheVariants as place
use Rattle.chunk_edits.specs.Splicing.{Splice}
use Rattle.chunk_edits.specs.declared.runs.ArrayRuns.{ArrayRuns}

-- where a splice lies, how many bytes go and how many come
pub record LiesAt (s : Splice) (at before after : ℕ) : Type 0 where
  pub starts : s.at ≡ at
  pub goes : length s.old ≡ before
  pub comes : length s.new ≡ after

-- the bytes before the elements, where they change
abbrev pub head_places : VmHandle → ChunkHandle → Option (ℕ × ℕ) → List Place
head_places b c None = []
head_places b c (Some (before, after)) = place.Run b c 0 before after ∷ []

abbrev pub runs_places : VmHandle → ChunkHandle → ArrayRuns → List Place
runs_places b c r = head_places b c r.head ++ place.Run b c r.at r.before r.after ∷ []

-- The runs of an edit that puts so many elements in the place of those from one to another, and by which the bytes of
-- an array became others.
abbrev pub AreRuns : List ℕ → List ℕ → ℕ → ℕ → ℕ → ArrayRuns → Type 0
AreRuns old new from to others r =
    (b : VmHandle) (c : ChunkHandle) → runs_places b c r ≡ array_places b c old new from to others

-- Two lists of handles that rise, walked side by side.
use Rattle.std.specs.Prelude.{ℕ, List, [], ◌∷◌, min, map, ◌==◌, if◌then◌else◌, Option, Some, None}
use Rattle.std.specs.List.{filter}
use Rattle.std.specs.FinMap.{contains_key}
use Rattle.geos_model.specs.Heap.{ChunkMap, chunk_handles}
use Rattle.geos_model.specs.declared.handle.ChunkHandle.{ChunkHandle}

abbrev pub handle_numbers : List ChunkHandle → List ℕ
handle_numbers handles = map (λ h. h.0) handles

-- the handles of a heap's chunks, rising
abbrev pub live_chunks : ChunkMap → List ℕ
live_chunks m = filter (contains_key m) chunk_handles

-- the lesser of the first ones
abbrev pub lesser_first : List ℕ → List ℕ → Option ℕ
lesser_first [] [] = None
lesser_first (x ∷ xs) [] = Some x
lesser_first [] (y ∷ ys) = Some y
lesser_first (x ∷ xs) (y ∷ ys) = Some (min x y)

-- what is left once a handle is done, of a list that has it in front or nowhere
abbrev pub rest_behind : ℕ → List ℕ → List ℕ
rest_behind h [] = []
rest_behind h (x ∷ xs) = if x == h then xs else x ∷ xs

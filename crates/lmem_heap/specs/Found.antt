-- A chunk that was found, so that it is read and changed where it lies.
use Rattle.std.specs.Prelude.{◌≡◌, ◌+◌, ◌<◌, ◌≤◌, ℕ, List, [], Option, Some, None, true, is_some, unwrap_or, length, get_or}
use Rattle.std.specs.FinMap.{get}
use Rattle.geos_model.specs.Heap.{capacity, handle_of}
use Rattle.lmem_heap.specs.Placed.{Placed}
use Rattle.lmem_heap.specs.Stored.{Stored}
use Rattle.lmem_heap.specs.declared.found.FoundChunk.{FoundChunk}
use Rattle.lmem_heap.specs.declared.space.Run.{Run}

-- its handle
abbrev pub handle_found : FoundChunk → ℕ
handle_found found = handle_of found.slot

-- there is a chunk, of the size of the run, and where it has bytes they lie there
pub record IsFound (chunk : Option (List ℕ)) (place : Option ℕ) (run : Run) : Type 0 where
  pub live : is_some chunk ≡ true
  pub size : run.size ≡ length (unwrap_or chunk [])
  pub ends : run.from + run.size ≤ capacity
  pub lies : 0 < run.size → place ≡ Some run.from

-- so of a table
abbrev pub IsFoundAt : Stored → FoundChunk → Type 0
IsFoundAt m found = IsFound (get_or m.chunks found.slot None) (get_or m.offsets found.slot None) found.run

-- and of a heap
abbrev pub IsFoundIn : Placed → FoundChunk → Type 0
IsFoundIn p found = IsFound (get p.chunks (handle_found found)) (get p.places (handle_found found)) found.run

-- What a table of chunks is to its callers.
use Rattle.std.specs.Prelude.{◌≡◌, ◌≢◌, ℕ, ◌+◌, ◌*◌, ◌≤◌, ◌⊎◌, List, [], Option, None, IfSome, map, length, get_or, unwrap_or, slice_range}
use Rattle.std.specs.List.{range_with_len}
use Rattle.geos_model.specs.Heap.{space_of}
use Rattle.lmem_heap.specs.Pieces.{entry}
use Rattle.lmem_heap.specs.Tiled.{chunks_in, offset_under}
use Rattle.lmem_heap.specs.Space.{IsWellFormed}
use Rattle.heap_images.specs.Slots.{space_in}
use Rattle.lmem_heap.specs.declared.space.Space.{Space}

-- where the bytes of the chunks of t slots lie
unfoldable pub offsets_in : List ℕ → ℕ → List (Option ℕ)
offsets_in xs t = map (λ i. offset_under (entry xs i)) (range_with_len 0 t)

-- the chunk of each slot, and where its bytes lie
pub record Stored : Type 0 where
  pub chunks : List (Option (List ℕ))
  pub offsets : List (Option ℕ)

-- what a region shows, with t slots
abbrev pub store_of : List ℕ → ℕ → Stored
store_of xs t = record { chunks = chunks_in xs t; offsets = offsets_in xs t }

-- what a table keeps: its space, with a count of what the chunks take
pub record IsStoredHeap (s : Space) : Type 0 where
  pub well_formed : IsWellFormed s
  pub count : s.total ≡ space_in (chunks_in s.region s.slots)

-- chunks that take so much lie at the end of the region: none begins before its last so many bytes
abbrev pub AreLast : List (Option ℕ) → ℕ → Type 0
AreLast offsets space = (i : ℕ) → IfSome (get_or offsets i None) (λ at. 65522 ≤ at + space)

-- two chunks lie apart, each in the space that it takes: their bytes begin at `a` and `b`
abbrev pub IsChunkApart : ℕ → List ℕ → ℕ → List ℕ → Type 0
IsChunkApart a bytes b others = (a + space_of (length bytes) ≤ b) ⊎ (b + space_of (length others) ≤ a)

abbrev pub AreStoredDisjoint : Stored → Type 0
AreStoredDisjoint m =
    (i j : ℕ) → i ≢ j → IfSome (get_or m.offsets i None) (λ a. IfSome (get_or m.offsets j None) (λ b.
    IsChunkApart a (unwrap_or (get_or m.chunks i None) []) b (unwrap_or (get_or m.chunks j None) [])))

-- and behind the words of all slots
abbrev pub AreBehind : Stored → Type 0
AreBehind m = (i : ℕ) → IfSome (get_or m.offsets i None) (λ at. 18 + 2 * length m.chunks ≤ at)

-- the region has each chunk's bytes where they lie
abbrev pub StoredHoldsChunks : List ℕ → Stored → Type 0
StoredHoldsChunks xs m =
    (i : ℕ) → IfSome (get_or m.offsets i None)
    (λ at. let bytes = unwrap_or (get_or m.chunks i None) [] in slice_range xs at (at + length bytes) ≡ bytes)

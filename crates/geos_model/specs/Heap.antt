-- A heap is a finite map from chunk handles to bytes.
use Rattle.std.specs.Prelude.{ℕ, List, [], ◌+◌, ◌*◌, ◌/◌, ◌-◌, ◌%◌, Bool, false, not, ◌==◌, ◌&&◌, nat_le, max, length, map, if◌then◌else◌, Option, find, unwrap_or, sum_by, fold}
use Rattle.std.specs.List.{range_with_len, list_all}
use Rattle.std.specs.Ordering.{nat_cmp}
use Rattle.std.specs.Option.{option_map_or}
use Rattle.std.specs.FinMap.{FinMap, entries, keys, get, insert, contains_key}
use Rattle.geos_model.specs.declared.limit.TheConstants.{CAPACITY, LONGEST_CHUNK}

abbrev pub ChunkMap : Type 0
ChunkMap = FinMap nat_cmp (List ℕ)

-- how many chunks a heap can have: so many table entries fill it
abbrev pub most_chunks : ℕ
most_chunks = 32752

-- a chunk handle is the offset of a table entry, of two bytes each, behind a header of 16 bytes
abbrev pub handle_of : ℕ → ℕ
handle_of i = 16 + 2 * i

-- every chunk handle, rising
unfoldable pub chunk_handles : List ℕ
chunk_handles = map handle_of (range_with_len 0 most_chunks)

unfoldable pub is_chunk_handle : ℕ → Bool
is_chunk_handle h = nat_le 16 h && nat_le h 0xFFEE && (h % 2 == 0)

-- what a chunk of n bytes takes: its bytes and a word before them, in whole double words; an empty one takes nothing
abbrev pub space_of : ℕ → ℕ
space_of n = if n == 0 then 0 else 4 * ((n + 5) / 4)

-- which table entry a chunk handle is, from 1 on
abbrev pub entry_of : ℕ → ℕ
entry_of h = (h - 14) / 2

-- table entries up to the greatest of these handles
unfoldable pub table_len : List ℕ → ℕ
table_len handles = fold (λ t h. max t (entry_of h)) 0 handles

-- bytes that a heap needs: a header, the table in whole double words, and the chunks
unfoldable pub need : ChunkMap → ℕ
need m = 16 + 4 * ((table_len (keys m) + 1) / 2) + sum_by (λ c. space_of (length c.1)) (entries m)

-- how many bytes a heap, or a raw body, has room for
abbrev pub capacity : ℕ
capacity = CAPACITY

-- the bytes of the greatest chunk: alone in a heap, it fills it
abbrev pub longest_chunk : ℕ
longest_chunk = LONGEST_CHUNK

unfoldable pub fits : ChunkMap → Bool
fits m = nat_le (need m) capacity

-- a heap that can be: its chunks are under chunk handles, and it fits
unfoldable pub is_heap_map : ChunkMap → Bool
is_heap_map m = list_all is_chunk_handle (keys m) && fits m

-- the least chunk handle that isn't live
unfoldable pub next_chunk : ChunkMap → Option ℕ
next_chunk m = find (λ h. not (contains_key m h)) chunk_handles

-- a chunk's bytes, none where there is no such chunk
abbrev pub chunk_bytes : ChunkMap → ℕ → List ℕ
chunk_bytes m h = unwrap_or (get m h) []

-- the heap with these bytes under this handle fits
unfoldable pub fits_with : ChunkMap → ℕ → List ℕ → Bool
fits_with m h bytes = fits (insert m h bytes)

-- there is a handle for a new chunk, and room for its bytes
unfoldable pub fits_new : ChunkMap → List ℕ → Bool
fits_new m bytes = option_map_or (λ h. fits_with m h bytes) (next_chunk m) false

-- The table of a heap's image, and the line of the heap.
use Rattle.std.specs.Prelude.{ℕ, ◌+◌, ◌-◌, ◌*◌, ◌/◌, ◌==◌, Bool, not, nat_lt, min, List, [], ◌∷◌, ◌++◌, map, take, drop, length, replicate, count_by, sum_by, codes, if◌then◌else◌}
use Rattle.std.specs.List.{range_with_len, flat_map}
use Rattle.file_format.specs.File.{bytes_in}
use Rattle.geos_model.specs.Heap.{capacity, most_chunks, space_of}
use Rattle.geos_model.specs.Image.{no_chunk}
use Rattle.geos_model.specs.Script.{four_digits, line_feed}
use Rattle.geos_model.specs.Words.{word_at}
use Rattle.geos_model.specs.declared.handle.VmHandle.{VmHandle}
use Rattle.file_map.specs.Lines.{numbered, padded}
use Rattle.file_map.specs.Parts.{is_heap_part}
use Rattle.file_map.specs.declared.part.Part.{Part}
use Rattle.file_map.specs.declared.part.Users.{Users}
use Rattle.file_map.specs.declared.part.Users.TheVariants.{Updated, Saved, Both}

-- The table: behind the kind and the table's length a word for each entry, the size of its chunk.

abbrev pub table_bytes : List ℕ → List ℕ
table_bytes image = if nat_lt (length image) 3 then [] else take (2 * min (word_at image 1) most_chunks) (drop 3 image)

abbrev pub sizes : List ℕ → List ℕ
sizes image = map (λ i. word_at (table_bytes image) (2 * i)) (range_with_len 0 (length (table_bytes image) / 2))

abbrev pub is_chunk_size : ℕ → Bool
is_chunk_size size = not (size == no_chunk)

-- What a heap with such a table needs: a header and the table, and room for its chunks.

abbrev pub chunk_space : ℕ → ℕ
chunk_space size = if is_chunk_size size then space_of size else 0

abbrev pub header : List ℕ → ℕ
header table = 16 + 4 * ((length table + 1) / 2)

abbrev pub used_bytes : List ℕ → ℕ
used_bytes table = header table + sum_by chunk_space table

-- The line: a bar of 32 cells, each for 2,048 bytes, and numbers.

abbrev pub cells : ℕ → ℕ
cells bytes = min ((bytes + 2047) / 2048) 32

abbrev pub bar : ℕ → ℕ → List ℕ
bar first all = replicate (cells first) 116 ++ replicate (cells all - cells first) 35 ++ replicate (32 - cells all) 46

abbrev pub users_name : Users → List ℕ
users_name Updated = codes "updated"
users_name Saved = codes "saved  "
users_name Both = codes "both   "

-- how many chunks there are, entries of the table without one, bytes used and free
abbrev pub heap_columns : ℕ → ℕ → ℕ → List ℕ
heap_columns live entries bytes =
    padded 7 live ++ padded 7 (entries - live) ++ padded 7 bytes ++ padded 7 (capacity - bytes) ++ line_feed ∷ []

abbrev pub line_start : VmHandle → Users → List ℕ
line_start h u = four_digits h.0 ++ codes " " ++ users_name u ++ codes " ["

abbrev pub heap_line : VmHandle → Users → List ℕ → List ℕ
heap_line h u table =
    line_start h u ++ bar (header table) (used_bytes table) ++ codes "]"
    ++ heap_columns (count_by is_chunk_size table) (length table) (used_bytes table)

-- the same numbers in words
abbrev pub counts_text : ℕ → ℕ → List ℕ
counts_text live entries = numbered (codes " chunks ") live ++ numbered (codes ", unused handles ") (entries - live)

abbrev pub bytes_text : ℕ → List ℕ
bytes_text bytes = numbered (codes ", bytes used ") bytes ++ numbered (codes ", free ") (capacity - bytes)

abbrev pub heap_numbers : List ℕ → List ℕ
heap_numbers table = counts_text (count_by is_chunk_size table) (length table) ++ bytes_text (used_bytes table)

-- the line of a part that is a heap
abbrev pub line_of : List ℕ → Part → List ℕ
line_of file p = if is_heap_part p then heap_line p.block p.users (sizes (bytes_in file p.extent)) else []

-- one line a heap, in their order
abbrev pub heap_lines : List ℕ → List Part → List ℕ
heap_lines file ps = flat_map (line_of file) ps

-- What a table ends as, once a `&mut` to the bytes of a chunk has ended.
use Rattle.std.specs.Prelude.{ℕ, List, [], Some, None, set, get_or, unwrap_or}
use Rattle.std.specs.Borrow.{Lends, MutBor, Fml, Array, u8}
use Rattle.raw_region.specs.Bytes.{put}
use Rattle.lmem_heap.specs.Stored.{Stored}
use Rattle.lmem_heap.specs.contracts.table.ChunkTable.{the_row}

-- the table with bytes written over a chunk's
abbrev pub with_table_chunk : Stored → ℕ → List ℕ → Stored
with_table_chunk m i bytes =
    record { chunks = set m.chunks i (Some (put (unwrap_or (get_or m.chunks i None) []) 0 bytes)); offsets = m.offsets }

abbrev pub lends_table_chunk : MutBor Stored → ℕ → MutBor (List ℕ) → Fml
lends_table_chunk t i chunk = Lends the_row (Array u8 0) t chunk (with_table_chunk t.now i)

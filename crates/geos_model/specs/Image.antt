-- A body as the bytes that a file keeps.
use Rattle.std.specs.Prelude.{ℕ, List, [], ◌∷◌, ◌++◌, ◌+◌, ◌*◌, ◌==◌, ◌&&◌, length, map, take, drop, slice_index, if◌then◌else◌, Option, Some, None}
use Rattle.std.specs.List.{range_with_len, flat_map}
use Rattle.std.specs.Option.{option_map_or}
use Rattle.std.specs.FinMap.{get, keys, values, from_entries}
use Rattle.geos_model.specs.Bytes.{same_bytes}
use Rattle.geos_model.specs.Words.{word, word_at}
use Rattle.geos_model.specs.Heap.{ChunkMap, table_len, handle_of}
use Rattle.geos_model.specs.Document.{is_valid_body}
use Rattle.geos_model.specs.declared.command.Body.{Body}
use Rattle.geos_model.specs.declared.command.Body.TheVariants.{Raw, Heap}

-- in a heap's image, the size of a chunk that isn't live
abbrev pub no_chunk : ℕ
no_chunk = 0xFFFF

-- the handles of the entries of a table this long
abbrev pub handles_to : ℕ → List ℕ
handles_to t = map handle_of (range_with_len 0 t)

-- the size of the chunk under a handle, as a table of sizes has it
abbrev pub size_word : ChunkMap → ℕ → List ℕ
size_word m h = word (option_map_or length (get m h) no_chunk)

-- Of a raw body: 0 and its bytes. Of a heap: 1, the length of the table, the size of each chunk, the chunks' bytes.
unfoldable pub image : Body → List ℕ
image (Raw bytes) = 0 ∷ bytes
image (Heap m) =
    let t = table_len (keys m) in
    1 ∷ word t ++ flat_map (size_word m) (handles_to t) ++ flat_map (λ bytes. bytes) (values m)

-- Reading an image back, where bytes are kept in place of a body. That it gives back what `image` wrote is a law.

-- the chunks of a table of sizes, from a handle on, with their bytes one after another
abbrev pub chunks_read : ℕ → List ℕ → List ℕ → List (ℕ × List ℕ)
chunks_read h [] bytes = []
chunks_read h (size ∷ sizes) bytes =
    if size == no_chunk then chunks_read (h + 2) sizes bytes
    else (h, take size bytes) ∷ chunks_read (h + 2) sizes (drop size bytes)

-- the body that an image is of
unfoldable pub body_read : List ℕ → Body
body_read bytes =
    if slice_index bytes 0 == 0 then Raw (drop 1 bytes)
    else
    let t = word_at bytes 1 in
    Heap (from_entries (
    chunks_read (handle_of 0) (map (λ i. word_at bytes (3 + 2 * i)) (range_with_len 0 t)) (drop (3 + 2 * t) bytes)))

-- the body whose image these bytes are, if they are the image of a body that can be
unfoldable pub body_of : List ℕ → Option Body
body_of bytes =
    let body = body_read bytes in if is_valid_body body && same_bytes (image body) bytes then Some body else None

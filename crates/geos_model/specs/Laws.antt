-- Laws of the definitions.
use Rattle.std.specs.Prelude.{◌≡◌, ◌+◌, ◌*◌, ◌^◌, ◌<◌, ◌≤◌, ℕ, List, [], ◌∷◌, ◌++◌, All, true, Some, length}
use Rattle.std.specs.FinMap.{get, empty}
use Rattle.byteorder.specs.Endian.{little_bytes, little_number}
use Rattle.geos_model.specs.Words.{word}
use Rattle.geos_model.specs.Array.{Array, array_bytes, array_of, is_even}
use Rattle.geos_model.specs.ElementArray.{Slots, is_sound, element_bytes, element_array_of}
use Rattle.geos_model.specs.NameArray.{NameArray, is_sound_names, name_bytes, name_array_of}
use Rattle.geos_model.specs.Heap.{ChunkMap, capacity, is_heap_map, fits_new, longest_chunk}
use Rattle.geos_model.specs.Document.{Document, IsValid, is_valid_body}
use Rattle.geos_model.specs.Meaning.{chunk_at}
use Rattle.geos_model.specs.Image.{image, body_read}
use Rattle.geos_model.specs.declared.command.Body.{Body}

-- Any two bytes are the word of one number below 65,536, and of no other.
abbrev pub WordLaw : Type 0
WordLaw =
    (low high : ℕ) → low < 256 → high < 256
    → (word (low + 256 * high) ≡ low ∷ high ∷ [])
    × ((n : ℕ) → n < 65536 → word n ≡ low ∷ high ∷ [] → n ≡ low + 256 * high)

-- So it is of k bytes, as of the three of a count of references and the four or eight of a number in a file: numbers
-- below 256 to the k are read back from their bytes, so that no two have the same, and any bytes are those of the
-- number read from them.
pub record NumberLaw : Type 0 where
  pub read_back : (k n : ℕ) (rest : List ℕ) → n < 256 ^ k → little_number k (little_bytes k n ++ rest) ≡ n
  pub in_range : (bytes : List ℕ) → All (λ b. b < 256) bytes → little_number (length bytes) bytes < 256 ^ length bytes
  pub written_back : (bytes : List ℕ) → All (λ b. b < 256) bytes
      → little_bytes (length bytes) (little_number (length bytes) bytes) ≡ bytes

-- No chunk of a heap is longer than `longest_chunk`, nor is one of a valid document, and one that isn't has room alone
-- in a heap.
pub record ChunkLaw : Type 0 where
  pub in_heap : (m : ChunkMap) (h : ℕ) (bytes : List ℕ) → is_heap_map m ≡ true → get m h ≡ Some bytes
      → length bytes ≤ longest_chunk
  pub in_document : (d : Document) (b c : ℕ) → IsValid d → length (chunk_at d b c) ≤ longest_chunk
  pub alone : (bytes : List ℕ) → length bytes ≤ longest_chunk → fits_new empty bytes ≡ true

-- No two bodies have the same image, an image is read back as its body, and it has at most 65,521 bytes.
abbrev pub ImageLaw : Type 0
ImageLaw =
    ((a b : Body) → is_valid_body a ≡ true → is_valid_body b ≡ true → image a ≡ image b → a ≡ b)
    × ((b : Body) → is_valid_body b ≡ true → body_read (image b) ≡ b)
    × ((b : Body) → is_valid_body b ≡ true → length (image b) ≤ capacity + 1)

-- What is read as an array is the bytes of that one, and one that isn't too long is read back from its bytes.
abbrev pub ArrayLaw : Type 0
ArrayLaw =
    ((bytes : List ℕ) (a : Array) → array_of bytes ≡ Some a → (is_even a ≡ true) × (array_bytes a ≡ bytes))
    × ((a : Array) → is_even a ≡ true → length (array_bytes a) < 65536 → array_of (array_bytes a) ≡ Some a)

-- So it is of element arrays, and of name arrays.
abbrev pub ElementArrayLaw : Type 0
ElementArrayLaw =
    ((bytes : List ℕ) (s : Slots) → element_array_of bytes ≡ Some s → (is_sound s ≡ true) × (element_bytes s ≡ bytes))
    × ((s : Slots) → is_sound s ≡ true → length (element_bytes s) < 65536 → element_array_of (element_bytes s) ≡ Some s)

abbrev pub NameArrayLaw : Type 0
NameArrayLaw =
    ((bytes : List ℕ) (a : NameArray) →
    name_array_of bytes ≡ Some a → (is_sound_names a ≡ true) × (name_bytes a ≡ bytes))
    × ((a : NameArray) →
    is_sound_names a ≡ true → length (name_bytes a) < 65536 → name_array_of (name_bytes a) ≡ Some a)

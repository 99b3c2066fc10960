-- A chunk array: some extra bytes, and elements of one size or of any.
use Rattle.std.specs.Prelude.{ℕ, List, [], ◌∷◌, ◌++◌, ◌+◌, ◌*◌, ◌-◌, zero, suc, Bool, ◌==◌, ◌&&◌, ◌||◌, nat_lt, length, map, take, drop, if◌then◌else◌, Option, Some, None}
use Rattle.std.specs.List.{flat_map, list_all, range_with_len}
use Rattle.geos_model.specs.Bytes.{same_bytes}
use Rattle.geos_model.specs.Words.{word, word_at}

pub record Array : Type 0 where
  pub extra : List ℕ
  pub size : ℕ  -- of each element in bytes, 0 where they vary
  pub elements : List (List ℕ)

-- where elements begin that lie one after another from a place on
abbrev pub places_from : ℕ → List (List ℕ) → List ℕ
places_from at [] = []
places_from at (x ∷ xs) = at ∷ places_from (at + length x) xs

-- the table of places where sizes vary, itself at a place
abbrev pub place_table : ℕ → Array → List ℕ
place_table at a = if a.size == 0 then flat_map word (places_from (at + 2 * length a.elements) a.elements) else []

-- where the extra bytes end
abbrev pub array_start : Array → ℕ
array_start a = 8 + length a.extra

-- a header of four words, the extra bytes, the table of places, the elements
unfoldable pub array_bytes : Array → List ℕ
array_bytes a =
    word (length a.elements) ++ word a.size ++ word 0 ++ word (array_start a)
    ++ a.extra ++ place_table (array_start a) a ++ flat_map (λ x. x) a.elements

-- each element has the array's size, which a word can hold
abbrev pub is_even : Array → Bool
is_even a = nat_lt a.size 65536 && (a.size == 0 || list_all (λ x. length x == a.size) a.elements)

-- bytes cut where elements begin, the last one going to the end
abbrev pub cut_at : List ℕ → List ℕ → List (List ℕ)
cut_at [] bytes = []
cut_at (at ∷ []) bytes = drop at bytes ∷ []
cut_at (at ∷ next ∷ places) bytes = take (next - at) (drop at bytes) ∷ cut_at (next ∷ places) bytes

-- so many pieces of one size
abbrev pub cut_evenly : ℕ → ℕ → List ℕ → List (List ℕ)
cut_evenly zero size bytes = []
cut_evenly (suc count) size bytes = take size bytes ∷ cut_evenly count size (drop size bytes)

-- the array that bytes would be if they were one
abbrev pub array_read : List ℕ → Array
array_read bytes =
    let count = word_at bytes 0 in
    let size = word_at bytes 2 in
    let start = word_at bytes 6 in
    record {
      extra = drop 8 (take start bytes);
      size = size;
      elements = if size == 0
          then cut_at (map (λ i. word_at bytes (start + 2 * i)) (range_with_len 0 count)) bytes
          else cut_evenly count size (drop start bytes);
    }

-- Bytes are an array where they are the bytes of one: what is read must write the same bytes.
unfoldable pub array_of : List ℕ → Option Array
array_of bytes = let a = array_read bytes in if is_even a && same_bytes (array_bytes a) bytes then Some a else None

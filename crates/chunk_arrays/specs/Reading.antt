-- Where the elements of an array lie in its bytes.
use Rattle.std.specs.Prelude.{◌≢◌, ◌≤◌, ◌<◌, ℕ, List, [], Bool, ◌+◌, ◌-◌, ◌*◌, ◌==◌, ◌&&◌, if◌then◌else◌, length, get_or, nat_le, nat_lt, take}
use Rattle.std.specs.List.{flat_map}
use Rattle.geos_model.specs.Words.{word, word_at}
use Rattle.geos_model.specs.Array.{Array, array_start, places_from}

-- where the elements begin
abbrev pub elements_start : Array → ℕ
elements_start a = array_start a + (if a.size == 0 then 2 * length a.elements else 0)

-- where an element begins, or where the last one ends
abbrev pub element_place : Array → ℕ → ℕ
element_place a i = elements_start a + length (flat_map (λ x. x) (take i a.elements))

-- where elements begin that lie one after another from a place on, as words
abbrev pub words_from : ℕ → List (List ℕ) → List ℕ
words_from at xs = flat_map word (places_from at xs)

-- whether a header says that all elements have one size
abbrev pub has_one_size : List ℕ → Bool
has_one_size bytes = nat_le 4 (length bytes) && nat_lt 0 (word_at bytes 2)

-- of the elements from one up to another none with bytes ends in this one
abbrev pub NoneEnds : Array → ℕ → ℕ → ℕ → Type 0
NoneEnds a from to byte = (k : ℕ) → from ≤ k → k < to → 0 < length (get_or a.elements k [])
    → get_or (get_or a.elements k []) (length (get_or a.elements k []) - 1) 0 ≢ byte

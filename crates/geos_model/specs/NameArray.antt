-- A name array: an element array whose elements are a part of one size and a name.
use Rattle.std.specs.Prelude.{ℕ, List, Bool, true, ◌==◌, ◌&&◌, nat_le, length, take, drop, if◌then◌else◌, Option, Some, None}
use Rattle.std.specs.List.{list_all}
use Rattle.std.specs.Option.{option_and_then, option_map_or}
use Rattle.geos_model.specs.Words.{word, word_at}
use Rattle.geos_model.specs.Array.{Array, array_bytes, array_of}
use Rattle.geos_model.specs.ElementArray.{Element, Slots, slots_array, slots_of, is_sound}

pub record NameArray : Type 0 where
  pub part : ℕ  -- bytes before each name
  pub names : Slots  -- the bytes of each element are its part and its name

abbrev pub part_of : NameArray → Element → List ℕ
part_of a e = take a.part e.bytes

abbrev pub text_of : NameArray → Element → List ℕ
text_of a e = drop a.part e.bytes

-- a name has 1 to 256 bytes
abbrev pub is_name : List ℕ → Bool
is_name text = nat_le 1 (length text) && nat_le (length text) 256

abbrev pub is_named : ℕ → Option Element → Bool
is_named part slot = option_map_or (λ e. nat_le part (length e.bytes) && is_name (drop part e.bytes)) slot true

-- parts have at most 64 bytes, and each element has a name behind its part
unfoldable pub is_sound_names : NameArray → Bool
is_sound_names a = is_sound a.names && a.names.size == 0 && nat_le a.part 64 && list_all (is_named a.part) a.names.slots

-- as extra bytes, the newest free token and the size of a part
unfoldable pub name_bytes : NameArray → List ℕ
name_bytes a = array_bytes (slots_array (word a.part) a.names)

abbrev pub names_read : Array → Slots → NameArray
names_read a s = record { part = word_at a.extra 2; names = s }

abbrev pub names_of : Array → Option NameArray
names_of a =
    option_and_then (λ s. if is_sound_names (names_read a s) then Some (names_read a s) else None) (slots_of 4 a)

-- bytes are a name array where they are a chunk array of such slots
unfoldable pub name_array_of : List ℕ → Option NameArray
name_array_of bytes = option_and_then names_of (array_of bytes)

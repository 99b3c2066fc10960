-- What the elements of an array must be so that it is one of slots.
use Rattle.std.specs.Prelude.{◌≡◌, ◌≤◌, ◌<◌, ℕ, List, [], zero, suc, ◌+◌, ◌==◌, ◌&&◌, Bool, true, false, nat_lt, nat_le, length, drop, get_or, if◌then◌else◌, Option, None, is_some}
use Rattle.std.specs.List.{list_all}
use Rattle.std.specs.Option.{option_map_or}
use Rattle.byteorder.specs.Endian.{little_number}
use Rattle.geos_model.specs.Bytes.{same_bytes}
use Rattle.geos_model.specs.Words.{word_at}
use Rattle.geos_model.specs.Array.{Array}
use Rattle.geos_model.specs.ElementArray.{Element, no_token, slot_read, slots_of, slots_read}

-- the bytes of a free element
abbrev pub is_freed : List ℕ → Bool
is_freed bytes = get_or bytes 2 0 == 0xFF

-- an element of so many bytes behind its first three, 0 where sizes vary: a free one has zeros there, a used one is
-- counted
abbrev pub is_slot : ℕ → List ℕ → Bool
is_slot size bytes =
    nat_le 3 (length bytes) && (
    if is_freed bytes then length bytes == size + 3 && list_all (λ b. b == 0) (drop 3 bytes)
    else nat_le 1 (little_number 3 bytes))

-- a used element of so many bytes at least and at most
abbrev pub has_length : ℕ → ℕ → Option Element → Bool
has_length least most slot =
    option_map_or (λ e. nat_le least (length e.bytes) && nat_le (length e.bytes) most) slot true

-- a used element with these bytes behind its first ones
abbrev pub has_bytes : ℕ → List ℕ → Option Element → Bool
has_bytes skip bytes slot = option_map_or (λ e. same_bytes (drop skip e.bytes) bytes) slot false

-- none of the slots from one up to another has these bytes, behind however many
abbrev pub NoneHas : List (Option Element) → ℕ → ℕ → List ℕ → Type 0
NoneHas slots from to bytes = (k : ℕ) → from ≤ k → k < to → (skip : ℕ) → has_bytes skip bytes (get_or slots k None) ≡ false

abbrev pub is_slot_within : ℕ → ℕ → ℕ → List ℕ → Bool
is_slot_within size least most bytes = is_slot size bytes && has_length least most (slot_read bytes)

-- an array of slots, with used elements of so many bytes at least and at most
abbrev pub are_slots_within : ℕ → ℕ → ℕ → Array → Bool
are_slots_within extra least most a =
    is_some (slots_of extra a) && list_all (has_length least most) (slots_read a).slots

-- the token of a free element
abbrev pub is_freed_at : List (List ℕ) → ℕ → Bool
is_freed_at elements t = nat_lt t (length elements) && is_freed (get_or elements t [])

-- from one token on, so many links lead over free elements to the end
abbrev pub is_walk : ℕ → List (List ℕ) → ℕ → Bool
is_walk zero elements t = t == no_token
is_walk (suc steps) elements t = is_freed_at elements t && is_walk steps elements (word_at (get_or elements t []) 0)

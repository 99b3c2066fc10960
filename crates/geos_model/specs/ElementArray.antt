-- An element array: elements under tokens, each with a count of references, and the tokens that are free again.
use Rattle.std.specs.Prelude.{ℕ, List, [], ◌∷◌, ◌++◌, ◌+◌, ◌-◌, zero, suc, Bool, true, not, ◌==◌, ◌&&◌, ◌||◌, nat_le, nat_lt, length, map, drop, replicate, get_or, is_none, if◌then◌else◌, Option, Some, None}
use Rattle.std.specs.List.{list_all, list_any, count_by, enumerate_from}
use Rattle.std.specs.Option.{option_and_then}
use Rattle.byteorder.specs.Endian.{little_bytes, little_number}
use lib.Pointwise.{pointwise}
use Rattle.geos_model.specs.Bytes.{same_bytes}
use Rattle.geos_model.specs.Words.{word, word_at}
use Rattle.geos_model.specs.Array.{Array, array_bytes, array_of}

-- a used element
pub record Element : Type 0 where
  pub count : ℕ  -- of references
  pub bytes : List ℕ

-- what an element array and a name array have in common
pub record Slots : Type 0 where
  pub size : ℕ  -- of each element's bytes, 0 where sizes vary
  pub slots : List (Option Element)  -- by token; None is a free one
  pub free : List ℕ  -- the free tokens, the newest first

abbrev pub no_token : ℕ
no_token = 0xFFFF

abbrev pub greatest_count : ℕ
greatest_count = 0xFEFFFF

-- of each element's bytes, where they have one size: with the count's three it fits a word
abbrev pub greatest_size : ℕ
greatest_size = 0xFFFC

abbrev pub first_token : List ℕ → ℕ
first_token [] = no_token
first_token (t ∷ ts) = t

-- the free token after this one
abbrev pub token_after : List ℕ → ℕ → ℕ
token_after [] t = no_token
token_after (x ∷ xs) t = if x == t then first_token xs else token_after xs t

-- A used element is its count in three bytes and its bytes. A free one is the free token after it, 0xFF, and zeros
-- where sizes are fixed.
abbrev pub slot_bytes : Slots → ℕ → Option Element → List ℕ
slot_bytes s token (Some e) = little_bytes 3 e.count ++ e.bytes
slot_bytes s token None = word (token_after s.free token) ++ 0xFF ∷ replicate s.size 0

-- Slots as a chunk array: its extra bytes are the newest free token and what else this kind of array keeps there.
unfoldable pub slots_array : List ℕ → Slots → Array
slots_array more s = record {
  extra = word (first_token s.free) ++ more;
  size = if s.size == 0 then 0 else s.size + 3;
  elements = map (λ x. slot_bytes s x.0 x.1) (enumerate_from 0 s.slots);
}

-- the slot of a token
abbrev pub element_at : Slots → ℕ → Option Element
element_at s t = get_or s.slots t None

abbrev pub is_free : Slots → ℕ → Bool
is_free s t = nat_lt t (length s.slots) && is_none (element_at s t)

abbrev pub all_distinct : List ℕ → Bool
all_distinct [] = true
all_distinct (x ∷ xs) = not (list_any (λ y. x == y) xs) && all_distinct xs

abbrev pub is_good_slot : ℕ → Option Element → Bool
is_good_slot size None = true
is_good_slot size (Some e) = nat_le 1 e.count && nat_le e.count greatest_count && (size == 0 || length e.bytes == size)

-- counts and sizes are in bounds, and the free list has each free token once and no other
unfoldable pub is_sound : Slots → Bool
is_sound s =
    nat_le s.size greatest_size && list_all (is_good_slot s.size) s.slots && list_all (is_free s) s.free
    && all_distinct s.free
    && (length s.free == count_by is_none s.slots)

-- the slot that an element's bytes would be
abbrev pub slot_read : List ℕ → Option Element
slot_read bytes =
    if get_or bytes 2 0 == 0xFF then None else Some (record { count = little_number 3 bytes; bytes = drop 3 bytes })

-- the free tokens from one on, no more than so many
abbrev pub free_read : ℕ → List (List ℕ) → ℕ → List ℕ
free_read zero elements token = []
free_read (suc most) elements token =
    if nat_lt token (length elements) then token ∷ free_read most elements (word_at (get_or elements token []) 0)
    else []

abbrev pub slots_read : Array → Slots
slots_read a = record {
  size = a.size - 3;
  slots = map slot_read a.elements;
  free = free_read (length a.elements) a.elements (word_at a.extra 0);
}

abbrev pub same_array : Array → Array → Bool
same_array a b = same_bytes a.extra b.extra && a.size == b.size && pointwise same_bytes a.elements b.elements

-- An array is one of slots, with so many extra bytes, where it is that of some: what is read must give the same array
-- again.
unfoldable pub slots_of : ℕ → Array → Option Slots
slots_of extra a =
    let s = slots_read a in
    if length a.extra == extra && is_sound s && same_array (slots_array (drop 2 a.extra) s) a then Some s else None

unfoldable pub element_bytes : Slots → List ℕ
element_bytes s = array_bytes (slots_array [] s)

-- bytes are an element array where they are a chunk array of slots, with the newest free token alone as extra bytes
unfoldable pub element_array_of : List ℕ → Option Slots
element_array_of bytes = option_and_then (slots_of 2) (array_of bytes)
